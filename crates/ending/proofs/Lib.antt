-- What the proofs of several functions use.
mod Pieces
mod AnswerText
