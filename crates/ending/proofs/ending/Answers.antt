-- Search's answer, and its text. Assumes nothing.
use Rattle.ending.proofs.AnswerText.{listed, shown}
use Rattle.ending.proofs.ending.Goals as goal

pub put_answer-requires-clause-listed : goal.put_answer-requires-clause-listed
put_answer-requires-clause-listed c =
    listed _ _ c.search-answer.ensures c.requires.list_len c.search-answer.auto.list

pub returns : goal.returns
returns c =
    shown _ _ c.search-answer.ensures c.requires.list_len c.requires.work_len c.requires.text_len
    c.put_answer.ensures.0 c.put_answer.ensures.1
