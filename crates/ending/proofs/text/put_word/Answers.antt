-- The bytes before, the word, and the bytes behind it. Assumes nothing.
use Rattle.std.proofs.Common.{arith, refl, sym, ap, ◌≡◌, ◌+◌, ◌-◌, ◌∙◌, List, ◌++◌, ℕ, take, drop, length, append_assoc}
use Rattle.std.proofs.lemmas.List.{drop-drop}
use Rattle.std.proofs.lemmas.List.Edits.{sets-eq}
use Rattle.ending.proofs.text.put_word.Goals as goal

pub returns : goal.returns
returns c =
    let at = c.args.at in
    let word = c.args.word.now in
    let text = c.args.text.now in
    let size : at + length word - at ≡ length word = omega arith in
    record { ends = refl; written = rw (c.copy_from_slice.ensures.after, size) (sym (sets-eq word text at c.requires ∙ ap (λ (rest : List ℕ). take at text ++ word ++ rest) (sym (drop-drop (length word) at text)) ∙ append_assoc (take at text) word (drop (length word) (drop at text)))) }
