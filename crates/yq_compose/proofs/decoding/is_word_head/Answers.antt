use Rattle.std.{proofs.Common.{sym, ap, ◌∙◌}, proofs.lemmas.Bool.leb-true}
use Rattle.yq_core.{specs.Text.front, specs.Runs.is_word_byte}
use Rattle.yq_compose.proofs.WordHeads.{word_borrowed}
use Rattle.yq_compose.proofs.decoding.is_word_head.Goals as goal

pub returns-then-begins_word : goal.returns-then-begins_word
returns-then-begins_word c = λ yes.
    word_borrowed c.args.head.now c.requires.0 c.args.text.now c.run_len.result (ap (front is_word_byte) (sym c.as_bytes.ensures.value) ∙ (sym c.begins_word.ensures ∙ c.if-begins_word.true)) c.requires.1
    (rw c.as_bytes-then-begins_word.ensures.value at c.run_len.ensures.value) (leb-true _ _ yes)
