use Rattle.std.proofs.Common.{sym, ap, ◌∙◌}
use Rattle.yq_core.{specs.Nodes.begins_with, specs.Text.front, specs.Runs.is_word_byte}
use Rattle.yq_rows.proofs.word_keys.any_key.Goals as goal

pub word_key-requires-clause-word : goal.word_key-requires-clause-word
word_key-requires-clause-word c = ap (front is_word_byte) (sym c.as_bytes.ensures.value) ∙ (sym c.begins_word.ensures ∙ c.if-begins_word.true)

pub quoted_key-requires : goal.quoted_key-requires
quoted_key-requires c = ap (begins_with 34) (sym c.as_bytes-2.ensures.value) ∙ (sym c.first_is.ensures ∙ c.if-first_is.true)
