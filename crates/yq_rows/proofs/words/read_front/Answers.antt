use Rattle.std.proofs.Common.{Some, ap, sym, ◌∙◌}
use Rattle.yq_core.{specs.Runs.is_word_byte, specs.Text.front}
use Rattle.yq_row_table.proofs.WordFronts.{word_at}
use Rattle.yq_rows.proofs.words.read_front.Goals as goal

pub returns-then-begins_word-clause-read : goal.returns-then-begins_word-clause-read
returns-then-begins_word-clause-read c =
    word_at c.args.spaces c.args.text.now (ap (front is_word_byte) (sym c.as_bytes.ensures.value) ∙ (sym c.begins_word.ensures ∙ c.if-begins_word.true)) ∙ ap Some (sym c.split_plain.ensures)
