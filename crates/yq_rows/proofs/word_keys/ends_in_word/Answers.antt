use Rattle.std.proofs.Common.{sym, ◌∙◌}
use Rattle.yq_rows.proofs.WordRows.{word_line}
use Rattle.yq_rows.proofs.word_keys.ends_in_word.Goals as goal

pub returns : goal.returns
returns c = λ yes. word_line c.args.text.now c.split_at.result.1.now c.args.n c.requires.run c.split_at.ensures.back (sym c.first_is.ensures ∙ yes)
