use Rattle.std.proofs.Common.{sym, ◌∙◌}
use Rattle.yq_block_edits.proofs.RowKeptLaws.{other_plain}
use Rattle.yq_block_edits.proofs.kept.spells.Goals as goal

pub returns-then-not-may_spell : goal.returns-then-not-may_spell
returns-then-not-may_spell c = sym (other_plain c.args.text.now c.args.scalar.now (sym c.may_spell.ensures ∙ c.if-not-may_spell.true))
