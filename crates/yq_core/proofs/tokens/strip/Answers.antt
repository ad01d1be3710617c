use Rattle.std.proofs.Common.{sym, ◌∙◌}
use Rattle.yq_core.proofs.Bounds.{boundary_first}
use Rattle.yq_core.proofs.tokens.strip.Goals as goal

pub split_at-requires : goal.split_at-requires
split_at-requires c = boundary_first c.args.text.now c.args.k c.requires (rw c.as_bytes.ensures.value at (sym c.first_is.ensures ∙ c.if-first_is.true)) c.utf8.text
