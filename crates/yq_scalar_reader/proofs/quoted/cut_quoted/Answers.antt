use Rattle.std.proofs.Common.{◌∙◌, ap}
use Rattle.yq_core.proofs.QuotedFound.{boundary_quoted}
use Rattle.yq_core.specs.QuotedReading as spec
use Rattle.yq_scalar_reader.proofs.quoted.cut_quoted.Goals as goal

pub split_at-requires : goal.split_at-requires
split_at-requires c = boundary_quoted c.args.text.now _ c.utf8.text (c.in_ok-n.ensures.value ∙ ap spec.scalar_len c.as_bytes.ensures.value)
