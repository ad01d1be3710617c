use Rattle.std.{proofs.Common.rules, proofs.lemmas.Str.IsUtf8-append}
use Rattle.yq_text.specs.Halves.{whole}
use Rattle.yq_core.proofs.Boundaries.{boundary_line}
use Rattle.yq_places.proofs.places.halves.split_line.Goals as goal

pub split_at-requires : goal.split_at-requires
split_at-requires c = boundary_line (whole c.args.text) c.front_line.result c.front_line.ensures (IsUtf8-append c.args.text.front.now c.args.text.back.now (search rules) (search rules))
