use Rattle.std.proofs.Common.{subst}
use Rattle.yq_row_table.{specs.Kept.IsPlaced, proofs.PlacedLaws.places_of}
use Rattle.yq_row_table.proofs.rows.Rows.into_places.Goals as goal

pub returns : goal.returns
returns c = subst (IsPlaced c.self.inside.places) c.self.view_is (places_of c.self.inside.text c.self.inside.places c.self.invariant.0)
