use Rattle.std.proofs.Common.{inl, inr, refl}
use Rattle.yq_places.proofs.places.known_end.line_after.Goals as goal

pub returns-then-at-last : goal.returns-then-at-last
returns-then-at-last c = inl refl

pub returns-else-at-last : goal.returns-else-at-last
returns-else-at-last c = inr (refl, refl)
