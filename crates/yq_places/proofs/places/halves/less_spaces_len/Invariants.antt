use Rattle.std.proofs.Common.{◌≡◌, ◌≤◌, length, take}
use Rattle.yq_text.specs.Halves.{whole}
use Rattle.yq_places.specs.FirstPlaces.{less_spaces}
use Rattle.yq_places.proofs.places.halves.less_spaces_len.Given as goal

abbrev pub invariant-spaces : goal.invariant-spaces
invariant-spaces l = record { within : l.end ≤ length (whole l.text); so_far : less_spaces (take l.end (whole l.text)) ≡ less_spaces (whole l.text) }

abbrev pub decreases-spaces : goal.decreases-spaces
decreases-spaces l = l.end
