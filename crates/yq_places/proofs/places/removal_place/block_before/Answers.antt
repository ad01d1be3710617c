use Rattle.std.proofs.Common.{◌≡◌, ◌<◌, ℕ, ◌+◌, ◌-◌, arith, rules}
use Rattle.yq_places.proofs.RemovalBounds.{last_row}
use Rattle.yq_outline.proofs.KnownLaws.{get_dropped, get_front}
use Rattle.yq_places.proofs.places.removal_place.block_before.Goals as goal

pub returns-else-at-first : goal.returns-else-at-first
returns-else-at-first c = λ h.
    let k : ℕ = c.args.at - c.args.first in
    let some : 0 < k = omega (arith, c.requires.order, c.if-at-first.false) in
    let r = last_row k h.part.rows some h.within in
    let place : c.args.at - 1 ≡ c.args.first + (k - 1) = omega (arith, c.requires.order, some) in
    search (rules, get_dropped, get_front, k, r, place, h.is_cut, h.rows_view_is, h.rows)
