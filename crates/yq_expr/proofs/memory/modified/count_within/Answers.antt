use Rattle.std.proofs.Common.{◌≡◌, ◌<◌, ℕ, zero, suc, refl, arith}
use Rattle.yq_expr.proofs.memory.modified.count_within.Goals as goal

-- what is none has all the room, which is no less than all
some : (count left room limit : ℕ) → (count ≡ 0 → left ≡ room) → left < limit → room ≡ limit → 0 < count
some zero left room limit first less all = absurd (let same = first refl in omega (arith, less, all, same))
some (suc n) left room limit first less all = omega arith

pub returns-then-left-lt-VALUES_LIMIT-clause-some : goal.returns-then-left-lt-VALUES_LIMIT-clause-some
returns-then-left-lt-VALUES_LIMIT-clause-some c = λ all _.
    some c.places.count c.places.left c.args.room _ c.places.invariant.first c.if-left-lt-VALUES_LIMIT.true all
