-- What comes of one step after another.
use Rattle.std.proofs.Common.{rules, ◌≡◌}
use Rattle.yq_semantics.specs.Judgement.{Judgement, and_then, gives}

-- what came of both steps came of the first one
pub then_gives : {A B : Type 0} (f : A → Judgement B) (j : Judgement A) (y : B) → and_then f j ≡ gives y → (x : A) × (j ≡ gives x) × (f x ≡ gives y)
then_gives f j y h = search rules

pub gives_same : {A : Type 0} {x y : A} → gives x ≡ gives y → x ≡ y
gives_same e = cc
