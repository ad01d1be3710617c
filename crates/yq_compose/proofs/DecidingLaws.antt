-- What answers say of whether a text is as is asked.
use Rattle.std.proofs.Common.{◌≡◌, Bool, false, Result, subst}
use Rattle.yq_core.specs.Answers.{ReadError}
use Rattle.yq_compose.specs.Deciding.{Denies, Decides}
use Rattle.yq_failure.specs.declared.failure.Failure.TheVariants as error

-- what denies a part denies the whole
pub denies_as : (e : ReadError) (a b : Bool) → (a ≡ false → b ≡ false) → Denies e a → Denies e b
denies_as error.Memory a b f h = tt
denies_as (error.Fault x) a b f h = f h

-- the same is decided of what is so exactly where that is so
pub decides_as : {X : Type 0} (r : Result X ReadError) (a b : Bool) → a ≡ b → Decides r a → Decides r b
decides_as r a b e = subst (Decides r) e
