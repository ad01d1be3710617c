-- Reading (own; you may skip it): what answers say of whether a text is as is asked.
use Rattle.std.specs.Prelude.{◌≡◌, Bool, true, false, Result, Ok, Err, ⊤}
use Rattle.yq_core.specs.Answers.{ReadError}
use Rattle.yq_failure.specs.declared.failure.Failure.TheVariants as error

-- an error says that it is not so, unless memory ran out (own)
abbrev pub Denies : ReadError → Bool → Type 0
Denies error.Memory is = ⊤
Denies (error.Fault f) is = is ≡ false

-- an answer comes where it is so, and a fault where it is not so, unless memory ran out (own)
abbrev pub Decides : {X : Type 0} → Result X ReadError → Bool → Type 0
Decides (Ok x) is = is ≡ true
Decides (Err e) is = Denies e is
