-- What an answer says of what reading a text gives.
use Rattle.std.specs.Prelude.{◌≡◌, ◌≢◌, ℕ, ◌+◌, Option, Some, None, Result, Ok, Err}
use Rattle.yq_core.{specs.declared.fault.FaultKind.TheVariants.NotUtf8, specs.declared.fault.ReadFault.ReadFault}
use Rattle.yq_failure.specs.declared.failure.Failure.{Failure}
use Rattle.yq_failure.specs.declared.failure.Failure.TheVariants as error

-- why a text was not read (own)
abbrev pub ReadError : Type 0
ReadError = Failure ReadFault

infixl 10 ◌>>=◌
-- what the second step gives of what the first one gave, if both give something (own)
abbrev pub ◌>>=◌ : {A B : Type 0} → Option A → (A → Option B) → Option B
(Some x) >>= f = f x
None >>= f = None

-- a length, if there is one, with k more (own)
abbrev pub more : ℕ → Option ℕ → Option ℕ
more k None = None
more k (Some n) = Some (k + n)

-- A fault comes where reading gives nothing; lack of memory says nothing (own).
abbrev pub ReadFails : {Y : Type 0} → ReadError → Option Y → Type 0
ReadFails error.Memory read = Unit {0}
ReadFails (error.Fault f) read = read ≡ None

-- The answer, as it is seen, is what reading gives, unless memory ran out (own).
abbrev pub Gives : {X Y : Type 0} → (X → Y) → Result X ReadError → Option Y → Type 0
Gives view (Ok x) read = read ≡ Some (view x)
Gives view (Err e) read = ReadFails e read

-- An error of a text that is UTF-8: lack of memory, or a fault that isn't that its bytes are not UTF-8 (own).
abbrev pub IsOfText : ReadError → Type 0
IsOfText error.Memory = Unit {0}
IsOfText (error.Fault f) = f.kind ≢ NotUtf8

-- The answer, as it is seen, is what reading gives; this is of functions that need no memory (own).
abbrev pub ReadsAs : {X Y E : Type 0} → (X → Y) → Result X E → Option Y → Type 0
ReadsAs view (Ok x) read = read ≡ Some (view x)
ReadsAs view (Err e) read = read ≡ None
