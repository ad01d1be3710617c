-- What an answer says of bytes that are no text.
use Rattle.std.specs.Prelude.{◌≡◌, Result, Ok, Err}
use Rattle.yq_core.{specs.declared.fault.FaultKind.TheVariants.NotUtf8, specs.Answers.ReadError}
use Rattle.yq_failure.specs.declared.failure.Failure.TheVariants as error

-- the bytes are refused because they are not UTF-8 (YAML 1.2.2, section 5.2)
abbrev pub IsNotUtf8 : {X : Type 0} → Result X ReadError → Type 0
IsNotUtf8 (Ok x) = ⊥
IsNotUtf8 (Err error.Memory) = ⊥
IsNotUtf8 (Err (error.Fault f)) = f.kind ≡ NotUtf8
