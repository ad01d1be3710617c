-- Why a command is refused (own).
use Rattle.std.{specs.Prelude.{◌≡◌, ◌↔◌, ℕ, false, List, Option, Some, None}, specs.Str.is_utf8}
use Rattle.yq_core.specs.declared.fault.FaultKind.TheVariants.{NotUtf8}
use Rattle.yq_semantics.specs.Parsing.{Outcome, refusal}
use Rattle.yq_fault.{specs.declared.fault.Fault.Fault, specs.declared.fault.Fault.TheVariants.{Expression, Unreadable}}

-- a named fault, that this text has no reading, or that an expression is no program
pub data Cause : Type 0 where
  named : Fault → Cause
  no_reading : List ℕ → Cause
  no_program : Outcome → Cause

-- the fault says that bytes have no reading, and that they are no UTF-8 exactly where that is so, however many they are (YAML 1.2.2, section 5.2);
-- which other fault of reading it is, is left open
abbrev pub IsUnreadable : List ℕ → Fault → Type 0
IsUnreadable bytes (Unreadable f) = (f.kind ≡ NotUtf8) ↔ (is_utf8 bytes ≡ false)
IsUnreadable bytes _ = ⊥

-- the fault says why an expression is no program; where in the expression that is, is left open
abbrev pub IsNoProgram : Outcome → Fault → Type 0
IsNoProgram outcome (Expression f) = outcome ≡ refusal f
IsNoProgram outcome _ = ⊥

-- the fault says the cause
abbrev pub IsFor : Option Cause → Fault → Type 0
IsFor None e = ⊥
IsFor (Some (named f)) e = e ≡ f
IsFor (Some (no_reading text)) e = IsUnreadable text e
IsFor (Some (no_program outcome)) e = IsNoProgram outcome e
