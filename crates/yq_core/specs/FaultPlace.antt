-- Where a text is at fault.
use Rattle.std.{specs.Prelude.{◌≡◌, ◌-◌, ◌^◌, ◌<◌, ℕ, suc, List, length, take, min, count_by}, specs.NonZero.non_zero_u64_get}
use Rattle.std.specs.Str.Lossy.{utf8_valid_len}
use Rattle.yq_core.{specs.declared.fault.FaultKind.TheVariants.NotUtf8, specs.Answers.ReadError, specs.declared.fault.ReadFault.ReadFault}
use Rattle.yq_core.specs.Text.{is_feed}
use Rattle.yq_failure.specs.declared.failure.Failure.TheVariants as error

-- on which line, counted from 1, a place of a text is: one more than the LFs before it (YAML 1.2.2, section 5.4)
abbrev pub counted_line : List ℕ → ℕ → ℕ
counted_line text at = suc (count_by is_feed (take at text))

-- The fault is at this offset of the text, or at its end where the offset is past it, and on the line of that
-- place. A line's number has 64 bits (own).
pub record IsFaultAt (text : List ℕ) (at : ℕ) (f : ReadFault) : Type 0 where
  pub place : f.at ≡ min at (length text)
  pub line : length text < 2 ^ 64 - 1 → non_zero_u64_get f.line ≡ counted_line text f.at

-- The fault that bytes are not UTF-8 is where they stop being it (YAML 1.2.2, section 5.2).
abbrev pub IsAtBadByte : List ℕ → ReadError → Type 0
IsAtBadByte bytes error.Memory = Unit {0}
IsAtBadByte bytes (error.Fault f) = f.kind ≡ NotUtf8 → IsFaultAt bytes (utf8_valid_len bytes) f
