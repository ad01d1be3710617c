-- What a command that is carried out shows (own).
use Rattle.std.{specs.Prelude.{ℕ, Bool, true, List, []}, specs.String.string_bytes}
use Rattle.yq_history.specs.declared.report.Report as declared

-- the bytes that it prints, and whether what it was asked for is there
pub record Report : Type 0 where
  pub printed : List ℕ
  pub is_match : Bool

-- nothing is printed
abbrev pub nothing : Report
nothing = record { printed = []; is_match = true }

-- what that of the code means
abbrev pub report_by : declared.Report → Report
report_by s = record { printed = string_bytes s.text; is_match = s.is_match }
