-- What a command prints, as a description and as bytes (own).
use Rattle.std.specs.Prelude.{◌≡◌, ℕ, Bool, true, false, List, [], map, string_bytes, String, Option, Some, None}
use Rattle.std.specs.declared.alloc.Global.{Global}
use Rattle.yq_journal.{specs.History.{History, Revision}, specs.Record.Record, specs.State.State}
use Rattle.yq_history.{specs.ListedDiffs.{AreDiffLines, texts_around, texts_of}, specs.Listing.{record_lines, history_lines}}
use Rattle.yq_history.{specs.Report.Report, specs.Unified.IsPrintedDiff}
use Rattle.yq_history.specs.declared.report.Report as declared

-- what is printed: these bytes; a diff of two texts of a file; or the lines of edits, of which so many are done, with a diff after each, by the texts
-- before and after the edits
pub data Output : Type 0 where
  bytes : List ℕ → Output
  diff : List ℕ → List ℕ → Output
  listed : ℕ → List (List ℕ) → List (Option (List ℕ)) → Output

-- bytes that were printed for a file are such an output
abbrev pub IsOutput : List ℕ → Output → List ℕ → Type 0
IsOutput file (bytes b) printed = printed ≡ b
IsOutput file (diff old new) printed = IsPrintedDiff file old new printed
IsOutput file (listed done exprs texts) printed = AreDiffLines file 0 done exprs texts printed

-- a text that was printed for a file is such an output
abbrev pub IsOutputText : List ℕ → Output → String Global → Type 0
IsOutputText file o s = IsOutput file o (string_bytes s)

-- what a command that is carried out is to print, and whether what it was asked for is there
pub record Showing : Type 0 where
  pub output : Output
  pub is_match : Bool

-- this is to be printed
abbrev pub showing : Output → Showing
showing o = record { output = o; is_match = true }

-- nothing is to be printed
abbrev pub showing_nothing : Showing
showing_nothing = showing (bytes [])

-- the showing of these bytes
abbrev pub showing_by : declared.Report → Showing
showing_by s = record { output = bytes (string_bytes s.text); is_match = s.is_match }

-- a command shows of a file what it is to show
pub record Shows (file : List ℕ) (due : Showing) (s : Report) : Type 0 where
  pub output : IsOutput file due.output s.printed
  pub is_match : s.is_match ≡ due.is_match

-- what `history` prints of a journal next to a text, with `--diff` or without
abbrev pub record_output : Bool → List ℕ → State → Output
record_output false t s = bytes (record_lines s)
record_output true t s = listed s.at (map (λ (r : Record). r.expr) s.records) (texts_around s t)

-- the same of a file's history, where it is there
abbrev pub listing_output : Bool → Option History → Output
listing_output diffs None = bytes []
listing_output false (Some h) = bytes (history_lines h)
listing_output true (Some h) = listed h.at (map (λ (e : Revision). e.expr) h.later) (texts_of h)
