-- Items and entries taken out of block collections with their lines, one before the other, on the rows as they were read (YAML 1.2.2, 8.2; own).
use Rattle.std.specs.Prelude.{◌≡◌, ⊤, ◌⊎◌, not, if◌then◌else◌, ℕ, ◌+◌, ◌-◌, ◌==◌, ◌<◌, ◌≤◌, Bool, true, false, List, [], ◌∷◌, ◌++◌, drop}
use Rattle.std.specs.Prelude.{take, length, Option, Some, None, IfSome}
use Rattle.yq_text.{specs.Splice.Splice, specs.TextGapBuffer.buffer_text}
use Rattle.yq_core.{specs.Paths.Step, specs.Lines.{spaces, without_spaces, is_blank, is_tab}, specs.Text.{ends_line, text_lines}}
use Rattle.yq_row_table.{specs.Rows.{Row, Cut, cut_text}, specs.Splices.first_gap}
use Rattle.yq_outline.specs.Lines.{lines_of_rows}
use Rattle.yq_documents.{specs.LinesInRows.document_row, specs.Located.steps_of, specs.Reading.read_at, specs.declared.path.Path.Path}
use Rattle.yq_places.specs.PlacedRows.{PlacedPart, placed_document}
use Rattle.yq_places.{specs.RemovalPlaces.{OwnRows, own_rows, rows_out, Seam, has_others_at}, specs.Placements.last_step}
use Rattle.yq_semantics.{specs.declared.op.Op.Op, specs.Operations.{Operation, operation_of, remove}, specs.Judgement.ExprError}
use Rattle.yq_edit_rules.specs.LineRows.{Begins}
use Rattle.yq_edit_laws.{specs.Answers.EditFails, specs.Carried.carried, specs.Edit.gives, specs.Theorems.IsApplied}
use Rattle.yq_batch.{specs.declared.changed_rows.ChangedRows.ChangedRows, specs.declared.removals.RemovalRun.RemovalRun}

-- ---- gaps that stay after a block scalar

-- only spaces come before the break of a blank line, and no tab before a `#` after spaces (own)
abbrev pub is_spaced : List ℕ → Bool
is_spaced l = if is_blank l then ends_line (without_spaces l) else not (is_tab (without_spaces l))

-- lines of a gap are so, with fewer spaces in front than a number (own)
abbrev pub AreLow : ℕ → List (List ℕ) → Type 0
AreLow n [] = ⊤
AreLow n (l ∷ ls) = (is_spaced l ≡ true) × (spaces l < n) × AreLow n ls

-- a gap with lines that low stays as it is at a seam, if there is one: it has no lines, or the block scalar keeps no empty lines and is indented that deep
-- (8.1.1; own)
abbrev pub StaysAt : Option Seam → Option ℕ → Type 0
StaysAt None least = ⊤
StaysAt (Some s) None = ⊥
StaysAt (Some s) (Some n) = (n ≡ 0) ⊎ ((s.keeps ≡ false) × (n ≤ s.indent))

-- how low the lines of a gap are, and of those before it, if that is known (own)
abbrev pub IsLeast : Option ℕ → List ℕ → Option ℕ → Type 0
IsLeast least gap None = ⊤
IsLeast least gap (Some n) = (m : ℕ) × (least ≡ Some m) × (m ≤ n) × AreLow n (text_lines gap)

-- ---- runs

-- lines that are low are so in another text, where it is known how low the lines are that were put there (own)
abbrev pub StayLow : Option ℕ → (old new : List ℕ) → Type 0
StayLow None old new = ⊤
StayLow (Some least) old new = (n : ℕ) → least ≤ n → AreLow n (text_lines old) → AreLow n (text_lines new)

-- the first of rows is no deeper than a level, where the first of others isn't (8.2; own)
abbrev pub BeginAsLow : (old new : List Row) → Type 0
BeginAsLow old new = (l : ℕ) → Begins l (lines_of_rows old) → Begins l (lines_of_rows new)

-- what is in front of a row begins no deeper than this one: the row itself, unless it is the first one that was changed (own)
abbrev pub stop_after : ChangedRows → ℕ → ℕ
stop_after z row = if row == z.first then z.stop else row

-- The rows of an item or entry are in another cut, with the same text and rows before them, and a gap after them that is as low; the row after them is no
-- deeper than the one that was there, and, where that was changed, than the one at which the changed ones end (own).
pub record IsPlacedBefore (d : PlacedPart) (x : OwnRows) (cut : Cut) (n : ℕ) (steps : List Step) (z : ChangedRows) (k : ℕ) : Type 0 where
  pub now : PlacedPart
  pub placed : placed_document n cut ≡ Some now
  pub before : now.before ≡ d.before
  pub back : List Row
  pub own : own_rows steps now.part.rows ≡ Some (record x { back = back })
  pub low : StayLow z.least (first_gap x.back d.part.end) (first_gap back now.part.end)
  pub lower : BeginAsLow x.back back
  pub stop : x.back ≡ drop (z.first - k) d.part.rows → BeginAsLow (drop (z.stop - k) d.part.rows) back

-- The last bytes of a cut's text were replaced by others, since items and entries were taken out of block collections of a document: the text reads, and
-- the items and entries in the bytes that stay are there, before the others (own).
pub record IsRowRemovalRun (c : Cut) (n : ℕ) (z : ChangedRows) (keep : ℕ) (tail : List ℕ) : Type 0 where
  pub within : keep ≤ length (cut_text c)
  pub cut : Cut
  pub read : read_at (take keep (cut_text c) ++ tail) ≡ Some cut
  pub stays : (above : List Step) (s : Step) (d : PlacedPart) (x : OwnRows) → placed_document n c ≡ Some d → own_rows (above ++ (s ∷ [])) d.part.rows ≡ Some x →
      length (rows_out d x).before + length (rows_out d x).gone ≤ keep → IsPlacedBefore d x cut n (above ++ (s ∷ [])) z (document_row n c)

-- a run of the code is one (own)
pub record RemovesRows (c : Cut) (n : ℕ) (z : ChangedRows) (r : RemovalRun) : Type 0 where
  pub tail : List ℕ
  pub text : buffer_text r.text ≡ take r.keep (cut_text c) ++ tail
  pub run : IsRowRemovalRun c n z r.keep tail

-- ---- operations

-- steps lead on to an item or entry of the collection to which others lead (own)
abbrev pub LeadsInto : (above steps : List Step) → Type 0
LeadsInto above steps = (s : Step) × (last_step steps ≡ Some (above, s))

-- an operation takes something out of the collection to which steps lead (own)
abbrev pub TakesFrom : Op → ℕ → (above : List Step) → Type 0
TakesFrom op n above = (steps : List Step) × ((operation_of op ≡ remove n steps) × LeadsInto above steps)

-- the first of operations takes something out of the collection to which steps lead (own)
abbrev pub NextTakes : List Op → ℕ → (above : List Step) → Type 0
NextTakes ops n above = (next : Op) × (rest : List Op) × (ops ≡ next ∷ rest) × TakesFrom next n above

-- The first of some operations takes something out of a collection of a document, and perhaps the next one something else (own).
pub record TakesFirst (ops : List Op) (n : ℕ) (op : Op) (beside : Bool) : Type 0 where
  pub above : List Step
  pub rest : List Op
  pub ops_are : ops ≡ op ∷ rest
  pub takes : TakesFrom op n above
  pub next_takes : beside ≡ true → NextTakes rest n above

-- there are others next to the item or entry to which steps lead, as a text is read (own)
abbrev pub HasOthersNow : ℕ → List Step → List ℕ → Type 0
HasOthersNow n steps t = (d : Cut) → read_at t ≡ Some d → has_others_at n steps d ≡ true

-- the same of a path, if one thing holds (own)
abbrev pub HasOthersIf : Bool → Path → List ℕ → Type 0
HasOthersIf b p t = b ≡ true → HasOthersNow p.doc (steps_of p) t

-- An operation is carried out on the text of a run, which goes on after it (own).
pub record RemovesRowsOn (op : Operation) (c : Cut) (n : ℕ) (before : RemovalRun) (z : ChangedRows) (after : RemovalRun) : Type 0 where
  pub new_bytes : List Splice
  pub comes : carried op (buffer_text before.text) ≡ gives (buffer_text after.text) new_bytes
  pub applied : IsApplied op (buffer_text before.text) (buffer_text after.text) new_bytes
  pub splices : after.splices.items ≡ before.splices.items ++ new_bytes
  pub run : RemovesRows c n z after

-- the operation that takes out what is at a path (own)
abbrev pub removal_of : Path → Operation
removal_of p = remove p.doc (steps_of p)

-- where what is at the path was taken out, the run goes on (own)
abbrev pub GoesOnWithout : Path → Cut → RemovalRun → (found : Option ChangedRows) → RemovalRun → Type 0
GoesOnWithout p c before found after = IfSome found (λ z. RemovesRowsOn (removal_of p) c p.doc before z after)

-- the same, of what a run went on from to (own)
abbrev pub GoesOnAfter : Path → Cut → RemovalRun → RemovalRun → (found : Option ChangedRows) → Type 0
GoesOnAfter p c before after found = GoesOnWithout p c before found after

-- an operation fails on the text of a run (own)
abbrev pub FailsOn : ExprError → Operation → RemovalRun → Type 0
FailsOn e op r = EditFails e (carried op (buffer_text r.text))
