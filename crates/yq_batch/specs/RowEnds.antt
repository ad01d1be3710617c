-- Where a mapping on lines of its own ends, in rows as they were read, and entries that are put there (YAML 1.2.2, 8.2.2; own).
use Rattle.std.specs.Prelude.{◌≡◌, ⊤, ◌⊎◌, ℕ, suc, ◌+◌, ◌*◌, ◌<◌, ◌≤◌, true, false, List, [], ◌∷◌, ◌++◌, drop, length, take, Option, Some}
use Rattle.std.{specs.Prelude.{None, String, string_bytes}, specs.Str.IsCharBoundary, specs.declared.alloc.Global.Global}
use Rattle.yq_core.{specs.Paths.Step, specs.Text.is_empty, specs.Tree.Node}
use Rattle.yq_outline.specs.RowWalk.{line_level}
use Rattle.yq_documents.{specs.LinesInRows.document_row, specs.Located.steps_of, specs.Reading.cut_of, specs.declared.path.Path.Path}
use Rattle.yq_row_table.{specs.Rows.{Cut, Row, after_columns, cut_text, rows_text}, specs.Seams.is_block, specs.View.slices}
use Rattle.yq_places.{specs.FirstBreak.first_break, specs.PlacedRows.{PlacedPart, placed_document}}
use Rattle.yq_places.specs.Placements.{RowsOfEntry, Placement, is_alone, rows_of_entry, placement_at}
use Rattle.yq_semantics.specs.Operations.{Operation, append}
use Rattle.yq_edit_rules.{specs.BlockReading.is_filled, specs.EntryEdits.more_lines, specs.Layouts.layout_of, specs.Operands.HasOperand}
use Rattle.yq_batch.{specs.KeptBreaks.KeepsFirstBreak, specs.Slots.{SlotView, slot_places}, specs.declared.change.HeadChange.HeadChange}
use Rattle.yq_batch.{specs.declared.row_ends.EntriesEnd.EntriesEnd, specs.declared.slots.SlotPlace.SlotPlace}

-- A block mapping on lines of its own: the steps to it, how many rows of its document come before the first one of its entries, its column, and where it
-- ends in the text (own).
pub record EndOfEntries : Type 0 where
  pub steps : List Step
  pub first : ℕ
  pub column : ℕ
  pub at : ℕ

-- Rows are a block collection at a column (8.2).
pub record AreMappingRows (rows : List Row) (column : ℕ) : Type 0 where
  pub first : Row
  pub others : List Row
  pub are : rows ≡ first ∷ others
  pub marked : is_alone first ≡ false
  pub column_is : first.column ≡ column

-- An item or entry has no node on the line of its key or dash, which is the last one of its row (8.2).
pub record HasNoHead (e : RowsOfEntry) : Type 0 where
  pub last : e.line ≡ length e.row.dashes
  pub plain : is_block e.row.content ≡ false
  pub none : is_empty (slices e.row).head ≡ true

-- The mapping is on the lines under an item or entry (8.2).
pub record IsUnderMark (z : EndOfEntries) (e : RowsOfEntry) : Type 0 where
  pub first : z.first ≡ suc (length e.front)
  pub bare : HasNoHead e
  pub entries : AreMappingRows e.under z.column

-- It begins on the line of an item's dash, after that (8.2.1).
pub record IsAfterDash (z : EndOfEntries) (e : RowsOfEntry) : Type 0 where
  pub first : z.first ≡ length e.front
  pub dash : e.line < length e.row.dashes
  pub column_is : after_columns e.row.column (take (suc e.line) e.row.dashes) ≡ z.column

-- It is what an item or entry holds, and deeper than that: rows of its document up to the last of its rows, and those after them (8.2).
pub record EndsInEntry (m : ℕ) (s : Step) (ss : List Step) (z : EndOfEntries) (d : Cut) (front back : List Row) : Type 0 where
  pub entry : RowsOfEntry
  pub found : rows_of_entry m (s ∷ ss) d ≡ Some entry
  pub place : IsUnderMark z entry ⊎ IsAfterDash z entry
  pub deep : line_level entry.line (slices entry.row) < 3 * z.column + 2
  pub front_is : front ≡ entry.front ++ (entry.row ∷ entry.under)
  pub back_is : back ≡ entry.back

-- the same of the mapping to which steps lead; all rows of its document are those of a root (8.2, 9.1)
abbrev pub EndsAfterRows : ℕ → List Step → EndOfEntries → Cut → (front back : List Row) → Type 0
EndsAfterRows m [] z d front back = AreMappingRows front z.column × (back ≡ [])
EndsAfterRows m (s ∷ ss) z d front back = EndsInEntry m s ss z d front back

-- In a cut it ends after such rows of document m, with a line, after which this text comes (own).
pub record EndsHere (z : EndOfEntries) (m : ℕ) (d : Cut) (rest : List ℕ) : Type 0 where
  pub placed : PlacedPart
  pub there : placed_document m d ≡ Some placed
  pub front : List Row
  pub back : List Row
  pub rows_are : placed.part.rows ≡ front ++ back
  pub ends : EndsAfterRows m z.steps z d front back
  pub after : rows_text back (placed.part.end ++ placed.after) ≡ rest
  pub text : List ℕ
  pub ended : cut_text d ≡ text ++ (10 ∷ rest)

-- In the text as it was read it is so, at this place (8.2).
pub record IsEndIn (c : Cut) (m : ℕ) (z : EndOfEntries) : Type 0 where
  pub here : EndsHere z m c (drop z.at (cut_text c))
  pub within : z.at ≤ length (cut_text c)
  pub edge : IsCharBoundary (cut_text c) z.at

-- something is between a place and the first one of several, and no entry more is put at it (own)
abbrev pub LeavesRoom : SlotPlace → List SlotPlace → Type 0
LeavesRoom p [] = ⊤
LeavesRoom p (q ∷ qs) = (p.end < q.start) × (p.more ≡ false)

-- the same of places, but for the last one (own)
abbrev pub LeaveRoom : List SlotPlace → Type 0
LeaveRoom [] = ⊤
LeaveRoom (p ∷ ps) = LeavesRoom p ps × LeaveRoom ps

-- a place is an offset, if no others come after it (own)
abbrev pub IsLastAt : ℕ → SlotPlace → List SlotPlace → Type 0
IsLastAt at p [] = (p.start ≡ at) × (p.end ≡ at)
IsLastAt at p (q ∷ qs) = ⊤

-- the last one of places is an offset (own)
abbrev pub EndAt : ℕ → List SlotPlace → Type 0
EndAt at [] = ⊤
EndAt at (p ∷ ps) = IsLastAt at p ps × EndAt at ps

-- The last one of places is where it ends, it does so in another cut too, and the first break of that is like the text's, which keeps it (own).
pub record IsEndStill (c d : Cut) (m : ℕ) (slots : List SlotView) (z : EndOfEntries) : Type 0 where
  pub known : IsEndIn c m z
  pub front : List SlotView
  pub last : SlotView
  pub slots_are : slots ≡ front ++ (last ∷ [])
  pub start : last.place.start ≡ z.at
  pub end : last.place.end ≡ z.at
  pub keeps : KeepsFirstBreak (cut_text c) (slot_places slots)
  pub breaks : first_break (cut_text d) ≡ first_break (cut_text c)
  pub here : EndsHere z m d (drop z.at (cut_text c))

-- a place in the row of an item or entry comes before the end of a mapping, in one of the rows of its entries (own)
abbrev pub IsBeforeEnd : RowsOfEntry → SlotPlace → EndOfEntries → Type 0
IsBeforeEnd e p z = (p.end < z.at) × (z.first ≤ length e.front)

-- An operation puts an entry at the end of a mapping, with a value on its line (own).
pub record AddsAtEnd (op : Operation) (c : Cut) (m : ℕ) (o : Option EndOfEntries) (y : HeadChange) : Type 0 where
  pub end : EndOfEntries
  pub known : o ≡ Some end
  pub key : List ℕ
  pub value : Node
  pub operation : op ≡ append m end.steps (Some key) value
  pub valid : HasOperand (append m end.steps (Some key) value)
  pub plain : is_filled value ≡ false
  pub start : y.place.start ≡ end.at
  pub finish : y.place.end ≡ end.at
  pub more : y.place.more ≡ true
  pub written : String Global
  pub written_is : y.written ≡ Some written
  pub lines : string_bytes written ≡ more_lines (layout_of m c) (Some key) value end.column (10 ∷ [])

-- this is at a path of a text (own)
abbrev pub IsPlacedSo : Path → List ℕ → Placement → Type 0
IsPlacedSo p t x = placement_at p.doc (steps_of p) (cut_of t) ≡ Some x

-- another text comes at a place, after a line with a break (own)
abbrev pub EndsLineAt : (text last after : List ℕ) → ℕ → Type 0
EndsLineAt text last after at = (is_empty last ≡ false) × (at + length after ≡ length text)

-- What the code reports of the end of a mapping is so (own).
pub record IsEndAt (c : Cut) (m : ℕ) (w : EntriesEnd) (z : EndOfEntries) : Type 0 where
  pub document : w.path.now.doc ≡ m
  pub known : IsEndIn c m z
  pub steps : steps_of w.path.now ≡ z.steps
  pub first : (n : ℕ) → w.first ≤ document_row m c + n → z.first ≤ n
  pub at : w.at ≡ z.at
  pub column : w.column ≡ z.column

-- the same of one that is known, or not (own)
abbrev pub IsKnownEnd : Cut → ℕ → Option EntriesEnd → Option EndOfEntries → Type 0
IsKnownEnd c m None None = ⊤
IsKnownEnd c m (Some w) (Some z) = IsEndAt c m w z
IsKnownEnd c m None (Some z) = ⊥
IsKnownEnd c m (Some w) None = ⊥

-- that of the text is known that the code reports (own)
abbrev pub IsEndThere : List ℕ → EntriesEnd → Type 0
IsEndThere t w = (z : EndOfEntries) × IsEndAt (cut_of t) w.path.now.doc w z

-- an operation puts an entry there, whichever mapping of the text it is (own)
abbrev pub AddsThere : Operation → List ℕ → EntriesEnd → HeadChange → Type 0
AddsThere op t w y = (m : ℕ) (z : EndOfEntries) → IsEndAt (cut_of t) m w z → (y.place.more ≡ true) × AddsAtEnd op (cut_of t) m (Some z) y

-- it comes after a place in a row, and its first entry no later than that (own)
abbrev pub IsEndBelow : (row stop : ℕ) → EntriesEnd → Type 0
IsEndBelow row stop w = (w.first ≤ row) × (stop < w.at)
