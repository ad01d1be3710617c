-- Operations that change one row each, one after the other, on the rows as they were read (YAML 1.2.2, 8; own).
use Rattle.std.specs.Prelude.{◌≡◌, ⊤, ◌⊎◌, ◌&&◌, not, if◌then◌else◌, ℕ, suc, ◌+◌, ◌<◌, ◌≤◌, List, [], ◌∷◌, ◌++◌, length, slice_get, Option}
use Rattle.std.{specs.Prelude.{Some, None, true, false, String, string_bytes}, specs.Str.IsCharBoundary, specs.declared.alloc.Global.Global}
use Rattle.yq_text.{specs.Limit.text_limit, specs.Script.{Segment, keep, new_text, old_text}, specs.Splice.Splice}
use Rattle.yq_core.{specs.Paths.Step, specs.Text.is_empty, specs.Tree.Node, specs.Values.value_node}
use Rattle.yq_core.{specs.declared.style.Place.TheVariants.Block as InBlock, specs.declared.value.Value.Value}
use Rattle.yq_row_table.specs.Rows.{Cut, Part, Row, cut_text}
use Rattle.yq_documents.{specs.declared.path.Path.Path, specs.LinesInRows.document_row, specs.Located.steps_of}
use Rattle.yq_documents.{specs.Documents.document_parts, specs.Reading.{cut_of, documents, read_at}}
use Rattle.yq_places.{specs.FirstBreak.first_break, specs.NodesAt.node_in, specs.PlacedRows.{PlacedPart, placed_document}}
use Rattle.yq_places.specs.Placements.{Held, RowsOfEntry, beside, placement_at, rows_of_entry}
use Rattle.yq_edit_rules.{specs.RowStays.{IsAfter, StaysInRows, StaysPlaced}, specs.Edits.op_edits, specs.Operands.HasOperand}
use Rattle.yq_edit_rules.{specs.Appends.inserted, specs.Changed.put_document, specs.Replacing.keeps_scalar}
use Rattle.yq_edit_rules.{specs.RowChanges.{PutsOne, lone_rows, root_rows}, specs.WrittenValues.value_text}
use Rattle.yq_semantics.{specs.After.op_document, specs.Fits.Fits, specs.Rooms.room_of}
use Rattle.yq_semantics.{specs.Operations.{Operation, append, head_comment, line_comment, remove, replace}, specs.declared.op.Op.Op}
use Rattle.yq_edit_laws.{specs.Carried.carried, specs.Edit.gives, specs.Theorems.IsApplied}
use Rattle.yq_batch.{specs.Under.op_at, specs.Runs.{now_text, text_with_run}, specs.declared.row_put.RowPut.RowPut}
use Rattle.yq_batch.specs.declared.run.PutRun.{PutRun}

-- ---- runs

-- The first bytes of a cut's text were replaced by others, by contents of rows in front of row n of document k: the text reads, and items and entries
-- from there on are as they were (own).
pub record IsRowRun (c : Cut) (k n : ℕ) (out : List ℕ) (done : ℕ) : Type 0 where
  pub within : done ≤ length (cut_text c)
  pub edge : IsCharBoundary (cut_text c) done
  pub cut : Cut
  pub read : read_at (text_with_run (cut_text c) out done) ≡ Some cut
  pub stays : (m : ℕ) (steps : List Step) (e : RowsOfEntry) → rows_of_entry m steps c ≡ Some e → IsAfter k n m (length e.front) → StaysInRows e m steps cut

-- the row that was changed last, by its document and how many rows come before it, is the one in front of row n of document k (own)
abbrev pub IsLast : Cut → Option (ℕ × ℕ) → (k n : ℕ) → Type 0
IsLast c None k n = (k ≡ 0) × (n ≡ 0)
IsLast c (Some x) k n = (x.0 ≡ k) × (x.1 + 1 ≡ document_row k c + n)

-- a row of a document comes after the last one that was changed (own)
abbrev pub Passed : Option (ℕ × ℕ) → (m row : ℕ) → Type 0
Passed None m row = ⊤
Passed (Some x) m row = (x.0 < m) ⊎ ((x.0 ≡ m) × (x.1 < row))

-- a run of the code is one, by the row that was changed last (own)
pub record IsRowsRun (c : Cut) (o : Option (ℕ × ℕ)) (r : PutRun) : Type 0 where
  pub document : ℕ
  pub row : ℕ
  pub last : IsLast c o document row
  pub run : IsRowRun c document row (string_bytes r.text) r.done

-- documents of which all rows come after so many of document k are in another cut as they were, but for what comes before them (own)
abbrev pub DocumentsStayFrom : (c cut : Cut) → (k n : ℕ) → Type 0
DocumentsStayFrom c cut k n = (m : ℕ) (d : PlacedPart) → placed_document m c ≡ Some d → IsAfter k n m 0 → StaysPlaced d m cut

-- a run of the code after which items, entries and whole documents are as they were (own)
pub record IsPlacesRun (c : Cut) (o : Option (ℕ × ℕ)) (r : PutRun) : Type 0 where
  pub rows : IsRowsRun c o r
  pub others : DocumentsStayFrom c rows.run.cut rows.document rows.row

-- ---- rows

-- The rows of an item or entry to which steps lead, or of a node that is alone on its line: a root, or one under an item or entry (8.2, 9.1).
pub data RowsPlace : Type 0 where
  of_entry : List Step → RowsOfEntry → RowsPlace
  of_root : PlacedPart → Row → List Row → RowsPlace
  of_lone : List Step → RowsOfEntry → Row → List Row → RowsPlace

-- the rows that are there (own)
abbrev pub place_rows : RowsPlace → RowsOfEntry
place_rows (of_entry steps e) = e
place_rows (of_root d r rs) = root_rows d r rs
place_rows (of_lone steps e r rs) = lone_rows e r rs

-- how many rows of their document come before those that have to be still (own)
abbrev pub first_at : RowsPlace → ℕ
first_at (of_entry steps e) = length e.front
first_at (of_root d r rs) = 0
first_at (of_lone steps e r rs) = length e.front

-- they are those of document m of a cut (own)
abbrev pub IsRowsPlace : RowsPlace → ℕ → Cut → Type 0
IsRowsPlace (of_entry steps e) m c = rows_of_entry m steps c ≡ Some e
IsRowsPlace (of_root d r rs) m c = (placed_document m c ≡ Some d) × (d.part.rows ≡ r ∷ rs)
IsRowsPlace (of_lone steps e r rs) m c = (rows_of_entry m steps c ≡ Some e) × (e.under ≡ r ∷ rs)

-- they are so in another cut too, but for what comes before them (own)
abbrev pub StaysThere : RowsPlace → ℕ → Cut → Type 0
StaysThere (of_entry steps e) m c = StaysInRows e m steps c
StaysThere (of_root d r rs) m c = StaysPlaced d m c
StaysThere (of_lone steps e r rs) m c = StaysInRows e m steps c

-- so many rows come before that of an item or entry, and one more before the row under it, or as many before the first row of a document (own)
abbrev pub IsLoneRow : ℕ → List Step → Cut → (first row : ℕ) → Type 0
IsLoneRow n [] c first row = (first ≡ document_row n c) × (row ≡ document_row n c)
IsLoneRow n (s ∷ ss) c first row = (e : RowsOfEntry) → rows_of_entry n (s ∷ ss) c ≡ Some e → (first ≡ document_row n c + length e.front) × (row ≡ suc first)

-- ---- operations

-- the rows of an item or entry that is still (own)
abbrev pub rows_still : {m : ℕ} {steps : List Step} {d : Cut} → (e : RowsOfEntry) → StaysInRows e m steps d → RowsOfEntry
rows_still e s = record e { start = s.start; front = s.front }

-- the rows that are there in another cut (own)
abbrev pub rows_now : (p : RowsPlace) (m : ℕ) (c : Cut) → StaysThere p m c → RowsOfEntry
rows_now (of_entry steps e) m c s = record e { start = s.start; front = s.front }
rows_now (of_root d r rs) m c s = root_rows (record d { before = s.start }) r rs
rows_now (of_lone steps e r rs) m c s = lone_rows (record e { start = s.start; front = s.front }) r rs

-- In the cut of the text that segments make, the row of an item or entry of document n is replaced by another one, with the same key and dashes (own).
pub record ExchangesRow (n : ℕ) (c : Cut) (e : RowsOfEntry) (ss : List Segment) : Type 0 where
  pub part : Part
  pub there : slice_get (document_parts c) n ≡ Some part
  pub front : List Row
  pub row : Row
  pub new : Row
  pub back : List Row
  pub rows_are : part.rows ≡ front ++ (row ∷ back)
  pub front_size : length front ≡ length e.front
  pub column : new.column ≡ row.column
  pub dashes : new.dashes ≡ row.dashes
  pub mark : new.mark ≡ row.mark
  pub read : read_at (new_text ss) ≡ Some (put_document n (inserted front (new ∷ []) back part) c)

-- where what an operation makes fits, it changes one row (own)
abbrev pub ChangesIfFit : Operation → Cut → RowsOfEntry → List Segment → Type 0
ChangesIfFit op d e ss = HasOperand op → Fits (room_of (cut_text d)) op (documents d) → length (new_text ss) ≤ text_limit → ExchangesRow (op_document op) d e ss

-- An operation puts one text in the place of another, and changes one row (own).
pub record PutsText (op : Operation) (d : Cut) (e : RowsOfEntry) (old new after : List ℕ) : Type 0 where
  pub segments : List Segment
  pub front : List ℕ
  pub edited : op_edits op d ≡ Some segments
  pub whole : old_text segments ≡ cut_text d
  pub puts : PutsOne segments front old new after
  pub changes : ChangesIfFit op d e segments

-- an operation puts this text, or leaves all bytes alone, if there is none (own)
abbrev pub PutsSo : Operation → Cut → RowsOfEntry → (old after : List ℕ) → Option (List ℕ) → Type 0
PutsSo op d e old after None = op_edits op d ≡ Some (keep (cut_text d) ∷ [])
PutsSo op d e old after (Some new) = PutsText op d e old new after

-- the bytes of a text, if there is one (own)
abbrev pub bytes_in : {S : Type 0} → (S → List ℕ) → Option S → Option (List ℕ)
bytes_in f None = None
bytes_in f (Some s) = Some (f s)

-- what is written for a value on one line in the place of a text, if it isn't the scalar that is there (own)
abbrev pub IsWrittenSo : Option Node → Node → List ℕ → Option (List ℕ) → Type 0
IsWrittenSo old v head None = keeps_scalar old v ≡ true
IsWrittenSo old v head (Some w) = (keeps_scalar old v ≡ false) × (w ≡ value_text InBlock head v)

-- the same of a value of the code at a path of a text, if a text is written (own)
abbrev pub IsWrittenThere : Path → Value → (t head : List ℕ) → Option (String Global) → Type 0
IsWrittenThere p v t head o = IsWrittenSo (node_in p.doc (steps_of p) (cut_of t)) (value_node v) head (bytes_in string_bytes o)

-- what is written for a value on one line where nothing is: it comes after a space, if it isn't the scalar that nothing means (own)
abbrev pub IsSpacedSo : Option Node → Node → Option (List ℕ) → Type 0
IsSpacedSo old v None = keeps_scalar old v ≡ true
IsSpacedSo old v (Some w) = (keeps_scalar old v ≡ false) × (w ≡ 32 ∷ value_text InBlock [] v)

-- the same of a value of the code at a path of a text, if a text is written (own)
abbrev pub IsSpacedThere : Path → Value → (t : List ℕ) → Option (String Global) → Type 0
IsSpacedThere p v t o = IsSpacedSo (node_in p.doc (steps_of p) (cut_of t)) (value_node v) (bytes_in string_bytes o)

-- what an item or entry holds is on the line of its key or dash, if anything is: nothing is under that (own)
abbrev pub IsBesideMark : Path → List ℕ → Type 0
IsBesideMark p t = (h : Held) × (placement_at p.doc (steps_of p) (cut_of t) ≡ Some (beside h))

-- the white space that stays before a line comment, in the place of one that is there or of none (own)
abbrev pub white_left : (text white comment : List ℕ) → List ℕ
white_left text white comment = if is_empty text && not (is_empty comment) then [] else white

-- an operation ends the lines that it writes by the same break in two texts: those of a head comment by the first one (5.4; own)
abbrev pub WritesSameBreak : Operation → (t u : List ℕ) → Type 0
WritesSameBreak (replace n steps v) t u = ⊤
WritesSameBreak (append n steps key v) t u = ⊤
WritesSameBreak (remove n steps) t u = ⊤
WritesSameBreak (line_comment n steps text) t u = ⊤
WritesSameBreak (head_comment n steps text) t u = is_empty text ≡ false → first_break u ≡ first_break t

-- the same of a text that was read, and of that with what a run made of it (own)
abbrev pub KeepsBreak : Operation → Cut → PutRun → Type 0
KeepsBreak op c r = WritesSameBreak op (cut_text c) (now_text c r)

-- the same of an operation of the code, at whichever path it is (own)
abbrev pub KeepsBreakAt : Op → Cut → PutRun → Type 0
KeepsBreakAt op c r = (p : Path) → KeepsBreak (op_at p op) c r

-- an operation puts a text, or leaves all bytes alone, wherever rows are still and lines end by the same break (own)
abbrev pub PutsWhereStill : Operation → List ℕ → RowsPlace → (old after : List ℕ) → Option (List ℕ) → Type 0
PutsWhereStill op t p old after new =
    (d : Cut) → read_at (cut_text d) ≡ Some d → WritesSameBreak op t (cut_text d) → (s : StaysThere p (op_document op) d) →
    PutsSo op d (rows_now p (op_document op) d s) old after new

-- An operation puts a text in a row, or leaves it alone, wherever the rows of that are still (own).
pub record PutsInRow (op : Operation) (c : Cut) (x : RowPut) : Type 0 where
  pub place : RowsPlace
  pub found : IsRowsPlace place (op_document op) c
  pub document : x.doc ≡ op_document op
  pub first : x.first ≡ document_row (op_document op) c + first_at place
  pub row : x.row ≡ document_row (op_document op) c + length (place_rows place).front
  pub valid : HasOperand op
  pub before : List ℕ
  pub old : List ℕ
  pub after : List ℕ
  pub text : cut_text c ≡ before ++ (old ++ after)
  pub start : x.start ≡ length before
  pub finish : x.end ≡ length before + length old
  pub starts : IsCharBoundary (cut_text c) x.start
  pub ends : IsCharBoundary (cut_text c) x.end
  pub there : PutsWhereStill op (cut_text c) place old after (bytes_in string_bytes x.written)

-- a value is put in the row of the node to which a path leads in a text, wherever its rows are still (own)
abbrev pub PutsValue : Path → Value → (t : List ℕ) → RowPut → Type 0
PutsValue p v t x = PutsInRow (replace p.doc (steps_of p) (value_node v)) (cut_of t) x

-- a head comment with a text is put above the row to which a path leads in a text, wherever the item or entry is still (own)
abbrev pub PutsAbove : Path → (text t : List ℕ) → RowPut → Type 0
PutsAbove p text t x = PutsInRow (head_comment p.doc (steps_of p) text) (cut_of t) x

-- An operation is carried out on the text of a run, which goes on after it, and after the row that was changed last then (own).
pub record RowsGoOn (op : Operation) (c : Cut) (before : PutRun) (last : Option (ℕ × ℕ)) (after : PutRun) : Type 0 where
  pub new_bytes : List Splice
  pub comes : carried op (now_text c before) ≡ gives (now_text c after) new_bytes
  pub applied : IsApplied op (now_text c before) (now_text c after) new_bytes
  pub splices : after.splices.items ≡ before.splices.items ++ new_bytes
  pub run : IsPlacesRun c last after
