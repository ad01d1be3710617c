-- Reading (own; you may skip it): a document of a text whose rows are cut, with what is made of these.
use Rattle.std.specs.Prelude.{◌≡◌, ℕ, ◌<◌, nat_lt, List, slice_get, Some, Bool, false, ◌&&◌, ◌||◌, ◌-◌, not, take, drop}
use Rattle.yq_core.{specs.Borrowed.borrows_text, specs.Nodes.begins_with}
use Rattle.yq_outline.{specs.Ends.{IsEndOf, has_no_lines, part}, specs.Extents.IsRowsView, specs.Outline.{Line, level}}
use Rattle.yq_outline.{specs.Lines.lines_of_rows, specs.RowWalk.{HasRows, IsPosition, OfLine, OfLines, line_number, lines_stop}}
use Rattle.yq_outline.{specs.declared.line_position.Position.Position, specs.declared.line_position.Stretch.Stretch}
use Rattle.yq_row_table.{specs.Grammar.IsCut, specs.Rows.{Row, Cut}, specs.View.{rows_of, RowsView, rows_view}}
use Rattle.yq_documents.{specs.Decoded.{IsDecoded, Rise}, specs.RowReading.is_block_head, specs.declared.decoded.Decoded.Decoded}
use Rattle.yq_compose.{specs.Ahead.IsAhead, specs.declared.checked.Checked.Checked, specs.declared.reached.Reached.Reached}

-- an alias, a flow collection or a block scalar begins so (own)
abbrev pub begins_tree : List ℕ → Bool
begins_tree t = is_block_head t || (begins_with 42 t || (begins_with 91 t || begins_with 123 t))

-- the text lends what a head spells (own)
abbrev pub borrows_head : List ℕ → Bool
borrows_head t = not (begins_tree t) && borrows_text t

-- The rows of a document are those of a cut, and it is known what is made of the rows of the cut (own).
pub record IsCheckable (t : List ℕ) (s : RowsView) (ms : List Decoded) (d : Stretch) : Type 0 where
  pub cut : Cut
  pub is_cut : IsCut t cut
  pub rows : s ≡ rows_view cut
  pub rows_view : IsRowsView s
  pub document : HasRows s d
  pub there : document.rows ≡ take (d.end - d.first) (drop d.first (rows_of cut))
  pub rise : Rise 0 ms
  pub agrees : (i : ℕ) (r : Row) → slice_get (rows_of cut) i ≡ Some r → IsDecoded t cut ms i r

-- The document that is checked is such a one (own).
abbrev pub IsChecked : Checked → Type 0
IsChecked x = IsCheckable x.text.now x.rows.now x.decoded.now x.document

-- What is said of the lines of the document that is checked, with their numbers (own).
abbrev pub OfChecked : Checked → (List Line → (Position → ℕ) → Type 0) → Type 0
OfChecked x said = (k : IsChecked x) → said (lines_of_rows k.document.rows) (line_number x.document k.document.rows)

-- What is said of one of them (own).
abbrev pub OfCheckedLine : Checked → Position → (List Line → (Position → ℕ) → Line → Type 0) → Type 0
OfCheckedLine x at said = OfChecked x (λ ls n. (l : Line) → slice_get ls (n at) ≡ Some l → said ls n l)

-- The position after the lines from one on that are deeper than a level is given, where there is no fault (own).
pub record GivesStop (s : RowsView) (d : Stretch) (from : Position) (floor : ℕ) (q : Position) : Type 0 where
  pub position : IsPosition s d q
  pub number : OfLines s d (λ ls n. n q ≡ lines_stop (n from) floor ls)
  pub later : OfLines s d (λ ls n. has_no_lines (part ls (n from) floor) ≡ false → from.row < q.row)

-- The position after a line and those under it is given, where there is no fault (own).
pub record GivesEnd (s : RowsView) (d : Stretch) (at : Position) (q : Position) : Type 0 where
  pub position : IsPosition s d q
  pub end : OfLines s d (λ ls n. IsEndOf ls (n at) (n q))
  pub later : at.row < q.row

-- A line of a document, or the end after its rows, with how deep it is; the end is at level 0 (own).
pub record IsReached (ms : List Decoded) (s : RowsView) (d : Stretch) (r : Reached) : Type 0 where
  pub position : IsPosition s d r.position
  pub some : 0 < r.level → r.position.row < d.end
  pub agrees : r.position.row < d.end → OfLine s d r.position (λ l. r.level ≡ level l)
  pub deeper : (floor : ℕ) → OfLines s d (λ ls n. nat_lt floor r.level ≡ not (has_no_lines (part ls (n r.position) floor)))
  pub decoded : IsAhead ms r.position.row r.decoded.now
