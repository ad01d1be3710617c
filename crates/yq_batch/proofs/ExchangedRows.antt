-- What comes after a row that is replaced by another one with the same key and dashes: paths lead to the rows to which they led.
use Rattle.std.proofs.Common.{◌≡◌, ℕ, suc, ◌<◌, List, [], ◌∷◌, ◌++◌, drop, length, Option, Some, sym, ap, ◌∙◌, arith, length-append}
use Rattle.std.{proofs.lemmas.List.map-append, specs.List.slice_get}
use Rattle.yq_core.{specs.Answers.◌>>=◌, specs.Paths.Step}
use Rattle.yq_outline.{specs.Ends.line_at_steps, specs.Lines.lines_of_rows}
use Rattle.yq_row_table.specs.Rows.{Cut, Part, Row, cut_text}
use Rattle.yq_documents.{specs.Documents.document_parts, specs.LinesInRows.row_line, specs.Reading.read_at}
use Rattle.yq_text.specs.Script.{Segment, new_text}
use Rattle.yq_places.{specs.PlacedRows.{PlacedPart, placed_document}, specs.Placements.{RowsOfEntry, rows_of_entry}}
use Rattle.yq_edit_rules.{specs.Appends.inserted, specs.Changed.{KeepsRows, put_document}, specs.RowChanges.ChangesRow}
use Rattle.yq_edit_rules.{specs.Rooms.RowShape, specs.RowStays.{IsAfter, StaysInRows, StaysPlaced}, proofs.PartLaws.document_known}
use Rattle.yq_edit_rules.proofs.RowStayLaws.{GoesOnAlike, dashes_of, later_entries, later_placed, line_there, past_row, there_then}
use Rattle.yq_batch.{specs.RowRuns.ExchangesRow, proofs.ErasedLines.{line_by_marks, marks_of, marks_with}}
use Rattle.yq_batch.proofs.RowOrder.{one_end, one_keeps, one_rows}

-- a row of the same shape has the same key and dashes
pub exchanges_row : (n : ℕ) (c : Cut) (e : RowsOfEntry) (ss : List Segment) → ChangesRow n c e ss → ExchangesRow n c e ss
exchanges_row n c e ss y = record {
  part = y.part;
  there = y.there;
  front = y.front;
  row = y.row;
  new = y.new;
  back = y.back;
  rows_are = y.rows_are;
  front_size = y.front_size;
  column = ap (λ (x : RowShape). x.column) y.shape;
  dashes = ap (λ (x : RowShape). x.dashes) y.shape;
  mark = ap (λ (x : RowShape). x.mark) y.shape;
  read = y.read;
}

-- ---- a row that is replaced

module _ (c : Cut) (k : ℕ) (e0 : RowsOfEntry) (ss : List Segment) (read : read_at (cut_text c) ≡ Some c) (y : ExchangesRow k c e0 ss) where
  abbrev pub given : Part
  given = inserted y.front (y.new ∷ []) y.back y.part

  abbrev new : Cut
  new = put_document k (inserted y.front (y.new ∷ []) y.back y.part) c

  keeps : KeepsRows y.part given
  keeps = one_keeps y.part y.front y.back y.new

  rows_now : given.rows ≡ y.front ++ (y.new ∷ y.back)
  rows_now = one_rows y.part y.front y.back y.new

  end_now : given.end ≡ y.part.end
  end_now = one_end y.part y.front y.back y.new

  given_there : slice_get (document_parts new) k ≡ Some given
  given_there = there_then c k y.part given y.there keeps

  -- steps lead to lines of the same numbers
  lines_stay : (steps : List Step) → line_at_steps steps (lines_of_rows given.rows) ≡ line_at_steps steps (lines_of_rows y.part.rows)
  lines_stay =
      line_by_marks _ _ y.part.rows given.rows (document_known (cut_text c) c k y.part (record { read = read; there = y.there })).even
      (document_known (new_text ss) new k given (record { read = y.read; there = given_there })).even
      (ap marks_of rows_now
      ∙ (marks_with y.front y.row y.new y.back y.column y.dashes y.mark ∙ ap marks_of (sym y.rows_are)))

  dashes_same : dashes_of (y.front ++ (y.new ∷ y.back)) ≡ dashes_of (y.front ++ (y.row ∷ y.back))
  dashes_same =
      map-append (λ (r : Row). r.dashes) y.front (y.new ∷ y.back)
      ∙ (ap (λ (ds : List ℕ). dashes_of y.front ++ (ds ∷ dashes_of y.back)) y.dashes ∙ sym (map-append (λ (r : Row). r.dashes) y.front (y.row ∷ y.back)))

  rows_after : drop (suc (length y.front)) given.rows ≡ drop (suc (length y.front)) y.part.rows
  rows_after =
      ap (drop (suc (length y.front))) rows_now ∙ (past_row y.front y.new y.back ∙ sym (ap (drop (suc (length y.front))) y.rows_are ∙ past_row y.front y.row y.back))

  goes_on : GoesOnAlike (suc (length y.front)) y.part given
  goes_on = record {
    keeps = keeps;
    size = omega (arith, ap length rows_now, ap length y.rows_are, length-append y.front (y.new ∷ y.back), length-append y.front (y.row ∷ y.back));
    rows = rows_after;
    end = end_now;
    lines = λ steps s is less.
        ap (λ (o : Option ℕ). o >>= λ m. row_line m given.rows) (lines_stay steps)
        ∙ line_there (suc (length y.front)) (line_at_steps steps (lines_of_rows y.part.rows)) y.part.rows given.rows s
        (ap dashes_of rows_now ∙ (dashes_same ∙ ap dashes_of (sym y.rows_are))) rows_after is less;
  }

  -- a later document
  pub exchanged_documents : (m : ℕ) (d : PlacedPart) → placed_document m c ≡ Some d → k < m → StaysPlaced d m new
  exchanged_documents m d placed later = later_placed c k (suc (length y.front)) y.part given y.there goes_on m d placed later

  -- an item or entry after it
  pub exchanged_entries : (m : ℕ) (steps : List Step) (e : RowsOfEntry) → rows_of_entry m steps c ≡ Some e → IsAfter k (suc (length y.front)) m (length e.front) → StaysInRows e m steps new
  exchanged_entries m steps e is later = later_entries c k (suc (length y.front)) y.part given y.there goes_on m steps e is later
