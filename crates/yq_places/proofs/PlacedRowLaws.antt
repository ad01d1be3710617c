-- A document's rows in the text of a cut, and the row of a line, by the rows of all parts.
use Rattle.std.proofs.Common.{◌≡◌, ℕ, zero, suc, ◌+◌, List, [], ◌∷◌, ◌++◌, length, take, drop, Option, Some, None, option_map, refl, sym}
use Rattle.std.{proofs.Common.{ap, ◌∙◌, subst, arith, rules}, proofs.lemmas.Bool.{lt-ltb, le-ltb, cond-true, cond-false}}
use Rattle.std.{proofs.lemmas.Option.{slice_get_within, none-some, same_Some}, specs.List.slice_get}
use Rattle.yq_core.specs.Answers.{◌>>=◌}
use Rattle.yq_row_table.{specs.Exchange.{text_after_row, after_row}, specs.Rows.{Row, rows_text, Part, Cut, last, marked}}
use Rattle.yq_row_table.{specs.Splices.{nth_part, after_part}, specs.View.rows_of}
use Rattle.yq_outline.{specs.declared.line_position.Position.Position, specs.Ends.line_at_steps, specs.Lines.lines_of_rows}
use Rattle.yq_outline.proofs.KnownLaws.{get_front}
use Rattle.yq_documents.{specs.declared.path.Path.Path, specs.Documents.document_parts, specs.Located.steps_of}
use Rattle.yq_documents.{specs.LinesInRows.{RowLine, row_line_of, row_line_at, document_row}, specs.PartNumbers.rows_to}
use Rattle.yq_documents.proofs.PartNumberLaws.{part_there}
use Rattle.yq_places.{specs.CommentReading.before_row, specs.PlacedRows.{PlacedPart, PlacedRow, placed_document, placed_row, row_of_path}}
use Rattle.yq_places.{specs.RowLineReading.position_in, proofs.PlacedPartLaws.{part_is_there, row_before}, proofs.RowLineSpans.steps_row}

-- A row of a cut comes after others, between these texts.
pub record IsAt (c : Cut) (i : ℕ) (before : List ℕ) (r : Row) (after : List ℕ) : Type 0 where
  pub there : slice_get (rows_of c) i ≡ Some r
  pub before_is : before_row i c ≡ before
  pub following_is : after_row i c ≡ after

-- So do the rows of a document.
abbrev pub HasRowsAt : Cut → ℕ → PlacedPart → Type 0
HasRowsAt c k s = (j : ℕ) (r : Row) → slice_get s.part.rows j ≡ Some r → IsAt c (k + j) (s.before ++ rows_text (take j s.part.rows) []) r (rows_text (drop (suc j) s.part.rows) (s.part.end ++ s.after))

following_rows : (rows : List Row) (i : ℕ) (rest : List ℕ) → text_after_row i rows rest ≡ rows_text (drop (suc i) rows) rest
following_rows (x ∷ rows) (suc i) rest = following_rows rows i rest
following_rows _ _ rest = refl

get_after : (xs ys : List Row) (n : ℕ) → slice_get (xs ++ ys) (length xs + n) ≡ slice_get ys n
get_after [] ys n = ap (slice_get ys) (omega arith)
get_after (x ∷ xs) ys n = let more : suc (length xs) + n ≡ suc (length xs + n) = omega arith in ap (slice_get (x ∷ (xs ++ ys))) more ∙ get_after xs ys n

rows_at : (i : ℕ) (c : Cut) (j : ℕ) (r : Row) → slice_get (nth_part i c).rows j ≡ Some r →
    (slice_get (rows_of c) (rows_to i c + j) ≡ Some r) × (after_row (rows_to i c + j) c ≡ rows_text (drop (suc j) (nth_part i c).rows) ((nth_part i c).end ++ after_part i c))
rows_at i (last p) j r is = search (rules, arith, following_rows)
rows_at zero (marked p marker c) j r is = search (rules, arith, lt-ltb, slice_get_within, get_front, cond-true, following_rows)
rows_at (suc i) (marked q marker c) j r is = search (rules, arith, le-ltb, get_after, cond-false, rows_at i c j r is)

pub part_at : (n : ℕ) (c : Cut) (s : PlacedPart) → placed_document n c ≡ Some s → HasRowsAt c (document_row n c) s
part_at n c s e = search (rules, part_is_there, rows_at, row_before, slice_get_within)

-- a document's part
abbrev pub part_of : Option PlacedPart → Option Part
part_of o = option_map (λ (s : PlacedPart). s.part) o

pub document_placed : (n : ℕ) (c : Cut) → slice_get (document_parts c) n ≡ part_of (placed_document n c)
document_placed n c = search (rules, part_there)

-- The line that the code tells is one of a row that is there.
pub record IsRowLineOf (path : Path) (c : Cut) (n : Position) (w : PlacedRow) : Type 0 where
  pub is : row_of_path path.doc (steps_of path) c ≡ Some w
  pub line : n.line ≡ w.line
  pub at : IsAt c n.row w.before w.row w.after

pub row_line_placed : (path : Path) (c : Cut) (n : Position) → Some n ≡ option_map (position_in (document_row path.doc c)) (row_line_at path c) → (w : PlacedRow) × IsRowLineOf path c n w
row_line_placed path c n e = go (placed_document path.doc c) refl (e ∙ ap (λ (o : Option Part). option_map (position_in (document_row path.doc c)) (o >>= λ d. row_line_of (steps_of path) d.rows)) (document_placed path.doc c))
  where
    at_row_line : (s : PlacedPart) → placed_document path.doc c ≡ Some s → (o : Option RowLine) → row_line_of (steps_of path) s.part.rows ≡ o →
        Some n ≡ option_map (position_in (document_row path.doc c)) o → (w : PlacedRow) × IsRowLineOf path c n w
    at_row_line s there None is e = absurd (none-some _ (sym e))
    at_row_line s there (Some x) is e =
        let found : n ≡ position_in (document_row path.doc c) x = same_Some _ _ e in
        let row = steps_row (line_at_steps (steps_of path) (lines_of_rows s.part.rows)) s.part.rows x is in
        let at = part_at path.doc c s there x.before x.row row in
        let w : PlacedRow = placed_row s x in (
          w,
          record {
            is = ap (λ (o : Option PlacedPart). o >>= λ s. option_map (placed_row s) (row_line_of (steps_of path) s.part.rows)) there ∙ ap (option_map (placed_row s)) is;
            line = ap (λ (y : Position). y.line) found;
            at = subst (λ i. IsAt c i w.before w.row w.after) (sym (ap (λ (y : Position). y.row) found)) at;
          },
        )

    go : (o : Option PlacedPart) → placed_document path.doc c ≡ o → Some n ≡ option_map (position_in (document_row path.doc c)) (part_of o >>= λ d. row_line_of (steps_of path) d.rows) → (w : PlacedRow) × IsRowLineOf path c n w
    go None is e = absurd (none-some _ (sym e))
    go (Some s) is e = at_row_line s is (row_line_of (steps_of path) s.part.rows) refl e

pub no_row_line_placed : (path : Path) (c : Cut) (k : ℕ) → None ≡ option_map (position_in k) (row_line_at path c) → row_of_path path.doc (steps_of path) c ≡ None
no_row_line_placed path c k e = search (rules, document_placed)
