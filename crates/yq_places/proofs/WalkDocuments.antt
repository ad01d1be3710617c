-- The rows of documents among those of a text.
use Rattle.std.proofs.Common.{rules, ◌≡◌, ℕ, zero, suc, ◌+◌, ◌-◌, ◌≤◌, List, [], ◌∷◌, ◌++◌, length, take, drop, Option, Some, None}
use Rattle.std.proofs.Common.{option_map, true, refl, sym, ap, ◌∙◌, arith, length-append}
use Rattle.std.{proofs.lemmas.Bool.{lt-ltb, le-ltb, cond-true, cond-false}, proofs.lemmas.Option.same_Some, specs.List.slice_get}
use Rattle.std.specs.Prelude.{IfSome}
use Rattle.yq_core.{specs.Answers.◌>>=◌, specs.Paths.Step}
use Rattle.yq_outline.{specs.Ends.line_at_steps, specs.Lines.lines_of_rows, proofs.RowLaws.lines_count}
use Rattle.yq_outline.{specs.RowWalk.{HasDocument, HasRows, IsLine, line_number, stretch_view}, proofs.WalkPositions.located}
use Rattle.yq_outline.{specs.declared.line_position.Position.Position, specs.declared.line_position.Stretch.Stretch}
use Rattle.yq_row_table.{specs.Grammar.IsCut, specs.Rows.{Row, Part, Cut}, specs.View.{Bound, rows_of, RowsView, rows_view}}
use Rattle.yq_documents.{specs.Documents.document_parts, proofs.PartRows.{document_has, part_begins}}
use Rattle.yq_documents.{specs.LinesInRows.{row_line, row_line_of, row_line_at, document_row}, specs.PartNumbers.{document_part, rows_to}}
use Rattle.yq_documents.{proofs.PartNumberLaws.{part_there, document_found, document_missing, end_agrees}, specs.declared.path.Path.Path}
use Rattle.yq_documents.{specs.Located.steps_of, specs.Reading.all_documents}
use Rattle.yq_places.{specs.RowWalk.{InCut, document_row_range}, specs.RowLineReading.position_in}

-- the rows of a document, by the number of its part
pub rows_known : (c : Cut) (s : RowsView) (n k first : ℕ) (b : Bound) → s ≡ rows_view c → Some k ≡ document_part n c → first ≡ rows_to k c → slice_get s.bounds k ≡ Some b → Some (first, b.rows) ≡ document_row_range n c
rows_known c s n k first b is number from bound = search (rules, arith, document_found, end_agrees, part_there)

pub no_rows_view : (c : Cut) (n : ℕ) → None ≡ document_part n c → None ≡ document_row_range n c
no_rows_view c n e = sym (ap (option_map (λ (p : Part). (document_row n c, document_row n c + length p.rows))) (document_missing c n e))

-- the line of a number, by its row
pub row_line_number : (rs : List Row) (i k : ℕ) (r : Row) → slice_get rs i ≡ Some r → k ≤ length r.dashes → row_line (length (lines_of_rows (take i rs)) + k) rs ≡ Some (record { before = i; row = r; line = k })
row_line_number [] i k r e h = absurd (cc)
row_line_number (x ∷ rs) zero k r e h = search (rules, arith, same_Some _ _ e, same_Some, cond-false, le-ltb)
row_line_number (x ∷ rs) (suc i) k r e h = search (rules, arith, lines_count, length-append, cond-true, lt-ltb, row_line_number rs i k r e h)

-- A document that was found in a text with its cut.
pub record Found (s : RowsView) (c : Cut) (n : ℕ) (d : Stretch) : Type 0 where
  pub part : Part
  pub there : slice_get (document_parts c) n ≡ Some part
  pub first : d.first ≡ document_row n c
  pub document : HasDocument s d
  pub rows : document.are_there.rows ≡ part.rows

pub found_document : (t : List ℕ) (s : RowsView) (c : Cut) (n : ℕ) (d : Stretch) → IsCut t c → s ≡ rows_view c → Some (stretch_view d) ≡ document_row_range n c → all_documents c ≡ true → Found s c n d
found_document t s c n d cut is e known = go (slice_get (document_parts c) n) refl e
  where
    go : (o : Option Part) → slice_get (document_parts c) n ≡ o → Some (stretch_view d) ≡ option_map (λ p. (document_row n c, document_row n c + length p.rows)) o → Found s c n d
    go None at e = absurd (cc)
    go (Some p) at e =
        let same : (d.first, d.end) ≡ (document_row n c, document_row n c + length p.rows) = same_Some _ _ e in
        let x = document_has t s c n p d cut is at (ap (λ (y : ℕ × ℕ). y.0) same) (ap (λ (y : ℕ × ℕ). y.1) same) known in
        record { part = p; there = at; first = ap (λ (y : ℕ × ℕ). y.0) same; document = x.0; rows = x.1 }

-- its rows are among those of the cut
pub found_in_cut : (t : List ℕ) (s : RowsView) (c : Cut) (n : ℕ) (d : Stretch) → IsCut t c → s ≡ rows_view c → (f : Found s c n d) → (k : InCut s d c) × (k.document.are_there.rows ≡ f.part.rows)
found_in_cut t s c n d cut is f =
    let b = part_begins c n f.part f.there in (
      record {
        text = t;
        cut = cut;
        rows = is;
        document = f.document;
        more = b.0;
        there = ap (λ (k : ℕ). drop k (rows_of c)) f.first ∙ (b.1 ∙ ap (λ (rs : List Row). rs ++ b.0) (sym f.rows));
      },
      f.rows,
    )

-- a place in a document that was found
pub place_found : {A : Type 0} (t : List ℕ) (s : RowsView) (c : Cut) (n : ℕ) (d : Stretch) (found : Option A)
    (place : ℕ → Cut → List Row → Option A) → IsCut t c → s ≡ rows_view c → Some (stretch_view d) ≡ document_row_range n c → all_documents c ≡ true →
    ((k : InCut s d c) → found ≡ place d.first c k.document.are_there.rows) → found ≡ (slice_get (document_parts c) n >>= λ p. place (document_row n c) c p.rows)
place_found t s c n d found place cut is e known agrees =
    search (rules, found_document t s c n d cut is e known, found_in_cut t s c n d cut is (found_document t s c n d cut is e known))

pub no_place_found : {A : Type 0} (c : Cut) (n : ℕ) (place : ℕ → Cut → List Row → Option A) → None ≡ document_row_range n c → None ≡ (slice_get (document_parts c) n >>= λ p. place (document_row n c) c p.rows)
no_place_found c n place e = search rules

-- the line of a path in a document that was found
pub row_line_found : (s : RowsView) (c : Cut) (path : Path) (d : Stretch) (steps : List Step) (found : Option Position)
    (f : Found s c path.doc d) → steps ≡ steps_of path → found ≡ option_map (position_in d.first) (row_line_of steps f.document.are_there.rows) →
    found ≡ option_map (position_in (document_row path.doc c)) (row_line_at path c)
row_line_found s c path d steps found f same e = search rules

-- the line to which steps lead, by its row
pub row_line_reached : (s : RowsView) (d : Stretch) (h : HasRows s d) (steps : List Step) (o : Option Position) → IfSome o (IsLine s d) → option_map (line_number d h.rows) o ≡ line_at_steps steps (lines_of_rows h.rows) →
    o ≡ option_map (position_in d.first) (row_line_of steps h.rows)
row_line_reached s d h steps None at e = ap (λ (o : Option ℕ). option_map (position_in d.first) (o >>= λ n. row_line n h.rows)) e
row_line_reached s d h steps (Some q) at e =
    let k = located s d h q at in
    search (rules, row_line_number)
