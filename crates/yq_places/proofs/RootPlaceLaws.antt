-- Where a document ends in which no rows are, as the code counts it.
use Rattle.std.proofs.Common.{rules, ◌≡◌, ℕ, zero, suc, ◌+◌, List, [], ◌++◌, length, map, take, drop, Some, None, true, refl, sym, ap, ◌∙◌}
use Rattle.std.proofs.Common.{subst, arith, append_assoc, append-nil, length-append}
use Rattle.std.proofs.Math.Seq.{drop-append_seam, take-append_seam, take-append-add}
use Rattle.std.{proofs.lemmas.Bool.{false≢true, cond-true, cond-false}, proofs.lemmas.List.{length-map, map-append, nil_from_length}}
use Rattle.std.{proofs.lemmas.List.Sums.{sum_by-cons, sum_by-append}, proofs.lemmas.Option.same_Some, specs.List.{slice_get, sum_by}}
use Rattle.std.specs.Str.{IsUtf8, IsCharBoundary}
use Rattle.yq_core.proofs.Bools.{bind_some, guard_then}
use Rattle.yq_row_table.{specs.Grammar.{unlimited, AreRows, IsCut, no_rows}, specs.Offsets.row_length}
use Rattle.yq_row_table.{specs.Rows.{Row, rows_text, Part, part_text, Cut, last, marked}, specs.Splices.nth_part}
use Rattle.yq_row_table.{specs.View.{Slices, slices, Bound, bounds_from, bounds_of, rows_of, RowsView, rows_view}, specs.RowStarts.part_end}
use Rattle.yq_outline.{specs.Extents.bound_length, proofs.LengthLaws.part-length}
use Rattle.yq_documents.{specs.Pieces.TextPiece, specs.PartNumbers.{document_part, rows_to}}
use Rattle.yq_documents.{proofs.PartNumberLaws.{document_found, document_missing, end_agrees}, specs.Reading.cut_of}
use Rattle.yq_places.{specs.PlacedRows.{before_part, placed_at, placed_document}, specs.RootReading.{if_rowless, rowless_place, rowless_at}}
use Rattle.yq_places.{proofs.CommentPieceLaws.gap_end, proofs.PlacedPartLaws.{map_some, part_is_there}}
use Rattle.yq_places.{proofs.RemovalLines.{LineSeam, lies_in, seam_join}, proofs.RemovalViewLaws.line_boundary}

-- ---- the sums of the code

-- how long rows are
abbrev rows_sum : List Row → ℕ
rows_sum rows = sum_by row_length (map slices rows)

-- the rows of a part, and some after it
rows_first : (a b : List Row) (m : ℕ) → sum_by row_length (take (length a + m) (map slices (a ++ b))) ≡ rows_sum a + sum_by row_length (take m (map slices b))
rows_first a b m = search (rules, map-append, ← length-map, take-append-add, sum_by-append)

no_sum : (ss : List Slices) → sum_by row_length (take 0 ss) ≡ 0
no_sum ss = refl

ends_here : (p : Part) (after : List Row) → sum_by row_length (take (0 + length p.rows) (map slices (p.rows ++ after))) ≡ rows_sum p.rows
ends_here p after =
    let none : 0 + length p.rows ≡ length p.rows + 0 = omega arith in
    ap (λ (k : ℕ). sum_by row_length (take k (map slices (p.rows ++ after)))) none ∙ (rows_first p.rows after 0 ∙ omega (arith, no_sum (map slices after)))

-- the rows before the end of part i, and the bounds before it, are the text up to there
ends_at : (i n : ℕ) (c : Cut) (b : Bound) → slice_get (bounds_from n c) i ≡ Some b →
    sum_by row_length (take (rows_to i c + length (nth_part i c).rows) (map slices (rows_of c))) + sum_by bound_length (take i (bounds_from n c)) + length b.end ≡ length (before_part i c ++ part_text (nth_part i c) [])
ends_at zero n (last p) b e =
    let all = ap (λ (rs : List Row). sum_by row_length (take (0 + length p.rows) (map slices rs))) (sym (append-nil p.rows)) ∙ ends_here p [] in
    omega (arith, all, part-length p [], ap (λ (x : Bound). length x.end) (same_Some _ _ e))
ends_at (suc i) n (last p) b e = absurd (cc)
ends_at zero n (marked p marker c) b e = omega (arith, ends_here p (rows_of c), part-length p [], ap (λ (x : Bound). length x.end) (same_Some _ _ e))
ends_at (suc i) n (marked p marker c) b e =
    let first : Bound = record { rows = n + length p.rows; end = p.end; marker = marker } in
    let bs : List Bound = bounds_from (n + length p.rows) c in
    let size : ℕ = rows_to i c + length (nth_part i c).rows in
    let text : length ((part_text p marker ++ before_part i c) ++ part_text (nth_part i c) []) ≡ length (part_text p marker) + length (before_part i c ++ part_text (nth_part i c) []) =
    omega (arith, length-append (part_text p marker ++ before_part i c) (part_text (nth_part i c) []), length-append (part_text p marker) (before_part i c), length-append (before_part i c) (part_text (nth_part i c) [])) in
    let sum : length p.rows + rows_to i c + length (nth_part i c).rows ≡ length p.rows + size = omega arith in
    let rows = ap (λ (k : ℕ). sum_by row_length (take k (map slices (p.rows ++ rows_of c)))) sum ∙ rows_first p.rows (rows_of c) size in
    omega (arith, rows, sum_by-cons bound_length first (take i bs), ends_at i (n + length p.rows) c b e, part-length p marker, text)

-- ---- documents that were found

pub no_end : (c : Cut) (i : ℕ) → None ≡ document_part i c → None ≡ rowless_at i c
no_end c i e = search (rules, document_missing)

-- where a document ends, by the bound of its part
module _ (s : RowsView) (c : Cut) (i k first : ℕ) (b : Bound) (is : s ≡ rows_view c) (number : Some k ≡ document_part i c) (from : first ≡ rows_to k c) (bound : slice_get s.bounds k ≡ Some b) where
  at : slice_get (bounds_of c) k ≡ Some b
  at = ap (λ (x : RowsView). slice_get x.bounds k) (sym is) ∙ bound

  size : b.rows ≡ rows_to k c + length (nth_part k c).rows
  size = end_agrees k 0 c b at ∙ omega arith

  placed : rowless_place i c ≡ if_rowless (placed_at k c)
  placed = search (rules, document_found, number)

  pub written_none : (first ≡ b.rows → ⊥) → None ≡ rowless_at i c
  written_none some = search (rules, placed, cond-false, size)

  pub end_there : first ≡ b.rows → Some (part_end k b s) ≡ rowless_at i c
  end_there h0 = search (rules, nil_from_length, size, ends_at, append-nil, placed, cond-true)

-- ---- the place in the text

-- A text in two at the place of a root that isn't written.
record IsUnwritten (t : List ℕ) (w : TextPiece) : Type 0 where
  pub text : t ≡ w.before ++ w.after
  pub none : w.text ≡ []
  pub seam : LineSeam w.before w.after

unwritten_is : (t : List ℕ) (i : ℕ) (w : TextPiece) → IsCut t (cut_of t) → rowless_place i (cut_of t) ≡ Some w → IsUnwritten t w
unwritten_is t i w cut e =
    let c : Cut = cut_of t in
    let d = bind_some (placed_document i c) e in
    let g = guard_then (no_rows d.0.part.rows) d.2 in
    let rows : d.0.part.rows ≡ [] = none_left d.0.part.rows g.0 in
    let st = part_is_there i c d.0 d.1 in
    let lies = lies_in i c d.0 cut.parts d.1 in
    let part : part_text d.0.part d.0.after ≡ d.0.part.end ++ d.0.after = ap (λ (rs : List Row). rows_text rs (d.0.part.end ++ d.0.after)) rows in
    let gap = gap_end d.0.part.end d.0.after (subst (λ (rs : List Row). AreRows unlimited rs d.0.part.end d.0.after) rows lies.rows) in
    subst (IsUnwritten t) (same_Some _ _ g.1) (record {
      text = cut.text ∙ (st.text ∙ (ap (λ x. d.0.before ++ x) part ∙ sym (append_assoc d.0.before d.0.part.end d.0.after)));
      none = refl;
      seam = seam_join d.0.before d.0.part.end d.0.after (subst (LineSeam d.0.before) part lies.seam) gap;
    })
  where
    none_left : (rs : List Row) → no_rows rs ≡ true → rs ≡ []
    none_left rs e = search (rules, false≢true)

pub unwritten_boundary : (t : List ℕ) (i end : ℕ) → IsCut t (cut_of t) → IsUtf8 t → Some end ≡ rowless_at i (cut_of t) → IsCharBoundary t end
unwritten_boundary t i end cut u e =
    let w = map_some (λ (x : TextPiece). length x.before) (rowless_place i (cut_of t)) end (sym e) in
    let x = unwritten_is t i w.0 cut w.1 in
    subst (λ (y : List ℕ). IsCharBoundary y end) (sym x.text) (subst (IsCharBoundary (w.0.before ++ w.0.after)) w.2 (line_boundary w.0.before w.0.after x.seam (subst IsUtf8 x.text u)))

pub rowless_agrees : (t : List ℕ) (i end : ℕ) (before after : List ℕ) → IsCut t (cut_of t) → Some end ≡ rowless_at i (cut_of t) → before ≡ take end t → after ≡ drop end t →
    Some (record { before = before; text = []; after = after }) ≡ rowless_place i (cut_of t)
rowless_agrees t i end before after cut e first second =
    let w = map_some (λ (x : TextPiece). length x.before) (rowless_place i (cut_of t)) end (sym e) in
    let x = unwritten_is t i w.0 cut w.1 in
    search (rules, take-append_seam, drop-append_seam, x.text)
