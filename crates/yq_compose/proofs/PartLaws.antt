-- Where the documents of a text are among its rows is given by where its parts end.
use Rattle.std.proofs.Common.{rules, ◌≡◌, ℕ, zero, suc, ◌+◌, ◌≤◌, Bool, true, false, ◌||◌, not, List, [], ◌∷◌, ◌++◌, length, drop, map}
use Rattle.std.proofs.Common.{Option, Some, refl, sym, ap, ◌∙◌, arith, append_assoc, append-nil, length-append}
use Rattle.std.{proofs.lemmas.Bool.{cond-false, cond-true, le-ltb, lt-ltb}, proofs.lemmas.List.{drop_all, length-map}}
use Rattle.std.{proofs.lemmas.Option.{same_Some, slice_get-map}, specs.List.slice_get, specs.Prelude.option_map}
use Rattle.yq_outline.{specs.Comments.head_comment, proofs.EndsLaws.drop_at}
use Rattle.yq_row_table.{specs.Grammar.begins_document, specs.Rows.{Row, Part, Cut, last, marked}, specs.Splices.first_gap as gap_of}
use Rattle.yq_row_table.specs.View.{Bound, Slices, slices, bounds_from, rows_of, RowsView}
use Rattle.yq_documents.{specs.Documents.{begins_bare, has_begin, parts_from}, specs.PartReading.{first_rows, some_begin}}
use Rattle.yq_documents.{specs.Reading.cut_of, specs.PartNumbers.{number_from, rows_to}, specs.declared.documents.DocumentRows.DocumentRows}
use Rattle.yq_documents.proofs.BeginLaws.{document_is}
use Rattle.yq_compose.specs.Decoding.{IsCutInto}
use Rattle.yq_compose.specs.Places.{AreLocated, all_document_rows, gap_before_row, part_row, document_view, documents_view}

-- the gap in front of rows that come after others
get_seam : (xs : List Row) (r : Row) (ys : List Row) → slice_get (xs ++ (r ∷ ys)) (length xs) ≡ Some r
get_seam [] r ys = refl
get_seam (x ∷ xs) r ys = get_seam xs r ys

gap_there : (all xs rs more : List Row) (end marker : List ℕ) → all ≡ xs ++ (rs ++ more) → gap_before_row (map slices all) (length xs) (record { rows = length xs + length rs; end = end; marker = marker }) ≡ gap_of rs end
gap_there all xs rs more end marker is = search (rules, cond-false, le-ltb, cond-true, lt-ltb, slice_get-map, get_seam)

-- where a document is, and the gap that its lead ends
abbrev RowsAt : ℕ → Bool → ℕ → Cut → Part → ℕ × ℕ × List ℕ
RowsAt k is n c p = (k + rows_to (number_from is n c) c, k + rows_to (number_from is n c) c + length p.rows, gap_of p.rows p.end)

abbrev HasRowsIn : List Row → ℕ → Bool → ℕ → Cut → Part → Type 0
HasRowsIn all k is n c p = slice_get (all_document_rows (map slices all) is k (bounds_from k c)) n ≡ Some (RowsAt k is n c p)

agrees_here : (all xs : List Row) (q p : Part) (k : ℕ) (more : List Row) (marker : List ℕ) → q ≡ p → k ≡ length xs → all ≡ xs ++ (q.rows ++ more) →
    ◌≡◌ {A = ℕ × ℕ × List ℕ} (k, k + length q.rows, gap_before_row (map slices all) k (record { rows = k + length q.rows; end = q.end; marker = marker })) (k + 0, k + 0 + length p.rows, gap_of p.rows p.end)
agrees_here all xs q p k more marker same at is = search (rules, gap_there)

agrees_sum : (k m n : ℕ) (p : Part) → ◌≡◌ {A = Option (ℕ × ℕ × List ℕ)} (Some (k + m + n, k + m + n + length p.rows, gap_of p.rows p.end)) (Some (k + (m + n), k + (m + n) + length p.rows, gap_of p.rows p.end))
agrees_sum k m n p =
    let sum : k + m + n ≡ k + (m + n) = omega arith in
    λ i. Some (sum i, sum i + length p.rows, gap_of p.rows p.end)

agrees_at : (all xs : List Row) (k : ℕ) (is : Bool) (n : ℕ) (c : Cut) (p : Part) → k ≡ length xs → all ≡ xs ++ rows_of c → slice_get (parts_from is c) n ≡ Some p → HasRowsIn all k is n c p
agrees_at all xs k true zero (last q) p at is e = ap (λ x. Some x) (agrees_here all xs q p k [] [] (same_Some _ _ e) at (is ∙ ap (λ (l : List Row). xs ++ l) (sym (append-nil q.rows))))
agrees_at all xs k true (suc n) (last q) p at is e = absurd (cc)
agrees_at all xs k false n (last q) p at is e = absurd (cc)
agrees_at all xs k true zero (marked q marker c) p at is e = ap (λ x. Some x) (agrees_here all xs q p k (rows_of c) marker (same_Some _ _ e) at is)
agrees_at all xs k true (suc n) (marked q marker c) p at is e =
    agrees_at all (xs ++ q.rows) (k + length q.rows) (begins_document marker) n c p (omega (arith, at, length-append xs q.rows)) (is ∙ sym (append_assoc xs q.rows (rows_of c))) e
    ∙ agrees_sum k (length q.rows) (rows_to (number_from (begins_document marker) n c) c) p
agrees_at all xs k false n (marked q marker c) p at is e =
    agrees_at all (xs ++ q.rows) (k + length q.rows) (begins_document marker) n c p (omega (arith, at, length-append xs q.rows)) (is ∙ sym (append_assoc xs q.rows (rows_of c))) e
    ∙ agrees_sum k (length q.rows) (rows_to (number_from (begins_document marker) n c) c) p

-- how many documents there are
agrees_count : (ss : List Slices) (is : Bool) (k : ℕ) (c : Cut) → length (all_document_rows ss is k (bounds_from k c)) ≡ length (parts_from is c)
agrees_count ss true k (last q) = refl
agrees_count ss false k (last q) = refl
agrees_count ss true k (marked q marker c) = ap suc (agrees_count ss (begins_document marker) (k + length q.rows) c)
agrees_count ss false k (marked q marker c) = agrees_count ss (begins_document marker) (k + length q.rows) c

pub are_placed : (t : List ℕ) (s : RowsView) (ds : List DocumentRows) → IsCutInto t s → documents_view ds ≡ all_document_rows s.rows (first_rows s.bounds || not (some_begin s.bounds)) 0 s.bounds → AreLocated t ds
are_placed t s ds k e =
    let c : Cut = cut_of t in
    let is : Bool = begins_bare c || not (has_begin c) in
    let start : (n : ℕ) → 0 + rows_to (number_from is n c) c ≡ rows_to (number_from is n c) c = λ n. omega arith in
    let agrees : documents_view ds ≡ all_document_rows (map slices (rows_of c)) is 0 (bounds_from 0 c) = e ∙ (λ i. all_document_rows (k.rows i).rows (document_is c s k.rows i) 0 (k.rows i).bounds) in
    record {
      count = sym (length-map ds document_view) ∙ (ap length agrees ∙ agrees_count (map slices (rows_of c)) is 0 c);
      each = λ n d p there at.
          let own : document_view d ≡ RowsAt 0 is n c p =
          same_Some _ _ (sym (slice_get-map document_view ds n ∙ ap (option_map document_view) there) ∙ (ap (λ l. slice_get l n) agrees ∙ agrees_at (rows_of c) [] 0 is n c p refl refl at)) in
          record {
            lead = ap (λ (x : ℕ × ℕ × List ℕ). head_comment x.2) own;
            first = ap (λ (x : ℕ × ℕ × List ℕ). x.0) own ∙ start n;
            end = ap (λ (x : ℕ × ℕ × List ℕ). x.1) own ∙ ap (λ (x : ℕ × ℕ × List ℕ). x.0 + length p.rows) (sym own);
          };
    }

-- one part on
module _ (ss : List Slices) (is : Bool) (k at : ℕ) (bs : List Bound) (b : Bound) (there : slice_get bs at ≡ Some b) (next : Bool) (begins : next ≡ begins_document b.marker) (before new all : List (ℕ × ℕ × List ℕ)) where
  pub part_step : before ++ all_document_rows ss is k (drop at bs) ≡ all → new ≡ before ++ part_row ss is k b → new ++ all_document_rows ss next b.rows (drop (at + 1) bs) ≡ all
  part_step so_far pushed =
      (λ i. pushed i ++ all_document_rows ss (begins i) b.rows (drop (at + 1) bs))
      ∙ (append_assoc before (part_row ss is k b) (all_document_rows ss (begins_document b.marker) b.rows (drop (at + 1) bs))
      ∙ (ap (λ (l : List Bound). before ++ all_document_rows ss is k l) (sym (drop_at bs at b there)) ∙ so_far))

pub part_done : (ss : List Slices) (is : Bool) (k at : ℕ) (bs : List Bound) (agrees all : List (ℕ × ℕ × List ℕ)) → length bs ≤ at → agrees ++ all_document_rows ss is k (drop at bs) ≡ all → agrees ≡ all
part_done ss is k at bs agrees all past so_far = sym (append-nil agrees) ∙ (ap (λ (l : List Bound). agrees ++ all_document_rows ss is k l) (sym (drop_all at bs past)) ∙ so_far)
