-- One row of a cut, exchanged for another one that takes its place.
use Rattle.std.proofs.Common.{rules, ◌≡◌, ℕ, true, List, [], ◌∷◌, ◌++◌, length, subst}
use Rattle.yq_core.specs.Characters.{pairs_returns}
use Rattle.yq_row_table.{specs.Exchange.allows_first, specs.Grammar.{limit_after, IsRow, IsCut}}
use Rattle.yq_row_table.{specs.Rows.{Row, parent_indent, print_row, rows_text, Cut}, specs.Seams.{are_seamed, TailFits, TakesPlace, retail}}
use Rattle.yq_row_table.specs.Splices.{first_gap, after_first, nth_part, after_part, asked_at, IsRowAmong, following_rest, replace_row}
use Rattle.yq_row_table.{specs.Splices.CutsItsText, proofs.PlaceLaws.first_allowed, specs.SpliceFits.RemovalMeans}
use Rattle.yq_row_table.{proofs.seams.FrontSeams.{seams_alike, seams_row}, proofs.seams.TailLaws.{row_retailed, limit_tail}}
use Rattle.yq_row_table.{proofs.splices.PartPlaces.{row_is_there, rows_after, rows_from}, proofs.splices.SpliceCases.placed}
use Rattle.yq_row_table.proofs.splices.SpliceTexts.{first_text, first_is, row_pairs}

-- where what the rows in front ask of it is kept
one_placed : (t : List ℕ) (c : Cut) (k : ℕ) (front : List Row) (r : Row) (back : List Row) (s : Row) → IsCut t c → IsRowAmong k front r back c →
    IsRow (asked_at k (length front) c) s (following_rest k back c) → allows_first (limit_after s) back ≡ true →
    ((fs : List Row) → are_seamed fs (print_row r (following_rest k back c)) ≡ true → are_seamed fs (print_row s (following_rest k back c)) ≡ true) → CutsItsText (replace_row k front (s ∷ []) (first_gap back (nth_part k c).end) c)
one_placed t c k front r back s h is_located row allowed keeps =
    let p = nth_part k c in
    let rest = after_part k c in
    let i = length front in
    let gap = first_gap back p.end in
    let after = after_first back p.end rest in
    let asked = asked_at k i c in
    let here = rows_from k front r back c is_located in
    let next = rows_after k front r back c is_located in
    let own = row_is_there t c k front r back h is_located in
    search (rules, first_text, first_is, placed)

pub row_replaced : (t : List ℕ) (c : Cut) (k : ℕ) (front : List Row) (r : Row) (back : List Row) (s : Row) → IsCut t c →
    IsRowAmong k front r back c → TakesPlace (asked_at k (length front) c) r (following_rest k back c) s (following_rest k back c) →
    allows_first (limit_after s) back ≡ true → CutsItsText (replace_row k front (s ∷ []) (first_gap back (nth_part k c).end) c)
row_replaced t c k front r back s h is_located takes allowed = search (rules, one_placed, seams_alike)

pub row_exchanged : (t : List ℕ) (c : Cut) (k : ℕ) (front : List Row) (r : Row) (back : List Row) (s : Row) → IsCut t c → IsRowAmong k front r back c → RemovalMeans (asked_at k (length front) c) r s back (following_rest k back c) →
    CutsItsText (replace_row k front (s ∷ []) (first_gap back (nth_part k c).end) c)
row_exchanged t c k front r back s h is_located f = search (rules, row_is_there, one_placed, seams_row)

-- a row with another tail
pub tail_replaced : (t : List ℕ) (c : Cut) (k : ℕ) (front : List Row) (r : Row) (back : List Row) (new : List ℕ) → IsCut t c → IsRowAmong k front r back c → TailFits (parent_indent r) new r.content (following_rest k back c) →
    CutsItsText (replace_row k front (retail new r ∷ []) (first_gap back (nth_part k c).end) c)
tail_replaced t c k front r back new h is_located fits =
    let p = nth_part k c in
    let u : List ℕ = following_rest k back c in
    let own = row_is_there t c k front r back h is_located in
    let pairs : pairs_returns (print_row r u) ≡ true = subst (λ (rs : List Row). pairs_returns (rows_text rs (p.end ++ after_part k c)) ≡ true) (rows_from k front r back c is_located) (row_pairs t c k (length front) h) in
    search (rules, row_retailed, limit_tail, first_allowed, row_replaced)
