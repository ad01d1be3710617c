-- Part k of a cut, and what comes before and after it.
use Rattle.std.proofs.Common.{◌≡◌, ℕ, zero, suc, Bool, true, false, List, [], ◌∷◌, ◌++◌, length, drop, refl, ap, ◌∙◌, subst}
use Rattle.std.{proofs.Math.Seq.drop-append_seam, proofs.lemmas.Bool.or_right}
use Rattle.yq_core.specs.Text.{is_empty, is_marker}
use Rattle.yq_row_table.specs.Grammar.{unlimited, AreRows, no_rows, IsPart, IsMarkerLine, begins_document, AreParts, IsCut, ends_part}
use Rattle.yq_row_table.{specs.Rows.{Row, Part, part_text, Cut, last, marked, cut_text}, specs.SpliceFits.is_after}
use Rattle.yq_row_table.specs.Splices.{nth_part, after_part, marker_before, is_started, back_rows, asked_at, IsRowAmong}
use Rattle.yq_row_table.{proofs.seams.FrontSeams.rows_some, proofs.seams.MarkerSeams.after_some, proofs.seams.SeamLaws.rows_drop}

part_some : (started : Bool) (p : Part) (rest : List ℕ) → no_rows p.rows ≡ false → IsPart started p rest → is_empty (part_text p rest) ≡ false
part_some started p rest n h = rows_some unlimited p.rows p.end rest n h.rows

-- Before a part with rows is nothing, or a marker's line with a break.
pub part_after : (c : Cut) (k : ℕ) (started : Bool) (u : List ℕ) → AreParts started c → no_rows (nth_part k c).rows ≡ false → is_after (marker_before [] k c) u ≡ true
part_after (last p) k started u h n = refl
part_after (marked p marker c) zero started u h n = refl
part_after (marked p marker c) (suc k) started u h n = go c k marker (begins_document marker) h.2 h.1 n
  where
    go : (c : Cut) (k : ℕ) (before : List ℕ) (started : Bool) → AreParts started c → IsMarkerLine before (cut_text c) → no_rows (nth_part k c).rows ≡ false → is_after (marker_before before k c) u ≡ true
    go (last p) k before started h line n = after_some before (cut_text (last p)) u line (part_some started p [] n h)
    go (marked p marker c) zero before started h line n = after_some before (cut_text (marked p marker c)) u line (part_some started p (marker ++ cut_text c) n h.0)
    go (marked p marker c) (suc k) before started h line n = go c k marker (begins_document marker) h.2 h.1 n

pub part_in : (c : Cut) (k : ℕ) (started : Bool) → AreParts started c → IsPart (is_started started k c) (nth_part k c) (after_part k c)
part_in (last p) k started h = h
part_in (marked p marker c) zero started h = h.0
part_in (marked p marker c) (suc k) started h = part_in c k (begins_document marker) h.2

pub part_ends : (c : Cut) (k : ℕ) (started : Bool) → AreParts started c → ends_part (after_part k c) ≡ true
part_ends (last p) k started h = refl
part_ends (marked p marker c) zero started h = or_right (is_empty (marker ++ cut_text c)) (is_marker (marker ++ cut_text c)) h.1.marker
part_ends (marked p marker c) (suc k) started h = part_ends c k (begins_document marker) h.2

-- a row between others
drop_next : (front : List Row) (r : Row) (rs : List Row) → drop (suc (length front)) (front ++ (r ∷ rs)) ≡ rs
drop_next [] r rs = refl
drop_next (q ∷ front) r rs = drop_next front r rs

pub rows_from : (k : ℕ) (front : List Row) (r : Row) (back : List Row) (c : Cut) → IsRowAmong k front r back c → back_rows k (length front) c ≡ r ∷ back
rows_from k front r back c is_located = ap (drop (length front)) is_located ∙ drop-append_seam front (r ∷ back)

pub rows_after : (k : ℕ) (front : List Row) (r : Row) (back : List Row) (c : Cut) → IsRowAmong k front r back c → back_rows k (suc (length front)) c ≡ back
rows_after k front r back c is_located = ap (drop (suc (length front))) is_located ∙ drop_next front r back

pub row_is_there : (t : List ℕ) (c : Cut) (k : ℕ) (front : List Row) (r : Row) (back : List Row) → IsCut t c → IsRowAmong k front r back c → AreRows (asked_at k (length front) c) (r ∷ back) (nth_part k c).end (after_part k c)
row_is_there t c k front r back h is_located =
    let own = rows_drop (length front) (nth_part k c).rows unlimited (nth_part k c).end (after_part k c) (part_in c k true h.parts).rows in
    subst (λ (rs : List Row). AreRows (asked_at k (length front) c) rs (nth_part k c).end (after_part k c)) (rows_from k front r back c is_located) own
