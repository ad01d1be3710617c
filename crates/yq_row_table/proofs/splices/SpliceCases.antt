-- Rows put in, taken away, or exchanged for others that begin like them.
use Rattle.std.proofs.Common.{◌≡◌, ℕ, Bool, true, false, not, ◌||◌, List, [], ◌++◌, take, drop, refl, ⊎_elim, rules}
use Rattle.std.proofs.lemmas.Bool.{false≢true, or_right, cases_Bool}
use Rattle.yq_row_table.{specs.Exchange.{allows_first, asked_after}, specs.Grammar.{unlimited, no_rows, IsPart, IsCut, AreRows}}
use Rattle.yq_row_table.{specs.Rows.{Row, rows_text, Part, Cut}, specs.Seams.{are_seamed, ends_in_block}}
use Rattle.yq_row_table.specs.SpliceFits.{is_after, InsertFits, ReplaceFits, RemoveFits}
use Rattle.yq_row_table.specs.Splices.{splice, nth_part, after_part, is_started, marker_before, front_rows, back_rows, after_rows}
use Rattle.yq_row_table.{specs.Splices.{CutsItsText, asked_at}, proofs.seams.FrontSeams.{seams_were, seams_any, seams_alike}}
use Rattle.yq_row_table.{proofs.seams.SeamLaws.rows_parted, proofs.splices.PartPlaces.{part_after, part_in}}
use Rattle.yq_row_table.proofs.splices.SpliceLaws.{spliced}

more_of : (i : ℕ) (rs : List Row) → no_rows (drop i rs) ≡ false → no_rows rs ≡ false
more_of i rs h1 = search rules

more_front : (i : ℕ) (rs : List Row) → no_rows (take i rs) ≡ false → no_rows rs ≡ false
more_front i rs h1 = search (rules, false≢true)

-- where rows are, a document is open
pub open_part : (started b : Bool) → (started || b) ≡ true → b ≡ false → started ≡ true
open_part started b h n = search (rules, false≢true)

part_started : (started : Bool) (p : Part) (rest : List ℕ) → IsPart started p rest → no_rows p.rows ≡ false → started ≡ true
part_started started p rest h n = open_part started (no_rows p.rows) h.inside n

-- rows put in
pub inserted : (t : List ℕ) (c : Cut) (k i : ℕ) (new : List Row) (gap : List ℕ) → IsCut t c → InsertFits k i new gap c → CutsItsText (splice k i i new gap c)
inserted t c k i new gap h f = search (rules, part_started, part_in, more_front, spliced)

-- Before a part with rows a text may be as far as the marker goes.
starts : (t : List ℕ) (c : Cut) (k i : ℕ) (u : List ℕ) → IsCut t c → no_rows (back_rows k i c) ≡ false → (not (no_rows (front_rows k i c)) || is_after (marker_before [] k c) u) ≡ true
starts t c k i u h some = or_right (not (no_rows (front_rows k i c))) (is_after (marker_before [] k c) u) (part_after c k true u h.parts (more_of i (nth_part k c).rows some))

-- rows in the place of others, where what the rows in front ask of the text after them is kept
pub placed : (t : List ℕ) (c : Cut) (k i j : ℕ) (new : List Row) (gap : List ℕ) → IsCut t c → no_rows (back_rows k i c) ≡ false →
    AreRows (asked_at k i c) new gap (after_rows k j c) → allows_first (asked_after (asked_at k i c) new) (back_rows k j c) ≡ true →
    ((fs : List Row) → are_seamed fs (rows_text (back_rows k i c) ((nth_part k c).end ++ after_part k c)) ≡ true → are_seamed fs (rows_text new (gap ++ after_rows k j c)) ≡ true) → CutsItsText (splice k i j new gap c)
placed t c k i j new gap h some rows next keeps =
    let p = nth_part k c in
    let rest = after_part k c in
    let front = front_rows k i c in
    let back = back_rows k i c in
    let u = rows_text new (gap ++ after_rows k j c) in
    let part = part_in c k true h.parts in
    let was = seams_were front back unlimited p.end rest (rows_parted i p.rows unlimited p.end rest part.rows) in
    search (rules, part_started, more_of, spliced, starts)

pub replaced : (t : List ℕ) (c : Cut) (k i j : ℕ) (new : List Row) (gap : List ℕ) → IsCut t c → ReplaceFits k i j new gap c → CutsItsText (splice k i j new gap c)
replaced t c k i j new gap h f = placed t c k i j new gap h f.some f.rows f.next (λ fs. seams_alike fs (rows_text (back_rows k i c) ((nth_part k c).end ++ after_part k c)) (rows_text new (gap ++ after_rows k j c)) f.alike)

pub removed : (t : List ℕ) (c : Cut) (k i j : ℕ) (gap : List ℕ) → IsCut t c → RemoveFits k i j gap c → CutsItsText (splice k i j [] gap c)
removed t c k i j gap h f =
    let p = nth_part k c in
    let rest = after_part k c in
    let front = front_rows k i c in
    let u = gap ++ after_rows k j c in
    let whole = rows_parted i p.rows unlimited p.end rest (part_in c k true h.parts).rows in
    let seam : are_seamed front u ≡ true =
    ⊎_elim {0, 0, 0} (λ e. f.seam e) (λ e. (seams_any front (back_rows k i c) unlimited p.end rest u whole f.some) e) (cases_Bool (ends_in_block front)) in
    spliced t c k i j [] gap h (record { rows = f.is_gap; next = f.next; seam = seam; start = starts t c k i u h f.some; inside = or_right (is_started true k c) true refl })
