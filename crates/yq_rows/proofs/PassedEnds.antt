-- The end of a part with which items begin: how it is read, and where its place is.
use Rattle.std.proofs.Common.{◌≡◌, ⊎_elim, ltb, eqb, ◌&&◌, Bool, true, false, ℕ, ◌+◌, ◌-◌, ◌<◌, ◌≤◌, if◌then◌else◌, List, [], ◌∷◌, ◌++◌}
use Rattle.std.proofs.Common.{length, Some, None, Option, slice_get, refl, sym, ap, ◌∙◌, arith, eqb-true, ltb-true, length-append}
use Rattle.std.proofs.lemmas.Bool.{and_parts, cases_Bool, cases_lt, eq-eqb, false≢true, le-ltb, ne_eqb}
use Rattle.std.proofs.lemmas.Option.{same_Some, slice_get_within}
use Rattle.yq_core.{specs.Alike.Alike, specs.Text.is_line, proofs.Bools.bind_some}
use Rattle.yq_row_table.{specs.Ends.end_at, specs.Gap.IsGap, specs.Grammar.{IsMarkerLine, IsPart, begins_document}}
use Rattle.yq_row_table.{specs.Items.{Item, row_item, end_item}, specs.Kept.ends_near, specs.Reading.all_parts}
use Rattle.yq_row_table.{specs.Rows.{Part, Cut, marked, print_row}, specs.declared.ends.EndPlace.EndPlace, proofs.AlikeRows.row_gap_alike}
use Rattle.yq_row_table.{proofs.PartsLaws.{marker_again, marker_ends, part_again, parts_marked}, proofs.seams.FrontSeams.closed_line}
use Rattle.yq_row_table.proofs.seams.MarkerSeams.{marker_seam}
use Rattle.yq_rows.{specs.Following.is_end_of, specs.Sides.{ends_at, past_end, text_length}, specs.declared.sides.Side.Side}

-- ---- the end of a part is read before every text

pub end_read : (gap marker x y : List ℕ) → IsGap gap (marker ++ x) → IsMarkerLine marker x → is_line marker ≡ true → (c : Cut) →
    all_parts true (gap ++ (marker ++ y)) ≡ Some c → (d : Cut) × (c ≡ marked (record { rows = []; end = gap }) marker d)
end_read gap marker x y is line ends c h =
    let kept : IsMarkerLine marker y × Alike (Some false) (marker ++ x) (marker ++ y) = marker_seam marker x y line (closed_line marker y ends) in
    let p : Part = record { rows = []; end = gap } in
    let before : IsPart true p (marker ++ y) = record { rows = row_gap_alike gap (marker ++ x) (marker ++ y) kept.1 is; inside = refl } in
    let m = marker_ends (marker ++ y) kept.0.marker in
    let read = parts_marked true (gap ++ (marker ++ y)) (p, marker ++ y) (marker, y) (part_again true p (marker ++ y) before m.1) m.0 (marker_again marker y kept.0).0 in
    let more = bind_some (all_parts (begins_document marker) y) (sym read ∙ h) in
    (more.0, sym (same_Some (marked p marker more.0) c more.2))

-- ---- the first of the touched items

-- Items begin with the end of a part, whose gap and marker's line are so many bytes.
pub record FirstEnd (n : ℕ) (xs : List Item) : Type 0 where
  pub gap : List ℕ
  pub marker : List ℕ
  pub rest : List Item
  pub items : xs ≡ end_item gap marker ∷ rest
  pub some : 0 < length marker
  pub long : length (gap ++ marker) ≡ n

pub first_end : (n : ℕ) (xs : List Item) → is_end_of n xs ≡ true → FirstEnd n xs
first_end n [] h = absurd (false≢true h)
first_end n (row_item r ∷ xs) h = absurd (false≢true h)
first_end n (end_item gap marker ∷ xs) h =
    let e = and_parts (ltb 0 (length marker)) (eqb (length (gap ++ marker)) n) h in
    record { gap = gap; marker = marker; rest = xs; items = refl; some = ltb-true 0 (length marker) e.0; long = eqb-true (length (gap ++ marker)) n e.1 }

no_and : (b : Bool) → (b && false) ≡ false
no_and true = refl
no_and false = refl

none_at : (xs : List Item) → is_end_of 0 xs ≡ false
none_at [] = refl
none_at (row_item r ∷ xs) = refl
none_at (end_item gap marker ∷ xs) = ⊎_elim {0, 0, 0}
    (λ (some : 0 < length marker).
    let none : eqb (length (gap ++ marker)) 0 ≡ false = ne_eqb (length (gap ++ marker)) 0 (λ (e : length (gap ++ marker) ≡ 0). omega (arith, e, length-append gap marker, some)) in
    ap (λ (b : Bool). ltb 0 (length marker) && b) none ∙ no_and (ltb 0 (length marker)))
    (λ (none : length marker ≤ 0). ap (λ (b : Bool). b && eqb (length (gap ++ marker)) 0) (le-ltb 0 (length marker) none))
    (cases_lt 0 (length marker))

pub end_joined : (n : ℕ) (xs z : List Item) → (xs ≡ [] → n ≡ 0) → is_end_of n (xs ++ z) ≡ is_end_of n xs
end_joined n [] z h = ap (λ (m : ℕ). is_end_of m z) (h refl) ∙ none_at z
end_joined n (row_item r ∷ xs) z h = refl
end_joined n (end_item gap marker ∷ xs) z h = refl

-- ---- the same by its place

pub slice_next : (es rest : List EndPlace) → slice_get (es ++ rest) (length es) ≡ slice_get rest 0
slice_next [] rest = refl
slice_next (x ∷ es) rest = slice_next es rest

rows_low : (n k : ℕ) (xs : List Item) (e : EndPlace) → slice_get (ends_near n k xs) 0 ≡ Some e → k ≤ e.rows
rows_low n k [] e h = absurd (omega (arith, slice_get_within [] 0 e h))
rows_low n k (row_item r ∷ xs) e h = omega (arith, rows_low (n + length (print_row r [])) (k + 1) xs e h)
rows_low n k (end_item gap marker ∷ xs) e h = omega (arith, ap (λ (x : EndPlace). x.rows) (same_Some (end_at n k gap marker) e h))

same_test : (a b c d : ℕ) → (a ≡ b → c ≡ d) → (c ≡ d → a ≡ b) → eqb a b ≡ eqb c d
same_test a b c d f g = ⊎_elim {0, 0, 0}
    (λ (t : eqb a b ≡ true). t ∙ sym (eq-eqb c d (f (eqb-true a b t))))
    (λ (t : eqb a b ≡ false). t ∙ sym (ne_eqb c d (λ (e : c ≡ d). false≢true (sym t ∙ eq-eqb a b (g e)))))
    (cases_Bool (eqb a b))

ends_test : (n k rows at : ℕ) (gap marker : List ℕ) → k ≡ rows → n ≤ at → ends_at (end_at n k gap marker) rows at ≡ (ltb 0 (length marker) && eqb (length (gap ++ marker)) (at - n))
ends_test n k rows at gap marker same low =
    let size = length-append gap marker in
    ap (λ (b : Bool). (b && ltb 0 (length marker)) && eqb ((n + length gap) + length marker) at) (eq-eqb k rows same)
    ∙ ap (λ (b : Bool). ltb 0 (length marker) && b) (same_test ((n + length gap) + length marker) at (length (gap ++ marker)) (at - n) (λ e. omega (arith, e, size, low)) (λ e. omega (arith, e, size, low)))

-- the place after it, or the one in front
abbrev pub test : (begins : Bool) → ℕ → Side → Bool → Side
test begins at front b = if begins && b then record { rows = front.rows; ends = front.ends + 1; bytes = at } else front

no_test : (begins : Bool) (at : ℕ) (front : Side) → test begins at front false ≡ front
no_test true at front = refl
no_test false at front = refl

past_row : (k at : ℕ) (begins : Bool) (front : Side) (o : Option EndPlace) → ((e : EndPlace) → o ≡ Some e → k + 1 ≤ e.rows) → front.rows ≡ k → past_end o front at begins ≡ front
past_row k at begins front None low rows = refl
past_row k at begins front (Some e) low rows =
    let high : k + 1 ≤ e.rows = low e refl in
    let none : eqb e.rows front.rows ≡ false = ne_eqb e.rows front.rows (λ (same : e.rows ≡ front.rows). omega (arith, same, rows, high)) in
    ap (λ (b : Bool). test begins at front ((b && ltb 0 e.marker) && eqb ((e.start + e.gap) + e.marker) at)) none ∙ no_test begins at front

pub past_is : (n k at : ℕ) (begins : Bool) (front : Side) (xs : List Item) → front.rows ≡ k → n ≤ at → past_end (slice_get (ends_near n k xs) 0) front at begins ≡ test begins at front (is_end_of (at - n) xs)
past_is n k at begins front [] rows low = sym (no_test begins at front)
past_is n k at begins front (row_item r ∷ xs) rows low =
    let m : ℕ = n + length (print_row r []) in
    past_row k at begins front (slice_get (ends_near m (k + 1) xs) 0) (rows_low m (k + 1) xs) rows ∙ sym (no_test begins at front)
past_is n k at begins front (end_item gap marker ∷ xs) rows low = ap (test begins at front) (ends_test n k front.rows at gap marker (sym rows) low)

-- ---- the first of items that are written

pub uncons : (w z : List Item) (i : Item) (ds : List Item) → w ++ z ≡ i ∷ ds → 0 < text_length w → (rest : List Item) × (w ≡ i ∷ rest) × (rest ++ z ≡ ds)
uncons [] z i ds e some = absurd (omega (arith, some))
uncons (x ∷ w) z i ds e some =
    let first : x ≡ i = cc in
    let rest : w ++ z ≡ ds = cc in
    (w, ap (λ (y : Item). y ∷ w) first, rest)
