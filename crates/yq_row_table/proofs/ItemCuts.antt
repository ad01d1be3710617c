-- The cut of items.
use Rattle.std.proofs.Common.{◌≡◌, ◌⊎◌, inl, inr, ℕ, Bool, true, false, ◌||◌, List, [], ◌∷◌, ◌++◌, Some, if◌then◌else◌, refl, sym, ap, ◌∙◌}
use Rattle.std.{proofs.Common.{subst, ⊎_elim, rules}, proofs.lemmas.Bool.{false≢true, or_right}}
use Rattle.yq_core.specs.Text.{is_empty}
use Rattle.yq_row_table.{specs.Exchange.allows_first, specs.Gap.IsGap}
use Rattle.yq_row_table.specs.Grammar.{Limit, unlimited, IsRow, AreRows, no_rows, IsMarkerLine, begins_document, AreParts}
use Rattle.yq_row_table.specs.Items.{Item, row_item, end_item, rows_items, items_of_cut, items_text, Asked, asked_by, IsPartEnd}
use Rattle.yq_row_table.{specs.Items.AreRowItems, specs.Regions.{no_items, ended}, specs.Reading.all_parts}
use Rattle.yq_row_table.{specs.Rows.{Row, Part, Cut, last, marked, cut_text}, proofs.ExchangeLaws.relimit, proofs.ScanLaws.parts_again}

pub no_last : (xs : List Item) (z : Item) (zs : List Item) (rest : List ℕ) (A : Type 0) → (xs ++ (z ∷ zs)) ≡ [] → A
no_last [] z zs rest A e = absurd (cc)
no_last (x ∷ xs) z zs rest A e = absurd (cc)

pub no_gap : IsGap [] []
no_gap = record { lines = []; spelled = refl; each = tt }

-- a row before the others of a cut
abbrev pub with_row : Row → Part → Part
with_row r p = record { rows = r ∷ p.rows; end = p.end }

-- the same, where the cut has one or more parts
abbrev pub row_before : Row → Cut → Cut
row_before r (last p) = last (with_row r p)
row_before r (marked p marker c) = marked (with_row r p) marker c

-- a cut whose first part has no rows, and this end
abbrev pub end_before : (gap marker : List ℕ) → Cut → Cut
end_before gap marker c = if is_empty marker then last (record { rows = []; end = gap }) else marked (record { rows = []; end = gap }) marker c

-- the cut of items; after those that don't end in the end of a text is an empty end
abbrev pub cut_of : List Item → Cut
cut_of [] = last (record { rows = []; end = [] })
cut_of (row_item r ∷ xs) = row_before r (cut_of xs)
cut_of (end_item gap marker ∷ xs) = end_before gap marker (cut_of xs)

-- A cut whose first row may be where this limit is asked, and whose first part may have rows if that is so.
abbrev AreFollowing : Limit → Bool → Cut → Type 0
AreFollowing limit started (last p) = AreRows limit p.rows p.end [] × ((started || no_rows p.rows) ≡ true)
AreFollowing limit started (marked p marker c) = AreRows limit p.rows p.end (marker ++ cut_text c) × ((started || no_rows p.rows) ≡ true) × IsMarkerLine marker (cut_text c) × AreParts (begins_document marker) c

after_parts : (started : Bool) (c : Cut) → AreFollowing unlimited started c → AreParts started c
after_parts started c h = search rules

any_first : (rs : List Row) → allows_first unlimited rs ≡ true
any_first rs = search rules

-- a limit and a document that isn't open only refuse
unasked : (limit : Limit) (started : Bool) (c : Cut) → AreFollowing limit started c → AreParts true c
unasked limit started c h = search (rules, relimit, any_first)

abbrev IsCutOf : Asked → List Item → Cut → Type 0
IsCutOf asked xs c = AreFollowing asked.limit asked.started c × (cut_text c ≡ items_text xs [])

cut_of_row : (asked : Asked) (r : Row) (xs : List Item) (c : Cut) → asked.started ≡ true → IsRow asked.limit r (items_text xs []) → IsCutOf (asked_by asked (row_item r)) xs c → IsCutOf asked (row_item r ∷ xs) (row_before r c)
cut_of_row asked r xs c s h m = search rules

pub no_marker : (marker t : List ℕ) → IsMarkerLine marker t → is_empty marker ≡ false
no_marker marker t h = search rules

cut_of_end : (asked : Asked) (gap marker : List ℕ) (xs : List Item) (c : Cut) → IsGap gap (marker ++ items_text xs []) → IsPartEnd marker xs [] →
    IsCutOf (asked_by asked (end_item gap marker)) xs c → IsCutOf asked (end_item gap marker ∷ xs) (end_before gap marker c)
cut_of_end asked gap marker xs c g e m = search (rules, after_parts, or_right, no_marker)

pub cut_of_items : (xs : List Item) (asked : Asked) → AreRowItems asked xs [] → IsCutOf asked xs (cut_of xs)
cut_of_items [] asked h = ((no_gap, or_right asked.started true refl), refl)
cut_of_items (row_item r ∷ xs) asked h = cut_of_row asked r xs (cut_of xs) h.0.0 h.0.1 (cut_of_items xs (asked_by asked (row_item r)) h.1)
cut_of_items (end_item gap marker ∷ xs) asked h = cut_of_end asked gap marker xs (cut_of xs) h.0.0 h.0.1 (cut_of_items xs (asked_by asked (end_item gap marker)) h.1)

-- read alone
pub alone_read : (xs : List Item) (asked : Asked) → AreRowItems asked xs [] → all_parts true (items_text xs []) ≡ Some (cut_of xs)
alone_read xs asked h = search (rules, cut_of_items, parts_again, unasked)

-- the items of that cut
row_items : (r : Row) (c : Cut) → items_of_cut (row_before r c) ≡ row_item r ∷ items_of_cut c
row_items r c = search rules

pub inner_items : (xs : List Item) (z : Item) (zs : List Item) (asked : Asked) (rest : List ℕ) → AreRowItems asked (xs ++ (z ∷ zs)) rest → items_of_cut (cut_of xs) ≡ ended xs [] []
inner_items [] z zs asked rest h = refl
inner_items (row_item r ∷ xs) z zs asked rest h = row_items r (cut_of xs) ∙ ap (λ l. row_item r ∷ l) (inner_items xs z zs (asked_by asked (row_item r)) rest h.1)
inner_items (end_item gap marker ∷ xs) z zs asked rest h = ⊎_elim {0, 0, 0}
    (λ line. rw (no_marker marker (items_text (xs ++ (z ∷ zs)) rest) line) (ap (λ l. end_item gap marker ∷ l) (inner_items xs z zs (asked_by asked (end_item gap marker)) rest h.1)))
    (λ none. no_last xs z zs rest (items_of_cut (cut_of (end_item gap marker ∷ xs)) ≡ ended (end_item gap marker ∷ xs) [] []) none.1)
    h.0.1

-- items of which the last one is the end of a text
abbrev pub Ended : List Item → Type 0
Ended [] = ⊥
Ended (row_item r ∷ xs) = Ended xs
Ended (end_item gap marker ∷ xs) = ((marker ≡ []) × (xs ≡ [])) ⊎ Ended xs

pub last_items : (xs : List Item) (asked : Asked) → AreRowItems asked xs [] → Ended xs → items_of_cut (cut_of xs) ≡ xs
last_items [] asked h e = absurd e
last_items (row_item r ∷ xs) asked h e = row_items r (cut_of xs) ∙ ap (λ l. row_item r ∷ l) (last_items xs (asked_by asked (row_item r)) h.1 e)
last_items (end_item gap marker ∷ xs) asked h e = ⊎_elim {0, 0, 0}
    (λ none. rw (none.0, none.1) refl)
    (λ more. ⊎_elim {0, 0, 0}
    (λ line. rw (no_marker marker (items_text xs []) line) (ap (λ l. end_item gap marker ∷ l) (last_items xs (asked_by asked (end_item gap marker)) h.1 more)))
    (λ none. absurd (subst Ended none.1 more))
    h.0.1)
    e

rows_ended : (rs : List Row) (xs : List Item) → Ended xs → Ended (rows_items rs xs)
rows_ended [] xs h = h
rows_ended (r ∷ rs) xs h = rows_ended rs xs h

pub cut_ended : (c : Cut) → Ended (items_of_cut c)
cut_ended (last p) = rows_ended p.rows (end_item p.end [] ∷ []) (inl (refl, refl))
cut_ended (marked p marker c) = rows_ended p.rows (end_item p.end marker ∷ items_of_cut c) (inr (cut_ended c))

pub back_ended : (xs ys : List Item) → no_items ys ≡ false → Ended (xs ++ ys) → Ended ys
back_ended [] ys some h = h
back_ended (row_item r ∷ xs) ys some h = back_ended xs ys some h
back_ended (end_item gap marker ∷ xs) [] some h = absurd (false≢true (sym some))
back_ended (end_item gap marker ∷ xs) (y ∷ ys) some h = ⊎_elim {0, 0, 0}
    (λ none. no_last xs y ys [] (Ended (y ∷ ys)) none.1)
    (λ more. back_ended xs (y ∷ ys) some more)
    h
