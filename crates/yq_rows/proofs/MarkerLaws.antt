-- The line of a marker that begins a line is a marker in every cut.
use Rattle.std.proofs.Common.{◌≡◌, ⊎_elim, ℕ, ◌<◌, ◌≤◌, Bool, true, false, List, [], ◌∷◌, ◌++◌, length, drop, refl, sym, ap, ◌∙◌, subst}
use Rattle.std.{proofs.Common.{arith, append_assoc, append-nil, length-append, rules}, proofs.lemmas.Bool.{cases_lt, false≢true}}
use Rattle.std.proofs.lemmas.List.{append_cancel_right, nil_from_length}
use Rattle.yq_core.{specs.Text.{front, is_feed, is_marker}, specs.Alike.fresh}
use Rattle.yq_row_table.{specs.Gap.IsGap, specs.Grammar.{IsMarkerLine, IsRow, Limit}}
use Rattle.yq_row_table.specs.Items.{Item, row_item, end_item, items_text, Asked, asked_of, AreRowItems, IsPartEnd, nothing_asked}
use Rattle.yq_row_table.{specs.Meter.begins_line, specs.Regions.ended, specs.Rows.{Row, print_row}, specs.Touched.item_text}
use Rattle.yq_row_table.{proofs.ItemLaws.items_joined, proofs.KeptLaws.print_then}
use Rattle.yq_rows.{proofs.ItemPlaces.text_split, proofs.LineLaws.{Unmarked, Upto, upto_none}, proofs.MarkedLaws.last_of}
use Rattle.yq_rows.proofs.RowLines.{gap_lines, marker_lines, row_lines}

-- the marker of an end among items
pub marker_there : (xs u z : List Item) (gap marker : List ℕ) → AreRowItems nothing_asked xs [] → xs ≡ ended u gap marker ++ z → 0 < length marker → IsMarkerLine marker (items_text z [])
marker_there xs u z gap marker h is some = search (rules, ⊎_elim, items_joined, append_assoc)

-- ---- where lines begin

-- no marker is at the beginning of a line in such a text
unmarked_at : (at : Bool) (q m rest : List ℕ) → Unmarked at (q ++ m) rest → fresh at q ≡ true → 0 < length m → is_marker (m ++ rest) ≡ false
unmarked_at at [] [] rest h e some = absurd (omega (arith, some))
unmarked_at at [] (b ∷ m) rest h e some = h.0 e
unmarked_at at (b ∷ q) m rest h e some = unmarked_at (is_feed b) q m rest h.1 e some

no_marker : (at : Bool) (t q m rest : List ℕ) → Upto at t rest → t ≡ q ++ (m ++ rest) → fresh at q ≡ true → 0 < length m → is_marker (m ++ rest) ≡ false
no_marker at t q m rest k is e some =
    let piece : k.piece ≡ q ++ m = append_cancel_right k.piece (q ++ m) rest (sym k.spelled ∙ (is ∙ sym (append_assoc q m rest))) in
    unmarked_at at q m rest (subst (λ (l : List ℕ). Unmarked at l rest) piece k.apart) e some

pub line_at : (at : Bool) (b : ℕ) (q m : List ℕ) → fresh at (b ∷ q) ≡ front is_feed (drop (length q) ((b ∷ q) ++ m))
line_at at b [] m = refl
line_at at b (c ∷ q) m = line_at (is_feed b) c q m

pub begins_fresh : (q m : List ℕ) → begins_line (q ++ m) (length q) ≡ true → fresh true q ≡ true
begins_fresh [] m h = refl
begins_fresh (b ∷ q) m h = line_at true b q m ∙ h

pub fresh_joined : (at : Bool) (a b : List ℕ) → fresh at (a ++ b) ≡ fresh (fresh at a) b
fresh_joined at [] b = refl
fresh_joined at (x ∷ a) b = fresh_joined (is_feed x) a b

pub fresh_any : (at : Bool) (q : List ℕ) → fresh at q ≡ true → fresh true q ≡ true
fresh_any at [] h = refl
fresh_any at (b ∷ q) h = h

pub fresh_some : (at other : Bool) (q : List ℕ) → 0 < length q → fresh at q ≡ true → fresh other q ≡ true
fresh_some at other [] some h = absurd (omega (arith, some))
fresh_some at other (b ∷ q) some h = h

-- two ways to cut a text, by the length of the second piece
abbrev pub Cuts : (a b c d : List ℕ) → Type 0
Cuts a b c d = (q : List ℕ) × (b ≡ q ++ d) × (c ≡ a ++ q)

pub two_cuts : (a b c d : List ℕ) → a ++ b ≡ c ++ d → length d ≤ length b → Cuts a b c d
two_cuts [] b c d e less = (c, e, refl)
two_cuts (x ∷ a) b [] d e less = absurd (omega (arith, less, ap length e, length-append a b))
two_cuts (x ∷ a) b (y ∷ c) d e less =
    let first : x ≡ y = cc in
    let rest : a ++ b ≡ c ++ d = cc in
    let more = two_cuts a b c d rest less in
    (more.0, more.1, (λ i. sym first i ∷ more.2 i))

-- ---- the last item

row_ends : (limit : Limit) (r : Row) (q marker rest : List ℕ) → IsRow limit r rest → IsMarkerLine marker rest → print_row r [] ≡ q ++ marker → fresh true q ≡ true → 0 < length marker → ⊥
row_ends limit r q marker rest h line is e some =
    let text : print_row r rest ≡ q ++ (marker ++ rest) = print_then r rest ∙ (ap (λ l. l ++ rest) is ∙ append_assoc q marker rest) in
    false≢true (sym (no_marker true (print_row r rest) q marker rest (row_lines limit r rest h) text e some) ∙ line.marker)

end_ends : (u z : List Item) (gap own q marker : List ℕ) → IsGap gap (own ++ items_text z []) → IsPartEnd own z [] → IsMarkerLine marker (items_text z []) → gap ++ own ≡ q ++ marker → fresh true q ≡ true → 0 < length marker → own ≡ marker
end_ends u z gap own q marker h end line is e some = ⊎_elim {0, 0, 0}
    (λ (less : length own < length marker).
    let c = two_cuts q marker gap own (sym is) (omega (arith, less)) in
    let t : List ℕ = gap ++ (own ++ rest) in
    let text : t ≡ q ++ (c.0 ++ (own ++ rest)) = ap (λ l. l ++ (own ++ rest)) c.2 ∙ append_assoc q c.0 (own ++ rest) in
    let size : 0 < length c.0 = omega (arith, less, ap length c.1, length-append c.0 own) in
    let none = no_marker true t q c.0 (own ++ rest) (gap_lines gap (own ++ rest) (own ++ rest) h (upto_none true (own ++ rest))) text e size in
    absurd (false≢true (sym none ∙ (ap is_marker (sym (append_assoc c.0 own rest) ∙ ap (λ l. l ++ rest) (sym c.1)) ∙ line.marker))))
    (λ (more : length marker ≤ length own).
    let c = two_cuts gap own q marker is more in
    ⊎_elim {0, 0, 0}
    (λ (long : 0 < length c.0). absurd (inside c long))
    (λ (none : length c.0 ≤ 0). c.1 ∙ ap (λ l. l ++ marker) (nil_from_length c.0 (omega (arith, none))))
    (cases_lt 0 (length c.0)))
    (cases_lt (length own) (length marker))
  where
    rest : List ℕ
    rest = items_text z []

    inside : (c : Cuts gap own q marker) → 0 < length c.0 → ⊥
    inside c long = ⊎_elim {0, 0, 0}
        (λ (l : IsMarkerLine own rest).
        let text : own ++ rest ≡ c.0 ++ (marker ++ rest) = ap (λ l. l ++ rest) c.1 ∙ append_assoc c.0 marker rest in
        let last : fresh false c.0 ≡ true = fresh_some (fresh true gap) false c.0 long (sym (fresh_joined true gap c.0) ∙ (ap (fresh true) (sym c.2) ∙ e)) in
        false≢true (sym (no_marker false (own ++ rest) c.0 marker rest (marker_lines own rest l) text last some) ∙ line.marker))
        (λ none. omega (arith, long, ap length c.1, length-append c.0 marker, ap length none.0))
        end

pub marker_stays : (asked : Asked) (w z : List Item) (lead marker : List ℕ) → AreRowItems asked (w ++ z) [] → IsMarkerLine marker (items_text z []) →
    items_text w [] ≡ lead ++ marker → begins_line (items_text w []) (length lead) ≡ true → 0 < length marker →
    ((u : List Item) (i : Item) → w ≡ u ++ (i ∷ []) → length marker ≤ length (item_text i)) → (front : List Item) × (gap : List ℕ) × (w ≡ ended front gap marker)
marker_stays asked w z lead marker h line text begins some last = ⊎_elim {0, 0, 0}
    (λ (e : w ≡ []). absurd (omega (arith, some, ap length (sym (ap (λ (l : List Item). items_text l []) e) ∙ text), length-append lead marker)))
    (λ (l : (u : List Item) × (i : Item) × (w ≡ u ++ (i ∷ []))). by_last l.0 l.1 l.2)
    (last_of w)
  where
    own_text : (i : Item) → items_text (i ∷ []) [] ≡ item_text i
    own_text i = search (rules, append-nil)

    cut_last : (u : List Item) (i : Item) → w ≡ u ++ (i ∷ []) → Cuts (items_text u []) (item_text i) lead marker
    cut_last u i is = two_cuts (items_text u []) (item_text i) lead marker (ap (λ l. items_text u [] ++ l) (sym (own_text i)) ∙ (sym (text_split u (i ∷ [])) ∙ (ap (λ (l : List Item). items_text l []) (sym is) ∙ text))) (last u i is)

    fresh_last : (u : List Item) (i : Item) → (c : Cuts (items_text u []) (item_text i) lead marker) → fresh true c.0 ≡ true
    fresh_last u i c = search (rules, begins_fresh, fresh_any, fresh_joined)

    after : (u : List Item) (i : Item) → w ≡ u ++ (i ∷ []) → AreRowItems (asked_of asked u) (i ∷ z) []
    after u i is = items_joined u (i ∷ z) asked [] (subst (λ (l : List Item). AreRowItems asked l []) (ap (λ (l : List Item). l ++ z) is ∙ append_assoc u (i ∷ []) z) h)

    by_last : (u : List Item) (i : Item) → w ≡ u ++ (i ∷ []) → (front : List Item) × (gap : List ℕ) × (w ≡ ended front gap marker)
    by_last u (row_item r) is =
        let c = cut_last u (row_item r) is in
        absurd (row_ends _ r c.0 marker (items_text z []) (after u (row_item r) is).0.1 line c.1 (fresh_last u (row_item r) c) some)
    by_last u (end_item gap m) is =
        let c = cut_last u (end_item gap m) is in
        let b = after u (end_item gap m) is in
        let same : m ≡ marker = end_ends u z gap m c.0 marker b.0.0 b.0.1 line c.1 (fresh_last u (end_item gap m) c) some in
        (u, gap, is ∙ ap (λ (l : List ℕ). ended u gap l) same)
