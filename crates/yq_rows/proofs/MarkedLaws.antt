-- The last end of a part among the touched items, and whether its marker is kept.
use Rattle.std.proofs.Common.{◌≡◌, ◌⊎◌, inl, inr, ⊎_elim, ℕ, zero, suc, ◌+◌, ◌-◌, ◌<◌, ◌≤◌, Bool, true, false, eqb, ltb, leb, if◌then◌else◌}
use Rattle.std.proofs.Common.{◌&&◌, List, [], ◌∷◌, ◌++◌, length, Option, Some, None, slice_get, refl, sym, ap, ◌∙◌, arith, append_assoc}
use Rattle.std.proofs.Common.{append-nil, length-append, rules}
use Rattle.std.proofs.lemmas.Bool.{and_from, and_parts, cases_Bool, cases_lt, cond-false, cond-true, eq-eqb, false≢true, leb-true, le-leb}
use Rattle.std.{proofs.lemmas.Bool.{lt-leb, lt-ltb, ltb-true, ne_eqb}, proofs.lemmas.List.Elements.All-get_or}
use Rattle.std.proofs.lemmas.Option.{get_or_from_slice_get}
use Rattle.yq_core.specs.Answers.{◌>>=◌}
use Rattle.yq_row_table.{specs.Ends.end_at, specs.Items.{Item, row_item, end_item}, specs.Kept.{near, ends_near}}
use Rattle.yq_row_table.{specs.Regions.{ended, no_items}, specs.Offsets.offsets_of, specs.Rows.Row, specs.View.slices}
use Rattle.yq_row_table.specs.declared.ends.EndPlace.{EndPlace}
use Rattle.yq_rows.{specs.Following.{kept_marker, marker_line, marker_of}, specs.Sides.{keeps_marker, marked_end, side_of, text_length}}
use Rattle.yq_rows.{specs.declared.sides.Side.Side, proofs.BeginLaws.{first_long, joined_long}, proofs.CountLaws.{ends_joined, ends_rows}}
use Rattle.yq_rows.proofs.SideLaws.{ends_end, ends_row, rows_end, rows_row}

-- The last touched item is the end of a part whose marker the change keeps.
pub record KeepsEnd (touched : List Item) (n : ℕ) (e : EndPlace) : Type 0 where
  pub front : List Item
  pub gap : List ℕ
  pub marker : List ℕ
  pub items : touched ≡ ended front gap marker
  pub long : e.marker ≡ length marker
  pub some : 0 < length marker
  pub within : length marker ≤ n
  pub kept : kept_marker n touched ≡ length marker

-- what the end of a part tells of the marker that is kept
abbrev pub KeepsMarker : List Item → ℕ → Option EndPlace → Type 0
KeepsMarker touched n None = kept_marker n touched ≡ 0
KeepsMarker touched n (Some e) = KeepsEnd touched n e

-- the last of items
abbrev pub HasLast : List Item → Type 0
HasLast xs = (xs ≡ []) ⊎ ((front : List Item) × (last : Item) × (xs ≡ front ++ (last ∷ [])))

pub last_of : (xs : List Item) → HasLast xs
last_of [] = inl refl
last_of (x ∷ xs) = ⊎_elim {0, 0, 0}
    (λ (e : xs ≡ []). inr ([], x, ap (λ (l : List Item). x ∷ l) e))
    (λ (h : (front : List Item) × (last : Item) × (xs ≡ front ++ (last ∷ []))). inr (x ∷ h.0, h.1, ap (λ (l : List Item). x ∷ l) h.2))
    (last_of xs)

some_items : (u : List Item) (i : Item) → no_items (u ++ (i ∷ [])) ≡ false
some_items [] i = refl
some_items (x ∷ u) i = refl

pub last_marker_is : (u : List Item) (i : Item) → marker_line (u ++ (i ∷ [])) ≡ marker_of i
last_marker_is [] i = refl
last_marker_is (x ∷ u) i = rw (some_items u i) (last_marker_is u i)

kept_none : (n : ℕ) (xs : List Item) → marker_line xs ≡ [] → kept_marker n xs ≡ 0
kept_none n xs h = rw h (⊎_elim {0, 0, 0} (λ e. rw e refl) (λ e. rw e refl) (cases_Bool (leb 0 n)))

slice_joined : (es rest : List EndPlace) (n : ℕ) (e : EndPlace) → n ≡ length es → slice_get (es ++ (e ∷ rest)) n ≡ Some e
slice_joined [] rest n e is = ap (slice_get (e ∷ rest)) is
slice_joined (x ∷ es) rest n e is = ap (slice_get (x ∷ (es ++ (e ∷ rest)))) is ∙ slice_joined es rest (length es) e refl

slice_left : (es rest : List EndPlace) (i : ℕ) → i < length es → slice_get (es ++ rest) i ≡ slice_get es i
slice_left [] rest i less = absurd (omega (arith, less))
slice_left (x ∷ es) rest zero less = refl
slice_left (x ∷ es) rest (suc i) less = slice_left es rest i (omega (arith, less))

-- the end that is chosen
none_chosen : (es : List EndPlace) (front old : Side) (at : ℕ) → old.ends ≤ front.ends → marked_end es front old at ≡ None
none_chosen es front old at h = rw (le-leb old.ends front.ends h) refl

abbrev test : Side → ℕ → EndPlace → Option EndPlace
test old at e = if keeps_marker e old.rows at then Some e else None

chosen : (es : List EndPlace) (front old : Side) (at : ℕ) (o : Option EndPlace) → front.ends < old.ends → slice_get es (old.ends - 1) ≡ o → marked_end es front old at ≡ (o >>= test old at)
chosen es front old at o h is = rw (lt-leb old.ends front.ends h, is) refl

module _ (es : List EndPlace) (front old : Side) (at : ℕ) (some : front.ends < old.ends) where
  pub marked_is : (e : EndPlace) → slice_get es (old.ends - 1) ≡ Some e → true ≡ keeps_marker e old.rows at → Some e ≡ marked_end es front old at
  marked_is e h keeps = sym (chosen es front old at (Some e) some h ∙ cond-true (keeps_marker e old.rows at) (Some e) None (sym keeps))

  pub unmarked : (e : EndPlace) → slice_get es (old.ends - 1) ≡ Some e → false ≡ keeps_marker e old.rows at → None ≡ marked_end es front old at
  unmarked e h keeps = sym (chosen es front old at (Some e) some h ∙ cond-false (keeps_marker e old.rows at) (Some e) None (sym keeps))

-- What comes before, among and after the touched items, and how many bytes are kept after.
pub record Stretch (f touched z : List Item) (es : List EndPlace) (front old : Side) (len back : ℕ) : Type 0 where
  pub rest : List EndPlace
  pub ends : es ≡ ends_near 0 0 (f ++ touched) ++ rest
  pub front_is : front ≡ side_of f
  pub old_is : old ≡ side_of (f ++ touched)
  pub long : len ≡ text_length (f ++ touched) + text_length z
  pub last : text_length z ≤ back
  pub within : back ≤ len

agrees_none : (f touched z : List Item) (es : List EndPlace) (front old : Side) (len back : ℕ) → Stretch f touched z es front old len back → touched ≡ [] → KeepsMarker touched (back - text_length z) (marked_end es front old (len - back))
agrees_none f touched z es front old len back h none = search (rules, none_chosen, kept_none, append-nil)

-- the last touched item is a row
row_there : (g : List Item) (r : Row) (rest es : List EndPlace) (i : ℕ) (e : EndPlace) → es ≡ ends_near 0 0 (g ++ (row_item r ∷ [])) ++ rest → i < length (ends_near 0 0 g) → slice_get es i ≡ Some e → e.rows ≤ length (near 0 g)
row_there g r rest es i e ends less is =
    let own : slice_get (ends_near 0 0 g) i ≡ Some e = sym (slice_left (ends_near 0 0 g) rest i less) ∙ (ap (λ (l : List EndPlace). slice_get l i) (sym (ends ∙ ap (λ (l : List EndPlace). l ++ rest) (ends_row g r))) ∙ is) in
    let bound = All-get_or (λ (x : EndPlace). x.rows ≤ length (near 0 g)) (ends_near 0 0 g) i e less (ends_rows 0 0 (length (near 0 g)) g (omega arith)) in
    search (rules, get_or_from_slice_get, bound, own)

agrees_row : (f touched z : List Item) (es : List EndPlace) (front old : Side) (len back : ℕ) (u : List Item) (r : Row) →
    Stretch f touched z es front old len back → touched ≡ u ++ (row_item r ∷ []) →
    KeepsMarker touched (back - text_length z) (marked_end es front old (len - back))
agrees_row f touched z es front old len back u r h is = search (rules, ⊎_elim, chosen, none_chosen, cases_lt, go, n, zero)
  where
    n : ℕ
    n = back - text_length z

    zero : kept_marker n touched ≡ 0
    zero = kept_none n touched (ap marker_line is ∙ last_marker_is u (row_item r))

    g : List Item
    g = f ++ u

    all : f ++ touched ≡ g ++ (row_item r ∷ [])
    all = ap (λ (l : List Item). f ++ l) is ∙ sym (append_assoc f u (row_item r ∷ []))

    rows : old.rows ≡ length (near 0 g) + 1
    rows = ap (λ (s : Side). s.rows) h.old_is ∙ (ap (λ (l : List Item). length (near 0 l)) all ∙ (ap length (rows_row g r) ∙ length-append (near 0 g) (offsets_of (text_length g) (slices r) ∷ [])))

    ends : old.ends ≡ length (ends_near 0 0 g)
    ends = ap (λ (s : Side). s.ends) h.old_is ∙ (ap (λ (l : List Item). length (ends_near 0 0 l)) all ∙ ap length (ends_row g r))

    go : front.ends < old.ends → (o : Option EndPlace) → slice_get es (old.ends - 1) ≡ o → KeepsMarker touched n (o >>= test old (len - back))
    go low None at = zero
    go low (Some e) at =
        let few = row_there g r h.rest es (old.ends - 1) e (h.ends ∙ ap (λ (l : List Item). ends_near 0 0 l ++ h.rest) all) (omega (arith, ends, low)) at in
        search (rules, ne_eqb, few, rows, zero)

-- the last touched item is the end of a part
agrees_end : (f touched z : List Item) (es : List EndPlace) (front old : Side) (len back : ℕ) (u : List Item) (gap marker : List ℕ) →
    Stretch f touched z es front old len back → touched ≡ ended u gap marker →
    KeepsMarker touched (back - text_length z) (marked_end es front old (len - back))
agrees_end f touched z es front old len back u gap marker h is = search (rules, slice_joined, chosen, at, e, ends, g, go, list, low, n)
  where
    n : ℕ
    n = back - text_length z

    at : ℕ
    at = len - back

    g : List Item
    g = f ++ u

    e : EndPlace
    e = end_at (text_length g) (length (near 0 g)) gap marker

    all : f ++ touched ≡ g ++ (end_item gap marker ∷ [])
    all = ap (λ (l : List Item). f ++ l) is ∙ sym (append_assoc f u (end_item gap marker ∷ []))

    list : es ≡ ends_near 0 0 g ++ e ∷ h.rest
    list = h.ends ∙ (ap (λ (l : List Item). ends_near 0 0 l ++ h.rest) all ∙ (ap (λ (l : List EndPlace). l ++ h.rest) (ends_end g gap marker) ∙ append_assoc (ends_near 0 0 g) (e ∷ []) h.rest))

    ends : old.ends ≡ length (ends_near 0 0 g) + 1
    ends = ap (λ (s : Side). s.ends) h.old_is ∙ (ap (λ (l : List Item). length (ends_near 0 0 l)) all ∙ (ap length (ends_end g gap marker) ∙ length-append (ends_near 0 0 g) (e ∷ [])))

    rows : old.rows ≡ length (near 0 g)
    rows = ap (λ (s : Side). s.rows) h.old_is ∙ (ap (λ (l : List Item). length (near 0 l)) all ∙ ap length (rows_end g gap marker))

    low : front.ends < old.ends
    low = omega (arith, ends, ap (λ (s : Side). s.ends) h.front_is, ap length (ends_joined 0 0 f u), length-append (ends_near 0 0 f) (ends_near (0 + text_length f) (0 + length (near 0 f)) u))

    own : marker_line touched ≡ marker
    own = ap marker_line is ∙ last_marker_is u (end_item gap marker)

    size : len ≡ ((text_length g + length gap) + length marker) + text_length z
    size = h.long ∙ omega (arith, ap text_length all, joined_long g (end_item gap marker ∷ []), first_long (end_item gap marker) [], length-append gap marker)

    go : (b : Bool) → keeps_marker e old.rows at ≡ b → KeepsMarker touched n (if b then Some e else None)
    go true t = search (rules, le-leb, and_parts, ltb-true, leb-true, at, e, g, n, own, size)
    go false t = search (rules, ⊎_elim, leb-true, cases_lt, cases_Bool, both, n, own)
      where
        both : 0 < length marker → length marker ≤ n → ⊥
        both some within = false≢true
            (sym t ∙ and_from (eqb e.rows old.rows && ltb 0 e.marker) (leb at (e.start + e.gap))
            (and_from (eqb e.rows old.rows) (ltb 0 e.marker) (eq-eqb e.rows old.rows (sym rows)) (lt-ltb 0 (length marker) some))
            (le-leb at (text_length g + length gap) (omega (arith, within, some, size, h.last, h.within))))

pub agrees : (f touched z : List Item) (es : List EndPlace) (front old : Side) (len back : ℕ) → Stretch f touched z es front old len back → KeepsMarker touched (back - text_length z) (marked_end es front old (len - back))
agrees f touched z es front old len back h = ⊎_elim {0, 0, 0}
    (λ (e : touched ≡ []). agrees_none f touched z es front old len back h e)
    (λ (l : (u : List Item) × (i : Item) × (touched ≡ u ++ (i ∷ []))). by_last l.0 l.1 l.2)
    (last_of touched)
  where
    by_last : (u : List Item) (i : Item) → touched ≡ u ++ (i ∷ []) → KeepsMarker touched (back - text_length z) (marked_end es front old (len - back))
    by_last u (row_item r) is = agrees_row f touched z es front old len back u r h is
    by_last u (end_item gap marker) is = agrees_end f touched z es front old len back u gap marker h is
