-- The ends of parts on both sides of a split, and how they are shifted.
use Rattle.std.proofs.Common.{rules, ◌≡◌, ℕ, ◌+◌, ◌-◌, ◌<◌, ◌≤◌, ◌^◌, ◌%◌, Some, List, [], ◌∷◌, ◌++◌, length, map, reverse, take, drop}
use Rattle.std.proofs.Common.{drop_at, slice_get, slice_set, refl, sym, ap, ◌∙◌, arith, append_assoc, length-append}
use Rattle.std.proofs.lemmas.Grind.{common_steps}
use Rattle.std.proofs.lemmas.List.{drop_all, drop-drop, drop-map, length-take-le, length-map, length-reverse, map-append, reverse-append}
use Rattle.std.{proofs.lemmas.List.{set_split, take_at, take-append-drop}, proofs.lemmas.Option.{get_or_from_slice_get, slice_get_within}}
use Rattle.std.{specs.List.AllWithin, specs.List.Sorted.IsNonDecreasingBy}
use Rattle.yq_row_table.specs.PartEnds.{both_ends, both_shifts, ends_exchanged, measure_of, shift_between, shifted}
use Rattle.yq_row_table.{specs.declared.ends.EndPlace.EndPlace, specs.declared.ends.Measure.Measure, specs.declared.ends.Shift.Shift}

-- ---- numbers that are counted from 0 on again after the largest one

back_rows : (n by : ℕ) → n < 2 ^ 64 → by < 2 ^ 64 → ((n + (0 + (2 ^ 64 - by)) % 2 ^ 64) % 2 ^ 64 + by) % 2 ^ 64 ≡ n
back_rows n by h k = omega (arith, h, k)

back_bytes : (n by : ℕ) → n < 2 ^ 32 → by < 2 ^ 32 → ((n + (0 + (2 ^ 32 - by)) % 2 ^ 32) % 2 ^ 32 + by) % 2 ^ 32 ≡ n
back_bytes n by h k = omega (arith, h, k)

both_bytes : (n a b : ℕ) → (n + (a + b) % 2 ^ 32) % 2 ^ 32 ≡ ((n + a) % 2 ^ 32 + b) % 2 ^ 32
both_bytes n a b = omega arith

-- ---- ends that are shifted

-- The numbers of an end and of a shift are those of their types.
pub record AreSmall (by : Shift) (e : EndPlace) : Type 0 where
  pub rows : e.rows < 2 ^ 64
  pub bytes : e.start < 2 ^ 32
  pub by_rows : by.rows < 2 ^ 64
  pub by_bytes : by.bytes < 2 ^ 32

pub shifted_back : (by : Shift) (e : EndPlace) → AreSmall by e → shifted by (shifted (shift_between by.rows by.bytes 0 0) e) ≡ e
shifted_back by e h = search (rules, back_rows, back_bytes)

pub shifted_twice : (a b : Shift) (es : List EndPlace) → map (shifted (both_shifts a b)) es ≡ map (shifted b) (map (shifted a) es)
shifted_twice a b [] = refl
shifted_twice a b (e ∷ es) =
    let rows : (e.rows + (a.rows + b.rows) % 2 ^ 64) % 2 ^ 64 ≡ ((e.rows + a.rows) % 2 ^ 64 + b.rows) % 2 ^ 64 = omega arith in
    let bytes = both_bytes e.start a.bytes b.bytes in
    λ i. record e { rows = rows i; start = bytes i } ∷ shifted_twice a b es i

-- ---- both sides

both_length : (by : Shift) (front after : List EndPlace) → length (both_ends by front after) ≡ length front + length after
both_length by front after = search (rules, length-append, length-map, length-reverse)

-- ---- binary search

pub ends_passed : (by : Measure) (most middle : ℕ) (es : List EndPlace) (e : EndPlace) → slice_get es middle ≡ Some e → measure_of by e ≤ most →
    IsNonDecreasingBy (measure_of by) es →
    AllWithin (λ x. measure_of by x ≤ most) es 0 (middle + 1)
ends_passed by most middle es e at small rise = search (rules, slice_get_within, get_or_from_slice_get)

pub ends_failed : (by : Measure) (most middle : ℕ) (es : List EndPlace) (e : EndPlace) → slice_get es middle ≡ Some e → most < measure_of by e →
    IsNonDecreasingBy (measure_of by) es →
    AllWithin (λ x. most < measure_of by x) es middle (length es)
ends_failed by most middle es e at large rise = search (rules, get_or_from_slice_get)

-- ---- the last one

after_more : (by : Shift) (front after : List EndPlace) (b : EndPlace) → both_ends by front (b ∷ after) ≡ both_ends by front after ++ shifted by b ∷ []
after_more by front after b = grind (arith, common_steps, reverse-append, map-append, append_assoc)

pub last_set_after : (by : Shift) (front after : List EndPlace) (e back : EndPlace) → 0 < length after → shifted by back ≡ e →
    both_ends by front (slice_set after 0 back) ≡ slice_set (both_ends by front after) (length (both_ends by front after) - 1) e
last_set_after by front [] e back some is = absurd (omega (arith, some))
last_set_after by front (b ∷ after) e back some is = search (rules, after_more, length-append, drop_all, set_split, take_at)

-- ---- ends that are replaced

reverse_taken : (es : List EndPlace) (gone : ℕ) → gone ≤ length es → reverse (take (length es - gone) es) ≡ drop gone (reverse es)
reverse_taken es gone within =
    let left = length es - gone in
    let a = take left es in
    let b = drop left es in
    let all : es ≡ a ++ b = sym (take-append-drop left es) in
    let first : length a ≡ left = length-take-le left es (omega arith) in
    let long : length (reverse b) ≡ gone = omega (arith, within, length-reverse b, ap length all, length-append a b, first) in
    sym (ap (drop gone) (ap reverse all ∙ reverse-append a b) ∙ drop_at (reverse b) (reverse a) gone long)

pub ends_replaced : (from to : ℕ) (by place later : Shift) (old front following found : List EndPlace) → both_ends by front following ≡ old →
    length front ≡ from → from ≤ to → to ≤ length old →
    both_ends (both_shifts by later) (front ++ map (shifted place) found) (take (length following - (to - from)) following) ≡
    ends_exchanged from to place later old found
ends_replaced from to by place later old front following found is long order within =
    let all : List EndPlace = map (shifted by) (reverse following) in
    let size = both_length by front following in
    let fits : to - from ≤ length following = omega (arith, size, ap length is, long, within) in
    let first : take from old ≡ front = ap (take from) (sym is) ∙ take_at front all from long in
    let both : from + (to - from) ≡ to = omega (arith, order) in
    let rest : drop to old ≡ drop (to - from) all =
    ap (λ (n : ℕ). drop n old) (sym both)
    ∙ (sym (drop-drop (to - from) from old) ∙ ap (drop (to - from)) (ap (drop from) (sym is) ∙ drop_at front all from long)) in
    let after : map (shifted (both_shifts by later)) (reverse (take (length following - (to - from)) following)) ≡ map (shifted later) (drop to old) =
    ap (map (shifted (both_shifts by later))) (reverse_taken following (to - from) fits)
    ∙ (shifted_twice by later (drop (to - from) (reverse following))
    ∙ ap (map (shifted later)) (sym (drop-map (shifted by) (to - from) (reverse following)) ∙ sym rest)) in
    append_assoc front (map (shifted place) found) (map (shifted (both_shifts by later)) (reverse (take (length following - (to - from)) following)))
    ∙ (λ i. sym first i ++ (map (shifted place) found ++ after i))
