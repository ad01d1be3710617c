-- Where a line begins in a text, and the line of a marker that ends in a break.
use Rattle.std.proofs.Common.{◌≡◌, ⊎_elim, ℕ, zero, suc, ◌-◌, ◌<◌, ◌≤◌, ◌&&◌, Bool, true, false, eqb, List, [], ◌∷◌, ◌++◌, length, drop}
use Rattle.std.proofs.Common.{slice_index, refl, sym, ap, ◌∙◌, subst, arith, drop-cons}
use Rattle.std.proofs.lemmas.Bool.{and_parts, cases_lt, false≢true}
use Rattle.std.proofs.lemmas.List.{drop_all, get_or_append_left, get_or-append_right, get_or_past}
use Rattle.yq_core.{specs.Text.{front, is_break, is_feed, is_line}, specs.Alike.fresh}
use Rattle.yq_row_table.{specs.Grammar.{IsMarkerLine, IsTail}, specs.Meter.begins_line, proofs.seams.MarkerSeams.marker_byte}
use Rattle.yq_rows.{proofs.LineLaws.NoFeed, proofs.MarkerLaws.{begins_fresh, fresh_joined, fresh_some}}
use Rattle.yq_rows.proofs.RowLines.{both_all, comment_all, white_all}

-- ---- the byte at a place is in the first half, or in the second one

pub byte_front : (a b : List ℕ) (n : ℕ) → n < length a → slice_index (a ++ b) n ≡ slice_index a n
byte_front a b n h = get_or_append_left a b 0 n h

pub byte_back : (a b : List ℕ) (n : ℕ) → length a ≤ n → slice_index (a ++ b) n ≡ slice_index b (n - length a)
byte_back a b n h = get_or-append_right a b (length a) n 0 refl h

-- ---- where a line begins, by the byte in front

pub begins_first : (t : List ℕ) (n : ℕ) → n ≡ 0 → begins_line t n ≡ true
begins_first t n h = ap (begins_line t) h

feed_next : (t : List ℕ) (n : ℕ) → front is_feed (drop n t) ≡ is_feed (slice_index t n)
feed_next t n = ⊎_elim {0, 0, 0}
    (λ (h : n < length t). ap (front is_feed) (drop-cons t n 0 h))
    (λ (h : length t ≤ n). ap (front is_feed) (drop_all n t h) ∙ sym (ap is_feed (get_or_past t n 0 h)))
    (cases_lt n (length t))

pub begins_later : (t : List ℕ) (n b : ℕ) → 0 < n → b ≡ slice_index t (n - 1) → eqb b 10 ≡ begins_line t n
begins_later t zero b some is = absurd (omega (arith, some))
begins_later t (suc n) b some is =
    let same : suc n - 1 ≡ n = omega arith in
    ap is_feed (is ∙ ap (slice_index t) same) ∙ sym (feed_next t n)

-- ---- the line of a marker with an LF at its end

-- bytes without an LF don't end in one, and are a line with one
no_fresh : (p : List ℕ) → NoFeed p → fresh false p ≡ false
no_fresh [] h = refl
no_fresh (b ∷ p) h = ap (λ (x : Bool). fresh x p) h.0 ∙ no_fresh p h.1

line_after : (p q : List ℕ) → NoFeed p → is_line q ≡ true → is_line (p ++ q) ≡ true
unfolding is_line
line_after [] q h line = line
line_after (b ∷ p) q h line = rw h.0 (line_after p q h.1 line)

tail_is_line : (p rest : List ℕ) → IsTail p rest → fresh false p ≡ true → is_line p ≡ true
tail_is_line p rest h last =
    let b : List ℕ = h.line.break in
    let white : NoFeed h.white = white_all h.white h.line.blank in
    let comment : NoFeed h.comment = comment_all h.comment b h.line.as_comment in
    ⊎_elim {0, 0, 0}
    (λ (e : (is_break b && is_line b) ≡ true).
    subst (λ (l : List ℕ). is_line l ≡ true) (sym h.line.spelled) (line_after h.white (h.comment ++ b) white (line_after h.comment b comment (and_parts (is_break b) (is_line b) e).1)))
    (λ (none : (b ≡ []) × (rest ≡ [])).
    let all : NoFeed p = subst NoFeed (sym h.line.spelled) (both_all h.white (h.comment ++ b) white (both_all h.comment b comment (subst NoFeed (sym none.0) tt))) in
    absurd (false≢true (sym (no_fresh p all) ∙ last)))
    h.line.ends

three_is_line : (a b c : ℕ) (p rest : List ℕ) → is_feed a ≡ false → is_feed b ≡ false → is_feed c ≡ false → IsTail p rest → fresh false (a ∷ (b ∷ (c ∷ p))) ≡ true → is_line (a ∷ (b ∷ (c ∷ p))) ≡ true
three_is_line a b c p rest x y z tail last =
    line_after (a ∷ (b ∷ (c ∷ []))) p (x, (y, (z, tt))) (tail_is_line p rest tail (subst (λ (s : Bool). fresh s p ≡ true) z last))

marker_is_line : (m rest : List ℕ) → IsMarkerLine m rest → fresh false m ≡ true → is_line m ≡ true
marker_is_line [] rest h last = absurd (let l = h.long in omega (arith, l))
marker_is_line (a ∷ []) rest h last = absurd (let l = h.long in omega (arith, l))
marker_is_line (a ∷ (b ∷ [])) rest h last = absurd (let l = h.long in omega (arith, l))
marker_is_line (a ∷ (b ∷ (c ∷ p))) rest h last = ⊎_elim {0, 0, 0}
    (λ (e : (a ≡ 45) × (b ≡ 45) × (c ≡ 45)). three_is_line a b c p rest (ap is_feed e.0) (ap is_feed e.1) (ap is_feed e.2) h.tail last)
    (λ (e : (a ≡ 46) × (b ≡ 46) × (c ≡ 46)). three_is_line a b c p rest (ap is_feed e.0) (ap is_feed e.1) (ap is_feed e.2) h.tail last)
    (marker_byte a b c (p ++ rest) h.marker)

-- after such a line another one begins
pub line_of_marker : (a gap marker rest : List ℕ) (n : ℕ) → n ≡ length (a ++ (gap ++ marker)) → begins_line ((a ++ (gap ++ marker)) ++ rest) n ≡ true → 0 < length marker → IsMarkerLine marker rest → is_line marker ≡ true
line_of_marker a gap marker rest n size begins some h =
    let q : List ℕ = a ++ (gap ++ marker) in
    let here : fresh true q ≡ true = begins_fresh q rest (subst (λ (k : ℕ). begins_line (q ++ rest) k ≡ true) size begins) in
    let last : fresh (fresh (fresh true a) gap) marker ≡ true = sym (fresh_joined true a (gap ++ marker) ∙ fresh_joined (fresh true a) gap marker) ∙ here in
    marker_is_line marker rest h (fresh_some (fresh (fresh true a) gap) false marker some last)
