-- Lines one after the other, and their count.
use Rattle.std.proofs.Common.{rules, ◌≡◌, ℕ, zero, suc, ◌+◌, ◌-◌, ◌<◌, ◌≤◌, true, List, [], ◌∷◌, length, drop, get_or, ap, ◌∙◌, subst}
use Rattle.std.{proofs.Common.{⊎_elim, arith, eqb-true, length-take, length-drop}, proofs.lemmas.Bool.{false≢true, cases_Bool}}
use Rattle.std.{proofs.Math.ListN.drop_of_length-le, proofs.lemmas.List.drop-drop}
use Rattle.std.{proofs.lemmas.Str.{IsCharBoundary-start, IsCharBoundary-after_ascii}, specs.Str.{IsUtf8, IsCharBoundary}}
use Rattle.yq_core.{specs.Text.{is_feed, front, line_len, text_lines}, proofs.LineLaws.{line_step, line_len_some, line_len_within}}
use Rattle.yq_row_table.specs.Meter.{next_count, count_after, begins_line, line_at, line_count}

-- where a line begins, a text may be cut
feed_at : (t : List ℕ) (n : ℕ) → front is_feed (drop n t) ≡ true → (n < length t) × (get_or t n 0 ≡ 10)
feed_at [] zero h = absurd (false≢true h)
feed_at [] (suc n) h = absurd (false≢true h)
feed_at (b ∷ t) zero h = (omega arith, eqb-true b 10 h)
feed_at (b ∷ t) (suc n) h = let more = feed_at t n h in (omega (arith, more.0), more.1)

pub line_boundary : (t : List ℕ) (n : ℕ) → IsUtf8 t → begins_line t n ≡ true → IsCharBoundary t n
line_boundary t zero u h = IsCharBoundary-start t u
line_boundary t (suc n) u h =
    let feed = feed_at t n h in
    let same : n + 1 ≡ suc n = omega arith in
    subst (IsCharBoundary t) same (IsCharBoundary-after_ascii t n u feed.0 (omega (arith, feed.1)))

-- after a line the next one begins
line_ends : (t : List ℕ) (n : ℕ) → suc n ≡ line_len t → suc n < length t → front is_feed (drop n t) ≡ true
unfolding line_len
line_ends [] n e less = absurd (omega arith)
line_ends (b ∷ t) zero e less = ⊎_elim {0, 0, 0} (λ y. y) (λ y. absurd (let more = line_len_some t (omega arith) in omega (arith, more, rw y at e))) (cases_Bool (is_feed b))
line_ends (b ∷ t) (suc n) e less = ⊎_elim {0, 0, 0} (λ y. absurd (omega (arith, rw y at e))) (λ y. line_ends t n (omega (arith, rw y at e)) (omega arith)) (cases_Bool (is_feed b))

begins_after : (t : List ℕ) (n k m : ℕ) → m ≡ suc k → front is_feed (drop k (drop n t)) ≡ true → begins_line t (n + m) ≡ true
begins_after t n k m e h = search (rules, drop-drop)

pub next_begins : (t : List ℕ) (n : ℕ) → n < length t → n + length (line_at t n) < length t → begins_line t (n + length (line_at t n)) ≡ true
next_begins t n less inside =
    let rest = drop n t in
    let long : length rest ≡ length t - n = length-drop n t in
    let some = line_len_some rest (omega (arith, long)) in
    let within = line_len_within rest in
    let size : length (line_at t n) ≡ line_len rest = length-take (line_len rest) rest ∙ omega (arith, within) in
    let ends : front is_feed (drop (line_len rest - 1) rest) ≡ true = line_ends rest (line_len rest - 1) (omega (arith, some)) (omega (arith, some, size, long, inside)) in
    begins_after t n (line_len rest - 1) (length (line_at t n)) (omega (arith, some, size)) ends

-- the count
pub counted_within : (k n : ℕ) → count_after k n ≤ n + k
counted_within zero n = omega arith
counted_within (suc k) n = let more = counted_within k (next_count n) in omega (arith, more)

pub lines_left : (t : List ℕ) (n : ℕ) → n < length t → line_count (drop n t) ≡ suc (line_count (drop (n + length (line_at t n)) t))
lines_left t n less = search (rules, length-drop, line_len_within, length-take, line_step, drop-drop)

-- a step of the count
pub record LineStep (t : List ℕ) (n : ℕ) : Type 0 where
  pub more : n < n + length (line_at t n)
  pub within : n + length (line_at t n) ≤ length t

pub step_is : (t : List ℕ) (n : ℕ) → n < length t → LineStep t n
step_is t n less = search (rules, length-drop, line_len_within, line_len_some, length-take)

pub lines_done : (t : List ℕ) (n : ℕ) → length t ≤ n → line_count (drop n t) ≡ 0
unfolding text_lines
lines_done t n h = ap line_count (drop_of_length-le t h)
