-- Steps of loops over the rests of a text.
use Rattle.std.proofs.Common.{◌≡◌, ◌≢◌, ℕ, ◌+◌, ◌<◌, ◌≤◌, Bool, true, false, List, [], ◌∷◌, length, get_or, refl, arith}
use Rattle.std.proofs.lemmas.Bool.{ne_eqb}
use Rattle.yq_core.{specs.ContentReading.breaks, specs.PlainText.no_rest, proofs.Across.{rest_of, rest_is}}

pub breaks_feed : (t : List ℕ) → 1 ≤ length t → get_or t 0 0 ≡ 10 → breaks t ≡ 1 + breaks (rest_of t)
unfolding breaks
breaks_feed [] le e = absurd (omega arith)
breaks_feed (b ∷ bs) le e = rw (e, rest_is) (omega arith)

pub breaks_other : (t : List ℕ) → 1 ≤ length t → get_or t 0 0 ≢ 10 → breaks t ≡ breaks (rest_of t)
unfolding breaks
breaks_other [] le other = absurd (omega arith)
breaks_other (b ∷ bs) le other = rw (ne_eqb b 10 other, rest_is) refl

pub breaks_none : (t : List ℕ) → length t < 1 → breaks t ≡ 0
unfolding breaks
breaks_none [] lt = refl
breaks_none (b ∷ bs) lt = absurd (omega arith)

pub rest_found : (test : List ℕ → Bool) (t : List ℕ) → 1 ≤ length t → test t ≡ true → no_rest test t ≡ false
rest_found test [] le e = absurd (omega arith)
rest_found test (b ∷ bs) le e = rw e refl

pub rest_next : (test : List ℕ → Bool) (t : List ℕ) → 1 ≤ length t → test t ≡ false → no_rest test t ≡ no_rest test (rest_of t)
rest_next test [] le e = absurd (omega arith)
rest_next test (b ∷ bs) le e = rw (e, rest_is) refl

pub rest_none : (test : List ℕ → Bool) (t : List ℕ) → length t < 1 → no_rest test t ≡ true
rest_none test [] lt = refl
rest_none test (b ∷ bs) lt = absurd (omega arith)
