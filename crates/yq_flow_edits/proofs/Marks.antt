-- Lines and document markers before a place of a text, and in its pieces.
use Rattle.std.proofs.Common.{◌≡◌, ℕ, suc, ◌+◌, ◌-◌, Bool, false, ◌&&◌, ◌||◌, nat_le, List, [], ◌∷◌, ◌++◌, length, drop, ap, ◌∙◌, arith}
use Rattle.std.{proofs.Common.{append_assoc, length-append, rules}, proofs.Math.Seq.drop-append_seam, proofs.lemmas.Bool.{le-leb, lt-ltb}}
use Rattle.yq_core.{specs.PlainText.begins_marker, specs.Text.is_feed, specs.Alike.fresh}
use Rattle.yq_flow_edits.{specs.FlowPlaces.{past_feed, marks_before}, specs.Removals.ends_marked}

-- after a byte
feed_after : (w : List ℕ) (b : ℕ) (x : List ℕ) (at : ℕ) → at ≡ suc (length w) → past_feed (w ++ (b ∷ x)) at ≡ is_feed b
feed_after w b x at h =
    let less : at - 1 ≡ length w = omega (arith, h) in
    search (rules, lt-ltb, drop-append_seam)

-- after a byte that is no LF, and a gap
pub line_after : (g w : List ℕ) (b : ℕ) (x : List ℕ) (at : ℕ) → at ≡ suc (length w + length g) → past_feed (w ++ (b ∷ (g ++ x))) at ≡ fresh (is_feed b) g
line_after [] w b x at h = feed_after w b x at (omega (arith, h))
line_after (c ∷ g) w b x at h = search (rules, append_assoc, length-append, line_after g (w ++ (b ∷ [])) c x)

no_more : (z a b : Bool) → z ≡ (z || ((a && false) || ((b && false) || false)))
no_more z a b = search rules

no_two : (z a : Bool) → false ≡ ((z && false) || ((a && false) || false))
no_two z a = search rules

no_one : (z : Bool) → false ≡ ((z && false) || false)
no_one z = search rules

no_longer : (z e : Bool) → e ≡ ((z && false) || e)
no_longer z e = search rules

-- the test of the code, by how far it is between the two places
test_at : List ℕ → ℕ → ℕ → Bool
test_at t n m = nat_le 3 n && (past_feed t m && begins_marker (drop m t))

by_test : (t : List ℕ) (from at n : ℕ) → at - from ≡ n → marks_before t from at ≡ test_at t n (at - 3)
unfolding test_at
by_test t from at n h = ap (λ k. nat_le 3 k && (past_feed t (at - 3) && begins_marker (drop (at - 3) t))) h

-- and by what is there
pub marks_are : (p w x : List ℕ) (t : List ℕ) (from at : ℕ) → t ≡ w ++ (p ++ x) → from ≡ length w → at ≡ from + length p → marks_before t from at ≡ ends_marked (past_feed t from) p
unfolding test_at
marks_are [] w x t from at is f a = by_test t from at 0 (omega (arith, a))
marks_are (b ∷ []) w x t from at is f a = by_test t from at 1 (omega (arith, a)) ∙ no_one (past_feed t from)
marks_are (b ∷ c ∷ []) w x t from at is f a = by_test t from at 2 (omega (arith, a)) ∙ no_two (past_feed t from) (is_feed b)
marks_are (b ∷ c ∷ d ∷ []) w x t from at is f a =
    let back : at - 3 ≡ from = omega (arith, a) in
    search (rules, drop-append_seam, by_test, no_more)
marks_are (b ∷ c ∷ d ∷ e ∷ p) w x t from at is f a =
    search (rules, append_assoc, feed_after, length-append, le-leb, no_longer, marks_are (c ∷ d ∷ e ∷ p) (w ++ (b ∷ [])) x t (suc from))
