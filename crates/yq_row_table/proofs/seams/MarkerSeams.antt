-- The line of a marker before another text.
use Rattle.std.proofs.Common.{rules, ◌≡◌, ◌⊎◌, ℕ, Bool, true, false, ◌||◌, List, [], ◌∷◌, ◌++◌, refl, sym, ap, ◌∙◌, ⊎_elim, arith, Some}
use Rattle.std.proofs.lemmas.Bool.{or_cases, or_right, and_parts}
use Rattle.yq_core.{specs.Text.{is_empty, is_feed, is_space, is_line, is_marker}, specs.Alike.{Alike, byte, after}}
use Rattle.yq_core.proofs.Alikes.{alike_marker}
use Rattle.yq_row_table.{specs.Grammar.IsMarkerLine, specs.Seams.is_closed, specs.SpliceFits.is_after, proofs.EmptyTexts.none_is}
use Rattle.yq_row_table.{proofs.NothingLaws.tail_apart, proofs.seams.SeamLaws.{tail_kept, tail_line}}

-- what comes after a marker's line
pub marker_byte : (a b c : ℕ) (t : List ℕ) → is_marker (a ∷ (b ∷ (c ∷ t))) ≡ true → ((a ≡ 45) × (b ≡ 45) × (c ≡ 45)) ⊎ ((a ≡ 46) × (b ≡ 46) × (c ≡ 46))
marker_byte a b c t h = search (rules, and_parts, or_cases)

abbrev pub MarkerKept : List ℕ → List ℕ → List ℕ → Type 0
MarkerKept p t u = IsMarkerLine p u × Alike (Some false) (p ++ t) (p ++ u)

pub three_lines : (a b c : ℕ) (p : List ℕ) → is_feed a ≡ false → is_feed b ≡ false → is_feed c ≡ false → is_line (a ∷ (b ∷ (c ∷ p))) ≡ is_line p
unfolding is_line
three_lines a b c p x y z = rw (x, y, z) refl

three_seam : (a b c : ℕ) (p t u : List ℕ) → is_feed a ≡ false → is_feed b ≡ false → is_feed c ≡ false → ((r : List ℕ) → is_space (c ∷ r) ≡ false) →
    IsMarkerLine (a ∷ (b ∷ (c ∷ p))) t → is_closed (a ∷ (b ∷ (c ∷ p))) u ≡ true → MarkerKept (a ∷ (b ∷ (c ∷ p))) t u
three_seam a b c p t u x y z black h closed =
    let tail_closed : is_closed p u ≡ true = ap (λ (q : Bool). q || is_empty u) (sym (three_lines a b c p x y z)) ∙ closed in
    let tail = tail_kept p t u tail_closed h.tail in
    let alike : Alike (Some false) (a ∷ (b ∷ (c ∷ (p ++ t)))) (a ∷ (b ∷ (c ∷ (p ++ u)))) = after (after (byte (black (p ++ t)) (black (p ++ u)) (tail_apart p t h.tail) (tail_apart p u tail))) in
    (record { marker = sym (alike_marker (Some false) (a ∷ (b ∷ (c ∷ (p ++ t)))) (a ∷ (b ∷ (c ∷ (p ++ u)))) alike) ∙ h.marker; long = h.long; tail = tail }, alike)

pub marker_seam : (p t u : List ℕ) → IsMarkerLine p t → is_closed p u ≡ true → MarkerKept p t u
marker_seam (a ∷ (b ∷ (c ∷ p))) t u h closed = ⊎_elim {0, 0, 0}
    (λ e. three_seam a b c p t u (rw e.0 refl) (rw e.1 refl) (rw e.2 refl) (λ r. rw e.2 refl) h closed)
    (λ e. three_seam a b c p t u (rw e.0 refl) (rw e.1 refl) (rw e.2 refl) (λ r. rw e.2 refl) h closed)
    (marker_byte a b c (p ++ t) h.marker)
marker_seam _ t u h c = absurd (let l = h.long in omega (arith, l))

-- a marker with text after it
pub marker_line_is : (p t : List ℕ) → IsMarkerLine p t → is_empty t ≡ false → is_line p ≡ true
marker_line_is [] t h some = absurd (let l = h.long in omega (arith, l))
marker_line_is (a ∷ []) t h some = absurd (let l = h.long in omega (arith, l))
marker_line_is (a ∷ (b ∷ [])) t h some = absurd (let l = h.long in omega (arith, l))
marker_line_is (a ∷ (b ∷ (c ∷ p))) t h some =
    let line : is_line p ≡ true = ⊎_elim {0, 0, 0} (λ e. e) (λ e. absurd (none_is t some e)) (tail_line p t h.tail) in
    search (rules, three_lines, marker_byte)

pub after_some : (p t u : List ℕ) → IsMarkerLine p t → is_empty t ≡ false → is_after p u ≡ true
after_some p t u h some = let line = marker_line_is p t h some in rw line (or_right (is_empty p) true refl)
