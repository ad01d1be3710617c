-- The ranges of what segments put touch what is between two offsets of the text that they make.
use Rattle.std.proofs.Common.{rules, ◌≡◌, ◌⊎◌, inl, inr, ℕ, ◌+◌, ◌<◌, ◌≤◌, Bool, true, false, List, [], ◌∷◌, ◌++◌, length, refl, sym, ap}
use Rattle.std.{proofs.Common.{◌∙◌, subst, append_assoc, arith}, proofs.lemmas.Bool.{cases_lt, false≢true}}
use Rattle.std.proofs.lemmas.List.{append_cancel_left, length-append}
use Rattle.yq_core.{specs.Text.is_empty, proofs.BlockPieceLaws.IsLf}
use Rattle.yq_row_table.proofs.NothingLaws.{some_after}
use Rattle.yq_text.specs.Script.{Segment, keep, put, are_kept, extents, from_first, kept_back, kept_front, new_text, swapped_segments}
use Rattle.yq_text.proofs.KeptSegments.{new_kept, one_kept}
use Rattle.yq_edit_laws.specs.TouchedRanges.{AreInLines, IsTouched, is_one_line}
use Rattle.yq_edit_rules.{proofs.HeldPieces.suffix_lf, proofs.LocalLaws.longer_front}

-- ---- an LF in a part of a line

line_no_more : (f : List ℕ) (d : ℕ) (rest : List ℕ) → is_one_line (f ++ (10 ∷ (d ∷ rest))) ≡ true → ⊥
unfolding is_one_line
line_no_more [] d rest e = false≢true e
line_no_more (b ∷ f) d rest e = search (rules, false≢true, some_after, line_no_more f d rest)

-- ---- offsets of a text that is cut in two

module _ (before after : List ℕ) (to : ℕ) (ended : is_empty after ≡ false → (before ≡ []) ⊎ IsLf before) (less : length before ≤ to) where
  -- what is kept doesn't go over the cut, and on after that
  inside : (lead run rest : List ℕ) → lead ++ (run ++ rest) ≡ before ++ after → length lead < length before → to < length lead + length run → to ≤ length before + length after → is_one_line run ≡ true → ⊥
  inside lead run rest text first last within line =
      let m = longer_front lead (run ++ rest) before after text (omega (arith, first)) in
      let tail : run ++ rest ≡ m.0 ++ after = append_cancel_left lead (run ++ rest) (m.0 ++ after) (text ∙ (ap (λ t. t ++ after) m.1 ∙ append_assoc lead m.0 after)) in
      let size : length before ≡ length lead + length m.0 = ap length m.1 ∙ length-append lead m.0 in
      let d = longer_front m.0 after run rest (sym tail) (omega (arith, size, last, less)) in
      let sized : length run ≡ length m.0 + length d.0 = ap length d.1 ∙ length-append m.0 d.0 in
      let sides : length run + length rest ≡ length m.0 + length after = sym (length-append run rest) ∙ (ap length tail ∙ length-append m.0 after) in
      split m.0 d.0 m.1 d.1 (omega (arith, size, first)) (omega (arith, sized, size, last, less)) (omega (arith, sized, sides, size, last, less))
    where
      ends : (m d : List ℕ) → run ≡ m ++ d → 1 ≤ length d → IsLf m → ⊥
      ends m [] is some lf = omega (arith, some)
      ends m (x ∷ d) is some lf = line_no_more lf.0 x d (ap is_one_line (sym (is ∙ (ap (λ t. t ++ (x ∷ d)) lf.1 ∙ append_assoc lf.0 (10 ∷ []) (x ∷ d)))) ∙ line)

      some_of : (t : List ℕ) → 1 ≤ length t → is_empty t ≡ false
      some_of [] h = absurd (omega (arith, h))
      some_of (x ∷ t) h = refl

      split : (m d : List ℕ) → before ≡ lead ++ m → run ≡ m ++ d → 1 ≤ length m → 1 ≤ length d → 1 ≤ length after → ⊥
      split m d cut is own more far = go (ended (some_of after far))
        where
          go : (before ≡ []) ⊎ IsLf before → ⊥
          go (inl none) = omega (arith, first, ap length none)
          go (inr lf) = ends m d is more (suffix_lf lead m (subst IsLf cut lf) (some_of m own))

  -- a range that begins no later
  begun : (lead o w : List ℕ) (ss : List Segment) → lead ++ (w ++ new_text ss) ≡ before ++ after → length lead ≤ to → length (kept_back ss) ≤ length after →
      (length lead + length w < length before → are_kept ss ≡ false → IsTouched (length before) to (extents (length lead + length w) (swapped_segments ss))) →
      IsTouched (length before) to (extents (length lead) (swapped_segments (put o w ∷ ss)))
  begun lead o w ss text first back later = go (cases_lt (length lead + length w) (length before))
    where
      size : length lead + (length w + length (new_text ss)) ≡ length before + length after
      size = omega (arith, ap length text, length-append lead (w ++ new_text ss), length-append w (new_text ss), length-append before after)

      kept : (b : Bool) → are_kept ss ≡ b → length lead + length w < length before → IsTouched (length before) to (extents (length lead + length w) (swapped_segments ss))
      kept true all k = absurd (omega (arith, size, k, back, ap length (new_kept ss all)))
      kept false all k = later k all

      go : (length lead + length w < length before) ⊎ (length before ≤ length lead + length w) → IsTouched (length before) to (extents (length lead) (swapped_segments (put o w ∷ ss)))
      go (inl k) = inr (kept (are_kept ss) refl k)
      go (inr k) = inl (first, k)

  -- after a range that ends in front of the cut
  after_range : (lead run : List ℕ) (ss : List Segment) → lead ++ (run ++ new_text ss) ≡ before ++ after → length lead < length before → AreInLines run ss → are_kept ss ≡ false → length (kept_back ss) ≤ length after →
      to ≤ length before + length after → IsTouched (length before) to (extents (length lead + length run) (swapped_segments ss))
  after_range lead run [] text first lines kept back within = absurd (false≢true (sym kept))
  after_range lead run (keep t ∷ ss) text first lines kept back within =
      subst (λ (n : ℕ). IsTouched (length before) to (extents n (swapped_segments ss))) (let same : length lead + length (run ++ t) ≡ (length lead + length run) + length t = omega (arith, length-append run t) in same)
      (after_range lead (run ++ t) ss (ap (λ x. lead ++ x) (append_assoc run t (new_text ss)) ∙ text) first lines kept (subst (λ (x : List ℕ). length x ≤ length after) (one_kept t ss false kept) back) within)
  after_range lead run (put o w ∷ ss) text first lines kept back within =
      let at : length (lead ++ run) ≡ length lead + length run = length-append lead run in
      go (λ k more. after_range ((lead ++ run) ++ w) [] ss (append_assoc (lead ++ run) w (new_text ss) ∙ whole) (omega (arith, k, length-append (lead ++ run) w)) lines.1 more back within)
      (cases_lt to (length lead + length run))
    where
      whole : (lead ++ run) ++ (w ++ new_text ss) ≡ before ++ after
      whole = append_assoc lead run (w ++ new_text ss) ∙ text

      go : (length (lead ++ run) + length w < length before → are_kept ss ≡ false → IsTouched (length before) to (extents (length ((lead ++ run) ++ w) + 0) (swapped_segments ss))) →
          (to < length lead + length run) ⊎ (length lead + length run ≤ to) → IsTouched (length before) to (extents (length lead + length run) (swapped_segments (put o w ∷ ss)))
      go later k = search (rules, arith, inside, length-append, begun, whole)

  -- from the first one on
  pub from_front : (lead : List ℕ) (ss : List Segment) → lead ++ new_text ss ≡ before ++ after → AreInLines [] (from_first ss) → are_kept ss ≡ false → length lead + length (kept_front ss) ≤ to → length (kept_back ss) ≤ length after →
      to ≤ length before + length after → IsTouched (length before) to (extents (length lead) (swapped_segments ss))
  from_front lead [] text lines kept front back within = absurd (false≢true (sym kept))
  from_front lead (keep t ∷ ss) text lines kept front back within =
      subst (λ (n : ℕ). IsTouched (length before) to (extents n (swapped_segments ss))) (length-append lead t)
      (from_front (lead ++ t) ss (append_assoc lead t (new_text ss) ∙ text) lines kept
      (omega (arith, front, length-append lead t, length-append t (kept_front ss)))
      (subst (λ (x : List ℕ). length x ≤ length after) (one_kept t ss false kept) back) within)
  from_front lead (put o w ∷ ss) text lines kept front back within =
      begun lead o w ss text (omega (arith, front)) back
      (λ k more.
      let n : length (lead ++ w) + 0 ≡ length lead + length w = omega (arith, length-append lead w) in
      subst (λ (n : ℕ). IsTouched (length before) to (extents n (swapped_segments ss))) n
      (after_range (lead ++ w) [] ss (append_assoc lead w (new_text ss) ∙ text) (omega (arith, k, length-append lead w)) lines.1 more back within))

-- ---- at the first range, and at the last one

pub at_first : (n from to : ℕ) (ss : List Segment) → are_kept ss ≡ false → from ≤ n + length (kept_front ss) → n + length (kept_front ss) ≤ to → IsTouched from to (extents n (swapped_segments ss))
at_first n from to [] kept a b = absurd (false≢true (sym kept))
at_first n from to (keep t ∷ ss) kept a b = at_first (n + length t) from to ss kept (omega (arith, a, length-append t (kept_front ss))) (omega (arith, b, length-append t (kept_front ss)))
at_first n from to (put o w ∷ ss) kept a b = inl (omega (arith, b), omega (arith, a))

pub at_last : (n from to : ℕ) (ss : List Segment) → are_kept ss ≡ false → from + length (kept_back ss) ≤ n + length (new_text ss) →
    n + length (new_text ss) ≤ from + length (kept_back ss) → from ≤ to → IsTouched from to (extents n (swapped_segments ss))
at_last n from to [] kept a b less = absurd (false≢true (sym kept))
at_last n from to (keep t ∷ ss) kept a b less =
    let back : length (kept_back (keep t ∷ ss)) ≡ length (kept_back ss) = ap length (one_kept t ss false kept) in
    at_last (n + length t) from to ss kept (omega (arith, a, back, length-append t (new_text ss))) (omega (arith, b, back, length-append t (new_text ss))) less
at_last n from to (put o w ∷ ss) kept a b less = search (rules, length-append, new_kept, at_last (n + length w) from to ss)
