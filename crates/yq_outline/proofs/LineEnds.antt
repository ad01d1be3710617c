-- Where the lines under a line end, by how many of those after it are deeper.
use Rattle.std.proofs.Common.{◌≡◌, ℕ, zero, suc, ◌+◌, ◌<◌, ◌≤◌, ltb, List, [], ◌∷◌, ◌++◌, length, drop, Some, Bool, cond, refl, sym, ap}
use Rattle.std.{proofs.Common.{◌∙◌, arith, length-drop, rules}, proofs.lemmas.Bool.{lt-ltb, ltb-true, cond-true}}
use Rattle.std.{proofs.lemmas.List.drop-drop, proofs.lemmas.Option.{same_Some, slice_get_within}, specs.List.slice_get}
use Rattle.yq_outline.{specs.Ends.{IsEndOf, deeper_count, lines_end}, specs.Group.{shallow, group}}
use Rattle.yq_outline.{specs.Outline.{Line, level, Outline, end, row, flatten}, proofs.Decides.flatten-group, proofs.EndsLaws.has_line}

-- after the lines that are deeper than one level and those that are deeper than a lower one
shallow_twice : (k m : ℕ) (o : Outline) → k < m → shallow k (shallow m o) ≡ shallow k o
shallow_twice k m end h = refl
shallow_twice k m (row l u a) h = search (rules, cond-true, lt-ltb, ltb-true, shallow_twice k m a h)

shallow_group : (k : ℕ) (ls : List Line) → shallow k (group ls) ≡ group (drop (deeper_count k ls) ls)
shallow_group k [] = refl
shallow_group k (l ∷ ls) = search (rules, shallow_twice, ltb-true, shallow_group k ls)

-- no more are deeper than there are
count_within : (k : ℕ) (ls : List Line) → deeper_count k ls ≤ length ls
count_within k [] = omega arith
count_within k (l ∷ ls) = go (ltb k (level l)) (count_within k ls)
  where
    go : (b : Bool) → deeper_count k ls ≤ length ls → cond b (suc (deeper_count k ls)) 0 ≤ suc (length ls)
    go b h1 = search rules

-- the end of a line that is there
pub end_within : (ls : List Line) (n : ℕ) → n < length ls → (n < lines_end n ls) × (lines_end n ls ≤ length ls)
end_within [] n h = absurd (omega (arith, h))
end_within (l ∷ ls) zero h = (omega arith, omega (arith, count_within (level l) ls))
end_within (l ∷ ls) (suc n) h = let again = end_within ls n (omega (arith, h)) in (omega (arith, again.0), omega (arith, again.1))

-- the end of a line after others
pub following_end : (xs ys : List Line) (l : Line) → lines_end (length xs) (xs ++ (l ∷ ys)) ≡ suc (length xs) + deeper_count (level l) ys
following_end [] ys l = omega arith
following_end (x ∷ xs) ys l = omega (arith, following_end xs ys l)

pub end_line : (ls : List Line) (n : ℕ) (l : Line) → slice_get ls n ≡ Some l → lines_end n ls ≡ suc n + deeper_count (level l) (drop (suc n) ls)
end_line [] n l is = absurd (cc)
end_line (x ∷ ls) zero l is = let same : deeper_count (level x) ls ≡ deeper_count (level l) ls = ap (λ (y : Line). deeper_count (level y) ls) (same_Some _ _ is) in omega (arith, same)
end_line (x ∷ ls) (suc n) l is = omega (arith, end_line ls n l is)

-- the end of the lines under a line is where the code keeps it
pub end_agrees : (ls : List Line) (n next : ℕ) → n < length ls → IsEndOf ls n next → next ≡ lines_end n ls
end_agrees ls n next within ends =
    let there = has_line ls n within in
    let k : ℕ = level there.0 in
    let one : n + 1 ≡ suc n = omega arith in
    let after : group (drop next ls) ≡ group (drop (deeper_count k (drop (suc n) ls)) (drop (suc n) ls)) =
    sym (ends.2 there.0 there.1) ∙ (ap (λ (j : ℕ). shallow k (group (drop j ls))) one ∙ shallow_group k (drop (suc n) ls)) in
    let same : drop next ls ≡ drop (deeper_count k (drop (suc n) ls)) (drop (suc n) ls) = sym (flatten-group _) ∙ (ap flatten after ∙ flatten-group _) in
    omega (
      arith,
      within,
      ends.0,
      ends.1,
      ap length same,
      length-drop next ls,
      length-drop (suc n) ls,
      length-drop (deeper_count k (drop (suc n) ls)) (drop (suc n) ls),
      count_within k (drop (suc n) ls),
      end_line ls n there.0 there.1,
    )

-- the end of the lines under a line, by how many deeper ones follow it
pub end_counted : (ls : List Line) (n : ℕ) (l : Line) → slice_get ls n ≡ Some l → IsEndOf ls n (suc n + deeper_count (level l) (drop (suc n) ls))
end_counted ls n l is =
    let within : n < length ls = slice_get_within ls n l is in
    let count = count_within (level l) (drop (suc n) ls) in (
      omega arith,
      omega (arith, within, count, length-drop (suc n) ls),
      λ m e.
          let same : m ≡ l = same_Some _ _ (sym e ∙ is) in
          let one : n + 1 ≡ suc n = omega arith in
          (λ i. shallow (level (same i)) (group (drop (one i) ls)))
          ∙ (shallow_group (level l) (drop (suc n) ls) ∙ ap group (drop-drop (deeper_count (level l) (drop (suc n) ls)) (suc n) ls)),
    )
