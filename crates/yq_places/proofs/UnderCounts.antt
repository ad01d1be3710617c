-- How many lines are under one that was found.
use Rattle.std.proofs.Common.{◌≡◌, ℕ, suc, ◌+◌, ◌<◌, ◌≤◌, ltb, List, [], ◌∷◌, ◌++◌, length, drop, Some, Bool, true, cond, refl, ap, ◌∙◌}
use Rattle.std.proofs.Common.{arith, append_assoc, length-append, rules}
use Rattle.std.proofs.lemmas.Bool.{ltb-true, ltb-false, lt-ltb, le-ltb, cond-true, cond-false}
use Rattle.std.{proofs.lemmas.Option.{none-some, same_Some}, specs.List.slice_get}
use Rattle.yq_core.specs.Paths.{Step}
use Rattle.yq_outline.{specs.Ends.{deeper_count, lines_end}, specs.Group.{group, level_or, is_fine}}
use Rattle.yq_outline.specs.Outline.{Line, level, Outline, end, row, flatten, IsEven}
use Rattle.yq_outline.{specs.Places.{Context, here, below, beside, lines_before, lines_after, FoundLine, find}, proofs.Allowing.Allows}
use Rattle.yq_outline.proofs.LineEnds.{following_end}
use Rattle.yq_places.proofs.RowPathLaws.{allowed_level, found_lines, found_place}

-- how many lines are deeper
pub count_stops : (k : ℕ) (ls : List Line) (x : Line) → slice_get ls (deeper_count k ls) ≡ Some x → level x ≤ k
count_stops k [] x e = absurd (none-some _ e)
count_stops k (l ∷ ls) x e = go (ltb k (level l)) refl (λ h. count_stops k ls x h) e
  where
    go : (b : Bool) → ltb k (level l) ≡ b → (slice_get ls (deeper_count k ls) ≡ Some x → level x ≤ k) → slice_get (l ∷ ls) (cond b (suc (deeper_count k ls)) 0) ≡ Some x → level x ≤ k
    go b h1 h2 h3 = search (rules, ltb-false, same_Some)

pub count_holds : (k : ℕ) (ls : List Line) (j : ℕ) (x : Line) → j < deeper_count k ls → slice_get ls j ≡ Some x → k < level x
count_holds k [] j x h e = absurd (none-some _ e)
count_holds k (l ∷ ls) j x h e = go (ltb k (level l)) refl (λ i h e. count_holds k ls i x h e) j h e
  where
    go : (b : Bool) → ltb k (level l) ≡ b → ((i : ℕ) → i < deeper_count k ls → slice_get ls i ≡ Some x → k < level x) → (j : ℕ) → j < cond b (suc (deeper_count k ls)) 0 → slice_get (l ∷ ls) j ≡ Some x → k < level x
    go b h1 h2 j h3 h4 = search (rules, ltb-true, same_Some)

-- the first of lines is no deeper
abbrev pub Shallow : ℕ → List Line → Type 0
Shallow m [] = Unit {0}
Shallow m (l ∷ ls) = level l ≤ m

pub shallow_append : (m : ℕ) (xs ys : List Line) → Shallow m xs → Shallow m ys → Shallow m (xs ++ ys)
shallow_append m xs ys h1 h2 = search rules

pub shallow_even : (m n : ℕ) (o : Outline) → IsEven n o → n ≤ m → Shallow m (flatten o)
shallow_even m n end h less = tt
shallow_even m n (row l u a) h less = omega (arith, h.0, less)

pub shallow_after : (n : ℕ) (p : Context) (m : ℕ) → Allows n p m → Shallow m (lines_after p)
shallow_after n here m h = tt
shallow_after n (below l p after) m h = shallow_append m (lines_after p) (flatten after) (shallow_after h.3.0 p m h.3.2) (shallow_even m n after h.4 (omega (arith, h.3.1, allowed_level h.3.0 m p h.3.2)))
shallow_after n (beside l under p) m h = shallow_after n p m h.4

pub count_none : (m : ℕ) (ls : List Line) → Shallow m ls → deeper_count m ls ≡ 0
count_none m ls h1 = search (rules, cond-false, le-ltb)

pub count_under : (n m : ℕ) (o : Outline) (more : List Line) → n < m → IsEven m o → deeper_count n (flatten o ++ more) ≡ length (flatten o) + deeper_count n more
count_under n m end more less h = omega arith
count_under n m (row l u a) more less h =
    let first : ltb n (level l) ≡ true = lt-ltb n (level l) (omega (arith, less, h.0)) in
    cond-true _ _ _ first
    ∙ (ap suc (ap (deeper_count n) (append_assoc (flatten u) (flatten a) more)
    ∙ (count_under n h.3.0 u (flatten a ++ more) (omega (arith, less, h.3.1)) h.3.2 ∙ ap (λ k. length (flatten u) + k) (count_under n m a more less h.4)))
    ∙ omega (arith, length-append (flatten u) (flatten a)))

-- where the lines under a line that was found end
pub end_is : (ls : List Line) (y : Step) (ys rest : List Step) (f : FoundLine) → find y ys (group ls) ≡ Some (f, rest) → is_fine (group ls) ≡ true →
    (deeper_count (level f.line) (drop (suc (length (lines_before f.place))) ls) ≡ length (flatten f.under)) × (lines_end (length (lines_before f.place)) ls ≡ suc (length (lines_before f.place)) + length (flatten f.under))
end_is ls y ys rest f is fine =
    let back : List Line = flatten f.after ++ lines_after f.place in
    let found : ls ≡ lines_before f.place ++ (f.line ∷ (flatten f.under ++ back)) = found_lines ls y ys rest f is in
    let h = found_place ls y ys rest f is fine in
    let count : deeper_count (level f.line) (flatten f.under ++ back) ≡ length (flatten f.under) =
    count_under (level f.line) h.1.3.0 f.under back h.1.3.1 h.1.3.2
    ∙ omega (
      arith,
      count_none (level f.line) back (shallow_append (level f.line) (flatten f.after) (lines_after f.place)
          (shallow_even (level f.line) (level f.line) f.after h.1.4 (omega arith)) (shallow_after (level_or 0 (group ls)) f.place (level f.line) h.0)),
    ) in (
      ap (deeper_count (level f.line)) (ap (drop (suc (length (lines_before f.place)))) found ∙ drop_line (lines_before f.place) (flatten f.under ++ back) f.line) ∙ count,
      ap (lines_end (length (lines_before f.place))) found ∙ (following_end (lines_before f.place) (flatten f.under ++ back) f.line ∙ omega (arith, count)),
    )
  where
    drop_line : (xs ys : List Line) (l : Line) → drop (suc (length xs)) (xs ++ (l ∷ ys)) ≡ ys
    drop_line [] ys l = refl
    drop_line (x ∷ xs) ys l = drop_line xs ys l
