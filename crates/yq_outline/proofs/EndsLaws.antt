-- Lines that are deeper than a level.
use Rattle.std.proofs.Common.{◌≡◌, ℕ, ◌<◌, ◌≤◌, ltb, List, length, get_or, Some, None, Bool, true, false, not, ◌⊎◌, inl, inr, sym, ap, ◌∙◌}
use Rattle.std.proofs.Common.{rules, zero, suc, ◌+◌, [], ◌∷◌, drop, add-one}
use Rattle.std.proofs.lemmas.Bool.{lt-ltb, le-ltb, cases_lt, false≢true, cond-true, cond-false}
use Rattle.std.{proofs.lemmas.Option.{slice_get_cases, same_Some}, specs.List.slice_get}
use Rattle.yq_outline.{specs.Outline.{Line, level, end, row}, specs.Ends.{part, has_no_lines, rest}, specs.Group.{deeper_lines, group}}

-- ---- the lines of a collection, by their indexes

pub drop_at : {A : Type 0} (xs : List A) (i : ℕ) (x : A) → slice_get xs i ≡ Some x → drop i xs ≡ x ∷ drop (i + 1) xs
drop_at {A = A} [] i x h = cc
drop_at {A = A} (y ∷ xs) zero x h = ap (λ z. z ∷ xs) (same_Some _ _ h)
drop_at {A = A} (y ∷ xs) (suc i) x h = rw add-one (let again = drop_at xs i x h in rw add-one at again)

pub part_row : (ls : List Line) (i floor : ℕ) (l : Line) → slice_get ls i ≡ Some l → floor < level l →
    part ls i floor ≡ row l (part ls (i + 1) (level l)) (deeper_lines floor (rest ls (i + 1) (level l)))
part_row ls i floor l is deep = ap (λ x. deeper_lines floor (group x)) (drop_at ls i l is) ∙ cond-true _ _ _ (lt-ltb floor (level l) deep)

pub part_stop : (ls : List Line) (i floor : ℕ) (l : Line) → slice_get ls i ≡ Some l → level l ≤ floor → part ls i floor ≡ end
part_stop ls i floor l is low = ap (λ x. deeper_lines floor (group x)) (drop_at ls i l is) ∙ cond-false _ _ _ (le-ltb floor (level l) low)

-- where the lines under line i end
abbrev pub EndsAt : List Line → ℕ → Line → ℕ → Type 0
EndsAt ls i l next = rest ls (i + 1) (level l) ≡ group (drop next ls)

pub row_parts : (ls : List Line) (i floor next : ℕ) (l : Line) → slice_get ls i ≡ Some l → floor < level l → EndsAt ls i l next →
    part ls i floor ≡ row l (part ls (i + 1) (level l)) (part ls next floor)
row_parts ls i floor next l is deep ends = part_row ls i floor l is deep ∙ ap (λ o. row l (part ls (i + 1) (level l)) (deeper_lines floor o)) ends

-- ---- lines that are deeper than a level

pub has_line : (ls : List Line) (i : ℕ) → i < length ls → (l : Line) × (slice_get ls i ≡ Some l)
has_line ls i h = go ((slice_get_cases ls i).1)
  where
    go : ((x : Line) × (i < length ls) × (slice_get ls i ≡ Some x) × (get_or ls i x ≡ x)) ⊎ ((length ls ≤ i) × (slice_get ls i ≡ None)) → (l : Line) × (slice_get ls i ≡ Some l)
    go h1 = search rules

-- a line is among the deeper ones exactly where its level is greater
pub deeper_at : (ls : List Line) (i floor : ℕ) (l : Line) → slice_get ls i ≡ Some l → ltb floor (level l) ≡ not (has_no_lines (part ls i floor))
deeper_at ls i floor l is = go (cases_lt floor (level l))
  where
    go : (floor < level l) ⊎ (level l ≤ floor) → ltb floor (level l) ≡ not (has_no_lines (part ls i floor))
    go (inl h) = lt-ltb floor (level l) h ∙ sym (ap (λ o. not (has_no_lines o)) (part_row ls i floor l is h))
    go (inr h) = le-ltb floor (level l) h ∙ sym (ap (λ o. not (has_no_lines o)) (part_stop ls i floor l is h))

pub not_end : (e : Bool) → true ≡ not e → e ≡ false
not_end e h1 = search rules

pub is_at_end : (e : Bool) → false ≡ not e → e ≡ true
is_at_end e h1 = search rules

-- a line that is no end is deeper
pub deeper_line : (ls : List Line) (i floor : ℕ) (l : Line) → slice_get ls i ≡ Some l → has_no_lines (part ls i floor) ≡ false → floor < level l
deeper_line ls i floor l is h = search (rules, cases_lt, false≢true, part_stop)
