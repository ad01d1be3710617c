-- Items that are passed, row by row.
use Rattle.std.proofs.Common.{◌≡◌, ℕ, zero, suc, ◌+◌, ◌<◌, ◌≤◌, eqb, cond, Bool, List, [], ◌∷◌, ◌++◌, length, take, drop, Some, refl, sym}
use Rattle.std.{proofs.Common.{ap, ◌∙◌, subst, arith, length-append, rules}, proofs.lemmas.Bool.{cond-true, cond-false, eq-eqb, ne_eqb}}
use Rattle.std.{proofs.lemmas.List.{drop-append-le, length-take-le}, proofs.lemmas.Option.{same_Some, slice_get_within}}
use Rattle.std.specs.List.{slice_get}
use Rattle.yq_row_table.specs.View.{Slices}
use Rattle.yq_outline.specs.RowWalk.{line_level, level_count, AreRowsDeep, ArePassed, IsKnown}
use Rattle.yq_outline.specs.declared.line_position.KnownItem.{KnownItem}

-- lists
pub get_front : {A : Type 0} (xs ys : List A) (i : ℕ) (x : A) → slice_get xs i ≡ Some x → slice_get (xs ++ ys) i ≡ Some x
get_front [] ys i x e = absurd (cc)
get_front (y ∷ xs) ys zero x e = e
get_front (y ∷ xs) ys (suc i) x e = get_front xs ys i x e

pub get_dropped : {A : Type 0} (xs : List A) (n i : ℕ) → slice_get (drop n xs) i ≡ slice_get xs (n + i)
get_dropped [] zero i = refl
get_dropped [] (suc n) i = refl
get_dropped (x ∷ xs) zero i = ap (slice_get (x ∷ xs)) (omega arith)
get_dropped (x ∷ xs) (suc n) i = let sum : suc (n + i) ≡ suc n + i = omega arith in get_dropped xs n i ∙ ap (slice_get (x ∷ xs)) sum

pub get_before : (xs ys : List Slices) (i : ℕ) (x : Slices) → i < length xs → slice_get (xs ++ ys) i ≡ Some x → slice_get xs i ≡ Some x
get_before [] ys i x h e = absurd (omega (arith, h))
get_before (y ∷ xs) ys zero x h e = e
get_before (y ∷ xs) ys (suc i) x h e = get_before xs ys i x (omega (arith, h)) e

next_taken : (ss : List Slices) (i : ℕ) (x : Slices) → slice_get ss i ≡ Some x → take (suc i) ss ≡ take i ss ++ (x ∷ [])
next_taken [] i x e = absurd (cc)
next_taken (y ∷ ss) zero x e = ap (λ (z : Slices). z ∷ []) (same_Some _ _ e)
next_taken (y ∷ ss) (suc i) x e = ap (λ (zs : List Slices). y ∷ zs) (next_taken ss i x e)

pub taken_more : (ss : List Slices) (i : ℕ) (x : Slices) → slice_get ss i ≡ Some x → take (i + 1) ss ≡ take i ss ++ (x ∷ [])
taken_more ss i x e = let next : i + 1 ≡ suc i = omega arith in ap (λ (k : ℕ). take k ss) next ∙ next_taken ss i x e

pub one_there : (ss : List Slices) (i : ℕ) → i < length ss → (x : Slices) × (slice_get ss i ≡ Some x)
one_there [] i h = absurd (omega (arith, h))
one_there (x ∷ ss) zero h = (x, refl)
one_there (x ∷ ss) (suc i) h = one_there ss i (omega (arith, h))

deep_both : (n : ℕ) (xs ys : List Slices) → AreRowsDeep n xs → AreRowsDeep n ys → AreRowsDeep n (xs ++ ys)
deep_both n [] ys h g = g
deep_both n (x ∷ xs) ys h g = (h.0, deep_both n xs ys h.1 g)

deep_first : (n : ℕ) (xs ys : List Slices) → AreRowsDeep n (xs ++ ys) → AreRowsDeep n xs
deep_first n [] ys h = tt
deep_first n (x ∷ xs) ys h = (h.0, deep_first n xs ys h.1)

count_both : (n : ℕ) (xs ys : List Slices) → level_count n (xs ++ ys) ≡ level_count n xs + level_count n ys
count_both n [] ys = omega arith
count_both n (x ∷ xs) ys = go (eqb (line_level 0 x) n) (count_both n xs ys)
  where
    go : (b : Bool) → level_count n (xs ++ ys) ≡ level_count n xs + level_count n ys → cond b (suc (level_count n (xs ++ ys))) (level_count n (xs ++ ys)) ≡ cond b (suc (level_count n xs)) (level_count n xs) + level_count n ys
    go b h1 = search rules

pub one_as_deep : (n : ℕ) (x : Slices) → line_level 0 x ≡ n → level_count n (x ∷ []) ≡ 1
one_as_deep n x e = cond-true _ 1 0 (eq-eqb (line_level 0 x) n e)

pub none_as_deep : (n : ℕ) (x : Slices) → (line_level 0 x ≡ n → ⊥) → level_count n (x ∷ []) ≡ 0
none_as_deep n x e = cond-false _ 1 0 (ne_eqb (line_level 0 x) n e)

pub count_one : (n i m : ℕ) (x : Slices) → m ≡ line_level 0 x → cond (eqb m n) (i + 1) i ≡ i + level_count n (x ∷ [])
count_one n i m x e = search rules

-- with one row more, and with one less
abbrev pub moved_to : KnownItem → ℕ → ℕ → KnownItem
moved_to k index row = record k { index = index; row = row }

pub passed_more : (xs : List Slices) (x : Slices) (k : KnownItem) (index row : ℕ) → ArePassed xs k → k.level ≤ line_level 0 x → index ≡ k.index + level_count k.level (x ∷ []) → ArePassed (xs ++ (x ∷ [])) (moved_to k index row)
passed_more xs x k index row h deep e = search (rules, slice_get_within, drop-append-le, get_front, deep_both, count_both)

pub passed_less : (xs : List Slices) (x : Slices) (k : KnownItem) (index row : ℕ) → ArePassed (xs ++ (x ∷ [])) k → k.under.row < length xs → k.index ≡ index + level_count k.level (x ∷ []) → ArePassed xs (moved_to k index row)
passed_less xs x k index row h within e = search (rules, drop-append-le, get_before, deep_first, count_both)

-- the same of the rows of a text
pub known_more : (ss : List Slices) (k : KnownItem) (x : Slices) (index row : ℕ) → IsKnown ss k → slice_get ss k.row ≡ Some x → k.level ≤ line_level 0 x → row ≡ k.row + 1 → index ≡ k.index + level_count k.level (x ∷ []) →
    IsKnown ss (moved_to k index row)
known_more ss k x index row h is deep next e =
    let more : take row ss ≡ take k.row ss ++ (x ∷ []) = ap (λ (n : ℕ). take n ss) next ∙ taken_more ss k.row x is in
    subst (λ (xs : List Slices). ArePassed xs (moved_to k index row)) (sym more) (passed_more (take k.row ss) x k index row h deep e)

pub known_less : (ss : List Slices) (k : KnownItem) (x : Slices) (index row : ℕ) → IsKnown ss k → slice_get ss row ≡ Some x → k.row ≡ row + 1 →
    k.under.row < row → k.index ≡ index + level_count k.level (x ∷ []) → IsKnown ss (moved_to k index row)
known_less ss k x index row h is next less e =
    let more : take k.row ss ≡ take row ss ++ (x ∷ []) = ap (λ (n : ℕ). take n ss) next ∙ taken_more ss row x is in
    search (rules, length-take-le, slice_get_within, passed_less, more)

-- the first item
pub known_first : (ss : List Slices) (k : KnownItem) (x : Slices) → slice_get ss k.under.row ≡ Some x → k.level ≡ line_level k.under.line x → k.floor < k.level → k.index ≡ 1 → k.row ≡ k.under.row + 1 → IsKnown ss k
known_first ss k x is level deeper one next =
    let u : ℕ = k.under.row in
    let more : take k.row ss ≡ take u ss ++ (x ∷ []) = ap (λ (n : ℕ). take n ss) next ∙ taken_more ss u x is in
    let size : length (take u ss) ≡ u = length-take-le u ss (omega (arith, slice_get_within ss u x is)) in
    let none : drop (u + 1) (take u ss ++ (x ∷ [])) ≡ [] = all_gone (take u ss ++ (x ∷ [])) (u + 1) (omega (arith, size, length-append (take u ss) (x ∷ []))) in
    subst (λ (xs : List Slices). ArePassed xs k) (sym more)
    (record {
      piece = x;
      there = last_there (take u ss) u (omega (arith, size));
      level = level;
      deeper = deeper;
      deep = subst (AreRowsDeep k.level) (sym none) tt;
      index = one ∙ ap (λ (ys : List Slices). suc (level_count k.level ys)) (sym none);
    })
  where
    all_gone : (xs : List Slices) (n : ℕ) → length xs ≤ n → drop n xs ≡ []
    all_gone [] zero h = refl
    all_gone [] (suc n) h = refl
    all_gone (y ∷ xs) zero h = absurd (omega (arith, h))
    all_gone (y ∷ xs) (suc n) h = all_gone xs n (omega (arith, h))

    last_there : (xs : List Slices) (i : ℕ) → i ≡ length xs → slice_get (xs ++ (x ∷ [])) i ≡ Some x
    last_there [] zero e = refl
    last_there [] (suc i) e = absurd (omega (arith, e))
    last_there (y ∷ xs) zero e = absurd (omega (arith, e))
    last_there (y ∷ xs) (suc i) e = last_there xs i (omega (arith, e))
