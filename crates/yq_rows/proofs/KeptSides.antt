-- How long what a change keeps on either side is.
use Rattle.std.proofs.Common.{◌≡◌, ⊎_elim, ltb, cond, Bool, true, false, ℕ, ◌+◌, ◌-◌, ◌<◌, ◌≤◌, List, [], ◌∷◌, ◌++◌, length, refl, sym, ap}
use Rattle.std.{proofs.Common.{◌∙◌, arith, append_assoc, length-append, ltb-true, rules}, proofs.lemmas.Bool.{cases_lt, lt-ltb}}
use Rattle.yq_row_table.{specs.Items.{Item, row_item, end_item, items_of_cut, rows_items}, specs.Kept.{near, ends_near}}
use Rattle.yq_row_table.{specs.Regions.no_items, specs.Rows.{Row, Cut, last, marked}, specs.Touched.{in_back, before_offset, item_text}}
use Rattle.yq_rows.{specs.Sides.text_length, proofs.BeginLaws.first_long}

-- a cut has items, and not all of them are in front of an offset within its text
pub all_before_offset : (xs : List Item) (n : ℕ) → before_offset n xs ≡ xs → no_items xs ≡ false → text_length xs < n
all_before_offset [] n all some = absurd cc
all_before_offset (i ∷ xs) n all some = go (λ rest more. all_before_offset xs (n - length (item_text i)) rest more) (ltb (length (item_text i)) n) refl where
  tail : (j k : Item) (ys zs : List Item) → j ∷ ys ≡ k ∷ zs → ys ≡ zs
  tail j k ys zs e = cc

  one : (ys : List Item) → (no_items ys ≡ false → text_length ys < n - length (item_text i)) → length (item_text i) < n → text_length (i ∷ ys) < n
  one ys h1 h2 = search (rules, first_long)

  go : (before_offset (n - length (item_text i)) xs ≡ xs → no_items xs ≡ false → text_length xs < n - length (item_text i)) → (b : Bool) → ltb (length (item_text i)) n ≡ b → text_length (i ∷ xs) < n
  go h1 b h2 = search (rules, ltb-true, tail, one)

rows_some : (rs : List Row) (i : Item) (xs : List Item) → no_items (rows_items rs (i ∷ xs)) ≡ false
rows_some [] i xs = refl
rows_some (r ∷ rs) i xs = refl

pub cut_some : (c : Cut) → no_items (items_of_cut c) ≡ false
cut_some (last p) = rows_some p.rows (end_item p.end []) []
cut_some (marked p marker c) = rows_some p.rows (end_item p.end marker) (items_of_cut c)

-- how long what is kept on either side is
pub front_long : (n : ℕ) (xs : List Item) → text_length (before_offset n xs) ≤ n
front_long n [] = omega arith
front_long n (i ∷ xs) = go (front_long (n - length (item_text i)) xs) (ltb (length (item_text i)) n) refl
  where
    go : text_length (before_offset (n - length (item_text i)) xs) ≤ n - length (item_text i) → (b : Bool) → ltb (length (item_text i)) n ≡ b → text_length (cond b (i ∷ before_offset (n - length (item_text i)) xs) []) ≤ n
    go h1 b h2 = search (rules, first_long, ltb-true)

pub back_long : (n : ℕ) (xs : List Item) → text_length (in_back n xs) ≤ n
back_long n [] = omega arith
back_long n (i ∷ xs) = go (back_long n xs) (ltb (text_length (i ∷ xs)) n) refl
  where
    go : text_length (in_back n xs) ≤ n → (b : Bool) → ltb (text_length (i ∷ xs)) n ≡ b → text_length (cond b (i ∷ xs) (in_back n xs)) ≤ n
    go h1 b h2 = search (rules, ltb-true)

-- something comes after, as a row or as the end of a part
pub some_after : (i : Item) (z : List Item) → length (near 0 (i ∷ z)) + length (ends_near 0 0 (i ∷ z)) ≡ 0 → ⊥
some_after (row_item r) z h = omega (arith, h)
some_after (end_item gap marker) z h = omega (arith, h)

-- items that are kept after, where others in front of them would be kept too
abbrev BackMore : List Item → List Item → ℕ → Type 0
BackMore a b n = (more : List Item) × (in_back n (a ++ b) ≡ more ++ b)

back_more : (a b : List Item) (n : ℕ) → text_length b < n → BackMore a b n
back_more [] [] n less = ([], refl)
back_more [] (j ∷ b) n less = ([], ap (λ (x : Bool). cond x (j ∷ b) (in_back n b)) (lt-ltb (text_length (j ∷ b)) n less))
back_more (i ∷ a) b n less = go (back_more a b n less) (ltb (text_length (i ∷ (a ++ b))) n)
  where
    go : BackMore a b n → (x : Bool) → (more : List Item) × (cond x (i ∷ (a ++ b)) (in_back n (a ++ b)) ≡ more ++ b)
    go rest true = (i ∷ a, refl)
    go rest false = rest

pub last_long : (n : ℕ) (f u z : List Item) (i : Item) → in_back n (f ++ ((u ++ (i ∷ [])) ++ z)) ≡ z → n ≤ length (item_text i) + text_length z
last_long n f u z i is = ⊎_elim {0, 0, 0}
    (λ (less : text_length (i ∷ z) < n).
    let group : f ++ ((u ++ (i ∷ [])) ++ z) ≡ (f ++ u) ++ (i ∷ z) = ap (λ (l : List Item). f ++ l) (append_assoc u (i ∷ []) z) ∙ sym (append_assoc f u (i ∷ z)) in
    let m = back_more (f ++ u) (i ∷ z) n less in
    let all : z ≡ m.0 ++ (i ∷ z) = sym is ∙ (ap (in_back n) group ∙ m.1) in
    absurd (omega (arith, ap length all, length-append m.0 (i ∷ z))))
    (λ (more : n ≤ text_length (i ∷ z)). omega (arith, more, first_long i z))
    (cases_lt (text_length (i ∷ z)) n)
