-- The items that segments touch are those that they exchange.
use Rattle.std.proofs.Common.{rules, ◌≡◌, ℕ, ◌+◌, ◌-◌, ◌≤◌, ltb, cond, Bool, true, false, List, [], ◌∷◌, ◌++◌, length, refl, sym, ap, ◌∙◌}
use Rattle.std.{proofs.Common.{subst, append_assoc, arith}, proofs.lemmas.Bool.le-ltb, proofs.lemmas.List.length-append}
use Rattle.yq_row_table.{specs.Items.{Item, items_of_cut, items_text}, proofs.ItemLaws.items_text-append, proofs.KeptLaws.items_apart}
use Rattle.yq_row_table.specs.Touched.{item_text, before_offset, in_back}
use Rattle.yq_text.specs.Script.{kept_front, kept_back}
use Rattle.yq_edit_rules.{specs.Local.{InFirst, InLast, LocalTouches}, proofs.ItemsLocal.{first_nothing, item_apart}}

-- ---- lengths

pub size_one : (i : Item) (is : List Item) → length (items_text (i ∷ is) []) ≡ length (item_text i) + length (items_text is [])
size_one i is = ap length (item_apart i is []) ∙ length-append (item_text i) (items_text is [])

size_rest : (is : List Item) (rest : List ℕ) → length (items_text is rest) ≡ length (items_text is []) + length rest
size_rest is rest = ap length (items_apart is rest) ∙ length-append (items_text is []) rest

pub size_joined : (a b : List Item) → length (items_text (a ++ b) []) ≡ length (items_text a []) + length (items_text b [])
size_joined a b = ap length (items_text-append a b []) ∙ size_rest a (items_text b [])

-- ---- in front

first_more : (lead : List ℕ) (gone back : List Item) → InFirst lead gone → InFirst lead (gone ++ back)
first_more lead [] back h = subst (λ (l : List ℕ). InFirst l back) (sym h) (first_nothing back)
first_more lead (i ∷ gone) back h = h

none_before_offset : (lead : List ℕ) (is : List Item) → InFirst lead is → before_offset (length lead) is ≡ []
none_before_offset lead [] h = refl
none_before_offset lead (i ∷ is) h = ap (λ (b : Bool). cond b (i ∷ before_offset (length lead - length (item_text i)) is) []) (le-ltb (length (item_text i)) (length lead) h)

-- items in front of that offset end before the first one that goes
front_only : (front is : List Item) (lead : List ℕ) (n : ℕ) → n ≡ length (items_text front []) + length lead → InFirst lead is → before_offset n (front ++ is) ≡ before_offset n front
front_only [] is lead n e h = ap (λ (m : ℕ). before_offset m is) (let same : n ≡ length lead = omega (arith, e) in same) ∙ none_before_offset lead is h
front_only (f ∷ front) is lead n e h =
    let rest : n - length (item_text f) ≡ length (items_text front []) + length lead = omega (arith, e, size_one f front) in
    ap (λ (xs : List Item). cond (ltb (length (item_text f)) n) (f ∷ xs) []) (front_only front is lead (n - length (item_text f)) rest h)

-- the items before an offset are the first ones
pub front_left : (n : ℕ) (is : List Item) → (more : List Item) × (is ≡ before_offset n is ++ more)
front_left n [] = ([], refl)
front_left n (i ∷ is) = go (front_left (n - length (item_text i)) is) (ltb (length (item_text i)) n)
  where
    go : (more : List Item) × (is ≡ before_offset (n - length (item_text i)) is ++ more) → (b : Bool) → (more : List Item) × (i ∷ is ≡ cond b (i ∷ before_offset (n - length (item_text i)) is) [] ++ more)
    go x true = (x.0, ap (λ (xs : List Item). i ∷ xs) x.1)
    go x false = (i ∷ is, refl)

-- ---- after

last_long : (trail : List ℕ) (is : List Item) → InLast trail is → length trail ≤ length (items_text is [])
last_long trail [] h = omega (arith, ap length h)
last_long trail (i ∷ []) h = omega (arith, h, size_one i [])
last_long trail (i ∷ (j ∷ is)) h = omega (arith, last_long trail (j ∷ is) h, size_one i (j ∷ is))

-- one item more in front
skipped : (i : Item) (is : List Item) (n : ℕ) → n ≤ length (items_text (i ∷ is) []) → in_back n (i ∷ is) ≡ in_back n is
skipped i is n long = ap (λ (b : Bool). cond b (i ∷ is) (in_back n is)) (le-ltb (length (items_text (i ∷ is) [])) n long)

-- items after that place begin after the last one that goes
back_only : (is back : List Item) (n : ℕ) (trail : List ℕ) → n ≡ length trail + length (items_text back []) → InLast trail is → in_back n (is ++ back) ≡ in_back n back
back_only [] back n trail e h = refl
back_only (i ∷ []) back n trail e h = skipped i back n (omega (arith, e, h, size_one i back))
back_only (i ∷ (j ∷ is)) back n trail e h =
    skipped i ((j ∷ is) ++ back) n (omega (arith, e, last_long trail (j ∷ is) h, size_joined (j ∷ is) back, size_one i ((j ∷ is) ++ back))) ∙ back_only (j ∷ is) back n trail e h

-- the same with more items in front
back_after : (front is back : List Item) (n : ℕ) (trail : List ℕ) → n ≡ length trail + length (items_text back []) → InLast trail is → in_back n (front ++ (is ++ back)) ≡ in_back n back
back_after [] is back n trail e h = back_only is back n trail e h
back_after (f ∷ front) is back n trail e h = search (rules, arith, skipped, last_long, size_one, size_joined, back_after front is back n trail e h)

back_left : (n : ℕ) (is : List Item) → (more : List Item) × (is ≡ more ++ in_back n is)
back_left n [] = ([], refl)
back_left n (i ∷ is) = go (back_left n is) (ltb (length (items_text (i ∷ is) [])) n)
  where
    go : (more : List Item) × (is ≡ more ++ in_back n is) → (b : Bool) → (more : List Item) × (i ∷ is ≡ more ++ cond b (i ∷ is) (in_back n is))
    go x true = ([], refl)
    go x false = (i ∷ x.0, ap (λ (xs : List Item). i ∷ xs) x.1)

-- ---- both

five : (a m is n z : List Item) → (a ++ m) ++ (is ++ (n ++ z)) ≡ a ++ ((m ++ (is ++ n)) ++ z)
five a m is n z = append_assoc a m (is ++ (n ++ z)) ∙ ap (λ (x : List Item). a ++ x) (ap (λ (x : List Item). m ++ x) (sym (append_assoc is n z)) ∙ sym (append_assoc m (is ++ n) z))

pub local_touches : LocalTouches
local_touches ss c new h =
    let n : ℕ = length (kept_front ss) in
    let m : ℕ = length (kept_back ss) in
    let before : n ≡ length (items_text h.front []) + length h.lead = ap length h.before_is ∙ size_rest h.front h.lead in
    let after : m ≡ length h.trail + length (items_text h.back []) = ap length h.following_is ∙ length-append h.trail (items_text h.back []) in
    let front_of : (is : List Item) → InFirst h.lead is → before_offset n (h.front ++ (is ++ h.back)) ≡ before_offset n h.front = λ is b. front_only h.front (is ++ h.back) h.lead n before (first_more h.lead is h.back b) in
    let back_of : (is : List Item) → InLast h.trail is → in_back m (h.front ++ (is ++ h.back)) ≡ in_back m h.back = λ is b. back_after h.front is h.back m h.trail after b in
    let f = front_left n h.front in
    let z = back_left m h.back in
    let old_front : before_offset n h.front ≡ before_offset n (items_of_cut c) = sym (ap (before_offset n) h.old_are ∙ front_of h.gone h.begins.0) in
    let old_back : in_back m h.back ≡ in_back m (items_of_cut c) = sym (ap (in_back m) h.old_are ∙ back_of h.gone h.ends.0) in
    let split : (is : List Item) → h.front ++ (is ++ h.back) ≡ before_offset n (items_of_cut c) ++ ((f.0 ++ (is ++ z.0)) ++ in_back m (items_of_cut c)) =
    λ is. (λ i. f.1 i ++ (is ++ z.1 i)) ∙ (five (before_offset n h.front) f.0 is z.0 (in_back m h.back) ∙ (λ i. old_front i ++ ((f.0 ++ (is ++ z.0)) ++ old_back i))) in
    search (rules, f.0, h.gone, z.0, h.come, h.old_are, split, h.new_are, n, front_of, h.begins.1, old_front, m, back_of, h.ends.1, old_back)
