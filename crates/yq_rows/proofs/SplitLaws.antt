-- A list of places that is split in two ways.
use Rattle.std.proofs.Common.{◌≡◌, ℕ, suc, ◌-◌, ◌<◌, ◌≤◌, Some, List, [], ◌∷◌, ◌++◌, length, map, reverse, slice_get, refl, sym, ap, ◌∙◌}
use Rattle.std.proofs.Common.{subst, arith, append-nil, length-append, lt-ltb, le-ltb, rules}
use Rattle.std.{proofs.lemmas.List.{reverse-append, reverse-reverse}, proofs.lemmas.List.Elements.{All-cons, All-head, All-nil, All-tail}}
use Rattle.std.specs.List.{All}
use Rattle.yq_row_table.{specs.Items.{Item, row_item, end_item}, specs.Kept.{far, row_from_end}, specs.Offsets.offsets_of}
use Rattle.yq_row_table.{specs.View.slices, specs.declared.ends.EndPlace.EndPlace}
use Rattle.yq_rows.{specs.Sides.{FirstFrom, ends_before, nearer, text_length}, proofs.BeginLaws.first_long}
use Rattle.yq_row_table.specs.declared.offsets.Offsets as declared

-- the last place of a list
abbrev pub LastIs : (declared.Offsets → Type 0) → List declared.Offsets → Type 0
LastIs P os = (o : declared.Offsets) → slice_get os (length os - 1) ≡ Some o → P o

-- the first one
abbrev pub FirstIs : (declared.Offsets → Type 0) → List declared.Offsets → Type 0
FirstIs P os = (o : declared.Offsets) → slice_get os 0 ≡ Some o → P o

last_deeper : (o p : declared.Offsets) (os : List declared.Offsets) → slice_get (o ∷ (p ∷ os)) (length (o ∷ (p ∷ os)) - 1) ≡ slice_get (p ∷ os) (length (p ∷ os) - 1)
last_deeper o p os = search rules

last_found : (Q : declared.Offsets → Type 0) (o : declared.Offsets) (os rest : List declared.Offsets) → All Q ((o ∷ os) ++ rest) → (x : declared.Offsets) × (slice_get (o ∷ os) (length (o ∷ os) - 1) ≡ Some x) × Q x
last_found Q o [] rest h = (o, refl, All-head Q o rest h)
last_found Q o (p ∷ os) rest h = let x = last_found Q p os rest (All-tail Q o ((p ∷ os) ++ rest) h) in (x.0, last_deeper o p os ∙ x.1, x.2)

-- Of two splits, the one whose first part ends with a place that the other's second part has not is the shorter one.
pub record IsPrefix (a b c d : List declared.Offsets) : Type 0 where
  pub more : List declared.Offsets
  pub first : c ≡ a ++ more
  pub second : b ≡ more ++ d

last_later : (P : declared.Offsets → Type 0) (o : declared.Offsets) (a : List declared.Offsets) → LastIs P (o ∷ a) → LastIs P a
last_later P o [] h x e = absurd cc
last_later P o (p ∷ a) h x e = h x (last_deeper o p a ∙ e)

pub prefix : (P Q : declared.Offsets → Type 0) → ((o : declared.Offsets) → P o → Q o → ⊥) → (a b c d : List declared.Offsets) → a ++ b ≡ c ++ d → LastIs P a → All Q d → IsPrefix a b c d
prefix P Q apart [] b c d e last all = record { more = c; first = refl; second = e }
prefix P Q apart (o ∷ a) b [] d e last all = let x = last_found Q o a b (subst (All Q) (sym e) all) in absurd (apart x.0 (last x.0 x.1) x.2)
prefix P Q apart (o ∷ a) b (p ∷ c) d e last all =
    let same : o ≡ p = cc in
    let rest : a ++ b ≡ c ++ d = cc in
    search (rules, last_later, rest, same, prefix P Q apart a b c d rest (last_later P o a last) all)

-- The two splits are one where the second part begins with a place that the other's first part has not.
pub one_split : (P Q : declared.Offsets → Type 0) → ((o : declared.Offsets) → P o → Q o → ⊥) → (a b c d : List declared.Offsets) → a ++ b ≡ c ++ d → LastIs P a → FirstIs Q b → All P c → All Q d → a ≡ c
one_split P Q apart a b c d e last first front back = go (prefix P Q apart a b c d e last back) where
  none : (c b more : List declared.Offsets) → All P c → c ≡ a ++ more → b ≡ more ++ d → FirstIs Q b → a ≡ c
  none c b [] all is at h = sym (append-nil a) ∙ sym is
  none c b (o ∷ more) all is at h = absurd (apart o (held a (subst (All P) is all)) (h o (ap (λ (l : List declared.Offsets). slice_get l 0) at)))
    where
      held : (a : List declared.Offsets) → All P (a ++ (o ∷ more)) → P o
      held [] all = All-head P o more all
      held (p ∷ a) all = held a (All-tail P p (a ++ (o ∷ more)) all)

  go : IsPrefix a b c d → a ≡ c
  go h = none c b h.more front h.first h.second first

-- the last of a list is the first of it reversed
pub last_of_joined : (a : List declared.Offsets) (o : declared.Offsets) → slice_get (a ++ (o ∷ [])) (length (a ++ (o ∷ [])) - 1) ≡ Some o
last_of_joined a o = ap (λ (n : ℕ). slice_get (a ++ (o ∷ [])) n) (let n : length (a ++ (o ∷ [])) - 1 ≡ length a = omega (arith, length-append a (o ∷ [])) in n) ∙ go a where
  go : (a : List declared.Offsets) → slice_get (a ++ (o ∷ [])) (length a) ≡ Some o
  go [] = refl
  go (p ∷ a) = go a

pub first_turned : (at len : ℕ) (after : List declared.Offsets) → FirstFrom at len after → FirstIs (λ o. at ≤ o.start) (map (row_from_end len) (reverse after))
first_turned at len after h = go (reverse after) (sym (reverse-reverse after)) where
  go : (back : List declared.Offsets) → after ≡ reverse back → FirstIs (λ o. at ≤ o.start) (map (row_from_end len) back)
  go [] is o e = absurd cc
  go (p ∷ back) is o e =
      let all : after ≡ reverse back ++ (p ∷ []) = is ∙ reverse-append (p ∷ []) back in
      search (rules, last_of_joined, all)

-- counts up to a place
pub ends_counted : (at : ℕ) (a b : List EndPlace) → All (λ e. e.start < at) a → All (λ e. at ≤ e.start) b → ends_before at (a ++ b) ≡ length a
ends_counted at [] [] h k = refl
ends_counted at [] (e ∷ b) h k = rw (le-ltb e.start at (All-head (λ (e : EndPlace). at ≤ e.start) e b k)) refl
ends_counted at (e ∷ a) b h k = rw (lt-ltb e.start at (All-head (λ (e : EndPlace). e.start < at) e a h)) (ap suc (ends_counted at a b (All-tail (λ (e : EndPlace). e.start < at) e a h) k))

nearer_are : (back : ℕ) (a b : List declared.Offsets) → All (λ o. back ≤ o.start) a → All (λ o. o.start < back) b → nearer back (a ++ b) ≡ b
nearer_are back [] [] h k = refl
nearer_are back [] (o ∷ b) h k = rw (lt-ltb o.start back (All-head (λ (o : declared.Offsets). o.start < back) o b k)) refl
nearer_are back (o ∷ a) b h k = rw (le-ltb o.start back (All-head (λ (o : declared.Offsets). back ≤ o.start) o a h)) (nearer_are back a b (All-tail (λ (o : declared.Offsets). back ≤ o.start) o a h) k)

pub nearer_split : (back : ℕ) (os a b : List declared.Offsets) → os ≡ a ++ b → All (λ o. back ≤ o.start) a → All (λ o. o.start < back) b → nearer back os ≡ b
nearer_split back os a b e h k = ap (nearer back) e ∙ nearer_are back a b h k

-- places measured from the other end, twice
abbrev pub Within : ℕ → declared.Offsets → Type 0
Within n o = o.start ≤ n

pub turned_one : (n : ℕ) (o : declared.Offsets) → Within n o → row_from_end n (row_from_end n o) ≡ o
turned_one n o h = ap (λ (s : ℕ). record o { start = s }) (let s : n - (n - o.start) ≡ o.start = omega (arith, h) in s)

pub turned_twice : (n : ℕ) (os : List declared.Offsets) → All (Within n) os → map (row_from_end n) (map (row_from_end n) os) ≡ os
turned_twice n [] h = refl
turned_twice n (o ∷ os) h = ap (λ (p : declared.Offsets). p ∷ map (row_from_end n) (map (row_from_end n) os)) (turned_one n o (All-head (Within n) o os h)) ∙ ap (λ l. o ∷ l) (turned_twice n os (All-tail (Within n) o os h))

-- ---- rows by their distance from the end of a text

pub far_within : (n : ℕ) (xs : List Item) → text_length xs ≤ n → All (Within n) (far xs)
far_within n [] h = All-nil (Within n)
far_within n (row_item r ∷ xs) h = All-cons (Within n) (offsets_of (text_length (row_item r ∷ xs)) (slices r)) (far xs) h (far_within n xs (omega (arith, h, first_long (row_item r) xs)))
far_within n (end_item gap marker ∷ xs) h = far_within n xs (omega (arith, h, first_long (end_item gap marker) xs))
