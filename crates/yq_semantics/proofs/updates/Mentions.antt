-- Trees without aliases: nothing in them mentions a name.
use Rattle.std.proofs.Common.{rules, ◌≡◌, ℕ, ◌⊎◌, Bool, true, false, ◌||◌, List, [], ◌∷◌, ◌++◌, Option, Some, None, refl, sym, ap, ◌∙◌, inl}
use Rattle.std.{proofs.Common.inr, proofs.Math.Bool.or-false, specs.List.list_any, specs.Str.bytes_eq}
use Rattle.std.proofs.lemmas.Bool.{false≢true, or_cases, or_left, or_right}
use Rattle.yq_core.specs.Tree.{Node, alias, scalar, list, Children, none, child, children_of}
use Rattle.yq_core.{specs.Anchors.{Name, Anchors, Refers, anchor_names, names_of, names_in}, specs.Shapes.IsTree}
use Rattle.yq_semantics.specs.Changes.{refers_to, is_used, is_used_inside, is_used_in}
use Rattle.yq_core.specs.Tree as tree

abbrev mutual
  -- some alias of that name is in a node (own)
  pub Mentions : List ℕ → Node → Type 0
  Mentions a (alias name) = bytes_eq a name ≡ true
  Mentions a (scalar anchor kind text) = ⊥
  Mentions a (list anchor cs) = AnyMentions a cs
  Mentions a (tree.map anchor cs) = AnyMentions a cs

  -- the same of items or entries (own)
  pub AnyMentions : List ℕ → Children → Type 0
  AnyMentions a none = ⊥
  AnyMentions a (child label n cs) = Mentions a n ⊎ AnyMentions a cs

-- a node without aliases (own)
abbrev pub HasNoAlias : Node → Type 0
HasNoAlias n = (a : List ℕ) → Mentions a n → ⊥

-- a tree without aliases (own)
abbrev pub IsPure : Node → Type 0
IsPure v = IsTree v × HasNoAlias v

any_split : {A : Type 0} (f : A → Bool) (xs ys : List A) → list_any f (xs ++ ys) ≡ true → (list_any f xs ≡ true) ⊎ (list_any f ys ≡ true)
any_split f [] ys h = inr h
any_split f (x ∷ xs) ys h = elim (or_cases (f x) (list_any f (xs ++ ys)) h) [
  | inl e ↦ inl (or_left (f x) (list_any f xs) e)
  | inr e ↦ elim (any_split f xs ys e) [ inl k ↦ inl (or_right (f x) (list_any f xs) k) | inr k ↦ inr k ]
]

any_left : {A : Type 0} (f : A → Bool) (xs ys : List A) → list_any f xs ≡ true → list_any f (xs ++ ys) ≡ true
any_left f [] ys h = absurd (false≢true h)
any_left f (x ∷ xs) ys h = elim (or_cases (f x) (list_any f xs) h) [ inl e ↦ or_left (f x) (list_any f (xs ++ ys)) e | inr e ↦ or_right (f x) (list_any f (xs ++ ys)) (any_left f xs ys e) ]

any_right : {A : Type 0} (f : A → Bool) (xs ys : List A) → list_any f ys ≡ true → list_any f (xs ++ ys) ≡ true
any_right f [] ys h = h
any_right f (x ∷ xs) ys h = or_right (f x) (list_any f (xs ++ ys)) (any_right f xs ys h)

any_anchor : (a : List ℕ) (anchor : Option (List ℕ)) (names : List Name) → list_any (refers_to a) (anchor_names anchor names) ≡ list_any (refers_to a) names
any_anchor a anchor names = search rules

mutual
  mentioned : (a : List ℕ) (n : Node) → list_any (refers_to a) (names_of n) ≡ true → Mentions a n
  mentioned a (alias name) h = sym (or-false (bytes_eq a name)) ∙ h
  mentioned a (scalar anchor kind text) h = false≢true (sym (any_anchor a anchor []) ∙ h)
  mentioned a (list anchor cs) h = any_mentioned a cs (sym (any_anchor a anchor (names_in cs)) ∙ h)
  mentioned a (tree.map anchor cs) h = any_mentioned a cs (sym (any_anchor a anchor (names_in cs)) ∙ h)

  any_mentioned : (a : List ℕ) (cs : Children) → list_any (refers_to a) (names_in cs) ≡ true → AnyMentions a cs
  any_mentioned a none h = false≢true h
  any_mentioned a (child label n cs) h = elim (any_split (refers_to a) (names_of n) (names_in cs) h) [ inl e ↦ inl (mentioned a n e) | inr e ↦ inr (any_mentioned a cs e) ]

mutual
  refers_in : (a : List ℕ) (n : Node) → Mentions a n → list_any (refers_to a) (names_of n) ≡ true
  refers_in a (alias name) h = or-false (bytes_eq a name) ∙ h
  refers_in a (scalar anchor kind text) h = absurd h
  refers_in a (list anchor cs) h = any_anchor a anchor (names_in cs) ∙ any_refer a cs h
  refers_in a (tree.map anchor cs) h = any_anchor a anchor (names_in cs) ∙ any_refer a cs h

  any_refer : (a : List ℕ) (cs : Children) → AnyMentions a cs → list_any (refers_to a) (names_in cs) ≡ true
  any_refer a none h = absurd h
  any_refer a (child label n cs) (inl h) = any_left (refers_to a) (names_of n) (names_in cs) (refers_in a n h)
  any_refer a (child label n cs) (inr h) = any_right (refers_to a) (names_of n) (names_in cs) (any_refer a cs h)

-- one tree mentions no more than another
abbrev pub MentionsNoMore : Node → Node → Type 0
MentionsNoMore n m = (a : List ℕ) → Mentions a n → Mentions a m

-- what no alias of the greater tree names, none of the lesser one does
used_less : (n m : Node) → MentionsNoMore n m → (xs : List Name) → list_any (is_used (names_of m)) xs ≡ false → list_any (is_used (names_of n)) xs ≡ false
used_less n m less [] h = refl
used_less n m less (Refers a ∷ xs) h = used_less n m less xs h
used_less n m less (Anchors a ∷ xs) h = go (list_any (refers_to a) (names_of n)) refl (list_any (refers_to a) (names_of m)) refl (used_less n m less xs) h
  where
    go : (b : Bool) → list_any (refers_to a) (names_of n) ≡ b → (c : Bool) → list_any (refers_to a) (names_of m) ≡ c → (list_any (is_used (names_of m)) xs ≡ false → list_any (is_used (names_of n)) xs ≡ false) →
        (c || list_any (is_used (names_of m)) xs) ≡ false → (b || list_any (is_used (names_of n)) xs) ≡ false
    go b is true e rest k = absurd (false≢true (sym k))
    go false is false e rest k = rest k
    go true is false e rest k = absurd (false≢true (sym e ∙ refers_in a m (less a (mentioned a n is))))

pub inside_less : (n m : Node) → MentionsNoMore n m → (x : Option Node) → is_used_inside (names_of m) x ≡ false → is_used_inside (names_of n) x ≡ false
inside_less n m less None h = refl
inside_less n m less (Some x) h = used_less n m less (names_in (children_of x)) h

pub in_less : (n m : Node) → MentionsNoMore n m → (x : Option Node) → is_used_in (names_of m) x ≡ false → is_used_in (names_of n) x ≡ false
in_less n m less None h = refl
in_less n m less (Some x) h = used_less n m less (names_of x) h

-- a node without anchors and aliases has no alias
pub unnamed_free : (v : Node) → names_of v ≡ [] → HasNoAlias v
unnamed_free v unnamed a m = false≢true (ap (list_any (refers_to a)) (sym unnamed) ∙ refers_in a v m)
