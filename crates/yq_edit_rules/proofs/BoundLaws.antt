-- Anchors and aliases of a document in which a node is changed.
use Rattle.std.proofs.lemmas.Grind.{common_steps}
use Rattle.std.proofs.Common.{arith, ◌≡◌, ◌⊎◌, ℕ, List, [], ◌∷◌, ◌++◌, Option, Some, None, option_and_then, Bool, true, false, cond, refl}
use Rattle.std.proofs.Common.{sym, ap, ◌∙◌, subst, inl, inr, ⊎_elim, append_assoc, append-nil, rules}
use Rattle.std.proofs.lemmas.Option.{none-some, same_Some}
use mathlib.Core.List.{cons≢nil}
use Rattle.yq_core.specs.Paths.{Step, is_here, further, child_at, node_at, change_child, remove_child, within, changed_at}
use Rattle.yq_core.specs.Tree.{Node, alias, scalar, list, map, Children, none, child, children_of}
use Rattle.yq_core.specs.Anchors.{Name, Anchors, Refers, anchor_names, names_of, names_in, IsAmong, AreBound}
use Rattle.yq_edit_rules.specs.Conditions.{anchors_in, aliases_in, known_after, BoundStays, Around, NamesAround, BoundChanged}

-- names in two parts
pub bound_parts : (known : List (List ℕ)) (xs ys : List Name) → AreBound known (xs ++ ys) → AreBound known xs × AreBound (known_after known xs) ys
bound_parts known [] ys h = (tt, h)
bound_parts known (Anchors a ∷ xs) ys h = bound_parts (a ∷ known) xs ys h
bound_parts known (Refers a ∷ xs) ys h = let r = bound_parts known xs ys h.1 in ((h.0, r.0), r.1)

pub bound_from : (known : List (List ℕ)) (xs ys : List Name) → AreBound known xs → AreBound (known_after known xs) ys → AreBound known (xs ++ ys)
bound_from known [] ys h k = k
bound_from known (Anchors a ∷ xs) ys h k = bound_from (a ∷ known) xs ys h k
bound_from known (Refers a ∷ xs) ys h k = (h.0, bound_from known xs ys h.1 k)

-- what is known after names was known before them, or is anchored by them
known_from : (a : List ℕ) (known : List (List ℕ)) (xs : List Name) → IsAmong a (known_after known xs) → IsAmong a known ⊎ IsAmong a (anchors_in xs)
known_from a known [] h = inl h
known_from a known (Anchors b ∷ xs) h = ⊎_elim {0, 0, 0} (λ k. ⊎_elim {0, 0, 0} (λ e. inr (inl e)) (λ m. inl m) k) (λ k. inr (inr k)) (known_from a (b ∷ known) xs h)
known_from a known (Refers b ∷ xs) h = known_from a known xs h

known_stays : (a : List ℕ) (known : List (List ℕ)) (xs : List Name) → IsAmong a known → IsAmong a (known_after known xs)
known_stays a known [] h = h
known_stays a known (Anchors b ∷ xs) h = known_stays a (b ∷ known) xs (inr h)
known_stays a known (Refers b ∷ xs) h = known_stays a known xs h

known_new : (a : List ℕ) (known : List (List ℕ)) (xs : List Name) → IsAmong a (anchors_in xs) → IsAmong a (known_after known xs)
known_new a known [] h = absurd h
known_new a known (Anchors b ∷ xs) h = ⊎_elim {0, 0, 0} (λ e. known_stays a (b ∷ known) xs (inl e)) (λ m. known_new a (b ∷ known) xs m) h
known_new a known (Refers b ∷ xs) h = known_new a known xs h

-- names stay bound where each known name that they refer to is known
bound_again : (one two : List (List ℕ)) (names : List Name) → AreBound one names → ((a : List ℕ) → IsAmong a one → IsAmong a (aliases_in names) → IsAmong a two) → AreBound two names
bound_again one two [] h k = tt
bound_again one two (Anchors b ∷ names) h k = bound_again (b ∷ one) (b ∷ two) names h (λ a known used. ⊎_elim {0, 0, 0} (λ e. inl e) (λ m. inr (k a m used)) known)
bound_again one two (Refers b ∷ names) h k = (k b h.0 (inl refl), bound_again one two names h.1 (λ a known used. k a known (inr used)))

pub bound_stays : BoundStays
bound_stays known before gone come after h new spared =
    let p = bound_parts known before (gone ++ after) h in
    let mid = known_after known before in
    let q = bound_parts mid gone after p.1 in
    bound_from known before (come ++ after) p.0 (bound_from mid come after new
    (bound_again (known_after mid gone) (known_after mid come) after q.1
    (λ a known used. ⊎_elim {0, 0, 0} (λ m. known_stays a mid come m) (λ m. known_new a mid come (spared a m used)) (known_from a mid gone known))))

-- names without aliases are bound
pub no_alias_bound : (known : List (List ℕ)) (names : List Name) → aliases_in names ≡ [] → AreBound known names
no_alias_bound known [] e = tt
no_alias_bound known (Anchors a ∷ names) e = no_alias_bound (a ∷ known) names e
no_alias_bound known (Refers a ∷ names) e = absurd (cons≢nil e)

-- the names around an item or entry, which may change, or be gone
pub record AroundChild (s : Step) (cs : Children) (m : Node) : Type 0 where
  pub front : List Name
  pub back : List Name
  pub old : names_in cs ≡ front ++ (names_of m ++ back)
  pub new : (f : Node → Node) → names_in (change_child s f cs) ≡ front ++ (names_of (f m) ++ back)
  pub gone : names_in (remove_child s cs) ≡ front ++ back

pub around_child : (s : Step) (cs : Children) (m : Node) → child_at s cs ≡ Some m → AroundChild s cs m
around_child s none m e = absurd (none-some _ e)
around_child s (child l n cs) m e = go (is_here s l) refl e (around_child (further s) cs m)
  where
    go : (b : Bool) → is_here s l ≡ b → cond b (Some n) (child_at (further s) cs) ≡ Some m → (child_at (further s) cs ≡ Some m → AroundChild (further s) cs m) → AroundChild s (child l n cs) m
    go true h e ih = grind (arith, common_steps, same_Some)
    go false h e ih =
        let r = ih e in
        record {
          front = names_of n ++ r.front;
          back = r.back;
          old = ap (λ x. names_of n ++ x) r.old ∙ sym (append_assoc (names_of n) r.front (names_of m ++ r.back));
          new = λ f. rw h (ap (λ x. names_of n ++ x) (r.new f) ∙ sym (append_assoc (names_of n) r.front (names_of (f m) ++ r.back)));
          gone = rw h (ap (λ x. names_of n ++ x) r.gone ∙ sym (append_assoc (names_of n) r.front r.back));
        }

pub anchor_front : (a : Option (List ℕ)) (xs : List Name) → anchor_names a xs ≡ anchor_names a [] ++ xs
anchor_front a xs = search rules

deep : (n : Node) (anchor : List Name) (s : Step) (ss : List Step) (cs : Children) (k m : Node) → names_of n ≡ anchor ++ names_in cs →
    ((g : Children → Children) → names_of (within g n) ≡ anchor ++ names_in (g cs)) → AroundChild s cs k → Around ss k m → Around (s ∷ ss) n m
deep n anchor s ss cs k m is changed c r =
    record {
      before = anchor ++ (c.front ++ r.before);
      after = r.after ++ c.back;
      old_names = is ∙ (ap (λ x. anchor ++ x) (c.old ∙ ap (λ x. c.front ++ (x ++ c.back)) r.old_names) ∙ whole (names_of m));
      new_names = λ f. changed (change_child s (changed_at ss f)) ∙ (ap (λ x. anchor ++ x) (c.new (changed_at ss f) ∙ ap (λ x. c.front ++ (x ++ c.back)) (r.new_names f)) ∙ whole (names_of (f m)));
    }
  where
    whole : (e : List Name) → anchor ++ (c.front ++ ((r.before ++ (e ++ r.after)) ++ c.back)) ≡ (anchor ++ (c.front ++ r.before)) ++ (e ++ (r.after ++ c.back))
    whole e =
        ap (λ x. anchor ++ (c.front ++ x)) (append_assoc r.before (e ++ r.after) c.back ∙ ap (λ x. r.before ++ x) (append_assoc e r.after c.back))
        ∙ (ap (λ x. anchor ++ x) (sym (append_assoc c.front r.before (e ++ (r.after ++ c.back)))) ∙ sym (append_assoc anchor (c.front ++ r.before) (e ++ (r.after ++ c.back))))

pub names_around : NamesAround
names_around [] n m e = record { before = []; after = []; old_names = ap names_of (same_Some _ _ e) ∙ sym (append-nil (names_of m)); new_names = λ f. ap (λ x. names_of (f x)) (same_Some _ _ e) ∙ sym (append-nil (names_of (f m))) }
names_around (s ∷ ss) n m e = go (child_at s (children_of n)) refl e (λ k d. names_around ss k m d)
  where
    none_child : (k : Node) → child_at s none ≡ Some k → ⊥
    none_child k e = none-some _ e

    kinds : (n k : Node) → child_at s (children_of n) ≡ Some k → Around ss k m → Around (s ∷ ss) n m
    kinds (alias name) k is r = absurd (none_child k is)
    kinds (scalar a i t) k is r = absurd (none_child k is)
    kinds (list a cs) k is r = deep (list a cs) (anchor_names a []) s ss cs k m (anchor_front a (names_in cs)) (λ g. anchor_front a (names_in (g cs))) (around_child s cs k is) r
    kinds (map a cs) k is r = deep (map a cs) (anchor_names a []) s ss cs k m (anchor_front a (names_in cs)) (λ g. anchor_front a (names_in (g cs))) (around_child s cs k is) r

    go : (r : Option Node) → child_at s (children_of n) ≡ r → option_and_then (node_at ss) r ≡ Some m → ((k : Node) → node_at ss k ≡ Some m → Around ss k m) → Around (s ∷ ss) n m
    go None is e ih = absurd (none-some _ e)
    go (Some k) is e ih = kinds n k is (ih k e)

-- an alias among the last names is one of all
used_last : (a : List ℕ) (xs ys : List Name) → IsAmong a (aliases_in ys) → IsAmong a (aliases_in (xs ++ ys))
used_last a [] ys h = h
used_last a (Anchors b ∷ xs) ys h = used_last a xs ys h
used_last a (Refers b ∷ xs) ys h = inr (used_last a xs ys h)

split : (p f e b q : List Name) → p ++ ((f ++ (e ++ b)) ++ q) ≡ (p ++ f) ++ (e ++ (b ++ q))
split p f e b q = ap (λ x. p ++ x) (append_assoc f (e ++ b) q ∙ ap (λ x. f ++ x) (append_assoc e b q)) ∙ sym (append_assoc p f (e ++ (b ++ q)))

pub bound_changed : BoundChanged
bound_changed steps n old f front gone come back there names spared bound =
    let r = names_around steps n old there in
    let whole : names_of n ≡ (r.before ++ front) ++ (gone ++ (back ++ r.after)) = r.old_names ∙ (ap (λ x. r.before ++ (x ++ r.after)) names.old_names ∙ split r.before front gone back r.after) in
    let changed : names_of (changed_at steps f n) ≡ (r.before ++ front) ++ (come ++ (back ++ r.after)) = search (rules, split, r) in
    let used : (a : List ℕ) → IsAmong a (aliases_in (back ++ r.after)) → IsAmong a (aliases_in (names_of n)) =
    λ a h. subst (λ x. IsAmong a (aliases_in x)) (sym whole) (used_last a (r.before ++ front) (gone ++ (back ++ r.after)) (used_last a gone (back ++ r.after) h)) in
    subst (AreBound []) (sym changed) (bound_stays [] (r.before ++ front) gone come (back ++ r.after) (subst (AreBound []) whole bound) (no_alias_bound _ come names.bare) (λ a g u. spared a g (used a u)))

-- anchors and aliases where a node is changed
pub ruleset bounds = (bound_stays, names_around, bound_changed)
