-- Where one more item or entry can be taken out of a collection after one, there were several.
use Rattle.std.proofs.Common.{◌≡◌, suc, ◌<◌, Bool, true, false, cond, List, [], ◌∷◌, ◌++◌, Option, Some, None, option_map, option_and_then}
use Rattle.std.{proofs.Common.{refl, sym, ap, ◌∙◌, arith}, proofs.lemmas.Bool.lt-ltb, proofs.lemmas.Option.{none-some, same_Some}}
use Rattle.yq_core.specs.Paths.{Step, is_here, further, child_at, node_at, change_child, changed_at, remove_child, within}
use Rattle.yq_core.specs.Tree.{Node, alias, scalar, list, map, Children, none, child, children_of}
use Rattle.yq_outline.specs.Counts.{count}
use Rattle.yq_documents.specs.TreeEdits.{at_end}
use Rattle.yq_places.specs.RemovalPlaces.{has_others, has_several}
use Rattle.yq_edit_rules.{proofs.AfterLaws.end_is_change, proofs.RemovalChangeLaws.take_init}

children_within : (g : Children → Children) (n : Node) → g none ≡ none → children_of (within g n) ≡ g (children_of n)
children_within g (alias name) e = sym e
children_within g (scalar anchor kind text) e = sym e
children_within g (list anchor zs) e = refl
children_within g (map anchor zs) e = refl

child_changed : (s : Step) (f : Node → Node) (zs : Children) → child_at s (change_child s f zs) ≡ option_map f (child_at s zs)
child_changed s f none = refl
child_changed s f (child label n zs) = go (is_here s label) refl (child_changed (further s) f zs)
  where
    go : (b : Bool) → is_here s label ≡ b → child_at (further s) (change_child (further s) f zs) ≡ option_map f (child_at (further s) zs) →
        child_at s (cond b (child label (f n) zs) (child label n (change_child (further s) f zs))) ≡ option_map f (cond b (Some n) (child_at (further s) zs))
    go true is ih = rw is refl
    go false is ih = rw is ih

one_less : (s : Step) (zs : Children) (m : Node) → child_at s zs ≡ Some m → count zs ≡ suc (count (remove_child s zs))
one_less s none m e = absurd (none-some _ e)
one_less s (child label n zs) m e = go (is_here s label) e (one_less (further s) zs m)
  where
    go : (b : Bool) → cond b (Some n) (child_at (further s) zs) ≡ Some m → (child_at (further s) zs ≡ Some m → count zs ≡ suc (count (remove_child (further s) zs))) →
        suc (count zs) ≡ suc (count (cond b zs (child label n (remove_child (further s) zs))))
    go true e ih = refl
    go false e ih = ap suc (ih e)

some_there : (s : Step) (zs : Children) (m : Node) → child_at s zs ≡ Some m → 0 < count zs
some_there s none m e = absurd (none-some _ e)
some_there s (child label n zs) m e = omega arith

node_one : (s : Step) (n m : Node) → node_at (s ∷ []) n ≡ Some m → child_at s (children_of n) ≡ Some m
node_one s n m e = go (child_at s (children_of n)) e
  where
    go : (o : Option Node) → option_and_then (node_at []) o ≡ Some m → o ≡ Some m
    go None e = absurd (none-some _ e)
    go (Some x) e = e

node_more : (s : Step) (ss : List Step) (n m : Node) → node_at (s ∷ ss) n ≡ Some m → (k : Node) × (child_at s (children_of n) ≡ Some k) × (node_at ss k ≡ Some m)
node_more s ss n m e = go (child_at s (children_of n)) refl e
  where
    go : (o : Option Node) → child_at s (children_of n) ≡ o → option_and_then (node_at ss) o ≡ Some m → (k : Node) × (child_at s (children_of n) ≡ Some k) × (node_at ss k ≡ Some m)
    go None is e = absurd (none-some _ e)
    go (Some k) is e = (k, is, e)

several : (above : List Step) (s t : Step) (n m l : Node) → node_at (above ++ (s ∷ [])) n ≡ Some m → node_at (above ++ (t ∷ [])) (changed_at above (within (remove_child s)) n) ≡ Some l →
    has_several (node_at above n) ≡ true
several [] s t n m l there next =
    let own : child_at s (children_of n) ≡ Some m = node_one s n m there in
    let other : child_at t (remove_child s (children_of n)) ≡ Some l =
    ap (child_at t) (sym (children_within (remove_child s) n refl)) ∙ node_one t (within (remove_child s) n) l next in
    lt-ltb 1 (count (children_of n)) (omega (arith, one_less s (children_of n) m own, some_there t (remove_child s (children_of n)) l other))
several (a ∷ above) s t n m l there next =
    let x = node_more a (above ++ (s ∷ [])) n m there in
    let f : Node → Node = changed_at above (within (remove_child s)) in
    let y = node_more a (above ++ (t ∷ [])) (within (change_child a f) n) l next in
    let same : Some y.0 ≡ Some (f x.0) =
    sym y.1 ∙ (ap (child_at a) (children_within (change_child a f) n refl) ∙ (child_changed a f (children_of n) ∙ ap (option_map f) x.1)) in
    ap (λ (o : Option Node). has_several (option_and_then (node_at above) o)) x.1
    ∙ several above s t x.0 m l x.2 (ap (node_at (above ++ (t ∷ []))) (sym (same_Some _ _ same)) ∙ y.2)

-- the collection has several, where an item or entry of it can be taken out after another one
pub others_follow : (above : List Step) (s t : Step) (n m l : Node) → node_at (above ++ (s ∷ [])) n ≡ Some m → node_at (above ++ (t ∷ [])) (at_end remove_child (above ++ (s ∷ [])) n) ≡ Some l →
    has_others (above ++ (s ∷ [])) n ≡ true
others_follow above s t n m l there next =
    ap (λ (ss : List Step). has_several (node_at ss n)) (take_init above s)
    ∙ several above s t n m l there (ap (node_at (above ++ (t ∷ []))) (sym (end_is_change remove_child above s n)) ∙ next)
