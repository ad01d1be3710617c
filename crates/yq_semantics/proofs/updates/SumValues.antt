-- Sums are trees without aliases.
use Rattle.yq_semantics.{proofs.updates.Mentions.{unnamed_free, IsPure}, specs.Judgement.{and_then, gives}}
use Rattle.yq_semantics.{specs.Program.{SumHolds, PathStep, Term, literal, found}, specs.Conditions.{node_there, value_of}}
use Rattle.yq_semantics.{specs.Copies.copy_at, specs.Pipes.pipe_on, specs.Places.FoundPlace, specs.PlacesApart.IsIn}
use Rattle.yq_semantics.specs.RightValues.{is_null, as_items, with_entry, with_entries, value_sum, sum, only_copy, term_value, sum_from}
use Rattle.yq_semantics.{specs.RightValues.right_value, proofs.JudgementLaws.{then_gives, gives_same}, proofs.GoodPlaces.AreSound}
use Rattle.yq_semantics.{proofs.PathLaws.bytes_refl, proofs.updates.PipePlaces.pipe_good}
use Rattle.yq_semantics.proofs.updates.Pure.{AreFree, free_child, copy_pure}
use Rattle.std.proofs.Common.{◌≡◌, ◌≢◌, ℕ, Bool, true, false, cond, List, [], ◌∷◌, Option, Some, None, refl, sym, subst, inl, inr, rules}
use Rattle.std.{proofs.lemmas.Bool.false≢true, proofs.lemmas.Option.none-some}
use Rattle.yq_core.specs.Tree.{Label, Node, alias, scalar, list, Children, none, child, key_label}
use Rattle.yq_core.specs.Paths.{To, key_is, child_at, change_child, append_child, append_children}
use Rattle.yq_core.specs.Shapes.{IsNew, AreItems, AreEntries, IsTree}
use Rattle.yq_core.specs.Tree as tree

free_first : (label : Label) (n : Node) (cs : Children) → AreFree (child label n cs) → IsPure n
free_first label n cs f = (f.0.0, λ a m. f.1 a (inl m))

free_rest : (label : Label) (n : Node) (cs : Children) → AreFree (child label n cs) → AreFree cs
free_rest label n cs f = (f.0.1, λ a m. f.1 a (inr m))

free_join : (cs ds : Children) → AreFree cs → AreFree ds → AreFree (append_children cs ds)
free_join none ds f g = g
free_join (child label n cs) ds f g = free_child label n (append_children cs ds) (free_first label n cs f) (free_join cs ds (free_rest label n cs f) g)

items_join : (cs ds : Children) → AreItems cs → AreItems ds → AreItems (append_children cs ds)
items_join none ds h k = k
items_join (child label n cs) ds h k = (h.0, items_join cs ds h.1 k)

pub items_items : (v : Node) → IsPure v → AreItems (as_items v)
items_items v h1 = search rules

pub items_free : (v : Node) → IsPure v → AreFree (as_items v)
items_free (alias name) p = free_child (key_label None) (alias name) none p ((tt, λ a m. m))
items_free (scalar anchor kind text) p = free_child (key_label None) (scalar anchor kind text) none p ((tt, λ a m. m))
items_free (list anchor cs) p = (p.0.1, λ a m. p.1 a m)
items_free (tree.map anchor cs) p = free_child (key_label None) (tree.map anchor cs) none p ((tt, λ a m. m))

free_append : (label : Label) (v : Node) (cs : Children) → IsPure v → AreFree cs → AreFree (append_child label v cs)
free_append label v none p f = free_child label v none p ((tt, λ a m. m))
free_append label v (child first n cs) p f = free_child first n (append_child label v cs) (free_first first n cs f) (free_append label v cs p (free_rest first n cs f))

free_change : (k : List ℕ) (v : Node) (cs : Children) → IsPure v → AreFree cs → AreFree (change_child (To k) (λ old. v) cs)
free_change k v none p f = f
free_change k v (child label n cs) p f = search (rules, free_rest, free_child, free_first, free_change k v cs p (free_rest label n cs f))

-- a key that isn't found is new
pub not_found : (k : List ℕ) (cs : Children) → child_at (To k) cs ≡ None → IsNew k cs
not_found k none h = tt
not_found k (child label n cs) h = search (rules, none-some, bytes_refl, false≢true, not_found k cs)

new_append : (j k : List ℕ) (v : Node) (cs : Children) → j ≢ k → IsNew k cs → IsNew k (append_child (key_label (Some j)) v cs)
new_append j k v none d h = ((λ e. d (let same : j ≡ k = cc in same)), tt)
new_append j k v (child label n cs) d h = (h.0, new_append j k v cs d h.1)

new_change : (j k : List ℕ) (f : Node → Node) (cs : Children) → IsNew k cs → IsNew k (change_child (To j) f cs)
new_change j k f none h = tt
new_change j k f (child label n cs) h = go (key_is j label.key) (new_change j k f cs h.1)
  where
    go : (b : Bool) → IsNew k (change_child (To j) f cs) → IsNew k (cond b (child label (f n) cs) (child label n (change_child (To j) f cs)))
    go b ih = search rules

entries_append : (k : List ℕ) (v : Node) (cs : Children) → IsNew k cs → AreEntries cs → AreEntries (append_child (key_label (Some k)) v cs)
entries_append k v none new h = ((k, refl, tt), tt)
entries_append k v (child label n cs) new h = search (rules, new_append, entries_append k v cs new.1 h.1)

entries_change : (j : List ℕ) (f : Node → Node) (cs : Children) → AreEntries cs → AreEntries (change_child (To j) f cs)
entries_change j f none h = tt
entries_change j f (child label n cs) h = search (rules, new_change, entries_change j f cs h.1)

-- entries with one more value
abbrev AreMap : Children → Type 0
AreMap cs = AreEntries cs × AreFree cs

with_one : (k : List ℕ) (v : Node) (cs : Children) → IsPure v → AreMap cs → AreMap (with_entry (Some k) v cs)
with_one k v cs p m = search (rules, entries_append, not_found, free_append, entries_change, free_change)

with_all : (cs ds : Children) → AreMap cs → AreMap ds → AreMap (with_entries cs ds)
with_all cs none m n = m
with_all cs (child label v ds) m n =
    with_all (with_entry label.key v cs) ds
    (subst (λ (o : Option (List ℕ)). AreMap (with_entry o v cs)) (sym n.0.0.1) (with_one n.0.0.0 v cs (free_first label v ds n.1) m))
    (n.0.1, free_rest label v ds n.1)

value_pure : (n v w : Node) → IsPure n → IsPure v → value_sum n v ≡ gives w → IsPure w
value_pure (scalar a k t) (scalar b j u) w p q h = search (rules, gives_same)
value_pure (list a cs) v w p q h = search (rules, free_join, items_free, gives_same, items_join, items_items, with_all)
value_pure (tree.map a cs) (tree.map b ds) w p q h = search (rules, free_join, items_free, gives_same, items_join, items_items, with_all)
value_pure _ _ w p q h = absurd (cc)

pub sum_pure : (n v w : Node) → IsPure n → IsPure v → sum n v ≡ gives w → IsPure w
sum_pure n v w p q h = go (is_null n) (is_null v) h
  where
    go : (a b : Bool) → cond a (gives v) (cond b (gives n) (value_sum n v)) ≡ gives w → IsPure w
    go true b e = subst IsPure (gives_same e) q
    go false true e = subst IsPure (gives_same e) p
    go false false e = value_pure n v w p q e

-- ---- terms

at_pure : (p : FoundPlace) (v : Node) → IsTree p.node → copy_at p ≡ gives v → IsPure v
at_pure p v t h = copy_pure (value_of p) v (go p.missing) h
  where
    go : (missing : List PathStep) → IsTree (node_there missing p.node)
    go missing = search rules

only_pure : (root : Node) (ps : List FoundPlace) (v : Node) → AreSound root ps → only_copy ps ≡ gives v → IsPure v
only_pure root (p ∷ []) v s h = at_pure p v s.0.0 h
only_pure root _ v s h = absurd (cc)

module _ (root : Node) (doc : ℕ) (p : FoundPlace) (tree : IsTree p.node) (at : IsIn root p) where
  term_pure : (t : Term) (ts : List Term) (v : Node) → SumHolds (t ∷ ts) → term_value doc p t ≡ gives v → IsPure v
  term_pure (literal w) ts v free h = subst IsPure (gives_same h) ((free.0.tree, unnamed_free w free.0.unnamed))
  term_pure (found pipe) ts v free h =
      let x = then_gives only_copy (pipe_on doc pipe (p ∷ [])) v h in
      only_pure root x.0 v (pipe_good root doc pipe (p ∷ []) x.0 (record { apart = (tt, tt); sound = ((tree, at), tt) }) x.1).sound x.2

  terms_rest : (t : Term) (ts : List Term) → SumHolds (t ∷ ts) → SumHolds ts
  terms_rest t ts free = search rules

  from_pure : (v : Node) (ts : List Term) (w : Node) → IsPure v → SumHolds ts → sum_from doc p v ts ≡ gives w → IsPure w
  from_pure v [] w q free h = subst IsPure (gives_same h) q
  from_pure v (t ∷ ts) w q free h =
      let x = then_gives (λ u. and_then (λ s. sum_from doc p s ts) (sum v u)) (term_value doc p t) w h in
      let y = then_gives (λ s. sum_from doc p s ts) (sum v x.0) w x.2 in
      from_pure y.0 ts w (sum_pure v x.0 y.0 q (term_pure t ts x.0 free x.1) y.1) (terms_rest t ts free) y.2

  -- what a sum of terms gives is a tree without aliases
  pub right_pure : (ts : List Term) (v : Node) → SumHolds ts → right_value doc ts p ≡ gives v → IsPure v
  right_pure [] v free h = subst IsPure (gives_same h) (tt, λ a x. x)
  right_pure (t ∷ ts) v free h =
      let x = then_gives (λ u. sum_from doc p u ts) (term_value doc p t) v h in
      from_pure x.0 ts v (term_pure t ts x.0 free x.1) (terms_rest t ts free) x.2
