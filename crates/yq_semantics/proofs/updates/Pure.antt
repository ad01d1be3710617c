-- Copies are trees without aliases.
use Rattle.std.proofs.Common.{◌≡◌, ℕ, List, [], ◌∷◌, Option, Some, None, refl, sym, ap, subst, ◌∙◌, rules}
use Rattle.yq_core.specs.Shapes.{IsNew, AreItems, AreEntries, IsTree, AreTrees}
use Rattle.yq_core.{specs.Tree.{Label, Node, alias, scalar, list, Children, none, child, plain_label}, specs.Values.{entry, items, entries}}
use Rattle.yq_semantics.specs.Copies.{key_or_empty, and_others, keyed, copy, item_copies, entry_copies}
use Rattle.yq_semantics.{proofs.updates.Mentions.{AnyMentions, IsPure}, specs.Judgement.gives}
use Rattle.yq_semantics.proofs.JudgementLaws.{then_gives, gives_same}
use Rattle.yq_core.specs.Tree as tree

abbrev pub HaveNoAlias : Children → Type 0
HaveNoAlias cs = (a : List ℕ) → AnyMentions a cs → ⊥

-- items or entries whose nodes are trees without aliases
abbrev pub AreFree : Children → Type 0
AreFree cs = AreTrees cs × HaveNoAlias cs

pub free_child : (label : Label) (n : Node) (cs : Children) → IsPure n → AreFree cs → AreFree (child label n cs)
free_child label n cs p f = search rules

items_are : (vs : List Node) → AreItems (items vs)
items_are [] = tt
items_are (v ∷ vs) = (refl, items_are vs)

-- the key of an entry that has one
own_key : (o : Option (List ℕ)) (k : List ℕ) → o ≡ Some k → Some (key_or_empty o) ≡ o
own_key o k h = ap (λ (x : Option (List ℕ)). Some (key_or_empty x)) h ∙ sym h

-- copies of an entry and of those after it
abbrev First : Label → Node → Children → List (List ℕ × Node) → Type 0
First label n cs es = (v : Node) × (rest : List (List ℕ × Node)) × (copy n ≡ gives v) × (entry_copies cs ≡ gives rest) × ((keyed label.key v ∷ rest) ≡ es)

first_copy : (label : Label) (n : Node) (cs : Children) (es : List (List ℕ × Node)) → entry_copies (child label n cs) ≡ gives es → First label n cs es
first_copy label n cs es h = search (rules, then_gives, gives_same)

entries_new : (k : List ℕ) (cs : Children) (es : List (List ℕ × Node)) → AreEntries cs → IsNew k cs → entry_copies cs ≡ gives es → IsNew k (entries es)
entries_new k none es t new h = subst (λ (fs : List (List ℕ × Node)). IsNew k (entries fs)) (gives_same h) tt
entries_new k (child label n cs) es t new h =
    let x = first_copy label n cs es h in
    search (rules, own_key, entries_new k cs x.1 t.1 new.1 x.3)

entries_are : (cs : Children) (es : List (List ℕ × Node)) → AreEntries cs → entry_copies cs ≡ gives es → AreEntries (entries es)
entries_are none es t h = subst (λ (fs : List (List ℕ × Node)). AreEntries (entries fs)) (gives_same h) tt
entries_are (child label n cs) es t h =
    let x = first_copy label n cs es h in
    search (rules, own_key, entries_new, entries_are cs x.1 t.1 x.3)

mutual
  -- a copy is a tree without aliases
  pub copy_pure : (n v : Node) → IsTree n → copy n ≡ gives v → IsPure v
  copy_pure (alias name) v t h = absurd (cc)
  copy_pure (scalar anchor kind text) v t h = subst IsPure (gives_same h) (tt, λ a m. m)
  copy_pure (list anchor cs) v t h =
      let x = then_gives (λ (vs : List Node). gives (list None (items vs))) (item_copies cs) v h in
      let f = items_free cs x.0 t.1 x.1 in
      subst IsPure (gives_same x.2) ((items_are x.0, f.0), λ a m. f.1 a m)
  copy_pure (tree.map anchor cs) v t h =
      let x = then_gives (λ (es : List (List ℕ × Node)). gives (tree.map None (entries es))) (entry_copies cs) v h in
      let f = entries_free cs x.0 t.1 x.1 in
      subst IsPure (gives_same x.2) ((entries_are cs x.0 t.0 x.1, f.0), λ a m. f.1 a m)

  items_free : (cs : Children) (vs : List Node) → AreTrees cs → item_copies cs ≡ gives vs → AreFree (items vs)
  items_free none vs t h = subst (λ (ws : List Node). AreFree (items ws)) (gives_same h) (tt, λ a m. m)
  items_free (child label n cs) vs t h =
      let x = then_gives (and_others (item_copies cs)) (copy n) vs h in
      let y = then_gives (λ (rest : List Node). gives (x.0 ∷ rest)) (item_copies cs) vs x.2 in
      subst (λ (ws : List Node). AreFree (items ws)) (gives_same y.2) (free_child plain_label x.0 (items y.0) (copy_pure n x.0 t.0 x.1) (items_free cs y.0 t.1 y.1))

  entries_free : (cs : Children) (es : List (List ℕ × Node)) → AreTrees cs → entry_copies cs ≡ gives es → AreFree (entries es)
  entries_free none es t h = subst (λ (fs : List (List ℕ × Node)). AreFree (entries fs)) (gives_same h) (tt, λ a m. m)
  entries_free (child label n cs) es t h =
      let x = then_gives (λ (v : Node). and_others (entry_copies cs) (keyed label.key v)) (copy n) es h in
      let y = then_gives (λ (rest : List (List ℕ × Node)). gives (keyed label.key x.0 ∷ rest)) (entry_copies cs) es x.2 in
      subst (λ (fs : List (List ℕ × Node)). AreFree (entries fs)) (gives_same y.2)
      (free_child (entry (key_or_empty label.key)) x.0 (entries y.0) (copy_pure n x.0 t.0 x.1) (entries_free cs y.0 t.1 y.1))
