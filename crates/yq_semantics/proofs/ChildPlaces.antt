-- From a place to a child, and to all of them.
use Rattle.std.proofs.Common.{rules, ◌≡◌, ℕ, suc, ◌+◌, ◌<◌, ◌⊎◌, true, List, [], ◌∷◌, ◌++◌, map, Option, Some, None, option_and_then, refl}
use Rattle.std.{proofs.Common.{sym, ap, subst, ◌∙◌, inl, inr, arith, append-nil}, proofs.lemmas.Bool.{cond-false, cond-true}}
use Rattle.std.proofs.lemmas.Option.{none-some, same_Some}
use Rattle.yq_core.specs.Tree.{Node, Children, none, child, children_of}
use Rattle.yq_core.{specs.Paths.{To, Nth, key_is, is_item, further, child_at, node_at}, specs.PathOrder.Diverge}
use Rattle.yq_core.specs.Shapes.{IsNew, AreItems, AreEntries, IsTree, AreTrees}
use Rattle.yq_semantics.{specs.Program.PathStep, specs.Places.{step_by, FoundPlace, child_place, miss, stepped}}
use Rattle.yq_semantics.{specs.PlacesApart.{IsBeforeAll, AreApart, IsIn}, proofs.PathLaws.{bytes_refl, bytes_differ, before_in}}
use Rattle.yq_semantics.proofs.GoodPlaces.{LieIn, AreSound, LeadsInto}
use Rattle.yq_core.specs.Paths as paths

-- no place
pub leads_none : (root : Node) (p : FoundPlace) → LeadsInto root p []
leads_none root p = record { inside = tt; apart = tt; sound = tt }

-- the place itself, but for what is missing
pub leads_self : (root : Node) (p q : FoundPlace) → q.path ≡ p.path → q.node ≡ p.node → IsTree p.node → IsIn root p → LeadsInto root p (q ∷ [])
leads_self root p q same node tree at = search (rules, append-nil)

pub leads_missing : (root : Node) (p : FoundPlace) (s : PathStep) → IsTree p.node → IsIn root p → LeadsInto root p (miss s p)
leads_missing root p s tree at = search (rules, leads_self, leads_none)

pub node_further : (p : List paths.Step) (s : paths.Step) (root n : Node) → node_at p root ≡ Some n → node_at (p ++ s ∷ []) root ≡ child_at s (children_of n)
node_further [] s root n h = search (rules, same_Some)
node_further (t ∷ p) s root n h = go (child_at t (children_of root)) (λ m. node_further p s m n) h
  where
    go : (o : Option Node) → ((m : Node) → node_at p m ≡ Some n → node_at (p ++ s ∷ []) m ≡ child_at s (children_of n)) →
        option_and_then (node_at p) o ≡ Some n → option_and_then (node_at (p ++ s ∷ [])) o ≡ child_at s (children_of n)
    go o ih e = search (rules, none-some)

pub child_tree : (s : paths.Step) (cs : Children) (n : Node) → AreTrees cs → child_at s cs ≡ Some n → IsTree n
child_tree s none n trees h = absurd (none-some _ h)
child_tree s (child label m cs) n trees h = search (rules, same_Some, child_tree (further s) cs n trees.1)

pub children_tree : (n : Node) → IsTree n → AreTrees (children_of n)
children_tree n tree = search rules

-- a child
pub leads_child : (root : Node) (p : FoundPlace) (s : paths.Step) (n : Node) → IsTree p.node → IsIn root p → child_at s (children_of p.node) ≡ Some n → LeadsInto root p (child_place p (s, n) ∷ [])
leads_child root p s n tree at is = search (rules, child_tree, children_tree, node_further)

-- ---- all items or entries

abbrev EachIs : (paths.Step → Node → Type 0) → List (paths.Step × Node) → Type 0
EachIs Q [] = Unit {0}
EachIs Q (x ∷ xs) = Q x.0 x.1 × EachIs Q xs

pub absent : (k : List ℕ) (cs : Children) → IsNew k cs → child_at (To k) cs ≡ None
absent k none h = refl
absent k (child label n cs) h = search (rules, cond-false, bytes_differ, absent k cs h.1)

entries_at : (Q : paths.Step → Node → Type 0) (i : ℕ) (cs : Children) → AreEntries cs → ((k : List ℕ) (n : Node) → child_at (To k) cs ≡ Some n → Q (To k) n) → EachIs Q (stepped i cs)
entries_at Q i none h q = tt
entries_at Q i (child label n cs) h q =
    let k : List ℕ = h.0.0 in
    let here : key_is k label.key ≡ true = ap (key_is k) h.0.1 ∙ bytes_refl k in (
      subst (λ (o : Option (List ℕ)). Q (step_by i o) n) (sym h.0.1) (q k n (cond-true (key_is k label.key) _ _ here)),
      entries_at Q (suc i) cs h.1 (λ j m e. q j m (cond-false (key_is j label.key) _ _ (ap (key_is j) h.0.1 ∙ bytes_differ k j (λ same. none-some _ (sym (absent j cs (subst (λ c. IsNew c cs) same h.0.2)) ∙ e))) ∙ e)),
    )

items_at : (Q : paths.Step → Node → Type 0) (i : ℕ) (cs : Children) → AreItems cs → ((r : ℕ) (n : Node) → child_at (Nth r) cs ≡ Some n → Q (Nth (i + r)) n) → EachIs Q (stepped i cs)
items_at Q i none h q = tt
items_at Q i (child label n cs) h q =
    let here : is_item label.key ≡ true = ap is_item h.0 in
    let start : i + 0 ≡ i = omega arith in (
      subst (λ (o : Option (List ℕ)). Q (step_by i o) n) (sym h.0) (subst (λ (j : ℕ). Q (Nth j) n) start (q 0 n (cond-true (is_item label.key) _ _ here))),
      items_at Q (suc i) cs h.1 (λ r m e. let next : i + suc r ≡ suc i + r = omega arith in subst (λ (j : ℕ). Q (Nth j) m) next (q (suc r) m e)),
    )

-- a step comes before those to others
abbrev pub StepsBefore : paths.Step → List (paths.Step × Node) → Type 0
StepsBefore s [] = Unit {0}
StepsBefore s (x ∷ xs) = Diverge s x.0 × StepsBefore s xs

abbrev pub StepsApart : List (paths.Step × Node) → Type 0
StepsApart [] = Unit {0}
StepsApart (x ∷ xs) = StepsBefore x.0 xs × StepsApart xs

entry_before : (k : List ℕ) (i : ℕ) (cs : Children) → IsNew k cs → AreEntries cs → StepsBefore (To k) (stepped i cs)
entry_before k i none new h = tt
entry_before k i (child label n cs) new h =
    (subst (λ (o : Option (List ℕ)). Diverge (To k) (step_by i o)) (sym h.0.1) (λ e. new.0 (h.0.1 ∙ ap Some (sym e))), entry_before k (suc i) cs new.1 h.1)

pub entries_apart : (i : ℕ) (cs : Children) → AreEntries cs → StepsApart (stepped i cs)
entries_apart i none h = tt
entries_apart i (child label n cs) h = search (rules, entry_before, entries_apart (suc i) cs h.1)

item_before : (m i : ℕ) (cs : Children) → m < i → AreItems cs → StepsBefore (Nth m) (stepped i cs)
item_before m i none lt h = tt
item_before m i (child label n cs) lt h = (subst (λ (o : Option (List ℕ)). Diverge (Nth m) (step_by i o)) (sym h.0) lt, item_before m (suc i) cs (omega arith) h.1)

pub items_apart : (i : ℕ) (cs : Children) → AreItems cs → StepsApart (stepped i cs)
items_apart i none h = tt
items_apart i (child label n cs) h =
    (subst (λ (o : Option (List ℕ)). StepsBefore (step_by i o) (stepped (suc i) cs)) (sym h.0) (item_before i (suc i) cs (omega arith) h.1), items_apart (suc i) cs h.1)

children_inside : (p : FoundPlace) (xs : List (paths.Step × Node)) → LieIn p.path (map (child_place p) xs)
children_inside p [] = tt
children_inside p (x ∷ xs) = ((x.0 ∷ [], refl), children_inside p xs)

child_before : (p : FoundPlace) (s : paths.Step) (xs : List (paths.Step × Node)) → StepsBefore s xs → IsBeforeAll (p.path ++ s ∷ []) (map (child_place p) xs)
child_before p s [] h = tt
child_before p s (x ∷ xs) h = (before_in p.path (s ∷ []) (x.0 ∷ []) (inl h.0), child_before p s xs h.1)

children_apart : (p : FoundPlace) (xs : List (paths.Step × Node)) → StepsApart xs → AreApart (map (child_place p) xs)
children_apart p [] h = tt
children_apart p (x ∷ xs) h = (child_before p x.0 xs h.0, children_apart p xs h.1)

children_sound : (root : Node) (p : FoundPlace) → IsTree p.node → IsIn root p → (xs : List (paths.Step × Node)) → EachIs (λ s n. child_at s (children_of p.node) ≡ Some n) xs → AreSound root (map (child_place p) xs)
children_sound root p tree at [] h = tt
children_sound root p tree at (x ∷ xs) h = ((leads_child root p x.0 x.1 tree at h.0).sound.0, children_sound root p tree at xs h.1)

pub leads_children : (root : Node) (p : FoundPlace) (cs : Children) → IsTree p.node → IsIn root p → children_of p.node ≡ cs → AreItems cs ⊎ AreEntries cs → LeadsInto root p (map (child_place p) (stepped 0 cs))
leads_children root p cs tree at is kind = record {
  inside = children_inside p (stepped 0 cs);
  apart = children_apart p (stepped 0 cs) (apart kind);
  sound = children_sound root p tree at (stepped 0 cs) (found kind);
}
  where
    apart : AreItems cs ⊎ AreEntries cs → StepsApart (stepped 0 cs)
    apart h = search (rules, items_apart, entries_apart)

    found : AreItems cs ⊎ AreEntries cs → EachIs (λ s n. child_at s (children_of p.node) ≡ Some n) (stepped 0 cs)
    found (inl h) = items_at (λ s n. child_at s (children_of p.node) ≡ Some n) 0 cs h (λ r n e. let same : 0 + r ≡ r = omega arith in ap (λ (j : ℕ). child_at (Nth j) (children_of p.node)) same ∙ (ap (child_at (Nth r)) is ∙ e))
    found (inr h) = entries_at (λ s n. child_at s (children_of p.node) ≡ Some n) 0 cs h (λ k n e. ap (child_at (To k)) is ∙ e)
