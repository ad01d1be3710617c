-- Matches of documents that are ready: trees with no more collections nested than in these.
use Rattle.std.proofs.Common.{◌≡◌, ◌≤◌, ℕ, suc, List, [], ◌∷◌, ◌++◌, max, Option, Some, None, option_and_then, Result, IfOk, slice_get}
use Rattle.std.{proofs.Common.{refl, subst, arith, rules}, proofs.lemmas.Option.{none-some, same_Some}}
use Rattle.yq_core.{specs.Keys.{depth, deepest}, specs.Paths.{further, child_at, node_at}}
use Rattle.yq_core.{specs.Tree.{Node, alias, scalar, list, Children, none, child, children_of}, specs.Values.{items, entries}}
use Rattle.yq_documents.specs.Documents.{Document}
use Rattle.yq_semantics.specs.Copies.{and_others, keyed, copy, item_copies, entry_copies, match_at, matches_in, matches_from, matches}
use Rattle.yq_semantics.{specs.Judgement.{Judges, gives, ExprError}, specs.MatchTrees.{IsMatch, AreMatches}, specs.Pipes.places}
use Rattle.yq_semantics.{specs.Places.{FoundPlace, for_each}, specs.Program.Stage, proofs.JudgementLaws.{then_gives, gives_same}}
use Rattle.yq_semantics.{proofs.GoodPlaces.AreSound, proofs.updates.PipePlaces.places_apart, proofs.updates.Pure.copy_pure}
use Rattle.yq_semantics.proofs.updates.Each.{joined_gives}
use Rattle.yq_core.specs.Paths as paths
use Rattle.yq_core.specs.Tree as tree

-- ---- how deep collections are nested below a node

children_depth : (n : Node) → deepest (children_of n) ≤ depth n
children_depth n = search rules

child_depth : (s : paths.Step) (cs : Children) (n : Node) → child_at s cs ≡ Some n → depth n ≤ deepest cs
child_depth s none n h = absurd (none-some _ h)
child_depth s (child label m cs) n h = search (rules, same_Some, child_depth (further s) cs n)

node_depth : (p : List paths.Step) (root n : Node) → node_at p root ≡ Some n → depth n ≤ depth root
node_depth [] root n h = subst (λ (x : Node). depth x ≤ depth root) (same_Some _ _ h) (omega arith)
node_depth (s ∷ p) root n h = go (child_at s (children_of root)) refl (λ m. node_depth p m n) h where
  go : (o : Option Node) → child_at s (children_of root) ≡ o → ((m : Node) → node_at p m ≡ Some n → depth n ≤ depth m) → option_and_then (node_at p) o ≡ Some n → depth n ≤ depth root
  go None is rest e = absurd (none-some _ e)
  go (Some m) is rest e =
      let below : depth n ≤ depth m = rest m e in
      let here : depth m ≤ deepest (children_of root) = child_depth s (children_of root) m is in
      omega (arith, below, here, children_depth root)

mutual
  -- a copy's are nested no deeper
  copy_depth : (n v : Node) → copy n ≡ gives v → depth v ≤ depth n
  copy_depth (alias name) v h = absurd (cc)
  copy_depth (scalar anchor kind text) v h = subst (λ (x : Node). depth x ≤ 0) (gives_same h) (omega arith)
  copy_depth (list anchor cs) v h =
      let x = then_gives (λ (vs : List Node). gives (list None (items vs))) (item_copies cs) v h in
      let below : deepest (items x.0) ≤ deepest cs = items_depth cs x.0 x.1 in
      subst (λ (y : Node). depth y ≤ suc (deepest cs)) (gives_same x.2) (omega (arith, below))
  copy_depth (tree.map anchor cs) v h =
      let x = then_gives (λ (es : List (List ℕ × Node)). gives (tree.map None (entries es))) (entry_copies cs) v h in
      let below : deepest (entries x.0) ≤ deepest cs = entries_depth cs x.0 x.1 in
      subst (λ (y : Node). depth y ≤ suc (deepest cs)) (gives_same x.2) (omega (arith, below))

  items_depth : (cs : Children) (vs : List Node) → item_copies cs ≡ gives vs → deepest (items vs) ≤ deepest cs
  items_depth none vs h = subst (λ (ws : List Node). deepest (items ws) ≤ 0) (gives_same h) (omega arith)
  items_depth (child label n cs) vs h =
      let x = then_gives (and_others (item_copies cs)) (copy n) vs h in
      let y = then_gives (λ (rest : List Node). gives (x.0 ∷ rest)) (item_copies cs) vs x.2 in
      let first : depth x.0 ≤ depth n = copy_depth n x.0 x.1 in
      let others : deepest (items y.0) ≤ deepest cs = items_depth cs y.0 y.1 in
      subst (λ (ws : List Node). deepest (items ws) ≤ max (depth n) (deepest cs)) (gives_same y.2) (omega (arith, first, others))

  entries_depth : (cs : Children) (es : List (List ℕ × Node)) → entry_copies cs ≡ gives es → deepest (entries es) ≤ deepest cs
  entries_depth none es h = subst (λ (fs : List (List ℕ × Node)). deepest (entries fs) ≤ 0) (gives_same h) (omega arith)
  entries_depth (child label n cs) es h =
      let x = then_gives (λ (v : Node). and_others (entry_copies cs) (keyed label.key v)) (copy n) es h in
      let y = then_gives (λ (rest : List (List ℕ × Node)). gives (keyed label.key x.0 ∷ rest)) (entry_copies cs) es x.2 in
      let first : depth x.0 ≤ depth n = copy_depth n x.0 x.1 in
      let others : deepest (entries y.0) ≤ deepest cs = entries_depth cs y.0 y.1 in
      subst (λ (fs : List (List ℕ × Node)). deepest (entries fs) ≤ max (depth n) (deepest cs)) (gives_same y.2) (omega (arith, first, others))

-- ---- a match

copy_matches : (n v : Node) → IsMatch n → copy n ≡ gives v → IsMatch v
copy_matches n v is h = let below : depth v ≤ depth n = copy_depth n v h in record { tree = (copy_pure n v is.tree h).0; nested = omega (arith, below, is.nested) }

join : (ms ns : List (ℕ × Node)) → AreMatches ms → AreMatches ns → AreMatches (ms ++ ns)
join [] ns h k = k
join (m ∷ ms) ns h k = (h.0, join ms ns h.1 k)

each_matches : (doc : ℕ) (root : Node) (ps : List FoundPlace) (ms : List (ℕ × Node)) → IsMatch root → AreSound root ps → for_each (match_at doc) ps ≡ gives ms → AreMatches ms
each_matches doc root [] ms is sound h = subst AreMatches (gives_same h) tt
each_matches doc root (p ∷ ps) ms is sound h =
    let w = joined_gives (match_at doc p) (for_each (match_at doc) ps) ms h in
    subst AreMatches w.4 (join w.0 w.1 (search (rules, then_gives, gives_same, copy_matches, node_depth)) (each_matches doc root ps w.1 is sound.1 w.3))

document_matches : (doc : ℕ) (pipe : List Stage) (root : Node) (ms : List (ℕ × Node)) → IsMatch root → matches_in doc pipe root ≡ gives ms → AreMatches ms
document_matches doc pipe root ms is h =
    let x = then_gives (for_each (match_at doc)) (places doc pipe root) ms h in
    each_matches doc root x.0 ms is (places_apart doc pipe root x.0 is.tree x.1).sound x.2

-- ---- in documents

-- each root may be a match
abbrev MayMatch : List Document → Type 0
MayMatch docs = (i : ℕ) (d : Document) → slice_get docs i ≡ Some d → IsMatch d.root

from_matches : (doc : ℕ) (pipe : List Stage) (docs : List Document) (ms : List (ℕ × Node)) → MayMatch docs → matches_from doc pipe docs ≡ gives ms → AreMatches ms
from_matches doc pipe [] ms ready h = subst AreMatches (gives_same h) tt
from_matches doc pipe (d ∷ ds) ms ready h =
    let w = joined_gives (matches_in doc pipe d.root) (matches_from (suc doc) pipe ds) ms h in
    subst AreMatches w.4 (join w.0 w.1 (document_matches doc pipe d.root w.0 (ready 0 d refl) w.2) (from_matches (suc doc) pipe ds w.1 (λ i e is. ready (suc i) e is) w.3))

-- the answer to a read
pub answer_matches : {X : Type 0} (view : X → List (ℕ × Node)) (r : Result X ExprError) (pipe : List Stage) (docs : List Document) → MayMatch docs → Judges view r (matches pipe docs) → IfOk r (λ v. AreMatches (view v))
unfolding matches
answer_matches view r pipe docs ready h = search (rules, from_matches)
