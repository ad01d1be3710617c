-- What is done spares a path: it is apart from it, and what goes comes after.
use Rattle.std.proofs.Common.{◌≡◌, ℕ, suc, ◌<◌, List, [], ◌∷◌, Option, Some, None, refl, ap, ◌∙◌, rules}
use Rattle.yq_core.{specs.Tree.{Label, Node, list, Children, none, child, map}, specs.Paths.{Nth, Step}, specs.PathOrder.{Before, Apart}}
use Rattle.yq_semantics.specs.NodeEdits.{step_to, NodeEdit, line, head, goes, NodeEdits, under, done_at, child_by, node_edit_inside}
use Rattle.yq_semantics.{specs.NodeEdits.{each_at_once, at_once}, proofs.PathLaws.{before_not_in, before_under, apart_root, apart_not_in}}

-- two functions that agree at each path
pub node_edits_same : (f g : NodeEdits) → ((q : List Step) → f q ≡ g q) → f ≡ g
node_edits_same f g h = λ i q. h q i

-- What is done at a child leaves a child with the same key in front of those after it, or these alone: so is what is so of both.
pub child_kept_or_gone : (P : (Children → Children) → Type 0) (d : Option NodeEdit) (label : Label) (m : Node) →
    ((hc : List (List ℕ)) (lc : Option (List ℕ)) → P (λ rest. child (record { key = label.key; head_comment = hc; line_comment = lc }) m rest)) → (d ≡ Some goes → P (λ rest. rest)) → P (λ rest. child_by d label m rest)
child_kept_or_gone P (Some (line text)) label m kept gone = kept label.head_comment text
child_kept_or_gone P (Some (head texts)) label m kept gone = kept texts label.line_comment
child_kept_or_gone P (Some goes) label m kept gone = gone refl
child_kept_or_gone P _ label m kept gone = kept label.head_comment label.line_comment

-- what is done at a path leaves another one's place where it is
abbrev pub IsSpared : Option NodeEdit → List Step → List Step → Type 0
IsSpared None p q = Unit {0}
IsSpared (Some goes) p q = Before p q
IsSpared (Some _) p q = Apart p q

-- the same of all that is done
abbrev pub Spares : NodeEdits → List Step → Type 0
Spares f p = (q : List Step) → IsSpared (f q) p q

spared_apart : (x : NodeEdit) (p q : List Step) → IsSpared (Some x) p q → Apart p q
spared_apart x p q h1 = search rules

pub spares_under : (f : NodeEdits) (s : Step) (p : List Step) → Spares f (s ∷ p) → Spares (under s f) p
spares_under f s p h q = search (rules, before_under)

-- nothing is done at a place that is apart from none
pub nothing : (d : Option NodeEdit) (p q : List Step) → (Apart p q → ⊥) → IsSpared d p q → d ≡ None
nothing d p q never h = search (rules, spared_apart)

pub spares_root : (f : NodeEdits) (p : List Step) → Spares f p → f [] ≡ None
spares_root f p h = search (rules, nothing, apart_root, apart_not_in)

-- an item that goes comes after
pub spares_after : (m i : ℕ) (p : List Step) → Before (Nth m ∷ p) (Nth i ∷ []) → m < i
spares_after m i p h = search (rules, before_not_in)

-- ---- where nothing is done

-- what is done at a child and under it
abbrev pub child_done : NodeEdits → Label → Node → Children → Children
child_done f label n rest = child_by (f []) label (at_once f n) rest

mutual
  idle_inside : (f : NodeEdits) (n : Node) → ((q : List Step) → f q ≡ None) → node_edit_inside f n ≡ n
  idle_inside f (list anchor cs) h = ap (list anchor) (idle_each f 0 cs h)
  idle_inside f (map anchor cs) h = ap (map anchor) (idle_each f 0 cs h)
  idle_inside f _ h = refl

  idle_each : (f : NodeEdits) (i : ℕ) (cs : Children) → ((q : List Step) → f q ≡ None) → each_at_once f i cs ≡ cs
  idle_each f i none h = refl
  idle_each f i (child label n cs) h =
      ap (λ (d : Option NodeEdit). child_by d label (done_at d n (node_edit_inside (under (step_to i label) f) n)) (each_at_once f (suc i) cs)) (h (step_to i label ∷ []))
      ∙ (ap (λ m. child label m (each_at_once f (suc i) cs)) (idle_inside (under (step_to i label) f) n (λ q. h (step_to i label ∷ q))) ∙ ap (child label n) (idle_each f (suc i) cs h))

pub idle : (f : NodeEdits) (n : Node) → ((q : List Step) → f q ≡ None) → at_once f n ≡ n
idle f n h = ap (λ (d : Option NodeEdit). done_at d n (node_edit_inside f n)) (h []) ∙ idle_inside f n h
