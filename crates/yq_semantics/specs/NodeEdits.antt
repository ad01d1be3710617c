-- Changes of several places of a tree, all at once (own).
use Rattle.std.{specs.Prelude.{ℕ, suc, ◌==◌, Bool, true, false, ◌&&◌, List, [], ◌∷◌, Option, Some, None, if◌then◌else◌}, specs.Str.bytes_eq}
use Rattle.yq_core.specs.Tree.{Label, Node, alias, scalar, list, map, Children, none, child}
use Rattle.yq_core.specs.Paths.{Step, To, Nth, is_here, further, within}
use Rattle.yq_documents.specs.TreeEdits.{with_line_comment, with_head_comment}
use Rattle.yq_semantics.specs.Places.{step_by}

-- what is done at a place: the node becomes another, the line comment or the head comment of the entry or item is set, or it goes (own)
pub data NodeEdit : Type 0 where
  becomes : (Node → Node) → NodeEdit
  line : Option (List ℕ) → NodeEdit
  head : List (List ℕ) → NodeEdit
  goes : NodeEdit

-- what is done at each path of a tree, if something is (own)
abbrev pub NodeEdits : Type 0
NodeEdits = List Step → Option NodeEdit

-- the step to an item or entry, by how many come before it (own)
abbrev pub step_to : ℕ → Label → Step
step_to i label = step_by i label.key

-- what is done under a step (own)
abbrev pub under : Step → NodeEdits → NodeEdits
under s f path = f (s ∷ path)

-- a node by what is done at it; where nothing is, what is in it may be another (own)
abbrev pub done_at : Option NodeEdit → Node → Node → Node
done_at None n node_edit_inside = node_edit_inside
done_at (Some (becomes g)) n node_edit_inside = g n
done_at (Some (line text)) n node_edit_inside = n
done_at (Some (head texts)) n node_edit_inside = n
done_at (Some goes) n node_edit_inside = n

-- a child by what is done at it, its node by the same being known, before others (own)
abbrev pub child_by : Option NodeEdit → Label → Node → Children → Children
child_by None label n cs = child label n cs
child_by (Some (becomes g)) label n cs = child label n cs
child_by (Some (line text)) label n cs = child (with_line_comment text label) n cs
child_by (Some (head texts)) label n cs = child (with_head_comment texts label) n cs
child_by (Some goes) label n cs = cs

abbrev mutual
  -- a node with all that is done at the places in it (own)
  pub node_edit_inside : NodeEdits → Node → Node
  node_edit_inside f (alias name) = alias name
  node_edit_inside f (scalar anchor kind text) = scalar anchor kind text
  node_edit_inside f (list anchor cs) = list anchor (each_at_once f 0 cs)
  node_edit_inside f (map anchor cs) = map anchor (each_at_once f 0 cs)

  -- the same of items or entries, so many of which come before these (own)
  pub each_at_once : NodeEdits → ℕ → Children → Children
  each_at_once f i none = none
  each_at_once f i (child label n cs) =
      child_by (f (step_to i label ∷ [])) label
      (done_at (f (step_to i label ∷ [])) n (node_edit_inside (under (step_to i label) f) n)) (each_at_once f (suc i) cs)

-- a node with all that is done at it and at the places in it (own)
abbrev pub at_once : NodeEdits → Node → Node
at_once f n = done_at (f []) n (node_edit_inside f n)

-- whether two steps are the same (own)
abbrev pub same_step : Step → Step → Bool
same_step (To k) (To j) = bytes_eq k j
same_step (To k) (Nth n) = false
same_step (Nth m) (To j) = false
same_step (Nth m) (Nth n) = m == n

-- whether two paths are the same (own)
abbrev pub same_path : List Step → List Step → Bool
same_path [] [] = true
same_path [] (t ∷ q) = false
same_path (s ∷ p) [] = false
same_path (s ∷ p) (t ∷ q) = same_step s t && same_path p q

-- one thing more that is done (own)
abbrev pub and_at : List Step → NodeEdit → NodeEdits → NodeEdits
and_at p x f q = if same_path p q then Some x else f q

-- what is done, by a list (own)
abbrev pub done_by : List (List Step × NodeEdit) → NodeEdits
done_by [] q = None
done_by (x ∷ xs) q = and_at x.0 x.1 (done_by xs) q

-- items or entries, with something done where a step leads: to the one there, with those after it (own)
abbrev pub at_child : Step → (Label → Node → Children → Children) → Children → Children
at_child s h none = none
at_child s h (child label n cs) = if is_here s label then h label n cs else child label n (at_child (further s) h cs)

-- what is done at the end of a path, where this is it (own)
abbrev pub here : NodeEdit → List Step → Option NodeEdit
here x [] = Some x
here x (s ∷ p) = None

-- a node with one thing done at one path (own)
abbrev pub one_at : List Step → NodeEdit → Node → Node
one_at [] x n = done_at (Some x) n n
one_at (s ∷ p) x n = within (at_child s (λ label m cs. child_by (here x p) label (one_at p x m) cs)) n
