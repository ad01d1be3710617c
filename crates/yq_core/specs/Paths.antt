-- A path in a tree, and changes of what it leads to.
use Rattle.std.specs.Prelude.{ℕ, zero, suc, List, [], ◌∷◌, Option, Some, None, option_and_then, Bool, true, false, if◌then◌else◌}
use Rattle.std.specs.Str.{bytes_eq}
use Rattle.yq_core.specs.Tree.{Label, Node, alias, scalar, list, map, Children, none, child, children_of}

-- a step of a path: to the entry of a key, or to an item by its index from 0 (own)
pub data Step : Type 0 where
  To : List ℕ → Step
  Nth : ℕ → Step

-- there is a key, and it is this one (own)
abbrev pub key_is : List ℕ → Option (List ℕ) → Bool
key_is k None = false
key_is k (Some j) = bytes_eq j k

-- there is no key, as at an item (own)
abbrev pub is_item : Option (List ℕ) → Bool
is_item None = true
is_item (Some j) = false

-- whether a step leads to an item or entry, if that is the first one (own)
abbrev pub is_here : Step → Label → Bool
is_here (To k) label = key_is k label.key
is_here (Nth zero) label = is_item label.key
is_here (Nth (suc n)) label = false

-- the step from after the first item or entry (own)
abbrev pub further : Step → Step
further (To k) = To k
further (Nth zero) = Nth zero
further (Nth (suc n)) = Nth n

-- the node that a step leads to (own)
abbrev pub child_at : Step → Children → Option Node
child_at s none = None
child_at s (child label n cs) = if is_here s label then Some n else child_at (further s) cs

-- the node at a path (own)
abbrev pub node_at : List Step → Node → Option Node
node_at [] n = Some n
node_at (s ∷ ss) n = option_and_then (node_at ss) (child_at s (children_of n))

-- the items or entries with the node at a step changed (own)
abbrev pub change_child : Step → (Node → Node) → Children → Children
change_child s f none = none
change_child s f (child label n cs) = if is_here s label then child label (f n) cs else child label n (change_child (further s) f cs)

-- the items or entries with the key or comments at a step changed (own)
abbrev pub relabel_child : Step → (Label → Label) → Children → Children
relabel_child s f none = none
relabel_child s f (child label n cs) = if is_here s label then child (f label) n cs else child label n (relabel_child (further s) f cs)

-- the items or entries without the one at a step (own)
abbrev pub remove_child : Step → Children → Children
remove_child s none = none
remove_child s (child label n cs) = if is_here s label then cs else child label n (remove_child (further s) cs)

-- the items or entries with one more at the end (own)
abbrev pub append_child : Label → Node → Children → Children
append_child label v none = child label v none
append_child label v (child first n cs) = child first n (append_child label v cs)

-- items or entries and then others (own)
abbrev pub append_children : Children → Children → Children
append_children none ds = ds
append_children (child label n cs) ds = child label n (append_children cs ds)

-- a collection with its items or entries changed (own)
abbrev pub within : (Children → Children) → Node → Node
within g (alias name) = alias name
within g (scalar anchor kind text) = scalar anchor kind text
within g (list anchor cs) = list anchor (g cs)
within g (map anchor cs) = map anchor (g cs)

-- the node with what is at a path changed (own)
abbrev pub changed_at : List Step → (Node → Node) → Node → Node
changed_at [] f n = f n
changed_at (s ∷ ss) f n = within (change_child s (changed_at ss f)) n
