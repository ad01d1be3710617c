-- Changes of a tree and of a document that operations and the meaning of updates share (own).
use Rattle.std.specs.Prelude.{ℕ, zero, suc, Bool, true, false, List, [], ◌∷◌, Option}
use Rattle.yq_core.{specs.Paths.{Step, change_child, within}, specs.Tree.{Label, Node, Children, none, child, children_of, anchor_of}}
use Rattle.yq_outline.specs.Outline.{anchored}
use Rattle.yq_documents.specs.Documents.{Document}

-- a list with the element of a number, counted from 0, changed (own)
abbrev pub change_nth : {A : Type 0} → ℕ → (A → A) → List A → List A
change_nth n f [] = []
change_nth zero f (x ∷ xs) = f x ∷ xs
change_nth (suc n) f (x ∷ xs) = x ∷ change_nth n f xs

-- a node in the place of an old one, whose anchor it keeps (own)
abbrev pub replaced_node : Node → Node → Node
replaced_node v old = anchored (anchor_of old) v

-- a node with the items or entries changed among which a path ends, by its last step (own)
abbrev pub at_end : (Step → Children → Children) → List Step → Node → Node
at_end g [] n = n
at_end g (s ∷ []) n = within (g s) n
at_end g (s ∷ (t ∷ path)) n = within (change_child s (at_end g (t ∷ path))) n

-- a label with that line comment (own)
abbrev pub with_line_comment : Option (List ℕ) → Label → Label
with_line_comment text label = record label { line_comment = text }

-- a label with that head comment (own)
abbrev pub with_head_comment : List (List ℕ) → Label → Label
with_head_comment texts label = record label { head_comment = texts }

-- items or entries, the first of which has that head comment (own)
abbrev pub headed : List (List ℕ) → Children → Children
headed texts none = none
headed texts (child label n cs) = child (with_head_comment texts label) n cs

-- a value that is put at a path: where it is block at a root, its first item or entry has the lead as its head comment (own)
abbrev pub led : Bool → List (List ℕ) → List Step → Node → Node
led true lead [] v = within (headed lead) v
led false lead [] v = v
led block lead (s ∷ path) v = v

-- the lead of a document: where it is block at its root, the head comment of the first item or entry, if there is one (own)
abbrev pub lead_by : Bool → Children → List (List ℕ) → List (List ℕ)
lead_by true none lead = lead
lead_by true (child label n cs) lead = label.head_comment
lead_by false cs lead = lead

-- a document with another root, and the lead with that (own)
abbrev pub with_tree : Bool → Node → Document → Document
with_tree block n d = record { lead = lead_by block (children_of n) d.lead; root = n }
