-- What an update means: all its changes are made at once (yq manual; own).
use Rattle.std.specs.Prelude.{◌≡◌, ⊤, ℕ, suc, ◌==◌, Bool, List, [], ◌∷◌, map, Option, Some, None, if◌then◌else◌}
use Rattle.yq_core.{specs.Paths.{To, change_child, append_child, within}, specs.Shapes.IsTree}
use Rattle.yq_core.{specs.Tree.{Node, Children, children_of, key_label}, specs.Text.put_byte}
use Rattle.yq_documents.{specs.Documents.Document, specs.TreeEdits.{replaced_node, led, lead_by, with_tree}}
use Rattle.yq_semantics.specs.declared.program.CommentPlace.{CommentPlace}
use Rattle.yq_semantics.specs.Changes.{Addition, appends, overwrites, replaces, adds, sets_comment, Changed, Room, update_changes}
use Rattle.yq_semantics.{specs.NodeEdits.{NodeEdit, becomes, done_by, at_once}, specs.Judgement.{Judgement, and_then, gives}}
use Rattle.yq_semantics.specs.Program.{Update}
use Rattle.yq_core.specs.Paths as paths
use Rattle.yq_semantics.specs.declared.program.CommentPlace.TheVariants as comments
use Rattle.yq_semantics.specs.Changes as changes
use Rattle.yq_semantics.specs.NodeEdits as node_edits

-- items or entries with an addition (own)
abbrev pub add_to : Addition → Children → Children
add_to (appends k v) cs = append_child (key_label k) v cs
add_to (overwrites k v) cs = change_child (To k) (replaced_node v) cs

-- a collection with additions, one after the other (own)
abbrev pub add_all : List Addition → Node → Node
add_all [] n = n
add_all (x ∷ xs) n = add_all xs (within (add_to x) n)

-- the lines of a text that isn't empty, parted by LF (own)
abbrev pub split_lines : List ℕ → List (List ℕ)
split_lines [] = [] ∷ []
split_lines (c ∷ cs) = if c == 10 then [] ∷ split_lines cs else put_byte c (split_lines cs)

-- the lines of a head comment with that text: none of the empty one (own)
abbrev pub head_comment_lines : List ℕ → List (List ℕ)
head_comment_lines [] = []
head_comment_lines (c ∷ cs) = split_lines (c ∷ cs)

-- the line comment with that text: none of the empty one (own)
abbrev pub line_comment_text : List ℕ → Option (List ℕ)
line_comment_text [] = None
line_comment_text (c ∷ cs) = Some (c ∷ cs)

-- a comment that is set (own)
abbrev pub comment_edit : CommentPlace → List ℕ → NodeEdit
comment_edit comments.Line text = node_edits.line (line_comment_text text)
comment_edit comments.Head text = node_edits.head (head_comment_lines text)

-- what a change does at its place, where a document has such a lead (own)
abbrev pub node_edit_of : Bool → List (List ℕ) → Changed → NodeEdit
node_edit_of block lead (path, replaces v) = becomes (replaced_node (led block lead path v))
node_edit_of block lead (path, adds xs) = becomes (add_all xs)
node_edit_of block lead (path, changes.removes) = node_edits.goes
node_edit_of block lead (path, sets_comment place text) = comment_edit place text

-- the same with its path (own)
abbrev pub placed_edit : Bool → List (List ℕ) → Changed → List paths.Step × NodeEdit
placed_edit block lead c = (c.0, node_edit_of block lead c)

-- a document with all changes made at once (own)
abbrev pub changed_at_once : Bool → List Changed → Document → Document
changed_at_once block cs d = with_tree block (at_once (done_by (map (placed_edit block d.lead) cs)) d.root) d

-- the same of each of documents, from the one of that number on (own)
abbrev pub all_changed : (ℕ → Room) → ℕ → List (List Changed) → List Document → List Document
all_changed rooms n [] docs = docs
all_changed rooms n (cs ∷ css) [] = []
all_changed rooms n (cs ∷ css) (d ∷ ds) = changed_at_once (rooms n).block cs d ∷ all_changed rooms (suc n) css ds

-- the roots of documents (own)
abbrev pub roots_of : List Document → List Node
roots_of docs = map (λ (d : Document). d.root) docs

-- what an update makes of documents, whose texts have such room; or the first refusal (own)
abbrev pub meaning : Update → (ℕ → Room) → List Document → Judgement (List Document)
meaning u rooms docs = and_then (λ css. gives (all_changed rooms 0 css docs)) (update_changes u rooms (roots_of docs))

-- a document's lead is the head comment of its first item or entry, where the root is block and has one (own)
abbrev pub IsLed : Bool → Document → Type 0
IsLed block d = lead_by block (children_of d.root) d.lead ≡ d.lead

-- documents, from the one of that number on, are trees with such leads (own)
abbrev pub AreReady : (ℕ → Room) → ℕ → List Document → Type 0
AreReady rooms n [] = ⊤
AreReady rooms n (d ∷ ds) = (IsTree d.root × IsLed (rooms n).block d) × AreReady rooms (suc n) ds
