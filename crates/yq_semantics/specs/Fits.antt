-- Whether operations fit documents: nothing refuses them (own).
use Rattle.std.specs.Prelude.{◌≡◌, ⊤, ℕ, suc, true, false, List, [], ◌∷◌, length, slice_get, Option, Some, None}
use Rattle.yq_core.{specs.Paths.{To, child_at, node_at}, specs.Shapes.IsTree, specs.Tree.{Node, list, Children}, specs.Anchors.names_of}
use Rattle.yq_documents.specs.Documents.{Document}
use Rattle.yq_semantics.{specs.declared.program.CommentPlace.CommentPlace, specs.After.{op_document, after_op}}
use Rattle.yq_semantics.specs.Changes.{Room, is_overlong_key, has_long_key, is_deep, is_used_inside, is_used_in, can_be_comment}
use Rattle.yq_semantics.specs.Operations.{Operation, replace, append, remove, line_comment, head_comment}
use Rattle.yq_core.specs.Paths as paths
use Rattle.yq_core.specs.Tree as tree
use Rattle.yq_semantics.specs.declared.program.CommentPlace.TheVariants as comments

-- a value may be written below so many collections: it is a tree, whose keys differ in each mapping, its keys are short enough, and it isn't too deep (own)
abbrev pub IsWritableAt : ℕ → Node → Type 0
IsWritableAt n v = IsTree v × (has_long_key v ≡ false) × (is_deep n v ≡ false)

-- a collection may get an item, or an entry of a key that it hasn't (own)
abbrev pub Takes : Option (List ℕ) → Node → Type 0
Takes None n = (anchor : Option (List ℕ)) × (cs : Children) × (n ≡ list anchor cs)
Takes (Some k) n = (anchor : Option (List ℕ)) × (cs : Children) × (n ≡ tree.map anchor cs) × (child_at (To k) cs ≡ None)

-- a path leads to an item or entry, and no root (own)
abbrev pub IsBelow : List paths.Step → Type 0
IsBelow [] = ⊥
IsBelow (s ∷ path) = ⊤

-- a comment may be set at a path (own)
abbrev pub MayComment : Room → CommentPlace → List paths.Step → List ℕ → Node → Type 0
MayComment room place path text root = (room.has place path ≡ true) × (can_be_comment place text ≡ true) × ((n : Node) × (node_at path root ≡ Some n))

-- there is a node at a path, and it is so (own)
abbrev pub HasNodeAt : List paths.Step → Node → (Node → Type 0) → Type 0
HasNodeAt path root is_so = (n : Node) × (node_at path root ≡ Some n) × is_so n

-- an operation fits a root, in a document whose text has such room (own)
abbrev pub FitsRoot : Room → Operation → Node → Type 0
FitsRoot room (replace doc path v) root = IsWritableAt (length path) v × HasNodeAt path root (λ n. is_used_inside (names_of root) (Some n) ≡ false)
FitsRoot room (append doc path k v) root = (is_overlong_key k ≡ false) × IsWritableAt (suc (length path)) v × HasNodeAt path root (Takes k)
FitsRoot room (remove doc path) root = IsBelow path × HasNodeAt path root (λ n. is_used_in (names_of root) (Some n) ≡ false)
FitsRoot room (line_comment doc path text) root = MayComment room comments.Line path text root
FitsRoot room (head_comment doc path text) root = MayComment room comments.Head path text root

-- an operation fits documents, whose texts have such room (own)
abbrev pub Fits : (ℕ → Room) → Operation → List Document → Type 0
Fits rooms op docs = (d : Document) × (slice_get docs (op_document op) ≡ Some d) × FitsRoot (rooms (op_document op)) op d.root

-- each operation fits at its turn (own)
abbrev pub AllFit : (ℕ → Room) → List Operation → List Document → Type 0
AllFit rooms [] docs = ⊤
AllFit rooms (op ∷ ops) docs = Fits rooms op docs × AllFit rooms ops (after_op rooms op docs)
