-- What operations leave of the room that texts have: whether roots are block, and which comments have a place (own).
use Rattle.std.specs.Prelude.{◌≡◌, ◌≢◌, ◌⊎◌, ⊤, ℕ, List, [], ◌∷◌, slice_get, Some}
use Rattle.yq_core.{specs.Paths.Step, specs.Tree.{Node, Children, none, child, children_of}}
use Rattle.yq_documents.specs.Documents.{Document}
use Rattle.yq_semantics.{specs.declared.program.CommentPlace.CommentPlace, specs.After.{op_document, after_op}, specs.Changes.Room}
use Rattle.yq_semantics.{specs.Fits.{IsBelow, AllFit}, specs.Operations.{Operation, replace, append, remove, line_comment, head_comment}}

-- there are items or entries (own)
abbrev pub HasSome : Children → Type 0
HasSome none = ⊥
HasSome (child label n cs) = ⊤

-- an operation leaves it as it was whether the root of its document is block, where this is the root after it: it doesn't exchange the root, nor take its last
-- item or entry (own)
abbrev pub KeepsBlock : Operation → Node → Type 0
KeepsBlock (replace doc path v) root = IsBelow path
KeepsBlock (append doc path k v) root = ⊤
KeepsBlock (remove doc path) root = HasSome (children_of root)
KeepsBlock (line_comment doc path text) root = ⊤
KeepsBlock (head_comment doc path text) root = ⊤

-- the same, where these are the documents after it (own)
abbrev pub KeepsBlockIn : Operation → List Document → Type 0
KeepsBlockIn op docs = (d : Document) → slice_get docs (op_document op) ≡ Some d → KeepsBlock op d.root

-- an operation sets a comment (own)
abbrev pub SetsComment : Operation → Type 0
SetsComment (replace doc path v) = ⊥
SetsComment (append doc path k v) = ⊥
SetsComment (remove doc path) = ⊥
SetsComment (line_comment doc path text) = ⊤
SetsComment (head_comment doc path text) = ⊤

-- ---- the operations of a plan

-- none of these operations is of the document of that number (own)
abbrev pub NoneOn : ℕ → List Operation → Type 0
NoneOn n [] = ⊤
NoneOn n (op ∷ ops) = (op_document op ≢ n) × NoneOn n ops

-- each operation leaves it as it was whether its document's root is block, or is the last one of its document (own)
abbrev pub BlockLasts : (ℕ → Room) → List Operation → List Document → Type 0
BlockLasts rooms [] docs = ⊤
BlockLasts rooms (op ∷ ops) docs = (KeepsBlockIn op (after_op rooms op docs) ⊎ NoneOn (op_document op) ops) × BlockLasts rooms ops (after_op rooms op docs)

-- each operation sets a comment (own)
abbrev pub SetComments : List Operation → Type 0
SetComments [] = ⊤
SetComments (op ∷ ops) = SetsComment op × SetComments ops

-- none does (own)
abbrev pub SetNoComment : List Operation → Type 0
SetNoComment [] = ⊤
SetNoComment (op ∷ ops) = ¬ SetsComment op × SetNoComment ops

-- The room that operations ask for lasts while they are carried out: whether a root is block, where a later one is of its document; and they set comments all,
-- or none does (own).
pub record RoomsLast (rooms : ℕ → Room) (ops : List Operation) (docs : List Document) : Type 0 where
  pub block : BlockLasts rooms ops docs
  pub comments : SetComments ops ⊎ SetNoComment ops

-- Operations may be carried out on documents one after the other: each fits at its turn, and the room that they ask for lasts (own).
pub record MayFollow (rooms : ℕ → Room) (ops : List Operation) (docs : List Document) : Type 0 where
  pub fit : AllFit rooms ops docs
  pub last : RoomsLast rooms ops docs

-- ---- the room of a text after an operation

-- two rooms are the same (own)
pub record SameRoom (old new : Room) : Type 0 where
  pub block : new.block ≡ old.block
  pub has : (place : CommentPlace) (path : List Step) → new.has place path ≡ old.has place path

-- What an operation leaves of rooms, where these are the documents after it: the room of the other documents is as it was, and a comment leaves that of its
-- own one too. The root of that one after it says whether it is still block (own).
pub record LeavesRooms (op : Operation) (old new : ℕ → Room) (docs : List Document) : Type 0 where
  pub others : (i : ℕ) → (i ≡ op_document op → ⊥) → SameRoom (old i) (new i)
  pub comments : SetsComment op → SameRoom (old (op_document op)) (new (op_document op))
  pub block : (d : Document) → slice_get docs (op_document op) ≡ Some d → KeepsBlock op d.root → (new (op_document op)).block ≡ (old (op_document op)).block

-- Operations may be carried out on documents by old rooms, and the first of them leaves the new ones (own).
pub record LeavesRoomFor (op : Operation) (ops : List Operation) (old new : ℕ → Room) (docs : List Document) : Type 0 where
  pub leaves : LeavesRooms op old new (after_op old op docs)
  pub follow : MayFollow old (op ∷ ops) docs

-- ---- rooms that say the same

-- two rooms are alike for an operation: they say the same of what it asks for (own)
pub record AlikeFor (op : Operation) (old new : Room) : Type 0 where
  pub block : new.block ≡ old.block
  pub has : SetsComment op → (place : CommentPlace) (path : List Step) → new.has place path ≡ old.has place path

-- rooms are alike for each of these operations, in its document (own)
abbrev pub AreAlike : (ℕ → Room) → (ℕ → Room) → List Operation → Type 0
AreAlike old new [] = ⊤
AreAlike old new (op ∷ ops) = AlikeFor op (old (op_document op)) (new (op_document op)) × AreAlike old new ops
