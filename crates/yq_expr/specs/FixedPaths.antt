-- Updates that change one node of the one document of a text, at a path that is the same in each tree (own).
use Rattle.std.specs.Prelude.{◌≡◌, ◌≤◌, ℕ, pos, negsuc, true, false, List, [], ◌∷◌, length, map, slice_get, Option, Some, None, Result}
use Rattle.std.{specs.Prelude.{IfOk, IfSome}, specs.declared.alloc.AllocError.AllocError}
use Rattle.yq_core.{specs.Anchors.names_of, specs.Paths.{Step, To, Nth, node_at}, specs.Tree.{Node, scalar}, specs.declared.kind.Kind.Kind}
use Rattle.yq_core.specs.Entries.{tree_step}
use Rattle.yq_documents.{specs.Documents.Document, specs.Located.steps_of, specs.Reading.documents_of}
use Rattle.yq_semantics.specs.Operations.{operation_of, Operation, replace, append, remove, line_comment, head_comment}
use Rattle.yq_semantics.{specs.Rooms.room_of, specs.View.{program_step, update_of}, specs.declared.program.Syntax.Syntax}
use Rattle.yq_semantics.{specs.declared.program.CommentPlace.CommentPlace, specs.Changes.{Room, can_be_comment, is_used_in}}
use Rattle.yq_semantics.{specs.Fits.IsBelow, specs.Judgement.gives}
use Rattle.yq_semantics.specs.Program.{PathStep, key, index, each, Stage, path, literal, Update, assign, delete, comment}
use Rattle.yq_flow_edits.specs.Valued.{IsValid}
use Rattle.yq_planner.specs.ValidChanges.{HasValidValue}
use Rattle.yq_expr.specs.PlannedUpdates.{ForUpdate, plan_in}
use Rattle.yq_core.specs.declared.path.Step as core_step
use Rattle.yq_documents.specs.declared.path.Path as declared_path
use Rattle.yq_semantics.specs.declared.op.Op as declared_op
use Rattle.yq_semantics.specs.declared.program.CommentPlace.TheVariants as comments
use Rattle.yq_semantics.specs.declared.program.Operator.TheVariants as operator
use Rattle.yq_semantics.specs.declared.program.PathStep as declared_step
use Rattle.yq_semantics.specs.declared.program.Update as declared_update

-- the step of a tree to which a step of a path leads in each tree, if it is one: to a key, or to an index from 0 on (own)
abbrev pub fixed_step : PathStep → Option Step
fixed_step (key k) = Some (To k)
fixed_step (index (pos n)) = Some (Nth n)
fixed_step (index (negsuc n)) = None
fixed_step each = None

-- a pipe is one path, whose steps lead to these in each tree (own)
pub record IsFixed (pipe : List Stage) (steps : List Step) : Type 0 where
  pub own : List PathStep
  pub is : pipe ≡ path own ∷ []
  pub fixed : map fixed_step own ≡ map (λ s. Some s) steps

-- Documents are one, in which no alias names an anchor of any node (own).
pub record IsSole (docs : List Document) : Type 0 where
  pub document : Document
  pub is : docs ≡ document ∷ []
  pub free : (n : Node) → is_used_in (names_of document.root) (Some n) ≡ false

-- An update puts a scalar at a fixed path, with no more steps than collections may be nested (own).
pub record PutsScalar (u : Update) (doc : ℕ) (steps : List Step) (v : Node) : Type 0 where
  pub left : List Stage
  pub is : u ≡ assign left operator.Set (literal v ∷ [])
  pub first : doc ≡ 0
  pub fixed : IsFixed left steps
  pub kind : Kind
  pub text : List ℕ
  pub scalar : v ≡ scalar None kind text
  pub valid : IsValid (record { kind = kind; text = text })
  pub near : length steps ≤ 64

-- An update removes what is at a fixed path, which is no root (own).
pub record RemovesOne (u : Update) (doc : ℕ) (steps : List Step) : Type 0 where
  pub left : List Stage
  pub is : u ≡ delete left
  pub first : doc ≡ 0
  pub fixed : IsFixed left steps
  pub below : IsBelow steps

-- An update sets the text of a comment at a fixed path, which can be one there (own).
pub record CommentsOne (u : Update) (doc : ℕ) (steps : List Step) (place : CommentPlace) (text : List ℕ) : Type 0 where
  pub left : List Stage
  pub is : u ≡ comment left place text
  pub first : doc ≡ 0
  pub fixed : IsFixed left steps
  pub can : can_be_comment place text ≡ true

-- an update changes one node at a fixed path of the first document, by that operation where the node is there (own)
abbrev pub IsFixedOp : Update → Operation → Type 0
IsFixedOp u (replace doc steps v) = PutsScalar u doc steps v
IsFixedOp u (append doc steps k v) = ⊥
IsFixedOp u (remove doc steps) = RemovesOne u doc steps
IsFixedOp u (line_comment doc steps text) = CommentsOne u doc steps comments.Line text
IsFixedOp u (head_comment doc steps text) = CommentsOne u doc steps comments.Head text

-- A path leads to a node in the document of that number (own).
pub record LeadsToOne (docs : List Document) (doc : ℕ) (steps : List Step) : Type 0 where
  pub document : Document
  pub there : slice_get docs doc ≡ Some document
  pub node : Node
  pub at : node_at steps document.root ≡ Some node

-- a path leads to a node of a document whose text has room for such a comment of it (own)
abbrev pub HasRoomAt : (ℕ → Room) → List Document → ℕ → List Step → CommentPlace → Type 0
HasRoomAt rooms docs doc steps place = LeadsToOne docs doc steps × ((rooms doc).has place steps ≡ true)

-- the node that an operation changes is there, with room for the comment that it sets (own)
abbrev pub FindsNode : (ℕ → Room) → List Document → Operation → Type 0
FindsNode rooms docs (replace doc steps v) = LeadsToOne docs doc steps
FindsNode rooms docs (append doc steps k v) = ⊥
FindsNode rooms docs (remove doc steps) = LeadsToOne docs doc steps
FindsNode rooms docs (line_comment doc steps text) = HasRoomAt rooms docs doc steps comments.Line
FindsNode rooms docs (head_comment doc steps text) = HasRoomAt rooms docs doc steps comments.Head

-- the plan of an update for the documents of a text is that operation alone (own)
abbrev pub PlansOnly : Update → List ℕ → Operation → Type 0
PlansOnly u t op = plan_in u t ≡ gives (op ∷ [])

-- ---- what calls answer

-- where an answer is some thing, and not nothing, that is so (own)
abbrev pub IfAny : {X : Type 0} → Result (Option X) AllocError → (X → Type 0) → Type 0
IfAny result P = IfOk result (λ o. IfSome o P)

-- steps of a path lead by these in each tree (own)
abbrev pub AreFixed : List declared_step.PathStep → List core_step.Step → Type 0
AreFixed own steps = map (λ s. fixed_step (program_step s)) own ≡ map (λ s. Some (tree_step s)) steps

-- an operation is that of an update of one node at a fixed path (own)
abbrev pub IsOpOf : declared_update.Update → declared_op.Op → Type 0
IsOpOf u op = IsFixedOp (update_of u) (operation_of op)

-- a path leads to a node of a text (own)
abbrev pub LeadsIn : List ℕ → declared_path.Path → Type 0
LeadsIn t p = LeadsToOne (documents_of t) p.doc (steps_of p)

-- and the text has room for such a comment of it (own)
abbrev pub HasRoomIn : List ℕ → declared_path.Path → CommentPlace → Type 0
HasRoomIn t p place = HasRoomAt (room_of t) (documents_of t) p.doc (steps_of p) place

-- the node that an operation changes is in a text, with room for the comment that it sets (own)
abbrev pub FindsNodeIn : List ℕ → declared_op.Op → Type 0
FindsNodeIn t op = FindsNode (room_of t) (documents_of t) (operation_of op)

-- The plan of the update of that number of a program, for the documents of a text, is that operation alone, whose value is valid (own).
pub record PlansAlone (nth : ℕ) (program : Syntax) (t : List ℕ) (op : declared_op.Op) : Type 0 where
  pub plans : ForUpdate nth program (λ u. PlansOnly u t (operation_of op))
  pub valid : HasValidValue (operation_of op)
