-- What an accepted edit promises, and why an edit is refused.
use Rattle.std.specs.Prelude.{◌≡◌, ⊤, ◌⊎◌, ℕ, ◌<◌, List, [], ◌∷◌, ◌++◌, Some, length}
use Rattle.yq_text.{specs.Limit.text_limit, specs.Splice.{Splice, all_done, lengths_done}}
use Rattle.yq_text.specs.Script.{Segment, old_text, new_text, changes}
use Rattle.yq_documents.specs.Documents.{Document, ReadsDocuments}
use Rattle.yq_semantics.{specs.After.after_op, specs.Fits.Fits, specs.Judgement.{ExprError, gives, refuses}, specs.Meaning.meaning}
use Rattle.yq_semantics.{specs.Operations.Operation, specs.Rooms.room_of, specs.RoomsKept.LeavesRooms}
use Rattle.yq_semantics.{specs.declared.refusal.Refusal.Refusal, specs.declared.refusal.Refusal.TheVariants.{NotAnUpdate, TooLarge}}
use Rattle.yq_semantics.{specs.Plans.plan, specs.Program.{Program, Update, read, updates}}
use Rattle.yq_edit_rules.specs.Edits.{op_edits}
use Rattle.yq_failure.specs.declared.failure.Failure.TheVariants as failure

-- what leads from a text to another one by splices, for each thing of a kind (own)
abbrev pub Leading : Type 0 → Type 1
Leading A = A → List ℕ → List ℕ → List Splice → Type 0

-- a text leads to another one by splices, in a step for each thing in order (own)
abbrev pub InOrder : {A : Type 0} → Leading A → List A → List ℕ → List ℕ → List Splice → Type 0
InOrder R [] t new cs = (t ≡ new) × (cs ≡ [])
InOrder R (x ∷ xs) t new cs =
    (m : List ℕ) × (ds es : List Splice) × R x t m ds × InOrder R xs m new es × (cs ≡ ds ++ es)

-- one of several things is refused on the text to which those before it lead (own)
abbrev pub StopsInOrder : {A : Type 0} → Leading A → (A → List ℕ → Type 0) → List A → List ℕ → Type 0
StopsInOrder R S [] t = ⊥
StopsInOrder R S (x ∷ xs) t =
    S x t ⊎ ((m : List ℕ) × (cs : List Splice) × R x t m cs × StopsInOrder R S xs m)

-- The splices, done in order, lead from the old text to the new one, and so do their lengths (own).
pub record AreSplices (changes : List Splice) (t new : List ℕ) : Type 0 where
  pub texts : all_done changes t ≡ Some new
  pub lengths : lengths_done changes (length t) ≡ Some (length new)

-- ---- one operation

-- A text reads as documents, which an operation fits (own).
pub record IsFitting (op : Operation) (t : List ℕ) : Type 0 where
  pub before : List Document
  pub read : ReadsDocuments t before
  pub fits : Fits (room_of t) op before

-- An operation is carried out on a text that reads: of its segments some stay and some are replaced, and
-- the new text, which they make, reads as the documents after the operation; the splices are theirs (own).
pub record IsApplied (op : Operation) (t new : List ℕ) (cs : List Splice) : Type 0 where
  pub before : List Document
  pub read : ReadsDocuments t before
  pub segments : List Segment
  pub exchanged : op_edits op read.parts ≡ Some segments
  pub old_is : old_text segments ≡ t
  pub new_is : new_text segments ≡ new
  pub splices : changes segments ≡ cs
  pub reads : ReadsDocuments new (after_op (room_of t) op before)
  pub room : LeavesRooms op (room_of t) (room_of new) (after_op (room_of t) op before)

-- The text that an operation makes of a text that reads is larger than one may be (own).
pub record IsLarge (op : Operation) (t : List ℕ) : Type 0 where
  pub before : List Document
  pub read : ReadsDocuments t before
  pub segments : List Segment
  pub exchanged : op_edits op read.parts ≡ Some segments
  pub old_is : old_text segments ≡ t
  pub size : text_limit < length (new_text segments)

-- what refuses an operation that fits: the size of the new text, or lack of memory (own)
abbrev pub OpRefused : ExprError → Operation → List ℕ → Type 0
OpRefused (failure.Fault why) op t = (why ≡ TooLarge) × IsLarge op t
OpRefused failure.Memory op t = ⊤

-- ---- one update

-- An update is carried out on a text that reads: each operation of its plan in order, on the text that
-- the one before gives; and the last text reads as what the update means of the documents (own).
pub record IsUpdated (u : Update) (t new : List ℕ) (cs : List Splice) : Type 0 where
  pub before : List Document
  pub read : ReadsDocuments t before
  pub operations : List Operation
  pub planned : plan u (room_of t) before ≡ gives operations
  pub leads : InOrder IsApplied operations t new cs
  pub after : List Document
  pub meant : meaning u (room_of t) before ≡ gives after
  pub reads : ReadsDocuments new after

-- The meaning of an update refuses it on the documents as which a text reads (own).
pub record IsMeantRefused (why : Refusal) (u : Update) (t : List ℕ) : Type 0 where
  pub before : List Document
  pub read : ReadsDocuments t before
  pub meant : meaning u (room_of t) before ≡ refuses why

-- An operation of an update's plan makes too large a text of the one that those before it give (own).
pub record IsTooLarge (u : Update) (t : List ℕ) : Type 0 where
  pub before : List Document
  pub read : ReadsDocuments t before
  pub operations : List Operation
  pub planned : plan u (room_of t) before ≡ gives operations
  pub stops : StopsInOrder IsApplied IsLarge operations t

-- what refuses an update on a text: its meaning there, or the size of a new text (own)
abbrev pub UpdateRefused : Refusal → Update → List ℕ → Type 0
UpdateRefused why u t = IsMeantRefused why u t ⊎ ((why ≡ TooLarge) × IsTooLarge u t)

-- ---- a program

-- A program of updates is carried out: each in order, on the text that the one before gives (own).
pub record IsEdited (p : Program) (t new : List ℕ) (cs : List Splice) : Type 0 where
  pub all : List Update
  pub program : p ≡ updates all
  pub leads : InOrder IsUpdated all t new cs

-- a text reads as documents (own)
abbrev pub HasReading : List ℕ → Type 0
HasReading t = (docs : List Document) × ReadsDocuments t docs

-- what refuses a program on a text: that it is a read, where the text reads; or what refuses an update
-- on the text to which those before it lead (own)
abbrev pub ProgramRefused : Program → Refusal → List ℕ → Type 0
ProgramRefused (read stages) why t = (why ≡ NotAnUpdate) × HasReading t
ProgramRefused (updates us) why t = StopsInOrder IsUpdated (UpdateRefused why) us t
