-- What private functions hand on: operands are valid, operations may follow one another, the segments of one, and how an update ended.
use Rattle.std.specs.Prelude.{◌≡◌, ℕ, List, [], ◌∷◌, ⊤}
use Rattle.yq_row_table.specs.Rows.{Cut}
use Rattle.yq_documents.specs.Documents.{Document, ReadsDocuments}
use Rattle.yq_semantics.{specs.Operations.Operation, specs.Rooms.room_of, specs.RoomsKept.MayFollow}
use Rattle.yq_semantics.{specs.Program.{Program, Update, updates}, specs.Judgement.ExprError}
use Rattle.yq_text.{specs.Splice.Splice, specs.Script.Segment}
use Rattle.yq_edit_rules.{specs.Edits.{op_edits, or_stay}, specs.Operands.HasOperand}
use Rattle.yq_edit_laws.{specs.Answers.EditFails, specs.Carried.updated, specs.Edit.in_order}
use Rattle.yq_edit_laws.specs.Theorems.{IsUpdated, ProgramRefused, UpdateRefused}
use Rattle.yq_edit_laws.specs.Edit as edit
use Rattle.yq_failure.specs.declared.failure.Failure.TheVariants as failure

-- the operands of operations are valid, since the code holds no others (own)
abbrev pub HaveOperands : List Operation → Type 0
HaveOperands [] = ⊤
HaveOperands (op ∷ ops) = HasOperand op × HaveOperands ops

-- A text reads as documents, on which operations with valid operands may follow one another, with the room that it has (own).
pub record Serves (docs : List Document) (ops : List Operation) (t : List ℕ) : Type 0 where
  pub read : ReadsDocuments t docs
  pub operands : HaveOperands ops
  pub follow : MayFollow (room_of t) ops docs

-- the same of some documents (own)
abbrev pub AreServed : List Operation → List ℕ → Type 0
AreServed ops t = (docs : List Document) × Serves docs ops t

-- the segments of a cut's text by which an operation is carried out; the text stays where there are none (own)
abbrev pub segments_by : Operation → Cut → List Segment
segments_by op c = or_stay c (op_edits op c)

-- An update is carried out: what it gives and what it means (own).
pub record IsStep (u : Update) (t new : List ℕ) (cs : List Splice) : Type 0 where
  pub exact : updated u t ≡ edit.gives new cs
  pub is : IsUpdated u t new cs

-- why an update fails on a text that reads: it is refused, or memory ran out (own)
abbrev pub UpdateFails : ExprError → Update → List ℕ → Type 0
UpdateFails (failure.Fault why) u t = UpdateRefused why u t
UpdateFails failure.Memory u t = ⊤

-- An error is what an update gives on a text, and says why (own).
pub record FailsAt (e : ExprError) (u : Update) (t : List ℕ) : Type 0 where
  pub fails : EditFails e (updated u t)
  pub why : UpdateFails e u t

-- the same of a program (own)
abbrev pub ProgramFails : ExprError → Program → List ℕ → Type 0
ProgramFails (failure.Fault why) p t = ProgramRefused p why t
ProgramFails failure.Memory p t = ⊤

-- An error is what updates in order give, and says why (own).
pub record FailsEach (e : ExprError) (us : List Update) (t : List ℕ) : Type 0 where
  pub fails : EditFails e (in_order updated us t)
  pub why : ProgramFails e (updates us) t
