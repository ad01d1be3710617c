-- What is known of an update that was judged before it is carried out part by part (own).
use Rattle.std.specs.Prelude.{◌≡◌, ℕ, List}
use Rattle.yq_documents.{specs.Documents.{Document, ReadsDocuments}, specs.Reading.documents_of}
use Rattle.yq_semantics.{specs.Judgement.gives, specs.Operations.Operation, specs.Plans.plan, specs.Program.Update, specs.Rooms.room_of}
use Rattle.yq_semantics.specs.RoomsKept.{MayFollow}
use Rattle.yq_expr.specs.Parts.{IsInOrder}

-- Nothing refuses an update on the documents of a text: it has a plan, in the order of its places (own).
pub record IsJudged (u : Update) (t : List ℕ) : Type 0 where
  pub order : IsInOrder u
  pub operations : List Operation
  pub planned : plan u (room_of t) (documents_of t) ≡ gives operations

-- A text reads as documents, on which operations may follow one another (own).
pub record Awaits (ops : List Operation) (t : List ℕ) : Type 0 where
  pub documents : List Document
  pub read : ReadsDocuments t documents
  pub follow : MayFollow (room_of t) ops documents
