-- What a text reads as after an operation (own).
use Rattle.std.specs.Prelude.{◌≡◌, ℕ, List, Some}
use Rattle.yq_row_table.specs.Rows.{Cut, cut_text}
use Rattle.yq_documents.specs.Reading.{documents, read_at, documents_of}
use Rattle.yq_semantics.{specs.After.after_op, specs.Operations.Operation, specs.Rooms.room_of, specs.RoomsKept.LeavesRooms}

-- the room that an operation on a text leaves in the new one (own)
abbrev pub RoomStays : Operation → List ℕ → List ℕ → Type 0
RoomStays op t new = LeavesRooms op (room_of t) (room_of new) (documents_of new)

-- A text reads as the documents of a cut after an operation (own).
pub record ReadsAfter (op : Operation) (c : Cut) (new : List ℕ) : Type 0 where
  pub cut : Cut
  pub read : read_at new ≡ Some cut
  pub documents_are : documents cut ≡ after_op (room_of (cut_text c)) op (documents c)
  pub room : RoomStays op (cut_text c) new
