-- Operations that may follow one another are carried out on a text that reads.
use Rattle.std.proofs.Common.{rules, ◌≡◌, ℕ, List, [], ◌∷◌, refl, subst}
use Rattle.yq_documents.{specs.Documents.{Document, ReadsDocuments}, proofs.ReadLaws.one_reading}
use Rattle.yq_semantics.{specs.After.{after_op, all_after}, specs.Operations.Operation, specs.Rooms.room_of, specs.RoomsKept.LeavesRooms}
use Rattle.yq_semantics.{specs.declared.refusal.Refusal.TheVariants.TooLarge, proofs.updates.AlikeRooms.{rest_follow, rest_after}}
use Rattle.yq_text.specs.Splice.{Splice}
use Rattle.yq_edit_laws.{specs.Carried.{carried, carry_all}, specs.Edit.{Edit, unreadable, refuses, gives, edit_after, edit_then}}
use Rattle.yq_edit_laws.{specs.Theorems.{IsFitting, IsApplied, IsLarge, InOrder, StopsInOrder}, specs.Valid.Serves}
use Rattle.yq_edit_laws.proofs.ApplyLaws.{OperationComes, operation_comes}

-- what operations come to on a text: one that reads so, in their order; or one of them makes too large a text
abbrev pub OperationsCome : List Document → List Operation → List ℕ → Edit → Type 0
OperationsCome after ops t unreadable = ⊥
OperationsCome after ops t (refuses why) = (why ≡ TooLarge) × StopsInOrder IsApplied IsLarge ops t
OperationsCome after ops t (gives new cs) = InOrder IsApplied ops t new cs × ReadsDocuments new after

module _ (docs : List Document) (op : Operation) (ops : List Operation) (t : List ℕ) (s : Serves docs (op ∷ ops) t) where
  abbrev next : List Document
  next = after_op (room_of t) op docs

  abbrev last : List Document
  last = all_after (room_of t) (op ∷ ops) docs

  pub fits : IsFitting op t
  fits = record { before = docs; read = s.read; fits = s.follow.fit.0 }

  module _ (m : List ℕ) (cs : List Splice) (a : IsApplied op t m cs) where
    same : a.before ≡ docs
    same = one_reading t a.before docs a.read s.read

    left : LeavesRooms op (room_of t) (room_of m) next
    left = subst (λ (ds : List Document). LeavesRooms op (room_of t) (room_of m) (after_op (room_of t) op ds)) same a.room

    pub others_serve : Serves next ops m
    others_serve = record {
      read = subst (λ (ds : List Document). ReadsDocuments m (after_op (room_of t) op ds)) same a.reads;
      operands = s.operands.1;
      follow = rest_follow op ops (room_of t) (room_of m) docs left s.follow;
    }

    others_come : all_after (room_of m) ops next ≡ last
    others_come = rest_after op ops (room_of t) (room_of m) docs left s.follow

    comes_after : (e : Edit) → OperationsCome last ops m e → OperationsCome last (op ∷ ops) t (edit_after cs e)
    comes_after e h = search rules

  comes_more : ((m : List ℕ) → Serves next ops m → OperationsCome (all_after (room_of m) ops next) ops m (carry_all ops m)) →
      (e : Edit) → OperationComes op t e → OperationsCome last (op ∷ ops) t (edit_then (carry_all ops) e)
  comes_more others e h = search (rules, comes_after, others_come, others_serve)

pub all_come : (docs : List Document) (ops : List Operation) (t : List ℕ) → Serves docs ops t →
    OperationsCome (all_after (room_of t) ops docs) ops t (carry_all ops t)
all_come docs [] t s = ((refl, refl), s.read)
all_come docs (op ∷ ops) t s =
    comes_more docs op ops t s (λ m k. all_come (after_op (room_of t) op docs) ops m k) (carried op t)
    (operation_comes op t s.operands.0 (fits docs op ops t s))
