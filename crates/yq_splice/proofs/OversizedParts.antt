-- What no text can hold isn't carried out: the text would be too large.
use Rattle.std.proofs.Common.{◌≡◌, ℕ, ◌≤◌, List, [], ◌∷◌, Option, Some, None, refl, ap, ◌∙◌, subst, arith}
use Rattle.yq_documents.{specs.Documents.{Document, ReadsDocuments}, specs.Reading.{cut_of, documents, read_at}}
use Rattle.yq_documents.{proofs.ReadLaws.{cut_is, parts_read}, proofs.ReadyLaws.read_ready}
use Rattle.yq_outline.proofs.ShapeLaws.{shaped_by_lines, shaped_is_tree}
use Rattle.yq_semantics.{specs.After.all_after, specs.Meaning.AreReady, specs.Operations.{Operation, append, replace}, specs.Rooms.room_of}
use Rattle.yq_semantics.{specs.Sizes.items_of_all, specs.declared.refusal.Refusal.TheVariants.TooLarge, specs.Program.{Update, UpdatesHold}}
use Rattle.yq_semantics.{proofs.RoomLaws.rooms_are_ready, proofs.sizes.RowSizes.text_size}
use Rattle.yq_text.specs.Splice.{Splice}
use Rattle.yq_edit_rules.specs.Operands.{HasOperand, KeyIsUtf8}
use Rattle.yq_edit_laws.{specs.Carried.carry_all, specs.Edit.{Edit, edit_after}, specs.Valid.{AreServed, FailsAt, HaveOperands}}
use Rattle.yq_edit_laws.proofs.ServeLaws.{OperationsCome, all_come}
use Rattle.yq_expr.{specs.Oversized.{AllWrite, BeginsOversized, MayBeUtf8, WritesValue}, specs.SumSizes.items_limit}
use Rattle.yq_splice.{specs.Parts.Awaits, proofs.PartLaws.{IsUnderWay, first_served, rest_awaits, some_fail}}
use Rattle.yq_failure.specs.declared.failure.Failure.TheVariants as failure
use Rattle.yq_edit_laws.specs.Edit as edits

-- a text that reads has no more items and entries than it may have
within : (t : List ℕ) (docs : List Document) → ReadsDocuments t docs → items_of_all docs ≤ items_limit
within t docs h = omega (arith, text_size t docs h, h.cut.size)

ready : (t : List ℕ) (docs : List Document) → ReadsDocuments t docs → AreReady (room_of t) 0 docs
ready t docs h = subst (AreReady (room_of t) 0) (ap documents (cut_is t h.parts h.cut) ∙ (parts_read t docs h).1) (rooms_are_ready t (read_ready shaped_by_lines shaped_is_tree t docs h))

-- ---- operands

utf8_key : (k : Option (List ℕ)) → MayBeUtf8 k → KeyIsUtf8 k
utf8_key None h = h
utf8_key (Some k) h = h

operand : (op : Operation) → WritesValue op → HasOperand op
operand (replace doc path v) h = h
operand (append doc path k v) h = (utf8_key k h.0, h.1)
operand _ h = absurd h

operands : (ops : List Operation) → AllWrite ops → HaveOperands ops
operands [] h = tt
operands (op ∷ ops) h = (operand op h.0, operands ops h.1)

-- ---- what no text can hold

-- the first operations are refused for the size of the text that they would make
refused : (all : List Operation) (m : List ℕ) → Awaits all m → (b : BeginsOversized all) → carry_all b.first m ≡ edits.refuses TooLarge
refused all m h b = go (carry_all b.first m) refl (all_come served.0 b.first m served.1)
  where
    served : AreServed b.first m
    served = first_served b.first b.others m (subst (λ xs. Awaits xs m) b.split h) (operands b.first b.write)

    go : (e : Edit) → carry_all b.first m ≡ e → OperationsCome (all_after (room_of m) b.first served.0) b.first m e → carry_all b.first m ≡ edits.refuses TooLarge
    go edits.unreadable is k = absurd k
    go (edits.refuses why) is k = is ∙ ap edits.refuses k.0
    go (edits.gives n cs) is k =
        let s = served.1 in
        absurd (omega (arith, within n (all_after (room_of m) b.first served.0) k.1, b.more (room_of m) served.0 (ready m served.0 s.read) s.follow.fit))

-- an update of whose plan some operations are carried out fails so, where those that are left begin with what no text can hold
pub oversized_fails : (u : Update) (t : List ℕ) (before : List Splice) (is : read_at t ≡ Some (cut_of t)) (holds : UpdatesHold (u ∷ [])) (doc place : ℕ) (m : List ℕ) (cs : List Splice)
    (h : IsUnderWay u t before doc place m cs) → BeginsOversized h.rest → FailsAt (failure.Fault TooLarge) u t
oversized_fails u t before is holds doc place m cs h b =
    let large = refused h.rest m (rest_awaits u t before is holds doc place m cs h) b in
    some_fail u t before is holds doc place m cs h b.first b.others b.split (operands b.first b.write) (failure.Fault TooLarge) (ap (edit_after cs) large)
