-- An operation that fits is carried out by what it exchanges.
use Rattle.std.proofs.Common.{rules, ◌≡◌, ℕ, ◌<◌, ◌≤◌, ◌^◌, Bool, true, false, cond, leb, List, length, Option, Some, None, Result, Ok, Err}
use Rattle.std.proofs.Common.{IfOk, IfErr, string_bytes, refl, sym, ap, ◌∙◌, subst, arith, append-nil}
use Rattle.std.proofs.lemmas.Bool.{leb-true, leb-false}
use Rattle.yq_text.{specs.Limit.text_limit, specs.Splice.Splice, specs.Script.{Segment, new_text, old_text, changes}}
use Rattle.yq_text.specs.declared.edited.Edited.{Edited}
use Rattle.yq_row_table.specs.Rows.{Cut, cut_text}
use Rattle.yq_documents.{specs.Documents.ReadsDocuments, specs.Reading.{cut_of, documents, documents_of, read_at}}
use Rattle.yq_documents.proofs.ReadLaws.{parts_read, read_takes}
use Rattle.yq_semantics.{specs.After.after_op, specs.Fits.Fits, specs.Operations.Operation, specs.Rooms.room_of}
use Rattle.yq_semantics.{specs.RoomsKept.LeavesRooms, specs.declared.refusal.Refusal.TheVariants.TooLarge, specs.Judgement.ExprError}
use Rattle.yq_edit_rules.{specs.Operands.HasOperand, specs.EditLaws.IsEdit, specs.Edits.{op_edits, or_stay}, specs.ReadsAfter.ReadsAfter}
use Rattle.yq_edit_rules.proofs.DoneLaws.{read_cut}
use Rattle.yq_edit_laws.{proofs.CutLaws.{cut_read, text_read}, specs.Answers.{Edits, EditFails}, specs.Carried.{carry_one, carried}}
use Rattle.yq_edit_laws.specs.Edit.{Edit, unreadable, refuses, gives, by_reading, edit_of_segments, exchange_edit}
use Rattle.yq_edit_laws.{specs.Theorems.{IsFitting, IsApplied, IsLarge, OpRefused}, specs.Valid.segments_by}
use Rattle.yq_edit_laws.proofs.EditsHold.{edit_is, edit_there}
use Rattle.yq_text.specs.Exchanging as exchange
use Rattle.yq_failure.specs.declared.failure.Failure.TheVariants as failure

-- what an operation that fits comes to: it is carried out, or its text is too large
abbrev pub OperationComes : Operation → List ℕ → Edit → Type 0
OperationComes op t unreadable = ⊥
OperationComes op t (refuses why) = (why ≡ TooLarge) × IsLarge op t
OperationComes op t (gives new cs) = IsApplied op t new cs

module _ (op : Operation) (t : List ℕ) (operand : HasOperand op) (k : IsFitting op t) where
  abbrev cut : Cut
  cut = k.read.parts

  is : (read_at t ≡ Some cut) × (documents cut ≡ k.before)
  is = parts_read t k.before k.read

  text : cut_text cut ≡ t
  text = sym k.read.cut.text

  again : read_at (cut_text cut) ≡ Some cut
  again = ap read_at text ∙ is.0

  pub fits : Fits (room_of (cut_text cut)) op (documents cut)
  fits =
      subst (λ (x : List ℕ). Fits (room_of x) op (documents cut)) (sym text)
      (subst (Fits (room_of t) op) (sym is.1) k.fits)

  own : (ss : List Segment) × (op_edits op cut ≡ Some ss)
  own = edit_there op cut again operand fits

  edit : IsEdit op cut own.0
  edit = edit_is op cut own.0 again own.1

  abbrev new_bytes : List ℕ
  new_bytes = new_text own.0

  comes : carried op t ≡ edit_of_segments own.0
  comes = ap (by_reading (carry_one op)) is.0 ∙ ap (λ (x : Option (List Segment)). edit_of_segments (or_stay cut x)) own.1

  is_applied : length new_bytes ≤ text_limit → IsApplied op t new_bytes (changes own.0)
  is_applied size =
      let r : ReadsAfter op cut new_bytes = (edit.carried operand fits size).reads in
      let after : documents r.cut ≡ after_op (room_of t) op k.before =
      r.documents_are ∙ (λ i. after_op (room_of (text i)) op (is.1 i)) in
      record {
        before = k.before;
        read = k.read;
        segments = own.0;
        exchanged = own.1;
        old_is = edit.old ∙ text;
        new_is = refl;
        splices = refl;
        reads = subst (ReadsDocuments new_bytes) after (read_takes new_bytes r.cut r.read);
        room = subst (LeavesRooms op (room_of t) (room_of new_bytes)) (ap documents (read_cut new_bytes r.cut r.read) ∙ after)
            (subst (λ (x : List ℕ). LeavesRooms op (room_of x) (room_of new_bytes) (documents_of new_bytes)) text r.room);
      }

  is_large : text_limit < length new_bytes → IsLarge op t
  is_large size = record {
    before = k.before;
    read = k.read;
    segments = own.0;
    exchanged = own.1;
    old_is = edit.old ∙ text;
    size = size;
  }

  by_size : (b : Bool) → leb (length new_bytes) text_limit ≡ b →
      OperationComes op t (exchange_edit (cond b (exchange.gives new_bytes (changes own.0)) exchange.too_large))
  by_size true e = is_applied (leb-true (length new_bytes) text_limit e)
  by_size false e = (refl, is_large (leb-false (length new_bytes) text_limit e))

  pub operation_comes : OperationComes op t (carried op t)
  operation_comes = subst (OperationComes op t) (sym comes) (by_size (leb (length new_bytes) text_limit) refl)

  pub applied_by : (new : List ℕ) (cs : List Splice) → carried op t ≡ gives new cs → IsApplied op t new cs
  applied_by new cs h = subst (OperationComes op t) h operation_comes

  pub op_applied : (r : Result Edited ExprError) → Edits r (carried op t) → IfOk r (λ e. IsApplied op t (string_bytes e.text) e.splices.items)
  op_applied (Ok e) h = applied_by (string_bytes e.text) e.splices.items h
  op_applied (Err e) h = tt

  pub refused_by : (e : ExprError) → EditFails e (carried op t) → OpRefused e op t
  refused_by (failure.Fault why) h = subst (OperationComes op t) h operation_comes
  refused_by failure.Memory h = tt

  pub op_refused : (r : Result Edited ExprError) → Edits r (carried op t) → IfErr r (λ e. OpRefused e op t)
  op_refused (Ok e) h = tt
  op_refused (Err e) h = refused_by e h

-- ---- the segments of an operation on a text

-- its segments are of the text
old_by : (op : Operation) (c : Cut) → read_at (cut_text c) ≡ Some c → old_text (segments_by op c) ≡ cut_text c
old_by op c read = go (op_edits op c) refl
  where
    go : (o : Option (List Segment)) → op_edits op c ≡ o → old_text (or_stay c o) ≡ cut_text c
    go None is = append-nil (cut_text c)
    go (Some ss) is = (edit_is op c ss read is).old

pub segments_short : (op : Operation) (t : List ℕ) (ss : List Segment) → read_at t ≡ Some (cut_of t) → ss ≡ segments_by op (cut_of t) → length (old_text ss) < 2 ^ 64
segments_short op t ss read is = search (rules, arith, text_read t (cut_of t) read, (cut_read t (cut_of t) read).size, old_by)
