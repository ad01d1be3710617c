-- Values on one line put in rows of one document in any order, on the rows as they were read (YAML 1.2.2, 8.2; own).
use Rattle.std.specs.Prelude.{◌≡◌, ⊤, ℕ, Bool, true, Vec, ◌+◌, false, List, [], ◌∷◌, ◌++◌, length, Option, Some, None, IfSome, string_bytes}
use Rattle.std.{specs.Str.IsCharBoundary, specs.declared.alloc.Global.Global}
use Rattle.yq_text.specs.Splice.{Splice}
use Rattle.yq_core.{specs.Paths.Step, specs.Tree.Node}
use Rattle.yq_row_table.specs.Rows.{Cut, cut_text}
use Rattle.yq_documents.specs.Reading.{cut_of, read_at}
use Rattle.yq_places.{specs.NodesAt.node_in, specs.Placements.{RowsOfEntry, held, rows_of_entry}}
use Rattle.yq_semantics.{specs.Operations.{Operation, operation_of, replace}, specs.declared.op.Op.Op}
use Rattle.yq_edit_rules.{specs.BlockReading.is_filled, specs.Operands.HasOperand, specs.RowChanges.HoldsInline}
use Rattle.yq_edit_laws.{specs.Carried.carried, specs.Edit.gives, specs.Theorems.IsApplied}
use Rattle.yq_batch.{specs.KeptBreaks.KeepsFirstBreak, specs.OpenRuns.{AreCharEdges, open_text}, specs.RowRuns.{IsWrittenSo, bytes_in}}
use Rattle.yq_batch.specs.Slots.{AreInOrder, HasCounts, SlotView, slot_places, slots_of, text_from}
use Rattle.yq_batch.specs.RowEnds.{AddsAtEnd, LeaveRoom, EndAt, EndOfEntries, IsBeforeEnd, IsKnownEnd, IsEndStill}
use Rattle.yq_batch.{specs.declared.row_ends.EntriesEnd.EntriesEnd, specs.declared.any_order.SlotRun.SlotRun}
use Rattle.yq_batch.{specs.declared.change.HeadChange.HeadChange, specs.declared.slots.SlotPlace.SlotPlace}

-- the text before what the key or dash of rows holds (8.2)
abbrev pub head_front : RowsOfEntry → List ℕ
head_front e = (held e).before ++ (held e).space

-- the text after it, where no lines are below (8.2)
abbrev pub head_back : RowsOfEntry → List ℕ
head_back e = (held e).white ++ ((held e).comment ++ ((held e).last ++ (held e).after))

-- What the key or dash of rows holds is at this place (own).
pub record IsHeadAt (e : RowsOfEntry) (p : SlotPlace) : Type 0 where
  pub start : p.start ≡ length (head_front e)
  pub end : p.end ≡ p.start + length (held e).head

-- In another cut too, steps lead to an item or entry in the same row, after as many rows, and this text comes after what it holds (own).
pub record IsRowThere (e : RowsOfEntry) (m : ℕ) (steps : List Step) (d : Cut) (rest : List ℕ) : Type 0 where
  pub now : RowsOfEntry
  pub found : rows_of_entry m steps d ≡ Some now
  pub row : now.row ≡ e.row
  pub line : now.line ≡ e.line
  pub size : length now.front ≡ length e.front
  pub back : head_back now ≡ rest

-- an item or entry of document m that holds an inline node at a place is there in another cut, with this text after that, if nothing was put at the place (own)
abbrev pub IsRowStill : (c d : Cut) → ℕ → SlotView → List ℕ → Type 0
IsRowStill c d m s rest =
    s.new ≡ None → (t : Step) (ss : List Step) (e : RowsOfEntry) → rows_of_entry m (t ∷ ss) c ≡ Some e → HoldsInline e → IsHeadAt e s.place →
    IsRowThere e m (t ∷ ss) d rest

-- the same of several places (own)
abbrev pub AreRowsStill : (c d : Cut) → ℕ → List SlotView → Type 0
AreRowsStill c d m [] = ⊤
AreRowsStill c d m (s ∷ ss) = IsRowStill c d m s (text_from (cut_text c) s.place.end ss) × AreRowsStill c d m ss

-- Values were put at places in rows of document m, and entries at the end of a mapping, if that is known: the text reads, the rows at the other places are
-- there as they were, and so is that end (own).
pub record IsOpenRows (c : Cut) (m : ℕ) (o : Option EndOfEntries) (slots : List SlotView) : Type 0 where
  pub order : AreInOrder 0 (slot_places slots) (length (cut_text c))
  pub apart : LeaveRoom (slot_places slots)
  pub edges : AreCharEdges (cut_text c) slots
  pub cut : Cut
  pub read : read_at (text_from (cut_text c) 0 slots) ≡ Some cut
  pub still : AreRowsStill c cut m slots
  pub ends : IfSome o (IsEndStill c cut m slots)

-- a run of the code is one (own)
pub record RunsRows (c : Cut) (m : ℕ) (o : Option EndOfEntries) (r : SlotRun) : Type 0 where
  pub run : IsOpenRows c m o (slots_of r.slots)
  pub counts : HasCounts r.slots
  pub size : r.size ≡ length (open_text c r)

-- An operation puts a value on one line in the place of what an item or entry of document m holds in its row, before the end of a mapping (own).
pub record PutsInside (op : Operation) (c : Cut) (m : ℕ) (o : Option EndOfEntries) (y : HeadChange) : Type 0 where
  pub step : Step
  pub steps : List Step
  pub value : Node
  pub operation : op ≡ replace m (step ∷ steps) value
  pub valid : HasOperand (replace m (step ∷ steps) value)
  pub plain : is_filled value ≡ false
  pub entry : RowsOfEntry
  pub found : rows_of_entry m (step ∷ steps) c ≡ Some entry
  pub inline : HoldsInline entry
  pub at : IsHeadAt entry y.place
  pub before : IfSome o (IsBeforeEnd entry y.place)
  pub content : y.place.more ≡ false
  pub lead : y.lead.now ≡ []
  pub written : IsWrittenSo (node_in m (step ∷ steps) c) value (held entry).head (bytes_in string_bytes y.written)
  pub starts : IsCharBoundary (cut_text c) y.place.start
  pub ends : IsCharBoundary (cut_text c) y.place.end

-- an operation puts an entry at the end of a mapping, or a value in a row (own)
abbrev pub DoesBy : (more : Bool) → Operation → Cut → ℕ → Option EndOfEntries → HeadChange → Type 0
DoesBy true op c m o y = AddsAtEnd op c m o y
DoesBy false op c m o y = PutsInside op c m o y

-- the same by what the code has of it (own)
abbrev pub DoesInside : Operation → Cut → ℕ → Option EndOfEntries → HeadChange → Type 0
DoesInside op c m o y = DoesBy y.place.more op c m o y

-- the same of an operation of the code, if it is known what it puts (own)
abbrev pub MayPut : Cut → ℕ → Option EndOfEntries → Op → Option HeadChange → Type 0
MayPut c m e op o = IfSome o (DoesInside (operation_of op) c m e)

-- the same of one in a text, whichever mapping's end it is that the code reports, if it does (own)
abbrev pub MayDo : List ℕ → ℕ → Option EntriesEnd → Op → Option HeadChange → Type 0
MayDo t m w op o = (e : Option EndOfEntries) → IsKnownEnd (cut_of t) m w e → MayPut (cut_of t) m e op o

-- the same of several operations in their order; of more it is not known (own)
abbrev pub ArePutInRows : Cut → ℕ → Option EndOfEntries → List Op → List (Option HeadChange) → Type 0
ArePutInRows c m e ops [] = ⊤
ArePutInRows c m e [] (o ∷ os) = ⊤
ArePutInRows c m e (op ∷ ops) (o ∷ os) = MayPut c m e op o × ArePutInRows c m e ops os

-- the same of what is found of operations on a text, if it is (own)
abbrev pub FindsPuts : List ℕ → ℕ → Option EntriesEnd → List Op → Option (Vec (Option HeadChange) Global) → Type 0
FindsPuts t m w ops o = (e : Option EndOfEntries) → IsKnownEnd (cut_of t) m w e → IfSome o (λ v. ArePutInRows (cut_of t) m e ops v.items)

-- nothing is known of what any operations put (own)
abbrev pub NoneKnown : List (Option HeadChange) → Type 0
NoneKnown os = (c : Cut) (m : ℕ) (e : Option EndOfEntries) (ops : List Op) → ArePutInRows c m e ops os

-- An operation is carried out on the text of a run, which goes on after it (own).
pub record OpensRow (op : Operation) (c : Cut) (m : ℕ) (o : Option EndOfEntries) (before after : SlotRun) : Type 0 where
  pub new_bytes : List Splice
  pub comes : carried op (open_text c before) ≡ gives (open_text c after) new_bytes
  pub applied : IsApplied op (open_text c before) (open_text c after) new_bytes
  pub splices : after.splices.items ≡ before.splices.items ++ new_bytes
  pub run : RunsRows c m o after

-- a run in which nothing was put in rows of document m of a text (own)
pub record BeginsInAnyRow (c : Cut) (m : ℕ) (o : Option EndOfEntries) (t : List ℕ) (r : SlotRun) : Type 0 where
  pub run : RunsRows c m o r
  pub text : open_text c r ≡ t
  pub none : r.splices.items ≡ []

-- the last one of places is an offset, and the text keeps its first break (own)
abbrev pub EndsNear : List ℕ → ℕ → List SlotPlace → Type 0
EndsNear t at ps = EndAt at ps × KeepsFirstBreak t ps

-- the same of the end of a mapping (own)
abbrev pub IsBeforeEnds : List ℕ → List SlotPlace → EntriesEnd → Type 0
IsBeforeEnds t ps w = EndsNear t w.at ps

-- places are apart, and so it is, if the end of a mapping is known (own)
abbrev pub AreBeforeEnd : List ℕ → List SlotPlace → Option EntriesEnd → Type 0
AreBeforeEnd t ps w = LeaveRoom ps × IfSome w (IsBeforeEnds t ps)

-- a document is that of a mapping's end, if it is known (own)
abbrev pub IsEndsDocument : Option EntriesEnd → ℕ → Type 0
IsEndsDocument w m = IfSome w (λ x. x.path.now.doc ≡ m)

-- the same of a run in a text, if there is one, whichever document it is in, for a mapping that ends there (own)
abbrev pub MayBeginInRows : List ℕ → Option EntriesEnd → Option SlotRun → Type 0
MayBeginInRows t w o = IfSome o (λ r. (m : ℕ) (e : Option EndOfEntries) → IsKnownEnd (cut_of t) m w e → BeginsInAnyRow (cut_of t) m e t r)

-- What operations put in rows of a document of a text is known, as far as it is, and a run begins in which nothing was put (own).
pub record BeginsInRows (ops : List Op) (t : List ℕ) (os : List (Option HeadChange)) (r : SlotRun) : Type 0 where
  pub document : ℕ
  pub end : Option EndOfEntries
  pub puts : ArePutInRows (cut_of t) document end ops os
  pub begins : BeginsInAnyRow (cut_of t) document end t r
