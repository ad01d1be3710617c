-- Values put in any order in the flow collections of one head, which was read once, and items and entries put into these (YAML 1.2.2, 7.4; own).
use Rattle.std.specs.Prelude.{◌≡◌, ⊤, ℕ, ◌+◌, ◌-◌, ◌≤◌, Bool, true, false, List, [], ◌∷◌, ◌++◌, drop, take, length, Option, Some, None}
use Rattle.std.{specs.Prelude.{String, string_bytes}, specs.Str.IsCharBoundary, specs.declared.alloc.Global.Global}
use Rattle.yq_text.{specs.Halves.whole, specs.declared.halves.Halves.Halves, specs.Limit.text_limit, specs.Script.splice_at}
use Rattle.yq_text.specs.Splice.{Splice}
use Rattle.yq_core.{specs.Paths.Step, specs.Collections.CollPieces, specs.Entries.EntryPieces, specs.Nodes.{node_text, without_anchor}}
use Rattle.yq_flow_edits.specs.FlowEdits.{after_appended, is_none}
use Rattle.yq_row_table.specs.Rows.{Cut, cut_text}
use Rattle.yq_documents.specs.Reading.{read_at}
use Rattle.yq_places.{specs.FlowNodes.flow_collection, specs.FlowViews.LeadsToHead}
use Rattle.yq_semantics.specs.Operations.{Operation}
use Rattle.yq_edit_laws.{specs.PartPuts.IsPartOf, specs.Carried.carried, specs.Edit.gives, specs.Theorems.IsApplied}
use Rattle.yq_batch.specs.Slots.{AreInOrder, HasCounts, IsPutIn, SlotView, slot_places, slots_of, text_from}
use Rattle.yq_batch.{specs.Runs.{cut_with, stem_of}, specs.declared.change.HeadChange.HeadChange, specs.declared.head.HeadInText.HeadInText}
use Rattle.yq_batch.{specs.declared.any_order.SlotRun.SlotRun, specs.declared.slots.SlotPlace.SlotPlace, specs.declared.slots.Slots.Slots}

-- A collection is in a cut at these steps that has the bracket of another one and as many items or none, and this text after the last one (7.4; own).
pub record EndsBefore (w : CollPieces) (cut : Cut) (n : ℕ) (steps : List Step) (rest : List ℕ) : Type 0 where
  pub coll : CollPieces
  pub is : flow_collection n steps cut ≡ Some coll
  pub close : coll.close ≡ w.close
  pub none : is_none coll.items ≡ is_none w.items
  pub after : after_appended coll ≡ rest

-- an item or entry has its content at a place of a cut's text (7.4; own)
abbrev pub BeginsAtPlace : Cut → SlotPlace → EntryPieces → Type 0
BeginsAtPlace c p y = length (node_text (without_anchor y.node) y.rest) ≡ length (cut_text c) - p.start

-- it is in another cut, with this text after its content (7.4; own)
abbrev pub PartIsStill : (c cut : Cut) → ℕ → List Step → SlotPlace → List ℕ → Type 0
PartIsStill c cut n stem p rest =
    (left : List Step) (r : Step) (y : EntryPieces) → IsPartOf c n (stem ++ left) r y → y.rest ≡ drop p.end (cut_text c) → BeginsAtPlace c p y →
    IsPartOf cut n (stem ++ left) r (record y { rest = rest })

-- the collection that ends at a place is in another cut, with this text after its last item, if it was not empty or nothing was put there (7.4; own)
abbrev pub EndIsStill : (c cut : Cut) → ℕ → List Step → SlotView → List ℕ → Type 0
EndIsStill c cut n stem s rest =
    (left : List Step) (w : CollPieces) → flow_collection n (stem ++ left) c ≡ Some w → after_appended w ≡ drop s.place.end (cut_text c) →
    (is_none w.items ≡ true → s.new ≡ None) → EndsBefore w cut n (stem ++ left) rest

-- What is known in a cut of a place of another one, after which is this text: the part that has its content there, as long as nothing was put there, or
-- the collection that ends there, unless it was empty and something was put there (own).
pub record IsStill (c cut : Cut) (n : ℕ) (stem : List Step) (s : SlotView) (rest : List ℕ) : Type 0 where
  pub part : s.new ≡ None → s.place.more ≡ false → PartIsStill c cut n stem s.place rest
  pub ends : s.place.more ≡ true → EndIsStill c cut n stem s rest

-- the same of several places (own)
abbrev pub AreStill : (c cut : Cut) → ℕ → List Step → List SlotView → Type 0
AreStill c cut n stem [] = ⊤
AreStill c cut n stem (s ∷ ss) = IsStill c cut n stem s (text_from (cut_text c) s.place.end ss) × AreStill c cut n stem ss

-- the places at which something was put are between characters (own)
abbrev pub AreCharEdges : List ℕ → List SlotView → Type 0
AreCharEdges t [] = ⊤
AreCharEdges t (s ∷ ss) = ((w : List ℕ) → s.new ≡ Some w → IsCharBoundary t s.place.start × IsCharBoundary t s.place.end) × AreCharEdges t ss

-- Values were put at places of a head, and items and entries: the text reads, and the places are there as far as is known of them (own).
pub record IsOpenRun (c : Cut) (n : ℕ) (stem : List Step) (slots : List SlotView) : Type 0 where
  pub order : AreInOrder 0 (slot_places slots) (length (cut_text c))
  pub edges : AreCharEdges (cut_text c) slots
  pub cut : Cut
  pub read : read_at (text_from (cut_text c) 0 slots) ≡ Some cut
  pub leads : LeadsToHead cut n stem
  pub still : AreStill c cut n stem slots

-- the text that a run has made so far (own)
abbrev pub open_text : Cut → SlotRun → List ℕ
open_text c r = text_from (cut_text c) 0 (slots_of r.slots)

-- a run of the code is one (own)
pub record RunsOpen (x : HeadInText) (r : SlotRun) : Type 0 where
  pub run : IsOpenRun (cut_with x) x.doc (stem_of x) (slots_of r.slots)
  pub counts : HasCounts r.slots
  pub size : r.size ≡ length (open_text (cut_with x) r)

-- A text was put at a place of a run, after a lead (own).
pub record HasOpened (t : List ℕ) (place : SlotPlace) (lead written : List ℕ) (before after : SlotRun) : Type 0 where
  pub at : ℕ
  pub was : ℕ
  pub put : IsPutIn (slots_of before.slots) (slots_of after.slots) place lead written at was
  pub counts : HasCounts after.slots
  pub splices : after.splices.items ≡ before.splices.items ++ splice_at at (drop place.start (take place.end t)) (lead ++ written)
  pub size : after.size + was ≡ before.size + length (lead ++ written)
  pub small : after.size ≤ text_limit

-- The bytes of a place were put there again (own).
pub record HasKept (t : List ℕ) (place : SlotPlace) (before after : SlotRun) : Type 0 where
  pub at : ℕ
  pub was : ℕ
  pub put : IsPutIn (slots_of before.slots) (slots_of after.slots) place [] (drop place.start (take place.end t)) at was
  pub counts : HasCounts after.slots
  pub splices : after.splices.items ≡ before.splices.items
  pub size : after.size ≡ before.size

-- An operation is carried out on the text of a run, which goes on after it (own).
pub record OpensOn (op : Operation) (x : HeadInText) (before after : SlotRun) : Type 0 where
  pub new_bytes : List Splice
  pub comes : carried op (open_text (cut_with x) before) ≡ gives (open_text (cut_with x) after) new_bytes
  pub applied : IsApplied op (open_text (cut_with x) before) (open_text (cut_with x) after) new_bytes
  pub splices : after.splices.items ≡ before.splices.items ++ new_bytes
  pub run : RunsOpen x after

-- what was put at places after an offset may be written: they come in order, between characters (own)
abbrev pub MayWrite : List ℕ → ℕ → List SlotView → Type 0
MayWrite t at ss = AreCharEdges t ss × AreInOrder at (slot_places ss) (length t)

-- It was written after a text that ends at an offset, up to another offset: so the same bytes come, whatever comes after it (own).
pub record HasWritten (t : List ℕ) (ss : List SlotView) (out : List ℕ) (at : ℕ) (out2 : List ℕ) (at2 : ℕ) : Type 0 where
  pub edge : IsCharBoundary t at2
  pub reached : (after : List SlotView) → AreInOrder at (slot_places (ss ++ after)) (length t) → AreInOrder at2 (slot_places after) (length t)
  pub text : (after : List SlotView) → out2 ++ text_from t at2 after ≡ out ++ text_from t at (ss ++ after)

-- a run in which nothing was put (own)
pub record BeginsOpen (x : HeadInText) (r : SlotRun) : Type 0 where
  pub run : RunsOpen x r
  pub text : open_text (cut_with x) r ≡ x.cut.now
  pub none : r.splices.items ≡ []

-- the bytes of a text with all that was put at places (own)
abbrev pub IsWritten : Halves → Slots → String Global → Type 0
IsWritten t slots new = string_bytes new ≡ text_from (whole t) 0 (slots_of slots)

-- what an operation changes was put at its place, or stays there, if it is an equal scalar (own)
abbrev pub OpensSo : List ℕ → HeadChange → (before after : SlotRun) → Option (String Global) → Type 0
OpensSo t y before after None = HasKept t y.place before after
OpensSo t y before after (Some s) = HasOpened t y.place y.lead.now (string_bytes s) before after

-- the same of what the code has for it (own)
abbrev pub OpensAt : List ℕ → HeadChange → (before after : SlotRun) → Type 0
OpensAt t y before after = OpensSo t y before after y.written

-- lines of an entry were put at the end of a mapping, or what an operation changes in a row was put there (own)
abbrev pub OpensRowsBy : (more : Bool) → List ℕ → HeadChange → (before after : SlotRun) → Option (String Global) → Type 0
OpensRowsBy true t y before after None = ⊥
OpensRowsBy true t y before after (Some s) = HasOpened t y.place (string_bytes s) [] before after
OpensRowsBy false t y before after o = OpensSo t y before after o

-- the same of what the code has for it (own)
abbrev pub Lands : List ℕ → HeadChange → (before after : SlotRun) → Type 0
Lands t y before after = OpensRowsBy y.place.more t y before after y.written
