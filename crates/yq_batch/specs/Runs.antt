-- Values put one after the other in the flow collections of one head, which was read once, and items and entries put into these (YAML 1.2.2, 7.4; own).
use Rattle.std.specs.Prelude.{◌≡◌, ⊤, ℕ, ◌-◌, ◌<◌, ◌≤◌, Bool, true, false, List, [], ◌++◌, drop, take, length, map, Option, Some}
use Rattle.std.{specs.Prelude.{option_map, string_bytes}, specs.Str.IsCharBoundary}
use Rattle.yq_text.{specs.Limit.text_limit, specs.Script.splice_at, specs.Splice.Splice}
use Rattle.yq_core.{specs.Paths.Step, specs.Tree.Node, specs.Collections.CollPieces, specs.Entries.{EntryPieces, tree_step}}
use Rattle.yq_core.specs.Nodes.{node_text, without_anchor}
use Rattle.yq_flow_edits.{specs.FlowPlaces.PlacedEdit, specs.Valued.IsValueTree}
use Rattle.yq_row_table.specs.Rows.{Cut, cut_text}
use Rattle.yq_documents.specs.Reading.{cut_of, read_at}
use Rattle.yq_places.{specs.FlowNodes.flow_collection, specs.FlowViews.{LeadsToHead, ReportsHead}, specs.NodesAt.node_in}
use Rattle.yq_places.specs.Placements.{FlowPart, flow_placement, last_step}
use Rattle.yq_semantics.{specs.Operations.{Operation, append, replace}, specs.declared.refusal.Refusal.TheVariants.TooLarge}
use Rattle.yq_semantics.specs.Judgement.{ExprError}
use Rattle.yq_edit_rules.{specs.FlowParts.takes_key, specs.Operands.HasOperand}
use Rattle.yq_edit_laws.specs.PartPuts.{EndsAfter, EndsAsIn, IsEditPlace, IsPartOf, IsPlaceOf, IsWrittenPart, more_edit}
use Rattle.yq_edit_laws.{specs.Carried.carried, specs.Edit.gives, specs.Theorems.IsApplied}
use Rattle.yq_batch.{specs.HeadRows.HeadRowStays, specs.declared.change.HeadChange.HeadChange, specs.declared.head.HeadInText.HeadInText}
use Rattle.yq_batch.{specs.declared.head.FoundHead.FoundHead, specs.declared.run.PutRun.PutRun, specs.declared.slots.SlotPlace.SlotPlace}
use Rattle.yq_failure.specs.declared.failure.Failure.TheVariants as failure

-- a text whose first bytes were replaced by others (own)
abbrev pub text_with_run : List ℕ → (out : List ℕ) → (done : ℕ) → List ℕ
text_with_run t out done = out ++ drop done t

-- collections of the head to which steps lead end in another cut as they do in this one, if one more item would come in so many last bytes (own)
abbrev pub EndsStay : (c cut : Cut) (n : ℕ) → List Step → ℕ → Type 0
EndsStay c cut n stem kept = (left : List Step) (w : CollPieces) → flow_collection n (stem ++ left) c ≡ Some w → EndsAfter kept w → EndsAsIn w cut n (stem ++ left)

-- The first bytes of a cut's text were replaced by others, by values put at parts of the head to which steps lead, and items and entries put into its
-- collections: the text reads, the steps lead to a head in it, and the parts whose contents are in the bytes that stay are there as they were, in whichever
-- collections, and so are the ends of collections, and what comes after the head's row (own).
pub record IsPutRun (c : Cut) (n : ℕ) (stem : List Step) (out : List ℕ) (done : ℕ) : Type 0 where
  pub within : done ≤ length (cut_text c)
  pub edge : IsCharBoundary (cut_text c) done
  pub cut : Cut
  pub read : read_at (text_with_run (cut_text c) out done) ≡ Some cut
  pub leads : LeadsToHead cut n stem
  pub stays : (left : List Step) (s : Step) (y : EntryPieces) → IsPartOf c n (stem ++ left) s y → length y.rest < length (cut_text c) - done →
      length (node_text (without_anchor y.node) y.rest) ≤ length (cut_text c) - done → IsPartOf cut n (stem ++ left) s y
  pub ends : EndsStay c cut n stem (length (cut_text c) - done)
  pub row : HeadRowStays c cut n stem

-- a path ends in the collection to which steps lead on in the head to which others lead (own)
abbrev pub EndsAt : (stem left steps : List Step) → Type 0
EndsAt stem left steps = (s : Step) × (last_step steps ≡ Some (stem ++ left, s))

-- a path ends in a collection of the head to which steps lead (own)
abbrev pub EndsInCollection : (stem steps : List Step) → Type 0
EndsInCollection stem steps = (left : List Step) × EndsAt stem left steps

-- the text that a run has made so far (own)
abbrev pub now_text : Cut → PutRun → List ℕ
now_text c r = text_with_run (cut_text c) (string_bytes r.text) r.done

-- the cut of the text in which a head is (own)
abbrev pub cut_with : HeadInText → Cut
cut_with x = cut_of x.cut.now

-- the steps that lead to a head (own)
abbrev pub stem_of : HeadInText → List Step
stem_of x = map tree_step x.stem.now

-- A head is in a text that was read, and the steps lead to it (own).
pub record IsInText (x : HeadInText) : Type 0 where
  pub read : read_at x.cut.now ≡ Some (cut_with x)
  pub reports : ReportsHead x.cut.now (cut_with x) x.doc (stem_of x) x.head

-- a head that the code found is in a text, and the steps lead to it (own)
abbrev pub IsFoundHead : List ℕ → FoundHead → Type 0
IsFoundHead t x = ReportsHead t (cut_of t) x.doc (map tree_step x.stem.now) x.head

-- a run of the code is one (own)
abbrev pub Runs : HeadInText → PutRun → Type 0
Runs x r = IsPutRun (cut_with x) x.doc (stem_of x) (string_bytes r.text) r.done

-- the place of a change, with what leads to what is written there (own)
abbrev pub change_place : HeadChange → PlacedEdit
change_place y = record { start = y.place.start; end = y.place.end; lead = y.lead.now }

-- An operation puts a value at a part of a head in a text that was read (own).
pub record PutsAt (op : Operation) (x : HeadInText) (y : HeadChange) : Type 0 where
  pub path : List Step
  pub value : Node
  pub operation : op ≡ replace x.doc path value
  pub valid : IsValueTree value
  pub ends : EndsInCollection (stem_of x) path
  pub part : FlowPart
  pub placement : flow_placement x.doc (cut_with x) (last_step path) ≡ Some part
  pub placed : IsPlaceOf (cut_text (cut_with x)) value part (change_place y)
  pub written : IsWrittenPart (node_in x.doc path (cut_with x)) value part y.written

-- An operation puts an item or entry into a collection of a head in a text that was read (own).
pub record AddsAt (op : Operation) (x : HeadInText) (y : HeadChange) : Type 0 where
  pub left : List Step
  pub key : Option (List ℕ)
  pub value : Node
  pub operation : op ≡ append x.doc (stem_of x ++ left) key value
  pub left_is : left ≡ map tree_step y.steps.now
  pub valid : HasOperand (append x.doc (stem_of x ++ left) key value)
  pub collection : CollPieces
  pub found : flow_collection x.doc (stem_of x ++ left) (cut_with x) ≡ Some collection
  pub takes : takes_key collection.close key ≡ true
  pub placed : IsEditPlace (cut_text (cut_with x)) (more_edit key value collection) (change_place y)
  pub written : option_map string_bytes y.written ≡ Some (more_edit key value collection).written

-- an operation changes a collection of a head: it puts an item or entry more into it, or else a value (own)
abbrev pub ChangesBy : (more : Bool) → Operation → HeadInText → HeadChange → Type 0
ChangesBy true op x y = AddsAt op x y
ChangesBy false op x y = PutsAt op x y

-- the same by what the code has of it (own)
abbrev pub ChangesAt : Operation → HeadInText → HeadChange → Type 0
ChangesAt op x y = ChangesBy y.place.more op x y

-- a place is after what a run has replaced, if a content ends there, or something leads to an item or entry more (own)
abbrev pub IsAfterBy : (more : Bool) → (done start end : ℕ) → (lead : List ℕ) → Type 0
IsAfterBy true done start end lead = lead ≡ [] → done < start
IsAfterBy false done start end lead = done < end

-- the same of a run of the code (own)
abbrev pub IsAfterRun : PutRun → SlotPlace → (lead : List ℕ) → Type 0
IsAfterRun r place lead = (r.done ≤ place.start) × IsAfterBy place.more r.done place.start place.end lead

-- what a run has written, with what stays up to a place (own)
abbrev pub run_front : List ℕ → PutRun → ℕ → List ℕ
run_front t r start = string_bytes r.text ++ drop r.done (take start t)

-- A text has come in the place of what is between two places, and the whole is no larger than a text may be (own).
pub record HasPut (t : List ℕ) (start end : ℕ) (new : List ℕ) (before after : PutRun) : Type 0 where
  pub text : string_bytes after.text ≡ run_front t before start ++ new
  pub done : after.done ≡ end
  pub splices : after.splices.items ≡ before.splices.items ++ splice_at (length (run_front t before start)) (drop start (take end t)) new
  pub size : length (text_with_run t (run_front t before start ++ new) end) ≤ text_limit

-- why it has not: the whole would be too large, or memory ran out (own)
abbrev pub PutFails : ExprError → List ℕ → (start end : ℕ) → List ℕ → PutRun → Type 0
PutFails (failure.Fault why) t start end new r = (why ≡ TooLarge) × (text_limit < length (text_with_run t (run_front t r start ++ new) end))
PutFails failure.Memory t start end new r = ⊤

-- An operation is carried out on the text of a run, which goes on after it (own).
pub record RunsOn (op : Operation) (x : HeadInText) (before after : PutRun) : Type 0 where
  pub new_bytes : List Splice
  pub comes : carried op (now_text (cut_with x) before) ≡ gives (now_text (cut_with x) after) new_bytes
  pub applied : IsApplied op (now_text (cut_with x) before) (now_text (cut_with x) after) new_bytes
  pub splices : after.splices.items ≡ before.splices.items ++ new_bytes
  pub run : Runs x after
