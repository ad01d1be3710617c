-- Items and entries taken out, one before the other, of the flow collections of one head, which was read once (YAML 1.2.2, 7.4; own).
use Rattle.std.specs.Prelude.{◌≡◌, ⊤, ◌⊎◌, ℕ, ◌+◌, ◌<◌, ◌≤◌, Bool, true, List, [], ◌∷◌, ◌++◌, drop, take, length, map, Option, Some, None}
use Rattle.yq_text.{specs.Limit.text_limit, specs.Script.splice_at, specs.Splice.Splice, specs.TextGapBuffer.buffer_text}
use Rattle.yq_core.{specs.Paths.Step, specs.Collections.CollPieces, specs.Entries.{end_of, parts_of, tree_step}}
use Rattle.yq_core.{specs.PlainText.begins_marker, specs.Nodes.{flow_items_text, key_text, node_text}}
use Rattle.yq_core.{specs.Places.{CoreNode, Placed, mapping, name, nothing, placed, sequence, text}, specs.View.inline_view}
use Rattle.yq_core.specs.declared.inline.Inline.{Inline}
use Rattle.yq_row_table.specs.Rows.{Cut, cut_text}
use Rattle.yq_documents.specs.Reading.{read_at}
use Rattle.yq_places.{specs.FlowNodes.flow_collection, specs.FlowViews.{LeadsToHead, following_anchor, collection_view}}
use Rattle.yq_places.{specs.Placements.last_step, specs.declared.places.flow_node.FlowHead.FlowHead}
use Rattle.yq_semantics.{specs.Operations.{Operation, operations_of}, specs.declared.op.Op.Op}
use Rattle.yq_semantics.{specs.declared.refusal.Refusal.TheVariants.TooLarge, specs.Judgement.ExprError}
use Rattle.yq_edit_laws.{specs.Carried.{carried, carry_all}, specs.Edit.{Edit, edit_after, gives}, specs.Valid.AreServed}
use Rattle.yq_edit_laws.{specs.Theorems.IsApplied, specs.NearParts.{LeadsToPart, head_with}}
use Rattle.yq_batch.{specs.HeadRows.{CollectionsStay, HeadRowKeeps}, specs.Runs.{cut_with, stem_of}}
use Rattle.yq_batch.specs.LeftItems.{Ending, closing, count_parts, others, left_items, upto_text}
use Rattle.yq_batch.{specs.declared.removals.RemovalRun.RemovalRun, specs.LeftPlaces.IsLeftPlace, specs.declared.left.LeftPlace.LeftPlace}
use Rattle.yq_batch.{specs.declared.gone.LeftOf.LeftOf, specs.declared.gone.Removed.Removed, specs.declared.head.HeadInText.HeadInText}
use denote.Bor.{Bor}
use Rattle.yq_core.specs.declared.path.Step as declared
use Rattle.yq_failure.specs.declared.failure.Failure.TheVariants as failure

-- ---- runs

-- The last bytes of a cut's text were replaced, since items and entries were taken out of the collections of the head to which steps lead.
-- The text reads, and the steps lead to a head in it. Each collection that ends in the bytes that stay is still there, and so are the heads
-- in front of it (own).
pub record IsRemovalRun (c : Cut) (n : ℕ) (stem : List Step) (keep : ℕ) (tail : List ℕ) : Type 0 where
  pub within : keep ≤ length (cut_text c)
  pub cut : Cut
  pub read : read_at (take keep (cut_text c) ++ tail) ≡ Some cut
  pub leads : LeadsToHead cut n stem
  pub stays : CollectionsStay c cut n stem keep tail
  pub row : HeadRowKeeps c cut n stem keep tail

-- others are left after the first items, and perhaps begin with a document marker, or none (own)
abbrev pub AreAfter : Option Bool → Ending → Type 0
AreAfter None (closing s) = ⊤
AreAfter None (others key n s is) = ⊥
AreAfter (Some marked) (closing s) = ⊥
AreAfter (Some marked) (others key n s is) = begins_marker (key_text key (node_text n [])) ≡ true → marked ≡ true

-- a collection with the first items of another one, an ending after them, and what follows it (own)
abbrev pub left_coll : CollPieces → ℕ → Ending → List ℕ → CollPieces
left_coll w count e rest = record { close = w.close; gap = w.gap; items = left_items count w.items e; rest = rest }

-- So many of the first items of a collection are left in another cut, before an ending, in the place where they were, in bytes that stay, and so many bytes
-- come after the collection (own).
pub record AreFirstLeft (w : CollPieces) (c cut : Cut) (n : ℕ) (steps : List Step) (keep count : ℕ) (after : Option Bool) (following : ℕ) : Type 0 where
  pub ending : Ending
  pub ends : AreAfter after ending
  pub rest : List ℕ
  pub following_is : following ≡ length rest
  pub left : flow_collection n steps cut ≡ Some (left_coll w count ending rest)
  pub opening : List ℕ
  pub was : cut_text c ≡ opening ++ flow_items_text w.close w.items w.rest
  pub is : cut_text cut ≡ opening ++ flow_items_text w.close (left_items count w.items ending) rest
  pub kept : (i : ℕ) → i < count → length opening + length (upto_text i w.items) ≤ keep

-- the same of the collection to which steps lead (own)
abbrev pub IsLeftOf : (c cut : Cut) → ℕ → List Step → (keep count : ℕ) → Option Bool → (following : ℕ) → Type 0
IsLeftOf c cut n steps keep count after following =
    (w : CollPieces) × (flow_collection n steps c ≡ Some w) × AreFirstLeft w c cut n steps keep count after following

-- what is known of the collection from which a run took the last one out, if it took any (own)
abbrev pub IsKnownLeft : (c cut : Cut) → ℕ → List Step → ℕ → Option LeftOf → Type 0
IsKnownLeft c cut n stem keep None = ⊤
IsKnownLeft c cut n stem keep (Some k) = IsLeftOf c cut n (stem ++ map tree_step k.steps.now) keep k.count k.after k.following

-- A run of the code is one, of which this is known (own).
pub record RemovesSo (c : Cut) (n : ℕ) (stem : List Step) (known : Option LeftOf) (r : RemovalRun) : Type 0 where
  pub tail : List ℕ
  pub text : buffer_text r.text ≡ take r.keep (cut_text c) ++ tail
  pub run : IsRemovalRun c n stem r.keep tail
  pub known_is : IsKnownLeft c run.cut n stem r.keep known

-- what is left of a collection that ends at a place, in a text of that size: what is known of the last one, or all of one that ends before
-- what was taken out (own)
abbrev pub IsLeftIn : List Step → Option LeftOf → (end keep size all : ℕ) → LeftOf → Type 0
IsLeftIn steps known end keep size all k =
    ((known ≡ Some k) × (map tree_step k.steps.now ≡ steps)) ⊎ ((end ≤ keep) × (k.count ≡ all) × (k.after ≡ None) × (k.following + end ≡ size))

-- the same of a node of the code after so many bytes, in the text of a run (own)
abbrev pub HasLeft : List declared.Step → Option LeftOf → ℕ → Inline → RemovalRun → LeftOf → Type 0
HasLeft steps known before m r =
    IsLeftIn (map tree_step steps) known (before + end_of (inline_view m)) r.keep (length (buffer_text r.text)) (count_parts (parts_of (inline_view m)))

-- where the content of a node begins (own)
abbrev pub content_of : Placed → ℕ
content_of (placed a s c e f) = c

-- the text of an empty collection of the kind of a content (7.4)
abbrev pub empty_content : CoreNode → Option (List ℕ)
empty_content nothing = None
empty_content (name n) = None
empty_content (text s piece) = None
empty_content (sequence parts) = Some (91 ∷ (93 ∷ []))
empty_content (mapping parts) = Some (123 ∷ (125 ∷ []))

-- the same of a node (7.4)
abbrev pub empty_text : Placed → Option (List ℕ)
empty_text (placed a s c e f) = empty_content f

-- An item or entry of a collection of a head goes, with what goes with it, and the ones before it are left (own).
pub record PartGoes (steps : List Step) (x : FlowHead) (node : Placed) (left : LeftOf) (z : Removed) : Type 0 where
  pub above : List Step
  pub step : Step
  pub last : Some (above, step) ≡ last_step steps
  pub index : ℕ
  pub place : LeftPlace
  pub leads : LeadsToPart step index (parts_of node)
  pub goes : IsLeftPlace x.text.now (parts_of node) index left.count left.after place
  pub start : z.start ≡ x.before + place.start
  pub finish : z.end ≡ x.before + place.end
  pub new : z.new.now ≡ []
  pub known : LeftOf
  pub known_is : z.known ≡ Some known
  pub steps_are : map tree_step known.steps.now ≡ map tree_step x.left.now
  pub count : known.count ≡ index
  pub after : known.after ≡ place.after
  pub following : known.following ≡ left.following

-- Of a collection one item or entry is left, and an empty one comes in the place of that (own).
pub record EmptyComes (before : ℕ) (node : Placed) (left : LeftOf) (r : RemovalRun) (z : Removed) : Type 0 where
  pub sole : left.count ≡ 1
  pub alone : left.after ≡ None
  pub start : z.start ≡ before + content_of node
  pub finish : z.end + left.following ≡ length (buffer_text r.text)
  pub new : empty_text node ≡ Some z.new.now
  pub known : z.known ≡ None

-- the same of a node of the code in a head (own)
abbrev pub IsEmptied : HeadInText → Inline → LeftOf → RemovalRun → Removed → Type 0
IsEmptied x m left r = EmptyComes x.head.before (inline_view m) left r

-- The only one that is left of a collection in another one goes, and an empty one comes in the place of that (own).
pub record SoleGoes (x : FlowHead) (node : Placed) (left : LeftOf) (r : RemovalRun) (z : Removed) : Type 0 where
  pub own : List Step × Step
  pub inner : Some own ≡ last_step (map tree_step x.left.now)
  pub empty : EmptyComes x.before node left r z

-- the same of a node of the code in a head (own)
abbrev pub SoleGone : HeadInText → Bor (List declared.Step) → Inline → LeftOf → RemovalRun → Removed → Type 0
SoleGone x steps m left r = SoleGoes (head_with x.head steps) (inline_view m) left r

-- The only one that is left of a head's own collection goes, and an empty one comes in the place of that (own).
pub record OwnEmptied (x : FlowHead) (known : Option LeftOf) (r : RemovalRun) (z : Removed) : Type 0 where
  pub node : Placed
  pub there : Some (following_anchor node) ≡ collection_view x
  pub left : LeftOf
  pub first : IsLeftIn (map tree_step x.left.now) known (x.before + end_of node) r.keep (length (buffer_text r.text)) (count_parts (parts_of node)) left
  pub own : x.left.now ≡ []
  pub empty : EmptyComes x.before node left r z

-- the same of a head of the code, in which steps lead on (own)
abbrev pub OwnGoes : HeadInText → Bor (List declared.Step) → Option LeftOf → RemovalRun → Removed → Type 0
OwnGoes x steps known r = OwnEmptied (head_with x.head steps) known r

-- What an operation exchanges in the text of a run, whose path ends in a collection of a head, and what is left of that then (own).
pub record GoesInHead (steps : List Step) (x : FlowHead) (known : Option LeftOf) (r : RemovalRun) (z : Removed) : Type 0 where
  pub node : Placed
  pub there : Some (following_anchor node) ≡ collection_view x
  pub left : LeftOf
  pub first : IsLeftIn (map tree_step x.left.now) known (x.before + end_of node) r.keep (length (buffer_text r.text)) (count_parts (parts_of node)) left
  pub goes : PartGoes steps x node left z ⊎ SoleGoes x node left r z

-- ---- what is taken out

-- the text with another one in the place of what is between two places (own)
abbrev pub text_exchanged : List ℕ → (start end : ℕ) → List ℕ → List ℕ
text_exchanged t start end new = take start t ++ (new ++ drop end t)

-- A text has come in the place of what is between two places, and the whole is no larger than a text may be (own).
pub record HasExchanged (start end : ℕ) (new : List ℕ) (before after : RemovalRun) : Type 0 where
  pub text : buffer_text after.text ≡ text_exchanged (buffer_text before.text) start end new
  pub keep : after.keep ≡ start
  pub splices : after.splices.items ≡ before.splices.items ++ splice_at start (drop start (take end (buffer_text before.text))) new
  pub size : length (text_exchanged (buffer_text before.text) start end new) ≤ text_limit

-- why it has not: the whole would be too large, or memory ran out (own)
abbrev pub ExchangeFails : ExprError → (start end : ℕ) → List ℕ → RemovalRun → Type 0
ExchangeFails (failure.Fault why) start end new r = (why ≡ TooLarge) × (text_limit < length (text_exchanged (buffer_text r.text) start end new))
ExchangeFails failure.Memory start end new r = ⊤

-- An operation is carried out on the text of a run, which goes on after it (own).
pub record RemovesOn (op : Operation) (c : Cut) (n : ℕ) (stem : List Step) (before : RemovalRun) (known : Option LeftOf) (after : RemovalRun) : Type 0 where
  pub new_bytes : List Splice
  pub comes : carried op (buffer_text before.text) ≡ gives (buffer_text after.text) new_bytes
  pub applied : IsApplied op (buffer_text before.text) (buffer_text after.text) new_bytes
  pub splices : after.splices.items ≡ before.splices.items ++ new_bytes
  pub run : RemovesSo c n stem known after

-- what operations give on the text of a run, after its splices (own)
abbrev pub all_left : List Op → RemovalRun → Edit
all_left ops r = edit_after r.splices.items (carry_all (operations_of ops) (buffer_text r.text))

-- The first ones of operations on the text of a run were carried out, and the others may follow: all give what they gave (own).
pub record HasRemoved (ops : List Op) (before : RemovalRun) (left : List Op) (after : RemovalRun) : Type 0 where
  pub whole : all_left left after ≡ all_left ops before
  pub serves : AreServed (operations_of left) (buffer_text after.text)

-- the run then goes on in the head (own)
abbrev pub RemovesInHead : List Op → HeadInText → (before after : RemovalRun) → Bor (List Op) × Option LeftOf → Type 0
RemovesInHead ops x before after y = HasRemoved ops before y.0.now after × RemovesSo (cut_with x) x.doc (stem_of x) y.1 after
