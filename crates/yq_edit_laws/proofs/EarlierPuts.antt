-- What comes before a content that is replaced, or before one more item or entry, in the head of a row: it is there after that, before another text.
use Rattle.std.proofs.Common.{◌≡◌, ℕ, ◌≤◌, ◌<◌, Bool, true, cond, List, [], ◌∷◌, ◌++◌, length, Option, Some, sym, ap, subst, arith}
use Rattle.std.proofs.Common.{length-append}
use Rattle.yq_core.{specs.Paths.{Step, append_child, change_child, changed_at, within}, specs.Tree.key_label, specs.Entries.EntryPieces}
use Rattle.yq_core.{specs.Collections.CollPieces, specs.Nodes.{Items, flow_items_text, node_text, without_anchor}}
use Rattle.yq_core.{specs.NodesWritten.{flow_key, flow_of}, proofs.NodeAgain.node_longer, proofs.NodesWrittenLaws.node_then}
use Rattle.yq_flow_edits.{specs.FlowEdits.{FlowEdit, after_appended, put_item}, specs.Valued.IsValueTree, proofs.ItemLaws.some_items}
use Rattle.yq_row_table.specs.Rows.{Cut, cut_text}
use Rattle.yq_documents.{specs.TreeEdits.replaced_node, specs.Reading.{documents, read_at}}
use Rattle.yq_places.{specs.FlowNodes.flow_collection, specs.FlowViews.LeadsToHead}
use Rattle.yq_semantics.{specs.Fits.Fits, specs.Operations.{append, replace}, specs.Rooms.room_of}
use Rattle.yq_edit_rules.{specs.FlowParts.takes_key, specs.Operands.KeyIsUtf8}
use Rattle.yq_edit_laws.{specs.PartPuts.{IsCollBefore, IsPartBefore, IsPartOf}, proofs.FlowPlacements.EntryAt}
use Rattle.yq_edit_laws.proofs.EarlierParts.{PartsBefore, Turns, coll_turn, end_earlier, more_before, part_earlier, put_before, turn_tail}
use Rattle.yq_edit_laws.{proofs.LaterCuts.{coll_turned, part_turned, slot}, proofs.LaterEnds.{coll_end, item_end, items_end, last_longer}}
use Rattle.yq_edit_laws.proofs.LaterParts.{content_within, node_in_items}
use Rattle.yq_core.specs.Tree as tree
use Rattle.yq_edit_laws.proofs.FlowAppendLaws as more
use Rattle.yq_edit_laws.proofs.FlowPutLaws as put

-- before a content that is another one
module _ (c : Cut) (doc : ℕ) (path : List Step) (v : tree.Node) (read : read_at (cut_text c) ≡ Some c) (a : EntryAt c doc path) (stem left : List Step) (init : a.init ≡ stem ++ left) (h : LeadsToHead c doc stem)
    (value : IsValueTree v) (fits : Fits (room_of (cut_text c)) (replace doc path v) (documents c)) where
  abbrev e : FlowEdit
  e = put.e c doc path v read a

  abbrev gone : List ℕ
  gone = e.old ++ e.after

  abbrev made : List ℕ
  made = (e.lead ++ e.written) ++ e.after

  abbrev w : CollPieces
  w = a.coll

  abbrev items : Items
  items = put_item a.step (put.m c doc path v read a) w.items

  abbrev text : List ℕ
  text = flow_items_text w.close w.items w.rest

  abbrev own : EntryPieces
  own = slot c doc a.init w (put.at c doc path v read a) w.gap items stem left init h

  abbrev at_rest : List Step
  at_rest = (put.at c doc path v read a).rest

  size : length gone ≡ length (node_text (without_anchor a.item.node) a.item.rest)
  size = ap length (sym (node_then (without_anchor a.item.node) a.item.rest))

  within_items : length gone ≤ length text
  within_items = omega (arith, size, content_within a.item.node a.item.rest, node_in_items w.close a.step w.items w.rest a.item a.at)

  ends : length (after_appended w) ≤ length gone
  ends = omega (arith, size, item_end w.close w.gap a.step w.items w.rest a.item a.at, node_longer (without_anchor a.item.node) a.item.rest)

  short : length w.rest < length gone
  short = omega (arith, ends, last_longer w.close w.gap w.items w.rest)

  turns : Turns (w.gap ++ text) (w.gap ++ flow_items_text w.close items w.rest) gone made
  turns =
      coll_turn (put.x c doc path v read a) e (changed_at at_rest (within (change_child a.step (replaced_node v)))) (put.is_located c doc path v read a) (put.edited c doc path v read a value fits)
      (omega (arith, within_items, length-append w.gap text))

  before : PartsBefore gone made w items
  before r u there long =
      put_before w.close a.step r (put.m c doc path v read a) w.items w.rest a.item u gone made a.at there (turn_tail w.gap text (flow_items_text w.close items w.rest) gone made turns within_items) size long

  pub part_before_put : (ss : List Step) (r : Step) (z : EntryPieces) → IsPartOf c doc (stem ++ ss) r z → length gone ≤ length z.rest → length gone < length (node_text (without_anchor z.node) z.rest) →
      IsPartBefore (put.next c doc path v read a stem left init h) doc (stem ++ ss) r z gone made
  part_before_put ss r z part after long =
      part_turned c doc a.init w (put.at c doc path v read a) w.gap items stem left init h ss r z gone made part
      (λ there. part_earlier w w.gap items gone made short turns before at_rest (ss ++ (r ∷ [])) own z (put.at c doc path v read a).at.along there after long)

  pub coll_before_put : (ss : List Step) (z : CollPieces) → flow_collection doc (stem ++ ss) c ≡ Some z → length gone < length (after_appended z) → IsCollBefore (put.next c doc path v read a stem left init h) doc (stem ++ ss) z gone made
  coll_before_put ss z found long =
      coll_turned c doc a.init w (put.at c doc path v read a) w.gap items stem left init h ss z gone made found
      (λ there. end_earlier w w.gap items gone made short turns before at_rest ss own z (put.at c doc path v read a).at.along there ends long)

-- before one more item or entry
module _ (c : Cut) (doc : ℕ) (steps : List Step) (key : Option (List ℕ)) (v : tree.Node) (w : CollPieces) (read : read_at (cut_text c) ≡ Some c)
    (found : flow_collection doc steps c ≡ Some w) (stem left : List Step) (init : steps ≡ stem ++ left) (h : LeadsToHead c doc stem)
    (utf8 : KeyIsUtf8 key) (value : IsValueTree v) (takes : takes_key w.close key ≡ true) (fits : Fits (room_of (cut_text c)) (append doc steps key v) (documents c)) where
  abbrev more_edit : FlowEdit
  more_edit = more.e c doc steps key v w read found

  abbrev here : List ℕ
  here = after_appended w

  abbrev made_more : List ℕ
  made_more = (more_edit.lead ++ more_edit.written) ++ here

  abbrev items_text : List ℕ
  items_text = flow_items_text w.close w.items w.rest

  abbrev more_slot : EntryPieces
  more_slot = slot c doc steps w (more.at c doc steps key v w read found) more_edit.gap more_edit.items stem left init h

  abbrev more_rest : List Step
  more_rest = (more.at c doc steps key v w read found).rest

  more_turns : Turns (w.gap ++ items_text) (more_edit.gap ++ flow_items_text w.close more_edit.items w.rest) here made_more
  more_turns =
      coll_turn (more.x c doc steps key v w read found) more_edit (changed_at more_rest (within (append_child (key_label key) v)))
      (more.is_located c doc steps key v w read found) (more.append_done c doc steps key v w read found utf8 value takes fits).edited
      (coll_end w.close w.gap w.items w.rest)

  more_items_before : PartsBefore here made_more w more_edit.items
  more_items_before r u there long =
      let some = some_items w.close r w.items w.rest u there in
      let kept : more_edit.gap ≡ w.gap = ap (λ (b : Bool). cond b [] w.gap) some in
      more_before w.close r (flow_key key) (flow_of v) w.gap w.items w.rest u here made_more there
      (turn_tail w.gap items_text (flow_items_text w.close more_edit.items w.rest) here made_more
      (subst (λ (g : List ℕ). Turns (w.gap ++ items_text) (g ++ flow_items_text w.close more_edit.items w.rest) here made_more) kept more_turns)
      (items_end w.close w.gap w.items w.rest some))
      (omega arith)

  pub part_before_more : (ss : List Step) (r : Step) (z : EntryPieces) → IsPartOf c doc (stem ++ ss) r z → length here ≤ length z.rest → length here < length (node_text (without_anchor z.node) z.rest) →
      IsPartBefore (more.next c doc steps key v w read found stem left init h) doc (stem ++ ss) r z here made_more
  part_before_more ss r z part after long =
      part_turned c doc steps w (more.at c doc steps key v w read found) more_edit.gap more_edit.items stem left init h ss r z here made_more part
      (λ there. part_earlier w more_edit.gap more_edit.items here made_more (last_longer w.close w.gap w.items w.rest) more_turns more_items_before
      more_rest (ss ++ (r ∷ [])) more_slot z (more.at c doc steps key v w read found).at.along there after long)

  pub coll_before_more : (ss : List Step) (z : CollPieces) → flow_collection doc (stem ++ ss) c ≡ Some z → length here < length (after_appended z) →
      IsCollBefore (more.next c doc steps key v w read found stem left init h) doc (stem ++ ss) z here made_more
  coll_before_more ss z there long =
      coll_turned c doc steps w (more.at c doc steps key v w read found) more_edit.gap more_edit.items stem left init h ss z here made_more there
      (λ there. end_earlier w more_edit.gap more_edit.items here made_more (last_longer w.close w.gap w.items w.rest) more_turns more_items_before
      more_rest ss more_slot z (more.at c doc steps key v w read found).at.along there (omega arith) long)
