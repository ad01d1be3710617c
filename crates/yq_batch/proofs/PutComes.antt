-- What it comes to that a value is put at a part of a flow collection.
use Rattle.std.proofs.Common.{◌≡◌, ℕ, ◌+◌, ◌≤◌, ◌<◌, Bool, true, false, cond, leb, List, [], ◌∷◌, ◌++◌, length, Option, Some, None}
use Rattle.std.{proofs.Common.{option_map, sym, ap, ◌∙◌, append-nil, append_assoc, arith}, proofs.lemmas.Bool.{le-leb, lt-leb}}
use Rattle.std.specs.Option.{option_or}
use Rattle.yq_core.{specs.Answers.◌>>=◌, specs.Paths.Step, specs.Tree.Node, specs.Collections.CollPieces, specs.Entries.EntryPieces}
use Rattle.yq_core.specs.Trees.{tree_of}
use Rattle.yq_text.{specs.Limit.text_limit, specs.Script.{Segment, changes, keep, new_text, put, splice_at}, proofs.ScriptLaws.kept_changes}
use Rattle.yq_flow_edits.specs.FlowEdits.{FlowEdit}
use Rattle.yq_row_table.specs.Rows.{Cut, cut_text}
use Rattle.yq_documents.specs.Reading.{read_at}
use Rattle.yq_places.{specs.NodesAt.node_in, specs.Placements.{FlowPart, Placement, flow_part, flow_placement, last_step, placement_at}}
use Rattle.yq_places.specs.FlowNodes.{flow_collection}
use Rattle.yq_semantics.{specs.Operations.{replace, append}, specs.declared.refusal.Refusal.TheVariants.TooLarge}
use Rattle.yq_edit_rules.{specs.Edits.{op_edits, or_stay}, specs.FlowParts.{flow_put, flow_segments, flow_more, takes_key}}
use Rattle.yq_edit_rules.{specs.Layouts.layout_of, specs.ReplaceEdits.{has_text, value_put}, specs.Replacing.keeps_scalar}
use Rattle.yq_edit_laws.{specs.PartPuts.{put_edit, more_edit}, proofs.CutLaws.{cut_read, text_read}, proofs.FlowEditLaws.before_is}
use Rattle.yq_edit_laws.{proofs.FlowPartNodes.{none_there, part_node}, proofs.FlowPlacements.EntryAt, specs.Carried.{carried, carry_one}}
use Rattle.yq_edit_laws.{specs.Edit.{by_reading, exchange_edit, edit_of_segments, gives, refuses}, proofs.HeadPlacements.no_rows_more}
use Rattle.yq_text.specs.Exchanging as exchange

-- ---- the splices

from_start : (n : ℕ) → 0 + n ≡ n
from_start n = omega arith

-- an exchange with what leads and what is written after it
put_splices : (b o l w r : List ℕ) → changes (keep b ∷ (put o l ∷ (put [] w ∷ (keep r ∷ [])))) ≡ splice_at (length b) o (l ++ w)
unfolding changes
put_splices [] o l w [] = append-nil _ ∙ ap (λ (x : List ℕ). splice_at 0 x (l ++ w)) (append-nil o)
put_splices [] o l w (y ∷ r) = append-nil _ ∙ ap (λ (x : List ℕ). splice_at 0 x (l ++ w)) (append-nil o)
put_splices (x ∷ b) o l w [] = append-nil _ ∙ λ i. splice_at (from_start (length (x ∷ b)) i) (append-nil o i) (l ++ w)
put_splices (x ∷ b) o l w (y ∷ r) = append-nil _ ∙ λ i. splice_at (from_start (length (x ∷ b)) i) (append-nil o i) (l ++ w)

-- ---- the segments

abbrev pub made_text : List ℕ → FlowEdit → List ℕ
made_text front e = (front ++ (e.lead ++ e.written)) ++ e.after

-- where the text in front of them is known
module _ (t front : List ℕ) (e : FlowEdit) (is : t ≡ front ++ (e.old ++ e.after)) where
  pub new_is : new_text (flow_segments t e) ≡ made_text front e
  new_is =
      (λ i. before_is t front (e.old ++ e.after) is i ++ (e.lead ++ (e.written ++ append-nil e.after i)))
      ∙ (ap (λ (l : List ℕ). front ++ l) (sym (append_assoc e.lead e.written e.after)) ∙ sym (append_assoc front (e.lead ++ e.written) e.after))

  splices_are : changes (flow_segments t e) ≡ splice_at (length front) e.old (e.lead ++ e.written)
  splices_are =
      put_splices _ e.old e.lead e.written e.after ∙ ap (λ (l : List ℕ). splice_at (length l) e.old (e.lead ++ e.written)) (before_is t front (e.old ++ e.after) is)

  pub segments_come : length (made_text front e) ≤ text_limit → edit_of_segments (flow_segments t e) ≡ gives (made_text front e) (splice_at (length front) e.old (e.lead ++ e.written))
  segments_come size =
      (λ i. exchange_edit (cond (leb (length (new_is i)) text_limit) (exchange.gives (new_is i) (splices_are i)) exchange.too_large))
      ∙ ap (λ (b : Bool). exchange_edit (cond b (exchange.gives (made_text front e) (splice_at (length front) e.old (e.lead ++ e.written))) exchange.too_large)) (le-leb (length (made_text front e)) text_limit size)

  pub segments_large : text_limit < length (made_text front e) → edit_of_segments (flow_segments t e) ≡ refuses TooLarge
  segments_large size =
      (λ i. exchange_edit (cond (leb (length (new_is i)) text_limit) (exchange.gives (new_is i) (splices_are i)) exchange.too_large))
      ∙ ap (λ (b : Bool). exchange_edit (cond b (exchange.gives (made_text front e) (splice_at (length front) e.old (e.lead ++ e.written))) exchange.too_large)) (lt-leb (length (made_text front e)) text_limit size)

-- ---- the operation

module _ (d : Cut) (n : ℕ) (path : List Step) (v : Node) (read : read_at (cut_text d) ≡ Some d) (a : EntryAt d n path) where
  -- the part
  abbrev pub part : FlowPart
  part = record { step = a.step; collection = a.coll; part = a.item }

  abbrev t : List ℕ
  t = cut_text d

  there : flow_placement n d (last_step path) ≡ Some part
  there =
      ap (flow_placement n d) a.last
      ∙ (ap (λ (o : Option CollPieces). o >>= flow_part a.step) a.found ∙ ap (option_map (λ (y : EntryPieces). record { step = a.step; collection = a.coll; part = y })) a.at)

  no_block : option_map (value_put (has_text (node_in n path d)) (layout_of n d) v) (placement_at n path d) ≡ None
  no_block = ap (λ (o : Option Placement). option_map (value_put (has_text (node_in n path d)) (layout_of n d) v) o) (none_there d n path a)

  by_kept : (b : Bool) → keeps_scalar (Some (tree_of a.item.node)) v ≡ b → op_edits (replace n path v) d ≡ cond b (Some (keep t ∷ [])) (Some (flow_put t v part))
  by_kept b kept =
      (λ i. cond ((ap (λ (o : Option Node). keeps_scalar o v) (part_node d n path a read) ∙ kept) i) (Some (keep t ∷ [])) (option_or (no_block i) (option_map (flow_put t v) (there i))))

  comes : (ss : List Segment) → op_edits (replace n path v) d ≡ Some ss → carried (replace n path v) t ≡ edit_of_segments ss
  comes ss is = ap (by_reading (carry_one (replace n path v))) read ∙ ap (λ (o : Option (List Segment)). edit_of_segments (or_stay d o)) is

  -- an equal scalar
  pub kept_comes : keeps_scalar (Some (tree_of a.item.node)) v ≡ true → carried (replace n path v) t ≡ gives t []
  kept_comes kept =
      comes (keep t ∷ []) (by_kept true kept)
      ∙ ((λ i. exchange_edit (cond (leb (length (append-nil t i)) text_limit) (exchange.gives (append-nil t i) (kept_changes (keep t ∷ []) (tt, tt) i)) exchange.too_large))
      ∙ ap (λ (b : Bool). exchange_edit (cond b (exchange.gives t []) exchange.too_large)) (le-leb (length t) text_limit (cut_read t d read).size))

  -- another value
  pub put_comes : keeps_scalar (Some (tree_of a.item.node)) v ≡ false → carried (replace n path v) t ≡ edit_of_segments (flow_segments t (put_edit v part))
  put_comes other = comes (flow_put t v part) (by_kept false other)

-- one more item or entry in a collection that takes it
pub more_comes : (now : List ℕ) (d : Cut) (n : ℕ) (path : List Step) (key : Option (List ℕ)) (v : Node) (z : CollPieces) → read_at now ≡ Some d → flow_collection n path d ≡ Some z → takes_key z.close key ≡ true →
    carried (append n path key v) now ≡ edit_of_segments (flow_segments (cut_text d) (more_edit key v z))
more_comes now d n path key v z is found takes =
    let text : cut_text d ≡ now = text_read now d is in
    let read : read_at (cut_text d) ≡ Some d = ap read_at text ∙ is in
    let edits : op_edits (append n path key v) d ≡ Some (flow_segments (cut_text d) (more_edit key v z)) =
    ap (λ (o : Option (List Segment)). option_or o (flow_collection n path d >>= flow_more (cut_text d) key v)) (no_rows_more d n path z key v read found)
    ∙ (ap (λ (o : Option CollPieces). o >>= flow_more (cut_text d) key v) found
    ∙ ap (λ (b : Bool). cond b (Some (flow_segments (cut_text d) (more_edit key v z))) None) takes) in
    ap (carried (append n path key v)) (sym text)
    ∙ (ap (by_reading (carry_one (append n path key v))) read ∙ ap (λ (o : Option (List Segment)). edit_of_segments (or_stay d o)) edits)
