-- A value on the line of a key or dash, in the place of what this holds.
use Rattle.std.proofs.Common.{◌≡◌, ℕ, ◌≤◌, false, true, List, [], ◌∷◌, ◌++◌, length, Some, refl, sym, ap, ◌∙◌, subst, append_assoc}
use Rattle.std.{proofs.Common.{append-nil, rules, ⊎_elim, cond}, proofs.lemmas.Bool.cases_Bool}
use Rattle.yq_core.{specs.BlockWritten.break_text, specs.Paths.Step, specs.Text.{is_empty, separates}, specs.Tree.Node}
use Rattle.yq_core.{specs.declared.block_types.Break.Break, specs.Nodes.node_text, proofs.NodesWrittenLaws.node_then}
use Rattle.yq_core.proofs.LineLaws.{is_empty_is}
use Rattle.yq_text.{specs.Limit.text_limit, specs.Script.{Segment, new_text}}
use Rattle.yq_row_table.{specs.Exchange.{row_front, with_content}, specs.Grammar.{IsContent, IsMark}}
use Rattle.yq_row_table.{specs.Rows.{Content, Row, content_text, parent_indent, print_row, rows_text, Cut, Part}, specs.View.slices}
use Rattle.yq_row_table.{proofs.NodeExchange.mark_apart, specs.Seams.is_block, proofs.PlaceLaws.row_front-append}
use Rattle.yq_places.{specs.RowPieces.{anchor_before, space_before}, specs.Placements.{Held, RowsOfEntry, held, before_entry}}
use Rattle.yq_documents.specs.Reading.{read_at}
use Rattle.yq_edit_rules.{specs.Appends.inserted, specs.Changed.put_document, specs.DocumentRows.after_document}
use Rattle.yq_edit_rules.{specs.PlacementLaws.HasItsRows, specs.EditLaws.CarriedOut, specs.ReplaceEdits.{spaced_text, held_put}}
use Rattle.yq_edit_rules.{specs.WrittenValues.inline, proofs.EditsFitLaws.FitsReplace, proofs.ValueTexts.IsWrittenFor}
use Rattle.yq_edit_rules.{proofs.PlacementMarks.entry_there, proofs.CoreLaws.put_core, proofs.CommentRowLaws.end_parts}
use Rattle.yq_semantics.specs.Operations.{replace}
use Rattle.yq_outline.specs.Lines.{head_of}
use Rattle.yq_edit_laws.proofs.NodeValueLaws.{IsContentFor, takes_content, IsHolding, content_beside, content_for}
use Rattle.yq_edit_laws.proofs.HeldCarried.{Spells, held_carried, held_made, KnowsHeld, holding, regroup, text_beside}
use Rattle.yq_edit_laws.proofs.NodeLeads.{first_lead, own_space_lead}
use Rattle.yq_edit_laws.{proofs.NodeRowLaws.{rest, rows_there, NodeRows, following_is, mark_node}, proofs.MarkContentLaws.anchor_left}
use Rattle.yq_edit_laws.proofs.MarkHeads.{core_text, no_raw, none_written}

-- ---- the row of a head

module _ (n : ℕ) (s : Step) (ss : List Step) (c : Cut) (e : RowsOfEntry) (there : HasItsRows n s ss c e) (last : e.line ≡ length e.row.dashes) (k : KnowsHeld n s ss c e there last) (some : is_empty (slices e.row).head ≡ false) where
  -- no rows are under it
  rest_is : rows_text (e.under ++ e.back) (there.part.end ++ after_document n c) ≡ rest n s ss c (mark_node n s ss c e there last)
  rest_is = ap (λ (us : List Row). rows_text (us ++ e.back) (there.part.end ++ after_document n c)) (k.headless some)

  pub content_there : IsContent (parent_indent e.row) e.row.content (rest n s ss c (mark_node n s ss c e there last))
  content_there = subst (IsContent (parent_indent e.row) e.row.content) rest_is (rows_there n s ss c (mark_node n s ss c e there last)).0.content

  pub apart_there : separates (content_text e.row.content (rest n s ss c (mark_node n s ss c e there last))) ≡ true
  apart_there =
      mark_apart e.row.mark e.row.content (rest n s ss c (mark_node n s ss c e there last)) (entry_there n s ss c e there last)
      (subst (IsMark e.row.mark e.row.content) rest_is (rows_there n s ss c (mark_node n s ss c e there last)).0.mark)

-- ---- another one in its place

apart_then : (old t u : List ℕ) → spaced_text old (t ++ u) ≡ spaced_text old t ++ u
apart_then old t u = search rules

-- Segments make a text in whose cut the row of an item or entry has another content, with a head.
pub record RowMade (n : ℕ) (c : Cut) (e : RowsOfEntry) (p : Part) (us : List Segment) (v : Node) : Type 0 where
  pub content : Content
  pub headed : head_of content ≡ Some v
  pub read : read_at (new_text us) ≡ Some (put_document n (inserted e.front (with_content content e.row ∷ []) e.back p) c)

module _ (n : ℕ) (s : Step) (ss : List Step) (c : Cut) (e : RowsOfEntry) (there : HasItsRows n s ss c e) (last : e.line ≡ length e.row.dashes) (k : KnowsHeld n s ss c e there last)
    (br : Break) (v : Node) (f : FitsReplace n (s ∷ ss) v c there.part) (t : List ℕ) (for : IsWrittenFor v t) where
  abbrev w : Held
  w = held e

  abbrev h : NodeRows n s ss c
  h = mark_node n s ss c e there last

  abbrev z : List ℕ
  z = rest n s ss c (mark_node n s ss c e there last)

  abbrev us : List Segment
  us = held_put (break_text br) w (inline t)

  abbrev front : List ℕ
  front = rows_text e.front []

  abbrev tail : List ℕ
  tail = w.white ++ (w.comment ++ w.last)

  -- ---- a content with a head

  -- a content of the row, as which the text is spelled then
  module _ (x : Content) (is : IsContentFor n s ss c (mark_node n s ss c e there last) v x)
      (spelled : (u : List ℕ) → e.start ++ (rows_text e.front [] ++ rows_text (with_content x e.row ∷ []) u) ≡
      (held e).before ++ ((held e).space ++ spaced_text (held e).head (node_text for.node (((held e).white ++ ((held e).comment ++ (held e).last)) ++ u)))) where
    abbrev new : List Row
    new = with_content x e.row ∷ []

    text : e.start ++ (front ++ rows_text new (rest n s ss c (mark_node n s ss c e there last))) ≡ new_text us
    text = search (rules, rest, mark_node, append_assoc, append-nil, node_then, apart_then, following_is)

    abbrev lead : List ℕ
    lead = row_front e.row ++ (anchor_before (slices e.row) ++ space_before (slices e.row))

    place_is : w.before ++ w.space ≡ (e.start ++ front) ++ lead
    place_is = let parts : (((e.start ++ front) ++ row_front e.row) ++ anchor_before (slices e.row))
        ++ space_before (slices e.row) ≡ (e.start ++ front) ++ (row_front e.row ++ (anchor_before (slices e.row) ++ space_before (slices e.row))) =
        simp append_assoc refl in parts

    spells : Spells n s ss c e there last k v us new
    spells = record {
      takes = takes_content n s ss c (mark_node n s ss c e there last) v x is;
      text = text;
      lead = lead;
      before_is = ap (λ y. w.before ++ y) (append-nil w.space) ∙ place_is;
      within = own_space_lead e.row;
      begins = first_lead e.start front (print_row (with_content x e.row) []) (w.before ++ w.space) (spaced_text w.head (node_text for.node (tail ++ []))) lead
          (spelled [] ∙ sym (append_assoc w.before w.space (spaced_text w.head (node_text for.node (tail ++ []))))) place_is;
    }

    pub head_carried : length (new_text us) ≤ text_limit → CarriedOut (replace n (s ∷ ss) v) c us
    head_carried = held_carried n s ss c e there last k v f br (inline t) new spells for.piece

    -- the cut of the text that it makes: the row has another content
    pub head_made : length (new_text us) ≤ text_limit → read_at (new_text us) ≡ Some (put_document n (inserted e.front (with_content x e.row ∷ []) e.back there.part) c)
    head_made = held_made n s ss c e there last k v f br (inline t) new spells for.piece

  -- ---- where nothing is written

  module _ (none : is_empty (slices e.row).head ≡ true) where
    no_space : w.space ≡ []
    no_space = none_written (parent_indent e.row) e.row.content _ (rows_there n s ss c h).0.content none

    abbrev left : Content
    left = anchor_left e.row.content (w.white ++ (w.comment ++ w.last))

    held_is : IsHolding n s ss c h left z
    held_is = holding n s ss c e there last k tail z k.ended k.ended_comment

    text_with : (u : List ℕ) → e.start ++ (front ++ rows_text (with_content (put_core for.node left) e.row ∷ []) u) ≡ w.before ++ (w.space ++ spaced_text w.head (node_text for.node ((w.white ++ (w.comment ++ w.last)) ++ u)))
    text_with u = text_beside n s ss c e there last k for.node tail u ∙ (λ i. w.before ++ (sym no_space i ++ spaced_text (sym (is_empty_is w.head none) i) (node_text for.node (tail ++ u))))

    nothing_carried : length (new_text us) ≤ text_limit → CarriedOut (replace n (s ∷ ss) v) c us
    nothing_carried = head_carried (put_core for.node left) (content_beside n s ss c h v for.node for.is left held_is) text_with

    -- after it the row has another content
    pub nothing_made : length (new_text us) ≤ text_limit → RowMade n c e there.part us v
    nothing_made size =
        let is = content_beside n s ss c h v for.node for.is left held_is in
        record { content = put_core for.node left; headed = is.head; read = head_made (put_core for.node left) is text_with size }

  -- ---- where a node is written

  module _ (some : is_empty (slices e.row).head ≡ false) (block : is_block e.row.content ≡ false) where
    abbrev x : Content
    x = e.row.content

    is_located : IsContent (parent_indent e.row) e.row.content z
    is_located = content_there n s ss c e there last k some

    is_for : IsContentFor n s ss c h v (put_core for.node e.row.content)
    is_for = content_for n s ss c h v for.node for.is e.row.content block is_located (apart_there n s ss c e there last k some) refl (sym k.named)

    -- no other lines are there, so that the end of its line is what was held
    tail_is : (slices e.row).tail ≡ w.white ++ (w.comment ++ w.last)
    tail_is = search (rules, no_raw, end_parts)

    -- the text before another rest
    text_there : (u : List ℕ) → e.start ++ (front ++ rows_text (with_content (put_core for.node x) e.row ∷ []) u) ≡ w.before ++ (w.space ++ spaced_text w.head (node_text for.node ((w.white ++ (w.comment ++ w.last)) ++ u)))
    text_there u =
        ap (λ r. e.start ++ (front ++ r)) (row_front-append (with_content (put_core for.node x) e.row) u)
        ∙ (regroup e.start front (row_front e.row) (content_text (put_core for.node x) u)
        ∙ (core_text (before_entry e ++ row_front e.row) for.node (parent_indent e.row) x z u is_located block some
        ∙ (λ i. w.before ++ (w.space ++ cond (sym some i) (32 ∷ node_text for.node (tail_is i ++ u)) (node_text for.node (tail_is i ++ u))))))

    node_there : length (new_text us) ≤ text_limit → CarriedOut (replace n (s ∷ ss) v) c us
    node_there = head_carried (put_core for.node x) is_for text_there

    -- after it the row has another content of the same shape
    pub node_made : length (new_text us) ≤ text_limit → RowMade n c e there.part us v
    node_made size = record { content = put_core for.node x; headed = is_for.head; read = head_made (put_core for.node x) is_for text_there size }

  -- in the place of anything but a block scalar
  pub held_inline : is_block e.row.content ≡ false → length (new_text us) ≤ text_limit → CarriedOut (replace n (s ∷ ss) v) c us
  held_inline block size = ⊎_elim {0, 0, 0} (λ none. nothing_carried none size) (λ some. node_there some block size) (cases_Bool (is_empty (slices e.row).head))
