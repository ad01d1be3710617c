-- A collection on lines under a key or dash, or on the line of a dash, in the place of what this holds.
use Rattle.std.proofs.Common.{◌≡◌, ℕ, ◌≤◌, true, List, [], ◌∷◌, ◌++◌, length, replicate, None, refl, sym, ap, ◌∙◌, append_assoc, append-nil}
use Rattle.std.{proofs.Common.{not, ◌||◌, false, cond}, proofs.lemmas.Bool.{not-false, not-true, or_parts}}
use Rattle.yq_core.{specs.BlockWritten.break_text, specs.Paths.Step, specs.Tree.{Node, anchor_of}, specs.Text.is_empty}
use Rattle.yq_text.{specs.Limit.text_limit, specs.Script.{Segment, kept_front, new_text}}
use Rattle.yq_flow_edits.specs.Valued.{IsValueTree}
use Rattle.yq_outline.{specs.Comments.line_comment, specs.Places.content_under, specs.Lines.tail_of}
use Rattle.yq_row_table.{specs.Exchange.{row_front, with_content}, specs.Gap.IsBreak, specs.Grammar.IsTail}
use Rattle.yq_row_table.{specs.Rows.{Content, Row, mark_column, print_row, rows_text, Cut}, specs.View.slices}
use Rattle.yq_places.{specs.RowPieces.anchor_before, specs.Placements.{Held, RowsOfEntry, held}}
use Rattle.yq_edit_rules.{specs.PlacementLaws.HasItsRows, specs.TextPieces.IsPiece, proofs.RemovalPieceLaws.spaces_piece}
use Rattle.yq_edit_rules.{proofs.TextPieceLaws.pieces_joined, proofs.PlacementMarks.entry_there, specs.declared.layout.Layout.Layout}
use Rattle.yq_edit_rules.{specs.BlockReading.is_filled, specs.BlockRows.{column_below, node_rows, item_column}, specs.BlockText.block_value}
use Rattle.yq_edit_rules.{specs.BlockValues.{IsEnd, IsFilledValue}, proofs.CharacterLaws.value_sound, proofs.TextLaws.value_spelled}
use Rattle.yq_edit_rules.{specs.EditLaws.CarriedOut, specs.Layouts.layout_of, specs.ReplaceEdits.held_put}
use Rattle.yq_edit_rules.specs.WrittenValues.{column_under, lines, lines_in, compact_text, takes_compact}
use Rattle.yq_edit_rules.{proofs.BrokenTails.uncommented_tail, proofs.EditsFitLaws.FitsReplace, proofs.LayoutLaws.mapping_least}
use Rattle.yq_semantics.specs.Operations.{replace}
use Rattle.yq_documents.proofs.RowLineLaws.{tail_is}
use Rattle.yq_edit_laws.proofs.HeldCarried.{Spells, held_carried, KnowsHeld, holding, text_left}
use Rattle.yq_edit_laws.{proofs.MarkContentLaws.{anchor_left, unnamed}, proofs.MarkKinds.{column_is, filled_is, dash_is}}
use Rattle.yq_edit_laws.proofs.NodeLeads.{first_lead, own_lead, upto_long}
use Rattle.yq_edit_laws.proofs.NodeRowLaws.{NodeRows, rest, rows_there, following_is, mark_node}
use Rattle.yq_edit_laws.proofs.NodeValueLaws.{IsHolding, end_is, mark_key, rows_under, takes_under}
use Rattle.yq_edit_laws.proofs.DashValueLaws.{after_first, after_rows, after_spelled, takes_after}
use Rattle.yq_row_table.specs.Rows as rows

-- a value in block style is a piece of a text
pub block_piece : (l : Layout) (column : ℕ) (v : Node) → IsValueTree v → IsPiece (block_value l column v)
block_piece l column v tree = let x = value_sound v l column tree in record { utf8 = x.0; characters = x.1 }

pub lines_piece : (l : Layout) (column : ℕ) (v : Node) → IsValueTree v → IsPiece (lines_in l column v)
lines_piece l column v tree = pieces_joined (replicate column 32) (block_value l column v) (spaces_piece column) (block_piece l column v tree)

-- a break alone ends a line
abbrev pub break_tail : (b more : List ℕ) → IsBreak b more → IsTail b more
break_tail b more ends = record { white = []; comment = []; line = record { break = b; spelled = refl; blank = tt; as_comment = tt; ends = ends }; apart = refl }

module _ (n : ℕ) (s : Step) (ss : List Step) (c : Cut) (e : RowsOfEntry) (there : HasItsRows n s ss c e) (last : e.line ≡ length e.row.dashes) (k : KnowsHeld n s ss c e there last)
    (v : Node) (tree : IsValueTree v) (f : FitsReplace n (s ∷ ss) v c there.part) (full : is_filled v ≡ true) where
  abbrev l : Layout
  l = layout_of n c

  abbrev w : Held
  w = held e

  abbrev h : NodeRows n s ss c
  h = mark_node n s ss c e there last

  abbrev z : List ℕ
  z = rest n s ss c (mark_node n s ss c e there last)

  abbrev under : ℕ
  under = column_below l (mark_column e.row) (mark_key e.row.mark) v

  pub filled : IsFilledValue v
  filled = record { filled = filled_is v full; value = tree }

  column : column_under l w.mark v ≡ under
  column = column_is e.row.mark e.row.content _ l v (mark_column e.row) (entry_there n s ss c e there last) (rows_there n s ss c h).0.mark

  -- after an end of the line with its comment, and before an end of the last line
  module _ (tail final : List ℕ) (is : (more : List ℕ) → IsTail tail more) (same : line_comment tail ≡ line_comment (slices e.row).tail) (ends : IsBreak final (rest n s ss c (mark_node n s ss c e there last))) where
    abbrev left : Content
    left = anchor_left e.row.content tail

    abbrev value_rows : List Row
    value_rows = node_rows l under final v

    pub held_is : IsHolding n s ss c h left (rows_text value_rows z)
    held_is = holding n s ss c e there last k tail (rows_text value_rows z) (is (rows_text value_rows z)) same

    pub final_ends : IsEnd (mark_column e.row) final z
    final_ends = end_is n s ss c h final (break_tail final z ends)

    pub uncommented : line_comment final ≡ None
    uncommented = uncommented_tail final z (break_tail final z ends) refl

    abbrev pub rows_put : List Row
    rows_put = rows_under n s ss c h l (mapping_least n c) v filled f.near left final held_is final_ends uncommented

    text : e.start ++ (rows_text e.front [] ++ rows_text rows_put z) ≡ w.before ++ (tail ++ (lines_in l (column_under l w.mark v) v ++ (final ++ w.after)))
    text =
        text_left n s ss c e there last k tail value_rows z
        ∙ (ap (λ r. w.before ++ (tail ++ r)) (value_spelled v l under final z filled.filled filled.value ∙ sym (append_assoc (replicate under 32) (block_value l under v) (final ++ z)))
        ∙ (λ i. w.before ++ (tail ++ (lines_in l (sym column i) v ++ (final ++ sym (following_is n s ss c e there last) i)))))

    before_is : w.before ≡ (e.start ++ rows_text e.front []) ++ (row_front e.row ++ anchor_before (slices e.row))
    before_is = append_assoc (e.start ++ rows_text e.front []) (row_front e.row) (anchor_before (slices e.row))

    pub rows_spell : (us : List Segment) → kept_front us ≡ w.before → w.before ++ (tail ++ (lines_in l (column_under l w.mark v) v ++ (final ++ w.after))) ≡ new_text us → Spells n s ss c e there last k v us rows_put
    rows_spell us kept new = record {
      takes = takes_under n s ss c h l (mapping_least n c) v filled f.near left final held_is final_ends uncommented;
      text = text ∙ new;
      lead = row_front e.row ++ anchor_before (slices e.row);
      before_is = kept ∙ before_is;
      within = own_lead e.row;
      begins = first_lead e.start (rows_text e.front []) (print_row (with_content left e.row) []) w.before (tail ++ []) (row_front e.row ++ anchor_before (slices e.row)) (text_left n s ss c e there last k tail [] []) before_is;
    }

  -- in the place of anything but a block scalar
  abbrev us : List Segment
  us = held_put (break_text l.br) w (lines (lines_in l (column_under l w.mark v) v))

  pub held_lines : length (new_text us) ≤ text_limit → CarriedOut (replace n (s ∷ ss) v) c us
  held_lines =
      let br : List ℕ = break_text l.br in
      let tail : List ℕ = w.white ++ (w.comment ++ br) in
      let new : w.before ++ (tail ++ (lines_in l (column_under l w.mark v) v ++ (w.last ++ w.after))) ≡ new_text us = simp (append_assoc, append-nil) refl in
      held_carried n s ss c e there last k v f l.br (lines (lines_in l (column_under l w.mark v) v)) (rows_put tail w.last (k.broken l.br) (k.broken_comment l.br) k.ends)
      (rows_spell tail w.last (k.broken l.br) (k.broken_comment l.br) k.ends us (append-nil w.before) new) (lines_piece l (column_under l w.mark v) v tree)

  -- ---- on the line of a dash

  module _ (free : takes_compact (held e).mark ≡ true) where
    abbrev compact : List Segment
    compact = held_put (break_text l.br) w (compact_text (block_value l (item_column w.mark.column) v))

    -- neither a key, nor an anchor, nor a comment
    unmarked : (w.mark.keyed ≡ false) × (w.mark.noted ≡ false)
    unmarked = or_parts w.mark.keyed w.mark.noted (not-true (w.mark.keyed || w.mark.noted) free)

    unnoted : (not (is_empty (slices e.row).anchor) ≡ false) × (not (is_empty w.comment) ≡ false)
    unnoted = or_parts (not (is_empty (slices e.row).anchor)) (not (is_empty w.comment)) unmarked.1

    dash : e.row.mark ≡ rows.Dash
    dash = dash_is e.row.mark e.row.content _ (entry_there n s ss c e there last) (rows_there n s ss c h).0.mark unmarked.0

    none_there : line_comment (tail_of e.row.content) ≡ None
    none_there = ap line_comment (sym (tail_is e.row.content)) ∙ (k.uncommented (not-false (is_empty w.comment) unnoted.1))

    no_name : anchor_of (content_under there.found.line there.found.under) ≡ None
    no_name = k.named ∙ unnamed e.row.content (not-false (is_empty (slices e.row).anchor) unnoted.0)

    abbrev line_end : List ℕ
    line_end = w.white ++ (w.comment ++ w.last)

    is_end : IsEnd (mark_column e.row) (w.white ++ (w.comment ++ w.last)) z
    is_end = end_is n s ss c h (w.white ++ (w.comment ++ w.last)) k.ended

    no_comment : line_comment (w.white ++ (w.comment ++ w.last)) ≡ None
    no_comment = k.ended_comment ∙ (k.uncommented (not-false (is_empty w.comment) unnoted.1))

    abbrev rows_after : List Row
    rows_after = after_rows n s ss c h l (mapping_least n c) v filled f.near line_end dash is_end no_comment none_there no_name

    nothing_before : anchor_before (slices e.row) ≡ []
    nothing_before = ap (λ b. cond b [] ((slices e.row).space ++ (slices e.row).anchor)) (not-false (is_empty (slices e.row).anchor) unnoted.0)

    before_dash : w.before ≡ (e.start ++ rows_text e.front []) ++ row_front e.row
    before_dash = ap (λ a. ((e.start ++ rows_text e.front []) ++ row_front e.row) ++ a) nothing_before ∙ append-nil ((e.start ++ rows_text e.front []) ++ row_front e.row)

    after_text : e.start ++ (rows_text e.front [] ++ rows_text rows_after z) ≡ new_text compact
    after_text =
        let a : List ℕ = e.start in
        let b : List ℕ = rows_text e.front [] in
        let d : List ℕ = row_front e.row in
        let x : List ℕ = block_value l (item_column (mark_column e.row)) v in
        let shape : a ++ (b ++ (d ++ (32 ∷ (x ++ ((w.white ++ (w.comment ++ w.last)) ++ w.after))))) ≡ ((a ++ b) ++ d) ++ ((32 ∷ x) ++ (w.white ++ (w.comment ++ (w.last ++ (w.after ++ []))))) = simp (append_assoc, append-nil) refl in
        ap (λ u. a ++ (b ++ u)) (after_spelled n s ss c h l (mapping_least n c) v filled f.near line_end dash is_end no_comment none_there no_name)
        ∙ (ap (λ u. a ++ (b ++ (d ++ (32 ∷ (x ++ (line_end ++ u)))))) (sym (following_is n s ss c e there last))
        ∙ (shape ∙ ap (λ u. u ++ ((32 ∷ x) ++ (w.white ++ (w.comment ++ (w.last ++ (w.after ++ [])))))) (sym before_dash)))

    after_spells : Spells n s ss c e there last k v compact rows_after
    after_spells = record {
      takes = takes_after n s ss c h l (mapping_least n c) v filled f.near line_end dash is_end no_comment none_there no_name;
      text = after_text;
      lead = row_front e.row;
      before_is = append-nil w.before ∙ before_dash;
      within = upto_long h.upto;
      begins = after_first n s ss c h l (mapping_least n c) v filled f.near line_end dash is_end no_comment none_there no_name;
    }

    pub held_compact : length (new_text compact) ≤ text_limit → CarriedOut (replace n (s ∷ ss) v) c compact
    held_compact = held_carried n s ss c e there last k v f l.br (compact_text (block_value l (item_column w.mark.column) v)) rows_after after_spells (block_piece l (item_column w.mark.column) v tree)
