-- A value after a dash, in the place of the compact collection that begins there.
use Rattle.std.proofs.Common.{◌≡◌, inl, ℕ, ◌<◌, ◌≤◌, Bool, true, false, cond, List, [], ◌∷◌, ◌++◌, length, replicate, None, Some, refl, sym}
use Rattle.std.{proofs.Common.{ap, ◌∙◌, subst, append_assoc, append-nil}, proofs.lemmas.Option.same_Some}
use Rattle.yq_core.{specs.BlockWritten.break_text, specs.Paths.Step, specs.Tree.Node}
use Rattle.yq_core.{specs.declared.style.Place.TheVariants.Block as InBlock, proofs.NodesWrittenLaws.node_then}
use Rattle.yq_text.{specs.Limit.text_limit, specs.Script.{Segment, keep, new_text, old_text, put}}
use Rattle.yq_flow_edits.specs.Valued.{IsValueTree}
use Rattle.yq_outline.{specs.Comments.line_comment, specs.Places.content_under, proofs.Finding.{FoundNode, path_node}}
use Rattle.yq_row_table.{specs.Exchange.{row_front, with_content}, specs.Grammar.IsTail, specs.Items.rows_items}
use Rattle.yq_row_table.{specs.Rows.{Cut, Nothing, Row, cut_text, mark_column, rows_text}, proofs.NothingLaws.tail_apart}
use Rattle.yq_row_table.proofs.PlaceLaws.{row_front-append}
use Rattle.yq_documents.specs.Reading.{part_outline, read_at, root_of}
use Rattle.yq_places.{specs.RowPieces.upto_dash, specs.PrintedLines.{last_break, less_break}}
use Rattle.yq_places.specs.Placements.{LinesIn, RowsOfEntry, compact_lines, compact_mark, dash_text, rows_of_entry}
use Rattle.yq_places.proofs.PrintedTexts.{less_is}
use Rattle.yq_edit_rules.{proofs.AppendEntryLaws.none_uncommented, specs.Appends.inserted, specs.Changed.put_document}
use Rattle.yq_edit_rules.{specs.SoundRoots.MayReplace, specs.PlacementLaws.HasItsRows, specs.TextPieces.IsPiece}
use Rattle.yq_edit_rules.{specs.Unders.spaced_content, proofs.TextPieceLaws.pieces_joined, specs.declared.layout.Layout.Layout}
use Rattle.yq_edit_rules.{specs.BlockReading.is_filled, specs.BlockRows.{item_column, node_rows}, specs.BlockText.block_value}
use Rattle.yq_edit_rules.{specs.BlockValues.IsFilledValue, proofs.TextLaws.value_spelled, specs.Done.ArePieces, specs.EditLaws.CarriedOut}
use Rattle.yq_edit_rules.{specs.Layouts.layout_of, specs.Local.InFirst, specs.ReplaceEdits.compact_put}
use Rattle.yq_edit_rules.specs.WrittenValues.{Written, compact_text, inline, lines, lines_in, takes_compact, value_text, written_at}
use Rattle.yq_edit_rules.{proofs.BreakLaws.last_is, proofs.BrokenTails.uncommented_tail, proofs.CommentPieceLaws.{break_piece, byte_then}}
use Rattle.yq_edit_rules.{proofs.CommentReadLaws.break_is, proofs.EditsFitLaws.FitsReplace, proofs.HeldCuts.break_is_piece}
use Rattle.yq_edit_rules.{proofs.LayoutLaws.mapping_least, proofs.OneLines.break_line, proofs.SegmentLaws.segments_readable}
use Rattle.yq_edit_rules.proofs.ValueTexts.{IsWrittenFor, value_for}
use Rattle.yq_semantics.specs.Operations.{replace}
use Rattle.yq_edit_laws.proofs.DashNodes.{dash_after, dash_last_ends, dash_node, dash_pieces, dash_spelled, dash_unnamed, upto}
use Rattle.yq_edit_laws.proofs.DashValueLaws.{after_first, after_rows, after_spelled, takes_after}
use Rattle.yq_edit_laws.{proofs.HeldLines.{block_piece, break_tail, lines_piece}, proofs.MarkKinds.filled_is}
use Rattle.yq_edit_laws.{proofs.NodeTaken.{KeepsNode, node_carried, TakesNode, q_text}, proofs.NodeLeads.{content_first, upto_long}}
use Rattle.yq_edit_laws.proofs.NodeRowLaws.{NodeRows, rest}
use Rattle.yq_edit_laws.proofs.NodeValueLaws.{IsHolding, end_is, rows_beside, rows_under, takes_beside, takes_under}

module _ (n : ℕ) (s : Step) (ss : List Step) (c : Cut) (e : RowsOfEntry) (there : HasItsRows n s ss c e) (less : e.line < length e.row.dashes) (read : read_at (cut_text c) ≡ Some c) (at : rows_of_entry n (s ∷ ss) c ≡ Some e) where
  abbrev h : NodeRows n s ss c
  h = dash_node n s ss c e there less

  abbrev l : Layout
  l = layout_of n c

  abbrev p : LinesIn
  p = compact_lines e

  abbrev mark : Row
  mark = upto_dash e.line e.row

  abbrev last : List ℕ
  last = last_break (dash_text e)

  abbrev z : List ℕ
  z = rest n s ss c (dash_node n s ss c e there less)

  abbrev segments : List ℕ → List Segment
  segments t = keep p.before ∷ (put p.lines t ∷ (keep p.last ∷ (keep p.after ∷ [])))

  -- the old text
  old_there : (t : List ℕ) → old_text (segments t) ≡ cut_text c
  old_there t =
      let parts : p.before ++ (less_break (dash_text e) ++ (last ++ (p.after ++ []))) ≡ p.before ++ ((less_break (dash_text e) ++ last) ++ p.after) = simp (append_assoc, append-nil) refl in
      parts ∙ (ap (λ o. p.before ++ (o ++ p.after)) (less_is (dash_text e)) ∙ sym (dash_spelled n s ss c e there less read at))

  pub dash_old : (br : List ℕ) (w : Written) → old_text (compact_put br (compact_lines e) w) ≡ cut_text c
  dash_old br (inline t) = old_there (32 ∷ t)
  dash_old br (compact_text t) = old_there (32 ∷ t)
  dash_old br (lines t) = old_there (br ++ t)

  -- what is kept
  abbrev keeps : (t : List ℕ) → KeepsNode n s ss c h (segments t)
  keeps t = record {
    lead = row_front mark;
    trail = last;
    before_is = append-nil p.before;
    following_is = ap (λ b. last ++ b) (append-nil p.after ∙ dash_after n s ss c e there less);
    one = break_line last z (dash_last_ends n s ss c e there less);
    begins = upto_long (upto n s ss c e there less);
    puts = refl;
    old_is = old_there t;
  }

  -- it is in pieces
  new_pieces : (t : List ℕ) → IsPiece t → ArePieces (segments t)
  new_pieces t piece = let k = dash_pieces n s ss c e there less read at in (k.0, (piece, (break_is_piece last (last_is (dash_text e)), (k.1, tt))))

  -- the end of the last line
  abbrev last_tail : IsTail last z
  last_tail = break_tail last z (dash_last_ends n s ss c e there less)

  uncommented : line_comment last ≡ None
  uncommented = uncommented_tail last z last_tail refl

  -- what may come after the dash: the end of its line, without a comment
  holding : (t more : List ℕ) → IsTail t more → line_comment t ≡ None → IsHolding n s ss c h (Nothing t) more
  holding t more tail none = record { holds = refl; is_located = tail; apart = tail_apart t more tail; comment = none ∙ sym none_uncommented; anchor = sym (dash_unnamed n s ss c e there less) }

  module _ (v : Node) (tree : IsValueTree v) (f : FitsReplace n (s ∷ ss) v c there.part) where
    may : MayReplace v (content_under there.found.line there.found.under) (root_of there.part) (length (s ∷ ss))
    may = subst (λ q. MayReplace v q (root_of there.part) (length (s ∷ ss))) (same_Some _ _ (sym f.there ∙ (path_node s ss (part_outline there.part) ∙ ap FoundNode there.is))) f.may

    abbrev CarriedWith : List ℕ → Type 0
    CarriedWith t = length (new_text (segments t)) ≤ text_limit → CarriedOut (replace n (s ∷ ss) v) c (segments t)

    -- a text for which the document is known reads, where it may be read
    carried_as : (new : List Row) → TakesNode n s ss c h v new → (t : List ℕ) → rows_text new z ≡ row_front mark ++ (t ++ (last ++ z)) → InFirst (row_front mark) (rows_items new []) → IsPiece t → CarriedWith t
    carried_as new takes t text begins piece size =
        let a : List ℕ = rows_text e.front [] in
        let m : List ℕ = row_front mark in
        let parts : e.start ++ (a ++ (m ++ (t ++ (last ++ p.after)))) ≡ p.before ++ (t ++ (last ++ (p.after ++ []))) = simp (append_assoc, append-nil) refl in
        let same : cut_text (put_document n (inserted e.front new e.back there.part) c) ≡ new_text (segments t) =
        q_text n s ss c h v new takes ∙ (ap (λ r. e.start ++ (a ++ r)) text ∙ (ap (λ r. e.start ++ (a ++ (m ++ (t ++ (last ++ r))))) (sym (dash_after n s ss c e there less)) ∙ parts)) in
        node_carried n s ss c h v new takes (segments t) (keeps t) may (segments_readable (segments t) (new_pieces t piece) size) same begins

    -- ---- on its line

    module _ (text : List ℕ) (for : IsWrittenFor v text) where
      abbrev beside : List Row
      beside = rows_beside n s ss c h v for.node for.is (Nothing last) (holding last z last_tail uncommented)

      beside_text : rows_text beside z ≡ row_front mark ++ ((32 ∷ text) ++ (last ++ z))
      beside_text =
          row_front-append (with_content (spaced_content for.node last) mark) z
          ∙ ap (λ r. row_front mark ++ (32 ∷ r)) (node_then for.node (last ++ z) ∙ ap (λ r. r ++ (last ++ z)) for.text)

      beside_carried : CarriedWith (32 ∷ text)
      beside_carried =
          carried_as beside (takes_beside n s ss c h v for.node for.is (Nothing last) (holding last z last_tail uncommented)) (32 ∷ text) beside_text (content_first (spaced_content for.node last) mark) (byte_then 32 text refl for.piece)

    -- ---- in rows

    module _ (full : is_filled v ≡ true) where
      filled : IsFilledValue v
      filled = record { filled = filled_is v full; value = tree }

      abbrev column : ℕ
      column = item_column (mark_column mark)

      -- the first one on the line of the dash
      abbrev after : List Row
      after = after_rows n s ss c h l (mapping_least n c) v filled f.near last refl (end_is n s ss c h last last_tail) uncommented none_uncommented (dash_unnamed n s ss c e there less)

      after_carried : CarriedWith (32 ∷ block_value l column v)
      after_carried =
          carried_as after (takes_after n s ss c h l (mapping_least n c) v filled f.near last refl (end_is n s ss c h last last_tail) uncommented none_uncommented (dash_unnamed n s ss c e there less)) (32 ∷ block_value l column v)
          (after_spelled n s ss c h l (mapping_least n c) v filled f.near last refl (end_is n s ss c h last last_tail) uncommented none_uncommented (dash_unnamed n s ss c e there less))
          (after_first n s ss c h l (mapping_least n c) v filled f.near last refl (end_is n s ss c h last last_tail) uncommented none_uncommented (dash_unnamed n s ss c e there less))
          (byte_then 32 (block_value l column v) refl (block_piece l column v tree))

      -- all on lines under it
      abbrev br : List ℕ
      br = break_text l.br

      abbrev below : List ℕ
      below = rows_text (node_rows l column last v) z

      break_holds : IsHolding n s ss c h (Nothing br) below
      break_holds = let tail = break_tail br below (inl (break_is l.br)) in holding br below tail (uncommented_tail br below tail refl)

      abbrev under : List Row
      under = rows_under n s ss c h l (mapping_least n c) v filled f.near (Nothing br) last break_holds (end_is n s ss c h last last_tail) uncommented

      under_text : rows_text under z ≡ row_front mark ++ ((br ++ lines_in l column v) ++ (last ++ z))
      under_text =
          let parts : br ++ (replicate column 32 ++ (block_value l column v ++ (last ++ z))) ≡ (br ++ lines_in l column v) ++ (last ++ z) = simp append_assoc refl in
          row_front-append (with_content (Nothing br) mark) (rows_text (node_rows l column last v) z)
          ∙ ap (λ r. row_front mark ++ r) (ap (λ r. br ++ r) (value_spelled v l column last z filled.filled filled.value) ∙ parts)

      under_carried : CarriedWith (br ++ lines_in l column v)
      under_carried =
          carried_as under (takes_under n s ss c h l (mapping_least n c) v filled f.near (Nothing br) last break_holds
          (end_is n s ss c h last last_tail) uncommented) (br ++ lines_in l column v) under_text (content_first (Nothing br) mark)
          (pieces_joined br (lines_in l column v) (break_piece l.br) (lines_piece l column v tree))

    pub dash_carried : length (new_text (compact_put (break_text l.br) (compact_lines e) (written_at l (compact_mark e) [] v))) ≤ text_limit →
        CarriedOut (replace n (s ∷ ss) v) c (compact_put (break_text l.br) (compact_lines e) (written_at l (compact_mark e) [] v))
    dash_carried = go (is_filled v) (takes_compact (compact_mark e)) refl
      where
        go : (b d : Bool) → is_filled v ≡ b →
            length (new_text (compact_put (break_text l.br) p
            (cond b (cond d (compact_text (block_value l (item_column (compact_mark e).column) v)) (lines (lines_in l (item_column (compact_mark e).column) v)))
            (inline (value_text InBlock [] v))))) ≤ text_limit →
            CarriedOut (replace n (s ∷ ss) v) c (compact_put (break_text l.br) p
            (cond b (cond d (compact_text (block_value l (item_column (compact_mark e).column) v))
            (lines (lines_in l (item_column (compact_mark e).column) v))) (inline (value_text InBlock [] v))))
        go true true full = after_carried full
        go true false full = under_carried full
        go false d full = beside_carried (value_text InBlock [] v) (value_for [] v tree f.deep f.long)
