-- A value put in the place of a root that is a block collection, or where none is written, carries out its operation.
use Rattle.std.proofs.Common.{length-append, ◌≡◌, ◌⊎◌, inl, inr, ℕ, ◌≤◌, Bool, true, false, List, [], ◌∷◌, ◌++◌, length, replicate, Some}
use Rattle.std.proofs.Common.{refl, sym, ap, ◌∙◌, subst, append_assoc, append-nil, rules}
use Rattle.yq_core.{specs.BlockWritten.break_text, specs.Paths.Step, specs.Tree.Node}
use Rattle.yq_text.{specs.Limit.text_limit, specs.Script.{old_text, new_text}}
use Rattle.yq_flow_edits.specs.Valued.{IsValueTree}
use Rattle.yq_row_table.specs.Rows.{print_row, part_text, Cut, cut_text}
use Rattle.yq_documents.{specs.Reading.{documents, read_at}, specs.Pieces.TextPiece}
use Rattle.yq_places.{specs.RowPaths.IsReadable, specs.Placements.LinesIn}
use Rattle.yq_edit_rules.{specs.Replaces.rooted, specs.TextPieces.IsPiece, proofs.FirstBreakLaws.IsOneBreak}
use Rattle.yq_edit_rules.{proofs.TextPieceLaws.pieces_joined, specs.declared.layout.Layout.Layout, specs.BlockText.block_value}
use Rattle.yq_edit_rules.{specs.ClosedTexts.{is_closed_text, closed_lines_put}, specs.EditLaws.{CarriedOut, IsEdit}}
use Rattle.yq_edit_rules.{specs.Layouts.layout_of, specs.ReplaceEdits.{no_rows_put, root_put}, proofs.CommentPieceLaws.break_piece}
use Rattle.yq_edit_rules.{proofs.LastRows.lines_local, proofs.LayoutLaws.mapping_least, proofs.OneLines.is_one_line}
use Rattle.yq_edit_rules.proofs.SegmentLaws.{segments_readable}
use Rattle.yq_semantics.{specs.Fits.Fits, specs.Operations.replace, specs.Rooms.room_of}
use Rattle.yq_edit_laws.specs.RootEdits.{NoRowsArePut, RootsArePut}
use Rattle.yq_edit_laws.proofs.BlockRootLaws.{IsBlockRoot, block_root_at, takes_value, before_piece, last_piece, after_piece}
use Rattle.yq_edit_laws.{proofs.OpenRootLaws.open_carried, proofs.RootReadLaws.{FitsPart, LocalRoot, fits_part, value_carried, are}}
use Rattle.yq_edit_laws.{proofs.RootRows.{gap_moves, root_first, root_rows}, proofs.PlacementRoots.{IsUnwrittenRoot, has_root, has_no_rows}}
use Rattle.yq_edit_laws.{proofs.HeldLines.block_piece, proofs.UnwrittenRootLaws.{is_located, whole, pieces, takes_unwritten}}

-- ---- in the place of a block collection

module _ (n : ℕ) (v : Node) (c : Cut) (column : ℕ) (w : LinesIn) (read : read_at (cut_text c) ≡ Some c) (h : IsBlockRoot n c column w) where
  abbrev l : Layout
  l = layout_of n c

  old_is : old_text (root_put l v column w) ≡ cut_text c
  old_is = ap (λ t. w.before ++ (w.lines ++ (w.last ++ t))) (append-nil w.after) ∙ h.whole

  module _ (value_tree : IsValueTree v) (fits : Fits (room_of (cut_text c)) (replace n [] v) (documents c)) where
    text_there : h.d.before ++ (h.row.gap ++ (replicate column 32 ++ (block_value (layout_of n c) column v ++ (w.last ++ (h.d.part.end ++ h.d.after))))) ≡ new_text (root_put (layout_of n c) v column w)
    text_there = search (rules, append_assoc, append-nil)

    local : LocalRoot n c h.d (root_rows (layout_of n c) h.row.gap column w.last v) h.d.part.end (root_put (layout_of n c) v column w)
    local new there =
        let st = (takes_value n c column w read h).is_located in
        let lead : List ℕ = h.row.gap ++ replicate column 32 in
        let same : replicate {A = ℕ} h.row.column 32 ≡ replicate column 32 = ap (λ k. replicate k 32) (sym h.column_is) in
        lines_local (root_put l v column w) c n (rooted (root_rows l h.row.gap column w.last v) h.d.part.end h.d.part) (record {
          p = h.d.part;
          there = st.there;
          start = h.d.before;
          put = λ x. st.put x ∙ ap (λ t. h.d.before ++ part_text x t) (sym st.after);
          front = [];
          gone = h.row ∷ h.others;
          come = root_rows l h.row.gap column w.last v;
          back = [];
          rows_are = h.rows_are ∙ sym (append-nil (h.row ∷ h.others));
          come_are = refl;
          end_is = refl;
          lead = lead;
          trail = w.last;
          before_is = append-nil w.before ∙ (h.before_is ∙ (λ i. sym (append-nil h.d.before) i ++ (h.row.gap ++ same i)));
          following_is = ap (λ t. w.last ++ t) (append-nil w.after ∙ (h.following_is ∙ ap (λ t. h.d.part.end ++ t) (sym st.after)));
          puts = refl;
          old_is = old_is;
          new_is = new;
        }) read there (one h.ends) begins (root_first v l h.row.gap column w.last value_tree)
      where
        one : (IsOneBreak w.last) ⊎ ((w.last ≡ []) × (h.d.part.end ++ h.d.after ≡ [])) → is_one_line w.last ≡ true
        one (inl (inl e)) = ap is_one_line e
        one (inl (inr e)) = ap is_one_line e
        one (inr e) = ap is_one_line e.0

        begins : length (h.row.gap ++ replicate column 32) ≤ length (print_row h.row [])
        begins = search (rules, length-append)

    carried : length (new_text (root_put l v column w)) ≤ text_limit → CarriedOut (replace n [] v) c (root_put l v column w)
    carried size =
        let takes = takes_value n c column w read h in
        let readable : IsReadable (new_text (root_put l v column w)) =
        segments_readable (root_put l v column w) (before_piece n c column w read h, (block_piece l column v value_tree, (last_piece n c column w read h, (after_piece n c column w read h, tt)))) size in
        value_carried n c h.d h.row.gap w.last h.d.part.end v l column (root_put l v column w) takes (mapping_least n c) value_tree (fits_part n v c h.d.part takes.old.there value_tree fits) text_there readable local

-- ---- where none is written

put_piece : (closed : Bool) (br lines : List ℕ) → IsPiece br → IsPiece lines → IsPiece (closed_lines_put closed br lines)
put_piece true br lines b k = pieces_joined lines br k b
put_piece false br lines b k = pieces_joined br lines b k

module _ (n : ℕ) (v : Node) (c : Cut) (w : TextPiece) (read : read_at (cut_text c) ≡ Some c) (h : IsUnwrittenRoot n c w) where
  first_old : old_text (no_rows_put (layout_of n c) v w) ≡ cut_text c
  first_old = (λ i. w.before ++ (h.text_is i ++ append-nil w.after i)) ∙ whole n c w read h

  module _ (value_tree : IsValueTree v) (fits : Fits (room_of (cut_text c)) (replace n [] v) (documents c)) where
    abbrev br : List ℕ
    br = break_text (layout_of n c).br

    abbrev lines : List ℕ
    lines = block_value (layout_of n c) 0 v

    there : FitsPart v h.d.part
    there = fits_part n v c h.d.part (is_located n c w read h).there value_tree fits

    new_is : new_text (no_rows_put (layout_of n c) v w) ≡ h.d.before ++ (h.d.part.end ++ (closed_lines_put (is_closed_text w.before) (break_text (layout_of n c).br) (block_value (layout_of n c) 0 v) ++ h.d.after))
    new_is = search (rules, append-nil, append_assoc)

    by_break : (closed : Bool) → is_closed_text w.before ≡ closed → IsReadable (new_text (no_rows_put (layout_of n c) v w)) → CarriedOut (replace n [] v) c (no_rows_put (layout_of n c) v w)
    by_break true e readable =
        let takes = takes_unwritten n c w read h e (layout_of n c).br in
        let st = is_located n c w read h in
        let rows = are n c h.d h.d.part.end br [] takes v (layout_of n c) 0 (mapping_least n c) value_tree there.near in
        value_carried n c h.d h.d.part.end br [] v (layout_of n c) 0 (no_rows_put (layout_of n c) v w) takes (mapping_least n c) value_tree there
        (sym (new_is ∙ ((λ i. h.d.before ++ (h.d.part.end ++ (closed_lines_put (e i) br lines ++ h.d.after))) ∙ ap (λ t. h.d.before ++ (h.d.part.end ++ t)) (append_assoc lines br h.d.after)))) readable
        (λ new known. gap_moves n c h.d.part st.there h.d.before (λ x. st.put x ∙ ap (λ t. h.d.before ++ part_text x t) (sym st.after))
        (no_rows_put (layout_of n c) v w) (root_rows (layout_of n c) h.d.part.end 0 br v) [] h.rows_are rows.some
        (rows.first ∙ sym (append-nil h.d.part.end)) (append-nil w.before ∙ h.before_is) (append-nil w.after ∙ (h.following_is ∙ sym st.after)))
    by_break false e readable =
        open_carried n c w read h e (layout_of n c).br v (layout_of n c) (mapping_least n c) value_tree there (no_rows_put (layout_of n c) v w) (append-nil w.before) (append-nil w.after)
        (new_is ∙ ((λ i. h.d.before ++ (h.d.part.end ++ (closed_lines_put (e i) br lines ++ h.d.after))) ∙ ap (λ t. h.d.before ++ (h.d.part.end ++ t)) (append_assoc br lines h.d.after))) readable

    first_carried : length (new_text (no_rows_put (layout_of n c) v w)) ≤ text_limit → CarriedOut (replace n [] v) c (no_rows_put (layout_of n c) v w)
    first_carried size =
        let kept = pieces n c w read h in
        let put_there : IsPiece (closed_lines_put (is_closed_text w.before) br (block_value (layout_of n c) 0 v)) =
        put_piece (is_closed_text w.before) br (block_value (layout_of n c) 0 v) (break_piece (layout_of n c).br) (block_piece (layout_of n c) 0 v value_tree) in
        by_break (is_closed_text w.before) refl (segments_readable (no_rows_put (layout_of n c) v w) (kept.0, (put_there, (kept.1, tt))) size)

-- ---- both

pub roots_are_put : RootsArePut
roots_are_put n steps v c column w read at =
    let x = has_root n steps c column w at in
    let h = block_root_at n c column w read x.1 in
    subst (λ (ts : List Step). IsEdit (replace n ts v) c (root_put (layout_of n c) v column w)) (sym x.0) (record { old = old_is n v c column w read h; carried = carried n v c column w read h })

pub first_nodes_are_put : NoRowsArePut
first_nodes_are_put n steps v c w read at =
    let x = has_no_rows n steps c w at in
    subst (λ (ts : List Step). IsEdit (replace n ts v) c (no_rows_put (layout_of n c) v w)) (sym x.0) (record { old = first_old n v c w read x.1; carried = first_carried n v c w read x.1 })
