-- Where the root of a document comes that has no rows, after a text that doesn't end in a break: on a line of its own, after a break that comes first.
use Rattle.std.proofs.lemmas.Grind.{common_steps}
use Rattle.std.proofs.Common.{◌≡◌, inl, inr, ℕ, ◌≤◌, List, [], ◌∷◌, ◌++◌, length, Some, true, false, refl, sym, ap, ◌∙◌, subst, arith}
use Rattle.std.proofs.Common.{append_assoc, append-nil, length-append, rules, map}
use Rattle.std.{proofs.lemmas.Bool.{false≢true, cond-true, false_from_ne_true, and_parts}, proofs.lemmas.Str.is_utf8-from_IsUtf8}
use Rattle.std.{specs.List.{list_all, slice_get}, specs.Str.{chars, is_utf8}}
use Rattle.yq_core.{specs.BlockWritten.break_text, specs.Characters.{is_text, is_text_char, pairs_returns}, specs.Text.is_empty}
use Rattle.yq_core.{specs.Tree.Node, specs.declared.block_types.Break.Break, proofs.Bools.guard_then, specs.Answers.◌>>=◌}
use Rattle.yq_text.{specs.Limit.text_limit, specs.Script.{Segment, new_text, kept_front, kept_back}}
use Rattle.yq_flow_edits.specs.Valued.{IsValueTree}
use Rattle.yq_outline.specs.Comments.{head_comment}
use Rattle.yq_row_table.{specs.Appending.{last_marker, with_last_part, PartFits}, specs.Gap.IsGap, specs.Grammar.IsCut}
use Rattle.yq_row_table.{specs.Rows.{Row, Part, part_text, Cut, cut_text}, proofs.CharacterLaws.pairs_back}
use Rattle.yq_row_table.{proofs.splices.MarkerLaws.marker_appended, proofs.GapLaws.some_more}
use Rattle.yq_row_table.specs.Items.{Item, end_item, rows_items, items_of_cut, items_text}
use Rattle.yq_row_table.proofs.ItemLaws.{items_of_text, items_text-append}
use Rattle.yq_documents.{specs.Pieces.TextPiece, specs.Reading.{all_documents, is_document, read_at, documents_of}}
use Rattle.yq_documents.{proofs.ReadLaws.{text_again, text_takes}, specs.Documents.document_parts, specs.Ready.part_is_block}
use Rattle.yq_documents.specs.LinesInRows.{row_line_of, row_line_has_room}
use Rattle.yq_places.{specs.PlacedRows.PlacedPart, specs.RowPaths.IsReadable, proofs.RemovalLines.LineSeam}
use Rattle.yq_edit_rules.{specs.declared.layout.Layout.Layout, specs.BlockText.block_value, proofs.LaidRows.no_gap_here}
use Rattle.yq_edit_rules.{specs.PlacedParts.IsDocumentAt, specs.TextPieces.IsPiece, proofs.PlacedPartLaws.document_is_there_at}
use Rattle.yq_edit_rules.{proofs.TextPieceLaws.pieces_joined, specs.ClosedTexts.is_closed_text, specs.Changed.put_document}
use Rattle.yq_edit_rules.{specs.Replaces.rooted, specs.Local.IsLocal, specs.ReadsAfter.ReadsAfter, specs.EditLaws.CarriedOut}
use Rattle.yq_edit_rules.{proofs.ItemsLocal.last_nothing, proofs.LocalLaws.cut_known, proofs.AppendAtEnd.nothing_tail}
use Rattle.yq_edit_rules.{proofs.AppendEntryLaws.none_uncommented, proofs.BreakLaws.break_is as break_kind}
use Rattle.yq_edit_rules.{proofs.CommentPieceLaws.break_piece, proofs.CommentReadLaws.break_is, proofs.DoneLaws.read_cut}
use Rattle.yq_semantics.{specs.Operations.{replace, Operation}, specs.After.after_op, specs.Changes.Room}
use Rattle.yq_semantics.{specs.Rooms.{comment_part, room_of}, specs.RoomsKept.LeavesRooms}
use Rattle.yq_edit_laws.proofs.UnwrittenRootLaws.{closed_after, closed_end, closed_line, open_some, long_some, is_located, there, cut}
use Rattle.yq_edit_laws.proofs.UnwrittenRootLaws.{gap_is, part_is, seam, pieces, no_rows_there, lead_is, starts_at, takes_unwritten}
use Rattle.yq_edit_laws.{proofs.BlockRootLaws.empty_cases, proofs.OpenGapLaws.open_gap}
use Rattle.yq_edit_laws.proofs.OpenMarkerLaws.{broken_before, IsAfterMarker, after_marker}
use Rattle.yq_edit_laws.proofs.RootReadLaws.{FitsPart, value_carried, TakesValue, are, text_is, root_read, root_reads}
use Rattle.yq_edit_laws.{proofs.RootRows.{gap_moves, root_rows, HasRoom}, proofs.PlacementRoots.IsUnwrittenRoot}
use Rattle.yq_edit_laws.proofs.UnwrittenRootLaws as unwritten_root
use Rattle.yq_documents.specs.Reading as reading

-- ---- two texts with the same parts that are documents: what an operation makes of the one it makes of the other

-- what documents have room for, by their parts
abbrev rooms : List Part → ℕ → Room
rooms ps i = record { block = part_is_block (slice_get ps i); has = λ place steps. row_line_has_room (comment_part place) (slice_get ps i >>= λ p. row_line_of steps p.rows) }

pub same_reads : (op : Operation) (b c : Cut) (new : List ℕ) → read_at (cut_text b) ≡ Some b → read_at (cut_text c) ≡ Some c → document_parts b ≡ document_parts c → ReadsAfter op b new → ReadsAfter op c new
same_reads op b c new other read same h = record {
  cut = h.cut;
  read = h.read;
  documents_are = h.documents_are ∙ (λ i. after_op (room_is i) op (map reading.part_document (same i)));
  room = subst (λ (r : ℕ → Room). LeavesRooms op r (room_of new) (documents_of new)) room_is h.room;
}
  where
    room_is : room_of (cut_text b) ≡ room_of (cut_text c)
    room_is = ap rooms (ap document_parts (read_cut (cut_text b) b other) ∙ (same ∙ ap document_parts (sym (read_cut (cut_text c) c read))))

-- ---- where the root of a document comes that has no rows, after a text that doesn't end in a break: on a line of its own, after a break that comes first

-- rows come after a gap, at the end of a text
room_at_end : (gap : List ℕ) → ((x : List ℕ) → is_empty x ≡ false → IsGap gap x) → HasRoom gap [] [] []
room_at_end gap front = record { front = front; tail = nothing_tail; apart = refl; uncommented = none_uncommented; back_is = no_gap_here []; ends = refl }

module _ (n : ℕ) (c : Cut) (w : TextPiece) (read : read_at (cut_text c) ≡ Some c) (h : IsUnwrittenRoot n c w) (open' : is_closed_text w.before ≡ false) (br : Break) where
  all_open : is_closed_text (h.d.before ++ h.d.part.end) ≡ false
  all_open = ap is_closed_text (sym h.before_is) ∙ open'

  -- so it is the end of the text
  nothing_after : h.d.after ≡ []
  unfolding is_closed_text
  nothing_after = go (seam n c w read h)
    where
      go : LineSeam (h.d.before ++ h.d.part.end) h.d.after → h.d.after ≡ []
      go (inl e) = absurd (false≢true (sym all_open ∙ ap is_closed_text e))
      go (inr (inl lf)) = absurd (false≢true (sym all_open ∙ (ap is_closed_text lf.1 ∙ closed_after lf.0 (10 ∷ []) refl)))
      go (inr (inr e)) = e

  -- ---- after comments or white space

  module _ (some : is_empty h.d.part.end ≡ false) where
    gap_open : is_closed_text h.d.part.end ≡ false
    gap_open = sym (closed_after h.d.before h.d.part.end some) ∙ all_open

    characters : is_text (h.d.before ++ h.d.part.end) ≡ true
    characters = (subst IsPiece h.before_is (pieces n c w read h).0).characters

    pairs : pairs_returns h.d.part.end ≡ true
    pairs = pairs_back h.d.before h.d.part.end (and_parts (list_all is_text_char (chars (h.d.before ++ h.d.part.end))) (pairs_returns (h.d.before ++ h.d.part.end)) characters).1

    broken : (x : List ℕ) → IsGap (h.d.part.end ++ break_text br) x × (head_comment (h.d.part.end ++ break_text br) ≡ head_comment h.d.part.end)
    broken x = open_gap h.d.part.end x br (subst (IsGap h.d.part.end) nothing_after (gap_is n c w read h)) gap_open pairs

    takes_following_gap : TakesValue n c h.d (h.d.part.end ++ break_text br) [] []
    takes_following_gap = record {
      is_located = is_located n c w read h;
      old = there n c w read h;
      block = no_rows_there n c w read h;
      room = subst (HasRoom (h.d.part.end ++ break_text br) [] []) (sym nothing_after) (room_at_end (h.d.part.end ++ break_text br) (λ x more. (broken x).0));
      lead = (broken []).1 ∙ lead_is n c w read h;
      starts = λ t e. starts_at n c w read h (λ none. absurd (false≢true (sym (some_more h.d.part.end h.d.after some) ∙ ap is_empty none))) t;
    }

  -- ---- after a marker

  module _ (none : h.d.part.end ≡ []) where
    no_gap : h.d.before ++ h.d.part.end ≡ h.d.before
    no_gap = ap (λ x. h.d.before ++ x) none ∙ append-nil h.d.before

    before_open : is_closed_text h.d.before ≡ false
    before_open = ap is_closed_text (sym no_gap) ∙ all_open

    abbrev broken_text : List ℕ
    broken_text = h.d.before ++ break_text br

    marker : IsAfterMarker (break_text br) n c h.d
    marker = after_marker (break_text br) n c h.d (cut n c w read h).parts h.placed nothing_after (open_some h.d.before before_open)

    marker_open : is_closed_text (last_marker c) ≡ false
    marker_open = sym (closed_after marker.end.pre (last_marker c) (long_some (last_marker c) marker.end.long))
        ∙ (ap is_closed_text (sym marker.end.before_is) ∙ before_open)

    fits_there : PartFits (break_text br) h.d.part c
    fits_there = grind (arith, common_steps, long_some, marker, false_from_ne_true, false≢true, marker_open, closed_line, break_is)

    -- the text with a break after it
    abbrev other : Cut
    other = with_last_part (break_text br) h.d.part c

    abbrev d : PlacedPart
    d = broken_before (break_text br) h.d

    other_is_there : IsDocumentAt (with_last_part (break_text br) h.d.part c) n (broken_before (break_text br) h.d)
    other_is_there = document_is_there_at other n d marker.placed

    other_text : cut_text (with_last_part (break_text br) h.d.part c) ≡ h.d.before ++ break_text br
    other_text = other_is_there.text ∙ (ap (λ t. broken_text ++ t) (part_is n c w read h [] ∙ ap (λ t. t ++ []) none) ∙ append-nil broken_text)

    piece : IsPiece (h.d.before ++ break_text br)
    piece = pieces_joined h.d.before (break_text br) (subst IsPiece (h.before_is ∙ no_gap) (pieces n c w read h).0) (break_piece br)

    module _ (size : length (h.d.before ++ break_text br) ≤ text_limit) where
      other_cut : IsCut (cut_text (with_last_part (break_text br) h.d.part c)) (with_last_part (break_text br) h.d.part c)
      other_cut = marker_appended (cut_text c) c (break_text br) h.d.part (cut n c w read h) fits_there (ap is_text other_text ∙ piece.characters) (subst (λ t. length t ≤ text_limit) (sym other_text) size)

      other_documents : all_documents (with_last_part (break_text br) h.d.part c) ≡ true
      unfolding read_at
      other_documents = ap (list_all is_document) marker.parts_are ∙ (text_takes (cut_text c) c (guard_then _ read).1).1

      other_read : read_at (cut_text (with_last_part (break_text br) h.d.part c)) ≡ Some (with_last_part (break_text br) h.d.part c)
      unfolding read_at
      other_read = cond-true _ _ _ (ap is_utf8 other_text ∙ is_utf8-from_IsUtf8 broken_text piece.utf8) ∙ text_again (cut_text other) other other_cut other_documents

      abbrev place : TextPiece
      place = record { before = (h.d.before ++ break_text br) ++ h.d.part.end; text = []; after = [] }

      other_root : IsUnwrittenRoot n (with_last_part (break_text br) h.d.part c) (record { before = (h.d.before ++ break_text br) ++ h.d.part.end; text = []; after = [] })
      other_root = record { d = broken_before (break_text br) h.d; placed = marker.placed; rows_are = h.rows_are; before_is = refl; text_is = refl; following_is = refl }

      other_closed : is_closed_text ((h.d.before ++ break_text br) ++ h.d.part.end) ≡ true
      other_closed = ap is_closed_text (ap (λ x. broken_text ++ x) none ∙ append-nil broken_text) ∙ closed_end h.d.before (break_text br) (break_kind (break_text br) (break_is br))

      takes_after_marker : TakesValue n (with_last_part (break_text br) h.d.part c) (broken_before (break_text br) h.d) h.d.part.end [] []
      unfolding other_root
      takes_after_marker = search (rules, takes_unwritten n other place other_read other_root other_closed br, room_at_end)

  -- ---- both

  module _ (v : Node) (l : Layout) (step : 1 ≤ l.mapping) (value_tree : IsValueTree v) (fits : FitsPart v h.d.part) (ss : List Segment) (before : kept_front ss ≡ w.before) (after : kept_back ss ≡ w.after)
      (is : new_text ss ≡ h.d.before ++ (h.d.part.end ++ (break_text br ++ (block_value l 0 v ++ h.d.after)))) (readable : IsReadable (new_text ss)) where
    -- the marker gets a break, and rows come after it
    carried_after_marker : h.d.part.end ≡ [] → CarriedOut (replace n [] v) c ss
    carried_after_marker none =
        let text : (h.d.before ++ break_text br) ++ (h.d.part.end ++ (block_value l 0 v ++ [])) ≡ new_text ss = search (rules, append_assoc, nothing_after) in
        let size : length (h.d.before ++ break_text br) ≤ text_limit =
        omega (arith, readable.size, ap length text, length-append (h.d.before ++ break_text br) (h.d.part.end ++ (block_value l 0 v ++ []))) in
        let takes = takes_after_marker none size in
        let d2 : PlacedPart = broken_before (break_text br) h.d in
        let c2 : Cut = with_last_part (break_text br) h.d.part c in
        let m = marker none in
        let rs : List Row = root_rows l h.d.part.end 0 [] v in
        let q : Part = rooted rs [] h.d.part in
        let whole : cut_text (put_document n q c2) ≡ new_text ss = text_is n c2 d2 h.d.part.end [] [] takes v l 0 step value_tree fits.near ∙ text in
        let there : IsReadable (cut_text (put_document n q c2)) = subst IsReadable (sym whole) readable in
        let last : List Item = rows_items rs (end_item [] [] ∷ []) in
        let front : List Item = m.end.above in
        let lead : List ℕ = m.end.gap ++ last_marker c in
        let old_are : items_of_cut c ≡ front ++ (end_item m.end.gap (last_marker c) ∷ (end_item [] [] ∷ [])) = search (rules, front, m.end) in
        let front_text : items_text (front ++ (end_item m.end.gap (last_marker c) ∷ (end_item [] [] ∷ []))) [] ≡ items_text front lead =
        items_text-append front (end_item m.end.gap (last_marker c) ∷ (end_item [] [] ∷ [])) []
        ∙ ap (λ t. items_text front (m.end.gap ++ t)) (append-nil (last_marker c)) in
        let local : IsLocal ss c (put_document n q c2) = record {
          front = front;
          gone = end_item m.end.gap (last_marker c) ∷ (end_item [] [] ∷ []);
          come = end_item m.end.gap (last_marker c ++ break_text br) ∷ last;
          back = [];
          lead = lead;
          trail = [];
          old_are = old_are;
          new_are = search (rules, m.put, q, m.end.new_are, front, append-nil, rs, last);
          before_is = before ∙ (sym (append-nil w.before)
              ∙ (ap (λ t. w.before ++ t) (sym (h.following_is ∙ nothing_after))
              ∙ (unwritten_root.whole n c w read h ∙ (sym (items_of_text c) ∙ (ap (λ xs. items_text xs []) old_are ∙ front_text)))));
          following_is = after ∙ (h.following_is ∙ nothing_after);
          begins = (
            omega arith,
            omega (
              arith,
              length-append m.end.gap (last_marker c),
              length-append m.end.gap (last_marker c ++ break_text br),
              length-append (last_marker c) (break_text br),
            ),
          );
          ends = (omega arith, last_nothing (end_item m.end.gap (last_marker c ++ break_text br) ∷ last));
        } in
        record {
          reads = same_reads (replace n [] v) c2 c (new_text ss) (other_read none size) read m.parts_are
              (subst (ReadsAfter (replace n [] v) c2) whole (root_reads n c2 d2 h.d.part.end [] [] takes v l 0 step value_tree fits.near fits.value_is fits.spared there));
          local = inl (cut_known ss c (put_document n q c2) (root_read n c2 d2 h.d.part.end [] [] takes v l 0 step value_tree fits.near fits.value_is fits.spared there) whole local);
        }

    carried_following_gap : is_empty h.d.part.end ≡ false → CarriedOut (replace n [] v) c ss
    carried_following_gap some =
        let takes = takes_following_gap some in
        let st = is_located n c w read h in
        let rows = are n c h.d (h.d.part.end ++ break_text br) [] [] takes v l 0 step value_tree fits.near in
        value_carried n c h.d (h.d.part.end ++ break_text br) [] [] v l 0 ss takes step value_tree fits
        (ap (λ t. h.d.before ++ t) (append_assoc h.d.part.end (break_text br) (block_value l 0 v ++ h.d.after)) ∙ sym is) readable
        (λ new there. gap_moves n c h.d.part st.there h.d.before (λ x. st.put x ∙ ap (λ t. h.d.before ++ part_text x t) (sym st.after)) ss (root_rows l (h.d.part.end ++ break_text br) 0 [] v) (break_text br) h.rows_are rows.some rows.first
        (before ∙ h.before_is) (after ∙ (h.following_is ∙ sym st.after)))

    pub open_carried : CarriedOut (replace n [] v) c ss
    open_carried = search (rules, empty_cases, carried_after_marker, carried_following_gap)
