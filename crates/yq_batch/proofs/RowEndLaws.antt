-- The end of a mapping's entries is there still after a value is put in one of its rows, and after an entry is put there; so are the rows before it.
use Rattle.std.proofs.Common.{◌≡◌, ◌⊎◌, ⊎_elim, inl, inr, ℕ, suc, ◌+◌, ◌*◌, ◌<◌, ◌≤◌, false, List, [], ◌∷◌, ◌++◌, length, map, take, Some}
use Rattle.std.proofs.Common.{refl, sym, ap, ◌∙◌, subst, arith, append_assoc, append-nil, length-append}
use Rattle.std.{proofs.lemmas.List.append_cancel_right, proofs.lemmas.Option.same_Some, specs.List.slice_get}
use Rattle.yq_text.{specs.Limit.text_limit, specs.Script.{Segment, new_text}}
use Rattle.yq_core.{specs.BlockWritten.break_text, specs.Nodes.FlowNode, specs.Paths.Step, specs.Text.is_empty, specs.Tree.Node}
use Rattle.yq_core.{specs.declared.block_types.Break.Break, specs.declared.block_types.Break.TheVariants.{CrLf, Lf}}
use Rattle.yq_outline.{specs.Extents.dash_at, specs.RowWalk.{deeper_rows, line_level}}
use Rattle.yq_row_table.{specs.Rows.{Cut, Inline, Part, Row, after_columns, cut_text, print_row, rows_text}, specs.Seams.is_block}
use Rattle.yq_row_table.{specs.Splices.after_part, specs.View.slices}
use Rattle.yq_documents.{specs.Documents.document_parts, specs.PartNumbers.part_number, specs.Reading.{documents, read_at}}
use Rattle.yq_places.{specs.FirstBreak.first_break, specs.PlacedRows.{PlacedPart, before_part}}
use Rattle.yq_places.specs.Placements.{RowsOfEntry, before_entry, after_entry, rows_of_entry}
use Rattle.yq_semantics.{specs.Fits.Fits, specs.Operations.append, specs.Rooms.room_of}
use Rattle.yq_edit_rules.{proofs.RowStayLaws.{placed_put, there_then}, specs.Appends.inserted, specs.BlockReading.is_filled}
use Rattle.yq_edit_rules.{specs.BlockRows.key_row, specs.Changed.put_document, specs.EntryEdits.{entry_lines, more_lines}}
use Rattle.yq_edit_rules.{specs.Layouts.layout_of, specs.Operands.HasOperand, specs.PlacedParts.IsDocumentAt}
use Rattle.yq_edit_rules.{specs.Rooms.{RowShape, row_shape}, specs.RowChanges.ChangesRow, specs.PlacementLaws.HasItsRows}
use Rattle.yq_edit_rules.{proofs.CommentRowLaws.rows_front, proofs.FlowKeptLaws.one_other, proofs.LayoutLaws.more_like}
use Rattle.yq_edit_rules.{proofs.PlacedPartLaws.document_is_there_at, proofs.PlacementRows.rows_located}
use Rattle.yq_edit_laws.{proofs.CutLaws.text_read, proofs.EntryAdds.{AddsEntry, adds_as, new, next, read_next, row_is, unfilled_alike}}
use Rattle.yq_edit_laws.proofs.LinesAppends.{compact_adds, compact_last_some, dash_is_there, root_adds, root_last_some}
use Rattle.yq_edit_laws.proofs.UnderAppends.{last_some, is_located, under_adds}
use Rattle.yq_batch.{specs.OpenRows.head_front, proofs.KeptBreakLaws.{break_before, holds_after}}
use Rattle.yq_batch.specs.RowEnds.{AreMappingRows, EndOfEntries, EndsAfterRows, EndsHere, EndsInEntry, HasNoHead, IsAfterDash, IsUnderMark}
use Rattle.yq_batch.proofs.RowOrder.{StaysBefore, begins_within, entry_placed, front_stays, one_end, one_keeps, one_rows, others_stay, q}
use Rattle.yq_batch.proofs.RowOrder.{stays_before}
use Rattle.yq_batch.proofs.RowsUnder.{IsRowIn, deeper_by_shapes, deeper_more, entries_more, entries_then, level_by_shape, row_in}
use Rattle.yq_batch.{proofs.RowsUnder.{rows_split, same_split, under_size, under_then}, proofs.RowShapes.entry_like}

-- an item or entry without a node on its line is so in the same row elsewhere
bare_there : (e now : RowsOfEntry) → now.row ≡ e.row → now.line ≡ e.line → HasNoHead e → HasNoHead now
bare_there e now row line h = record {
  last = line ∙ (h.last ∙ ap (λ (r : Row). length r.dashes) (sym row));
  plain = ap (λ (r : Row). is_block r.content) row ∙ h.plain;
  none = ap (λ (r : Row). is_empty (slices r).head) row ∙ h.none;
}

-- The rows of an item or entry are there still, but for those under it, which are these then.
module _ (z : EndOfEntries) (m : ℕ) (s : Step) (ss : List Step) (d next : Cut) (front back : List Row) (e : EndsInEntry m s ss z d front back) (read : read_at (cut_text next) ≡ Some next) (w : StaysBefore e.entry m (s ∷ ss) next)
    (p : Part) (there : slice_get (document_parts next) m ≡ Some p) (us front_now : List Row) (front_is : front_now ≡ e.entry.front ++ (e.entry.row ∷ us)) (rows_are : p.rows ≡ front_now ++ back)
    (deep : deeper_rows (line_level e.entry.line (slices e.entry.row)) (map slices (us ++ e.entry.back)) ≡ length us) (entries : IsUnderMark z e.entry → AreMappingRows us z.column) where
  under_is : (w.now.under ≡ us) × (w.now.back ≡ e.entry.back)
  under_is =
      under_then m s ss e.entry next read w p there us e.entry.back
      (rows_are ∙ ((λ i. front_is i ++ e.back_is i) ∙ append_assoc e.entry.front (e.entry.row ∷ us) e.entry.back)) deep

  place_now : IsUnderMark z e.entry ⊎ IsAfterDash z e.entry → IsUnderMark z w.now ⊎ IsAfterDash z w.now
  place_now (inl u) = inl (record {
    first = u.first ∙ ap (λ (rs : List Row). suc (length rs)) (sym w.front);
    bare = bare_there e.entry w.now w.row w.line u.bare;
    entries = subst (λ (rs : List Row). AreMappingRows rs z.column) (sym under_is.0) (entries u);
  })
  place_now (inr k) = inr (record {
    first = k.first ∙ ap length (sym w.front);
    dash = omega (arith, k.dash, w.line, ap (λ (r : Row). length r.dashes) w.row);
    column_is = (λ i. after_columns (w.row i).column (take (suc (w.line i)) (w.row i).dashes)) ∙ k.column_is;
  })

  still_in : EndsInEntry m s ss z next front_now back
  still_in = record {
    entry = w.now;
    found = w.found;
    place = place_now e.place;
    deep = let same : line_level w.now.line (slices w.now.row) ≡ line_level e.entry.line (slices e.entry.row) = λ i. line_level (w.line i) (slices (w.row i)) in omega (arith, same, e.deep);
    front_is = front_is ∙ (λ i. sym w.front i ++ (sym w.row i ∷ sym under_is.0 i));
    back_is = e.back_is ∙ sym under_is.1;
  }

break_ends : (br : Break) → (b : List ℕ) × (break_text br ≡ b ++ (10 ∷ []))
break_ends Lf = ([], refl)
break_ends CrLf = (13 ∷ [], refl)

-- the row of an entry begins at this level
new_level : (column : ℕ) (key : List ℕ) (node : FlowNode) (end : List ℕ) → line_level 0 (slices (key_row column key (Inline (32 ∷ []) node end))) ≡ 3 * column + 2
unfolding dash_at
new_level column key node end = omega arith

module _ (z : EndOfEntries) (m : ℕ) (d : Cut) (rest : List ℕ) (read_d : read_at (cut_text d) ≡ Some d) (h : EndsHere z m d rest) where
  abbrev p : Part
  p = h.placed.part

  at : IsDocumentAt d m h.placed
  at = document_is_there_at d m h.placed h.there

  abbrev pub upto : List ℕ
  upto = h.placed.before ++ rows_text h.front []

  pub text_upto : cut_text d ≡ upto ++ rest
  text_upto = rows_split m d h.placed h.front h.back h.there h.rows_are ∙ ap (λ (t : List ℕ). upto ++ t) h.after

  -- what begins before the text after the mapping is in one of the rows up to its last one
  pub early : (u : Step) (us : List Step) (k : RowsOfEntry) → rows_of_entry m (u ∷ us) d ≡ Some k → length rest + length (head_front k) < length (cut_text d) → length k.front < length h.front
  early u us k found less = begins_within m u us d k h.placed h.front h.back read_d found h.there h.rows_are (omega (arith, less, ap length text_upto, length-append upto rest))

  -- a document with another part in its place
  abbrev placed_with : Part → PlacedPart
  placed_with x = record { before = before_part (part_number m d) d; part = x; after = after_part (part_number m d) d }

  after_with : (x : Part) → x.end ≡ p.end → rows_text h.back (x.end ++ (placed_with x).after) ≡ rest
  after_with x end = (λ i. rows_text h.back (end i ++ at.after i)) ∙ h.after

  -- a value in a row of the mapping
  module _ (u : Step) (us : List Step) (k : RowsOfEntry) (found : rows_of_entry m (u ∷ us) d ≡ Some k) (later : z.first ≤ length k.front) (less : length rest + length (head_front k) < length (cut_text d))
      (segments : List Segment) (y : ChangesRow m d k segments) where
    abbrev now : Part
    now = q d m y.part y.front y.back y.row y.new y.there y.rows_are y.shape

    abbrev next_cut : Cut
    next_cut = put_document m now d

    same : y.part ≡ p
    same = same_Some _ _ (sym y.there ∙ at.there)

    x : IsRowIn y.front y.row y.back h.front h.back
    x = row_in y.front y.row y.back h.front h.back (sym y.rows_are ∙ (ap (λ (a : Part). a.rows) same ∙ h.rows_are)) (omega (arith, y.front_size, early u us k found less))

    abbrev front_now : List Row
    front_now = y.front ++ (y.new ∷ x.mid)

    rows_now : now.rows ≡ front_now ++ h.back
    rows_now = one_rows y.part y.front y.back y.new ∙ (ap (λ (rs : List Row). y.front ++ (y.new ∷ rs)) x.back_is ∙ sym (append_assoc y.front (y.new ∷ x.mid) h.back))

    there : slice_get (document_parts next_cut) m ≡ Some now
    there = there_then d m y.part now y.there (one_keeps y.part y.front y.back y.new)

    module _ (read_next : read_at (cut_text next_cut) ≡ Some next_cut) (text : List ℕ) (text_next : cut_text next_cut ≡ text ++ (10 ∷ rest)) where
      stays_under : (s : Step) (ss : List Step) (e : EndsInEntry m s ss z d h.front h.back) → IsUnderMark z e.entry → EndsInEntry m s ss z next_cut front_now h.back
      stays_under s ss e u =
          let n : RowsOfEntry = e.entry in
          let before : length n.front < length y.front = omega (arith, later, u.first, y.front_size) in
          let g = row_in n.front n.row n.under y.front (y.row ∷ x.mid) (sym e.front_is ∙ x.first_is) before in
          let w = front_stays d m y.part y.front y.back y.row y.new y.there y.rows_are y.shape (s ∷ ss) n e.found before in
          let us_now : List Row = g.mid ++ (y.new ∷ x.mid) in
          let shapes : map row_shape (us_now ++ n.back) ≡ map row_shape (n.under ++ n.back) =
          ap (map row_shape) (append_assoc g.mid (y.new ∷ x.mid) n.back)
          ∙ (one_other g.mid y.new y.row (x.mid ++ n.back) y.shape
          ∙ ap (map row_shape) (sym (append_assoc g.mid (y.row ∷ x.mid) n.back) ∙ ap (λ (rs : List Row). rs ++ n.back) (sym g.back_is))) in
          still_in z m s ss d next_cut h.front h.back e read_next w now there us_now front_now
          (ap (λ (rs : List Row). rs ++ (y.new ∷ x.mid)) g.first_is ∙ append_assoc n.front (n.row ∷ g.mid) (y.new ∷ x.mid)) rows_now
          (deeper_by_shapes _ _ _ shapes
          ∙ (under_size m (s ∷ ss) d n e.found ∙ omega (arith, ap length g.back_is, length-append g.mid (y.row ∷ x.mid), length-append g.mid (y.new ∷ x.mid))))
          (λ also. entries_then z.column n.under g.mid x.mid y.row y.new also.entries g.back_is y.shape)

      -- that row may be the one of its dash
      stays_after_dash : (s : Step) (ss : List Step) (e : EndsInEntry m s ss z d h.front h.back) → IsAfterDash z e.entry → EndsInEntry m s ss z next_cut front_now h.back
      stays_after_dash s ss e k =
          let n : RowsOfEntry = e.entry in
          let l = entry_like d m y.part now y.there (others_stay d m y.part y.front y.back y.row y.new y.there y.rows_are y.shape).shapes (one_keeps y.part y.front y.back y.new) (s ∷ ss) n e.found in
          let own : HasItsRows m s ss next_cut l.now = rows_located m s ss next_cut l.now read_next l.found in
          let rows : (l.now.front ++ (l.now.row ∷ l.now.under)) ++ l.now.back ≡ front_now ++ h.back =
          append_assoc l.now.front (l.now.row ∷ l.now.under) l.now.back ∙ (sym own.rows_are ∙ (ap (λ (a : Part). a.rows) (same_Some _ _ (sym own.old.there ∙ there)) ∙ rows_now)) in
          let size : length (l.now.front ++ (l.now.row ∷ l.now.under)) ≡ length front_now =
          omega (
            arith,
            l.size,
            l.under,
            length-append l.now.front (l.now.row ∷ l.now.under),
            length-append n.front (n.row ∷ n.under),
            ap length e.front_is,
            ap length x.first_is,
            length-append y.front (y.row ∷ x.mid),
            length-append y.front (y.new ∷ x.mid),
          ) in
          let g = same_split (l.now.front ++ (l.now.row ∷ l.now.under)) l.now.back front_now h.back rows size in
          record {
            entry = l.now;
            found = l.found;
            place = inr (record {
              first = k.first ∙ sym l.size;
              dash = omega (arith, k.dash, l.line, ap (λ (r : RowShape). length r.dashes) l.shape);
              column_is = (λ i. after_columns (l.shape i).column (take (suc (l.line i)) (l.shape i).dashes)) ∙ k.column_is;
            });
            deep =
                let level : line_level l.now.line (slices l.now.row) ≡ line_level n.line (slices n.row) = ap (λ (j : ℕ). line_level j (slices l.now.row)) l.line ∙ level_by_shape n.line l.now.row n.row l.shape in
                omega (arith, level, e.deep);
            front_is = sym g.0;
            back_is = sym g.1;
          }

      stays_after : (steps : List Step) → EndsAfterRows m steps z d h.front h.back → EndsAfterRows m steps z next_cut front_now h.back
      stays_after [] e = (entries_then z.column h.front y.front x.mid y.row y.new e.0 x.first_is y.shape, e.1)
      stays_after (s ∷ ss) e = ⊎_elim {0, 0, 0} (stays_under s ss e) (stays_after_dash s ss e) e.place

      pub end_stays : EndsHere z m next_cut rest
      end_stays = record {
        placed = placed_with now;
        there = placed_put d m y.part now y.there (one_keeps y.part y.front y.back y.new);
        front = front_now;
        back = h.back;
        rows_are = rows_now;
        ends = stays_after z.steps h.ends;
        after = after_with now (one_end y.part y.front y.back y.new ∙ ap (λ (a : Part). a.end) same);
        text = text;
        ended = text_next;
      }

  ended : upto ≡ h.text ++ (10 ∷ [])
  ended = append_cancel_right _ _ rest (sym text_upto ∙ (h.ended ∙ sym (append_assoc h.text (10 ∷ []) rest)))

  -- an entry at the end
  module _ (key : List ℕ) (v : Node) where
    -- where it is what an item or entry holds
    module _ (s : Step) (ss : List Step) (e : EndsInEntry m s ss z d h.front h.back) where
      abbrev n : RowsOfEntry
      n = e.entry

      placed_there : (n.start ≡ h.placed.before) × (n.end ≡ p.end) × (n.after ≡ h.placed.after)
      placed_there = entry_placed m (s ∷ ss) d n h.placed e.found h.there

      before : before_entry n ++ print_row n.row (rows_text n.under []) ≡ upto
      before =
          append_assoc n.start (rows_text n.front []) (print_row n.row (rows_text n.under []))
          ∙ ((λ i. placed_there.0 i ++ sym (rows_front n.front (n.row ∷ n.under) []) i) ∙ ap (λ (us : List Row). h.placed.before ++ rows_text us []) (sym e.front_is))

      following : after_entry n ≡ rest
      following = (λ i. rows_text (sym e.back_is i) (placed_there.1 i ++ placed_there.2 i)) ∙ h.after

      adds_as_here : (own : HasItsRows m s ss d n) (column : ℕ) → column ≡ z.column →
          AddsEntry m (s ∷ ss) key v d own.part (n.front ++ (n.row ∷ n.under)) n.back column
          (before_entry n ++ print_row n.row (rows_text n.under [])) (after_entry n) →
          AddsEntry m (s ∷ ss) key v d p h.front h.back z.column upto rest
      adds_as_here own column same =
          adds_as m (s ∷ ss) key v d own.part p (n.front ++ (n.row ∷ n.under)) h.front n.back h.back column z.column (before_entry n ++ print_row n.row (rows_text n.under [])) upto (after_entry n) rest
          (same_Some _ _ (sym own.old.there ∙ at.there)) (sym e.front_is) (sym e.back_is) same before following

      adds_by : IsUnderMark z n ⊎ IsAfterDash z n → AddsEntry m (s ∷ ss) key v d p h.front h.back z.column upto rest
      adds_by (inl u) =
          let r : Row = u.entries.first in
          let rs : List Row = u.entries.others in
          let broken = last_some m s ss d n r rs read_d e.found u.entries.are u.entries.marked h.text (before ∙ ended) in
          adds_as_here (is_located m s ss key v d n read_d e.found r rs u.bare.last u.bare.plain u.bare.none u.entries.are u.entries.marked broken) r.column u.entries.column_is
          (under_adds m s ss key v d n read_d e.found r rs u.bare.last u.bare.plain u.bare.none u.entries.are u.entries.marked broken)
      adds_by (inr k) =
          adds_as_here (dash_is_there m s ss d n read_d e.found k.dash) _ k.column_is
          (compact_adds m s ss d n read_d e.found k.dash key v (compact_last_some m s ss d n read_d e.found k.dash h.text (before ∙ ended)))

    pub adds_after : (steps : List Step) → EndsAfterRows m steps z d h.front h.back → AddsEntry m steps key v d p h.front h.back z.column upto rest
    adds_after [] e =
        let all : p.rows ≡ h.front = h.rows_are ∙ (ap (λ (rs : List Row). h.front ++ rs) e.1 ∙ append-nil h.front) in
        let before : h.placed.before ++ rows_text p.rows [] ≡ upto = ap (λ (rs : List Row). h.placed.before ++ rows_text rs []) all in
        let are : p.rows ≡ e.0.first ∷ e.0.others = all ∙ e.0.are in
        adds_as m [] key v d p p p.rows h.front [] h.back e.0.first.column z.column _ upto _ rest refl all (sym e.1) e.0.column_is before
        (ap (λ (rs : List Row). rows_text rs (p.end ++ h.placed.after)) (sym e.1) ∙ h.after)
        (root_adds m d h.placed read_d h.there e.0.first e.0.others are e.0.marked key v (root_last_some m d h.placed read_d h.there e.0.first e.0.others are e.0.marked h.text (before ∙ ended)))
    adds_after (s ∷ ss) e = adds_by s ss e e.place

    abbrev pub adds : AddsEntry m z.steps key v d p h.front h.back z.column upto rest
    adds = adds_after z.steps h.ends

    module _ (c : Cut) (unfilled : is_filled v ≡ false) (breaks : first_break (cut_text d) ≡ first_break (cut_text c)) where
      pub lines_are : more_lines (layout_of m d) (Some key) v z.column (10 ∷ []) ≡ more_lines (layout_of m c) (Some key) v z.column (10 ∷ [])
      lines_are = more_like (Some key) v (layout_of m d) (layout_of m c) z.column (10 ∷ []) (unfilled_alike v (layout_of m d) (layout_of m c) unfilled breaks)

    module _ (unfilled : is_filled v ≡ false) (operand : HasOperand (append m z.steps (Some key) v))
        (fits : Fits (room_of (cut_text d)) (append m z.steps (Some key) v) (documents d)) (small : length (new_text adds.segments) ≤ text_limit)
      where
        abbrev pub after : Cut
        after = next m z.steps key v d p h.front h.back z.column upto rest read_d adds unfilled operand fits small

        abbrev come : Row
        come = new m z.steps key v d p h.front h.back z.column upto rest read_d adds unfilled operand fits small

        pub read_new : read_at (new_text adds.segments) ≡ Some after
        read_new = read_next m z.steps key v d p h.front h.back z.column upto rest read_d adds unfilled operand fits small

        read_after : read_at (cut_text after) ≡ Some after
        read_after = ap read_at (text_read (new_text adds.segments) after read_new) ∙ read_new

        abbrev longer : Part
        longer = inserted h.front (come ∷ []) h.back p

        stays : (steps : List Step) (k : RowsOfEntry) → rows_of_entry m steps d ≡ Some k → length k.front < length h.front → StaysBefore k m steps after
        stays = stays_before d m p longer h.front h.back (come ∷ h.back) at.there h.rows_are (one_rows p h.front h.back come) (one_end p h.front h.back come) (one_keeps p h.front h.back come)

        -- rows before it
        pub row_stays : (u : Step) (us : List Step) (k : RowsOfEntry) → rows_of_entry m (u ∷ us) d ≡ Some k → length rest + length (head_front k) < length (cut_text d) → StaysBefore k m (u ∷ us) after
        row_stays u us k found less = stays (u ∷ us) k found (early u us k found less)

        rows_after : longer.rows ≡ (h.front ++ (come ∷ [])) ++ h.back
        rows_after = one_rows p h.front h.back come ∙ sym (append_assoc h.front (come ∷ []) h.back)

        there_after : slice_get (document_parts after) m ≡ Some longer
        there_after = there_then d m p longer at.there (one_keeps p h.front h.back come)

        more_in : (s : Step) (ss : List Step) → EndsInEntry m s ss z d h.front h.back → EndsInEntry m s ss z after (h.front ++ (come ∷ [])) h.back
        more_in s ss e =
            let n : RowsOfEntry = e.entry in
            let w = stays (s ∷ ss) n e.found (omega (arith, ap length e.front_is, length-append n.front (n.row ∷ n.under))) in
            let own : line_level 0 (slices come) ≡ 3 * z.column + 2 =
            new_level z.column key (row_is m z.steps key v d p h.front h.back z.column upto rest read_d adds unfilled operand fits small).0 (break_text (first_break (cut_text d))) in
            let level : line_level n.line (slices n.row) < line_level 0 (slices come) = omega (arith, e.deep, own) in
            still_in z m s ss d after h.front h.back e read_after w longer there_after (n.under ++ (come ∷ [])) (h.front ++ (come ∷ []))
            (ap (λ (rs : List Row). rs ++ (come ∷ [])) e.front_is ∙ append_assoc n.front (n.row ∷ n.under) (come ∷ [])) rows_after
            (ap (λ (rs : List Row). deeper_rows (line_level n.line (slices n.row)) (map slices rs)) (append_assoc n.under (come ∷ []) n.back)
            ∙ deeper_more _ n.under n.back come (under_size m (s ∷ ss) d n e.found) level)
            (λ u. entries_more z.column n.under come u.entries)

        more_after : (steps : List Step) → EndsAfterRows m steps z d h.front h.back → EndsAfterRows m steps z after (h.front ++ (come ∷ [])) h.back
        more_after [] e = (entries_more z.column h.front come e.0, e.1)
        more_after (s ∷ ss) e = more_in s ss e

        pub end_after : EndsHere z m after rest
        end_after =
            let br = break_ends (first_break (cut_text d)) in
            let lines : List ℕ = entry_lines (layout_of m d) z.column (Some key) v in
            record {
              placed = placed_with longer;
              there = placed_put d m p longer at.there (one_keeps p h.front h.back come);
              front = h.front ++ (come ∷ []);
              back = h.back;
              rows_are = rows_after;
              ends = more_after z.steps h.ends;
              after = after_with longer (one_end p h.front h.back come);
              text = upto ++ (lines ++ br.0);
              ended =
                  text_read (new_text adds.segments) after read_new
                  ∙ (adds.puts.new_is
                  ∙ (ap (λ (b : List ℕ). upto ++ ((lines ++ b) ++ rest)) br.1
                  ∙ (ap (λ (t : List ℕ). upto ++ t) (ap (λ (t : List ℕ). t ++ rest) (sym (append_assoc lines br.0 (10 ∷ []))) ∙ append_assoc (lines ++ br.0) (10 ∷ []) rest) ∙ sym (append_assoc upto (lines ++ br.0) (10 ∷ rest)))));
            }

        -- the first break of the text is like the one before
        pub end_breaks : first_break (cut_text after) ≡ first_break (cut_text d)
        end_breaks =
            let on : List ℕ = more_lines (layout_of m d) (Some key) v z.column (10 ∷ []) ++ rest in
            ap first_break (text_read (new_text adds.segments) after read_new ∙ (adds.puts.new_is ∙ ap (λ (l : List ℕ). l ++ on) ended))
            ∙ (break_before (h.text ++ (10 ∷ [])) on rest (holds_after h.text (10 ∷ []) refl)
            ∙ ap first_break (append_assoc h.text (10 ∷ []) rest ∙ sym h.ended))
