-- One item or entry more at the end of a block collection: what is put there reads as the documents after the operation.
use Rattle.yq_edit_laws.{proofs.DashNodes.dashes_from, proofs.CollectionRows.{EndIn, past_front, text_broken}}
use Rattle.yq_edit_laws.proofs.CollectionIsThere.{are, begins_after, begins_under, end_at, ends_there, headless_dash, headless_mark}
use Rattle.yq_edit_laws.{proofs.CollectionIsThere.root_ends, proofs.FinalBreaks.{entry_some, mark_some}}
use Rattle.yq_edit_laws.proofs.AppendInside.{IsPutAt, edit_at, held_put_at, lines_put_at}
use Rattle.std.proofs.Common.{rules, inl, inr, ◌⊎◌, ◌≡◌, ℕ, suc, ◌<◌, ◌≤◌, Bool, true, false, cond, eqb, not, List, [], ◌∷◌, ◌++◌, length}
use Rattle.std.proofs.Common.{drop, replicate, take, Option, Some, refl, sym, ap, ◌∙◌, subst, arith, append_assoc, append-nil}
use Rattle.std.{proofs.lemmas.Bool.{cases_lt, cond-false, eqb-true, eqb-false}, proofs.lemmas.Option.{none-some, same_Some}}
use Rattle.yq_core.{specs.BlockWritten.break_text, specs.Paths.Step, specs.Text.is_empty, specs.Tree.Node, proofs.Bools.bind_some}
use Rattle.yq_row_table.{specs.Exchange.row_front, specs.Grammar.{AreDashes, AreRows, IsRow, Limit, unlimited}}
use Rattle.yq_row_table.specs.Rows.{Content, Nothing, Inline, Block, Cut, Row, after_columns, after_dashes, after_indent, cut_text}
use Rattle.yq_row_table.{specs.Rows.{dashes_text, part_text, print_row, rows_text}, specs.View.{content_cut, slices}}
use Rattle.yq_row_table.proofs.NothingLaws.{some_after}
use Rattle.yq_documents.specs.Reading.{read_at}
use Rattle.yq_semantics.specs.Operations.{append}
use Rattle.yq_text.specs.Script.{Segment}
use Rattle.yq_places.{specs.CollectionEnds.{CollectionEnd, is_broken}, specs.CommentPlaces.text_to_line_end}
use Rattle.yq_places.{specs.RowPieces.{past_dash, upto_dash}, specs.PlacedRows.{PlacedPart, placed_document}, specs.PrintedLines.last_break}
use Rattle.yq_places.specs.Placements.{Held, LinesIn, RowsOfEntry, alone, root, under, before_entry, after_entry, past_mark, below}
use Rattle.yq_places.specs.Placements.{compact_in, compact_lines, dash_text, entry_placement, held, is_alone, Placement, lone}
use Rattle.yq_places.{specs.Placements.{rows_of_entry, root_lines, root_placement, placement_at}, proofs.CommentEndLaws.row_text_parts}
use Rattle.yq_places.{proofs.DashLaws.{line_within, row_cut}, proofs.PrintedTexts.{less_is, map_some}}
use Rattle.yq_edit_rules.{specs.CollectionPlaces.IsCollectionEnd, specs.DocumentRows.{IsDocumentPart, after_document}}
use Rattle.yq_edit_rules.{specs.PlacedParts.IsDocumentAt, specs.PlacementLaws.HasItsRows, proofs.EndedRowLaws.row_there}
use Rattle.yq_edit_rules.{proofs.PartLaws.{document_known, part_rows}, proofs.PlacedPartLaws.document_is_there_at}
use Rattle.yq_edit_rules.{proofs.PlacementRows.rows_located, specs.EditLaws.{IsEdit, MoreIsPut}, specs.ClosedTexts.closed_lines_put}
use Rattle.yq_edit_rules.{specs.EntryEdits.{entry_lines, more_at, after_held, more_lines, block_more}, specs.Layouts.layout_of}
use Rattle.yq_edit_rules.{specs.PiecePuts.after_lines, proofs.AppendPlaces.IsAppendPlace}
use Rattle.yq_edit_rules.{proofs.CommentRowLaws.{entry_is_row, entry_row, rows_front}, proofs.HeldLaws.held_spelled}

-- Segments put one more item or entry at the end of a block collection.
abbrev IsMore : ℕ → List Step → Option (List ℕ) → Node → Cut → List Segment → Type 0
IsMore n steps key v c us = ((x : CollectionEnd) × IsAppendPlace n steps c x) × IsEdit (append n steps key v) c us

more_edit_at : (n : ℕ) (steps : List Step) (key : Option (List ℕ)) (v : Node) (c : Cut) (x : CollectionEnd) (us : List Segment) → read_at (cut_text c) ≡ Some c → IsAppendPlace n steps c x →
    IsPutAt x (closed_lines_put x.broken (break_text (layout_of n c).br) (entry_lines (layout_of n c) x.column key v)) us → IsMore n steps key v c us
more_edit_at n steps key v c x us read place put = ((x, place), edit_at n steps key v c x us read place put)

module _ (n : ℕ) (s : Step) (ss : List Step) (key : Option (List ℕ)) (v : Node) (c : Cut) (e : RowsOfEntry) (read : read_at (cut_text c) ≡ Some c) (is_there : rows_of_entry n (s ∷ ss) c ≡ Some e) where
  abbrev pub there : HasItsRows n s ss c e
  there = rows_located n s ss c e read is_there

  place : (column : ℕ) (broken : Bool) → IsCollectionEnd c n there.part (s ∷ ss) (end_at n s ss c e there column broken) → IsAppendPlace n (s ∷ ss) c (end_at n s ss c e there column broken)
  place column broken h = record { part = there.part; there = there.old.there; end = h }

  abbrev rows : EndIn (e.front ++ (e.row ∷ e.under))
  rows = past_front e.front e.row e.under

  broken_by : (a t : List ℕ) → rows_text (e.front ++ (e.row ∷ e.under)) [] ≡ a ++ t → is_empty t ≡ false → not (is_empty (last_break t)) ≡ is_broken rows.last.content
  broken_by a t is some =
      text_broken (e.front ++ (e.row ∷ e.under)) e.back there.part.end (after_document n c) rows
      (subst (λ rs. AreRows unlimited rs there.part.end (after_document n c)) (there.rows_are ∙ sym (append_assoc e.front (e.row ∷ e.under) e.back)) (are n s ss c e there)) a t is some

  -- the lines under a key or dash
  pub under_spelled : (held e).before ++ ((held e).space ++ ((held e).head ++ ((held e).white ++ ((held e).comment ++ ((held e).break ++ ((held e).lines ++ (held e).last)))))) ≡ before_entry e ++ print_row e.row (rows_text e.under [])
  under_spelled =
      let bare : RowsOfEntry = record { start = e.start; front = e.front; row = e.row; line = e.line; under = e.under; back = []; end = []; after = [] } in
      let h : Held = held e in
      ap (λ t. h.before ++ (h.space ++ (h.head ++ (h.white ++ (h.comment ++ (h.break ++ (h.lines ++ t))))))) (sym (append-nil h.last)) ∙ sym (held_spelled bare)

  pub below_some : (r : Row) (rs : List Row) → e.under ≡ r ∷ rs → is_alone r ≡ false → is_empty ((slices e.row).raw ++ rows_text e.under []) ≡ false
  below_some r rs is single =
      let first : IsRow _ r _ = (row_there unlimited (e.front ++ (e.row ∷ [])) r (rs ++ e.back) there.part.end (after_document n c)
      (subst (λ us. AreRows unlimited us there.part.end (after_document n c))
      (there.rows_are ∙ (ap (λ us. e.front ++ (e.row ∷ (us ++ e.back))) is ∙ sym (append_assoc e.front (e.row ∷ []) (r ∷ (rs ++ e.back)))))
      (are n s ss c e there))).1 in
      let own : is_empty (print_row r (rows_text rs [])) ≡ false = search (rules, some_after, entry_some) in
      ap (λ us. is_empty ((slices e.row).raw ++ rows_text us [])) is ∙ some_after (slices e.row).raw (print_row r (rows_text rs [])) own

  pub upto_below : rows_text (e.front ++ (e.row ∷ e.under)) [] ≡ (rows_text e.front [] ++ (text_to_line_end e.row ++ (slices e.row).tail)) ++ ((slices e.row).raw ++ rows_text e.under [])
  upto_below = search (rules, rows_front, row_text_parts, append_assoc)

  -- they end where a collection does
  pub under_end : (r : Row) (rs : List Row) → e.line ≡ length e.row.dashes → is_empty (slices e.row).head ≡ true → e.under ≡ r ∷ rs → is_alone r ≡ false →
      IsCollectionEnd c n there.part (s ∷ ss) (end_at n s ss c e there r.column (not (is_empty (held e).last)))
  under_end r rs last none is single =
      let some = below_some r rs is single in
      let last_is : (held e).last ≡ last_break ((slices e.row).raw ++ rows_text e.under []) = cond-false _ _ _ some in
      let broken : not (is_empty (held e).last) ≡ is_broken rows.last.content = ap (λ t. not (is_empty t)) last_is ∙ broken_by _ ((slices e.row).raw ++ rows_text e.under []) upto_below some in
      ends_there n s ss c e there r.column (not (is_empty (held e).last)) (headless_mark n s ss c e there last none) (begins_under n s ss c e there r rs last is single) broken

  under_edit : (r : Row) (rs : List Row) → e.line ≡ length e.row.dashes → is_empty (slices e.row).head ≡ true → e.under ≡ r ∷ rs → is_alone r ≡ false →
      IsMore n (s ∷ ss) key v c (after_held (held e) (more_lines (layout_of n c) key v r.column (held e).last))
  under_edit r rs last none is single =
      let broken : Bool = not (is_empty (held e).last) in
      more_edit_at n (s ∷ ss) key v c (end_at n s ss c e there r.column broken) _ read (place r.column broken (under_end r rs last none is single)) (held_put_at (held e) r.column _ _ _ under_spelled)

  -- a compact collection: what comes after its dash isn't nothing
  dashed : (ns ms : List ℕ) (limit : Limit) (rest : List ℕ) → IsRow limit e.row rest → (1 ≤ length ns) → AreDashes ns e.row.mark → is_empty (dashes_text ms (after_dashes e.row (rows_text e.under []))) ≡ false
  dashed [] ms limit rest h k d = absurd (omega (arith, k))
  dashed (m ∷ ns) [] limit rest h k d = mark_some e.row.mark e.row.content rest _ h.mark d.1
  dashed (m ∷ ns) (q ∷ ms) limit rest h k d = refl

  dash_some : (k : ℕ) (ns : List ℕ) → k < length ns → AreDashes ns e.row.mark → {l : Limit} {rest : List ℕ} → IsRow l e.row rest → is_empty (past_dash (drop k ns) (after_dashes e.row (rows_text e.under []))) ≡ false
  dash_some k ns h d {l} {rest} row =
      let x = dashes_from k ns h in
      ap (λ us. is_empty (past_dash us (after_dashes e.row (rows_text e.under [])))) x.2
      ∙ some_after (replicate x.0 32) (dashes_text x.1 (after_dashes e.row (rows_text e.under []))) (dashed ns x.1 l rest row (omega (arith, h)) d)

  module _ (less : e.line < length e.row.dashes) where
    abbrev w : LinesIn
    w = compact_lines e

    abbrev pub compact_column : ℕ
    compact_column = after_columns e.row.column (take (suc e.line) e.row.dashes)

    pub compact_some : is_empty (dash_text e) ≡ false
    compact_some =
        let row_is = row_there unlimited e.front e.row (e.under ++ e.back) there.part.end (after_document n c)
        (subst (λ us. AreRows unlimited us there.part.end (after_document n c)) there.rows_are (are n s ss c e there)) in
        dash_some e.line e.row.dashes less row_is.1.dashes row_is.1

    pub compact_text : print_row e.row (rows_text e.under []) ≡ row_front (upto_dash e.line e.row) ++ dash_text e
    compact_text = row_cut e.line e.row (rows_text e.under []) less

    -- it ends where a collection does
    pub compact_end : IsCollectionEnd c n there.part (s ∷ ss) (end_at n s ss c e there compact_column (not (is_empty w.last)))
    compact_end =
        let text : rows_text (e.front ++ (e.row ∷ e.under)) [] ≡ (rows_text e.front [] ++ row_front (upto_dash e.line e.row)) ++ dash_text e =
        rows_front e.front (e.row ∷ e.under) [] ∙ (ap (λ z. rows_text e.front [] ++ z) compact_text ∙ sym (append_assoc (rows_text e.front []) (row_front (upto_dash e.line e.row)) (dash_text e))) in
        ends_there n s ss c e there compact_column (not (is_empty w.last)) (headless_dash n s ss c e there less) (begins_after n s ss c e there less) (broken_by _ (dash_text e) text compact_some)

    pub compact_spelled : w.before ++ (w.lines ++ w.last) ≡ before_entry e ++ print_row e.row (rows_text e.under [])
    compact_spelled = let cut_is : print_row e.row (rows_text e.under []) ≡ row_front (upto_dash e.line e.row) ++ dash_text e = compact_text in search (rules, less_is, append_assoc)

    compact_edit : IsMore n (s ∷ ss) key v c (after_lines w (more_lines (layout_of n c) key v compact_column w.last))
    compact_edit =
        more_edit_at n (s ∷ ss) key v c (end_at n s ss c e there compact_column (not (is_empty w.last))) _ read (place compact_column (not (is_empty w.last)) compact_end)
        (lines_put_at w compact_column _ _ _ compact_spelled)

  -- a line that isn't the last one of its row
  within : (e.line ≡ length e.row.dashes → ⊥) → e.line < length e.row.dashes
  within other = go (cases_lt e.line (length e.row.dashes))
    where
      most : e.line ≤ length e.row.dashes
      most = line_within n (s ∷ ss) c (entry_row e) (entry_is_row n (s ∷ ss) c e is_there)

      go : (e.line < length e.row.dashes) ⊎ (length e.row.dashes ≤ e.line) → e.line < length e.row.dashes
      go (inl h) = h
      go (inr h) = absurd (other (omega (arith, h, most)))

  entry_edit : (us : List Segment) → block_more (layout_of n c) key v (entry_placement e) ≡ Some us → IsMore n (s ∷ ss) key v c us
  entry_edit us is = go (eqb e.line (length e.row.dashes)) refl is
    where
      under_by : (rs : List Row) → e.under ≡ rs → e.line ≡ length e.row.dashes → is_empty (slices e.row).head ≡ true → block_more (layout_of n c) key v (below e rs) ≡ Some us → IsMore n (s ∷ ss) key v c us
      under_by [] at last none h = absurd (none-some _ h)
      under_by (r ∷ rs) at last none h = by (is_alone r) refl h
        where
          by : (b : Bool) → is_alone r ≡ b →
              block_more (layout_of n c) key v
              (cond b (alone (lone (before_entry e ++ print_row e.row []) r (rows_text rs (after_entry e)))) (under (held e) r.column)) ≡ Some us →
              IsMore n (s ∷ ss) key v c us
          by true a h = absurd (none-some _ h)
          by false a h = subst (IsMore n (s ∷ ss) key v c) (same_Some _ _ h) (under_edit r rs last none at a)

      mark_by : (x : Content) → e.row.content ≡ x → e.line ≡ length e.row.dashes → block_more (layout_of n c) key v (past_mark e x) ≡ Some us → IsMore n (s ∷ ss) key v c us
      mark_by (Nothing tail) at last h = under_by e.under refl last (ap (λ (y : Content). is_empty (content_cut y).3) at) h
      mark_by (Inline space node tail) at last h = search (rules, under_by, none-some)
      mark_by (Block space anchor b) at last h = absurd (none-some _ h)

      go : (b : Bool) → eqb e.line (length e.row.dashes) ≡ b → block_more (layout_of n c) key v (cond b (past_mark e e.row.content) (compact_in e)) ≡ Some us → IsMore n (s ∷ ss) key v c us
      go true b h = mark_by e.row.content refl (eqb-true e.line (length e.row.dashes) b) h
      go false b h =
          subst (IsMore n (s ∷ ss) key v c) (same_Some _ _ h) (compact_edit (within (eqb-false e.line (length e.row.dashes) b)))

-- a root that is a block collection
module _ (n : ℕ) (c : Cut) (d : PlacedPart) (read : read_at (cut_text c) ≡ Some c) (at : placed_document n c ≡ Some d) (r : Row) (rs : List Row) (are_rows : d.part.rows ≡ r ∷ rs) (single : is_alone r ≡ false) where
  abbrev all : LinesIn
  all = root_lines d r rs

  abbrev own : List ℕ
  own = after_indent r (rows_text rs [])

  abbrev pub root_end : CollectionEnd
  root_end = record { column = r.column; before = d.before ++ rows_text d.part.rows []; broken = not (is_empty all.last); after = d.part.end ++ d.after }

  pub root_is_there : IsDocumentAt c n d
  root_is_there = document_is_there_at c n d at

  rows_there : AreRows unlimited (r ∷ rs) d.part.end (after_document n c)
  rows_there =
      let old : IsDocumentPart (cut_text c) c n d.part = record { read = read; there = root_is_there.there } in
      subst (λ us. AreRows unlimited us d.part.end (after_document n c)) are_rows (part_rows (cut_text c) c n d.part old (document_known (cut_text c) c n d.part old).cut)

  pub root_some : is_empty own ≡ false
  root_some = entry_some unlimited r _ (rows_text rs []) rows_there.0 single

  pub root_spelled : all.before ++ (all.lines ++ all.last) ≡ root_end.before
  root_spelled = search (rules, less_is, append_assoc)

  pub root_ended : IsCollectionEnd c n d.part [] root_end
  root_ended =
      let text : rows_text (r ∷ rs) [] ≡ (r.gap ++ replicate r.column 32) ++ own = sym (append_assoc r.gap (replicate r.column 32) own) in
      let broken : not (is_empty all.last) ≡ is_broken (past_front [] r rs).last.content =
      text_broken (r ∷ rs) [] d.part.end (after_document n c) (past_front [] r rs)
      (subst (λ us. AreRows unlimited us d.part.end (after_document n c)) (sym (append-nil (r ∷ rs))) rows_there) _ own text root_some in
      subst (λ (z : List ℕ). IsCollectionEnd c n d.part [] (record { column = r.column; before = d.before ++ rows_text d.part.rows []; broken = not (is_empty all.last); after = d.part.end ++ z })) root_is_there.after
      (root_ends n c d.part d.before r rs (not (is_empty all.last)) root_is_there.there are_rows single (λ q. root_is_there.put q ∙ ap (λ u. d.before ++ part_text q u) (sym root_is_there.after)) broken)

  abbrev pub root_place : IsAppendPlace n [] c root_end
  root_place = record { part = d.part; there = root_is_there.there; end = root_ended }

root_edit : (n : ℕ) (key : Option (List ℕ)) (v : Node) (c : Cut) (d : PlacedPart) (us : List Segment) → read_at (cut_text c) ≡ Some c →
    placed_document n c ≡ Some d → block_more (layout_of n c) key v (root_placement d d.part.rows) ≡ Some us → IsMore n [] key v c us
root_edit n key v c d us read at is = go d.part.rows refl is
  where
    go : (rs : List Row) → d.part.rows ≡ rs → block_more (layout_of n c) key v (root_placement d rs) ≡ Some us → IsMore n [] key v c us
    go [] are_rows h = absurd (none-some _ h)
    go (r ∷ rs) are_rows h = by (is_alone r) refl h
      where
        by : (b : Bool) → is_alone r ≡ b → block_more (layout_of n c) key v (cond b (alone (lone d.before r (rows_text rs (d.part.end ++ d.after)))) (root r.column (root_lines d r rs))) ≡ Some us → IsMore n [] key v c us
        by true a h = absurd (none-some _ h)
        by false a h =
            subst (IsMore n [] key v c) (same_Some _ _ h)
            (more_edit_at n [] key v c (root_end n c d read at r rs are_rows a) _ read (root_place n c d read at r rs are_rows a)
            (lines_put_at (root_lines d r rs) r.column _ _ _ (root_spelled n c d read at r rs are_rows a)))

more_there : (n : ℕ) (steps : List Step) (key : Option (List ℕ)) (v : Node) (c : Cut) (t : Placement) (us : List Segment) →
    read_at (cut_text c) ≡ Some c → placement_at n steps c ≡ Some t → block_more (layout_of n c) key v t ≡ Some us → IsMore n steps key v c us
more_there n [] key v c t us read at is =
    let d = map_some (placed_document n c) at in
    root_edit n key v c d.0 us read d.1 (ap (block_more (layout_of n c) key v) d.2 ∙ is)
more_there n (s ∷ ss) key v c t us read at is =
    let e = map_some (rows_of_entry n (s ∷ ss) c) at in
    entry_edit n s ss key v c e.0 read e.1 us (ap (block_more (layout_of n c) key v) e.2 ∙ is)

pub more_is_put : MoreIsPut
more_is_put n steps key v c t us read at is = (more_there n steps key v c t us read at is).1

-- it is put at the end of a block collection
pub more_place : (n : ℕ) (steps : List Step) (key : Option (List ℕ)) (v : Node) (c : Cut) (us : List Segment) → read_at (cut_text c) ≡ Some c → more_at n steps c key v ≡ Some us → (x : CollectionEnd) × IsAppendPlace n steps c x
more_place n steps key v c us read is = let t = bind_some (placement_at n steps c) is in (more_there n steps key v c t.0 us read t.1 t.2).0
