-- The sole item or entry that is left of a block collection under a key or dash, taken out of the text of a run, before the lines that were.
use Rattle.std.proofs.Common.{◌≡◌, ℕ, suc, ◌+◌, ◌-◌, ◌<◌, ◌≤◌, Bool, true, false, cond, List, [], ◌∷◌, ◌++◌, length, length-take-le, take}
use Rattle.std.proofs.Common.{drop, Option, Some, None, option_map, refl, sym, ap, ◌∙◌, subst, arith, length-append}
use Rattle.std.{proofs.lemmas.Bool.{eq-eqb, false≢true}, proofs.lemmas.List.take-append-le, proofs.lemmas.Option.same_Some}
use Rattle.std.{specs.List.slice_get, specs.Option.option_or}
use Rattle.yq_core.{specs.Answers.◌>>=◌, specs.BlockWritten.break_text, specs.Paths.{Step, To, Nth, node_at}, specs.Scalar.ScalarText}
use Rattle.yq_core.{specs.Text.is_empty, specs.Tree.Node, specs.declared.block_types.Break.Break}
use Rattle.yq_core.specs.declared.style.Place.TheVariants.{Block as InBlock}
use Rattle.yq_text.{specs.Limit.text_limit, specs.Script.{Segment, new_text, splice_at}}
use Rattle.yq_outline.{specs.Lines.lines_of_rows, specs.Outline.level}
use Rattle.yq_row_table.{specs.Rows.{Content, Nothing, Inline, Block, Row, Part, Cut, cut_text, rows_text}, specs.Grammar.no_rows}
use Rattle.yq_row_table.{specs.View.{content_cut, slices}, proofs.seams.SeamLaws.rows_text-append, proofs.splices.SpliceTexts.first_text}
use Rattle.yq_documents.{specs.Documents.Document, specs.LinesInRows.{RowLine, document_row, row_line_of}}
use Rattle.yq_documents.specs.Reading.{documents, read_at}
use Rattle.yq_places.{specs.NodesAt.{node_in, scalar_in}, specs.PlacedRows.{PlacedPart, placed_document}}
use Rattle.yq_places.specs.PrintedLines.{last_break, less_break}
use Rattle.yq_places.specs.Placements.{Held, Placement, RowsOfEntry, after_entry, alone, below, beside, compact_in, entry_placement}
use Rattle.yq_places.specs.Placements.{entry_rows_at, held, is_alone, last_step, past_mark, placement_at, rows_of_entry, under}
use Rattle.yq_places.specs.RemovalPlaces.{OwnRows, Removal, has_others_at, has_several, own_rows, removal_place, rows_out}
use Rattle.yq_places.{proofs.PrintedTexts.less_is, proofs.RemovalTexts.texts_then}
use Rattle.yq_edit_rules.specs.EntryEdits.{one_removed}
use Rattle.yq_edit_rules.specs.Edits.{empty_collection, op_edits, or_stay, part_removed, replace_segments, rows_or_sole, sole_removed}
use Rattle.yq_edit_rules.{specs.BlockReading.is_filled, specs.Layouts.layout_of, specs.LineRows.Begins, specs.PlacementLaws.HasItsRows}
use Rattle.yq_edit_rules.{specs.ReplaceEdits.{has_text, held_put, value_put, value_put_at}, specs.Replacing.{are_same, keeps_scalar}}
use Rattle.yq_edit_rules.{specs.WrittenValues.{inline, lines, column_under, lines_in, value_text}, proofs.EditsFitLaws.fits_replace}
use Rattle.yq_edit_rules.{proofs.PlacementRows.rows_located, proofs.RemovalChangeLaws.{removal_is_there, take_init}}
use Rattle.yq_edit_rules.{proofs.UnderLaws.line_with, proofs.ValueTexts.value_for, specs.DocumentRows.IsDocumentPart}
use Rattle.yq_edit_rules.proofs.PlacedPartLaws.{document_is_there_at}
use Rattle.yq_flow_edits.specs.Valued.{IsValueTree}
use Rattle.yq_semantics.{specs.Fits.Fits, specs.Operations.remove, specs.Rooms.room_of}
use Rattle.yq_edit_laws.{proofs.CutLaws.{cut_read, text_read}, proofs.HeldInline.{RowMade, nothing_made}}
use Rattle.yq_edit_laws.{proofs.HeldCarried.{KnowsHeld, first_alone}, proofs.HeldRows.held_known, proofs.SoleLaws.{empty_value, sole_fits}}
use Rattle.yq_edit_laws.{proofs.SoleParts.IsEmptiedBy, specs.Carried.{carried, carry_one}, specs.Edit.{by_reading, edit_of_segments, gives}}
use Rattle.yq_batch.{specs.RowRemovals.{IsPlacedBefore, IsRowRemovalRun, stop_after}, specs.declared.changed_rows.ChangedRows.ChangedRows}
use Rattle.yq_batch.{proofs.ChangedRowLaws.{from_back, stop_lower}, proofs.EntryRemains.{has, own_first}, proofs.RowFronts.line_there}
use Rattle.yq_batch.{proofs.RowsBeforeOffset.ends, proofs.RowsTaken.{last_is, no_part}}
use Rattle.yq_batch.proofs.EmptiedTexts as texts
use Rattle.yq_batch.proofs.SoleRows as sole

-- ---- values that are no scalars

no_scalar : (s : Step) → scalar_in (sole.emptied_value s) ≡ None
no_scalar (To k) = refl
no_scalar (Nth n) = refl

not_same : (o : Option ScalarText) → are_same o None ≡ false
not_same None = refl
not_same (Some a) = refl

unfilled : (s : Step) → is_filled (sole.emptied_value s) ≡ false
unfilled (To k) = refl
unfilled (Nth n) = refl

-- how long the lines under a key or dash are, with their last break
below_size : (b end : List ℕ) → is_empty (cond (is_empty b) [] end) ≡ false → length (less_break b) + length (cond (is_empty b) end (last_break b)) ≡ length b
below_size b end some = go (is_empty b) some
  where
    go : (e : Bool) → is_empty (cond e [] end) ≡ false → length (less_break b) + length (cond e end (last_break b)) ≡ length b
    go true h = absurd (false≢true (sym h))
    go false h = omega (arith, ap length (less_is b), length-append (less_break b) (last_break b))

some_bytes : (b : List ℕ) → is_empty b ≡ false → 1 ≤ length b
some_bytes [] e = absurd (false≢true (sym e))
some_bytes (x ∷ b) e = omega arith

-- ---- the place of the collection

module _ (c : Cut) (n : ℕ) (u : Step) (us : List Step) (s : Step) (z : ChangedRows) (keep : ℕ) (tail : List ℕ) (run : IsRowRemovalRun c n z keep tail) (read : read_at (cut_text c) ≡ Some c)
    (d : PlacedPart) (placed : placed_document n c ≡ Some d) (x : OwnRows) (own : own_rows ((u ∷ us) ++ (s ∷ [])) d.part.rows ≡ Some x) (short : length (rows_out d x).before + length (rows_out d x).gone ≤ keep)
    (q : RowLine) (line : row_line_of (u ∷ us) d.part.rows ≡ Some q) (last : q.line ≡ length q.row.dashes) (next : q.before + 1 ≡ length x.front)
    (stops : document_row n c + length (entry_rows_at d q).front + suc (length (entry_rows_at d q).under) ≡ stop_after z (document_row n c + length x.front + length x.own)) where
  abbrev steps : List Step
  steps = (u ∷ us) ++ (s ∷ [])

  abbrev k : ℕ
  k = document_row n c

  -- as it was read
  abbrev e0 : RowsOfEntry
  e0 = entry_rows_at d q

  found0 : rows_of_entry n (u ∷ us) c ≡ Some e0
  found0 = ap (λ (o : Option PlacedPart). o >>= λ y. option_map (entry_rows_at y) (row_line_of (u ∷ us) y.part.rows)) placed ∙ ap (option_map (entry_rows_at d)) line

  there0 : HasItsRows n u us c e0
  there0 = rows_located n u us c e0 read found0

  pub old : IsDocumentPart (cut_text c) c n d.part
  old = record { read = read; there = (document_is_there_at c n d placed).there }

  pub rows0 : d.part.rows ≡ e0.front ++ (q.row ∷ (e0.under ++ e0.back))
  rows0 = ap (λ (p : Part). p.rows) (same_Some _ _ (sym old.there ∙ there0.old.there)) ∙ there0.rows_are

  pub rows_of_it : d.part.rows ≡ x.front ++ (x.own ++ x.back)
  rows_of_it = (has (cut_text c) c n d.part (u ∷ us) s x old own).rows.rows_are

  -- as it is now
  abbrev pub there_now : IsPlacedBefore d x run.cut n steps z k
  there_now = run.stays (u ∷ us) s d x placed own short

  abbrev pub now : PlacedPart
  now = there_now.now

  abbrev pub back : List Row
  back = there_now.back

  abbrev pub y : OwnRows
  y = record x { back = back }

  pub text : cut_text run.cut ≡ take keep (cut_text c) ++ tail
  text = text_read (take keep (cut_text c) ++ tail) run.cut run.read

  pub read_now : read_at (cut_text run.cut) ≡ Some run.cut
  read_now = ap read_at text ∙ run.read

  pub old_now : IsDocumentPart (cut_text run.cut) run.cut n now.part
  old_now = record { read = read_now; there = (document_is_there_at run.cut n now there_now.placed).there }

  pub rows_now : now.part.rows ≡ x.front ++ (x.own ++ back)
  rows_now = (has (cut_text run.cut) run.cut n now.part (u ∷ us) s y old_now there_now.own).rows.rows_are

  abbrev pub e : RowsOfEntry
  e = entry_rows_at now q

  line_now : row_line_of (u ∷ us) now.part.rows ≡ Some q
  line_now =
      ap (row_line_of (u ∷ us)) rows_now
      ∙ line_there (u ∷ us) x.front (x.own ++ x.back) (x.own ++ back) q (ap (row_line_of (u ∷ us)) (sym rows_of_it) ∙ line) (omega (arith, next))

  pub at : rows_of_entry n (u ∷ us) run.cut ≡ Some e
  at = ap (λ (o : Option PlacedPart). o >>= λ y. option_map (entry_rows_at y) (row_line_of (u ∷ us) y.part.rows)) there_now.placed ∙ ap (option_map (entry_rows_at now)) line_now

  pub fronts : take q.before d.part.rows ≡ take q.before now.part.rows
  fronts =
      let less : q.before ≤ length x.front = omega (arith, next) in
      ap (take q.before) rows_of_it ∙ (take-append-le q.before x.front (x.own ++ x.back) less ∙ (sym (take-append-le q.before x.front (x.own ++ back) less) ∙ ap (take q.before) (sym rows_now)))

  pub front_size : length e.front ≡ q.before
  front_size = length-take-le q.before now.part.rows (omega (arith, next, ap length rows_now, length-append x.front (x.own ++ back)))

  pub next_now : length e.front + 1 ≡ length x.front
  next_now = omega (arith, front_size, next)

  -- what comes after it now begins no deeper than its collection's key or dash
  pub low : Begins (level (line_with q.row q.row.content)) (lines_of_rows back)
  low =
      let l : ℕ = level (line_with q.row q.row.content) in
      let from : drop (stop_after z (k + length x.front + length x.own) - k) d.part.rows ≡ e0.back =
      ap (λ (m : ℕ). drop (m - k) d.part.rows) (sym stops) ∙ from_back d.part.rows e0.front (q.row ∷ e0.under) e0.back k rows0 in
      stop_lower d.part.rows x.front x.own x.back k rows_of_it z back there_now.lower there_now.stop l
      (subst (λ (rs : List Row). Begins l (lines_of_rows rs)) (sym from) (sole.entry_begins n u us c e0 there0 last))

  abbrev pub there : HasItsRows n u us run.cut e
  there = sole.there run.cut n u us s read_now now there_now.placed y there_now.own e at last next_now low

  pub front_is : x.front ≡ e.front ++ (q.row ∷ [])
  front_is = sole.front_is run.cut n u us s read_now now there_now.placed y there_now.own e at last next_now low

  pub under_own : e.under ≡ x.own
  under_own = sole.under_own run.cut n u us s read_now now there_now.placed y there_now.own e at last next_now low

  pub back_own : e.back ≡ back
  back_own = sole.back_own run.cut n u us s read_now now there_now.placed y there_now.own e at last next_now low

  abbrev node : Node
  node = Rattle.yq_outline.specs.Places.content_under there.found.line there.found.under

  node_is : node_in n (u ∷ us) run.cut ≡ Some node
  node_is = sole.node run.cut n u us s read_now now there_now.placed y there_now.own e at last next_now low

  abbrev pub v : Node
  v = sole.emptied_value s

  emptied : IsEmptiedBy v node
  emptied = sole.is_emptied run.cut n u us s read_now now there_now.placed y there_now.own e at last next_now low

  first : (r : Row) × (g : List Row) × (x.own ≡ r ∷ g)
  first = own_first (cut_text c) c n d.part (u ∷ us) s x old own

  under_is : e.under ≡ first.0 ∷ first.1
  under_is = under_own ∙ first.2

  alone_not : is_alone first.0 ≡ false
  alone_not = sole.beside_first run.cut n u us s read_now now there_now.placed y there_now.own e at last next_now low first.0 first.1 first.2

  -- ---- the operation

  others : has_others_at n steps run.cut ≡ false
  others = (λ i. has_several (slice_get (documents run.cut) n >>= λ (x : Document). node_at (take_init (u ∷ us) s i) x.root)) ∙ (ap has_several node_is ∙ emptied.1)

  part_none : part_removed n run.cut (last_step steps) ≡ None
  part_none =
      let w = has (cut_text run.cut) run.cut n now.part (u ∷ us) s y old_now there_now.own in
      no_part run.cut n (u ∷ us) s now.part old_now.there w.h w.f w.entry

  removes : op_edits (remove n steps) run.cut ≡ replace_segments n (u ∷ us) v run.cut
  removes =
      ap (λ (o : Option (List Segment)). option_or o (rows_or_sole n steps run.cut)) part_none
      ∙ (ap (λ (b : Bool). cond b (one_removed n steps run.cut) (sole_removed n run.cut (last_step steps))) others
      ∙ (ap (sole_removed n run.cut) (last_is (u ∷ us) s)
      ∙ (ap (λ (o : Option Node). o >>= empty_collection >>= λ x. replace_segments n (u ∷ us) x run.cut) node_is
      ∙ ap (λ (o : Option Node). o >>= λ x. replace_segments n (u ∷ us) x run.cut) emptied.0)))

  abbrev pub br : Break
  br = (layout_of n run.cut).br

  abbrev pub h : Held
  h = held e

  abbrev pub t : List ℕ
  t = value_text InBlock [] v

  abbrev pub segments : List Segment
  segments = held_put (break_text br) h (inline t)

  module _ (head : h.head ≡ []) (white : h.white ≡ []) (comment : h.comment ≡ []) (broken : is_empty h.break ≡ false) where
    headless : is_empty (slices q.row).head ≡ true
    headless = ap is_empty head

    under_it : below e e.under ≡ under h first.0.column
    under_it =
        ap (below e) under_is
        ∙ ap (λ (b : Bool). cond b
        (alone (Rattle.yq_places.specs.Placements.lone
        (Rattle.yq_places.specs.Placements.before_entry e ++ Rattle.yq_row_table.specs.Rows.print_row e.row []) first.0
        (rows_text first.1 (after_entry e)))) (under h first.0.column)) alone_not

    placed_under : (w : Content) → q.row.content ≡ w → past_mark e w ≡ under h first.0.column
    placed_under (Nothing tail) is = under_it
    placed_under (Inline space inner tail) is = ap (λ (b : Bool). cond b (below e e.under) (beside h)) headless ∙ under_it
    placed_under (Block space anchor b) is = absurd (false≢true (sym (ap (λ (w : Content). is_empty (content_cut w).3) is) ∙ headless))

    placement : placement_at n (u ∷ us) run.cut ≡ Some (under h first.0.column)
    placement =
        ap (option_map entry_placement) at
        ∙ ap Some (ap (λ (b : Bool). cond b (past_mark e q.row.content) (compact_in e)) (eq-eqb q.line (length q.row.dashes) last) ∙ placed_under q.row.content refl)

    put_there : value_put_at n (u ∷ us) v run.cut ≡ Some segments
    put_there =
        ap (option_map (value_put (has_text (node_in n (u ∷ us) run.cut)) (layout_of n run.cut) v)) placement
        ∙ ap (λ (b : Bool). Some (held_put (break_text br) h (cond b (lines (lines_in (layout_of n run.cut) (column_under (layout_of n run.cut) h.mark v) v)) (inline t)))) (unfilled s)

    replaces : replace_segments n (u ∷ us) v run.cut ≡ Some segments
    replaces =
        let other : keeps_scalar (node_in n (u ∷ us) run.cut) v ≡ false = ap (are_same (node_in n (u ∷ us) run.cut >>= scalar_in)) (no_scalar s) ∙ not_same (node_in n (u ∷ us) run.cut >>= scalar_in) in
        ap (λ (b : Bool). cond b (Some (Rattle.yq_text.specs.Script.keep (cut_text run.cut) ∷ [])) (option_or (value_put_at n (u ∷ us) v run.cut)
        (option_map (Rattle.yq_edit_rules.specs.FlowParts.flow_put (cut_text run.cut) v) (Rattle.yq_places.specs.Placements.flow_placement n run.cut (last_step (u ∷ us)))))) other
        ∙ ap (λ (o : Option (List Segment)). option_or o (option_map (Rattle.yq_edit_rules.specs.FlowParts.flow_put (cut_text run.cut) v) (Rattle.yq_places.specs.Placements.flow_placement n run.cut (last_step (u ∷ us))))) put_there

    comes : carried (remove n steps) (cut_text run.cut) ≡ edit_of_segments segments
    comes = ap (by_reading (carry_one (remove n steps))) read_now ∙ ap (λ (o : Option (List Segment)). edit_of_segments (or_stay run.cut o)) (removes ∙ replaces)

    -- ---- where it is

    pub known : KnowsHeld n u us run.cut e there last
    known = held_known n u us run.cut e there last read_now at (ap first_alone under_is ∙ alone_not)

    abbrev out : Removal
    out = rows_out now y

    place : removal_place n steps run.cut ≡ Some out
    place = ap (λ (o : Option PlacedPart). o >>= λ e. option_map (rows_out e) (own_rows steps e.part.rows)) there_now.placed ∙ ap (option_map (rows_out now)) there_now.own

    rest_is : out.gap ++ out.after ≡ h.after
    rest_is = sym (first_text back now.part.end now.after) ∙ ap (λ (rs : List Row). rows_text rs (now.part.end ++ now.after)) (sym back_own)

    pub total : length h.before + length h.space + (length h.break + length h.lines) + length h.last ≡ length d.before + (length (rows_text x.front []) + length (rows_text x.own []))
    total =
        omega (
          arith,
          ap length known.spells,
          ap length (texts.old_is (break_text br) h t head white comment),
          length-append (h.before ++ h.space) ((h.break ++ h.lines) ++ (h.last ++ h.after)),
          length-append h.before h.space,
          length-append (h.break ++ h.lines) (h.last ++ h.after),
          length-append h.break h.lines,
          length-append h.last h.after,
          ap length rest_is,
          length-append out.gap out.after,
          ap length (removal_is_there run.cut n steps out read_now place),
          length-append out.before (out.gone ++ (out.gap ++ out.after)),
          length-append out.gone (out.gap ++ out.after),
          ends now y (ap no_rows first.2),
          ap length there_now.before,
          ap length (rows_text-append x.front x.own []),
          ap length (texts_then x.front [] (rows_text x.own [])),
          length-append (rows_text x.front []) (rows_text x.own []),
        )

    lines_size : length h.lines + length h.last ≡ length (slices q.row).raw + length (rows_text x.own [])
    lines_size =
        let b : List ℕ = (slices q.row).raw ++ rows_text e.under [] in
        omega (
          arith,
          below_size b _ broken,
          length-append (slices q.row).raw (rows_text e.under []),
          ap (λ (rs : List Row). length (rows_text rs [])) under_own,
        )

    -- it begins before the row of the key or dash ends
    pub front_less : length h.before + length h.space < length d.before + length (rows_text x.front [])
    front_less = omega (arith, total, lines_size, some_bytes h.break broken)

    -- ---- what it gives

    module _ (fits : Fits (room_of (cut_text run.cut)) (remove n steps) (documents run.cut)) (room : 3 ≤ length h.break + length h.lines) (three : length (32 ∷ t) ≡ 3) where
      pub size : length (new_text segments) ≤ text_limit
      size =
          omega (
            arith,
            room,
            three,
            (cut_read (cut_text run.cut) run.cut read_now).size,
            ap length known.spells,
            ap length (texts.old_is (break_text br) h t head white comment),
            ap length (texts.new_is (break_text br) h t head white comment),
            length-append (h.before ++ h.space) ((h.break ++ h.lines) ++ (h.last ++ h.after)),
            length-append (h.break ++ h.lines) (h.last ++ h.after),
            length-append h.break h.lines,
            length-append (h.before ++ h.space) ((32 ∷ t) ++ (h.last ++ h.after)),
            length-append (32 ∷ t) (h.last ++ h.after),
          )

      tree : IsValueTree v
      tree = empty_value node v emptied.0

      pub made : RowMade n run.cut e there.part segments v
      made =
          let fits_value = sole_fits n (u ∷ us) s v node run.cut read_now others node_is emptied.0 fits in
          let f = fits_replace n (u ∷ us) v run.cut there.part there.old.there tree fits_value in
          nothing_made n u us run.cut e there last known br v f t (value_for [] v tree f.deep f.long) headless size

      pub gives_it : carried (remove n steps) (cut_text run.cut) ≡ gives ((h.before ++ h.space) ++ ((32 ∷ t) ++ (h.last ++ h.after))) (splice_at (length (h.before ++ h.space)) (h.break ++ h.lines) (32 ∷ t))
      gives_it = comes ∙ texts.segments_come (break_text br) h t head white comment size
