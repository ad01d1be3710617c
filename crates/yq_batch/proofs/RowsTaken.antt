-- One more item or entry of a block collection taken out with its lines, before those that were.
use Rattle.std.proofs.Common.{◌≡◌, ℕ, ◌+◌, ◌≤◌, Bool, true, false, cond, List, [], ◌∷◌, ◌++◌, length, take, drop, Option, Some, None}
use Rattle.std.proofs.Common.{option_map, option_and_then, refl, sym, ap, ◌∙◌, subst, append_assoc, arith, length-append, slice_get}
use Rattle.std.{proofs.lemmas.Option.{none-some, same_Some}, proofs.Math.Seq.{take-append_seam, drop-append_seam}, specs.Option.option_or}
use Rattle.yq_text.{specs.Limit.text_limit, specs.Script.{Segment, are_kept, splice_at}}
use Rattle.yq_core.{specs.Answers.◌>>=◌, specs.Block.{BlockText, keeps}, specs.Paths.Step, specs.Text.text_lines, specs.Tree.Node}
use Rattle.yq_core.specs.Collections.{CollPieces}
use Rattle.yq_row_table.{specs.Removal.{hold_comment, last_block, next_column}, specs.Rows.{Row, rows_text, Part, Cut, cut_text}}
use Rattle.yq_row_table.specs.Splices.{after_first}
use Rattle.yq_outline.specs.Outline.{LineMark, Bare, Key, Dash, Outline, end, row}
use Rattle.yq_outline.{specs.Places.{FoundLine, here, find, in_head, lines_before, place_inside}, specs.Positions.has_no_mark}
use Rattle.yq_documents.{specs.LinesInRows.document_row, specs.Reading.{part_outline, read_at}, specs.Documents.document_parts}
use Rattle.yq_places.{specs.FirstPlaces.first_removal, specs.FlowNodes.{bare_line, find_head, flow_collection, head_line, line_collection}}
use Rattle.yq_places.{specs.PlacedRows.{PlacedPart, placed_document}, specs.Placements.last_step}
use Rattle.yq_places.specs.RemovalPlaces.{OwnRows, Removal, Seam, comment_above, has_others_at, kept_gap, own_rows, removal_place, rows_out}
use Rattle.yq_places.specs.RemovalPlaces.{seam_after}
use Rattle.yq_edit_rules.{specs.DocumentRows.IsDocumentPart, specs.EntryEdits.one_removed}
use Rattle.yq_edit_rules.{specs.Edits.{op_edits, or_stay, part_removed, rows_or_sole}, specs.FlowParts.flow_removed}
use Rattle.yq_edit_rules.specs.Removing.{first_removed, gap_mended, rows_removed}
use Rattle.yq_edit_rules.specs.Siblings.{HasEntries, IsEntry, IsEntryAt, NodeLines, lines_at, lines_below}
use Rattle.yq_edit_rules.{proofs.PlacedPartLaws.document_is_there_at, proofs.RemovalChangeLaws.removal_is_there}
use Rattle.yq_semantics.specs.Operations.{remove}
use Rattle.yq_edit_laws.{proofs.CutLaws.{cut_read, text_read}, specs.Carried.{carried, carry_one}}
use Rattle.yq_edit_laws.specs.Edit.{by_reading, edit_of_segments, gives}
use Rattle.yq_batch.specs.RemovalRuns.{text_exchanged}
use Rattle.yq_batch.specs.RowRemovals.{AreLow, IsLeast, IsRowRemovalRun, IsPlacedBefore, StayLow, StaysAt}
use Rattle.yq_batch.{specs.declared.changed_rows.ChangedRows.ChangedRows, proofs.EntryRemains.{has, own_first}}
use Rattle.yq_batch.proofs.GapStays.{gap_kept, segments_come}

-- ---- a block collection is no flow collection

abbrev Reached : Type 0
Reached = FoundLine × List Step

none_bare : (o : Outline) → HasEntries o → bare_line o ≡ None
none_bare end h = absurd h
none_bare (row l u a) h = go l.mark h
  where
    go : (m : LineMark) → IsEntry m → cond {A = Option FoundLine} (has_no_mark m) (Some (record { place = here; line = l; under = u; after = a })) None ≡ None
    go Bare h = absurd h
    go (Key k) h = refl
    go Dash h = refl

none_headed : (steps : List Step) (o : Outline) (h : NodeLines) → lines_at steps o ≡ Some h → HasEntries h.lines → find_head steps o ≡ None
none_headed [] o h at block = ap (option_map (λ (f : FoundLine). (f, []))) (none_bare o (subst HasEntries (sym (ap (λ (z : NodeLines). z.lines) (same_Some _ _ at))) block))
none_headed (s ∷ ss) o h at block = go (find s ss o) at
  where
    below : (f : FoundLine) (left : List Step) (head : Option Node) → lines_below head left f ≡ Some h → f.line.head ≡ head → head_line f left ≡ None
    below f left (Some n) e is = absurd (none-some _ e)
    below f (t ∷ ts) None e is = absurd (none-some _ e)
    below f [] None e is =
        ap (λ (k : Option Node). in_head k (Some (f, [])) (option_map {U = Reached} (λ (b : FoundLine). (place_inside f b, [])) (bare_line f.under))) is
        ∙ ap (option_map {U = Reached} (λ (b : FoundLine). (place_inside f b, []))) (none_bare f.under (subst HasEntries (sym (ap (λ (z : NodeLines). z.lines) (same_Some _ _ e))) block))

    go : (r : Option Reached) → option_and_then (λ (x : Reached). lines_below x.0.line.head x.1 x.0) r ≡ Some h → (r >>= λ x. head_line x.0 x.1) ≡ None
    go None e = refl
    go (Some x) e = below x.0 x.1 x.0.line.head e refl

-- the last step of steps
pub last_is : (above : List Step) (s : Step) → last_step (above ++ (s ∷ [])) ≡ Some (above, s)
last_is [] s = refl
last_is (a ∷ []) s = refl
last_is (a ∷ (b ∷ above)) s = ap (option_map (λ (x : List Step × Step). (a ∷ x.0, x.1))) (last_is (b ∷ above) s)

-- an item or entry of a block collection is none of a flow collection
pub no_part : (c : Cut) (n : ℕ) (above : List Step) (s : Step) (p : Part) → slice_get (document_parts c) n ≡ Some p → (h : NodeLines) (f : FoundLine) → IsEntryAt above s (part_outline p) h f →
    part_removed n c (last_step (above ++ (s ∷ []))) ≡ None
no_part c n above s p at h f entry =
    let none : flow_collection n above c ≡ None =
    ap (λ (o : Option Part). o >>= λ p. find_head above (part_outline p) >>= λ y. line_collection (document_row n c) c p.rows (length (lines_before y.0.place)) y.1) at
    ∙ ap (λ (o : Option Reached). o >>= λ y. line_collection (document_row n c) c p.rows (length (lines_before y.0.place)) y.1) (none_headed above (part_outline p) h entry.place_is entry.block) in
    ap (part_removed n c) (last_is above s) ∙ ap (λ (o : Option CollPieces). o >>= flow_removed (cut_text c) s) none

-- ---- seams in another column

other_column : (o : Option BlockText) (i j : ℕ) (kept : List ℕ) (m : Option ℕ) → StaysAt (seam_after o i kept) m → StaysAt (seam_after o j kept) m
other_column None i j kept m h = tt
other_column (Some b) i j kept m h = go (hold_comment (text_lines kept)) m h
  where
    go : (c : Bool) (m : Option ℕ) → StaysAt (cond c None (Some (record { keeps = keeps b.chomping; indent = b.indent.columns; column = i }))) m →
        StaysAt (cond c None (Some (record { keeps = keeps b.chomping; indent = b.indent.columns; column = j }))) m
    go true m h = tt
    go false None h = h
    go false (Some n) h = h

-- ---- the operation

module _ (c : Cut) (n : ℕ) (above : List Step) (s : Step) (z : ChangedRows) (next : Option ℕ) (keep : ℕ) (tail : List ℕ) (run : IsRowRemovalRun c n z keep tail) (read : read_at (cut_text c) ≡ Some c)
    (d : PlacedPart) (placed : placed_document n c ≡ Some d) (x : OwnRows) (own : own_rows (above ++ (s ∷ [])) d.part.rows ≡ Some x) (short : length (rows_out d x).before + length (rows_out d x).gone ≤ keep)
    (others : has_others_at n (above ++ (s ∷ [])) run.cut ≡ true) (stays : StaysAt (rows_out d x).seam next) (low : IsLeast z.least (rows_out d x).gap next) where
  abbrev steps : List Step
  steps = above ++ (s ∷ [])

  abbrev pub now : List ℕ
  now = take keep (cut_text c) ++ tail

  abbrev pub there : IsPlacedBefore d x run.cut n steps z (document_row n c)
  there = run.stays above s d x placed own short

  -- what is taken out of the text as it is now
  abbrev pub out : Removal
  out = rows_out there.now (record x { back = there.back })

  pub place : removal_place n steps run.cut ≡ Some out
  place = ap (λ (o : Option PlacedPart). o >>= λ e. option_map (rows_out e) (own_rows steps e.part.rows)) there.placed ∙ ap (option_map (rows_out there.now)) there.own

  pub text : cut_text run.cut ≡ now
  text = text_read now run.cut run.read

  pub read_now : read_at (cut_text run.cut) ≡ Some run.cut
  read_now = ap read_at text ∙ run.read

  pub old : IsDocumentPart (cut_text c) c n d.part
  old = record { read = read; there = (document_is_there_at c n d placed).there }

  pub old_now : IsDocumentPart (cut_text run.cut) run.cut n there.now.part
  old_now = record { read = read_now; there = (document_is_there_at run.cut n there.now there.placed).there }

  -- its rows begin with one
  pub some : (r : Row) × (g : List Row) × (x.own ≡ r ∷ g)
  some = own_first (cut_text c) c n d.part above s x old own

  kept_same : (i j : List ℕ) → kept_gap x.own i ≡ kept_gap x.own j
  kept_same i j = ap (λ (rs : List Row). kept_gap rs i) some.2 ∙ sym (ap (λ (rs : List Row). kept_gap rs j) some.2)

  comment_same : (i j : List ℕ) → comment_above x.own i ≡ comment_above x.own j
  comment_same i j = ap (λ (rs : List Row). comment_above rs i) some.2 ∙ sym (ap (λ (rs : List Row). comment_above rs j) some.2)

  -- it is what was read, but for what comes after the lines
  pub before_is : out.before ≡ (rows_out d x).before
  before_is = λ i. there.before i ++ rows_text x.front (kept_same there.now.part.end d.part.end i)

  pub gone_is : out.gone ≡ (rows_out d x).gone
  gone_is = ap (λ (t : List ℕ). t ++ after_first x.own [] []) (comment_same there.now.part.end d.part.end)

  pub seam_stays : StaysAt out.seam next
  seam_stays =
      subst (λ (k : List ℕ). StaysAt (seam_after (last_block x.front) (next_column there.back) k) next) (kept_same d.part.end there.now.part.end)
      (other_column (last_block x.front) (next_column x.back) (next_column there.back) (kept_gap x.own d.part.end) next stays)

  -- the gap stays as it is
  pub low_now : (m : ℕ) → next ≡ Some m → AreLow m (text_lines out.gap)
  low_now m is =
      let h : IsLeast z.least (rows_out d x).gap (Some m) = subst (IsLeast z.least (rows_out d x).gap) is low in
      let stay : StayLow (Some h.0) (rows_out d x).gap out.gap = subst (λ (o : Option ℕ). StayLow o (rows_out d x).gap out.gap) h.1 there.low in
      stay m h.2 h.3

  pub kept : are_kept (gap_mended out.seam out.gap) ≡ true
  kept = go next refl out.seam refl
    where
      go : (m : Option ℕ) → next ≡ m → (o : Option Seam) → out.seam ≡ o → are_kept (gap_mended out.seam out.gap) ≡ true
      go m e None is = ap (λ (o : Option Seam). are_kept (gap_mended o out.gap)) is
      go None e (Some k) is = absurd (subst (λ (o : Option Seam). StaysAt o None) is (subst (StaysAt out.seam) e seam_stays))
      go (Some m) e (Some k) is = gap_kept out.seam m out.gap (subst (StaysAt out.seam) e seam_stays) (low_now m e)

  no_flow : part_removed n run.cut (last_step steps) ≡ None
  no_flow =
      let w = has (cut_text run.cut) run.cut n there.now.part above s (record x { back = there.back }) old_now there.own in
      no_part run.cut n above s there.now.part old_now.there w.h w.f w.entry

  edits : op_edits (remove n steps) run.cut ≡ Some (rows_removed out)
  edits =
      let one : one_removed n steps run.cut ≡ Some (rows_removed out) = ap (λ o. option_or (option_map rows_removed o) (option_map first_removed (first_removal n steps run.cut))) place in
      let rows : rows_or_sole n steps run.cut ≡ Some (rows_removed out) = rw (others) one in
      ap (λ o. option_or o (rows_or_sole n steps run.cut)) no_flow ∙ rows

  pub whole : now ≡ out.before ++ (out.gone ++ (out.gap ++ out.after))
  whole = sym text ∙ removal_is_there run.cut n steps out read_now place

  abbrev pub start : ℕ
  start = length (rows_out d x).before

  abbrev pub finish : ℕ
  finish = length (rows_out d x).before + length (rows_out d x).gone

  sizes : (start ≡ length out.before) × (finish ≡ length (out.before ++ out.gone))
  sizes = (ap length (sym before_is), omega (arith, ap length before_is, ap length gone_is, length-append out.before out.gone))

  in_two : now ≡ (out.before ++ out.gone) ++ (out.gap ++ out.after)
  in_two = whole ∙ sym (append_assoc out.before out.gone (out.gap ++ out.after))

  pub left_is : text_exchanged now start finish [] ≡ out.before ++ (out.gap ++ out.after)
  left_is =
      (λ i. take (sizes.0 i) (whole i) ++ drop (sizes.1 i) (in_two i))
      ∙ (λ i. take-append_seam out.before (out.gone ++ (out.gap ++ out.after)) i ++ drop-append_seam (out.before ++ out.gone) (out.gap ++ out.after) i)

  pub gone_there : drop start (take finish now) ≡ out.gone
  gone_there =
      (λ i. drop (sizes.0 i) (take (sizes.1 i) (in_two i)))
      ∙ (ap (drop (length out.before)) (take-append_seam (out.before ++ out.gone) (out.gap ++ out.after)) ∙ drop-append_seam out.before out.gone)

  pub small : length (out.before ++ (out.gap ++ out.after)) ≤ text_limit
  small =
      omega (
        arith,
        (cut_read (cut_text run.cut) run.cut read_now).size,
        ap length (text ∙ whole),
        length-append out.before (out.gone ++ (out.gap ++ out.after)),
        length-append out.gone (out.gap ++ out.after),
        length-append out.before (out.gap ++ out.after),
      )

  -- it comes to this that its lines go
  pub removal_comes : carried (remove n steps) now ≡ gives (text_exchanged now start finish []) (splice_at start (drop start (take finish now)) [])
  removal_comes =
      ap (carried (remove n steps)) (sym text)
      ∙ (ap (by_reading (carry_one (remove n steps))) read_now
      ∙ (ap (λ (o : Option (List Segment)). edit_of_segments (or_stay run.cut o)) edits
      ∙ (segments_come n steps run.cut out read_now others place kept small
      ∙ λ i. gives (sym left_is i) (splice_at (sym sizes.0 i) (sym gone_there i) []))))
