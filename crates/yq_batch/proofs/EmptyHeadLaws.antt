-- Values that operations put after keys and dashes that hold nothing, wherever their items and entries are still.
use Rattle.std.proofs.Common.{◌≡◌, ℕ, ◌≤◌, Bool, true, false, cond, eqb, eqb-true, List, [], ◌∷◌, ◌++◌, length, Option, Some, None}
use Rattle.std.proofs.Common.{option_map, refl, sym, ap, ◌∙◌, subst, arith, rules, append_assoc, string_bytes, length-append}
use Rattle.std.{proofs.lemmas.Bool.false≢true, proofs.lemmas.Option.same_Some, proofs.lemmas.Str.IsCharBoundary-at_seam}
use Rattle.std.{specs.Option.option_or, specs.Str.IsCharBoundary}
use Rattle.yq_text.{specs.Limit.text_limit, specs.Script.{Segment, keep, new_text}}
use Rattle.yq_core.{specs.Paths.Step, specs.Text.is_empty, specs.Tree.Node, specs.declared.style.Place.TheVariants.Block as InBlock}
use Rattle.yq_core.proofs.LineLaws.{is_empty_is}
use Rattle.yq_row_table.{specs.Rows.{Cut, Row, cut_text, rows_text}, specs.View.slices}
use Rattle.yq_documents.specs.Reading.{cut_of, documents, read_at}
use Rattle.yq_semantics.{specs.Fits.Fits, specs.Operations.replace, specs.Rooms.room_of}
use Rattle.yq_places.{specs.CommentPlaces.end_in_line, specs.PlacementViews.IsHeldRow, specs.declared.places.held_row.HeldRow.HeldRow}
use Rattle.yq_places.{specs.NodesAt.node_in, specs.PrintedLines.less_break, proofs.HeldRowLaws.no_root_rows}
use Rattle.yq_places.specs.Placements.{Held, RowsOfEntry, below, beside, entry_placement, flow_placement, held, last_step, placement_at}
use Rattle.yq_places.specs.Placements.{rows_of_entry, under, Placement}
use Rattle.yq_edit_rules.{specs.RowStays.StaysInRows, specs.PlacementLaws.{HoldsPieces, HasItsRows}, specs.TextPieces.IsPiece}
use Rattle.yq_edit_rules.{proofs.PlacementRows.rows_located, proofs.TextPieceLaws.pieces_joined, proofs.HeldPieces.held_spells}
use Rattle.yq_edit_rules.{specs.BlockReading.is_filled, specs.Edits.op_edits, specs.FlowParts.flow_put, specs.Operands.HasOperand}
use Rattle.yq_edit_rules.{specs.Layouts.layout_of, specs.Replacing.keeps_scalar, specs.ReplaceEdits.{spaced_text, value_put_at}}
use Rattle.yq_edit_rules.{specs.RowChanges.{PutsOne, inline_put}, specs.WrittenValues.value_text, proofs.EditsFitLaws.fits_replace}
use Rattle.yq_edit_rules.proofs.ValueTexts.{value_for}
use Rattle.yq_edit_laws.{proofs.CutLaws.text_read, proofs.EntryNodeLaws.entry_node, proofs.HeldRows.held_known}
use Rattle.yq_edit_laws.{proofs.HeldCarried.{KnowsHeld, first_alone}, proofs.HeldInline.{RowMade, nothing_made}, proofs.MarkHeads.no_raw}
use Rattle.yq_edit_laws.{proofs.EditsHold.edit_is, proofs.OnePutLaws.value_put_one}
use Rattle.yq_batch.{specs.RowEnds.HasNoHead, proofs.EntryShapes.{entry_bare, entry_by}}
use Rattle.yq_batch.specs.RowRuns.{ExchangesRow, IsSpacedSo, PutsInRow, PutsSo, PutsText, bytes_in, of_entry, rows_still}
use Rattle.yq_batch.specs.declared.row_put.RowPut.{RowPut}

-- ---- where nothing is

module _ (m : ℕ) (s : Step) (ss : List Step) (d : Cut) (e : RowsOfEntry) (read : read_at (cut_text d) ≡ Some d) (at : rows_of_entry m (s ∷ ss) d ≡ Some e) (h : HasNoHead e) (bare : e.under ≡ []) where
  there : HasItsRows m s ss d e
  there = rows_located m s ss d e read at

  no_head : (held e).head ≡ []
  no_head = is_empty_is (slices e.row).head h.none

  none_below : (slices e.row).raw ++ rows_text e.under [] ≡ []
  none_below = λ i. no_raw e.row.content h.plain i ++ rows_text (bare i) []

  no_break : (held e).break ≡ []
  no_break = ap (λ (b : List ℕ). cond (is_empty b) [] (end_in_line [] (slices e.row).tail).after) none_below

  no_lines : (held e).lines ≡ []
  unfolding less_break
  no_lines = ap less_break none_below

  module _ (v : Node) (plain : is_filled v ≡ false) where
    edits_there : op_edits (replace m (s ∷ ss) v) d ≡ cond (keeps_scalar (node_in m (s ∷ ss) d) v) (Some (keep (cut_text d) ∷ [])) (Some (inline_put v (held e)))
    edits_there =
        let is : entry_placement e ≡ beside (held e) = entry_bare e h ∙ ap (below e) bare in
        let is_located : placement_at m (s ∷ ss) d ≡ Some (beside (held e)) = ap (option_map entry_placement) at ∙ ap Some is in
        let put : value_put_at m (s ∷ ss) v d ≡ Some (inline_put v (held e)) = search (rules, is_located) in
        ap (λ (o : Option (List Segment)). cond (keeps_scalar (node_in m (s ∷ ss) d) v) (Some (keep (cut_text d) ∷ [])) (option_or o (option_map (flow_put (cut_text d) v) (flow_placement m d (last_step (s ∷ ss)))))) put

    changes_there : HasOperand (replace m (s ∷ ss) v) → Fits (room_of (cut_text d)) (replace m (s ∷ ss) v) (documents d) → length (new_text (inline_put v (held e))) ≤ text_limit →
        ExchangesRow m d e (inline_put v (held e))
    changes_there operand fits size =
        let known : KnowsHeld m s ss d e there h.last = held_known m s ss d e there h.last read at (ap first_alone bare) in
        let f = fits_replace m (s ∷ ss) v d there.part there.old.there operand fits in
        let made : RowMade m d e there.part _ v =
        nothing_made m s ss d e there h.last known (layout_of m d).br v f (value_text InBlock (held e).head v) (value_for (held e).head v operand f.deep f.long) h.none size in
        record {
          part = there.part;
          there = there.old.there;
          front = e.front;
          row = e.row;
          new = record e.row { content = made.content };
          back = e.back;
          rows_are = there.rows_are ∙ ap (λ (us : List Row). e.front ++ (e.row ∷ (us ++ e.back))) bare;
          front_size = refl;
          column = refl;
          dashes = refl;
          mark = refl;
          read = made.read;
        }

-- ---- a value there, wherever it is still

module _ (m : ℕ) (s : Step) (ss : List Step) (v : Node) (c : Cut) (e : RowsOfEntry) (read : read_at (cut_text c) ≡ Some c)
    (at : rows_of_entry m (s ∷ ss) c ≡ Some e) (h : HasNoHead e) (bare : e.under ≡ []) (plain : is_filled v ≡ false) where
  abbrev after_mark : List ℕ
  after_mark = (held e).white ++ ((held e).comment ++ ((held e).last ++ (held e).after))

  abbrev before_mark : List ℕ
  before_mark = (held e).before ++ (held e).space

  module _ (d : Cut) (read_d : read_at (cut_text d) ≡ Some d) (still : StaysInRows e m (s ∷ ss) d) where
    abbrev now : RowsOfEntry
    now = rows_still e still

    holds : HasNoHead now
    holds = record { last = h.last; plain = h.plain; none = h.none }

    same_node : node_in m (s ∷ ss) d ≡ node_in m (s ∷ ss) c
    same_node = entry_node m s ss d now (rows_located m s ss d now read_d still.found) h.last ∙ sym (entry_node m s ss c e (rows_located m s ss c e read at) h.last)

    by_kept : (b : Bool) → keeps_scalar (node_in m (s ∷ ss) c) v ≡ b → op_edits (replace m (s ∷ ss) v) d ≡ cond b (Some (keep (cut_text d) ∷ [])) (Some (inline_put v (held now)))
    by_kept b kept =
        edits_there m s ss d now read_d still.found holds bare v plain
        ∙ ap (λ (k : Bool). cond k (Some (keep (cut_text d) ∷ [])) (Some (inline_put v (held now)))) (ap (λ (o : Option Node). keeps_scalar o v) same_node ∙ kept)

    comes : keeps_scalar (node_in m (s ∷ ss) c) v ≡ false → PutsText (replace m (s ∷ ss) v) d now [] (32 ∷ value_text InBlock [] v) after_mark
    comes other =
        let edited = by_kept false other in
        record {
          segments = inline_put v (held now);
          front = (held now).before ++ (held now).space;
          edited = edited;
          whole = (edit_is (replace m (s ∷ ss) v) d (inline_put v (held now)) read_d edited).old;
          puts = subst (λ (old : List ℕ). PutsOne (inline_put v (held now)) ((held now).before ++ (held now).space) old (spaced_text old (value_text InBlock old v)) after_mark)
              (no_head m s ss d now read_d still.found holds bare)
              (value_put_one v (held now) (no_break m s ss d now read_d still.found holds bare) (no_lines m s ss d now read_d still.found holds bare));
          changes = λ operand fit size. changes_there m s ss d now read_d still.found holds bare v plain operand fit size;
        }

    pub spaced_so : (w : Option (List ℕ)) → IsSpacedSo (node_in m (s ∷ ss) c) v w → PutsSo (replace m (s ∷ ss) v) d now [] ((held e).white ++ ((held e).comment ++ ((held e).last ++ (held e).after))) w
    spaced_so None kept = by_kept true kept
    spaced_so (Some w) other = subst (λ (l : List ℕ). PutsText (replace m (s ∷ ss) v) d now [] l after_mark) (sym other.1) (comes other.0)

  -- where it is
  pub spaced_text_is : cut_text c ≡ ((held e).before ++ (held e).space) ++ ((held e).white ++ ((held e).comment ++ ((held e).last ++ (held e).after)))
  spaced_text_is =
      let w : Held = held e in
      (held_spells m s ss c e read at h.last).0
      ∙ ((λ i. w.before ++ (w.space ++ (no_head m s ss c e read at h bare i ++ (w.white ++ (w.comment ++ (no_break m s ss c e read at h bare i ++ (no_lines m s ss c e read at h bare i ++ (w.last ++ w.after))))))))
      ∙ sym (append_assoc w.before w.space _))

  pieces : HoldsPieces (held e)
  pieces = (held_spells m s ss c e read at h.last).1

  pub spaced_edge : IsCharBoundary (cut_text c) (length ((held e).before ++ (held e).space))
  spaced_edge =
      let w : Held = held e in
      let left : IsPiece after_mark = subst IsPiece (append_assoc w.white w.comment (w.last ++ w.after)) (pieces_joined (w.white ++ w.comment) (w.last ++ w.after) pieces.line (pieces_joined w.last w.after pieces.last pieces.after)) in
      IsCharBoundary-at_seam (cut_text c) before_mark _ spaced_text_is left.utf8

-- ---- what the code tells

-- Nothing is written on the line of a key or dash, and what is at it is what it holds there: so nothing is under it.
nothing_there : (e : RowsOfEntry) (h : Held) → is_empty (slices e.row).head ≡ true → entry_placement e ≡ beside h → HasNoHead e × (e.under ≡ [])
nothing_there e h none =
    entry_by e (λ (x : Placement). x ≡ beside h → HasNoHead e × (e.under ≡ [])) (λ bare is same. (bare, is)) (λ bare r rs is one same. absurd (cc)) (λ bare r rs is one same. absurd (cc))
    (λ head same. absurd (false≢true (sym head ∙ none))) (λ indent same. absurd (cc)) (λ dash same. absurd (cc))

-- a text without bytes is empty
pub no_bytes : (l : List ℕ) → eqb (length l) 0 ≡ true → is_empty l ≡ true
no_bytes [] e = refl
no_bytes (x ∷ l) e = absurd (omega (arith, eqb-true (length (x ∷ l)) 0 e))

-- what the code tells of a value that is put there
pub spaced_puts_there : (t : List ℕ) (n : ℕ) (steps : List Step) (v : Node) (x : HeldRow) (w : Held) (made : RowPut) → read_at t ≡ Some (cut_of t) → IsHeldRow n steps (cut_of t) x →
    placement_at n steps (cut_of t) ≡ Some (beside w) → is_empty x.head.now ≡ true → is_filled v ≡ false → HasOperand (replace n steps v) →
    made.doc ≡ n → made.first ≡ x.row → made.row ≡ x.row → made.start ≡ x.start → made.end ≡ x.start →
    IsSpacedSo (node_in n steps (cut_of t)) v (bytes_in string_bytes made.written) → PutsInRow (replace n steps v) (cut_of t) made
spaced_puts_there t n [] v x w made read is placed empty plain operand doc first row start finish written = absurd (no_root_rows n (cut_of t) is.entry is.found)
spaced_puts_there t n (s ∷ ss) v x w made read is placed empty plain operand doc first row start finish written =
    let c : Cut = cut_of t in
    let again : read_at (cut_text c) ≡ Some c = ap read_at (text_read t c read) ∙ read in
    let e : RowsOfEntry = is.entry in
    let here : entry_placement e ≡ beside w = same_Some _ _ (sym (ap (option_map entry_placement) is.found) ∙ placed) in
    let none : is_empty (slices e.row).head ≡ true = ap is_empty (sym is.head) ∙ empty in
    let known = nothing_there e w none here in
    let h : HasNoHead e = known.0 in
    let text = spaced_text_is n s ss v c e again is.found h known.1 plain in
    let edge = spaced_edge n s ss v c e again is.found h known.1 plain in
    let there : x.start ≡ length ((held e).before ++ (held e).space) = is.start ∙ sym (length-append (held e).before (held e).space) in
    record {
      place = of_entry (s ∷ ss) e;
      found = is.found;
      document = doc;
      first = first ∙ is.row;
      row = row ∙ is.row;
      valid = operand;
      before = (held e).before ++ (held e).space;
      old = [];
      after = (held e).white ++ ((held e).comment ++ ((held e).last ++ (held e).after));
      text = text;
      start = start ∙ there;
      finish = omega (arith, finish, there);
      starts = subst (IsCharBoundary (cut_text c)) (sym (start ∙ there)) edge;
      ends = subst (IsCharBoundary (cut_text c)) (sym (finish ∙ there)) edge;
      there = λ d read_d breaks still. spaced_so n s ss v c e again is.found h known.1 plain d read_d still (bytes_in string_bytes made.written) written;
    }
