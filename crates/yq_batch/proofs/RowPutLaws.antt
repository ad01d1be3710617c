-- Values that operations put in rows, wherever their items and entries are still.
use Rattle.std.proofs.Common.{◌≡◌, ℕ, ◌+◌, ◌≤◌, Bool, true, false, cond, is_some, List, [], ◌∷◌, ◌++◌, length, Option, Some, None, refl}
use Rattle.std.{proofs.Common.{sym, ap, ◌∙◌, subst, arith, append_assoc, string_bytes, length-append}, proofs.lemmas.Bool.false≢true}
use Rattle.std.{proofs.lemmas.Str.IsCharBoundary-at_seam, specs.Str.IsCharBoundary}
use Rattle.yq_text.{specs.Limit.text_limit, specs.Script.{keep, new_text}}
use Rattle.yq_core.{specs.Paths.Step, specs.Text.is_empty, specs.Tree.Node, specs.declared.style.Place.TheVariants.Block as InBlock}
use Rattle.yq_outline.{specs.Outline.anchored, specs.Lines.{content_anchor, head_of}}
use Rattle.yq_row_table.{specs.Rows.{Cut, cut_text, parent_indent, rows_text}, specs.View.slices}
use Rattle.yq_documents.specs.Reading.{cut_of, documents, read_at}
use Rattle.yq_places.{specs.CommentPlaces.end_in_line, specs.PlacementViews.IsHeldRow, specs.declared.places.held_row.HeldRow.HeldRow}
use Rattle.yq_places.{specs.NodesAt.node_in, specs.PrintedLines.less_break}
use Rattle.yq_places.{specs.Placements.{Held, RowsOfEntry, after_entry, held, rows_of_entry}, proofs.HeldRowLaws.no_root_rows}
use Rattle.yq_edit_rules.{specs.RowStays.StaysInRows, specs.PlacementLaws.{HoldsPieces, HasItsRows}, specs.TextPieces.IsPiece}
use Rattle.yq_edit_rules.{proofs.RowStayLaws.rows_stay_there, proofs.PlacementMarks.row_there, proofs.PlacementRows.rows_located}
use Rattle.yq_edit_rules.{proofs.TextPieceLaws.pieces_joined, specs.BlockReading.is_filled, specs.Edits.op_edits, specs.Operands.HasOperand}
use Rattle.yq_edit_rules.{specs.Replacing.keeps_scalar, specs.RowChanges.{ChangesRow, HoldsInline, inline_put}}
use Rattle.yq_edit_rules.{specs.WrittenValues.value_text, proofs.HeldPieces.held_spells}
use Rattle.yq_semantics.{specs.Fits.Fits, specs.Operations.replace, specs.Rooms.room_of}
use Rattle.yq_edit_laws.{proofs.RowEditLaws.row_edits, proofs.CutLaws.{cut_read, text_read}, proofs.HeldRows.{head_there, headless_there}}
use Rattle.yq_edit_laws.{proofs.InlineChangeLaws.inline_values_change_rows, proofs.MarkHeads.no_raw, proofs.EditsHold.edit_is}
use Rattle.yq_batch.specs.RowRuns.{IsWrittenSo, PutsInRow, PutsSo, PutsText, bytes_in, of_entry, rows_still}
use Rattle.yq_batch.{specs.declared.row_put.RowPut.RowPut, proofs.ExchangedRows.exchanges_row}

is_there : (o : Option Node) → is_some o ≡ true → (x : Node) × (o ≡ Some x)
is_there None e = absurd (false≢true e)
is_there (Some x) e = (x, refl)

module _ (m : ℕ) (s : Step) (ss : List Step) (d : Cut) (e : RowsOfEntry) (read : read_at (cut_text d) ≡ Some d) (at : rows_of_entry m (s ∷ ss) d ≡ Some e) (h : HoldsInline e) where
  there : HasItsRows m s ss d e
  there = rows_located m s ss d e read at

  none_below : (slices e.row).raw ++ rows_text e.under [] ≡ []
  none_below = λ i. no_raw e.row.content h.block i ++ rows_text (headless_there m s ss d e there h.last h.some i) []

  pub no_break : (held e).break ≡ []
  no_break = ap (λ (b : List ℕ). cond (is_empty b) [] (end_in_line [] (slices e.row).tail).after) none_below

  pub no_lines : (held e).lines ≡ []
  unfolding less_break
  no_lines = ap less_break none_below

  pub head : (x : Node) × (head_of e.row.content ≡ Some x)
  head = is_there (head_of e.row.content) (head_there (parent_indent e.row) e.row.content (rows_text e.under (after_entry e)) (row_there m s ss d e there).content h.some)

  pub node_there : (x : Node) → head_of e.row.content ≡ Some x → node_in m (s ∷ ss) d ≡ Some (anchored (content_anchor e.row.content) x)
  node_there x is = rows_stay_there.nodes m s ss d e x there h.last is

module _ (m : ℕ) (s : Step) (ss : List Step) (v : Node) (c : Cut) (e : RowsOfEntry) (read : read_at (cut_text c) ≡ Some c) (at : rows_of_entry m (s ∷ ss) c ≡ Some e) (h : HoldsInline e) (plain : is_filled v ≡ false) where
  module _ (d : Cut) (read_d : read_at (cut_text d) ≡ Some d) (still : StaysInRows e m (s ∷ ss) d) where
    abbrev now : RowsOfEntry
    now = rows_still e still

    holds : HoldsInline now
    holds = record { last = h.last; block = h.block; some = h.some }

    same_node : node_in m (s ∷ ss) d ≡ node_in m (s ∷ ss) c
    same_node =
        let x : (y : Node) × (head_of e.row.content ≡ Some y) = head m s ss c e read at h in
        node_there m s ss d now read_d still.found holds x.0 x.1 ∙ sym (node_there m s ss c e read at h x.0 x.1)

    by_kept : (b : Bool) → keeps_scalar (node_in m (s ∷ ss) c) v ≡ b → op_edits (replace m (s ∷ ss) v) d ≡ cond b (Some (keep (cut_text d) ∷ [])) (Some (inline_put v (held now)))
    by_kept b kept =
        row_edits.inline m s ss v d now still.found holds plain
        ∙ ap (λ (k : Bool). cond k (Some (keep (cut_text d) ∷ [])) (Some (inline_put v (held now)))) (ap (λ (o : Option Node). keeps_scalar o v) same_node ∙ kept)

    -- an equal scalar
    pub value_stays : keeps_scalar (node_in m (s ∷ ss) c) v ≡ true → op_edits (replace m (s ∷ ss) v) d ≡ Some (keep (cut_text d) ∷ [])
    value_stays = by_kept true

    -- another value
    pub value_comes : keeps_scalar (node_in m (s ∷ ss) c) v ≡ false → PutsText (replace m (s ∷ ss) v) d now (held e).head (value_text InBlock (held e).head v) ((held e).white ++ ((held e).comment ++ ((held e).last ++ (held e).after)))
    value_comes other =
        let edited = by_kept false other in
        record {
          segments = inline_put v (held now);
          front = (held now).before ++ (held now).space;
          edited = edited;
          whole = (edit_is (replace m (s ∷ ss) v) d (inline_put v (held now)) read_d edited).old;
          puts = row_edits.inline_puts v (held now) h.some (no_break m s ss d now read_d still.found holds) (no_lines m s ss d now read_d still.found holds);
          changes = λ operand fit size. exchanges_row m d now (inline_put v (held now)) (inline_values_change_rows m s ss v d now read_d still.found holds plain operand fit size);
        }

    -- which is another row of the shape
    pub value_changes : (other : keeps_scalar (node_in m (s ∷ ss) c) v ≡ false) → HasOperand (replace m (s ∷ ss) v) → Fits (room_of (cut_text d)) (replace m (s ∷ ss) v) (documents d) →
        length (new_text (value_comes other).segments) ≤ text_limit → ChangesRow m d now (value_comes other).segments
    unfolding value_comes
    value_changes other operand fit size = inline_values_change_rows m s ss v d now read_d still.found holds plain operand fit size

  -- where it is
  spelled : cut_text c ≡ ((held e).before ++ (held e).space) ++ ((held e).head ++ ((held e).white ++ ((held e).comment ++ ((held e).last ++ (held e).after))))
  spelled =
      let w : Held = held e in
      (held_spells m s ss c e read at h.last).0
      ∙ ((λ i. w.before ++ (w.space ++ (w.head ++ (w.white ++ (w.comment ++ (no_break m s ss c e read at h i ++ (no_lines m s ss c e read at h i ++ (w.last ++ w.after)))))))) ∙ sym (append_assoc w.before w.space _))

  pieces : HoldsPieces (held e)
  pieces = (held_spells m s ss c e read at h.last).1

  pub value_text_is : cut_text c ≡ ((held e).before ++ (held e).space) ++ ((held e).head ++ ((held e).white ++ ((held e).comment ++ ((held e).last ++ (held e).after))))
  value_text_is = spelled

  left : IsPiece ((held e).white ++ ((held e).comment ++ ((held e).last ++ (held e).after)))
  left =
      let w : Held = held e in
      subst IsPiece (append_assoc w.white w.comment (w.last ++ w.after)) (pieces_joined (w.white ++ w.comment) (w.last ++ w.after) pieces.line (pieces_joined w.last w.after pieces.last pieces.after))

  pub value_starts : IsCharBoundary (cut_text c) (length ((held e).before ++ (held e).space))
  value_starts = IsCharBoundary-at_seam (cut_text c) ((held e).before ++ (held e).space) _ spelled (pieces_joined (held e).head _ pieces.head left).utf8

  pub value_ends : IsCharBoundary (cut_text c) (length ((held e).before ++ (held e).space) + length (held e).head)
  value_ends =
      let w : Held = held e in
      let apart : cut_text c ≡ ((w.before ++ w.space) ++ w.head) ++ (w.white ++ (w.comment ++ (w.last ++ w.after))) = spelled ∙ sym (append_assoc (w.before ++ w.space) w.head _) in
      subst (IsCharBoundary (cut_text c)) (length-append (w.before ++ w.space) w.head) (IsCharBoundary-at_seam (cut_text c) ((w.before ++ w.space) ++ w.head) _ apart left.utf8)

-- the text of a value that is put in a row, up to its end, is no longer than a text may be
pub value_fits : (t : List ℕ) (n : ℕ) (steps : List Step) (v : Node) (x : HeldRow) → read_at t ≡ Some (cut_of t) → IsHeldRow n steps (cut_of t) x → x.inline ≡ true → is_filled v ≡ false → x.start + length x.head.now ≤ text_limit
value_fits t n [] v x read is inline plain = absurd (no_root_rows n (cut_of t) is.entry is.found)
value_fits t n (s ∷ ss) v x read is inline plain =
    let c : Cut = cut_of t in
    let again : read_at (cut_text c) ≡ Some c = ap read_at (text_read t c read) ∙ read in
    let h : HoldsInline is.entry = record { last = is.last; block = (is.inline inline).0; some = (is.inline inline).1 } in
    let w : Held = held is.entry in
    let text = ap length (value_text_is n s ss v c is.entry again is.found h plain) in
    let size = (cut_read (cut_text c) c again).size in
    omega (
      arith,
      size,
      text,
      is.start,
      ap length is.head,
      length-append (w.before ++ w.space) (w.head ++ (w.white ++ (w.comment ++ (w.last ++ w.after)))),
      length-append w.before w.space,
      length-append w.head (w.white ++ (w.comment ++ (w.last ++ w.after))),
    )

-- what the code tells of a value that is put in a row
pub value_puts : (t : List ℕ) (n : ℕ) (steps : List Step) (v : Node) (x : HeldRow) (put : RowPut) → read_at t ≡ Some (cut_of t) → IsHeldRow n steps (cut_of t) x → x.inline ≡ true → is_filled v ≡ false → HasOperand (replace n steps v) →
    put.doc ≡ n → put.first ≡ x.row → put.row ≡ x.row → put.start ≡ x.start → put.end ≡ x.start + length x.head.now →
    IsWrittenSo (node_in n steps (cut_of t)) v x.head.now (bytes_in string_bytes put.written) → PutsInRow (replace n steps v) (cut_of t) put
value_puts t n [] v x put read is inline plain operand doc first row start finish written = absurd (no_root_rows n (cut_of t) is.entry is.found)
value_puts t n (s ∷ ss) v x put read is inline plain operand doc first row start finish written =
    let c : Cut = cut_of t in
    let again : read_at (cut_text c) ≡ Some c = ap read_at (text_read t c read) ∙ read in
    let e : RowsOfEntry = is.entry in
    let h : HoldsInline e = record { last = is.last; block = (is.inline inline).0; some = (is.inline inline).1 } in
    let there : x.start ≡ length ((held e).before ++ (held e).space) = is.start ∙ sym (length-append (held e).before (held e).space) in
    let place : put.start ≡ length ((held e).before ++ (held e).space) = start ∙ there in
    let stop : put.end ≡ length ((held e).before ++ (held e).space) + length (held e).head = finish ∙ λ i. there i + length (is.head i) in
    record {
      place = of_entry (s ∷ ss) e;
      found = is.found;
      document = doc;
      first = first ∙ (is.row);
      row = row ∙ is.row;
      valid = operand;
      before = (held e).before ++ (held e).space;
      old = (held e).head;
      after = (held e).white ++ ((held e).comment ++ ((held e).last ++ (held e).after));
      text = value_text_is n s ss v c e again is.found h plain;
      start = place;
      finish = stop;
      starts = subst (IsCharBoundary (cut_text c)) (sym place) (value_starts n s ss v c e again is.found h plain);
      ends = subst (IsCharBoundary (cut_text c)) (sym stop) (value_ends n s ss v c e again is.found h plain);
      there = λ d there breaks still. there_so d there still again h (bytes_in string_bytes put.written) (subst (λ (y : List ℕ). IsWrittenSo (node_in n (s ∷ ss) c) v y (bytes_in string_bytes put.written)) is.head written);
    }
  where
    there_so : (d : Cut) → read_at (cut_text d) ≡ Some d → (still : StaysInRows is.entry n (s ∷ ss) d) →
        read_at (cut_text (cut_of t)) ≡ Some (cut_of t) → (h : HoldsInline is.entry) (w : Option (List ℕ)) →
        IsWrittenSo (node_in n (s ∷ ss) (cut_of t)) v (held is.entry).head w →
        PutsSo (replace n (s ∷ ss) v) d (rows_still is.entry still) (held is.entry).head ((held is.entry).white ++ ((held is.entry).comment ++ ((held is.entry).last ++ (held is.entry).after))) w
    there_so d there still again h None kept = value_stays n s ss v (cut_of t) is.entry again is.found h plain d there still kept
    there_so d there still again h (Some w) other =
        subst (λ (l : List ℕ). PutsText (replace n (s ∷ ss) v) d (rows_still is.entry still) (held is.entry).head l ((held is.entry).white ++ ((held is.entry).comment ++ ((held is.entry).last ++ (held is.entry).after)))) (sym other.1)
        (value_comes n s ss v (cut_of t) is.entry again is.found h plain d there still other.0)
