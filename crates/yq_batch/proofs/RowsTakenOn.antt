-- The cut of a text after one more item or entry was taken out of it with its lines, and what is still there.
use Rattle.std.proofs.Common.{◌≡◌, inl, inr, replicate, arith, ◌&&◌, ℕ, ◌+◌, ◌≤◌, Bool, true, false, not, cond, List, [], ◌∷◌, ◌++◌, length}
use Rattle.std.{proofs.Common.{Option, Some, None, refl, sym, ap, ◌∙◌, subst}, proofs.lemmas.List.append_cancel_left}
use Rattle.std.{proofs.lemmas.Bool.{le-leb, lt-ltb}, proofs.lemmas.Str.is_utf8-from_IsUtf8}
use Rattle.yq_text.specs.Limit.{text_limit}
use Rattle.yq_core.{specs.Paths.{Step, changed_at, remove_child, within}, specs.Text.{joined, text_lines, ends_line, past_white}}
use Rattle.yq_core.proofs.LineLaws.{joined_lines}
use Rattle.yq_core.specs.BlockRepair.{is_outdented_comment, is_short, repair, repaired_blank, repaired_comment}
use Rattle.yq_core.specs.Lines.{without_spaces, is_blank, is_tab, spaces}
use Rattle.yq_row_table.{specs.Rows.{Row, Part, Cut, cut_text}, specs.Splices.with_first_gap}
use Rattle.yq_outline.{specs.Laws.with_lines, specs.Lines.lines_of_rows}
use Rattle.yq_edit_rules.{specs.Siblings.put_lines, specs.Changed.{IsChanged, put_document}}
use Rattle.yq_edit_rules.{specs.RemovalChanges.{HasOwnRows, MayTakeOut, mended}, specs.DocumentRows.IsDocumentPart}
use Rattle.yq_edit_rules.{specs.Removes.{left_gap, without}, specs.TextPieces.IsPiece, proofs.PlacedLaws.entry_placed}
use Rattle.yq_edit_rules.{proofs.PlacedPartLaws.document_is_there_at, proofs.RemovalChangeLaws.{entry_taken, may_go}}
use Rattle.yq_edit_rules.{proofs.RemovalTextLaws.new_text, proofs.PartLaws.document_known, proofs.RemoveLaws.block_gone}
use Rattle.yq_edit_rules.proofs.TextPieceLaws.{text_is_piece}
use Rattle.yq_documents.{specs.Documents.lead_of, specs.Reading.{documents, read_at}}
use Rattle.yq_places.specs.PlacedRows.{PlacedPart, placed_document}
use Rattle.yq_places.{specs.RemovalPlaces.{OwnRows, Removal, Seam, has_others_at, own_rows, rows_out}, specs.RowPaths.IsReadable}
use Rattle.yq_places.proofs.UnderExchange.{lines_append}
use Rattle.yq_semantics.{specs.Fits.Fits, specs.Operations.remove, specs.Rooms.room_of}
use Rattle.yq_edit_laws.proofs.RemovingLaws.{may_take}
use Rattle.yq_batch.{specs.RemovalRuns.text_exchanged, specs.RowRemovals.{AreLow, IsLeast, IsRowRemovalRun, StaysAt}}
use Rattle.yq_batch.{specs.declared.changed_rows.ChangedRows.ChangedRows, proofs.EntryRemains.has}
use Rattle.yq_batch.proofs.RowsTaken.{finish, left_is, low_now, now, old_now, out, place, read_now, seam_stays, small, start, there}

-- ---- gaps that stay

lines_same : (m column n : ℕ) (ls : List (List ℕ)) → n ≤ m → AreLow n ls → repair false m column ls ≡ ls
unfolding repair
lines_same m column n [] less low = refl
lines_same m column n (l ∷ ls) less low = go (lines_same m column n ls less low.2) (is_blank l) low.0
  where
    go : repair false m column ls ≡ ls → (b : Bool) → cond b (ends_line (without_spaces l)) (not (is_tab (without_spaces l))) ≡ true → cond b (repaired_blank m l ∷ repair false m column ls) (repaired_comment m column l ∷ ls) ≡ l ∷ ls
    go more true e =
        let short : is_short m l ≡ true = (λ i. e i && le-leb (spaces l) m (let lt = low.1 in omega (arith, less, lt)) i) in
        (λ i. cond (short i) l (past_white l) ∷ more i)
    go more false e =
        let out : is_outdented_comment m l ≡ true = (λ i. lt-ltb (spaces l) m (let lt = low.1 in omega (arith, less, lt)) i && e i) in
        ap (λ (b : Bool). cond b l (replicate column 32 ++ past_white l) ∷ ls) out

no_lines : (ls : List (List ℕ)) → AreLow 0 ls → ls ≡ []
no_lines [] low = refl
no_lines (l ∷ ls) low = let less = low.1 in absurd (omega (arith, less))

pub gap_same : (o : Option Seam) (n : ℕ) (gap : List ℕ) → StaysAt o (Some n) → AreLow n (text_lines gap) → mended o gap ≡ gap
unfolding repair
gap_same None n gap stays low = refl
gap_same (Some s) n gap (inl none) low =
    let is : text_lines gap ≡ [] = no_lines (text_lines gap) (subst (λ (m : ℕ). AreLow m (text_lines gap)) none low) in
    ap (λ (ls : List (List ℕ)). joined (repair s.keeps s.indent s.column ls)) is ∙ (sym (ap joined is) ∙ joined_lines gap)
gap_same (Some s) n gap (inr deep) low =
    ap (λ (b : Bool). joined (repair b s.indent s.column (text_lines gap))) deep.0 ∙ (ap joined (lines_same s.indent s.column n (text_lines gap) deep.1 low) ∙ joined_lines gap)

-- ---- the next cut

module _ (c : Cut) (n : ℕ) (above : List Step) (s : Step) (z : ChangedRows) (next : Option ℕ) (keep : ℕ) (tail : List ℕ) (run : IsRowRemovalRun c n z keep tail) (read : read_at (cut_text c) ≡ Some c)
    (d : PlacedPart) (placed : placed_document n c ≡ Some d) (x : OwnRows) (own : own_rows (above ++ (s ∷ [])) d.part.rows ≡ Some x) (short : length (rows_out d x).before + length (rows_out d x).gone ≤ keep)
    (others : has_others_at n (above ++ (s ∷ [])) run.cut ≡ true) (stays : StaysAt (rows_out d x).seam next) (low : IsLeast z.least (rows_out d x).gap next)
    (fits : Fits (room_of (cut_text run.cut)) (remove n (above ++ (s ∷ []))) (documents run.cut)) where
  abbrev now_part : PlacedPart
  now_part = (there c n above s z next keep tail run read d placed x own short others stays low).now

  abbrev back : List Row
  back = (there c n above s z next keep tail run read d placed x own short others stays low).back

  abbrev y : OwnRows
  y = record x { back = back }

  abbrev gone : Removal
  gone = out c n above s z next keep tail run read d placed x own short others stays low

  -- the part without these rows
  abbrev pub q : Part
  q = without x.front x.own back now_part.part

  abbrev pub next_cut : Cut
  next_cut = put_document n q run.cut

  pub mended_is : mended gone.seam gone.gap ≡ gone.gap
  mended_is = go next refl gone.seam refl
    where
      stay : StaysAt gone.seam next
      stay = seam_stays c n above s z next keep tail run read d placed x own short others stays low

      go : (m : Option ℕ) → next ≡ m → (o : Option Seam) → gone.seam ≡ o → mended gone.seam gone.gap ≡ gone.gap
      go m e None is = ap (λ (o : Option Seam). mended o gone.gap) is
      go None e (Some k) is = absurd (subst (λ (o : Option Seam). StaysAt o None) is (subst (StaysAt gone.seam) e stay))
      go (Some m) e (Some k) is = gap_same gone.seam m gone.gap (subst (StaysAt gone.seam) e stay) (low_now c n above s z next keep tail run read d placed x own short others stays low m e)

  size : length (gone.before ++ (mended gone.seam gone.gap ++ gone.after)) ≤ text_limit
  size = subst (λ (g : List ℕ). length (gone.before ++ (g ++ gone.after)) ≤ text_limit) (sym mended_is) (small c n above s z next keep tail run read d placed x own short others stays low)

  abbrev old : IsDocumentPart (cut_text run.cut) run.cut n now_part.part
  old = old_now c n above s z next keep tail run read d placed x own short others stays low

  abbrev w : HasOwnRows now_part.part above s y
  w = has (cut_text run.cut) run.cut n now_part.part above s y old (there c n above s z next keep tail run read d placed x own short others stays low).own

  abbrev may : MayTakeOut run.cut n (above ++ (s ∷ []))
  may = may_take n (above ++ (s ∷ [])) run.cut others fits

  text_q : cut_text next_cut ≡ gone.before ++ (mended gone.seam gone.gap ++ gone.after)
  text_q =
      let st = document_is_there_at run.cut n now_part (there c n above s z next keep tail run read d placed x own short others stays low).placed in
      st.put q ∙ new_text now_part y

  readable : IsReadable (cut_text next_cut)
  readable =
      let taken = entry_taken run.cut n (above ++ (s ∷ [])) gone (read_now c n above s z next keep tail run read d placed x own short others stays low)
      (place c n above s z next keep tail run read d placed x own short others stays low) may size in
      let piece : IsPiece (cut_text next_cut) = subst IsPiece (taken.0.text ∙ sym text_q) (text_is_piece (put_document n taken.0.new run.cut) taken.0.changed.read) in
      record {
        utf8 = is_utf8-from_IsUtf8 (cut_text next_cut) piece.utf8;
        characters = piece.characters;
        size = subst (λ (t : List ℕ). length t ≤ text_limit) (sym text_q) size;
      }

  went : IsChanged run.cut next_cut n (lead_of q) (changed_at above (within (remove_child s))) × (lines_of_rows q.rows ≡ put_lines w.h (with_lines w.f []))
  went =
      let go = may_go (cut_text run.cut) run.cut n now_part.part above s w.h w.f old w.entry may in
      block_gone (cut_text run.cut) run.cut n now_part.part above s w.h w.f x.front x.own back old w.entry go.0 w.rows go.1 readable

  -- it is read so
  pub read_next : read_at (cut_text next_cut) ≡ Some next_cut
  read_next = went.0.read

  pub text_next : cut_text next_cut ≡ text_exchanged (now c n above s z next keep tail run read d placed x own short others stays low)
      (start c n above s z next keep tail run read d placed x own short others stays low) (finish c n above s z next keep tail run read d placed x own short others stays low) []
  text_next = text_q ∙ (ap (λ (g : List ℕ). gone.before ++ (g ++ gone.after)) mended_is ∙ sym (left_is c n above s z next keep tail run read d placed x own short others stays low))

  -- the lines of the rows after those that go stay
  pub back_same : lines_of_rows (with_first_gap (left_gap x.front x.own back now_part.part) back) ≡ lines_of_rows back
  back_same =
      let split : lines_of_rows now_part.part.rows ≡ lines_of_rows x.front ++ (lines_of_rows x.own ++ lines_of_rows back) =
      ap lines_of_rows w.rows.rows_are ∙ (lines_append x.front (x.own ++ back) ∙ ap (λ ls. lines_of_rows x.front ++ ls) (lines_append x.own back)) in
      let parted = entry_placed _ now_part.part above w.h s w.f (lines_of_rows x.front) (lines_of_rows x.own) (lines_of_rows back)
      (document_known (cut_text run.cut) run.cut n now_part.part old).even w.entry (record { parts_are = split; before_are = w.rows.number; size_is = w.rows.count }) in
      append_cancel_left (lines_of_rows x.front) _ _
      (sym (lines_append x.front (with_first_gap (left_gap x.front x.own back now_part.part) back)) ∙ (went.1 ∙ parted.1 []))
