-- A run goes on after one more item or entry was taken out with its lines.
use Rattle.std.proofs.Common.{◌≡◌, ℕ, ◌+◌, ◌≤◌, true, false, List, [], ◌∷◌, ◌++◌, length, take, Option, Some, None, option_map, refl, sym}
use Rattle.std.{proofs.Common.{ap, ◌∙◌, ◌-◌, subst, append_assoc, arith, drop, length-append}, proofs.Math.Seq.take-append_seam}
use Rattle.std.{proofs.lemmas.Bool.false≢true, proofs.lemmas.Option.same_Some}
use Rattle.yq_core.{specs.Answers.◌>>=◌, specs.Paths.Step, specs.Text.{is_empty, joined, text_lines}}
use Rattle.yq_row_table.{specs.Gap.{AreGapLines, IsGap}, specs.Grammar.{AreRows, IsRow, Limit, limit_after, no_rows, unlimited}}
use Rattle.yq_row_table.specs.Rows.{Row, Part, Cut, following_gap, cut_text, rows_text}
use Rattle.yq_row_table.{specs.Splices.{end_gap, first_gap, with_first_gap}, specs.Removal.{last_block, next_column}}
use Rattle.yq_row_table.{proofs.NothingLaws.some_after, proofs.seams.BlockFronts.gap_front, proofs.seams.FrontSeams.after_row_some}
use Rattle.yq_row_table.{proofs.seams.GapFronts.lines_joined_of, proofs.seams.GapSeams.gap_lines_of}
use Rattle.yq_documents.{specs.LinesInRows.document_row, specs.Pieces.{before_run, last_run}, specs.Reading.{documents, read_at}}
use Rattle.yq_places.specs.PlacedRows.{PlacedPart, placed_at, placed_document}
use Rattle.yq_places.specs.RemovalPlaces.{OwnRows, Removal, has_others_at, kept_gap, own_rows, removal_place, rows_out}
use Rattle.yq_places.{proofs.PlacedPartLaws.{map_some, part_rows}, proofs.RemovalTexts.run_parts}
use Rattle.yq_edit_rules.{proofs.RowStayLaws.placed_put, specs.Changed.KeepsRows, specs.Removes.left_gap}
use Rattle.yq_edit_rules.{proofs.RemovalChangeLaws.removal_is_there, proofs.RemovalTextLaws.gap_mended, specs.DocumentRows.IsDocumentPart}
use Rattle.yq_edit_rules.specs.LineRows.{Begins}
use Rattle.yq_semantics.{specs.Fits.Fits, specs.Operations.remove, specs.Rooms.room_of}
use Rattle.yq_edit_laws.proofs.CutLaws.{cut_read}
use Rattle.yq_outline.specs.Lines.{lines_of_rows}
use Rattle.yq_batch.specs.RowRemovals.{AreLow, BeginAsLow, IsLeast, IsRowRemovalRun, IsPlacedBefore, StayLow, StaysAt, stop_after}
use Rattle.yq_batch.{specs.declared.changed_rows.ChangedRows.ChangedRows, proofs.RowsBeforeOffset.before_offset}
use Rattle.yq_batch.proofs.EntryRemains.{begins, entry_remains, following_rows, has, lower_after, own_first}
use Rattle.yq_batch.proofs.ChangedRowLaws.{from_own, stop_lower}
use Rattle.yq_batch.proofs.RowsTaken.{before_is, left_is, low_now, old, old_now, out, start, there}
use Rattle.yq_batch.proofs.RowsTakenOn.{back_same, mended_is, next_cut, q, read_next, text_next}

-- ---- low lines

low_more : (m n : ℕ) (ls : List (List ℕ)) → m ≤ n → AreLow m ls → AreLow n ls
low_more m n [] less low = tt
low_more m n (l ∷ ls) less low = (low.0, (let lt = low.1 in omega (arith, less, lt)), low_more m n ls less low.2)

low_both : (n : ℕ) (a b : List (List ℕ)) → AreLow n a → AreLow n b → AreLow n (a ++ b)
low_both n [] b h k = k
low_both n (l ∷ a) b h k = (h.0, h.1, low_both n a b h.2 k)

low_front : (n : ℕ) (a b : List (List ℕ)) → AreLow n (a ++ b) → AreLow n a
low_front n [] b h = tt
low_front n (l ∷ a) b h = (h.0, h.1, low_front n a b h.2)

-- what stays of the gap of a row, in front of another gap, is as low as both
joined_low : (n : ℕ) (limit : Limit) (r : Row) (rest next : List ℕ) → IsRow limit r rest → AreLow n (text_lines r.gap) → AreLow n (text_lines next) → AreLow n (text_lines (joined (before_run (text_lines r.gap)) ++ next))
joined_low n limit r rest next h own low =
    let ls : List (List ℕ) = text_lines r.gap in
    let x : List ℕ = joined (last_run ls) ++ following_gap r rest in
    let lines : AreGapLines (before_run ls) x = gap_front r.gap (following_gap r rest) (before_run ls) (last_run ls) h.gap (run_parts ls) in
    let some : is_empty x ≡ false = some_after (joined (last_run ls)) (following_gap r rest) (after_row_some limit r rest h) in
    let gap : IsGap (joined (before_run ls)) x = record { lines = before_run ls; spelled = refl; each = lines } in
    subst (AreLow n) (sym (lines_joined_of (joined (before_run ls)) next x some gap))
    (low_both n (text_lines (joined (before_run ls))) (text_lines next)
    (subst (AreLow n) (sym (gap_lines_of (before_run ls) x lines)) (low_front n (before_run ls) (last_run ls) (subst (AreLow n) (run_parts ls) own))) low)

-- the rest after a row among others
row_rest : (a : List Row) (r : Row) (m : List Row) (limit : Limit) (end rest : List ℕ) → AreRows limit (a ++ (r ∷ m)) end rest → (asked : Limit) × (after : List ℕ) × IsRow asked r after
row_rest [] r m limit end rest h = (limit, rows_text m (end ++ rest), h.0)
row_rest (x ∷ a) r m limit end rest h = row_rest a r m (limit_after x) end rest h.1

-- ---- rows

empty_front : (a b : List Row) → no_rows (a ++ b) ≡ true → no_rows a ≡ true
empty_front [] b h = refl
empty_front (r ∷ a) b h = h

empty_back : (a b : List Row) → no_rows (a ++ b) ≡ true → no_rows b ≡ true
empty_back [] b h = h
empty_back (r ∷ a) b h = absurd (false≢true h)

put_first : (gap : List ℕ) (rs : List Row) (end : List ℕ) → first_gap (with_first_gap gap rs) (end_gap gap rs end) ≡ gap
put_first gap [] end = refl
put_first gap (r ∷ rs) end = refl

-- ---- the run

module _ (c : Cut) (n : ℕ) (above : List Step) (s : Step) (z : ChangedRows) (next : Option ℕ) (keep : ℕ) (tail : List ℕ) (run : IsRowRemovalRun c n z keep tail) (read : read_at (cut_text c) ≡ Some c)
    (d : PlacedPart) (placed : placed_document n c ≡ Some d) (x : OwnRows) (own : own_rows (above ++ (s ∷ [])) d.part.rows ≡ Some x) (short : length (rows_out d x).before + length (rows_out d x).gone ≤ keep)
    (others : has_others_at n (above ++ (s ∷ [])) run.cut ≡ true) (stays : StaysAt (rows_out d x).seam next) (low : IsLeast z.least (rows_out d x).gap next)
    (fits : Fits (room_of (cut_text run.cut)) (remove n (above ++ (s ∷ []))) (documents run.cut)) where
  abbrev k : ℕ
  k = document_row n c

  -- which rows are changed then
  abbrev pub changed : ChangedRows
  changed = record { least = next; first = k + length x.front; stop = stop_after z (k + length x.front + length x.own) }

  abbrev now_there : IsPlacedBefore d x run.cut n (above ++ (s ∷ [])) z k
  now_there = there c n above s z next keep tail run read d placed x own short others stays low

  abbrev p : Part
  p = now_there.now.part

  abbrev back : List Row
  back = now_there.back

  abbrev gone : Removal
  gone = out c n above s z next keep tail run read d placed x own short others stays low

  abbrev left : Part
  left = q c n above s z next keep tail run read d placed x own short others stays low fits

  abbrev new : Cut
  new = next_cut c n above s z next keep tail run read d placed x own short others stays low fits

  abbrev at : ℕ
  at = start c n above s z next keep tail run read d placed x own short others stays low

  abbrev gap_now : List ℕ
  gap_now = left_gap x.front x.own back p

  first : (r : Row) × (g : List Row) × (x.own ≡ r ∷ g)
  first = own_first (cut_text c) c n d.part above s x (old c n above s z next keep tail run read d placed x own short others stays low) own

  gap_is : gap_now ≡ kept_gap x.own p.end ++ gone.gap
  gap_is =
      gap_mended (last_block x.front) (next_column back) (kept_gap x.own p.end) (first_gap back p.end)
      ∙ ap (λ (g : List ℕ). kept_gap x.own p.end ++ g) (mended_is c n above s z next keep tail run read d placed x own short others stays low fits)

  rows_of_it : d.part.rows ≡ x.front ++ (x.own ++ x.back)
  rows_of_it = (has (cut_text c) c n d.part above s x (old c n above s z next keep tail run read d placed x own short others stays low) own).rows.rows_are

  lines_same : lines_of_rows (with_first_gap gap_now back) ≡ lines_of_rows back
  lines_same = back_same c n above s z next keep tail run read d placed x own short others stays low fits

  -- what comes after it now is no deeper than the row at which those that are changed end
  stop_low : BeginAsLow (drop (changed.stop - k) d.part.rows) (with_first_gap gap_now back)
  stop_low = λ l low_l. subst (Begins l) (sym lines_same) (stop_lower d.part.rows x.front x.own x.back k rows_of_it z back now_there.lower now_there.stop l low_l)

  -- one in front of it
  module _ (beneath : List Step) (t : Step) (y : OwnRows) (own_y : own_rows (beneath ++ (t ∷ [])) d.part.rows ≡ Some y) (before : length (rows_out d y).before + length (rows_out d y).gone ≤ at) where
    abbrev was : IsPlacedBefore d y run.cut n (beneath ++ (t ∷ [])) z k
    was = run.stays beneath t d y placed own_y (omega (arith, before, short))

    same_now : was.now ≡ now_there.now
    same_now = same_Some _ _ (sym was.placed ∙ now_there.placed)

    own_now : own_rows (beneath ++ (t ∷ [])) p.rows ≡ Some (record y { back = was.back })
    own_now = subst (λ (e : PlacedPart). own_rows (beneath ++ (t ∷ [])) e.part.rows ≡ Some (record y { back = was.back })) same_now was.own

    first_y : (r : Row) × (g : List Row) × (y.own ≡ r ∷ g)
    first_y = own_first (cut_text c) c n d.part beneath t y (old c n above s z next keep tail run read d placed x own short others stays low) own_y

    between : (m : List Row) × (x.front ≡ y.front ++ (y.own ++ m))
    between =
        let is = old c n above s z next keep tail run read d placed x own short others stays low in
        before_offset d y x (ap no_rows first_y.2) first.0 first.1 first.2 (has (cut_text c) c n d.part beneath t y is own_y).rows.rows_are (has (cut_text c) c n d.part above s x is own).rows.rows_are
        (part_rows n c d (cut_read (cut_text c) c read).parts placed) before

    abbrev new_back : List Row
    new_back = between.0 ++ with_first_gap gap_now back

    is_now : IsDocumentPart (cut_text run.cut) run.cut n p
    is_now = old_now c n above s z next keep tail run read d placed x own short others stays low

    was_back : was.back ≡ between.0 ++ (x.own ++ back)
    was_back = following_rows (cut_text run.cut) run.cut n p beneath above t s (record y { back = was.back }) (record x { back = back }) is_now own_now now_there.own between.0 between.1

    own_left : own_rows (beneath ++ (t ∷ [])) left.rows ≡ Some (record y { back = new_back })
    own_left =
        let low_left = lower_after (cut_text run.cut) run.cut n p beneath above t s (record y { back = was.back }) (record x { back = back }) is_now own_now now_there.own between.0 between.1
        (with_first_gap gap_now back) (λ m b. subst (Begins m) (sym lines_same) b) _ (begins (cut_text run.cut) run.cut n p beneath t (record y { back = was.back }) is_now own_now) in
        let rows_are : left.rows ≡ y.front ++ (y.own ++ new_back) =
        ap (λ (rs : List Row). rs ++ with_first_gap gap_now back) between.1
        ∙ (append_assoc y.front (y.own ++ between.0) (with_first_gap gap_now back) ∙ ap (λ (rs : List Row). y.front ++ rs) (append_assoc y.own between.0 (with_first_gap gap_now back))) in
        ap (own_rows (beneath ++ (t ∷ []))) rows_are ∙ entry_remains (cut_text run.cut) run.cut n p beneath t (record y { back = was.back }) is_now own_now new_back low_left

    -- the rows after it are no deeper
    back_lower : BeginAsLow y.back new_back
    back_lower =
        lower_after (cut_text c) c n d.part beneath above t s y x (old c n above s z next keep tail run read d placed x own short others stays low) own_y own between.0 between.1
        (with_first_gap gap_now back) (λ m b. subst (Begins m) (sym lines_same) (now_there.lower m b))

    back_stops : y.back ≡ drop (changed.first - k) d.part.rows → BeginAsLow (drop (changed.stop - k) d.part.rows) new_back
    back_stops from =
        let is = old c n above s z next keep tail run read d placed x own short others stays low in
        let rows : between.0 ++ (x.own ++ x.back) ≡ x.own ++ x.back =
        sym (following_rows (cut_text c) c n d.part beneath above t s y x is own_y own between.0 between.1) ∙ (from ∙ from_own d.part.rows x.front x.own x.back k rows_of_it) in
        none between.0 (omega (arith, ap length rows, length-append between.0 (x.own ++ x.back)))
      where
        none : (m : List Row) → length m ≡ 0 → BeginAsLow (drop (changed.stop - k) d.part.rows) (m ++ with_first_gap gap_now back)
        none [] e = stop_low
        none (r ∷ m) e = absurd (omega (arith, e))

    keeps : KeepsRows p left
    keeps none =
        let front : no_rows x.front ≡ true = empty_front x.front (with_first_gap gap_now back) none in
        let own_none : no_rows y.own ≡ true = empty_front y.own between.0 (empty_back y.front (y.own ++ between.0) (ap no_rows (sym between.1) ∙ front)) in
        absurd (false≢true (sym (ap no_rows first_y.2) ∙ own_none))

    -- the gap after it is as low
    gap_low : StayLow next (first_gap y.back d.part.end) (first_gap new_back left.end)
    gap_low = go next refl
      where
        go : (o : Option ℕ) → next ≡ o → StayLow o (first_gap y.back d.part.end) (first_gap new_back left.end)
        go None e = tt
        go (Some low_as) e = λ m more low_old.
            let h : IsLeast z.least (rows_out d x).gap (Some low_as) = subst (IsLeast z.least (rows_out d x).gap) e low in
            let stay : StayLow (Some h.0) (first_gap y.back d.part.end) (first_gap was.back was.now.part.end) = subst (λ (o : Option ℕ). StayLow o (first_gap y.back d.part.end) (first_gap was.back was.now.part.end)) h.1 was.low in
            let less = h.2 in
            let here : AreLow m (text_lines (first_gap was.back was.now.part.end)) = stay m (omega (arith, more, less)) low_old in
            low_here m more between.0 refl (subst (λ (rs : List Row). AreLow m (text_lines (first_gap rs was.now.part.end))) was_back here)
          where
            low_here : (m : ℕ) → low_as ≤ m → (ms : List Row) → between.0 ≡ ms → AreLow m (text_lines (first_gap (between.0 ++ (x.own ++ back)) was.now.part.end)) → AreLow m (text_lines (first_gap new_back left.end))
            low_here m more (r ∷ ms) is here =
                subst (λ (rs : List Row). AreLow m (text_lines (first_gap (rs ++ with_first_gap gap_now back) left.end))) (sym is)
                (subst (λ (rs : List Row). AreLow m (text_lines (first_gap (rs ++ (x.own ++ back)) was.now.part.end))) is here)
            low_here m more [] is here =
                let r : Row = first.0 in
                let own_low : AreLow m (text_lines r.gap) =
                subst (λ (rs : List Row). AreLow m (text_lines (first_gap (rs ++ back) was.now.part.end))) first.2 (subst (λ (rs : List Row). AreLow m (text_lines (first_gap (rs ++ (x.own ++ back)) was.now.part.end))) is here) in
                let rows : p.rows ≡ x.front ++ (r ∷ (first.1 ++ back)) =
                (has (cut_text run.cut) run.cut n p above s (record x { back = back }) (old_now c n above s z next keep tail run read d placed x own short others stays low) now_there.own).rows.rows_are
                ∙ ap (λ (rs : List Row). x.front ++ (rs ++ back)) first.2 in
                let are : AreRows unlimited p.rows p.end now_there.now.after =
                part_rows n run.cut now_there.now (cut_read _ run.cut run.read).parts now_there.placed in
                let row = row_rest x.front r (first.1 ++ back) unlimited p.end now_there.now.after (subst (λ (rs : List Row). AreRows unlimited rs p.end now_there.now.after) rows are) in
                let both : AreLow m (text_lines (joined (before_run (text_lines r.gap)) ++ gone.gap)) =
                joined_low m row.0 r row.1 gone.gap row.2 own_low (low_more low_as m (text_lines gone.gap) more (low_now c n above s z next keep tail run read d placed x own short others stays low low_as e)) in
                let now_is : gap_now ≡ joined (before_run (text_lines r.gap)) ++ gone.gap = gap_is ∙ ap (λ (rs : List Row). kept_gap rs p.end ++ gone.gap) first.2 in
                subst (λ (rs : List Row). AreLow m (text_lines (first_gap (rs ++ with_first_gap gap_now back) left.end))) (sym is)
                (subst (λ (g : List ℕ). AreLow m (text_lines g)) (sym (put_first gap_now back p.end ∙ now_is)) both)

    pub remains : IsPlacedBefore d y new n (beneath ++ (t ∷ [])) changed k
    remains =
        let there_now = (old_now c n above s z next keep tail run read d placed x own short others stays low).there in
        let parts = map_some (λ (z : Part). placed_at _ run.cut) _ now_there.now now_there.placed in
        record {
          now = _;
          placed = placed_put run.cut n p left there_now keeps;
          before = ap (λ (e : PlacedPart). e.before) parts.2 ∙ now_there.before;
          back = new_back;
          own = own_left;
          low = gap_low;
          lower = back_lower;
          stop = back_stops;
        }

  pub goes_on : IsRowRemovalRun c n changed at (gone.gap ++ gone.after)
  goes_on =
      let place_c : removal_place n (above ++ (s ∷ [])) c ≡ Some (rows_out d x) =
      ap (λ (o : Option PlacedPart). o >>= λ e. option_map (rows_out e) (own_rows (above ++ (s ∷ [])) e.part.rows)) placed ∙ ap (option_map (rows_out d)) own in
      let front : take at (cut_text c) ≡ (rows_out d x).before = ap (take at) (removal_is_there c n (above ++ (s ∷ [])) (rows_out d x) read place_c) ∙ take-append_seam (rows_out d x).before _ in
      let text : take at (cut_text c) ++ (gone.gap ++ gone.after) ≡ cut_text new =
      ap (λ (t : List ℕ). t ++ (gone.gap ++ gone.after)) (front ∙ sym (before_is c n above s z next keep tail run read d placed x own short others stays low))
      ∙ (sym (left_is c n above s z next keep tail run read d placed x own short others stays low) ∙ sym (text_next c n above s z next keep tail run read d placed x own short others stays low fits)) in
      record {
        within = (let most = run.within in omega (arith, short, most));
        cut = new;
        read = ap read_at text ∙ read_next c n above s z next keep tail run read d placed x own short others stays low fits;
        stays = λ beneath t e y placed_e own_e before.
            subst (λ (f : PlacedPart). own_rows (beneath ++ (t ∷ [])) f.part.rows ≡ Some y → length (rows_out f y).before + length (rows_out f y).gone ≤ at → IsPlacedBefore f y new n (beneath ++ (t ∷ [])) changed k)
            (same_Some _ _ (sym placed ∙ placed_e)) (λ o b. remains beneath t y o b) own_e before;
      }
