-- A run goes on after an empty collection came in the place of one of which one item or entry was left.
use Rattle.std.proofs.Common.{◌≡◌, inl, inr, ℕ, suc, ◌+◌, ◌<◌, ◌≤◌, false, List, [], ◌∷◌, ◌++◌, length, length-take-le, take, Some, refl}
use Rattle.std.{proofs.Common.{sym, ap, ◌∙◌, subst, arith, append_assoc, length-append}, proofs.lemmas.Bool.{cases_lt, false≢true}}
use Rattle.std.{proofs.lemmas.List.{append_cancel_left, take-append-le, take-take}, proofs.lemmas.Option.same_Some}
use Rattle.yq_core.{specs.BlockWritten.break_text, specs.Paths.Step, specs.Text.{is_empty, text_lines}}
use Rattle.yq_outline.{specs.Comments.head_comment, specs.Lines.{lines_from, lines_of_rows}, specs.Outline.level}
use Rattle.yq_row_table.{specs.Rows.{Content, Row, Part, Cut, cut_text, rows_text}, specs.Exchange.with_content, specs.Grammar.no_rows}
use Rattle.yq_row_table.{specs.Splices.first_gap, proofs.seams.SeamLaws.rows_text-append, proofs.splices.SpliceTexts.own_gap}
use Rattle.yq_documents.{specs.LinesInRows.{RowLine, document_row, row_line_of}, specs.Reading.{documents, read_at}}
use Rattle.yq_places.{specs.PlacedRows.{PlacedPart, placed_at, placed_document}, specs.Placements.{Held, RowsOfEntry, entry_rows_at}}
use Rattle.yq_places.{specs.RemovalPlaces.{OwnRows, own_rows, rows_out}, proofs.PlacedPartLaws.map_some, proofs.RemovalTexts.texts_then}
use Rattle.yq_edit_rules.{proofs.RowStayLaws.placed_put, specs.Appends.inserted, specs.Changed.{KeepsRows, put_document}}
use Rattle.yq_edit_rules.specs.LineRows.{Begins}
use Rattle.yq_semantics.{specs.Fits.Fits, specs.Operations.remove, specs.Rooms.room_of}
use Rattle.yq_edit_laws.proofs.HeldInline.{RowMade}
use Rattle.yq_batch.specs.RowRemovals.{AreLow, BeginAsLow, IsPlacedBefore, IsRowRemovalRun, StayLow, stop_after}
use Rattle.yq_batch.specs.declared.changed_rows.ChangedRows.{ChangedRows}
use Rattle.yq_batch.{proofs.EntryRemains.{begins, begins_after, entry_remains, has, own_first}, proofs.RowsBeforeOffset.{ends, split_front}}
use Rattle.yq_batch.proofs.EmptiedTexts as texts
use Rattle.yq_batch.proofs.RowsEmptied as emptied

-- ---- a row with another content

row_low : (n : ℕ) (r : Row) (w : Content) (old more : List Row) → Begins n (lines_of_rows (r ∷ old)) → Begins n (lines_of_rows (with_content w r ∷ more))
unfolding level
row_low n r w old more h = go r.dashes h
  where
    go : (ds : List ℕ) → Begins n (lines_from (head_comment r.gap) r.column ds r.mark r.content ++ lines_of_rows old) → Begins n (lines_from (head_comment r.gap) r.column ds r.mark w ++ lines_of_rows more)
    go [] h = h
    go (d ∷ ds) h = h

rows_low : (n : ℕ) (m : List Row) (r : Row) (w : Content) (old more : List Row) → Begins n (lines_of_rows (m ++ (r ∷ old))) → Begins n (lines_of_rows (m ++ (with_content w r ∷ more)))
rows_low n m r w old more h =
    begins_after n m (r ∷ old) (with_content w r ∷ more) h (λ none. row_low n r w old more (subst (λ (k : List Row). Begins n (lines_of_rows (k ++ (r ∷ old)))) none h))

gaps_same : (m : List Row) (r : Row) (w : Content) (old more : List Row) (i j : List ℕ) → first_gap (m ++ (r ∷ old)) i ≡ first_gap (m ++ (with_content w r ∷ more)) j
gaps_same [] r w old more i j = refl
gaps_same (k ∷ m) r w old more i j = refl

some_rows : (a : List Row) (r : Row) (b : List Row) → no_rows (a ++ (r ∷ b)) ≡ false
some_rows [] r b = refl
some_rows (k ∷ a) r b = refl

-- ---- the run

module _ (c : Cut) (n : ℕ) (u : Step) (us : List Step) (s : Step) (z : ChangedRows) (keep : ℕ) (tail : List ℕ) (run : IsRowRemovalRun c n z keep tail) (read : read_at (cut_text c) ≡ Some c)
    (d : PlacedPart) (placed : placed_document n c ≡ Some d) (x : OwnRows) (own : own_rows ((u ∷ us) ++ (s ∷ [])) d.part.rows ≡ Some x) (short : length (rows_out d x).before + length (rows_out d x).gone ≤ keep)
    (q : RowLine) (line : row_line_of (u ∷ us) d.part.rows ≡ Some q) (last : q.line ≡ length q.row.dashes) (next : q.before + 1 ≡ length x.front)
    (stops : document_row n c + length (entry_rows_at d q).front + suc (length (entry_rows_at d q).under) ≡ stop_after z (document_row n c + length x.front + length x.own)) where
  abbrev h : Held
  h = emptied.h c n u us s z keep tail run read d placed x own short q line last next stops

  abbrev e : RowsOfEntry
  e = emptied.e c n u us s z keep tail run read d placed x own short q line last next stops

  abbrev now : PlacedPart
  now = emptied.now c n u us s z keep tail run read d placed x own short q line last next stops

  abbrev written : List ℕ
  written = emptied.t c n u us s z keep tail run read d placed x own short q line last next stops

  module _ (head : h.head ≡ []) (white : h.white ≡ []) (comment : h.comment ≡ []) (broken : is_empty h.break ≡ false) (fits : Fits (room_of (cut_text run.cut)) (remove n ((u ∷ us) ++ (s ∷ []))) (documents run.cut))
      (room : 3 ≤ length h.break + length h.lines) (three : length (32 ∷ written) ≡ 3) (start : ℕ) (start_is : start ≡ length (h.before ++ h.space)) where
    abbrev made : RowMade n run.cut e (emptied.there c n u us s z keep tail run read d placed x own short q line last next stops).part
        (emptied.segments c n u us s z keep tail run read d placed x own short q line last next stops)
        (emptied.v c n u us s z keep tail run read d placed x own short q line last next stops)
    made = emptied.made c n u us s z keep tail run read d placed x own short q line last next stops head white comment broken fits room three

    abbrev p : Part
    p = (emptied.there c n u us s z keep tail run read d placed x own short q line last next stops).part

    p_same : p ≡ now.part
    p_same = same_Some _ _ (sym (emptied.there c n u us s z keep tail run read d placed x own short q line last next stops).old.there ∙ (emptied.old_now c n u us s z keep tail run read d placed x own short q line last next stops).there)

    abbrev new_row : Row
    new_row = with_content made.content q.row

    abbrev left : Part
    left = inserted e.front (new_row ∷ []) e.back p

    abbrev new : Cut
    new = put_document n left run.cut

    left_rows : left.rows ≡ e.front ++ (new_row ∷ e.back)
    left_rows = ap (λ (rs : List Row). e.front ++ (new_row ∷ rs)) (own_gap e.back p.end)

    rows_now : now.part.rows ≡ e.front ++ (q.row ∷ (e.under ++ e.back))
    rows_now = ap (λ (w : Part). w.rows) (sym p_same) ∙ (emptied.there c n u us s z keep tail run read d placed x own short q line last next stops).rows_are

    rows_of_it : d.part.rows ≡ e.front ++ (q.row ∷ (x.own ++ x.back))
    rows_of_it =
        emptied.rows_of_it c n u us s z keep tail run read d placed x own short q line last next stops
        ∙ (ap (λ (rs : List Row). rs ++ (x.own ++ x.back)) (emptied.front_is c n u us s z keep tail run read d placed x own short q line last next stops) ∙ append_assoc e.front (q.row ∷ []) (x.own ++ x.back))

    own_some : no_rows x.own ≡ false
    own_some = ap no_rows (own_first (cut_text c) c n d.part (u ∷ us) s x (emptied.old c n u us s z keep tail run read d placed x own short q line last next stops) own).2

    start_less : start < length d.before + length (rows_text x.front [])
    start_less = (let less = emptied.front_less c n u us s z keep tail run read d placed x own short q line last next stops head white comment broken in omega (arith, less, start_is, length-append h.before h.space))

    pub start_short : start ≤ keep
    start_short =
        omega (
          arith,
          start_less,
          short,
          ends d x own_some,
          ap length (rows_text-append x.front x.own []),
          ap length (texts_then x.front [] (rows_text x.own [])),
          length-append (rows_text x.front []) (rows_text x.own []),
        )

    -- one in front of it
    module _ (beneath : List Step) (t : Step) (y : OwnRows) (own_y : own_rows (beneath ++ (t ∷ [])) d.part.rows ≡ Some y) (before : length (rows_out d y).before + length (rows_out d y).gone ≤ start) where
      abbrev was : IsPlacedBefore d y run.cut n (beneath ++ (t ∷ [])) z (document_row n c)
      was = run.stays beneath t d y placed own_y (let less = start_short in omega (arith, before, less))

      own_now : own_rows (beneath ++ (t ∷ [])) now.part.rows ≡ Some (record y { back = was.back })
      own_now = subst (λ (w : PlacedPart). own_rows (beneath ++ (t ∷ [])) w.part.rows ≡ Some (record y { back = was.back }))
          (same_Some _ _ (sym was.placed ∙ (emptied.there_now c n u us s z keep tail run read d placed x own short q line last next stops).placed))
          was.own

      y_rows : d.part.rows ≡ y.front ++ (y.own ++ y.back)
      y_rows = (has (cut_text c) c n d.part beneath t y (emptied.old c n u us s z keep tail run read d placed x own short q line last next stops) own_y).rows.rows_are

      y_some : no_rows y.own ≡ false
      y_some = ap no_rows (own_first (cut_text c) c n d.part beneath t y (emptied.old c n u us s z keep tail run read d placed x own short q line last next stops) own_y).2

      between : (m : List Row) × (e.front ≡ y.front ++ (y.own ++ m))
      between = elim (cases_lt (length e.front) (length (y.front ++ y.own))) [
        | inl less ↦ absurd (not_longer less)
        | inr least ↦
            let g = split_front (y.front ++ y.own) y.back e.front (q.row ∷ (x.own ++ x.back)) (append_assoc y.front y.own y.back ∙ (sym y_rows ∙ rows_of_it)) least in
            (g.0, g.1 ∙ append_assoc y.front y.own g.0)
      ]
        where
          not_longer : length e.front < length (y.front ++ y.own) → ⊥
          not_longer less =
              let whole : x.front ++ (x.own ++ x.back) ≡ (y.front ++ y.own) ++ y.back =
              sym (emptied.rows_of_it c n u us s z keep tail run read d placed x own short q line last next stops)
              ∙ (y_rows ∙ sym (append_assoc y.front y.own y.back)) in
              let size : length x.front ≤ length (y.front ++ y.own) = omega (arith, less, ap length (emptied.front_is c n u us s z keep tail run read d placed x own short q line last next stops), length-append e.front (q.row ∷ [])) in
              let g = split_front x.front (x.own ++ x.back) (y.front ++ y.own) y.back whole size in
              omega (
                arith,
                before,
                start_less,
                ends d y y_some,
                ap (λ (rs : List Row). length (rows_text rs [])) g.1,
                ap length (rows_text-append x.front g.0 []),
                ap length (texts_then x.front [] (rows_text g.0 [])),
                length-append (rows_text x.front []) (rows_text g.0 []),
              )

      abbrev new_back : List Row
      new_back = between.0 ++ (new_row ∷ e.back)

      rows_apart : (rs back : List Row) → y.front ++ (y.own ++ back) ≡ e.front ++ rs → back ≡ between.0 ++ rs
      rows_apart rs back is =
          append_cancel_left y.own back (between.0 ++ rs)
          (append_cancel_left y.front (y.own ++ back) (y.own ++ (between.0 ++ rs))
          (is ∙ (ap (λ (a : List Row). a ++ rs) between.1 ∙ (append_assoc y.front (y.own ++ between.0) rs ∙ ap (λ (a : List Row). y.front ++ a) (append_assoc y.own between.0 rs)))))

      was_back : was.back ≡ between.0 ++ (q.row ∷ (e.under ++ e.back))
      was_back =
          rows_apart (q.row ∷ (e.under ++ e.back)) was.back
          (sym (has (cut_text run.cut) run.cut n now.part beneath t (record y { back = was.back }) (emptied.old_now c n u us s z keep tail run read d placed x own short q line last next stops) own_now).rows.rows_are ∙ rows_now)

      y_back : y.back ≡ between.0 ++ (q.row ∷ (x.own ++ x.back))
      y_back = rows_apart (q.row ∷ (x.own ++ x.back)) y.back (sym y_rows ∙ rows_of_it)

      low_now : (l : ℕ) → Begins l (lines_of_rows was.back) → Begins l (lines_of_rows new_back)
      low_now = λ l b. rows_low l between.0 q.row made.content (e.under ++ e.back) e.back (subst (λ (rs : List Row). Begins l (lines_of_rows rs)) was_back b)

      own_left : own_rows (beneath ++ (t ∷ [])) left.rows ≡ Some (record y { back = new_back })
      own_left =
          let begins_now = begins (cut_text run.cut) run.cut n now.part beneath t (record y { back = was.back }) (emptied.old_now c n u us s z keep tail run read d placed x own short q line last next stops) own_now in
          let low = low_now _ begins_now in
          let rows_are : left.rows ≡ y.front ++ (y.own ++ new_back) =
          left_rows
          ∙ (ap (λ (a : List Row). a ++ (new_row ∷ e.back)) between.1
          ∙ (append_assoc y.front (y.own ++ between.0) (new_row ∷ e.back) ∙ ap (λ (a : List Row). y.front ++ a) (append_assoc y.own between.0 (new_row ∷ e.back)))) in
          ap (own_rows (beneath ++ (t ∷ []))) rows_are
          ∙ entry_remains (cut_text run.cut) run.cut n now.part beneath t (record y { back = was.back })
          (emptied.old_now c n u us s z keep tail run read d placed x own short q line last next stops) own_now new_back low

      keeps : KeepsRows p left
      keeps none = absurd (false≢true (sym (some_rows e.front new_row e.back) ∙ (ap no_rows (sym left_rows) ∙ none)))

      back_lower : BeginAsLow y.back new_back
      back_lower = λ l b. rows_low l between.0 q.row made.content (x.own ++ x.back) e.back (subst (λ (rs : List Row). Begins l (lines_of_rows rs)) y_back b)

      gap_low : StayLow (Some 0) (first_gap y.back d.part.end) (first_gap new_back left.end)
      gap_low = λ m less low.
          subst (λ (g : List ℕ). AreLow m (text_lines g)) (ap (λ (rs : List Row). first_gap rs d.part.end) y_back ∙ gaps_same between.0 q.row made.content (x.own ++ x.back) e.back d.part.end left.end) low

      pub remains : (at : ℕ) → IsPlacedBefore d y new n (beneath ++ (t ∷ [])) (record { least = Some 0; first = at; stop = at }) (document_row n c)
      remains at =
          let parts = map_some (λ (w : Part). placed_at _ run.cut) _ now (emptied.there_now c n u us s z keep tail run read d placed x own short q line last next stops).placed in
          record {
            now = _;
            placed = placed_put run.cut n p left (emptied.there c n u us s z keep tail run read d placed x own short q line last next stops).old.there keeps;
            before = ap (λ (w : PlacedPart). w.before) parts.2 ∙ (emptied.there_now c n u us s z keep tail run read d placed x own short q line last next stops).before;
            back = new_back;
            own = own_left;
            low = gap_low;
            lower = back_lower;
            stop = λ is l b. back_lower l (subst (λ (rs : List Row). Begins l (lines_of_rows rs)) (sym is) b);
          }

    -- what stays in front of it
    pub front_kept : take start (cut_text c) ≡ h.before ++ h.space
    front_kept =
        let text : take keep (cut_text c) ++ tail ≡ Rattle.yq_edit_rules.specs.PlacementLaws.held_text h =
        sym (emptied.text c n u us s z keep tail run read d placed x own short q line last next stops)
        ∙ (emptied.known c n u us s z keep tail run read d placed x own short q line last next stops head white comment broken).spells in
        sym (take-take start keep (cut_text c) start_short)
        ∙ (sym (take-append-le start (take keep (cut_text c)) tail (omega (arith, start_short, length-take-le keep (cut_text c) run.within)))
        ∙ texts.front_there (break_text (emptied.br c n u us s z keep tail run read d placed x own short q line last next stops)) h written head
        white comment (take keep (cut_text c) ++ tail) text start (start + length (h.break ++ h.lines)) start_is refl)

    pub goes_on : (at : ℕ) → IsRowRemovalRun c n (record { least = Some 0; first = at; stop = at }) start ((32 ∷ written) ++ (h.last ++ h.after))
    goes_on at = record {
      within = (let most = run.within in let less = start_short in omega (arith, less, most));
      cut = new;
      read =
          ap read_at (ap (λ (l : List ℕ). l ++ ((32 ∷ written) ++ (h.last ++ h.after))) front_kept
          ∙ sym (texts.new_is (break_text (emptied.br c n u us s z keep tail run read d placed x own short q line last next stops)) h written
          head white comment))
          ∙ made.read;
      stays = λ beneath t w y placed_w own_w before.
          subst (λ (f : PlacedPart). own_rows (beneath ++ (t ∷ [])) f.part.rows ≡ Some y → length (rows_out f y).before + length (rows_out f y).gone ≤ start →
          IsPlacedBefore f y new n (beneath ++ (t ∷ [])) (record { least = Some 0; first = at; stop = at }) (document_row n c))
          (same_Some _ _ (sym placed ∙ placed_w)) (λ o b. remains beneath t y o b at) own_w before;
    }
