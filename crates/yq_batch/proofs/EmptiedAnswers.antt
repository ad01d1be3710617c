-- Sole items and entries taken out of the text of a run, as the code finds them.
use Rattle.std.proofs.Common.{◌≡◌, ℕ, suc, ◌+◌, ◌-◌, ◌≤◌, ◌<◌, false, cond, List, [], ◌∷◌, ◌++◌, length, length-take-le, take, drop, Option}
use Rattle.std.proofs.Common.{Some, option_map, refl, sym, ap, ◌∙◌, subst, arith, append_assoc, length-append}
use Rattle.std.{proofs.lemmas.Option.{none-some, same_Some, slice_get_within}, specs.List.slice_get, specs.Str.{IsCharBoundary, IsUtf8}}
use Rattle.std.proofs.lemmas.Str.{IsCharBoundary-from_take, IsUtf8-append}
use Rattle.yq_text.{specs.Limit.text_limit, specs.Script.splice_at, specs.Splice.Splice, specs.TextGapBuffer.buffer_text}
use Rattle.yq_core.{specs.Answers.◌>>=◌, specs.BlockWritten.break_text, specs.Paths.{Step, To, Nth}, specs.Text.is_empty}
use Rattle.yq_core.proofs.Bools.{bind_some}
use Rattle.yq_outline.{specs.Ends.line_at_steps, specs.Lines.lines_of_rows}
use Rattle.yq_row_table.{specs.Exchange.row_front, specs.Rows.{Cut, Part, Row, cut_text, rows_text}, specs.View.slices}
use Rattle.yq_documents.{specs.Documents.document_parts, specs.LinesInRows.{RowLine, document_row, row_line_of}}
use Rattle.yq_documents.{specs.Reading.{cut_of, documents, read_at}, specs.declared.path.Span.Span}
use Rattle.yq_places.{specs.CommentPlaces.end_in_line, specs.PlacedRows.{PlacedPart, placed_document}, specs.PrintedLines.less_break}
use Rattle.yq_places.{specs.RowPieces.anchor_before, specs.Placements.{Held, RowsOfEntry, entry_rows_at, held, last_step}}
use Rattle.yq_places.{specs.RemovalPlaces.{OwnRows, Removal, own_rows, removal_place, rows_out}, specs.RemovalReading.{mark_counts, marks}}
use Rattle.yq_places.{proofs.PlacedPartLaws.map_some, proofs.RowLineSpans.steps_row}
use Rattle.yq_edit_rules.{specs.PlacementLaws.held_text, proofs.PlacedPartLaws.document_is_there_at}
use Rattle.yq_lookup.specs.HeldRows.{IsHeldUpto}
use Rattle.yq_semantics.{specs.Fits.Fits, specs.Operations.remove, specs.Rooms.room_of, specs.Judgement.ExprError}
use Rattle.yq_edit_laws.{proofs.ApplyLaws.applied_by, proofs.CutLaws.{cut_read, text_read}, proofs.FlowSoundLaws.last_is}
use Rattle.yq_edit_laws.{proofs.TextFaults.text_utf8, specs.Answers.EditFails, specs.Carried.carried, specs.Edit.gives}
use Rattle.yq_edit_laws.specs.Theorems.{IsFitting}
use Rattle.yq_batch.specs.EmptiedRows.{IsPlaceBelow, IsSoleItem, emptied_text}
use Rattle.yq_batch.specs.RemovalRuns.{ExchangeFails, HasExchanged, text_exchanged}
use Rattle.yq_batch.specs.RowRemovals.{IsRowRemovalRun, RemovesRows, RemovesRowsOn, stop_after}
use Rattle.yq_batch.{specs.declared.changed_rows.ChangedRows.ChangedRows, specs.declared.removals.RemovalRun.RemovalRun}
use Rattle.yq_batch.{proofs.EmptiedTexts.emptied_is, proofs.RowFronts.equal_parts, proofs.RowRemovalAnswers.CanTake}
use Rattle.yq_batch.{proofs.RowRunEmpties.{front_kept, goes_on}, proofs.RunEdits.fits_now}
use Rattle.yq_failure.specs.declared.failure.Failure.TheVariants as failure
use Rattle.yq_places.specs.declared.places.rows_of_entry.RowsOfEntry as declared
use Rattle.yq_batch.proofs.EmptiedTexts as texts
use Rattle.yq_batch.proofs.RowsEmptied as emptied

pub three_bytes : (s : Step) → length (emptied_text s) ≡ 3
three_bytes (To k) = refl
three_bytes (Nth n) = refl

-- ---- in the text of a run

module _ (c : Cut) (n : ℕ) (u : Step) (us : List Step) (s : Step) (z : ChangedRows) (before : RemovalRun) (r : RemovesRows c n z before) (read : read_at (cut_text c) ≡ Some c)
    (d : PlacedPart) (placed : placed_document n c ≡ Some d) (x : OwnRows) (own : own_rows ((u ∷ us) ++ (s ∷ [])) d.part.rows ≡ Some x) (short : length (rows_out d x).before + length (rows_out d x).gone ≤ before.keep)
    (q : RowLine) (line : row_line_of (u ∷ us) d.part.rows ≡ Some q) (last : q.line ≡ length q.row.dashes) (next : q.before + 1 ≡ length x.front)
    (stops : document_row n c + length (entry_rows_at d q).front + suc (length (entry_rows_at d q).under) ≡ stop_after z (document_row n c + length x.front + length x.own))
    (fitting : IsFitting (remove n ((u ∷ us) ++ (s ∷ []))) (buffer_text before.text)) where
  abbrev steps : List Step
  steps = (u ∷ us) ++ (s ∷ [])

  abbrev now : List ℕ
  now = take before.keep (cut_text c) ++ r.tail

  abbrev h : Held
  h = emptied.h c n u us s z before.keep r.tail r.run read d placed x own short q line last next stops

  abbrev new : List ℕ
  new = 32 ∷ emptied.t c n u us s z before.keep r.tail r.run read d placed x own short q line last next stops

  fits : Fits (room_of (cut_text r.run.cut)) (remove n steps) (documents r.run.cut)
  fits = fits_now (remove n steps) now r.run.cut tt (subst (IsFitting (remove n steps)) r.text fitting) r.run.read

  three : length new ≡ 3
  three = ap length (emptied_is s) ∙ three_bytes s

  module _ (head : h.head ≡ []) (white : h.white ≡ []) (comment : h.comment ≡ []) (broken : is_empty h.break ≡ false) (room : 3 ≤ length h.break + length h.lines)
      (start finish : ℕ) (start_is : start ≡ length (h.before ++ h.space)) (finish_is : finish ≡ start + length (h.break ++ h.lines)) where
    now_is : now ≡ held_text h
    now_is = sym (emptied.text c n u us s z before.keep r.tail r.run read d placed x own short q line last next stops)
        ∙ (emptied.known c n u us s z before.keep r.tail r.run read d placed x own short q line last next stops head white comment broken).spells

    utf8_now : IsUtf8 now
    utf8_now = subst IsUtf8 (emptied.text c n u us s z before.keep r.tail r.run read d placed x own short q line last next stops)
        (text_utf8 (cut_text r.run.cut) r.run.cut
        (emptied.read_now c n u us s z before.keep r.tail r.run read d placed x own short q line last next stops))

    front_utf8 : IsUtf8 (h.before ++ h.space)
    front_utf8 = IsUtf8-append h.before h.space
        (emptied.known c n u us s z before.keep r.tail r.run read d placed x own short q line last next stops head white comment
        broken).pieces.before.utf8
        (emptied.known c n u us s z before.keep r.tail r.run read d placed x own short q line last next stops head white comment
        broken).pieces.space.utf8

    old_utf8 : IsUtf8 ((h.before ++ h.space) ++ (h.break ++ h.lines))
    old_utf8 =
        IsUtf8-append (h.before ++ h.space) (h.break ++ h.lines) front_utf8
        (IsUtf8-append h.break h.lines
        (emptied.known c n u us s z before.keep r.tail r.run read d placed x own short q line last next stops head white comment
        broken).pieces.break.utf8
        (emptied.known c n u us s z before.keep r.tail r.run read d placed x own short q line last next stops head white comment
        broken).pieces.lines.utf8)

    starts : IsCharBoundary now start
    starts =
        IsCharBoundary-from_take now start utf8_now
        (omega (
          arith,
          start_is,
          ap length (texts.in_three (break_text (emptied.br c n u us s z before.keep r.tail r.run read d placed x own short q line last next stops))
              h (emptied.t c n u us s z before.keep r.tail r.run read d placed x own short q line last next stops) head white comment now now_is
              start finish start_is finish_is),
          length-append (h.before ++ h.space) ((h.break ++ h.lines) ++ (h.last ++ h.after)),
        ))
        (subst IsUtf8 (sym (texts.front_there
        (break_text (emptied.br c n u us s z before.keep r.tail r.run read d placed x own short q line last next stops)) h
        (emptied.t c n u us s z before.keep r.tail r.run read d placed x own short q line last next stops) head white comment now now_is start
        finish start_is finish_is)) front_utf8)

    finishes : IsCharBoundary now finish
    finishes =
        IsCharBoundary-from_take now finish utf8_now
        (omega (
          arith,
          texts.front_size (break_text (emptied.br c n u us s z before.keep r.tail r.run read d placed x own short q line last next stops)) h
              (emptied.t c n u us s z before.keep r.tail r.run read d placed x own short q line last next stops) head white comment now now_is start
              finish start_is finish_is,
          ap length (texts.in_two (break_text (emptied.br c n u us s z before.keep r.tail r.run read d placed x own short q line last next stops)) h
              (emptied.t c n u us s z before.keep r.tail r.run read d placed x own short q line last next stops) head white comment now now_is start
              finish start_is finish_is),
          length-append ((h.before ++ h.space) ++ (h.break ++ h.lines)) (h.last ++ h.after),
        ))
        (subst IsUtf8 (sym (texts.old_front
        (break_text (emptied.br c n u us s z before.keep r.tail r.run read d placed x own short q line last next stops)) h
        (emptied.t c n u us s z before.keep r.tail r.run read d placed x own short q line last next stops) head white comment now now_is start
        finish start_is finish_is)) old_utf8)

    made_is : text_exchanged now start finish new ≡ (h.before ++ h.space) ++ (new ++ (h.last ++ h.after))
    made_is = texts.made_there (break_text (emptied.br c n u us s z before.keep r.tail r.run read d placed x own short q line last next stops)) h
        (emptied.t c n u us s z before.keep r.tail r.run read d placed x own short q line last next stops) head white comment now now_is start finish
        start_is finish_is new

    comes_now : carried (remove n steps) now ≡ gives (text_exchanged now start finish new) (splice_at start (drop start (take finish now)) new)
    comes_now =
        ap (carried (remove n steps)) (sym (emptied.text c n u us s z before.keep r.tail r.run read d placed x own short q line last next stops))
        ∙ (emptied.gives_it c n u us s z before.keep r.tail r.run read d placed x own short q line last next stops head white comment broken fits room three
        ∙ λ i. gives (sym made_is i)
        (splice_at (sym start_is i)
        (sym (texts.old_there (break_text (emptied.br c n u us s z before.keep r.tail r.run read d placed x own short q line last next stops)) h
        (emptied.t c n u us s z before.keep r.tail r.run read d placed x own short q line last next stops) head white comment now now_is start
        finish start_is finish_is) i) new))

    on_now : (at : ℕ) (after : RemovalRun) → HasExchanged start finish new before after → RemovesRowsOn (remove n steps) c n before (record { least = Some 0; first = at; stop = at }) after
    on_now at after out_of =
        let cs : List Splice = splice_at start (drop start (take finish now)) new in
        let made : buffer_text after.text ≡ text_exchanged now start finish new = out_of.text ∙ ap (λ (l : List ℕ). text_exchanged l start finish new) r.text in
        let comes : carried (remove n steps) (buffer_text before.text) ≡ gives (buffer_text after.text) cs = ap (carried (remove n steps)) r.text ∙ (comes_now ∙ ap (λ (l : List ℕ). gives l cs) (sym made)) in
        record {
          new_bytes = cs;
          comes = comes;
          applied = applied_by (remove n steps) (buffer_text before.text) tt fitting (buffer_text after.text) cs comes;
          splices = out_of.splices ∙ ap (λ (l : List ℕ). before.splices.items ++ splice_at start (drop start (take finish l)) new) r.text;
          run = record {
            tail = new ++ (h.last ++ h.after);
            text = made ∙ (made_is
                ∙ λ i. (sym (front_kept c n u us s z before.keep r.tail r.run read d placed x own short q line last next stops head white comment
                broken fits room three start start_is) ∙ ap (λ (m : ℕ). take m (cut_text c)) (sym out_of.keep)) i ++ (new ++ (h.last ++ h.after)));
            run = subst (λ (m : ℕ). IsRowRemovalRun c n (record { least = Some 0; first = at; stop = at }) m (new ++ (h.last ++ h.after)))
                (sym out_of.keep) (goes_on c n u us s z before.keep r.tail r.run read d placed x own short q line last next stops head white comment
                broken fits room three start start_is at);
          };
        }

    small_now : length (text_exchanged now start finish new) ≤ text_limit
    small_now =
        omega (
          arith,
          room,
          three,
          ap length made_is,
          (cut_read (cut_text r.run.cut) r.run.cut (emptied.read_now c n u us s z before.keep r.tail r.run read d placed x own short q line last next stops)).size,
          ap length (emptied.text c n u us s z before.keep r.tail r.run read d placed x own short q line last next stops),
          ap length (texts.in_three (break_text (emptied.br c n u us s z before.keep r.tail r.run read d placed x own short q line last next stops))
              h (emptied.t c n u us s z before.keep r.tail r.run read d placed x own short q line last next stops) head white comment now now_is
              start finish start_is finish_is),
          length-append (h.before ++ h.space) ((h.break ++ h.lines) ++ (h.last ++ h.after)),
          length-append (h.break ++ h.lines) (h.last ++ h.after),
          length-append h.break h.lines,
          length-append (h.before ++ h.space) (new ++ (h.last ++ h.after)),
          length-append new (h.last ++ h.after),
        )

    fails_now : (e : ExprError) → ExchangeFails e start finish new before → EditFails e (carried (remove n steps) (buffer_text before.text))
    fails_now (failure.Fault why) fails =
        let large = subst (λ (l : List ℕ). text_limit < length (text_exchanged l start finish new)) r.text fails.1 in
        absurd (omega (arith, large, small_now))
    fails_now failure.Memory fails = tt

    pub can_empty_rows : (at : ℕ) → CanTake (remove n steps) c n before (record { least = Some 0; first = at; stop = at }) start finish new
    can_empty_rows at = record {
      utf8 = subst IsUtf8 (sym r.text) utf8_now;
      starts = subst (λ (l : List ℕ). IsCharBoundary l start) (sym r.text) starts;
      finishes = subst (λ (l : List ℕ). IsCharBoundary l finish) (sym r.text) finishes;
      on = on_now at;
      fails = fails_now;
    }

-- ---- as the code finds it

abbrev pub Emptied : (t : List ℕ) (n : ℕ) (steps : List Step) (s : Step) (w : declared.RowsOfEntry) (before : RemovalRun) (start finish : ℕ) → Type 0
Emptied t n steps s w before start finish = CanTake (remove n steps) (cut_of t) n before (record { least = Some 0; first = w.row; stop = w.row }) start finish (emptied_text s)

module _ (c : Cut) (n : ℕ) (u : Step) (us : List Step) (s : Step) (z : ChangedRows) (before : RemovalRun) (r : RemovesRows c n z before) (read : read_at (cut_text c) ≡ Some c)
    (d : PlacedPart) (placed : placed_document n c ≡ Some d) (x : OwnRows) (own : own_rows ((u ∷ us) ++ (s ∷ [])) d.part.rows ≡ Some x) (short : length (rows_out d x).before + length (rows_out d x).gone ≤ before.keep)
    (q : RowLine) (line : row_line_of (u ∷ us) d.part.rows ≡ Some q) (last : q.line ≡ length q.row.dashes) (next : q.before + 1 ≡ length x.front)
    (stops : document_row n c + length (entry_rows_at d q).front + suc (length (entry_rows_at d q).under) ≡ stop_after z (document_row n c + length x.front + length x.own))
    (fitting : IsFitting (remove n ((u ∷ us) ++ (s ∷ []))) (buffer_text before.text)) (stop : ℕ) (w : declared.RowsOfEntry) (hd : Held) (upto : IsHeldUpto n (u ∷ us) c stop w hd)
    (entry_is : entry_rows_at d q ≡ upto.entry) (front_size : length (take q.before d.part.rows) ≡ q.before) (own_size : stop ≡ w.row + suc (length x.own)) where
  abbrev e0 : RowsOfEntry
  e0 = entry_rows_at d q

  abbrev own_held : Held
  own_held = emptied.h c n u us s z before.keep r.tail r.run read d placed x own short q line last next stops

  under_is : e0.under ≡ upto.upto ++ upto.others
  under_is = ap (λ (e : RowsOfEntry). e.under) entry_is ∙ upto.under_is

  after_is : e0.under ++ e0.back ≡ x.own ++ x.back
  after_is =
      (equal_parts (e0.front ++ (q.row ∷ [])) (e0.under ++ e0.back) x.front (x.own ++ x.back)
      (append_assoc e0.front (q.row ∷ []) (e0.under ++ e0.back)
      ∙ (sym (emptied.rows0 c n u us s z before.keep r.tail r.run read d placed x own short q line last next stops)
      ∙ emptied.rows_of_it c n u us s z before.keep r.tail r.run read d placed x own short q line last next stops))
      (omega (arith, front_size, next, length-append e0.front (q.row ∷ [])))).1

  upto_own : upto.upto ≡ x.own
  upto_own =
      (equal_parts upto.upto (upto.others ++ e0.back) x.own x.back
      (sym (append_assoc upto.upto upto.others e0.back) ∙ (ap (λ (us : List Row). us ++ e0.back) (sym under_is) ∙ after_is))
      (omega (arith, own_size, upto.size))).0

  held_is : hd ≡ held (record e0 { under = upto.upto; back = upto.others ++ e0.back })
  held_is = upto.held_is ∙ ap (λ (e : RowsOfEntry). held (record e { under = upto.upto; back = upto.others ++ e.back })) (sym entry_is)

  under_same : (emptied.e c n u us s z before.keep r.tail r.run read d placed x own short q line last next stops).under ≡ upto.upto
  under_same = emptied.under_own c n u us s z before.keep r.tail r.run read d placed x own short q line last next stops ∙ sym upto_own

  befores : own_held.before ≡ hd.before
  befores =
      (λ i. (((emptied.there_now c n u us s z before.keep r.tail r.run read d placed x own short q line last next stops).before i
      ++ rows_text (sym (emptied.fronts c n u us s z before.keep r.tail r.run read d placed x own short q line last next stops) i) [])
      ++ row_front q.row) ++ anchor_before (slices q.row))
      ∙ ap (λ (y : Held). y.before) (sym held_is)

  breaks : own_held.break ≡ hd.break
  breaks =
      ap (λ (us : List Row). cond (is_empty ((slices q.row).raw ++ rows_text us [])) [] (end_in_line [] (slices q.row).tail).after) under_same
      ∙ ap (λ (y : Held). y.break) (sym held_is)

  lines_same : own_held.lines ≡ hd.lines
  lines_same = ap (λ (us : List Row). less_break ((slices q.row).raw ++ rows_text us [])) under_same ∙ ap (λ (y : Held). y.lines) (sym held_is)

  pub emptied_there : hd.head ≡ [] → hd.white ≡ [] → hd.comment ≡ [] → is_empty hd.break ≡ false → (start finish : ℕ) → IsPlaceBelow hd start finish → 3 ≤ finish - start →
      CanTake (remove n ((u ∷ us) ++ (s ∷ []))) c n before (record { least = Some 0; first = w.row; stop = w.row }) start finish (emptied_text s)
  emptied_there head white comment broken start finish below room =
      let spaces : own_held.space ≡ hd.space = ap (λ (y : Held). y.space) (sym held_is) in
      let can =
      can_empty_rows c n u us s z before r read d placed x own short q line last next stops fitting (ap (λ (y : Held). y.head) (sym held_is) ∙ head)
      (ap (λ (y : Held). y.white) (sym held_is) ∙ white) (ap (λ (y : Held). y.comment) (sym held_is) ∙ comment)
      (ap is_empty breaks ∙ broken) (omega (arith, room, below.start_is, below.finish_is, ap length breaks, ap length lines_same)) start finish
      (omega (arith, below.start_is, ap length befores, ap length spaces, length-append own_held.before own_held.space))
      (omega (arith, below.finish_is, ap length breaks, ap length lines_same, length-append own_held.break own_held.lines)) w.row in
      subst (λ (l : List ℕ). CanTake (remove n ((u ∷ us) ++ (s ∷ []))) c n before (record { least = Some 0; first = w.row; stop = w.row }) start finish l) (emptied_is s) can

can_empty_at : (t : List ℕ) (n : ℕ) (above : List Step) (s : Step) (m : ℕ × ℕ × ℕ) (w : declared.RowsOfEntry) (hd : Held) (z : ChangedRows) (y : Removal) (before : RemovalRun) (start finish : ℕ) → read_at t ≡ Some (cut_of t) →
    Some y ≡ removal_place n (above ++ (s ∷ [])) (cut_of t) → Some m ≡ mark_counts n (above ++ (s ∷ [])) (cut_of t) → IsHeldUpto n above (cut_of t) m.2 w hd → RemovesRows (cut_of t) n z before →
    IsFitting (remove n (above ++ (s ∷ []))) (buffer_text before.text) → length y.before + length y.gone ≤ before.keep → m.1 - w.row ≡ 1 → w.end ≡ stop_after z m.2 →
    hd.head ≡ [] → hd.white ≡ [] → hd.comment ≡ [] → is_empty hd.break ≡ false → IsPlaceBelow hd start finish → 3 ≤ finish - start → Emptied t n (above ++ (s ∷ [])) s w before start finish
can_empty_at t n [] s m w hd z y before start finish read place counts upto r fitting short beside ends head white comment broken below room =
    let d = bind_some (placed_document n (cut_of t)) upto.found in
    absurd (none-some _ d.2)
can_empty_at t n (u ∷ us) s m w hd z y before start finish read place counts upto r fitting short beside ends head white comment broken below room =
    let c : Cut = cut_of t in
    let k : ℕ = document_row n c in
    let steps : List Step = (u ∷ us) ++ (s ∷ []) in
    let read_c : read_at (cut_text c) ≡ Some c = ap read_at (text_read t c read) ∙ read in
    let d = bind_some (placed_document n c) upto.found in
    let q = map_some (entry_rows_at d.0) (row_line_of (u ∷ us) d.0.part.rows) upto.entry d.2 in
    let p = bind_some (slice_get (document_parts c) n) (sym counts) in
    let x = map_some (marks k) (own_rows steps p.0.rows) m p.2 in
    let own : own_rows steps d.0.part.rows ≡ Some x.0 = ap (λ (y : Part). own_rows steps y.rows) (same_Some _ _ (sym (document_is_there_at c n d.0 d.1).there ∙ p.1)) ∙ x.1 in
    let out : y ≡ rows_out d.0 x.0 =
    same_Some _ _ (place ∙ (ap (λ (o : Option PlacedPart). o >>= λ e. option_map (rows_out e) (own_rows steps e.part.rows)) d.1 ∙ ap (option_map (rows_out d.0)) own)) in
    let row = steps_row (line_at_steps (u ∷ us) (lines_of_rows d.0.part.rows)) d.0.part.rows q.0 q.1 in
    let within = slice_get_within d.0.part.rows q.0.before q.0.row row in
    let size : length (take q.0.before d.0.part.rows) ≡ q.0.before = length-take-le q.0.before d.0.part.rows (omega (arith, within)) in
    let last : q.0.line ≡ length q.0.row.dashes = subst (λ (e : RowsOfEntry). e.line ≡ length e.row.dashes) (sym q.2) upto.last in
    let first_is : k + length x.0.front ≡ m.1 = ap (λ (i : ℕ × ℕ × ℕ). i.1) x.2 in
    let stop_is : k + length x.0.front + length x.0.own ≡ m.2 = ap (λ (i : ℕ × ℕ × ℕ). i.2) x.2 in
    let front_is : length (take q.0.before d.0.part.rows) ≡ length upto.entry.front = ap (λ (e : RowsOfEntry). length e.front) q.2 in
    let under_size : length (entry_rows_at d.0 q.0).under ≡ length upto.entry.under = ap (λ (e : RowsOfEntry). length e.under) q.2 in
    let next : q.0.before + 1 ≡ length x.0.front = omega (arith, size, first_is, front_is, upto.row_is, beside) in
    let end_is : k + length (entry_rows_at d.0 q.0).front + suc (length (entry_rows_at d.0 q.0).under) ≡ w.end = omega (arith, front_is, under_size, upto.row_is, upto.end_is) in
    let stops : k + length (entry_rows_at d.0 q.0).front + suc (length (entry_rows_at d.0 q.0).under) ≡ stop_after z (k + length x.0.front + length x.0.own) = end_is ∙ (ends ∙ ap (stop_after z) (sym stop_is)) in
    let short_x : length (rows_out d.0 x.0).before + length (rows_out d.0 x.0).gone ≤ before.keep = subst (λ (v : Removal). length v.before + length v.gone ≤ before.keep) out short in
    emptied_there c n u us s z before r read_c d.0 d.1 x.0 own short_x q.0 q.1 last next stops fitting m.2 w hd upto q.2 size (omega (arith, stop_is, first_is, upto.row_is, beside)) head white comment broken start finish below room

pub can_empty : (t : List ℕ) (n : ℕ) (steps above : List Step) (s : Step) (z : ChangedRows) (before : RemovalRun) (x : ℕ × Span) (written : List ℕ) →
    read_at t ≡ Some (cut_of t) → Some (above, s) ≡ last_step steps → IsSoleItem n steps above (cut_of t) z before.keep x →
    RemovesRows (cut_of t) n z before → IsFitting (remove n steps) (buffer_text before.text) → written ≡ emptied_text s →
    CanTake (remove n steps) (cut_of t) n before (record { least = Some 0; first = x.0; stop = x.0 }) x.1.start x.1.end written
can_empty t n steps above s z before x written read is h r fitting written_is =
    subst (λ (l : List ℕ). CanTake (remove n steps) (cut_of t) n before (record { least = Some 0; first = x.0; stop = x.0 }) x.1.start x.1.end l) (sym written_is) can
  where
    same : steps ≡ above ++ (s ∷ [])
    same = last_is steps above s (sym is)

    can : CanTake (remove n steps) (cut_of t) n before (record { least = Some 0; first = x.0; stop = x.0 }) x.1.start x.1.end (emptied_text s)
    can =
        subst (λ (i : ℕ). CanTake (remove n steps) (cut_of t) n before (record { least = Some 0; first = i; stop = i }) x.1.start x.1.end (emptied_text s)) (sym h.row)
        (subst (λ (ss : List Step). Some h.removal ≡ removal_place n ss (cut_of t) → Some h.marks ≡ mark_counts n ss (cut_of t) →
        IsFitting (remove n ss) (buffer_text before.text) → Emptied t n ss s h.entry before x.1.start x.1.end) (sym same)
        (λ place counts fitting.
        can_empty_at t n above s h.marks h.entry h.held z h.removal before x.1.start x.1.end read place counts h.upto r fitting h.short h.next h.ends h.head h.white h.comment h.broken h.place h.room)
        h.removal_is h.marks_are fitting)
