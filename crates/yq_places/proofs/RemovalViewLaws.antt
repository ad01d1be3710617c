-- What is taken out of a text with rows of a document, as the code counts it.
use Rattle.std.proofs.Common.{rules, ◌≡◌, inl, inr, ℕ, zero, suc, ◌+◌, ◌-◌, ◌<◌, ◌≤◌, List, [], ◌∷◌, ◌++◌, length, length-append, take}
use Rattle.std.proofs.Common.{drop, Option, Some, None, option_map, refl, sym, ap, ◌∙◌, subst, arith, append_assoc}
use Rattle.std.{proofs.Math.Seq.{drop-append_seam, take-append_seam}, proofs.lemmas.Bool.false≢true}
use Rattle.std.proofs.lemmas.Option.{slice_get_within, slice_get-map, none-some, same_Some}
use Rattle.std.{proofs.lemmas.Str.{IsCharBoundary-start, IsUtf8-drop}, specs.List.slice_get, specs.Str.{IsUtf8, IsCharBoundary}}
use Rattle.yq_core.{specs.Answers.◌>>=◌, specs.Paths.Step, specs.Text.{joined, text_lines}, proofs.BlockPieceLaws.cut_lf}
use Rattle.yq_core.proofs.Bools.{bind_some}
use Rattle.yq_row_table.{specs.Grammar.{IsCut, no_rows}, specs.Offsets.row_length, specs.Removal.next_column}
use Rattle.yq_row_table.{specs.Rows.{Row, rows_text, Part, Cut}, specs.Splices.first_gap}
use Rattle.yq_row_table.{specs.View.{Slices, slices, rows_of, RowsView, rows_view}, proofs.NodePieces.{BeginsAscii, before_ascii}}
use Rattle.yq_row_table.{proofs.seams.SeamLaws.rows_text-append, proofs.splices.SpliceTexts.first_text, proofs.SliceLaws.print-length}
use Rattle.yq_documents.{specs.Documents.document_parts, specs.Pieces.before_run, specs.Reading.cut_of, specs.LinesInRows.document_row}
use Rattle.yq_documents.proofs.PartRows.{part_begins}
use Rattle.yq_outline.{specs.Extents.{IsRowsView, row_start}, proofs.KnownLaws.{get_dropped, get_front}}
use Rattle.yq_places.specs.PlacedRows.{PlacedPart, placed_document}
use Rattle.yq_places.specs.RemovalPlaces.{OwnRows, own_rows, Removal, kept_gap, rows_out, removal_place}
use Rattle.yq_places.{specs.RemovalReading.{RowCounts, marks, mark_counts, gap_counts, IsOwn}, proofs.CommentPieceLaws.gap_end}
use Rattle.yq_places.{proofs.PlacedPartLaws.{map_some, part_is_there, placed_is, text_before}, proofs.RemovalBounds.{gap_after, last_row}}
use Rattle.yq_places.{proofs.RemovalLines.{LineSeam, are_lines, lies_in, line_seam}, proofs.RemovalPlaceLaws.own_is_there}
use Rattle.yq_places.{proofs.RemovalTexts.{old_text, texts_then}, proofs.StartLaws.start_agrees}

-- ---- a text cut between lines

pub line_boundary : (a b : List ℕ) → LineSeam a b → IsUtf8 (a ++ b) → IsCharBoundary (a ++ b) (length a)
line_boundary a b (inl e) u = subst (IsCharBoundary (a ++ b)) (sym (ap length e)) (IsCharBoundary-start (a ++ b) u)
line_boundary a b (inr (inl lf)) u = cut_lf (a ++ b) a b (length a) refl lf refl u
line_boundary a b (inr (inr e)) u = before_ascii a b (subst BeginsAscii (sym e) tt)

line_rest : (a b : List ℕ) → LineSeam a b → IsUtf8 (a ++ b) → IsUtf8 b
line_rest a b h u = subst IsUtf8 (drop-append_seam a b) (IsUtf8-drop (a ++ b) (length a) u (line_boundary a b h u))

-- ---- how long rows are

rows_more : (rs : List Row) (j : ℕ) (q : Row) → slice_get rs j ≡ Some q → length (rows_text (take (suc j) rs) []) ≡ length (rows_text (take j rs) []) + row_length (slices q)
rows_more [] j q e = absurd (cc)
rows_more (r ∷ rs) zero q e = let same : r ≡ q = cc in omega (arith, print-length r [], ap (λ (x : Row). row_length (slices x)) same)
rows_more (r ∷ rs) (suc j) q e = omega (arith, print-length r (rows_text (take (suc j) rs) []), print-length r (rows_text (take j rs) []), rows_more rs j q e)

pub slice_seam : (front : List Row) (r : Row) (back : List Row) → slice_get (front ++ (r ∷ back)) (length front) ≡ Some r
slice_seam [] r back = refl
slice_seam (x ∷ front) r back = slice_seam front r back

take_both : (front own back : List Row) → take (length front + length own) (front ++ (own ++ back)) ≡ front ++ own
take_both [] own back = let same : 0 + length own ≡ length own = omega arith in ap (λ (n : ℕ). take n (own ++ back)) same ∙ take-append_seam own back
take_both (r ∷ front) own back =
    let same : suc (length front) + length own ≡ suc (length front + length own) = omega arith in
    ap (λ (n : ℕ). take n (r ∷ (front ++ (own ++ back)))) same ∙ ap (λ (x : List Row). r ∷ x) (take_both front own back)

-- What the code counts for rows that are taken out.
pub record OutAgrees (t : List ℕ) (s : RowsView) (d : PlacedPart) (x : OwnRows) (first at end : ℕ) : Type 0 where
  pub order : first ≤ at
  pub past : at < end
  pub at_within : at < length s.rows
  pub last_within : end - 1 < length s.rows
  pub final : Slices
  pub final_is : slice_get s.rows (end - 1) ≡ Some final
  pub text : t ≡ (rows_out d x).before ++ ((rows_out d x).gone ++ ((rows_out d x).gap ++ (rows_out d x).after))
  pub starts : LineSeam (rows_out d x).before ((rows_out d x).gone ++ ((rows_out d x).gap ++ (rows_out d x).after))
  pub stops : LineSeam (rows_out d x).gone ((rows_out d x).gap ++ (rows_out d x).after)
  pub gap_stops : LineSeam (rows_out d x).gap (rows_out d x).after
  pub kept : (y : Slices) → slice_get s.rows at ≡ Some y → joined (before_run (text_lines y.gap)) ≡ kept_gap x.own d.part.end
  pub start : row_start at s + length (kept_gap x.own d.part.end) ≡ length (rows_out d x).before
  pub stop : row_start (end - 1) s + row_length final ≡ length (rows_out d x).before + length (rows_out d x).gone
  pub gap : gap_counts end s ≡ (first_gap x.back d.part.end, next_column x.back)
  pub more : List Row
  pub rows : drop first (rows_of (cut_of t)) ≡ d.part.rows ++ more
  pub front_size : at - first ≤ length d.part.rows
  pub front_is : take (at - first) d.part.rows ≡ x.front

pub own_view : (t : List ℕ) (s : RowsView) (d : PlacedPart) (x : OwnRows) (m : RowCounts) → IsOwn t s d x m → IsRowsView s
own_view t s d x m h = record { cut = cut_of t; is = h.rows_view_is; size = omega (arith, ap length h.cut.text, h.cut.size) }

-- with the first own row named
agrees_first : (t : List ℕ) (s : RowsView) (d : PlacedPart) (front : List Row) (r : Row) (rs back : List Row) (m : RowCounts) → IsOwn t s d (record { front = front; own = r ∷ rs; back = back }) m →
    OutAgrees t s d (record { front = front; own = r ∷ rs; back = back }) m.0 m.1 m.2
agrees_first t s d front r rs back m h =
    let c : Cut = cut_of t in
    let n : ℕ = h.document in
    let k : ℕ = document_row n c in
    let own : List Row = r ∷ rs in
    let x : OwnRows = record { front = front; own = own; back = back } in
    let out : Removal = rows_out d x in
    let st = part_is_there n c d h.placed in
    let begin = part_begins c n d.part st.there in
    let first_is : m.0 ≡ k = ap (λ (y : RowCounts). y.0) h.marks_are in
    let at_is : m.1 ≡ k + length front = ap (λ (y : RowCounts). y.1) h.marks_are in
    let end_is : m.2 ≡ k + length front + length own = ap (λ (y : RowCounts). y.2) h.marks_are in
    let total : length d.part.rows ≡ length front + (length own + length back) =
    ap length h.rows_are ∙ (length-append front (own ++ back) ∙ ap (λ (j : ℕ). length front + j) (length-append own back)) in
    let there : (j : ℕ) (q : Row) → slice_get d.part.rows j ≡ Some q → slice_get (rows_of c) (k + j) ≡ Some q =
    λ j q e. sym (get_dropped (rows_of c) k j) ∙ (ap (λ (z : List Row). slice_get z j) begin.1 ∙ get_front d.part.rows begin.0 j q e) in
    let pieces : (j : ℕ) (q : Row) → slice_get d.part.rows j ≡ Some q → slice_get s.rows (k + j) ≡ Some (slices q) =
    λ j q e. ap (λ (y : RowsView). slice_get y.rows (k + j)) h.rows_view_is ∙ (slice_get-map slices (rows_of c) (k + j) ∙ ap (option_map slices) (there j q e)) in
    let own_row : slice_get d.part.rows (length front) ≡ Some r = ap (λ (z : List Row). slice_get z (length front)) h.rows_are ∙ slice_seam front r (rs ++ back) in
    let final = last_row (length front + length own) d.part.rows (omega arith) (omega (arith, total)) in
    let last_is : m.2 - 1 ≡ k + (length front + length own - 1) = omega (arith, end_is) in
    let at_row : slice_get s.rows m.1 ≡ Some (slices r) = ap (slice_get s.rows) at_is ∙ pieces (length front) r own_row in
    let last_row_is : slice_get s.rows (m.2 - 1) ≡ Some (slices final.0) = ap (slice_get s.rows) last_is ∙ pieces (length front + length own - 1) final.0 final.1 in
    let text : t ≡ out.before ++ (out.gone ++ (out.gap ++ out.after)) = h.cut.text ∙ (st.text ∙ old_text d x h.rows_are refl) in
    let lines = are_lines d front r rs back (lies_in n c d h.cut.parts h.placed) h.rows_are in
    let kept : List ℕ = kept_gap own d.part.end in
    let front_text : rows_text front kept ≡ rows_text front [] ++ kept = texts_then front [] kept in
    let starts : row_start m.1 s ≡ length (d.before ++ rows_text front []) =
    (λ i. row_start (at_is i) (h.rows_view_is i))
    ∙ (start_agrees c (k + length front) r (there (length front) r own_row)
    ∙ (ap length (text_before n c d h.placed (length front) (omega (arith, total)))
    ∙ ap (λ (z : List Row). length (d.before ++ rows_text z [])) (ap (take (length front)) h.rows_are ∙ take-append_seam front (own ++ back)))) in
    let before_last : row_start (m.2 - 1) s ≡ length (d.before ++ rows_text (take (length front + length own - 1) d.part.rows) []) =
    (λ i. row_start (last_is i) (h.rows_view_is i))
    ∙ (start_agrees c (k + (length front + length own - 1)) final.0 (there (length front + length own - 1) final.0 final.1)
    ∙ ap length (text_before n c d h.placed (length front + length own - 1) (omega (arith, total)))) in
    let count : suc (length front + length own - 1) ≡ length front + length own = omega arith in
    let through : length (rows_text (front ++ own) []) ≡ length (rows_text (take (length front + length own - 1) d.part.rows) []) + row_length (slices final.0) =
    ap (λ (z : List Row). length (rows_text z [])) (sym (take_both front own back) ∙ (λ i. take (sym count i) (sym h.rows_are i))) ∙ rows_more d.part.rows (length front + length own - 1) final.0 final.1 in
    let whole : length t ≡ length d.before + (length (rows_text (front ++ own) []) + length (out.gap ++ out.after)) =
    ap length
    (h.cut.text
    ∙ (st.text
    ∙ ap (λ (z : List ℕ). d.before ++ z)
    (ap (λ (z : List Row). rows_text z (d.part.end ++ d.after)) (h.rows_are ∙ sym (append_assoc front own back))
    ∙ (rows_text-append (front ++ own) back (d.part.end ++ d.after) ∙ (ap (rows_text (front ++ own)) (first_text back d.part.end d.after) ∙ texts_then (front ++ own) [] (out.gap ++ out.after))))))
    ∙ omega (arith, length-append d.before (rows_text (front ++ own) [] ++ (out.gap ++ out.after)), length-append (rows_text (front ++ own) []) (out.gap ++ out.after)) in
    let parts : length t ≡ length out.before + (length out.gone + length (out.gap ++ out.after)) =
    ap length text ∙ omega (arith, length-append out.before (out.gone ++ (out.gap ++ out.after)), length-append out.gone (out.gap ++ out.after)) in
    record {
      order = omega (arith, first_is, at_is);
      past = omega (arith, at_is, end_is);
      at_within = slice_get_within s.rows m.1 (slices r) at_row;
      last_within = slice_get_within s.rows (m.2 - 1) (slices final.0) last_row_is;
      final = slices final.0;
      final_is = last_row_is;
      text = text;
      starts = line_seam out.before (out.gone ++ (out.gap ++ out.after)) lines.before;
      stops = inr lines.gone;
      gap_stops = gap_end out.gap out.after lines.gap;
      kept = λ y e. ap (λ (z : Slices). joined (before_run (text_lines z.gap))) (same_Some _ _ (sym e ∙ at_row));
      start = omega (arith, starts, length-append d.before (rows_text front []), length-append d.before (rows_text front kept), ap length front_text, length-append (rows_text front []) kept);
      stop = omega (arith, before_last, length-append d.before (rows_text (take (length front + length own - 1) d.part.rows) []), through, whole, parts);
      gap = (λ i. gap_counts ((end_is ∙ sizes front own k) i) (h.rows_view_is i))
          ∙ gap_after n c d (front ++ own) back h.placed (h.rows_are ∙ sym (append_assoc front own back)) (omega (arith, length-append front own))
          (λ q qs is. ap (slice_get (rows_of c)) (sym (sizes front own k) ∙ three k front own)
          ∙ there (length front + length own) q
          (ap (λ (z : List Row). slice_get z (length front + length own))
          (h.rows_are ∙ (sym (append_assoc front own back) ∙ ap (λ (z : List Row). (front ++ own) ++ z) is))
          ∙ (ap (slice_get ((front ++ own) ++ (q ∷ qs))) (sym (length-append front own)) ∙ slice_seam (front ++ own) q qs)));
      more = begin.0;
      rows = ap (λ (j : ℕ). drop j (rows_of c)) first_is ∙ begin.1;
      front_size = omega (arith, first_is, at_is, total);
      front_is = (let size : m.1 - m.0 ≡ length front = omega (arith, first_is, at_is) in (λ i. take (size i) (h.rows_are i)) ∙ take-append_seam front (own ++ back));
    }
  where
    sizes : (a b : List Row) (k : ℕ) → k + length a + length b ≡ k + length (a ++ b)
    sizes a b k = omega (arith, length-append a b)

    three : (k : ℕ) (a b : List Row) → k + length a + length b ≡ k + (length a + length b)
    three k a b = omega arith

pub out_agrees : (t : List ℕ) (s : RowsView) (d : PlacedPart) (x : OwnRows) (m : RowCounts) → IsOwn t s d x m → OutAgrees t s d x m.0 m.1 m.2
out_agrees t s d x m h = go x.own refl
  where
    go : (rs : List Row) → x.own ≡ rs → OutAgrees t s d x m.0 m.1 m.2
    go [] e = absurd (false≢true (sym h.some ∙ ap no_rows e))
    go (r ∷ rs) e =
        let same : record { front = x.front; own = r ∷ rs; back = x.back } ≡ x = (λ i. record { front = x.front; own = sym e i; back = x.back }) in
        subst (λ (y : OwnRows). OutAgrees t s d y m.0 m.1 m.2) same (agrees_first t s d x.front r rs x.back m (subst (λ (y : OwnRows). IsOwn t s d y m) (sym same) h))

-- ---- the text cut in four

-- Places at which a text is cut in four.
pub record FourCuts (t : List ℕ) (x : Removal) (start size gap : ℕ) : Type 0 where
  pub begins : IsCharBoundary t start
  pub stops : IsCharBoundary (drop start t) size
  pub ends : IsCharBoundary (drop size (drop start t)) gap
  pub before_is : take start t ≡ x.before
  pub gone_is : take size (drop start t) ≡ x.gone
  pub following_is : drop gap (drop size (drop start t)) ≡ x.after

four_cuts : (t : List ℕ) (x : Removal) → IsUtf8 t → t ≡ x.before ++ (x.gone ++ (x.gap ++ x.after)) → LineSeam x.before (x.gone ++ (x.gap ++ x.after)) → LineSeam x.gone (x.gap ++ x.after) → LineSeam x.gap x.after →
    FourCuts t x (length x.before) (length x.gone) (length x.gap)
four_cuts t x u text a b g =
    let whole : IsUtf8 (x.before ++ (x.gone ++ (x.gap ++ x.after))) = subst IsUtf8 text u in
    let rest = line_rest x.before (x.gone ++ (x.gap ++ x.after)) a whole in
    let left = line_rest x.gone (x.gap ++ x.after) b rest in
    let one : drop (length x.before) t ≡ x.gone ++ (x.gap ++ x.after) = ap (drop (length x.before)) text ∙ drop-append_seam x.before (x.gone ++ (x.gap ++ x.after)) in
    let two : drop (length x.gone) (drop (length x.before) t) ≡ x.gap ++ x.after = ap (drop (length x.gone)) one ∙ drop-append_seam x.gone (x.gap ++ x.after) in
    record {
      begins = subst (λ (y : List ℕ). IsCharBoundary y (length x.before)) (sym text) (line_boundary x.before (x.gone ++ (x.gap ++ x.after)) a whole);
      stops = subst (λ (y : List ℕ). IsCharBoundary y (length x.gone)) (sym one) (line_boundary x.gone (x.gap ++ x.after) b rest);
      ends = subst (λ (y : List ℕ). IsCharBoundary y (length x.gap)) (sym two) (line_boundary x.gap x.after g left);
      before_is = ap (take (length x.before)) text ∙ take-append_seam x.before (x.gone ++ (x.gap ++ x.after));
      gone_is = ap (take (length x.gone)) one ∙ take-append_seam x.gone (x.gap ++ x.after);
      following_is = ap (drop (length x.gap)) two ∙ drop-append_seam x.gap x.after;
    }

pub cuts_agrees : (t : List ℕ) (s : RowsView) (d : PlacedPart) (x : OwnRows) (first at end start size gap : ℕ) → IsUtf8 t →
    OutAgrees t s d x first at end → start ≡ length (rows_out d x).before → size ≡ length (rows_out d x).gone → gap ≡ length (rows_out d x).gap →
    FourCuts t (rows_out d x) start size gap
cuts_agrees t s d x first at end start size gap u o a b g =
    subst (λ (n : ℕ). FourCuts t (rows_out d x) n size gap) (sym a) (subst (λ (n : ℕ). FourCuts t (rows_out d x) (length (rows_out d x).before) n gap) (sym b)
    (subst (λ (n : ℕ). FourCuts t (rows_out d x) (length (rows_out d x).before) (length (rows_out d x).gone) n) (sym g) (four_cuts t (rows_out d x) u o.text o.starts o.stops o.gap_stops)))

-- What the code holds for rows that are taken out: what stays of the gap, the gap after them and its column, and the text cut in four.
pub record CodeAgrees (t : List ℕ) (d : PlacedPart) (x : OwnRows) (kept gap : List ℕ) (begin stop column : ℕ) : Type 0 where
  pub kept_is : kept ≡ kept_gap x.own d.part.end
  pub within : begin + length kept ≤ length t
  pub order : begin + length kept ≤ stop
  pub gap_is : gap ≡ first_gap x.back d.part.end
  pub column_is : column ≡ next_column x.back
  pub cuts : FourCuts t (rows_out d x) (begin + length kept) (stop - (begin + length kept)) (length gap)

pub code_agrees : (t : List ℕ) (s : RowsView) (d : PlacedPart) (x : OwnRows) (first at end : ℕ) (y : Slices) (kept gap : List ℕ) (begin stop column : ℕ) → IsUtf8 t → (o : OutAgrees t s d x first at end) → slice_get s.rows at ≡ Some y →
    kept ≡ joined (before_run (text_lines y.gap)) → begin ≡ row_start at s → stop ≡ row_start (end - 1) s + row_length o.final → (gap, column) ≡ gap_counts end s → CodeAgrees t d x kept gap begin stop column
code_agrees t s d x first at end y kept gap begin stop column u o there kept_now begin_is stop_is pair =
    let out : Removal = rows_out d x in
    let own : kept ≡ kept_gap x.own d.part.end = kept_now ∙ o.kept y there in
    let start : begin + length kept ≡ length out.before = omega (arith, begin_is, ap length own, o.start) in
    let size : stop - (begin + length kept) ≡ length out.gone = omega (arith, start, stop_is, o.stop) in
    let whole = ap length o.text in
    let within : begin + length kept ≤ length t = omega (arith, start, whole, length-append out.before (out.gone ++ (out.gap ++ out.after))) in
    let order : begin + length kept ≤ stop = omega (arith, start, stop_is, o.stop) in
    let both : (gap, column) ≡ (first_gap x.back d.part.end, next_column x.back) = pair ∙ o.gap in
    let gap_is : gap ≡ out.gap = ap (λ (z : List ℕ × ℕ). z.0) both in
    record {
      kept_is = own;
      within = within;
      order = order;
      gap_is = gap_is;
      column_is = ap (λ (z : List ℕ × ℕ). z.1) both;
      cuts = cuts_agrees t s d x first at end (begin + length kept) (stop - (begin + length kept)) (length gap) u o start size (ap length gap_is);
    }

-- ---- what is taken out at a path

-- Own rows are those of a path, and are what is taken out there.
pub record TakenAt (t : List ℕ) (s : RowsView) (n : ℕ) (steps : List Step) (m : RowCounts) : Type 0 where
  pub part : PlacedPart
  pub rows : OwnRows
  pub is : IsOwn t s part rows m
  pub place : removal_place n steps (cut_of t) ≡ Some (rows_out part rows)

pub taken_at : (t : List ℕ) (s : RowsView) (n : ℕ) (steps : List Step) (m : RowCounts) → IsCut t (cut_of t) → s ≡ rows_view (cut_of t) → Some m ≡ mark_counts n steps (cut_of t) → TakenAt t s n steps m
taken_at t s n steps m cut is e =
    let c : Cut = cut_of t in
    let p = bind_some (slice_get (document_parts c) n) (sym e) in
    let x = map_some (marks (document_row n c)) (own_rows steps p.0.rows) m p.2 in
    let d = placed_is n c p.0 p.1 in
    let own : own_rows steps d.0.part.rows ≡ Some x.0 = ap (λ (q : Part). own_rows steps q.rows) d.2 ∙ x.1 in
    let are_there = own_is_there steps d.0.part.rows x.0 own in
    search (rules, x.0, is, are_there.rows_are, are_there.some, x.2, own)

pub none_taken : (n : ℕ) (steps : List Step) (c : Cut) → None ≡ mark_counts n steps c → None ≡ removal_place n steps c
none_taken n steps c e = go (placed_document n c) refl
  where
    rows : (d : PlacedPart) (o : Option OwnRows) → own_rows steps d.part.rows ≡ o → slice_get (document_parts c) n ≡ Some d.part → None ≡ option_map (rows_out d) o
    rows d None is there = refl
    rows d (Some x) is there = search (rules, there, is, none-some)

    go : (o : Option PlacedPart) → placed_document n c ≡ o → None ≡ (o >>= λ d. option_map (rows_out d) (own_rows steps d.part.rows))
    go None is = refl
    go (Some d) is = rows d (own_rows steps d.part.rows) refl (part_is_there n c d is).there
