-- What the key or dash of rows holds, by the row that the code has found.
use Rattle.std.proofs.Common.{rules, ◌≡◌, ℕ, suc, ◌+◌, ◌-◌, ◌≤◌, Bool, cond, not, ◌||◌, List, [], ◌∷◌, ◌++◌, length, length-append, take}
use Rattle.std.{proofs.Common.{replicate, Some, refl, sym, ap, ◌∙◌, subst, arith, append_assoc}, proofs.Math.Seq.take-append_seam}
use Rattle.std.{proofs.lemmas.List.{length-replicate, take_all}, proofs.lemmas.Option.same_Some}
use Rattle.std.{proofs.lemmas.Str.{IsCharBoundary-at_seam, IsUtf8-append}, specs.List.slice_get, specs.Str.{IsUtf8, IsCharBoundary}}
use Rattle.yq_text.specs.Limit.{text_limit}
use Rattle.yq_core.{specs.Text.is_empty, specs.Nodes.anchored}
use Rattle.yq_row_table.specs.Exchange.{row_front}
use Rattle.yq_row_table.specs.Rows.{Content, Inline, Block, Row, after_columns, dashes_text, mark_column, rows_text, Cut}
use Rattle.yq_row_table.specs.View.{Slices, slices, content_cut, last_dash, rows_of, RowsView, rows_view}
use Rattle.yq_places.{specs.CommentPlaces.{LineEnd, end_in_line, text_to_line_end}, specs.PrintedLines.last_break}
use Rattle.yq_places.specs.RowPieces.{anchor_before, space_before}
use Rattle.yq_places.specs.Placements.{Held, LinesIn, RowsOfEntry, before_entry, after_entry, held, lines_between}
use Rattle.yq_places.{specs.PlacementReading.{AreRowsOf, EndsRows}, proofs.PrintedTexts.less_is}
use Rattle.yq_places.proofs.EntryRowLaws.{head_ends, line_boundary_at, line_cut, pieces_at, through_is}
use Rattle.yq_outline.{specs.Extents.head_place, specs.RowWalk.line_column, proofs.WalkLevels.{last_is, to_dash}}

-- the column after dashes
columns : (c : ℕ) (ns : List ℕ) → after_columns c ns ≡ c + length (dashes_text ns [])
columns c [] = omega arith
columns c (n ∷ ns) = omega (arith, columns (suc (c + n)) ns, length-append (replicate n 32) (dashes_text ns []), length-replicate {A = ℕ} n 32)

pub column_is : (r : Row) (k : ℕ) → k ≤ length r.dashes → line_column k (slices r) ≡ after_columns r.column (take k r.dashes)
column_is r k h = omega (arith, columns r.column (take k r.dashes), to_dash k r.dashes (last_dash r.mark) h (last_is r.mark))

mark_column_is : (r : Row) (k : ℕ) → k ≡ length r.dashes → line_column k (slices r) ≡ mark_column r
mark_column_is r k e = column_is r k (omega (arith, e)) ∙ ap (after_columns r.column) (take_all k r.dashes (omega (arith, e)))

-- the pieces after a mark before what is there
head_front : (x : Content) (s : Slices) (u : List ℕ) → s.space ≡ (content_cut x).0 → s.anchor ≡ (content_cut x).1 → s.apart ≡ (content_cut x).2 → s.space ++ (s.anchor ++ (s.apart ++ u)) ≡ anchor_before s ++ (space_before s ++ u)
head_front x s u a b d = go s.anchor refl
  where
    none : (y : Content) → (content_cut y).1 ≡ [] → (content_cut y).2 ≡ []
    none (Inline space (anchored name g node) tail) e = absurd (cc)
    none (Block space (Some y) block) e = absurd (cc)
    none _ e = refl

    go : (n : List ℕ) → s.anchor ≡ n → s.space ++ (s.anchor ++ (s.apart ++ u)) ≡ cond (is_empty s.anchor) [] (s.space ++ s.anchor) ++ (cond (is_empty s.anchor) s.space s.apart ++ u)
    go [] e = search (rules, s.apart, none, e, s.anchor)
    go (b ∷ bs) e = sym (append_assoc s.space s.anchor (s.apart ++ u)) ∙ sym (λ i. cond (is_empty (e i)) [] (s.space ++ s.anchor) ++ (cond (is_empty (e i)) s.space s.apart ++ u))

pub line_is : (r : Row) → text_to_line_end r ≡ (row_front r ++ anchor_before (slices r)) ++ (space_before (slices r) ++ (slices r).head)
line_is r = search (rules, head_front, r.content, append_assoc)

module _ (t : List ℕ) (s : RowsView) (e : RowsOfEntry) (row end : ℕ) (h : AreRowsOf t s e row end) (u : IsUtf8 t) (place : ℕ × ℕ)
    (agrees : (c : Cut) → s ≡ rows_view c → (r : Row) → slice_get (rows_of c) row ≡ Some r → place ≡ head_place row c r)
    (y : Slices) (there : slice_get s.rows row ≡ Some y) where
  same : slices e.row ≡ y
  same = same_Some _ _ (sym (pieces_at t s e row end h) ∙ there)

  -- the text up to an anchor after the mark
  abbrev front : List ℕ
  front = (before_entry e ++ row_front e.row) ++ anchor_before (slices e.row)

  line_is_front : (before_entry e ++ text_to_line_end e.row) ++ (slices e.row).tail ≡ front ++ ((space_before (slices e.row) ++ (slices e.row).head) ++ (slices e.row).tail)
  line_is_front =
      let x : Slices = slices e.row in
      let parts : (before_entry e ++ ((row_front e.row ++ anchor_before x) ++ (space_before x ++ x.head))) ++ x.tail ≡ front ++ ((space_before x ++ x.head) ++ x.tail) = simp append_assoc refl in
      ap (λ (z : List ℕ). (before_entry e ++ z) ++ x.tail) (line_is e.row) ∙ parts

  pub from_is : place.1 + length y.tail ≡ length ((before_entry e ++ text_to_line_end e.row) ++ (slices e.row).tail)
  from_is = omega (arith, head_ends t s e row end h place agrees, ap (λ (z : Slices). length z.tail) same, length-append (before_entry e ++ text_to_line_end e.row) (slices e.row).tail)

  abbrev pub lower_ends : (tail : List ℕ) → tail ≡ y.tail → EndsRows t s (place.1 + length tail) end
  lower_ends tail tail_is =
      let l : List ℕ = (before_entry e ++ text_to_line_end e.row) ++ (slices e.row).tail in
      let from : place.1 + length tail ≡ length l = omega (arith, from_is, ap length tail_is) in
      record {
        entry = e;
        row = row;
        rows = h;
        front = l;
        own = (slices e.row).raw ++ rows_text e.under [];
        text = through_is t s e row end h;
        from_is = from;
        starts = subst (IsCharBoundary t) (sym from) (line_boundary_at t s e row end h u);
      }

  pub tail_fits : (tail : List ℕ) → tail ≡ y.tail → place.1 + length tail ≤ text_limit
  tail_fits tail tail_is =
      let l : List ℕ = (before_entry e ++ text_to_line_end e.row) ++ (slices e.row).tail in
      let lower : List ℕ = (slices e.row).raw ++ rows_text e.under [] in
      omega (arith, from_is, ap length tail_is, ap length (line_cut t s e row end h), length-append l (lower ++ after_entry e), h.cut.size)

  sized : (space head : List ℕ) → space ≡ space_before y → head ≡ y.head → length front + (length space + length head) ≡ place.1
  sized space head a b =
      let x : Slices = slices e.row in
      omega (
        arith,
        head_ends t s e row end h place agrees,
        ap length a,
        ap length b,
        ap (λ (z : Slices). length (space_before z)) same,
        ap (λ (z : Slices). length z.head) same,
        ap length (line_is e.row),
        length-append {A = ℕ},
      )

  size : (space head : List ℕ) → space ≡ space_before y → head ≡ y.head → place.1 - (length space + length head) ≡ length front
  size space head a b = omega (arith, sized space head a b)

  pub space_fits : (space head : List ℕ) → space ≡ space_before y → head ≡ y.head → length space + length head ≤ place.1
  space_fits space head a b = omega (arith, sized space head a b)

  pub before_boundary : (before space head tail : List ℕ) → before ≡ (before_entry e ++ text_to_line_end e.row) ++ (slices e.row).tail → space ≡ space_before y → head ≡ y.head → tail ≡ y.tail → IsUtf8 space → IsUtf8 head → IsUtf8 tail →
      IsCharBoundary before (place.1 - (length space + length head))
  before_boundary before space head tail is a b d ua ub ud =
      let whole : before ≡ front ++ ((space ++ head) ++ tail) = is ∙ (line_is_front ∙ (λ i. front ++ ((space_before (same i) ++ (same i).head) ++ (same i).tail)) ∙ sym (λ i. front ++ ((a i ++ b i) ++ d i))) in
      subst (IsCharBoundary before) (sym (size space head a b)) (IsCharBoundary-at_seam before front ((space ++ head) ++ tail) whole (IsUtf8-append (space ++ head) tail (IsUtf8-append space head ua ub) ud))

  before_is : (before space head : List ℕ) → before ≡ (before_entry e ++ text_to_line_end e.row) ++ (slices e.row).tail → space ≡ space_before y → head ≡ y.head → take (place.1 - (length space + length head)) before ≡ front
  before_is before space head is a b = search (rules, size, a, b, is, line_is_front, take-append_seam)

  pub held_is : (column dashes : ℕ) (keyed noted none : Bool) (before space head break last : List ℕ) (tail : LineEnd) (lower : LinesIn) →
      column ≡ line_column dashes y → dashes ≡ length e.row.dashes → keyed ≡ not (is_empty y.colon) → tail ≡ end_in_line [] y.tail →
      noted ≡ (not (is_empty y.anchor) || not (is_empty tail.comment)) → lower ≡ lines_between ((before_entry e ++ text_to_line_end e.row) ++ (slices e.row).tail) ((slices e.row).raw ++ rows_text e.under []) (after_entry e) →
      space ≡ space_before y → head ≡ y.head → before ≡ take (place.1 - (length space + length head)) lower.before → none ≡ is_empty (lower.lines ++ lower.last) →
      break ≡ cond none [] tail.after → last ≡ cond none tail.after lower.last →
      ◌≡◌ {A = Held} (record {
        mark = record { column = column; keyed = keyed; noted = noted };
        before = before;
        space = space;
        head = head;
        white =
            tail.white;
        comment = tail.comment;
        break = break;
        lines = lower.lines;
        last = last;
        after = lower.after;
      }) (held e)
  held_is column dashes keyed noted none before space head break last tail lower columns_are dashes_are keyed_is tail_is noted_is lower_is space_is head_is before_cut none_is break_is last_is_it =
      let r : Row = e.row in
      let end : tail ≡ end_in_line [] (slices r).tail = tail_is ∙ ap (λ (z : Slices). end_in_line [] z.tail) (sym same) in
      let a : column ≡ mark_column r = columns_are ∙ (ap (line_column dashes) (sym same) ∙ mark_column_is r dashes dashes_are) in
      let b : keyed ≡ not (is_empty (slices r).colon) = keyed_is ∙ ap (λ (z : Slices). not (is_empty z.colon)) (sym same) in
      let d : noted ≡ (not (is_empty (slices r).anchor) || not (is_empty (end_in_line [] (slices r).tail).comment)) = noted_is ∙ (λ i. not (is_empty (sym same i).anchor) || not (is_empty (end i).comment)) in
      let f : before ≡ front = before_cut ∙ before_is lower.before space head (ap (λ (z : LinesIn). z.before) lower_is) space_is head_is in
      let g : space ≡ space_before (slices r) = space_is ∙ ap space_before (sym same) in
      let k : head ≡ (slices r).head = head_is ∙ ap (λ (z : Slices). z.head) (sym same) in
      let nothing : none ≡ is_empty ((slices r).raw ++ rows_text e.under []) = none_is ∙ (ap (λ (z : LinesIn). is_empty (z.lines ++ z.last)) lower_is ∙ ap is_empty (less_is ((slices r).raw ++ rows_text e.under []))) in
      let m : break ≡ cond (is_empty ((slices r).raw ++ rows_text e.under [])) [] (end_in_line [] (slices r).tail).after = break_is ∙ (λ i. cond (nothing i) [] (end i).after) in
      let n : last ≡ cond (is_empty ((slices r).raw ++ rows_text e.under [])) (end_in_line [] (slices r).tail).after
      (last_break ((slices r).raw ++ rows_text e.under [])) = last_is_it ∙ (λ i. cond (nothing i) (end i).after (lower_is i).last) in
      search (rules, a, b, d, f, g, k, end, m, lower_is, n)
