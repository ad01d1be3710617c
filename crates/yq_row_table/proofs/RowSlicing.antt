-- Rows, as the code lends them.
use Rattle.std.proofs.Common.{rules, if◌then◌else◌, ◌≡◌, ℕ, ◌<◌, ◌≤◌, Bool, true, false, cond, not, ◌&&◌, ◌||◌, eqb, List, [], ◌∷◌, ◌++◌}
use Rattle.std.proofs.Common.{length, Option, Some, None, sym, ap, ◌∙◌, subst, arith, append_assoc, append-nil, ℤ}
use Rattle.std.{proofs.lemmas.Bool.false≢true, proofs.lemmas.List.take-append-drop, proofs.lemmas.Option.same_Some}
use Rattle.yq_core.{specs.Answers.◌>>=◌, specs.Text.{cut, no_space, no_white, is_marker}, proofs.Bools.bind_some, specs.Nodes.begins_node}
use Rattle.yq_row_table.specs.Grammar.{Limit, unlimited, allows, limit_after_content, no_rows, ends_part}
use Rattle.yq_row_table.specs.Slicing.{Begun, begun, borrowed_content, filled_at, holds_plain, limit_by, SlicedRow, sliced, row_of}
use Rattle.yq_row_table.specs.Slicing.{marked_sliced, row_sliced, rows_sliced, inline_sliced, block_sliced}
use Rattle.yq_row_table.specs.Reading.{Marks, read_marks, read_content, begins_block, read_tail, marked_row_at, row_at, gap_len, cut_gap}
use Rattle.yq_row_table.{specs.Reading.{all_rows, read_cut_part}, specs.Rows.{Content, Nothing, Row, Part}}
use Rattle.yq_row_table.{specs.View.{Slices, slices, slices_text}, proofs.BeginSteps.columns_from, proofs.RowLaws.{row_takes, row_shorter}}
use Rattle.yq_row_table.proofs.RowsLaws.{after_le, with_front, no_more, rows_from, rows_cut, rows_step, rows_refused, rows_done}
use Rattle.yq_row_table.proofs.SliceLaws.{slices_are}

-- what comes after a mark
pub content_block : (n : ℤ) (t s u : List ℕ) → (s, u) ≡ cut no_white t → begins_block u ≡ true → filled_at n t ≡ block_sliced n s u
unfolding read_content
content_block n t s u e begins = rw (subst (λ (y : List ℕ × List ℕ). begins_block y.1 ≡ true) e begins) (ap (λ (y : List ℕ × List ℕ). block_sliced n y.0 y.1) (sym e))

pub content_inline : (n : ℤ) (t s u : List ℕ) → (s, u) ≡ cut no_white t → begins_block u ≡ false → begins_node false u ≡ true → filled_at n t ≡ inline_sliced n s u
unfolding read_content
content_inline n t s u e block begins = search rules

pub content_nothing : (n : ℤ) (t s u : List ℕ) (read : Option (List ℕ × List ℕ)) → (s, u) ≡ cut no_white t → begins_block u ≡ false →
    begins_node false u ≡ false → read_tail t ≡ read → filled_at n t ≡ (read >>= λ x. Some (borrowed_content (Nothing x.0, x.1)))
unfolding read_content
content_nothing n t s u read e block begins h = search rules

-- what a row asks of the next one
limit_is : (n : ℤ) (c : Content) → limit_after_content n c ≡ limit_by n (holds_plain c)
limit_is n c = search rules

row_is : (gap : List ℕ) (column : ℕ) (m : Marks) (x : Content × List ℕ) → sliced (record { gap = gap; column = column; dashes = m.0; mark = m.1; content = x.0 }, x.1) ≡ row_of gap column (begun m) (borrowed_content x)
row_is gap column m x = search (rules, limit_is, columns_from)

pub marked_slicing : (gap : List ℕ) (column : ℕ) (m : Marks) → (marked_row_at gap column m >>= λ x. Some (sliced x)) ≡ marked_sliced gap column (begun m)
unfolding marked_row_at
marked_slicing gap column m = search (rules, columns_from, row_is)

row_slicing : (limit : Limit) (gap t indent rest : List ℕ) → (indent, rest) ≡ cut no_space t →
    (allows limit (length indent) && not (eqb (length indent) 0 && is_marker rest)) ≡ true →
    row_sliced limit gap t ≡ marked_sliced gap (length indent) (begun (read_marks rest))
unfolding row_at
row_slicing limit gap t indent rest e ok = search (rules, marked_slicing)

pub row_as : (limit : Limit) (gap t indent rest bytes : List ℕ) (is_located : Bool) (b : Begun) (o : Option SlicedRow) →
    (indent, rest) ≡ cut no_space t → bytes ≡ rest → is_located ≡ (allows limit (length indent) && not (eqb (length indent) 0 && is_marker bytes)) →
    is_located ≡ true →
    b ≡ begun (read_marks rest) → marked_sliced gap (length indent) b ≡ o → row_sliced limit gap t ≡ o
row_as limit gap t indent rest bytes is_located b o e same may is marks read = search (rules, row_slicing)

-- rows after others
sliced_front : (front : List Slices) (r : Row) (o : Option (Part × List ℕ)) → rows_sliced front (with_front (r ∷ []) o) ≡ rows_sliced (front ++ slices r ∷ []) o
sliced_front front r o = search (rules, append_assoc)

-- A row that was read, among those of a part.
pub record OneRow (front : List Slices) (limit : Limit) (gap t : List ℕ) (s : Slices) (l : Limit) (after : List ℕ) : Type 0 where
  pub shorter : length after < length t
  pub step : rows_sliced front (rows_from limit gap t) ≡ rows_sliced (front ++ s ∷ []) (rows_from l (cut_gap after).0 (cut_gap after).1)

pub one_row : (front : List Slices) (limit : Limit) (gap t : List ℕ) (s : Slices) (l : Limit) (after : List ℕ) → ends_part t ≡ false → row_sliced limit gap t ≡ Some (s, l, after) → OneRow front limit gap t s l after
one_row front limit gap t s l after more h =
    let x = bind_some (row_at limit gap t) h in
    let is : sliced x.0 ≡ (s, l, after) = same_Some _ _ x.2 in
    let step = rows_step limit gap t x.0 more x.1 in
    search (rules, row_shorter, sliced_front)

pub not_read : (o : Option (Row × List ℕ)) → (o >>= λ x. Some (sliced x)) ≡ None → o ≡ None
not_read o h = search rules

pub no_row : (front : List Slices) (limit : Limit) (gap t : List ℕ) → ends_part t ≡ false → row_sliced limit gap t ≡ None → rows_sliced front (rows_from limit gap t) ≡ None
no_row front limit gap t more h = ap (rows_sliced front) (rows_refused limit gap t more (not_read (row_at limit gap t) h))

pub rows_end : (front : List Slices) (limit : Limit) (gap t : List ℕ) → ends_part t ≡ true → rows_sliced front (rows_from limit gap t) ≡ Some (front, gap, t)
rows_end front limit gap t none = ap (rows_sliced front) (rows_done limit gap t none) ∙ ap (λ (l : List Slices). Some (l, gap, t)) (append-nil front)

-- a row that was read, with the gap before it, is in front of what follows
pub row_spelled : (limit : Limit) (gap t : List ℕ) (s : Slices) (l : Limit) (after : List ℕ) → row_sliced limit gap t ≡ Some (s, l, after) → gap ++ t ≡ slices_text s after
row_spelled limit gap t s l after h =
    let x = bind_some (row_at limit gap t) h in
    let is : sliced x.0 ≡ (s, l, after) = same_Some _ _ x.2 in
    let cut = row_takes limit gap t x.0 x.1 in
    search (rules, slices_are)

-- the loop over the rows of a part
pub at_gap : (front : List Slices) (limit : Limit) (t g r : List ℕ) → (g, r) ≡ cut_gap t → rows_sliced front (all_rows limit t) ≡ rows_sliced front (rows_from limit g r)
at_gap front limit t g r e = ap (rows_sliced front) (rows_cut limit t) ∙ ap (λ (y : List ℕ × List ℕ). rows_sliced front (rows_from limit y.0 y.1)) (sym e)

pub gap_joined : (t g r : List ℕ) → (g, r) ≡ cut_gap t → t ≡ g ++ r
gap_joined t g r e = subst (λ (y : List ℕ × List ℕ). t ≡ y.0 ++ y.1) (sym e) (sym (take-append-drop (gap_len t) t))

cut_within : (t g r : List ℕ) → (g, r) ≡ cut_gap t → length r ≤ length t
cut_within t g r e = subst (λ (y : List ℕ × List ℕ). length y.1 ≤ length t) (sym e) (after_le t)

pub row_joined : (limit next : Limit) (t g r : List ℕ) (s : Slices) (after : List ℕ) → (g, r) ≡ cut_gap t → row_sliced limit g r ≡ Some (s, next, after) → t ≡ slices_text s after
row_joined limit next t g r s after e h = gap_joined t g r e ∙ row_spelled limit g r s next after h

pub loop_smaller : (limit next : Limit) (t g r : List ℕ) (s : Slices) (after : List ℕ) → (g, r) ≡ cut_gap t → ends_part r ≡ false → row_sliced limit g r ≡ Some (s, next, after) → length after < length t
loop_smaller limit next t g r s after e more h =
    let less = cut_within t g r e in
    let short = (one_row [] limit g r s next after more h).shorter in
    omega arith

pub loop_step : (front items : List Slices) (limit next : Limit) (t g r : List ℕ) (s : Slices) (after : List ℕ) (all : Option (List Slices × List ℕ × List ℕ)) →
    (g, r) ≡ cut_gap t → ends_part r ≡ false → row_sliced limit g r ≡ Some (s, next, after) → items ≡ front ++ s ∷ [] →
    rows_sliced front (all_rows limit t) ≡ all → rows_sliced items (all_rows next after) ≡ all
loop_step front items limit next t g r s after all e more h is so_far =
    let step = (one_row front limit g r s next after more h).step in
    search (rules, rows_cut, at_gap)

-- a part where a document is open, or without rows
guard_true : (o : Option (Part × List ℕ)) → (o >>= λ part. if true || no_rows part.0.rows then Some part else None) ≡ o
guard_true o = search rules

pub part_open : (t : List ℕ) → read_cut_part true t ≡ all_rows unlimited t
unfolding read_cut_part
part_open t = guard_true (all_rows unlimited t)

or_none : (started : Bool) (gap : List ℕ × List ℕ) → cond (started || true) (no_more gap) None ≡ no_more gap
or_none started gap = search rules

pub part_empty : (started : Bool) (t : List ℕ) → ends_part (cut_gap t).1 ≡ true → read_cut_part started t ≡ all_rows unlimited t
unfolding read_cut_part
part_empty started t h2 = search (rules, rows_cut, rows_done, or_none)

pub part_same : (started : Bool) (t : List ℕ) → (started || ends_part (cut_gap t).1) ≡ true → read_cut_part started t ≡ all_rows unlimited t
part_same started t h = search (rules, part_open, part_empty)

pub part_refused : (t : List ℕ) → ends_part (cut_gap t).1 ≡ false → read_cut_part false t ≡ None
unfolding read_cut_part rows_from
part_refused t some = search (rules, rows_cut, with_front)

pub part_shut : (started : Bool) (t : List ℕ) → (started || ends_part (cut_gap t).1) ≡ false → read_cut_part started t ≡ None
part_shut started t h = search (rules, false≢true, part_refused)
