use Rattle.std.{proofs.Common.{◌≡◌, ◌-◌, length, true, false, refl, rules, sym, subst, ap, ◌∙◌}, proofs.lemmas.List.Elements.All-push}
use Rattle.yq_row_table.{specs.Offsets.{AreRowsIn, IsCutIn, rows_in, slices_in}, proofs.Failing.fails_by}
use Rattle.yq_row_table.proofs.NearLaws.{rows_placed_end, rows_placed_none, rows_placed_step}
use Rattle.yq_row_table.proofs.OffsetLaws.{ends_next, row_then, rows_length, rows_push}
use Rattle.yq_row_table.proofs.RowSlicing.{at_gap, gap_joined, loop_smaller, loop_step, no_row, row_joined, rows_end}
use Rattle.yq_row_table.{specs.Grammar.{Limit, ends_part}, specs.Kept.rows_placed, specs.Reading.all_rows, specs.Slicing.rows_sliced}
use Rattle.yq_row_table.proofs.OtherRows.{others_push}
use Rattle.yq_rows.{specs.ReadPieces.limit_view, proofs.Columns.ends_within}
use Rattle.yq_rows.proofs.reading.read_rows.Goals as goal

pub returns-then-ends_part-clause-found : goal.returns-then-ends_part-clause-found
returns-then-ends_part-clause-found c =
    let front = rows_in c.args.whole.now c.rows.rows.items in
    let done : ends_part c.split_gap.result.1.now ≡ true = ap ends_part (sym c.as_bytes.ensures.value) ∙ (sym c.ends_part.ensures ∙ c.if-ends_part.true) in
    sym c.rows.invariant.so_far
    ∙ (at_gap front (limit_view c.rows.limit) c.rows.at.now _ _ c.split_gap.ensures
    ∙ rows_end front (limit_view c.rows.limit) c.split_gap.result.0.now c.split_gap.result.1.now done)

pub returns-then-ends_part-clause-placed : goal.returns-then-ends_part-clause-placed
returns-then-ends_part-clause-placed c =
    let done : ends_part c.split_gap.result.1.now ≡ true = ap ends_part (sym c.as_bytes.ensures.value) ∙ (sym c.ends_part.ensures ∙ c.if-ends_part.true) in
    rows_placed_end c.rows.rows.items (length c.args.whole.now - length c.rows.at.now) (limit_view c.rows.limit) c.rows.at.now _ _ _ c.split_gap.ensures done c.rows.invariant.placed

pub returns-in-Err-clause-found : goal.returns-in-Err-clause-found
returns-in-Err-clause-found c =
    let front = rows_in c.args.whole.now c.rows.rows.items in
    let more : ends_part c.split_gap.result.1.now ≡ false = ap ends_part (sym c.as_bytes.ensures.value) ∙ (sym c.ends_part.ensures ∙ c.if-ends_part.false) in
    fails_by c.in-Err.e _ _ c.in-Err.ensures.read (λ none.
    sym c.rows.invariant.so_far
    ∙ (at_gap front (limit_view c.rows.limit) c.rows.at.now _ _ c.split_gap.ensures
    ∙ no_row front (limit_view c.rows.limit) c.split_gap.result.0.now c.split_gap.result.1.now more none))

pub returns-in-Err-clause-placed : goal.returns-in-Err-clause-placed
returns-in-Err-clause-placed c =
    let more : ends_part c.split_gap.result.1.now ≡ false = ap ends_part (sym c.as_bytes.ensures.value) ∙ (sym c.ends_part.ensures ∙ c.if-ends_part.false) in
    fails_by c.in-Err.e _ _ c.in-Err.ensures.read (λ none.
    rows_placed_none c.rows.rows.items (length c.args.whole.now - length c.rows.at.now) (limit_view c.rows.limit) c.rows.at.now _ _ _ c.split_gap.ensures more none c.rows.invariant.placed)

pub read_row-requires-clause-cut : goal.read_row-requires-clause-cut
read_row-requires-clause-cut c = gap_joined c.rows.at.now _ _ c.split_gap.ensures

pub rows-smaller : goal.rows-smaller
rows-smaller c =
    let more : ends_part c.split_gap.result.1.now ≡ false = ap ends_part (sym c.as_bytes.ensures.value) ∙ (sym c.ends_part.ensures ∙ c.if-ends_part.false) in
    loop_smaller (limit_view c.rows.limit) (limit_view c.in-Ok.found.1) c.rows.at.now _ _ (slices_in c.args.whole.now c.in-Ok.found.0) c.in-Ok.found.2.now c.split_gap.ensures more c.in-Ok.ensures.read

pub rows-preserved : goal.rows-preserved
rows-preserved c =
    let whole = c.args.whole.now in
    let row = slices_in whole c.in-Ok.found.0 in
    let after = c.in-Ok.found.2.now in
    let more : ends_part c.split_gap.result.1.now ≡ false = ap ends_part (sym c.as_bytes.ensures.value) ∙ (sym c.ends_part.ensures ∙ c.if-ends_part.false) in
    let joined = row_joined (limit_view c.rows.limit) (limit_view c.in-Ok.found.1) c.rows.at.now _ _ row after c.split_gap.ensures c.in-Ok.ensures.read in
    let pushed = rows_push whole c.rows.rows.items _ c.in-Ok.found.0 row c.in_ok-push.ensures.items refl in
    record {
      text = search rules;
      ends = ends_next whole c.rows.at.now _ after c.rows.invariant.ends (joined ∙ row_then row after);
      are_there = subst (AreRowsIn whole) (sym c.in_ok-push.ensures.items) (All-push (IsCutIn whole) c.rows.rows.items c.in-Ok.found.0 c.rows.invariant.are_there c.in-Ok.ensures.is_located);
      so_far = loop_step (rows_in whole c.rows.rows.items) _ (limit_view c.rows.limit) (limit_view c.in-Ok.found.1) c.rows.at.now _ _ row after _ c.split_gap.ensures more c.in-Ok.ensures.read pushed c.rows.invariant.so_far;
      placed = rows_placed_step c.rows.rows.items _ c.in-Ok.found.0 whole (limit_view c.rows.limit) (limit_view c.in-Ok.found.1) c.rows.at.now _ _
          row after _ c.rows.invariant.ends c.split_gap.ensures more c.in-Ok.ensures.read c.in_ok-push.ensures.items c.in-Ok.ensures.place
          c.rows.invariant.placed;
      others = λ noted h. others_push (rows_in whole c.rows.rows.items) _ row c.rows.notes.others.items _ c.len.result c.in-Ok.found.4 c.in-Ok.found.3 pushed
          (c.len.ensures ∙ (c.rows.rows.ok.0 ∙ rows_length whole c.rows.rows.items)) c.in-Ok.ensures.word c.in-Ok.ensures.known (c.in_ok-push_other.ensures noted)
          (c.rows.invariant.others noted h);
    }

pub rows-init : goal.rows-init
rows-init c =
    let whole = c.args.whole.now in
    let text = c.args.text.now in
    let rows = c.args.rows.items in
    record {
      text = c.utf8.text;
      ends = c.requires.ends;
      are_there = c.requires.are_there;
      so_far = ap (λ (l : Limit). rows_sliced (rows_in whole rows) (all_rows l text)) c.none-limit.ensures;
      placed = ap (λ (l : Limit). rows_placed rows (length whole - length text) (all_rows l text)) c.none-limit.ensures;
      others = λ noted h. h;
    }

pub returns-then-ends_part-clause-after : goal.returns-then-ends_part-clause-after
returns-then-ends_part-clause-after c = ends_next c.args.whole.now c.rows.at.now c.split_gap.result.0.now c.split_gap.result.1.now c.rows.invariant.ends (gap_joined c.rows.at.now _ _ c.split_gap.ensures)

pub read_row-requires-clause-short : goal.read_row-requires-clause-short
read_row-requires-clause-short c =
    ends_within c.split_gap.result.1.now c.args.whole.now (ends_next c.args.whole.now c.rows.at.now c.split_gap.result.0.now c.split_gap.result.1.now c.rows.invariant.ends (gap_joined c.rows.at.now _ _ c.split_gap.ensures))

pub returns-then-ends_part-clause-others : goal.returns-then-ends_part-clause-others
returns-then-ends_part-clause-others c = λ noted h. c.rows.invariant.others noted h
