use Rattle.std.proofs.Common.{◌≡◌, ℕ, ◌+◌, List, [], ◌++◌, true, false, ◌-◌, Some, length, rules, refl, sym, subst, ap, arith, ◌∙◌}
use Rattle.std.proofs.lemmas.List.Elements.{All-push}
use Rattle.yq_core.specs.Text.{is_empty}
use Rattle.yq_row_table.{specs.Grammar.begins_document, specs.Offsets.{Ends, rows_in}, specs.Ends.{EndIsLocated, EndsAreLocated, bounds_in}}
use Rattle.yq_row_table.{specs.declared.ends.EndPlace.EndPlace, specs.declared.places.Places.Places, specs.View.RowsView}
use Rattle.yq_row_table.{specs.WordRows.AreOtherRows, proofs.EndsNear.{ends_placed_end, ends_placed_step, kept_part}}
use Rattle.yq_row_table.{proofs.Failing.fails_by, proofs.NearLaws.{near_read, parts_placed_end, parts_placed_step}}
use Rattle.yq_row_table.proofs.OffsetLaws.{ends_next, rows_length}
use Rattle.yq_row_table.proofs.PartSlicing.{one_part, end_ends, empty_by, bounds_push, part_is_marker, part_smaller, parts_none}
use Rattle.yq_row_table.{proofs.PartSlicing.{parts_unmarked, parts_end, parts_more}, proofs.PartsLaws.marker_takes}
use Rattle.yq_row_table.proofs.PlacedLaws.{Scanned, scanned_places, scanned_view}
use Rattle.yq_rows.proofs.scanning.cut.Goals.{After-of-text}
use Rattle.yq_rows.proofs.scanning.cut.Goals as goal

pub returns-in-Err-clause-read : goal.returns-in-Err-clause-read
returns-in-Err-clause-read c =
    fails_by c.in-Err.e _ _ c.in-Err.ensures.found
    (λ none. sym c.parts.invariant.so_far
    ∙ parts_none (rows_in c.args.text.now c.parts.rows.items) (bounds_in c.args.text.now c.parts.ends.items) c.parts.is_open c.parts.rest.now none)

pub end_of-requires-clause-ends : goal.end_of-requires-clause-ends
end_of-requires-clause-ends c =
    let part = one_part (rows_in c.args.text.now c.parts.rows.items) c.parts.is_open c.parts.rest.now (rows_in c.args.text.now c.in-Ok.part.0.items) c.in-Ok.part.1.now c.in-Ok.part.2.now c.in-Ok.ensures.found in
    end_ends c.args.text.now c.parts.rest.now c.in-Ok.part.1.now c.in-Ok.part.2.now c.parts.is_open part.part c.parts.invariant.ends part.read part.end_is

scanned : (c : goal.After-of-text) → Scanned c.args.text.now c.of-text.result (record { front = c.in-Ok.part.0; after = c.new-following.result; ends = c.of-ends.result; split = length c.args.text.now })
scanned c =
    let whole = c.args.text.now in
    let none : is_empty c.in-Ok.part.2.now ≡ true = empty_by c.in-Ok.part.2.now _ true c.is_empty.ensures c.if-is_empty.true in
    let count : c.len-count.result ≡ length (rows_in whole c.in-Ok.part.0.items) = c.len-count.ensures ∙ (c.in-Ok.part.0.ok.0 ∙ rows_length whole c.in-Ok.part.0.items) in
    let part = one_part (rows_in whole c.parts.rows.items) c.parts.is_open c.parts.rest.now (rows_in whole c.in-Ok.part.0.items) c.in-Ok.part.1.now c.in-Ok.part.2.now c.in-Ok.ensures.found in
    let pushed = bounds_push whole c.parts.ends.items _ c.end_of.result _ c.in_ok-push.ensures.items c.end_of.ensures.same in
    let rows : c.len-count.result ≡ length c.parts.rows.items + length part.part.rows = count ∙ (part.count ∙ ap (λ (n : ℕ). n + length part.part.rows) (sym (rows_length whole c.parts.rows.items))) in
    let kept = kept_part c.parts.is_open whole c.parts.rest.now c.in-Ok.part.2.now [] c.in-Ok.part.2.now c.in-Ok.part.1.now
    (length c.parts.rows.items) c.len-count.result part.part c.end_of.result c.parts.invariant.ends part.read part.end_is refl rows
    c.end_of.ensures.place in
    let read = parts_end _ (rows_in whole c.in-Ok.part.0.items) _ _ _ _ _ _ _ _ c.in-Ok.ensures.found none count pushed c.parts.invariant.so_far in
    let are_there = subst (EndsAreLocated whole) (sym c.in_ok-push.ensures.items) (All-push (EndIsLocated whole) c.parts.ends.items c.end_of.result c.parts.invariant.ends_are_there c.end_of.ensures.is_located) in
    subst (λ (es : List EndPlace). Scanned whole c.of-text.result (record { front = c.in-Ok.part.0; after = c.new-following.result; ends = es; split = length whole })) (sym c.of-ends.ensures)
    (record {
      read = near_read whole c.in-Ok.part.0.items _ _
          (parts_placed_end c.parts.rows.items c.in-Ok.part.0.items (length whole - length c.parts.rest.now) c.parts.is_open c.parts.rest.now c.in-Ok.part.2.now part.part _ part.read none c.in-Ok.ensures.placed c.parts.invariant.placed)
          (ends_placed_end c.parts.ends.items _ c.end_of.result whole c.parts.rest.now c.in-Ok.part.2.now (length c.parts.rows.items) c.parts.is_open part.part _ part.read none kept c.in_ok-push.ensures.items c.parts.invariant.ends_placed)
          read;
      front_is = c.of-text.ensures.front;
      back_is = c.of-text.ensures.back;
      none_following = c.new-following.ensures.items;
      split_is = refl;
      characters = c.utf8.text;
      rows_located = c.in-Ok.ensures.kept;
      ends_are_there = are_there;
      small = c.requires;
    })

pub noted_rows-requires-clause-places : goal.noted_rows-requires-clause-places
noted_rows-requires-clause-places c = scanned_places c.args.text.now c.of-text.result (record { front = c.in-Ok.part.0; after = c.new-following.result; ends = c.of-ends.result; split = length c.args.text.now }) (scanned c)

pub returns-then-is_empty-clause-read : goal.returns-then-is_empty-clause-read
returns-then-is_empty-clause-read c =
    let whole = c.args.text.now in
    let p : Places = record { front = c.in-Ok.part.0; after = c.new-following.result; ends = c.of-ends.result; split = length whole } in
    let none : is_empty c.in-Ok.part.2.now ≡ true = empty_by c.in-Ok.part.2.now _ true c.is_empty.ensures c.if-is_empty.true in
    let count : c.len-count.result ≡ length (rows_in whole c.in-Ok.part.0.items) = c.len-count.ensures ∙ (c.in-Ok.part.0.ok.0 ∙ rows_length whole c.in-Ok.part.0.items) in
    let pushed = bounds_push whole c.parts.ends.items _ c.end_of.result _ c.in_ok-push.ensures.items c.end_of.ensures.same in
    parts_end _ (rows_in whole c.in-Ok.part.0.items) _ _ _ _ _ _ _ _ c.in-Ok.ensures.found none count pushed c.parts.invariant.so_far
    ∙ ap (λ (es : List EndPlace). Some (record { rows = rows_in whole c.in-Ok.part.0.items; bounds = bounds_in whole es })) (sym c.of-ends.ensures)
    ∙ ap Some (sym (c.noted_rows.ensures ∙ scanned_view whole c.of-text.result p (scanned (goal.at.returns-then-is_empty-clause-read c).After-of-text)))

pub noted_rows-requires-clause-others : goal.noted_rows-requires-clause-others
noted_rows-requires-clause-others c = λ noted.
    let p : Places = record { front = c.in-Ok.part.0; after = c.new-following.result; ends = c.of-ends.result; split = length c.args.text.now } in
    subst (λ (v : RowsView). AreOtherRows v.rows 0 c.read_part.new.notes.others.items) (sym (scanned_view c.args.text.now c.of-text.result p (scanned c))) (c.in-Ok.ensures.others noted (c.parts.invariant.others noted))

pub read_marker-requires : goal.read_marker-requires
read_marker-requires c =
    let some : is_empty c.in-Ok.part.2.now ≡ false = empty_by c.in-Ok.part.2.now _ false c.is_empty.ensures c.if-is_empty.false in
    part_is_marker (rows_in c.args.text.now c.parts.rows.items) c.parts.is_open c.parts.rest.now (rows_in c.args.text.now c.in-Ok.part.0.items) c.in-Ok.part.1.now c.in-Ok.part.2.now c.in-Ok.ensures.found some

pub returns-in-Err-read_marker-clause-read : goal.returns-in-Err-read_marker-clause-read
returns-in-Err-read_marker-clause-read c =
    let some : is_empty c.in-Ok.part.2.now ≡ false = empty_by c.in-Ok.part.2.now _ false c.is_empty.ensures c.if-is_empty.false in
    sym c.parts.invariant.so_far
    ∙ parts_unmarked (rows_in c.args.text.now c.parts.rows.items) (bounds_in c.args.text.now c.parts.ends.items) c.parts.is_open c.parts.rest.now
    (rows_in c.args.text.now c.in-Ok.part.0.items) c.in-Ok.part.1.now c.in-Ok.part.2.now c.in-Ok.ensures.found some
    c.in-Err-read_marker.ensures.read

pub end_of-requires-in-parts-clause-ends : goal.end_of-requires-in-parts-clause-ends
end_of-requires-in-parts-clause-ends c =
    let some : is_empty c.in-Ok.part.2.now ≡ false = empty_by c.in-Ok.part.2.now _ false c.is_empty.ensures c.if-is_empty.false in
    let marker = part_is_marker (rows_in c.args.text.now c.parts.rows.items) c.parts.is_open c.parts.rest.now (rows_in c.args.text.now c.in-Ok.part.0.items) c.in-Ok.part.1.now c.in-Ok.part.2.now c.in-Ok.ensures.found some in
    let line = marker_takes c.in-Ok.part.2.now (c.in-Ok-read_marker.line.0.now, c.in-Ok-read_marker.line.1.now) marker c.in-Ok-read_marker.ensures.read in
    let part = one_part (rows_in c.args.text.now c.parts.rows.items) c.parts.is_open c.parts.rest.now (rows_in c.args.text.now c.in-Ok.part.0.items) c.in-Ok.part.1.now c.in-Ok.part.2.now c.in-Ok.ensures.found in
    subst (λ (l : List ℕ). Ends (c.in-Ok.part.1.now ++ l) c.args.text.now) line.0
    (end_ends c.args.text.now c.parts.rest.now c.in-Ok.part.1.now c.in-Ok.part.2.now c.parts.is_open part.part c.parts.invariant.ends part.read part.end_is)

pub parts-smaller : goal.parts-smaller
parts-smaller c =
    let some : is_empty c.in-Ok.part.2.now ≡ false = empty_by c.in-Ok.part.2.now _ false c.is_empty.ensures c.if-is_empty.false in
    part_smaller (rows_in c.args.text.now c.parts.rows.items) c.parts.is_open c.parts.rest.now (rows_in c.args.text.now c.in-Ok.part.0.items)
    c.in-Ok.part.1.now c.in-Ok.part.2.now c.in-Ok-read_marker.line.0.now c.in-Ok-read_marker.line.1.now c.in-Ok.ensures.found some
    c.in-Ok-read_marker.ensures.read

pub parts-preserved : goal.parts-preserved
parts-preserved c =
    let some : is_empty c.in-Ok.part.2.now ≡ false = empty_by c.in-Ok.part.2.now _ false c.is_empty.ensures c.if-is_empty.false in
    let count : c.len-count.result ≡ length (rows_in c.args.text.now c.in-Ok.part.0.items) = c.len-count.ensures ∙ (c.in-Ok.part.0.ok.0 ∙ rows_length c.args.text.now c.in-Ok.part.0.items) in
    let marker = part_is_marker (rows_in c.args.text.now c.parts.rows.items) c.parts.is_open c.parts.rest.now (rows_in c.args.text.now c.in-Ok.part.0.items) c.in-Ok.part.1.now c.in-Ok.part.2.now c.in-Ok.ensures.found some in
    let part = one_part (rows_in c.args.text.now c.parts.rows.items) c.parts.is_open c.parts.rest.now (rows_in c.args.text.now c.in-Ok.part.0.items) c.in-Ok.part.1.now c.in-Ok.part.2.now c.in-Ok.ensures.found in
    let line = marker_takes c.in-Ok.part.2.now (c.in-Ok-read_marker.line.0.now, c.in-Ok-read_marker.line.1.now) marker c.in-Ok-read_marker.ensures.read in
    let rows : c.len-count.result ≡ length c.parts.rows.items + length part.part.rows = count ∙ (part.count ∙ ap (λ (n : ℕ). n + length part.part.rows) (sym (rows_length c.args.text.now c.parts.rows.items))) in
    let kept = kept_part c.parts.is_open c.args.text.now c.parts.rest.now c.in-Ok.part.2.now c.in-Ok-read_marker.line.0.now
    c.in-Ok-read_marker.line.1.now c.in-Ok.part.1.now (length c.parts.rows.items) c.len-count.result part.part c.end_of-in-parts.result
    c.parts.invariant.ends part.read part.end_is line.0 rows c.end_of-in-parts.ensures.place in
    let is_open : c.begins_document-is_open.result ≡ begins_document c.in-Ok-read_marker.line.0.now = c.begins_document-is_open.ensures ∙ ap begins_document c.as_bytes.ensures.value in
    record {
      text = search rules;
      ends = ends_next c.args.text.now c.in-Ok.part.2.now c.in-Ok-read_marker.line.0.now c.in-Ok-read_marker.line.1.now c.in-Ok.ensures.after line.0;
      are_there = c.in-Ok.ensures.kept;
      ends_are_there = subst (EndsAreLocated c.args.text.now) (sym c.in_ok-push-2.ensures.items)
          (All-push (EndIsLocated c.args.text.now) c.parts.ends.items c.end_of-in-parts.result c.parts.invariant.ends_are_there
          c.end_of-in-parts.ensures.is_located);
      so_far = rw (is_open, bounds_push c.args.text.now c.parts.ends.items c.push-in-parts.new.self.items c.end_of-in-parts.result _ c.in_ok-push-2.ensures.items c.end_of-in-parts.ensures.same)
          (sym (parts_more (rows_in c.args.text.now c.parts.rows.items) (bounds_in c.args.text.now c.parts.ends.items) c.parts.is_open
          c.parts.rest.now (rows_in c.args.text.now c.in-Ok.part.0.items) c.in-Ok.part.1.now c.in-Ok.part.2.now c.in-Ok-read_marker.line.0.now
          c.in-Ok-read_marker.line.1.now c.len-count.result c.in-Ok.ensures.found some c.in-Ok-read_marker.ensures.read count)
          ∙ c.parts.invariant.so_far);
      placed = rw is_open (parts_placed_step c.parts.rows.items c.in-Ok.part.0.items c.args.text.now c.parts.is_open c.parts.rest.now c.in-Ok.part.2.now c.in-Ok-read_marker.line.0.now c.in-Ok-read_marker.line.1.now _ c.parts.invariant.ends
          (record { part = part.part; read = part.read; some = some; line = c.in-Ok-read_marker.ensures.read }) c.in-Ok.ensures.placed c.parts.invariant.placed);
      ends_placed = rw is_open
          (ends_placed_step c.parts.ends.items _ c.end_of-in-parts.result c.args.text.now c.parts.is_open c.parts.rest.now c.in-Ok.part.2.now
          c.in-Ok-read_marker.line.0.now c.in-Ok-read_marker.line.1.now (length c.parts.rows.items) (length c.in-Ok.part.0.items) _
          (record { part = part.part; read = part.read; some = some; line = c.in-Ok-read_marker.ensures.read }) kept c.in_ok-push-2.ensures.items (sym (c.in-Ok.part.0.ok.0) ∙ (sym c.len-count.ensures ∙ rows)) c.parts.invariant.ends_placed);
      others = λ noted. c.in-Ok.ensures.others noted (c.parts.invariant.others noted);
    }

pub parts-init : goal.parts-init
parts-init c =
    let none : length c.args.text.now - length c.args.text.now ≡ 0 = omega arith in
    record {
      text = c.utf8.text;
      ends = rw none refl;
      are_there = rw c.new-rows.ensures.items (search rules);
      ends_are_there = rw c.new-ends.ensures.items (search rules);
      so_far = rw (c.new-rows.ensures.items, c.new-ends.ensures.items) refl;
      placed = rw c.new-rows.ensures.items refl;
      ends_placed = rw (c.new-rows.ensures.items, c.new-ends.ensures.items) refl;
      others = λ noted. rw (c.new-rows.ensures.items, c.new-others.ensures.items) (λ n s from to is. absurd (omega (arith, to)));
    }
