use Rattle.std.proofs.Common.{rules}
use Rattle.yq_outline.specs.RowWalk.{AreKnown}
use Rattle.yq_lookup.proofs.CutRows.{above_agrees, items_agree, line_agrees, line_borrowed}
use Rattle.yq_lookup.proofs.cut_text.CutText.end_along.Goals as goal

pub known_end-requires : goal.known_end-requires
known_end-requires c = record {
  rows_view = c.in-Some.ensures.walk.rows_view;
  document = c.in-Some.ensures.walk.document;
  known = search rules;
  line = line_borrowed c.in-Some.walk.rows.now c.known_along-way.result.line c.as_ref.result c.as_ref.ensures.value c.known_along-way.ensures.line;
  above = c.in-Some.ensures.walk.above;
}

pub returns-in-Some-known_end-clause-known : goal.returns-in-Some-known_end-clause-known
returns-in-Some-known_end-clause-known c =
    let known : AreKnown c.in-Some.walk.rows.now.rows c.put_item.new.known.items = search rules in
    items_agree c.args.self.now c.in-Some.walk.rows.now c.put_item.new.known.items c.in-Some.ensures.cut.rows known

pub returns-in_default-known_end-clause-known : goal.returns-in_default-known_end-clause-known
returns-in_default-known_end-clause-known c = items_agree c.args.self.now c.in-Some.walk.rows.now c.known_along-way.new.known.items c.in-Some.ensures.cut.rows c.known_along-way.ensures.known

pub returns-in-Some-known_end-clause-line : goal.returns-in-Some-known_end-clause-line
returns-in-Some-known_end-clause-line c = line_agrees c.args.self.now c.in-Some.walk.rows.now c.known_along-way.result.line c.in-Some.ensures.cut.rows c.known_along-way.ensures.line

pub returns-in_default-known_end-clause-line : goal.returns-in_default-known_end-clause-line
returns-in_default-known_end-clause-line c = line_agrees c.args.self.now c.in-Some.walk.rows.now c.known_along-way.result.line c.in-Some.ensures.cut.rows c.known_along-way.ensures.line

pub returns-in-Some-known_end-clause-above : goal.returns-in-Some-known_end-clause-above
returns-in-Some-known_end-clause-above c = above_agrees c.args.self.now c.in-Some.walk.rows.now c.known_along-way.result.above c.in-Some.ensures.cut.rows c.known_along-way.ensures.above

pub returns-in_default-known_end-clause-above : goal.returns-in_default-known_end-clause-above
returns-in_default-known_end-clause-above c = above_agrees c.args.self.now c.in-Some.walk.rows.now c.known_along-way.result.above c.in-Some.ensures.cut.rows c.known_along-way.ensures.above
