use Rattle.std.proofs.Common.{map, ap}
use Rattle.yq_core.specs.Entries.{tree_step}
use Rattle.yq_lookup.{proofs.CutRows.{above_agrees, items_agree, items_known, line_agrees}, proofs.PathLineLaws.line_is_of}
use Rattle.yq_lookup.proofs.cut_text.CutText.way_along.Goals as goal

pub known_along-requires-clause-known : goal.known_along-requires-clause-known
known_along-requires-clause-known c = items_known c.args.self.now c.in-Some.walk.rows.now c.args.known.now.items c.in-Some.ensures.cut.rows c.requires

pub returns-in-Some-clause-known : goal.returns-in-Some-clause-known
returns-in-Some-clause-known c = items_agree c.args.self.now c.in-Some.walk.rows.now c.known_along.new.known.items c.in-Some.ensures.cut.rows c.known_along.ensures.known

pub returns-in-Some-clause-line : goal.returns-in-Some-clause-line
returns-in-Some-clause-line c = line_agrees c.args.self.now c.in-Some.walk.rows.now c.known_along.result.line c.in-Some.ensures.cut.rows c.known_along.ensures.line

pub returns-in-Some-clause-above : goal.returns-in-Some-clause-above
returns-in-Some-clause-above c = above_agrees c.args.self.now c.in-Some.walk.rows.now c.known_along.result.above c.in-Some.ensures.cut.rows c.known_along.ensures.above

pub returns-in-Some-clause-at : goal.returns-in-Some-clause-at
returns-in-Some-clause-at c =
    line_is_of c.args.self.now c.args.path.now c.in-Some.walk (map tree_step c.deref.result.now) c.known_along.result.line c.in-Some.ensures.cut c.in-Some.ensures.place (ap (map tree_step) c.deref.ensures.value) c.known_along.ensures.at
