use Rattle.std.proofs.Common.{arith, rules}
use Rattle.yq_places.proofs.KnownEndLaws.{end_from, later_from}
use Rattle.yq_places.proofs.places.known_end.row_after.Goals as goal

pub returns-in-Some-clause-later : goal.returns-in-Some-clause-later
returns-in-Some-clause-later c =
    let w = c.args.walk.now in
    omega (arith, c.rows_under.ensures.value, later_from w.rows.now w.document c.requires.walk.document.are_there c.args.at.row c.args.first c.args.floor c.in-Some.known c.in-Some.ensures c.requires.first)

pub returns-in-Some-clause-value : goal.returns-in-Some-clause-value
returns-in-Some-clause-value c = search (rules, end_from)
