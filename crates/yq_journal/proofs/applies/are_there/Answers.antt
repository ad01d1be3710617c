use Rattle.std.{proofs.Common.{take, sym, ap, ◌∙◌, arith, take_all, rules}, proofs.lemmas.Bool.both_ways}
use Rattle.std.specs.Prelude.{is_some, option_and_then}
use Rattle.yq_text.specs.Splice.{all_done, change_done}
use Rattle.yq_journal.{specs.PieceTable.splice_of_parts, specs.Turned.turned_splices}
use Rattle.yq_journal.proofs.MatchingLaws.{some_of, lies_within, stays_small, found_there, not_there, not_all, done_next, length-turned}
use Rattle.yq_journal.proofs.applies.are_there.Goals as goal

pub is_there-requires-clause-done : goal.is_there-requires-clause-done
is_there-requires-clause-done c =
    let b = some_of (all_done (take c.splices.k (turned_splices c.args.turned.now)) c.args.text.now) c.splices.invariant in (
      b.0,
      b.1,
      (
        lies_within (turned_splices c.args.turned.now) c.splices.k _ c.args.text.now b.0 c.requires b.1 c.nth-at.ensures,
        stays_small (turned_splices c.args.turned.now) c.splices.k c.args.text.now b.0 c.requires b.1 (omega arith),
      ),
    )

pub returns-then-not-is_there : goal.returns-then-not-is_there
returns-then-not-is_there c =
    let b = some_of (all_done (take c.splices.k (turned_splices c.args.turned.now)) c.args.text.now) c.splices.invariant in
    let s = splice_of_parts c.nth-at.result.0 c.nth-at.result.1.now c.nth-at.result.2.now in
    let none = not_there s b.0 (λ same. both_ways c.is_there.result c.if-not-is_there.true ((c.is_there.ensures b.0 b.1).1 same)) in
    sym (ap is_some (not_all (turned_splices c.args.turned.now) c.splices.k s c.args.text.now b.0 c.nth-at.ensures b.1 none))

pub splices-preserved : goal.splices-preserved
splices-preserved c =
    let b = some_of (all_done (take c.splices.k (turned_splices c.args.turned.now)) c.args.text.now) c.splices.invariant in
    let s = splice_of_parts c.nth-at.result.0 c.nth-at.result.1.now c.nth-at.result.2.now in
    let within = lies_within (turned_splices c.args.turned.now) c.splices.k s c.args.text.now b.0 c.requires b.1 c.nth-at.ensures in
    let found = found_there s b.0 within ((c.is_there.ensures b.0 b.1).0 c.if-not-is_there.false) in
    ap is_some (done_next (turned_splices c.args.turned.now) c.splices.k s c.args.text.now c.nth-at.ensures ∙ ap (option_and_then (change_done s)) b.1 ∙ found.1)

pub returns : goal.returns
returns c = search (rules, take_all, length-turned)
