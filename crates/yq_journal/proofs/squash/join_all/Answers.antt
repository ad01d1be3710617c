use Rattle.std.{proofs.Common.{◌≡◌, ◌++◌, ◌∷◌, [], ◌<◌, ◌+◌, length, take, ap, ◌∙◌, arith, rules}, proofs.lemmas.List.{take_all, take_more}}
use Rattle.std.proofs.lemmas.Option.{slice_get_read}
use Rattle.yq_journal.{specs.Record.records_joined, proofs.JoinLaws.{joined-push, joined_meets}}
use Rattle.yq_journal.proofs.squash.join_all.Goals as goal

pub rest-preserved : goal.rest-preserved
rest-preserved c =
    let within : c.rest.next-index < length c.args.rest.now = omega arith in
    let more : take (c.rest.next-index + 1) c.args.rest.now ≡ take c.rest.next-index c.args.rest.now ++ c.next-item.result ∷ [] = search (rules, take_more) in
    search (rules, joined-push, joined_meets, slice_get_read, c.in_ok-join.ensures.valid)

pub returns : goal.returns
returns c = c.parts-2.view_is ∙ (c.rest.invariant.same ∙ ap (records_joined c.args.first.now) (take_all c.rest.next-index c.args.rest.now c.rest-test.false))
