use Rattle.std.proofs.Common.{ℕ, List, rules}
use Rattle.yq_documents.specs.Reading.{documents_of}
use Rattle.yq_semantics.{specs.Operations.operations_of, specs.Rooms.room_of, specs.View.program_of, proofs.RoomLaws.rooms_are_ready}
use Rattle.yq_semantics.proofs.updates.PlanAnswers.{answer_means, answer_fits, answer_refused, answer_refuses, literals_hold}
use Rattle.yq_expr.proofs.plans.planning.plan.Goals as goal

pub returns-clause-meaning : goal.returns-clause-meaning
returns-clause-meaning c = search (rules, answer_means, rooms_are_ready, c.planned.ensures.exact, c.are_ready.ensures)

pub returns-clause-fits : goal.returns-clause-fits
returns-clause-fits c =
    let t : List ℕ = c.args.documents.now in
    λ u e. answer_fits (λ v. operations_of v.items) u (room_of t) (documents_of t) c.planned.result (rooms_are_ready t c.are_ready.ensures)
    (literals_hold (program_of c.args.program.now) c.args.nth u c.literals_hold.ensures e) (c.planned.ensures.exact u e)

pub returns-clause-refused : goal.returns-clause-refused
returns-clause-refused c = search (rules, answer_refused, c.planned.ensures.exact)

pub returns-clause-refuses : goal.returns-clause-refuses
returns-clause-refuses c =
    let t : List ℕ = c.args.documents.now in
    λ u why e h. answer_refuses (λ v. operations_of v.items) u (room_of t) (documents_of t) c.planned.result why (c.planned.ensures.exact u e) h
