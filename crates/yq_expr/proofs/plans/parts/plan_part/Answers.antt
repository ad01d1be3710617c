use Rattle.std.proofs.Common.{rules, ◌≡◌, ◌∙◌, List, ℕ, [], ◌∷◌, map, slice_get, Some, IfOk, ap, sym, subst}
use Rattle.std.{proofs.lemmas.Option.get_or_from_slice_get, proofs.Math.ListN.{get_or, get_or-map}}
use Rattle.yq_semantics.{specs.Program.{UpdatesHold, updates, update_at}, specs.View.{program_of, update_of}}
use Rattle.yq_semantics.proofs.updates.PlanAnswers.{literals_hold}
use Rattle.yq_expr.specs.Oversized.{ReportsOversized}
use Rattle.yq_expr.proofs.plans.parts.plan_part.Goals as goal

pub returns-in-Updates-clause-large : goal.returns-in-Updates-clause-large
returns-in-Updates-clause-large c = λ u e.
    let t : List ℕ = c.args.documents.now in
    let holds : UpdatesHold (u ∷ []) = literals_hold (program_of c.args.program.now) c.args.nth u c.literals_hold.ensures e in
    let us = c.in-Updates.updates.items in
    let named : program_of c.args.program.now ≡ updates (map update_of us) = search (rules) in
    let at : slice_get (map update_of us) c.args.nth ≡ Some u = sym (ap (update_at c.args.nth) named) ∙ e in
    let read : c.index.result.now ≡ get_or us c.args.nth c.index.result.now = c.index.ensures in
    let same : update_of c.index.result.now ≡ u =
    ap update_of read ∙ sym (get_or-map update_of us c.args.nth c.index.result.now) ∙ get_or_from_slice_get (map update_of us) c.args.nth u (update_of c.index.result.now) at in
    subst (λ v. UpdatesHold (v ∷ []) → IfOk c.part_of.result (ReportsOversized v t)) same c.part_of.ensures.large holds
