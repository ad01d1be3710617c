use Rattle.std.{proofs.Common.{Err, ap, ◌∙◌, rules}, proofs.lemmas.Result.err_from_is_err_and}
use Rattle.yq_history.{specs.Effects.listing_effect, specs.Report.Report, proofs.PrintLaws.listed_output}
use Rattle.yq_history.{proofs.EffectLaws.{not_opened, from_opened, listing_cut}, proofs.CallLaws.{opened_calls, unopened_calls}}
use Rattle.yq_history.proofs.ListedLaws.{output_as}
use Rattle.yq_history.proofs.printing.listing.Goals as goal

pub returns-clause-output : goal.returns-clause-output
returns-clause-output g c = search (rules, output_as, listed_output, c.in_ok-text.ensures.opens)

pub returns-clause-lines : goal.returns-clause-lines
returns-clause-lines g c = search (rules, output_as, c.in_ok-text.ensures.found)

pub returns-in_err-text-clause-effect : goal.returns-in_err-text-clause-effect
returns-in_err-text-clause-effect g c =
    search (rules, err_from_is_err_and, not_opened, g.D.Store.content, c.in_err-text.ensures.leaves.same, c.in_err-text.ensures.missed)

pub returns-in_err-report-clause-effect : goal.returns-in_err-report-clause-effect
returns-in_err-report-clause-effect g c =
    search (rules, err_from_is_err_and, from_opened, listing_cut, g.D.Store.content, c.in_ok-text.ensures.leaves.same, c.in_ok-text.ensures.found)

pub returns-clause-effect : goal.returns-clause-effect
returns-clause-effect g c = search (rules, from_opened, g.D.Store.content, c.in_ok-text.ensures.leaves.same, c.in_ok-text.ensures.found)

-- what is shown is there, as it was before
pub returns-clause-matched : goal.returns-clause-matched
returns-clause-matched g c = ap (λ (s : Report). s.is_match) c.requires.empty

pub returns-in_err-text-clause-matched : goal.returns-in_err-text-clause-matched
returns-in_err-text-clause-matched g c = ap (λ (s : Report). s.is_match) c.requires.empty

pub returns-in_err-report-clause-matched : goal.returns-in_err-report-clause-matched
returns-in_err-report-clause-matched g c = ap (λ (s : Report). s.is_match) c.requires.empty

pub returns-in_err-text-clause-calls : goal.returns-in_err-text-clause-calls
returns-in_err-text-clause-calls g c =
    let p = err_from_is_err_and c.from_residual.result c.from_residual.ensures.1 in
    unopened_calls g.D.Store.leads c.from_residual.result c.args.pair.now.file.now c.args.pair.now.journal.now (listing_effect c.args.diffs) _ (p.1 ∙ ap Err p.2) c.args.store.now c.open_pair.new.store c.in_err-text.ensures.calls

pub returns-in_err-report-clause-calls : goal.returns-in_err-report-clause-calls
returns-in_err-report-clause-calls g c = search (rules, opened_calls)

pub returns-clause-calls : goal.returns-clause-calls
returns-clause-calls g c = search (rules, opened_calls)
