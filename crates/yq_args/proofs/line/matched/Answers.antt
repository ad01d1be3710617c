use Rattle.std.{proofs.Common.{ap, map, ◌∙◌}, proofs.lemmas.Result.IfErr-weaker}
use Rattle.clap.specs.Words.{takes}
use Rattle.yq_args.proofs.ClapFaults.{matched_kinds, matched_rows, matched_taken}
use Rattle.yq_args.proofs.line.matched.Goals as goal

pub returns-clause-passes : goal.returns-clause-passes
returns-clause-passes c =
    IfErr-weaker c.try_get_matches_from.result _ _ (λ e h t. h (ap (λ a. takes a (map (λ w. w.now) c.args.words.now)) c.in_ok-line.ensures.app ∙ t)) c.try_get_matches_from.ensures.passes

pub returns-clause-taken : goal.returns-clause-taken
returns-clause-taken c = matched_taken c.try_get_matches_from.result _ (map (λ w. w.now) c.args.words.now) c.in_ok-line.ensures.app c.try_get_matches_from.ensures.kinds

pub returns-clause-kinds : goal.returns-clause-kinds
returns-clause-kinds c = matched_kinds c.try_get_matches_from.result _ (map (λ w. w.now) c.args.words.now) c.in_ok-line.ensures.app c.try_get_matches_from.ensures.kinds

pub returns-clause-ok : goal.returns-clause-ok
returns-clause-ok c = matched_rows c.try_get_matches_from.result _ (map (λ w. w.now) c.args.words.now) c.in_ok-line.ensures.app c.try_get_matches_from.ensures.matches
