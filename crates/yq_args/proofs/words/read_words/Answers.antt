use Rattle.std.proofs.Common.{◌∙◌, Bor, IfErr, List, ℕ, ap, map, subst}
use Rattle.yq_args.{specs.Asked.IsNotTaken, proofs.WordsFound.refused_by_checks}
use Rattle.yq_args.proofs.words.read_words.Goals as goal

pub returns-clause-err : goal.returns-clause-err
returns-clause-err c =
    let words = ap (map (λ w. w.now)) c.deref.ensures.value ∙ c.in_ok-full.ensures in
    refused_by_checks c.command_by.result (map {A = Bor (List ℕ)} (λ w. w.now) c.args.words.now)
    (subst (λ full. IfErr c.command_by.result (IsNotTaken full)) words c.command_by.ensures.err)
