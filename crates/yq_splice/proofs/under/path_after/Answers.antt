use Rattle.std.proofs.Common.{◌≡◌, ◌++◌, ◌∙◌, List, ap, map, take}
use Rattle.yq_core.{specs.Entries.tree_step, specs.declared.path.Step.Step}
use Rattle.yq_semantics.proofs.UnderLaws.{steps_after}
use Rattle.yq_splice.proofs.UnderLaws.{front_kept}
use Rattle.yq_splice.proofs.under.path_after.Goals as goal

pub returns-clause-is : goal.returns-clause-is
returns-clause-is c =
    let all : c.append.new.self.items ≡ take c.args.depth c.args.way.items ++ c.args.path.steps.items =
    c.in_ok-append.ensures.items ∙ ap (λ (xs : List Step). xs ++ c.args.path.steps.items) c.truncate.ensures.items
    in
    ap (map tree_step) all ∙ steps_after (take c.args.depth c.args.way.items) c.args.path.steps.items

pub returns-clause-front : goal.returns-clause-front
returns-clause-front c =
    let all : c.append.new.self.items ≡ take c.args.depth c.args.way.items ++ c.args.path.steps.items =
    c.in_ok-append.ensures.items ∙ ap (λ (xs : List Step). xs ++ c.args.path.steps.items) c.truncate.ensures.items
    in
    ap (take c.args.depth) all ∙ front_kept c.args.depth c.args.way.items c.args.path.steps.items c.requires
