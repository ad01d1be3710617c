use Rattle.std.{specs.Prelude.Vec, specs.declared.alloc.Global.Global}
use Rattle.yq_documents.specs.Reading.{documents_of}
use Rattle.yq_eval.{specs.MatchView.matches_of, specs.declared.matched.Match.Match}
use Rattle.yq_semantics.proofs.MatchTrees.{answer_matches}
use Rattle.yq_eval.proofs.matched.matches.Goals as goal

pub returns-clause-trees : goal.returns-clause-trees
returns-clause-trees c =
    answer_matches (λ (v : Vec Match Global). matches_of v.items) c.pipe_matches.result _ (documents_of c.args.documents.now)
    (λ i d is. let k = c.are_ready.ensures i d is in record { tree = k.tree; nested = k.nested }) c.pipe_matches.ensures
