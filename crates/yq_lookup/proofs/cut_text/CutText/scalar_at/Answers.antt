use Rattle.std.proofs.Common.{map, option_and_then, option_map, sym, ap, ◌∙◌}
use Rattle.yq_core.{specs.Entries.tree_step, specs.Answers.◌>>=◌}
use Rattle.yq_documents.specs.Reading.{cut_of}
use Rattle.yq_places.{specs.NodesAt.{node_in, node_view, scalar_in, summary_scalar}, proofs.NodeAtLaws.scalar_agrees}
use Rattle.yq_lookup.proofs.cut_text.CutText.scalar_at.Goals as goal

pub returns-in-Some : goal.returns-in-Some
returns-in-Some c =
    let doc = c.args.path.now.doc in
    let cut = cut_of c.args.self.now in
    c.scalar.ensures
    ∙ (ap (λ o. o >>= summary_scalar) (sym (ap (option_map node_view) c.in-Some.is) ∙ c.in_ok-node.ensures)
    ∙ (scalar_agrees (node_in doc (map tree_step c.deref.result.now) cut) ∙ ap (λ xs. option_and_then scalar_in (node_in doc (map tree_step xs) cut)) c.deref.ensures.value))

pub returns-in-None : goal.returns-in-None
returns-in-None c =
    let doc = c.args.path.now.doc in
    let cut = cut_of c.args.self.now in
    ap (λ o. o >>= summary_scalar) (sym (ap (option_map node_view) c.in-None.is) ∙ c.in_ok-node.ensures)
    ∙ (scalar_agrees (node_in doc (map tree_step c.deref.result.now) cut) ∙ ap (λ xs. option_and_then scalar_in (node_in doc (map tree_step xs) cut)) c.deref.ensures.value)
