use Rattle.std.{proofs.Common.{Option, List, map, option_map, sym, ap, ◌∙◌, subst}, specs.Option.option_or, specs.Prelude.IfSome}
use Rattle.yq_core.{specs.Entries.tree_step, specs.Paths.Step}
use Rattle.yq_documents.{specs.Located.steps_of, specs.Reading.cut_of}
use Rattle.yq_places.{specs.NodesAt.node_view, specs.Placements.last_step}
use Rattle.yq_lookup.specs.RowFronts.{IsFoundNode}
use Rattle.yq_edit_rules.specs.Edits.{rows_or_sole}
use Rattle.yq_operation.proofs.RemovingLaws.{no_step, none_above}
use Rattle.yq_operation.proofs.exchanged.removed.Goals as goal

pub returns-in_default : goal.returns-in_default
returns-in_default c = no_step c.args.path.now.doc (steps_of c.args.path.now) (cut_of c.args.cut.now) (c.in_default.ensures ∙ ap (λ ss. last_step (map tree_step ss)) c.deref.ensures.value)

pub remove_or_read-requires : goal.remove_or_read-requires
remove_or_read-requires c =
    let last = c.in-Some.ensures ∙ ap (λ ss. last_step (map tree_step ss)) c.deref.ensures.value in
    subst (λ (o : Option (List Step × Step)). IfSome o (λ x. IsFoundNode c.args.cut.now c.args.path.now.doc x.0 c.in_ok-found.found)) last c.in_ok-found.ensures

pub returns-in-None : goal.returns-in-None
returns-in-None c =
    let last = c.in-Some.ensures ∙ ap (λ ss. last_step (map tree_step ss)) c.deref.ensures.value in
    let known = c.in_ok-inside.ensures.above c.in_default-inside.is in
    ap (λ o. option_or o (rows_or_sole c.args.path.now.doc (steps_of c.args.path.now) (cut_of c.args.cut.now))) (c.in_ok-inside.ensures.removed ∙ c.in_default-inside.is)
    ∙ none_above c.args.path.now.doc (steps_of c.args.path.now) (cut_of c.args.cut.now) _ last (sym (ap (option_map node_view) c.in-None.is) ∙ (known ∙ c.in_ok-found.ensures.node))
