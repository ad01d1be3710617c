use Rattle.std.proofs.Common.{map, option_map, refl, sym, ap, ◌∙◌, arith}
use Rattle.yq_core.{specs.Entries.{entry_view, tree_step}, specs.View.inline_view}
use Rattle.yq_places.specs.FlowViews.{following_anchor}
use Rattle.yq_edit_laws.proofs.NearCollections.{ended, goes_on, no_own_along, none_along, own_along, part_unique, stops}
use Rattle.yq_edit_laws.proofs.near.collection_near.Goals as goal

pub steps-init : goal.steps-init
steps-init c = record { unique = c.requires; leads = refl }

pub part_at_depth-requires : goal.part_at_depth-requires
part_at_depth-requires c = c.steps.invariant.unique

pub returns-in_err-found : goal.returns-in_err-found
returns-in_err-found c =
    ap (option_map (λ n. following_anchor (inline_view n.now))) c.from_residual.ensures
    ∙ none_along (map tree_step c.args.steps.now) (inline_view c.args.node.now) (stops c.steps.rest.now c.step-item.result (entry_view c.steps.found) _ c.in-len1-up.len_at_least c.step-item.is c.in_err-found.ensures c.steps.invariant.leads)

pub steps-preserved : goal.steps-preserved
steps-preserved c = record {
  unique = part_unique (inline_view c.steps.found.node.now) (tree_step c.step-item.result) (entry_view c.in_ok-found.found) c.steps.invariant.unique c.in_ok-found.ensures;
  leads = goes_on c.steps.rest.now c.step-item.result (entry_view c.steps.found) (entry_view c.in_ok-found.found) _ c.in-len1-up.len_at_least c.step-item.is c.in_ok-found.ensures c.steps.invariant.leads;
}

pub returns-then-not-is_collection : goal.returns-then-not-is_collection
returns-then-not-is_collection c =
    no_own_along (map tree_step c.args.steps.now) (inline_view c.args.node.now) (entry_view c.steps.found) (ended c.steps.rest.now (entry_view c.steps.found) _ (omega (arith, c.in_default.len_below)) c.steps.invariant.leads)
    (sym c.is_collection.ensures ∙ c.if-not-is_collection.true)

pub returns : goal.returns
returns c =
    own_along (map tree_step c.args.steps.now) (inline_view c.args.node.now) (entry_view c.steps.found) (ended c.steps.rest.now (entry_view c.steps.found) _ (omega (arith, c.in_default.len_below)) c.steps.invariant.leads)
    (sym c.is_collection.ensures ∙ c.if-not-is_collection.false)
