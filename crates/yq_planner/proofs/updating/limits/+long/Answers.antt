use Rattle.std.{proofs.Common.{◌≡◌, Bool, IfOk, sym, ap, ◌∙◌, subst}, proofs.lemmas.Result.IfOk-weaker}
use Rattle.yq_core.{specs.Values.value_node, specs.declared.value.Value.Value}
use Rattle.yq_flow_edits.{specs.Valued.IsValueTree, proofs.ValuedLaws.map_valid}
use Rattle.yq_semantics.{specs.Changes.has_long_key, proofs.ValueMaps.node_of-map}
use Rattle.yq_planner.proofs.updating.limits.+long.Goals as goal

pub holds_long_key-returns-in-Map-clause-long : goal.holds_long_key-returns-in-Map-clause-long
holds_long_key-returns-in-Map-clause-long t c =
    subst (λ (x : Bool). IfOk c.some_has_long_key.result (λ b. b ≡ x)) (sym (ap has_long_key (ap value_node c.in-Map.is ∙ node_of-map c.in-Map.entries))) c.some_has_long_key.ensures.long

pub holds_long_key-returns-in-Map-clause-valid : goal.holds_long_key-returns-in-Map-clause-valid
holds_long_key-returns-in-Map-clause-valid t c =
    IfOk-weaker c.some_has_long_key.result _ _ (λ b h short. subst (λ (v : Value). IsValueTree (value_node v)) (sym c.in-Map.is) (map_valid c.in-Map.entries (h short))) c.some_has_long_key.ensures.valid
