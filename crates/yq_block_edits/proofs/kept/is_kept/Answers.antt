use Rattle.std.proofs.Common.{Some, option_map, sym, ap, ◌∙◌}
use Rattle.yq_documents.{specs.Located.steps_of, specs.Reading.cut_of}
use Rattle.yq_places.specs.NodesAt.{node_in, scalar_in, scalar_view}
use Rattle.yq_edit_rules.{specs.Replacing.are_same, proofs.ScalarAnswers.{kept_agrees, no_scalar, not_kept}}
use Rattle.yq_core.specs.Values as values
use Rattle.yq_block_edits.proofs.kept.is_kept.Goals as goal

pub returns-then-not-holds_scalar : goal.returns-then-not-holds_scalar
returns-then-not-holds_scalar c =
    no_scalar (node_in c.args.path.now.doc (steps_of c.args.path.now) (cut_of c.args.text.now)) (values.value_node c.args.value.now) (sym c.holds_scalar.ensures ∙ c.if-not-holds_scalar.true)

pub returns-in_default : goal.returns-in_default
returns-in_default c =
    not_kept (node_in c.args.path.now.doc (steps_of c.args.path.now) (cut_of c.args.text.now)) (values.value_node c.args.value.now) (sym (ap (option_map scalar_view) c.in_default.is) ∙ c.in_ok-found.ensures)

pub returns : goal.returns
returns c =
    kept_agrees (node_in c.args.path.now.doc (steps_of c.args.path.now) (cut_of c.args.text.now)) (values.value_node c.args.value.now) _ c.is_scalar.result (sym (ap (option_map scalar_view) c.in-Some.is) ∙ c.in_ok-found.ensures)
    (c.is_scalar.ensures ∙ ap (λ t. are_same (Some (record { kind = c.in-Some.kind; text = t })) (scalar_in (values.value_node c.args.value.now))) c.text.ensures)
