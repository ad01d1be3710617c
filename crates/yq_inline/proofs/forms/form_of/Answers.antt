use Rattle.std.{proofs.Common.{true, sym, ap, ◌∙◌}, proofs.lemmas.Option.same_Some}
use Rattle.yq_core.specs.Scalars.{begins_scalar as begins}
use Rattle.yq_inline.{specs.BorrowedForms.{borrows_front, front_node}, proofs.NodeForms.{nothing_front, scalar_front}}
use Rattle.yq_inline.proofs.forms.form_of.Goals as goal

pub returns-then-not-begins_scalar-clause-node : goal.returns-then-not-begins_scalar-clause-node
returns-then-not-begins_scalar-clause-node c =
    let n = c.args.node in
    sym (nothing_front n.total n.depth n.text.now n.borrowed c.in_default.ensures c.in_default-strip.ensures (ap (begins true) (sym c.as_bytes.ensures.value) ∙ (sym c.begins_scalar.ensures ∙ c.if-not-begins_scalar.true))).0

pub returns-then-not-begins_scalar-clause-parts : goal.returns-then-not-begins_scalar-clause-parts
returns-then-not-begins_scalar-clause-parts c =
    let n = c.args.node in
    sym (nothing_front n.total n.depth n.text.now n.borrowed c.in_default.ensures c.in_default-strip.ensures (ap (begins true) (sym c.as_bytes.ensures.value) ∙ (sym c.begins_scalar.ensures ∙ c.if-not-begins_scalar.true))).1

pub leading_scalar-kind-requires : goal.leading_scalar-kind-requires
leading_scalar-kind-requires c =
    let n = c.args.node in
    let x = scalar_front n.total n.depth n.text.now n.borrowed c.in_default.ensures c.in_default-strip.ensures (ap (begins true) (sym c.as_bytes.ensures.value) ∙ (sym c.begins_scalar.ensures ∙ c.if-not-begins_scalar.false)) in
    ap borrows_front x.read ∙ x.borrows

pub returns-clause-node : goal.returns-clause-node
returns-clause-node c =
    let n = c.args.node in
    let x = scalar_front n.total n.depth n.text.now n.borrowed c.in_default.ensures c.in_default-strip.ensures (ap (begins true) (sym c.as_bytes.ensures.value) ∙ (sym c.begins_scalar.ensures ∙ c.if-not-begins_scalar.false)) in
    same_Some _ _ (sym c.leading_scalar-kind.ensures ∙ ap front_node x.read) ∙ sym x.tree

pub returns-clause-parts : goal.returns-clause-parts
returns-clause-parts c =
    let n = c.args.node in
    sym (scalar_front n.total n.depth n.text.now n.borrowed c.in_default.ensures c.in_default-strip.ensures (ap (begins true) (sym c.as_bytes.ensures.value) ∙ (sym c.begins_scalar.ensures ∙ c.if-not-begins_scalar.false))).parts
