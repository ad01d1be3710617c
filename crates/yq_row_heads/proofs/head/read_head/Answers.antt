use Rattle.std.{proofs.Common.{◌≡◌, Option, Some, w64, subst, sym, ap, ◌∙◌}, proofs.lemmas.Int.to_z-of_z, specs.Prelude.IfOk}
use Rattle.yq_core.{specs.Tree.Node, specs.Places.Placed, specs.Answers.Gives, specs.Scalars.is_quoted}
use Rattle.yq_outline.specs.View.{head_flow, head_view}
use Rattle.yq_documents.specs.RowReading.{is_block_head}
use Rattle.yq_row_heads.proofs.HeadCases.{same_empty, block_head, block_flow, quoted_head, quoted_flow, plain_head, plain_flow, node_head}
use Rattle.yq_row_heads.proofs.HeadCases.{node_flow}
use Rattle.yq_row_heads.proofs.head.read_head.Goals as goal

pub returns-then-is_block_head-clause-view : goal.returns-then-is_block_head-clause-view
returns-then-is_block_head-clause-view c =
    subst (λ (x : Option (Option Node)). Gives head_view c.read_block_head.result x)
    (sym (block_head c.args.whole.now c.args.parent c.args.head.now c.args.text.now (sym (c.if-is_empty.ensures ∙ same_empty c.args.head.now))
    (sym (c.if-is_block_head.ensures ∙ ap is_block_head c.as_bytes.ensures.value))))
    (rw (to_z-of_z w64 c.args.parent c.ranges.parent) at c.read_block_head.ensures.view)

pub returns-then-is_block_head-clause-flow : goal.returns-then-is_block_head-clause-flow
returns-then-is_block_head-clause-flow c =
    subst (λ (x : Option Placed). IfOk c.read_block_head.result (λ h. head_flow h ≡ x))
    (sym (block_flow c.args.whole.now c.args.parent c.args.head.now c.args.text.now (sym (c.if-is_empty.ensures ∙ same_empty c.args.head.now))
    (sym (c.if-is_block_head.ensures ∙ ap is_block_head c.as_bytes.ensures.value)))) c.read_block_head.ensures.flow

pub returns-then-is_quoted-clause-view : goal.returns-then-is_quoted-clause-view
returns-then-is_quoted-clause-view c =
    quoted_head c.args.whole.now c.args.parent c.args.head.now c.args.text.now (sym (c.if-is_empty.ensures ∙ same_empty c.args.head.now))
    (sym (c.if-is_block_head.ensures ∙ ap is_block_head c.as_bytes.ensures.value))
    (sym (c.if-is_quoted.ensures ∙ ap is_quoted c.as_bytes-2.ensures.value)) ∙ ap Some (sym c.in_ok-quoted_head.ensures.view)

pub returns-then-is_quoted-clause-flow : goal.returns-then-is_quoted-clause-flow
returns-then-is_quoted-clause-flow c =
    c.in_ok-quoted_head.ensures.flow
    ∙ sym (quoted_flow c.args.whole.now c.args.parent c.args.head.now c.args.text.now (sym (c.if-is_empty.ensures ∙ same_empty c.args.head.now))
    (sym (c.if-is_block_head.ensures ∙ ap is_block_head c.as_bytes.ensures.value))
    (sym (c.if-is_quoted.ensures ∙ ap is_quoted c.as_bytes-2.ensures.value)))

pub returns-then-is_short_plain-clause-view : goal.returns-then-is_short_plain-clause-view
returns-then-is_short_plain-clause-view c =
    plain_head c.args.whole.now c.args.parent c.args.head.now c.args.text.now (sym (c.if-is_empty.ensures ∙ same_empty c.args.head.now))
    (sym (c.if-is_block_head.ensures ∙ ap is_block_head c.as_bytes.ensures.value))
    (sym (c.if-is_quoted.ensures ∙ ap is_quoted c.as_bytes-2.ensures.value)) (sym c.if-is_short_plain.ensures)
    ∙ ap Some (sym c.plain_head.ensures.view)

pub returns-then-is_short_plain-clause-flow : goal.returns-then-is_short_plain-clause-flow
returns-then-is_short_plain-clause-flow c =
    c.plain_head.ensures.flow
    ∙ sym (plain_flow c.args.whole.now c.args.parent c.args.head.now c.args.text.now (sym (c.if-is_empty.ensures ∙ same_empty c.args.head.now))
    (sym (c.if-is_block_head.ensures ∙ ap is_block_head c.as_bytes.ensures.value))
    (sym (c.if-is_quoted.ensures ∙ ap is_quoted c.as_bytes-2.ensures.value)) (sym c.if-is_short_plain.ensures))

pub returns-clause-view : goal.returns-clause-view
returns-clause-view c =
    subst (λ (x : Option (Option Node)). Gives head_view c.read_node_head.result x)
    (sym (node_head c.args.whole.now c.args.parent c.args.head.now c.args.text.now (sym (c.if-is_empty.ensures ∙ same_empty c.args.head.now))
    (sym (c.if-is_block_head.ensures ∙ ap is_block_head c.as_bytes.ensures.value))
    (sym (c.if-is_quoted.ensures ∙ ap is_quoted c.as_bytes-2.ensures.value)) (sym c.if-is_short_plain.ensures)))
    (rw (to_z-of_z w64 c.args.parent c.ranges.parent) at c.read_node_head.ensures.view)

pub returns-clause-flow : goal.returns-clause-flow
returns-clause-flow c =
    subst (λ (x : Option Placed). IfOk c.read_node_head.result (λ h. head_flow h ≡ x))
    (sym (node_flow c.args.whole.now c.args.parent c.args.head.now c.args.text.now (sym (c.if-is_empty.ensures ∙ same_empty c.args.head.now))
    (sym (c.if-is_block_head.ensures ∙ ap is_block_head c.as_bytes.ensures.value))
    (sym (c.if-is_quoted.ensures ∙ ap is_quoted c.as_bytes-2.ensures.value)) (sym c.if-is_short_plain.ensures)))
    (rw (to_z-of_z w64 c.args.parent c.ranges.parent) at c.read_node_head.ensures.flow)
