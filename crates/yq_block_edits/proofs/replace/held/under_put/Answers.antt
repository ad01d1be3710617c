use Rattle.std.proofs.Common.{IfOk, ◌≡◌, sym, ap, ◌∙◌, subst}
use Rattle.yq_core.{specs.Values.value_node, specs.BlockWritten.break_text}
use Rattle.yq_places.specs.PlacementViews.{held_view, held_mark_view}
use Rattle.yq_edit_rules.{specs.ReplaceEdits.held_put, specs.WrittenValues.inline}
use Rattle.yq_block_edits.proofs.PlacedValueLaws.{unfilled_below}
use Rattle.yq_block_edits.proofs.replace.held.under_put.Goals as goal

pub returns : goal.returns
returns c =
    let l = c.args.layout.now in
    let h = c.args.held.now in
    let none = sym c.is_filled.ensures ∙ c.if-is_filled.false in
    subst (λ w. IfOk c.put_inline.result (λ ss. ss ≡ held_put (break_text l.br) (held_view h) w))
    (ap inline c.in_ok-text.ensures ∙ sym (unfilled_below l (held_mark_view h.mark) (value_node c.args.value.now) none))
    (c.put_inline.ensures (break_text l.br))
