use Rattle.std.proofs.Common.{ℕ, List, IfOk, ◌≡◌, sym, ap, ◌∙◌, subst}
use Rattle.yq_core.{specs.declared.style.Place.TheVariants.Block as InBlock, specs.Values.value_node, specs.BlockWritten.break_text}
use Rattle.yq_places.specs.PlacementViews.{held_view, held_mark_view}
use Rattle.yq_edit_rules.{specs.ReplaceEdits.held_put, specs.WrittenValues.{inline, value_text}}
use Rattle.yq_block_edits.proofs.PlacedValueLaws.{unfilled_at}
use Rattle.yq_block_edits.proofs.replace.held.text_put.Goals as goal

pub returns : goal.returns
returns c = λ l.
    let h = c.args.held.now in
    let v = value_node c.args.value.now in
    let text = c.in_ok-text.ensures ∙ ap (λ (l : List ℕ). value_text InBlock l v) c.as_bytes.ensures.value in
    subst (λ w. IfOk c.put_inline.result (λ ss. ss ≡ held_put (break_text l.br) (held_view h) w)) (ap inline text ∙ sym (unfilled_at l (held_mark_view h.mark) v c.requires h.head.now)) (c.put_inline.ensures (break_text l.br))
