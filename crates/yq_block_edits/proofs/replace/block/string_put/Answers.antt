use Rattle.std.proofs.Common.{IfOk, ◌≡◌, cond, sym, ◌∙◌, ap, subst}
use Rattle.yq_core.{specs.BlockWritten.break_text, specs.Written.double}
use Rattle.yq_places.specs.PlacementViews.{held_view}
use Rattle.yq_edit_rules.{specs.ReplaceEdits.{held_put, literal_put}, specs.WrittenValues.inline}
use Rattle.yq_block_edits.proofs.replace.block.string_put.Goals as goal

pub returns : goal.returns
returns c =
    let br = break_text c.args.layout.now.br in
    let h = held_view c.args.held.now in
    let s = c.args.scalar.now in
    let no = sym c.can_write.ensures ∙ c.if-can_write.false in
    let same = ap (λ t. held_put br h (inline t)) c.in_ok-text.ensures ∙ sym (ap (λ b. cond b (literal_put br h c.args.indent s.text) (held_put br h (inline (double s.text)))) no) in
    subst (λ x. IfOk c.put_inline.result (λ ss. ss ≡ x)) same (c.put_inline.ensures br)
