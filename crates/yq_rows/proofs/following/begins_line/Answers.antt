use Rattle.std.proofs.Common.{◌-◌, ◌++◌, ℕ, List, slice_index, refl, ap, ◌∙◌, arith}
use Rattle.yq_text.specs.TextGapBuffer.{buffer_text}
use Rattle.yq_rows.proofs.LineStarts.{begins_later}
use Rattle.yq_rows.proofs.following.begins_line.Goals as goal

pub returns : goal.returns
returns c =
    let whole = (λ i. c.halves.ensures.front i ++ c.halves.ensures.back i) ∙ refl in
    begins_later (buffer_text c.args.text.now) c.args.at c.byte_at.result (omega (arith, c.if-at-eq0.false)) (c.byte_at.ensures ∙ ap (λ (l : List ℕ). slice_index l (c.args.at - 1)) whole)
