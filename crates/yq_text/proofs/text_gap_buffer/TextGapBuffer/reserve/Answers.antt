use Rattle.yq_text.specs.TextGapBuffer.{IsKept}
use Rattle.std.proofs.Common.{List, subst, sym, ℕ}
use Rattle.yq_text.proofs.text_gap_buffer.TextGapBuffer.reserve.Goals as goal

pub invariant_of-self : goal.invariant_of-self
invariant_of-self c = subst (λ (l : List ℕ). IsKept l c.self.inside.front c.self.inside.back) (sym c.in_err-reserve.ensures.items) c.self.invariant
