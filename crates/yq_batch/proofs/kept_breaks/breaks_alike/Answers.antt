use Rattle.std.proofs.Common.{◌≡◌, ◌∙◌, ◌++◌, List, ℕ, sym, ap, subst, drop, take, length, arith}
use Rattle.yq_places.specs.FirstBreak.{first_break}
use Rattle.yq_batch.proofs.KeptBreakLaws.{alike_between}
use Rattle.yq_batch.proofs.kept_breaks.breaks_alike.Goals as goal

pub returns : goal.returns
returns c is =
    let same = c.as_bytes-front.ensures.value in
    let own : (more : List ℕ) → first_break (c.as_bytes-front.result.now ++ more) ≡ c.in-Some.own = c.in-Some.ensures in
    alike_between c.args.text.front.now c.args.text.back.now c.split_at-2.result.1.now c.args.start c.args.end c.in-Some.own c.in-Some-near_break.part
    (c.split_at-2.ensures.back ∙ ap (drop c.args.start) (c.split_at.ensures.front ∙ ap (take c.args.end) same))
    (omega (arith, c.if-end-front.false, ap length same)) (sym c.holds_byte.ensures ∙ c.if-not-holds_byte.false)
    (subst (λ (l : List ℕ). (more : List ℕ) → first_break (l ++ more) ≡ c.in-Some.own) same own) c.in-Some-near_break.ensures (c.is_same_break.ensures is)
