use Rattle.std.proofs.Common.{ℕ, List, ◌++◌, append-nil, ap, ◌∙◌}
use Rattle.yq_batch.proofs.removals.untouched.Goals as goal

pub returns-clause-text : goal.returns-clause-text
returns-clause-text c = (λ i. c.of.ensures.front i ++ c.of.ensures.back i)
    ∙ (append-nil _ ∙ (c.in_ok-push_str-2.ensures.bytes
    ∙ ap (λ (x : List ℕ). x ++ c.args.text.back.now)
    (c.in_ok-push_str.ensures.bytes ∙ ap (λ (x : List ℕ). x ++ c.args.text.front.now) c.in_ok-copy.ensures.bytes)))
