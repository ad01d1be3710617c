use Rattle.std.{proofs.Common.{ℕ, List, ◌++◌, append_assoc, ap, ◌∙◌}, specs.String.string_bytes}
use Rattle.yq_batch.proofs.run.PutRun.end.Goals as goal

pub returns-clause-text : goal.returns-clause-text
returns-clause-text c =
    let left = c.split_at.result.1 in
    c.in_ok-push_str-2.ensures.bytes
    ∙ (ap (λ (x : List ℕ). x ++ left.back.now) c.in_ok-push_str.ensures.bytes
    ∙ (append_assoc (string_bytes c.args.self.text) left.front.now left.back.now ∙ ap (λ (x : List ℕ). string_bytes c.args.self.text ++ x) c.split_at.ensures.back))
