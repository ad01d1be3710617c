use Rattle.std.proofs.Common.{◌∙◌, ◌++◌, ℕ, List, ap, subst, append_assoc, string_bytes}
use Rattle.yq_text.specs.Halves.{whole}
use Rattle.yq_batch.{specs.Slots.slots_of, specs.OpenRuns.HasWritten, proofs.SlotWrites.all_written}
use Rattle.yq_batch.proofs.any_order.ended.Goals as goal

pub returns-clause-text : goal.returns-clause-text
returns-clause-text c =
    let w = subst (λ (l : List ℕ). HasWritten (whole c.args.text) (slots_of c.args.run.slots) l 0 (string_bytes c.write.new.out) c.write.new.done) c.in_ok-new.ensures.bytes c.in_ok-write.ensures in
    let rest = c.split_at.result.1 in
    c.in_ok-push_str-2.ensures.bytes
    ∙ (ap (λ (l : List ℕ). l ++ rest.back.now) c.in_ok-push_str.ensures.bytes
    ∙ (append_assoc (string_bytes c.write.new.out) rest.front.now rest.back.now
    ∙ (ap (λ (l : List ℕ). string_bytes c.write.new.out ++ l) c.split_at.ensures.back ∙ all_written (whole c.args.text) (string_bytes c.write.new.out) c.write.new.done (slots_of c.args.run.slots) w)))
