use Rattle.std.proofs.Common.{◌-◌, ℕ, ap, ◌∙◌}
use Rattle.yq_text.specs.Halves.{whole}
use Rattle.yq_rows.proofs.WriteLaws.{three_fit, two_fit}
use Rattle.yq_rows.proofs.session_reading.region.Goals as goal

pub overflow_add-len-2 : goal.overflow_add-len-2
overflow_add-len-2 c =
    three_fit (whole c.args.text) c.args.new.now (whole c.between-front.result) (whole c.between-back.result) c.args.touched c.args.kept c.saturating_sub.result
    c.between-front.ensures (c.saturating_sub.ensures ∙ ap (λ (n : ℕ). n - c.args.kept.back) c.len.ensures) c.between-back.ensures
    c.requires.small c.len-2.result c.len-3.result c.len-2.ensures c.len-3.ensures

pub overflow_add-len : goal.overflow_add-len
overflow_add-len c =
    two_fit (whole c.args.text) c.args.new.now (whole c.between-front.result) (whole c.between-back.result) c.args.touched c.args.kept c.saturating_sub.result
    c.between-front.ensures (c.saturating_sub.ensures ∙ ap (λ (n : ℕ). n - c.args.kept.back) c.len.ensures) c.between-back.ensures
    c.requires.small c.len-2.result c.len-2.ensures
