use Rattle.std.proofs.Common.{◌∙◌, ◌-◌, ℕ, ap, subst}
use Rattle.yq_rows.{specs.Sides.{IsSideAfter, IsSplitAt, marked_end}, proofs.FollowLaws.changes, proofs.PassedLaws.stays}
use Rattle.yq_rows.proofs.touched.find_touched.Goals as goal

pub returns : goal.returns
returns c t new long begins h =
    let p = c.args.places.now in
    let before = c.side_before-before.result in
    let front = c.past_end-front.result in
    let old = c.side_after-old.result in
    let split = subst (λ (n : ℕ). IsSplitAt c.args.kept.front n p) long c.requires.split in
    let past = c.past_end-front.ensures in
    let marked = c.marked_end.ensures ∙ ap (λ (n : ℕ). marked_end p.ends front old (n - c.args.kept.back)) long in
    changes t new c.args.kept p _ h split (stays t new c.args.kept p h split c.args.begins begins before c.side_before-before.ensures front past)
    (subst (λ (n : ℕ). IsSideAfter p n c.args.kept.back old) long c.side_after-old.ensures) marked c.has_more.ensures
