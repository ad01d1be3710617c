use Rattle.std.proofs.Common.{◌≡◌, ◌∙◌, ℕ, ap, arith, sym}
use Rattle.yq_rows.{specs.Sides.ends_before, proofs.SideLaws.{ends_found, no_ends_before}}
use Rattle.yq_rows.proofs.sides.ends_before.Goals as goal

pub returns-then-at-eq0-clause-count : goal.returns-then-at-eq0-clause-count
returns-then-at-eq0-clause-count c rise =
    let none : c.args.at ≡ 0 = omega (arith, c.if-at-eq0.true) in
    sym (ap (λ (n : ℕ). ends_before n c.args.ends.now) none ∙ no_ends_before c.args.ends.now)

pub returns-clause-count : goal.returns-clause-count
returns-clause-count c rise = ends_found c.args.at c.args.ends.now c.count_to.result (omega arith) c.count_to.ensures.within (c.count_to.ensures.count rise)
