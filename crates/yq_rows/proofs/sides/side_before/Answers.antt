use Rattle.std.proofs.Common.{◌-◌, ℕ, ap, ◌∙◌, arith}
use Rattle.yq_rows.proofs.SideLaws.{NoEndAfter, before_end, before_none, before_row, ends_counted_at, own_end}
use Rattle.yq_rows.proofs.sides.side_before.Goals.{then-ends-gt0+else-end-rows, else-ends-gt0}
use Rattle.yq_rows.proofs.sides.side_before.Goals as goal

pub returns-then-end-rows : goal.returns-then-end-rows
returns-then-end-rows c xs placed gap within =
    let p = c.args.places.now in
    let count = ends_counted_at p xs c.ends_before-ends.result c.args.at c.ends_before-ends.ensures.count placed in
    ap (λ (n : ℕ). record { rows = c.len-rows.result; ends = c.ends_before-ends.result - 1; bytes = n }) c.start.ensures
    ∙ before_end p xs c.args.at c.at-end.result c.len-rows.result c.ends_before-ends.result placed gap within (omega arith) count (omega arith) (own_end p c.at-end.result _ c.at-end.ensures) (omega arith)

pub returns-then-rows-eq0 : goal.returns-then-rows-eq0
returns-then-rows-eq0 c xs placed gap within =
    let p = c.args.places.now in
    let count = ends_counted_at p xs c.ends_before-ends.result c.args.at c.ends_before-ends.ensures.count placed in
    let none : NoEndAfter c.len-rows.result p.ends c.ends_before-ends.result =
    λ some. elim c.if-ends-gt0.branch [
      | then-ends-gt0+else-end-rows w ↦ (w.at-end.result, own_end p w.at-end.result _ w.at-end.ensures, omega arith)
      | else-ends-gt0 w ↦
          absurd (omega arith)
    ] in
    before_none p xs c.args.at c.len-rows.result c.ends_before-ends.result placed gap within (omega arith) count (omega arith) none

pub returns : goal.returns
returns c xs placed gap within =
    let p = c.args.places.now in
    let count = ends_counted_at p xs c.ends_before-ends.result c.args.at c.ends_before-ends.ensures.count placed in
    let none : NoEndAfter c.len-rows.result p.ends c.ends_before-ends.result =
    λ some. elim c.if-ends-gt0.branch [
      | then-ends-gt0+else-end-rows w ↦ (w.at-end.result, own_end p w.at-end.result _ w.at-end.ensures, omega arith)
      | else-ends-gt0 w ↦
          absurd (omega arith)
    ] in
    ap (λ (n : ℕ). record { rows = c.len-rows.result - 1; ends = c.ends_before-ends.result; bytes = n }) c.start-2.ensures
    ∙ before_row p xs c.args.at c.index.result.now c.len-rows.result c.ends_before-ends.result placed gap within (omega arith) count (omega arith) none c.index.ensures
