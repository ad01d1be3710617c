use Rattle.std.proofs.Common.{◌≡◌, inl, inr, ◌+◌, ◌-◌, ℕ, List, length, reverse, ap, subst, ◌∙◌, arith}
use Rattle.yq_rows.{specs.Sides.{IsSplitAt, ends_before, nearer, not_in_back, side_of, text_length}, specs.declared.sides.Side.Side}
use Rattle.yq_rows.{proofs.BackLaws.{ByEnds, ByRows, following_is}, proofs.SideLaws.{ends_counted_at, own_end}}
use Rattle.yq_rows.proofs.sides.side_after.Goals.{then-rows-gt0, else-rows-gt0, then-ends-len, else-ends-len}
use Rattle.yq_row_table.specs.declared.offsets.Offsets as declared
use Rattle.yq_rows.proofs.sides.side_after.Goals as goal

pub returns : goal.returns
returns c xs at placed gap apart long =
    let p = c.args.places.now in
    let len : ℕ = text_length xs in
    let back = c.args.back in
    let rows = c.rows_nearer-rows.result in
    let ends = c.ends_before-ends.result in
    let many : rows ≡ length (nearer back (reverse p.after.items)) = c.rows_nearer-rows.ensures.count ∙ ap (λ (l : List declared.Offsets). length (nearer back (reverse l))) c.as_slice.ensures.value in
    let count : ends ≡ ends_before ((len - back) + 1) p.ends =
    ends_counted_at p xs ends ((c.args.len - back) + 1) c.ends_before-ends.ensures.count placed ∙ ap (λ (n : ℕ). ends_before ((n - back) + 1) p.ends) long in
    let by_rows : ByRows p len rows c.if-rows-gt0.bytes = elim c.if-rows-gt0.branch [ then-rows-gt0 w ↦ inr (w.index.result.now, omega arith, w.index.ensures, omega arith) | else-rows-gt0 w ↦ inl (omega arith, omega arith) ] in
    let by_ends : ByEnds p ends c.if-rows-gt0.bytes c.if-ends-len.bytes =
    elim c.if-ends-len.branch [
      | then-ends-len w ↦ inr (w.at.result, omega arith, own_end p w.at.result ends w.at.ensures, omega arith)
      | else-ends-len w ↦
          inl (omega arith, omega arith)
    ] in
    let first : c.len-2.result + (c.len-3.result - rows) ≡ length p.front.items + (length p.after.items - rows) = omega arith in
    let side : Side = record { rows = length p.front.items + (length p.after.items - rows); ends = ends; bytes = c.if-ends-len.bytes } in
    let all : side ≡ side_of (not_in_back back xs) = following_is p xs at back rows ends c.if-rows-gt0.bytes c.if-ends-len.bytes placed (subst (λ (n : ℕ). IsSplitAt at n p) long gap) (omega arith) many count by_rows by_ends in
    ap (λ (n : ℕ). record { rows = n; ends = ends; bytes = c.if-ends-len.bytes }) first ∙ all
