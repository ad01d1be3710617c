use Rattle.std.proofs.Common.{arith, sym, ◌∙◌}
use Rattle.yq_core.{specs.Text.ends_line, proofs.Across.{rest_length, upto_next, upto_none}, proofs.Upto.upto_here}
use Rattle.yq_core.proofs.Breaks.{ends_line_is}
use Rattle.yq_core.proofs.lines.text_len.Goals as goal

pub returns-then-is_break : goal.returns-then-is_break
returns-then-is_break c =
    let ends = ends_line_is c.each.rest.now c.in-len1-up.len_at_least ∙ (sym c.is_break.ensures ∙ c.if-is_break.true) in
    omega (arith, upto_here ends_line c.each.rest.now ends, c.each.invariant.so_far)

pub each-preserved : goal.each-preserved
each-preserved c =
    let goes_on = ends_line_is c.each.rest.now c.in-len1-up.len_at_least ∙ (sym c.is_break.ensures ∙ c.if-is_break.false) in
    record {
      within = rest_length c.each.n c.each.rest.now _ c.in-len1-up.len_at_least c.each.invariant.within;
      so_far = omega (arith, upto_next ends_line c.each.rest.now c.in-len1-up.len_at_least goes_on, c.each.invariant.so_far);
    }

pub returns : goal.returns
returns c = omega (arith, upto_none ends_line c.each.rest.now c.in_default.len_below, c.each.invariant.so_far)
