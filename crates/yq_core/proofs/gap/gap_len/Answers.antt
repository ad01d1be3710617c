use Rattle.std.proofs.Common.{arith, sym, ap, ◌∙◌}
use Rattle.yq_core.{proofs.Across.rest_length, specs.Gaps.at_line_start, proofs.GapLoops.{gap_stops, gap_goes, gap_none}}
use Rattle.yq_core.proofs.gap.gap_len.Goals as goal

pub returns-then-not-goes-clause-len : goal.returns-then-not-goes-clause-len
returns-then-not-goes-clause-len c =
    let here = gap_stops c.bytes.before c.bytes.rest.now c.in-len1-up.len_at_least (sym c.goes.ensures ∙ c.if-not-goes.true) in
    omega (arith, here.0, c.bytes.invariant.so_far)

pub returns-then-not-goes-clause-line : goal.returns-then-not-goes-clause-line
returns-then-not-goes-clause-line c =
    let here = gap_stops c.bytes.before c.bytes.rest.now c.in-len1-up.len_at_least (sym c.goes.ensures ∙ c.if-not-goes.true) in
    c.is_break.ensures ∙ ap at_line_start (sym here.1 ∙ c.bytes.invariant.is_located)

pub bytes-preserved : goal.bytes-preserved
bytes-preserved c =
    let on = gap_goes c.bytes.before c.bytes.rest.now c.in-len1-up.len_at_least (sym c.goes.ensures ∙ c.if-not-goes.false) in
    record {
      within = rest_length c.bytes.n c.bytes.rest.now _ c.in-len1-up.len_at_least c.bytes.invariant.within;
      so_far = rw c.next-before.ensures (omega (arith, on.0, c.bytes.invariant.so_far));
      is_located = rw c.next-before.ensures (sym on.1 ∙ c.bytes.invariant.is_located);
    }

pub returns-clause-len : goal.returns-clause-len
returns-clause-len c = omega (arith, (gap_none c.bytes.before c.bytes.rest.now c.in_default.len_below).0, c.bytes.invariant.so_far)

pub returns-clause-line : goal.returns-clause-line
returns-clause-line c = c.is_break-2.ensures ∙ ap at_line_start (sym (gap_none c.bytes.before c.bytes.rest.now c.in_default.len_below).1 ∙ c.bytes.invariant.is_located)
