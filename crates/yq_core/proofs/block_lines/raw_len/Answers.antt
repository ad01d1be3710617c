use Rattle.std.{proofs.Common.{◌∙◌, sym, arith, length, length-drop, ap}, proofs.lemmas.Bool.false≢true}
use Rattle.yq_core.proofs.BlockSteps.{at_line, at_end, raw_kept, raw_loose, raw_text, raw_next, raw_refused, raw_end}
use Rattle.yq_core.proofs.block_lines.raw_len.Goals as goal

pub returns-then-is_less_indented-clause-read : goal.returns-then-is_less_indented-clause-read
returns-then-is_less_indented-clause-read c =
    let cut = at_line _ _ _ _ _ c.is_empty.ensures c.each-test.true c.line_len-n.ensures.value c.split_at.ensures.front c.split_at.ensures.back in
    sym c.each.invariant.so_far
    ∙ raw_next c.args.keep c.args.indent c.each.within c.each.scanned _ _ _ _ cut (sym c.is_empty_at.ensures ∙ c.if-is_empty_at.false)
    (sym c.is_text_at.ensures ∙ c.if-is_text_at.false) (sym c.is_less_indented.ensures ∙ c.if-is_less_indented.true)

pub returns-then-is_line-clause-read : goal.returns-then-is_line-clause-read
returns-then-is_line-clause-read c =
    let cut = at_line _ _ _ _ _ c.is_empty.ensures c.each-test.true c.line_len-n.ensures.value c.split_at.ensures.front c.split_at.ensures.back in
    sym c.each.invariant.so_far
    ∙ raw_refused c.args.keep c.args.indent c.each.within c.each.scanned _ _ _ _ cut (sym c.is_empty_at.ensures ∙ c.if-is_empty_at.false)
    (sym c.is_text_at.ensures ∙ c.if-is_text_at.false) (sym c.is_less_indented.ensures ∙ c.if-is_less_indented.false)

pub returns-else-is_line-clause-read : goal.returns-else-is_line-clause-read
returns-else-is_line-clause-read c =
    let cut = at_line _ _ _ _ _ c.is_empty.ensures c.each-test.true c.line_len-n.ensures.value c.split_at.ensures.front c.split_at.ensures.back in
    sym c.each.invariant.so_far
    ∙ raw_refused c.args.keep c.args.indent c.each.within c.each.scanned _ _ _ _ cut (sym c.is_empty_at.ensures ∙ c.if-is_empty_at.false)
    (sym c.is_text_at.ensures ∙ c.if-is_text_at.false) (sym c.is_less_indented.ensures ∙ c.if-is_less_indented.false)

pub each-preserved-then-keep : goal.each-preserved-then-keep
each-preserved-then-keep c =
    let cut = at_line _ _ _ _ _ c.is_empty.ensures c.each-test.true c.line_len-n.ensures.value c.split_at.ensures.front c.split_at.ensures.back in
    record {
      within = omega (
        arith,
        length-drop c.line_len-n.result c.each.rest.now,
        c.line_len-n.ensures.within,
        c.each.invariant.within,
        ap length c.split_at.ensures.back,
      );
      kept = λ _. omega arith;
      so_far =
          raw_kept c.args.keep c.args.indent c.each.within c.each.scanned _ _ _ _ cut (sym c.is_empty_at.ensures ∙ c.if-is_empty_at.true)
          c.if-keep.true ∙ c.each.invariant.so_far;
    }

pub each-preserved-else-keep : goal.each-preserved-else-keep
each-preserved-else-keep c =
    let cut = at_line _ _ _ _ _ c.is_empty.ensures c.each-test.true c.line_len-n.ensures.value c.split_at.ensures.front c.split_at.ensures.back in
    record {
      within = omega (
        arith,
        length-drop c.line_len-n.result c.each.rest.now,
        c.line_len-n.ensures.within,
        c.each.invariant.within,
        ap length c.split_at.ensures.back,
      );
      kept = λ k. absurd (false≢true (sym c.if-keep.false ∙ k));
      so_far =
          raw_loose c.args.keep c.args.indent c.each.within c.each.scanned _ _ _ _ cut (sym c.is_empty_at.ensures ∙ c.if-is_empty_at.true)
          c.if-keep.false ∙ c.each.invariant.so_far;
    }

pub each-preserved : goal.each-preserved
each-preserved c =
    let cut = at_line _ _ _ _ _ c.is_empty.ensures c.each-test.true c.line_len-n.ensures.value c.split_at.ensures.front c.split_at.ensures.back in
    record {
      within = omega (
        arith,
        length-drop c.line_len-n.result c.each.rest.now,
        c.line_len-n.ensures.within,
        c.each.invariant.within,
        ap length c.split_at.ensures.back,
      );
      kept = λ _. omega arith;
      so_far =
          raw_text c.args.keep c.args.indent c.each.within c.each.scanned _ _ _ _ cut (sym c.is_empty_at.ensures ∙ c.if-is_empty_at.false)
          (sym c.is_text_at.ensures ∙ c.if-is_text_at.true) ∙ c.each.invariant.so_far;
    }

pub returns-clause-read : goal.returns-clause-read
returns-clause-read c = sym c.each.invariant.so_far ∙ raw_end c.args.keep c.args.indent c.each.within c.each.scanned _ (at_end _ _ c.is_empty.ensures c.each-test.false)
