use Rattle.std.proofs.Common.{◌∙◌, sym}
use Rattle.yq_core.proofs.BlockSteps.{at_line, at_end, detect_low, detect_refused, detect_found, detect_more, detect_same, detect_end}
use Rattle.yq_core.proofs.block_lines.detect_indent.Goals as goal

pub returns-then-columns-least-clause-read : goal.returns-then-columns-least-clause-read
returns-then-columns-least-clause-read c =
    let cut = at_line _ _ _ _ _ c.is_empty.ensures c.each-test.true c.line_len.ensures.value c.split_at.ensures.front c.split_at.ensures.back in
    sym c.each.invariant ∙ detect_low c.args.least c.each.most _ _ _ _ cut.0 (sym c.is_blank.ensures ∙ c.if-not-is_blank.true) c.spaces_len-columns.ensures.value c.if-columns-least.true

pub returns-then-columns-most-clause-read : goal.returns-then-columns-most-clause-read
returns-then-columns-most-clause-read c =
    let cut = at_line _ _ _ _ _ c.is_empty.ensures c.each-test.true c.line_len.ensures.value c.split_at.ensures.front c.split_at.ensures.back in
    sym c.each.invariant ∙ detect_refused c.args.least c.each.most _ _ _ _ cut.0 (sym c.is_blank.ensures ∙ c.if-not-is_blank.true) c.spaces_len-columns.ensures.value c.if-columns-least.false c.if-columns-most.true

pub returns-then-not-is_blank-clause-read : goal.returns-then-not-is_blank-clause-read
returns-then-not-is_blank-clause-read c =
    let cut = at_line _ _ _ _ _ c.is_empty.ensures c.each-test.true c.line_len.ensures.value c.split_at.ensures.front c.split_at.ensures.back in
    sym c.each.invariant ∙ detect_found c.args.least c.each.most _ _ _ _ cut.0 (sym c.is_blank.ensures ∙ c.if-not-is_blank.true) c.spaces_len-columns.ensures.value c.if-columns-least.false c.if-columns-most.false

pub each-preserved-then-most-columns : goal.each-preserved-then-most-columns
each-preserved-then-most-columns c =
    let cut = at_line _ _ _ _ _ c.is_empty.ensures c.each-test.true c.line_len.ensures.value c.split_at.ensures.front c.split_at.ensures.back in
    detect_more c.args.least c.each.most _ _ _ _ cut.0 (sym c.is_blank.ensures ∙ c.if-not-is_blank.false) c.spaces_len-columns.ensures.value c.if-most-columns.true ∙ c.each.invariant

pub each-preserved : goal.each-preserved
each-preserved c =
    let cut = at_line _ _ _ _ _ c.is_empty.ensures c.each-test.true c.line_len.ensures.value c.split_at.ensures.front c.split_at.ensures.back in
    detect_same c.args.least c.each.most _ _ _ _ cut.0 (sym c.is_blank.ensures ∙ c.if-not-is_blank.false) c.spaces_len-columns.ensures.value c.if-most-columns.false ∙ c.each.invariant

pub returns-clause-read : goal.returns-clause-read
returns-clause-read c = sym c.each.invariant ∙ detect_end c.args.least c.each.most _ (at_end _ _ c.is_empty.ensures c.each-test.false)
