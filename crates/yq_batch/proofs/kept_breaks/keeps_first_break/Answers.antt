use Rattle.std.proofs.Common.{◌∙◌, false, slice_index_or, sym, ap, take, length, arith}
use Rattle.yq_text.specs.Halves.{whole}
use Rattle.yq_batch.{specs.declared.slots.SlotPlace.SlotPlace, proofs.KeptBreakLaws.{keeps_before, keeps_line, line_unbroken, near_before}}
use Rattle.yq_batch.proofs.kept_breaks.keeps_first_break.Goals as goal

pub returns-then-breaks_near : goal.returns-then-breaks_near
returns-then-breaks_near c u =
    let first : SlotPlace = slice_index_or c.args.places.now 0 (record { start = 0; end = 0; more = false }) in
    let same = c.as_bytes-front.ensures.value in
    keeps_before (whole c.args.text) c.args.places.now _ c.in-len1-up.len_at_least
    (near_before c.args.text.front.now c.args.text.back.now c.split_at.result.0.now c.min.result first.start
    (c.split_at.ensures.front ∙ ap (take c.min.result) same) (omega (arith, c.min.ensures)) (omega (arith, c.min.ensures, ap length same))
    (c.breaks_near.ensures c.if-breaks_near.true))

pub returns : goal.returns
returns c is =
    let first : SlotPlace = slice_index_or c.args.places.now 0 (record { start = 0; end = 0; more = false }) in
    let same = c.as_bytes-front.ensures.value in
    keeps_line (whole c.args.text) c.args.places.now _ _ c.in-len1-up.len_at_least c.in-len1-up-others.len_at_least
    (line_unbroken c.args.text.front.now c.args.text.back.now c.split_at.result.0.now c.min.result first.start
    (c.split_at.ensures.front ∙ ap (take c.min.result) same) (omega (arith, c.min.ensures, c.if-first-front.false))
    (omega (arith, c.if-first-front.false, ap length same)) (sym c.holds_byte.ensures ∙ c.if-holds_byte.false)
    (sym c.holds_byte-else-holds_byte.ensures ∙ c.if-holds_byte-2.false))
    (c.breaks_alike.ensures is)
