use Rattle.std.proofs.Common.{rules, ◌-◌, ap, arith, length, length-append, length-take-le, subst, sym, take}
use Rattle.std.{proofs.lemmas.Str.IsUtf8-append, specs.Str.IsUtf8}
use Rattle.yq_text.{proofs.LoopLaws.{but_last_long, back_kept, back_put}, specs.Halves.whole, specs.Script.kept_back}
use Rattle.yq_text.{specs.Segments.segments_of, proofs.FirstSegment.none_left, proofs.KeptSegments.back_within}
use Rattle.yq_text.proofs.changing.kept_back.Goals as goal

pub text_len-len-requires : goal.text_len-len-requires
text_len-len-requires c =
    let xs = c.segments.rest.now in
    omega (
      arith,
      ap length (back_kept xs c.segment-item.result _ c.in-len1-up.len_at_least c.segment-item.is c.in-Keep.text c.in-Keep.is),
      length-append (kept_back (segments_of (take (length xs - 1) xs))) (whole c.in-Keep.text),
      c.segments.invariant.back,
      back_within (segments_of c.args.segments.now),
      c.requires,
    )

pub overflow_add-len : goal.overflow_add-len
overflow_add-len c =
    let xs = c.segments.rest.now in
    omega (
      arith,
      ap length (back_kept xs c.segment-item.result _ c.in-len1-up.len_at_least c.segment-item.is c.in-Keep.text c.in-Keep.is),
      length-append (kept_back (segments_of (take (length xs - 1) xs))) (whole c.in-Keep.text),
      c.text_len-len.ensures.len,
      c.segments.invariant.back,
      back_within (segments_of c.args.segments.now),
      c.requires,
    )

pub segments-preserved : goal.segments-preserved
segments-preserved c =
    let xs = c.segments.rest.now in
    let kept = back_kept xs c.segment-item.result _ c.in-len1-up.len_at_least c.segment-item.is c.in-Keep.text c.in-Keep.is in
    record {
      back = omega (arith, ap length kept, length-append (kept_back (segments_of (take (length xs - 1) xs))) (whole c.in-Keep.text), c.text_len-len.ensures.len, c.segments.invariant.back);
      text = λ h. c.segments.invariant.text (subst IsUtf8 (sym kept) (IsUtf8-append (kept_back (segments_of (take (length xs - 1) xs))) (whole c.in-Keep.text) h c.text_len-len.ensures.text));
      within = omega (arith, c.in-len1-up.len_at_least, c.segments.invariant.within, length-take-le (length xs - 1) xs (omega arith));
    }

pub returns-in-Put : goal.returns-in-Put
returns-in-Put c = search (rules, back_put)

pub segments-smaller : goal.segments-smaller
segments-smaller c = omega (arith, c.in-len1-up.len_at_least, but_last_long c.segments.rest.now c.in-len1-up.len_at_least)

pub returns : goal.returns
returns c = search (rules, none_left)
