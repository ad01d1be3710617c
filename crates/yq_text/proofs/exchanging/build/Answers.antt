use Rattle.std.{proofs.Common.{append_assoc, length-append, rules}, proofs.lemmas.Bool.eqb-true}
use Rattle.yq_text.specs.Segments.{segments_of}
use Rattle.yq_text.proofs.FirstSegment.{build_gives, kept_found, kept_once, keeps_first, later, later_fewer, none_long, put_found}
use Rattle.yq_text.proofs.FirstSegment.{puts_first}
use Rattle.yq_text.proofs.exchanging.build.Goals as goal

pub keep-requires : goal.keep-requires
keep-requires c = search (rules, keeps_first, length-append, later)

pub segments-smaller-in_ok-keep-in-Keep-2 : goal.segments-smaller-in_ok-keep-in-Keep-2
segments-smaller-in_ok-keep-in-Keep-2 c = later_fewer c.segments.rest.now c.in-len1-up.len_at_least

pub segments-smaller : goal.segments-smaller
segments-smaller c = later_fewer c.segments.rest.now c.in-len1-up.len_at_least

pub segments-preserved-in-Keep : goal.segments-preserved-in-Keep
segments-preserved-in-Keep c = search (rules, keeps_first, none_long, eqb-true, later)

pub segments-preserved-in_ok-keep-in-Keep-2 : goal.segments-preserved-in_ok-keep-in-Keep-2
segments-preserved-in_ok-keep-in-Keep-2 c = search (rules, keeps_first, later, kept_once, length-append, append_assoc, kept_found)

pub segments-preserved : goal.segments-preserved
segments-preserved c =
    let first = puts_first c.segments.rest.now c.segment-item.result c.in-len1-up.len_at_least c.segment-item.is c.in-Put.gone c.in-Put.come c.in-Put.is in
    let us = segments_of (later c.segments.rest.now) in
    search (rules, length-append, append_assoc, put_found)

pub returns : goal.returns
returns c =
    build_gives _ _ c.segments.draft.splices.items _ _ c.segments.draft.at c.segments.draft.gone.items c.segments.draft.come.items
    c.segments.rest.now c.in_default.len_below
    c.segments.invariant.so_far c.segments.invariant.found c.in_ok-push_splice.ensures
