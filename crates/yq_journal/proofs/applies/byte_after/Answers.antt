use Rattle.std.{proofs.Common.{◌≡◌, ◌≤◌, ◌<◌, ◌+◌, ◌-◌, ◌^◌, length, sym, ◌∙◌, arith, refl, rules}, proofs.lemmas.Option.same_Some}
use Rattle.yq_journal.{specs.Turned.turned_splices, proofs.MatchingLaws.{one_earlier, came_from}}
use Rattle.yq_journal.proofs.applies.byte_after.Goals as goal

pub origin-requires : goal.origin-requires
origin-requires c = λ past.
    let b = c.splices.invariant.here c.requires.done.0 c.requires.done.1 in
    let x = one_earlier (turned_splices c.args.turned.now) c.args.text.now c.splices.left _ b.0 (omega arith) c.requires.lengths (omega arith) c.nth-start.ensures b.1 in
    let long : length b.0 ≡ length x.text_before - length c.nth-start.result.1.now + length c.nth-start.result.2.now = x.bytes.long in
    let within : c.nth-start.result.0 + length c.nth-start.result.1.now ≤ length x.text_before = x.bytes.within in
    let small : length x.text_before < 2 ^ 64 = x.small in
    let here : c.splices.i < length b.0 = b.2 in
    omega arith

pub splices-preserved : goal.splices-preserved
splices-preserved c = record {
  within = omega arith;
  here = λ b0 e.
      let b = c.splices.invariant.here b0 e in
      let x = one_earlier (turned_splices c.args.turned.now) c.args.text.now c.splices.left _ b.0 (omega arith) c.requires.lengths (omega arith) c.nth-start.ensures b.1 in
      let from = came_from _ x.text_before b.0 c.splices.i c.in-Some.next x.bytes b.2 c.in-Some.ensures.outside in
      (x.text_before, x.is, from.0, from.1 ∙ b.3);
}

pub returns-in-None : goal.returns-in-None
returns-in-None c = λ b0 e.
    let b = c.splices.invariant.here b0 e in
    let x = one_earlier (turned_splices c.args.turned.now) c.args.text.now c.splices.left _ b.0 (omega arith) c.requires.lengths (omega arith) c.nth-start.ensures b.1 in
    let inside = c.in-None.ensures.inside refl in
    c.byte_at.ensures ∙ sym (x.bytes.inside c.splices.i inside.0 inside.1) ∙ b.3

pub returns : goal.returns
returns c = search (rules, same_Some)
