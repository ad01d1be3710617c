use Rattle.std.{proofs.Common.{arith, take, sym, ap, ◌∙◌, subst}, proofs.lemmas.List.take_all, specs.List.All}
use Rattle.yq_places.{specs.RowWalk.{StayKnown, StaysKnown}, proofs.KnownFronts.all_put}
use Rattle.yq_places.proofs.places.known_at.keep_before_offset.Goals as goal

pub returns-then-count-len : goal.returns-then-count-len
returns-then-count-len c = λ cut is.
    subst (StayKnown c.args.front cut)
    (ap (take c.count_before_offset-count.result) c.as_slice.ensures.value
    ∙ take_all c.count_before_offset-count.result c.args.known.now.items (omega (arith, c.if-count-len.true, c.len.ensures)))
    (c.count_before_offset-count.ensures.stay cut is)

pub returns-in-Some : goal.returns-in-Some
returns-in-Some c = λ cut is.
    let stays = StaysKnown c.args.front cut in
    let front = subst (All stays) (ap (take c.count_before_offset-count.result) c.as_slice.ensures.value ∙ sym c.truncate.ensures.items) (c.count_before_offset-count.ensures.stay cut is) in
    subst (All stays) (sym c.push.ensures.items) (all_put stays _ c.in-Some.item _ front (c.in-Some.ensures cut is))

pub returns-in_default : goal.returns-in_default
returns-in_default c = λ cut is.
    subst (All (StaysKnown c.args.front cut)) (ap (take c.count_before_offset-count.result) c.as_slice.ensures.value ∙ sym c.truncate.ensures.items) (c.count_before_offset-count.ensures.stay cut is)
