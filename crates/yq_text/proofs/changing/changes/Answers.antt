use Rattle.std.proofs.Common.{ap, sym, ◌∙◌, subst, rules}
use Rattle.yq_text.{specs.Changing.IsChange, specs.Script.to_last, specs.Segments.segments_of}
use Rattle.yq_text.{specs.declared.changed.ChangedMiddle.ChangedMiddle, proofs.ChangeLaws.{change_is, inner_small}}
use Rattle.yq_text.proofs.changing.changes.Goals as goal

pub build-requires : goal.build-requires
build-requires c = search (rules, inner_small)

pub returns : goal.returns
returns c =
    let so_far : ChangedMiddle = record { front = c.from_first-front.result.0; back = c.kept_back-back.result; new = c.in_ok-text.field-0.text; splices = c.in_ok-text.field-0.splices } in
    subst (λ ss. IsChange ss so_far) (ap segments_of c.as_slice-segments.ensures.value ∙ c.segments.view_is)
    (change_is (segments_of c.as_slice-segments.result.now) so_far c.in-Some.len (segments_of c.to_last.result.now) (sym c.new_len.ensures ∙ c.in-Some.is)
    (c.to_last.ensures ∙ ap to_last c.from_first-front.ensures.rest) c.from_first-front.ensures.front c.kept_back-back.ensures.back c.from_first-front.ensures.text c.kept_back-back.ensures.text c.in_ok-text.ensures)
