use Rattle.std.{proofs.Common.{length, take, drop, sym, ap, ◌∙◌, subst}, proofs.Math.Seq.take-append_seam, specs.Str.IsCharBoundary}
use Rattle.yq_text.specs.Halves.{whole}
use Rattle.yq_places.{specs.PrintedLines.{less_break, last_break}, proofs.FinishLaws.break_boundary, proofs.PrintedTexts.less_is}
use Rattle.yq_places.proofs.places.halves.split_break.Goals as goal

pub split_at-requires : goal.split_at-requires
split_at-requires c = subst (λ n. IsCharBoundary (whole c.args.text) n) (sym c.less_break_len.ensures.value) (break_boundary (whole c.args.text))

pub returns-clause-line : goal.returns-clause-line
returns-clause-line c =
    let t = whole c.args.text in
    c.split_at.ensures.front
    ∙ (ap (λ n. take n t) c.less_break_len.ensures.value
    ∙ (ap (take (length (less_break t))) (sym (less_is t)) ∙ take-append_seam (less_break t) (last_break t)))

pub returns-clause-rest : goal.returns-clause-rest
returns-clause-rest c = c.split_at.ensures.back ∙ ap (λ n. drop n (whole c.args.text)) c.less_break_len.ensures.value
