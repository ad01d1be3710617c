use Rattle.std.{proofs.Common.{Err, ap, ◌∙◌, arith}, proofs.lemmas.Result.err_from_is_err_and}
use Rattle.yq_eval.{specs.PlaceView.places_of, proofs.EachLaws.failed, proofs.TogetherLaws.{part_fails, part_more, parts_done}}
use Rattle.yq_semantics.specs.View.{stage_of}
use Rattle.yq_eval.proofs.matching.pipe.pipe_on.Goals as goal

pub returns-in_err-places : goal.returns-in_err-places
returns-in_err-places c =
    let p = err_from_is_err_and c.from_residual.result c.from_residual.ensures.1 in
    failed _ _ _ _ (p.1 ∙ ap Err p.2)
    (part_fails stage_of c.args.doc c.parts.rest.now c.split_at.result.0.now c.split_at.result.1.now (places_of c.parts.places.items) _ _ c.split_at.ensures.by_index.0 c.in_err-places.ensures c.parts.invariant.so_far)

pub parts-preserved : goal.parts-preserved
parts-preserved c = record {
  short = omega (arith, c.parts.invariant.short, c.split_at.ensures.back_len);
  so_far = part_more stage_of c.args.doc c.parts.rest.now c.split_at.result.0.now c.split_at.result.1.now (places_of c.parts.places.items)
      (places_of c.in_ok-places.places.items) _ c.split_at.ensures.by_index.0 c.in_ok-places.ensures c.parts.invariant.so_far;
}

pub returns : goal.returns
returns c = parts_done stage_of c.args.doc c.parts.rest.now (places_of c.parts.places.items) _ c.in_default.len_below c.parts.invariant.so_far
