use Rattle.std.proofs.Common.{arith, refl, sym, ◌∙◌}
use Rattle.yq_places.{specs.PlacementViews.held_view, specs.RemovalReading.removal_view}
use Rattle.yq_batch.proofs.emptied_rows.sole_place.Goals as goal

pub returns : goal.returns
returns c = record {
  removal = removal_view c.in_ok-gone.gone c.in_ok-gone.field-0-1;
  removal_is = c.in_ok-gone.ensures;
  short = (let less = c.if-end-keep.false in omega (arith, less, c.in_ok-end.ensures));
  marks = _;
  marks_are = c.in_ok-own.ensures;
  entry = c.in_ok-found.found.0;
  held = held_view c.in_ok-found.found.1;
  upto = c.in_ok-found.ensures;
  row = refl;
  next = sym c.saturating_sub-rows.ensures ∙ c.if-rows-ne1.false;
  ends = c.if-found-stop.false ∙ c.stop_after-stop.ensures;
  head = c.is_bare.ensures.head c.if-not-is_bare.false;
  white = c.is_bare.ensures.white c.if-not-is_bare.false;
  comment = c.is_bare.ensures.comment c.if-not-is_bare.false;
  broken = c.is_bare.ensures.broken c.if-not-is_bare.false;
  place = c.in_ok-place.ensures;
  room = (let more = c.if-size-lt3.false in omega (arith, more, c.saturating_sub-size.ensures));
}
