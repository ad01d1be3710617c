use Rattle.std.proofs.Common.{List, ℕ, map, refl, ap, subst, ◌∙◌}
use Rattle.yq_core.{specs.Entries.{parts_of, tree_step}, specs.View.inline_view}
use Rattle.yq_places.specs.Placements.{last_step}
use Rattle.yq_batch.specs.LeftPlaces.{IsLeftPlace}
use Rattle.yq_batch.proofs.gone.part_gone.Goals as goal

pub returns : goal.returns
returns c = record {
  above = _;
  step = tree_step c.in_ok-last.last.now;
  last = c.in_ok-last.ensures ∙ ap (λ ss. last_step (map tree_step ss)) c.deref.ensures.value;
  index = c.in_ok-index.index;
  place = c.in_ok-place.place;
  leads = c.in_ok-index.ensures;
  goes =
      subst (λ (l : List ℕ). IsLeftPlace l (parts_of (inline_view c.args.node.now)) c.in_ok-index.index c.args.left.count c.args.left.after c.in_ok-place.place)
      c.as_bytes.ensures.value c.in_ok-place.ensures;
  start = c.in_ok-start.ensures.1;
  finish = c.in_ok-end.ensures.1;
  new = refl;
  known = _;
  known_is = refl;
  steps_are = refl;
  count = refl;
  after = refl;
  following = refl;
}
