use Rattle.std.proofs.Common.{◌≡◌, ◌∙◌, ◌==◌, true, List, [], ◌∷◌, arith, eqb-true, length, map, refl, sym, ap}
use Rattle.std.proofs.lemmas.Option.{IfSome_then}
use Rattle.yq_core.{specs.Entries.tree_step, specs.View.inline_view}
use Rattle.yq_places.specs.FlowViews.{collection_along}
use Rattle.yq_batch.proofs.gone.own_gone.Goals as goal
use Rattle.yq_core.specs.declared.path.Step as declared

none_left : (ss : List declared.Step) → (length ss == 0) ≡ true → ss ≡ []
none_left [] e = refl
none_left (s ∷ ss) e = let same : length (s ∷ ss) ≡ 0 = eqb-true (length (s ∷ ss)) 0 e in absurd (omega (arith, same))

pub returns : goal.returns
returns c =
    IfSome_then c.emptied.result c.emptied.ensures (λ z h. record {
      node = inline_view c.in_ok-node.node.now;
      there = c.in_ok-node.ensures ∙ ap (λ v. collection_along (map tree_step c.args.steps.now) (inline_view v)) c.deref.ensures;
      left = c.in_ok-left.left;
      first = c.in_ok-left.ensures;
      own = none_left c.args.steps.now (sym c.is_empty.ensures ∙ c.if-not-is_empty.false);
      empty = h;
    })
