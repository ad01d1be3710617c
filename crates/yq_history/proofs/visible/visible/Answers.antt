use Rattle.std.{proofs.lemmas.List.flat_map_more, proofs.Common.{◌≡◌, ◌++◌, [], flat_map, sym, ap, ◌∙◌, map-id}, specs.Str.chars}
use Rattle.std.{proofs.lemmas.Iterator.YieldsList-from_chars, proofs.lemmas.Iterator.Consumers.YieldsList-end}
use Rattle.yq_history.specs.Visible.{visible_char}
use Rattle.yq_history.proofs.visible.visible.Goals as goal

pub returns : goal.returns
returns c =
    let end = YieldsList-end (YieldsList-from_chars c.args.string.now c.utf8.string cc) c.each.yielded _ c.each.yielded_by _ _ c.in-None.is c.next.ensures.steps in
    let all : c.each.yielded ≡ chars c.args.string.now = sym (map-id c.each.yielded) ∙ end.0 in
    c.each.invariant ∙ ap (λ cs. flat_map visible_char cs) all

pub each-preserved : goal.each-preserved
each-preserved c = c.in_ok-push_visible.ensures ∙ (ap (λ l. l ++ visible_char c.in-Some.c) c.each.invariant ∙ flat_map_more visible_char [] c.each.yielded c.in-Some.c)
