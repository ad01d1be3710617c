use Rattle.std.{proofs.lemmas.List.flat_map_more, proofs.Common.{◌≡◌, ◌++◌, encode_utf8, flat_map, sym, ap, ◌∙◌, map-id, append_assoc}}
use Rattle.std.{specs.Str.chars, proofs.lemmas.Iterator.YieldsList-from_chars, proofs.lemmas.Iterator.Consumers.YieldsList-end}
use Rattle.yq_args.specs.Setting.{in_text, setting_front}
use Rattle.yq_args.proofs.setting.setting.Goals as goal

pub returns : goal.returns
returns c =
    let end = YieldsList-end (YieldsList-from_chars c.args.text.now c.utf8.text cc) c.each.yielded _ c.each.yielded_by _ _ c.in-None.is c.next.ensures.steps in
    let all : c.each.yielded ≡ chars c.args.text.now = sym (map-id c.each.yielded) ∙ end.0 in
    c.in_ok-push.ensures.bytes ∙ (ap (λ l. l ++ encode_utf8 34) (c.each.invariant ∙ ap (λ cs. setting_front c.args.expr.now ++ flat_map in_text cs) all)
    ∙ append_assoc (setting_front c.args.expr.now) (flat_map in_text (chars c.args.text.now)) (encode_utf8 34))

pub each-preserved : goal.each-preserved
each-preserved c = c.in_ok-push_in_text.ensures ∙ (ap (λ l. l ++ in_text c.in-Some.c) c.each.invariant ∙ flat_map_more in_text (setting_front c.args.expr.now) c.each.yielded c.in-Some.c)
