use Rattle.std.proofs.lemmas.List.{flat_map_more}
use Rattle.std.proofs.Common.{◌≡◌, ◌==◌, ◌++◌, encode_utf8, flat_map, if◌then◌else◌, sym, ap, ◌∙◌, map-id, append_assoc, ℕ, List}
use Rattle.std.{specs.Str.chars, proofs.lemmas.Iterator.YieldsList-from_chars, proofs.lemmas.Iterator.Consumers.YieldsList-end}
use Rattle.yq_core.specs.Written.{in_double, in_single}
use Rattle.yq_scalar.proofs.write.write_quoted.Goals as goal

abbrev in_quotes : ℕ → ℕ → List ℕ
in_quotes quote c = if quote == 34 then in_double c else in_single c

pub returns : goal.returns
returns c =
    let end = YieldsList-end (YieldsList-from_chars c.args.text.now c.utf8.text cc) c.each.yielded _ c.each.yielded_by _ _ c.in-None.is c.next.ensures.steps in
    let all : c.each.yielded ≡ chars c.args.text.now = sym (map-id c.each.yielded) ∙ end.0 in
    c.in_ok-push-2.ensures.bytes ∙ (ap (λ l. l ++ encode_utf8 c.args.quote) (c.each.invariant ∙ ap (λ cs. encode_utf8 c.args.quote ++ flat_map (in_quotes c.args.quote) cs) all)
    ∙ append_assoc (encode_utf8 c.args.quote) (flat_map (in_quotes c.args.quote) (chars c.args.text.now)) (encode_utf8 c.args.quote))

pub each-preserved : goal.each-preserved
each-preserved c = c.in_ok-push_quoted.ensures ∙ (ap (λ l. l ++ in_quotes c.args.quote c.in-Some.c) c.each.invariant ∙ flat_map_more (in_quotes c.args.quote) (encode_utf8 c.args.quote) c.each.yielded c.in-Some.c)
