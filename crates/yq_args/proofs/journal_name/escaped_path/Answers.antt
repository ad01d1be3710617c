use Rattle.std.{proofs.Common.{◌≡◌, ◌++◌, [], encode_utf8, flat_map, sym, ap, ◌∙◌, map-id}, proofs.lemmas.List.flat_map_more}
use Rattle.std.{specs.Str.chars, proofs.lemmas.Iterator.YieldsList-from_chars, proofs.lemmas.Iterator.Consumers.YieldsList-end}
use Rattle.std.proofs.lemmas.Str.{encodes-chars}
use Rattle.yq_args.{specs.JournalNames.escaped_path, proofs.JournalNameLaws.each_escaped}
use Rattle.yq_args.proofs.journal_name.escaped_path.Goals as goal

pub returns : goal.returns
returns c =
    let end = YieldsList-end (YieldsList-from_chars c.args.path.now c.utf8.path cc) c.each.yielded _ c.each.yielded_by _ _ c.in-None.is c.next.ensures.steps in
    let all : c.each.yielded ≡ chars c.args.path.now = sym (map-id c.each.yielded) ∙ end.0 in
    c.each.invariant ∙ ap (flat_map (λ x. escaped_path (encode_utf8 x))) all ∙ each_escaped (chars c.args.path.now) ∙ ap escaped_path (encodes-chars c.args.path.now c.utf8.path)

pub each-preserved : goal.each-preserved
each-preserved c =
    c.in_ok-push_escaped.ensures ∙ (ap (λ l. l ++ escaped_path (encode_utf8 c.in-Some.c)) c.each.invariant ∙ flat_map_more (λ x. escaped_path (encode_utf8 x)) [] c.each.yielded c.in-Some.c)
