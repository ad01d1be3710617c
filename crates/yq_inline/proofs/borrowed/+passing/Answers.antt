use Rattle.std.proofs.Common.{rules, true, ℕ, [], ◌∷◌, ◌++◌, List, sym, ap, ◌∙◌, arith, append-nil, append_assoc, drop, refl}
use Rattle.std.{proofs.lemmas.List.map_push, proofs.lemmas.Option.IfSome_then}
use Rattle.yq_core.{specs.Keys.are_distinct, proofs.DistinctKeys.distinct_agrees}
use Rattle.yq_inline.{specs.KeyTexts.key_texts, proofs.KeysLaws.{all_stay, first_apart, more_own, more_stay}}
use Rattle.yq_inline.proofs.PassedLaws.{bracket_front, collection_passed, content_part, content_shorter, entry_passed, item_passed}
use Rattle.yq_inline.proofs.PassedLaws.{mapping_passed, none_passed, sequence_passed}
use Rattle.yq_inline.proofs.borrowed.+passing.Goals as goal

pub pass_part-returns-in-Some-clause-passed : goal.pass_part-returns-in-Some-clause-passed
pass_part-returns-in-Some-clause-passed t c = content_part c.args.keyed 0 c.args.text.now c.in-Some.rest.now c.in-Some.ensures.passed

pub pass_part-returns-in-Some-strip-clause-passed : goal.pass_part-returns-in-Some-strip-clause-passed
pass_part-returns-in-Some-strip-clause-passed t c =
    let front = bracket_front 93 c.args.text.now c.in-Some-strip.after.now c.in-Some-strip.ensures.0 c.in-Some-strip.ensures.1 in
    IfSome_then c.pass_sequence.result c.pass_sequence.ensures.passed
    (λ p is. content_part c.args.keyed p.nested c.args.text.now p.rest.now (collection_passed 93 p.nested c.args.text.now c.in-Some-strip.after.now p.rest.now front is))

pub pass_part-returns-in-Some-strip-2-clause-passed : goal.pass_part-returns-in-Some-strip-2-clause-passed
pass_part-returns-in-Some-strip-2-clause-passed t c =
    let front = bracket_front 125 c.args.text.now c.in-Some-strip-2.after.now c.in-Some-strip-2.ensures.0 c.in-Some-strip-2.ensures.1 in
    IfSome_then c.pass_mapping.result c.pass_mapping.ensures.passed
    (λ p is. content_part c.args.keyed p.nested c.args.text.now p.rest.now (collection_passed 125 p.nested c.args.text.now c.in-Some-strip-2.after.now p.rest.now front is))

pub pass_sequence-each-init : goal.pass_sequence-each-init
pass_sequence-each-init t c = record {
  utf8 = search rules;
  within = c.in-Ok.ensures.shorter;
  room = omega (arith, c.in-Ok.ensures.room);
  keys = refl;
  so_far = λ d r le a. sequence_passed c.args.depth d c.args.text.now c.in-Ok.first.now r c.in-Ok.ensures.read a;
}

pub pass_sequence-each-smaller : goal.pass_sequence-each-smaller
pass_sequence-each-smaller t c = let item = c.in_ok-item.item in omega (arith, c.in-Ok-read_sep.ensures.shorter, content_shorter item.nested c.each.rest.now item.rest.now c.in_ok-item.ensures.passed)

pub pass_sequence-each-preserved : goal.pass_sequence-each-preserved
pass_sequence-each-preserved t c =
    let item = c.in_ok-item.item in
    record {
      utf8 = search rules;
      within = omega (arith, c.in-Ok-read_sep.ensures.shorter, c.in_ok-item.ensures.shorter, c.each.invariant.within);
      room = omega (arith, c.max-nested.ensures, c.each.invariant.room, c.in_ok-item.ensures.nested);
      keys = c.in_ok-item.ensures.kept ∙ c.each.invariant.keys;
      so_far = λ d r le a.
          c.each.invariant.so_far d r (omega (arith, c.max-nested.ensures, le))
          (item_passed item.nested d c.each.rest.now item.rest.now c.in-Ok-read_sep.after.now r (omega (arith, c.max-nested.ensures, le)) c.in_ok-item.ensures.passed c.in-Ok-read_sep.ensures.read a);
    }

pub pass_sequence-returns-in-Some-clause-passed : goal.pass_sequence-returns-in-Some-clause-passed
pass_sequence-returns-in-Some-clause-passed t c =
    c.each.invariant.so_far c.each.nested c.in-Some.following.now (omega arith) (none_passed c.each.nested 93 c.each.rest.now c.in-Some.following.now c.in-Some.ensures.0 c.in-Some.ensures.1)

pub pass_mapping-each-init : goal.pass_mapping-each-init
pass_mapping-each-init t c = record {
  utf8 = search rules;
  within = c.in-Ok.ensures.shorter;
  room = omega (arith, c.in-Ok.ensures.room);
  keys = search (rules, all_stay);
  so_far = λ d more r le a apart. mapping_passed c.args.depth d c.args.text.now c.in-Ok.first.now r more c.in-Ok.ensures.read a (search (rules, first_apart));
}

pub pass_mapping-each-preserved : goal.pass_mapping-each-preserved
pass_mapping-each-preserved t c =
    let node = c.in_ok-node.node in
    let key = c.in_ok-key.key in
    let own : List (List ℕ) = drop c.len-others.result (key_texts c.each.keys.items) in
    let pushed = ap key_texts c.in-Ok-push.ensures.items ∙ (map_push (λ k. k.now) _ key ∙ ap (λ ks. ks ++ (key.now ∷ [])) c.in_ok-node.ensures.kept) in
    record {
      utf8 = search rules;
      within = omega (arith, c.in-Ok-read_sep.ensures.shorter, c.in_ok-node.ensures.shorter, c.in_ok-key.ensures.shorter, c.each.invariant.within);
      room = omega (arith, c.max-nested.ensures, c.each.invariant.room, c.in_ok-node.ensures.nested);
      keys = more_stay c.len-others.result _ _ (key.now ∷ []) _ c.each.invariant.keys pushed;
      so_far = λ d more r le a apart.
          c.each.invariant.so_far d (key.now ∷ more) r (omega (arith, c.max-nested.ensures, le))
          (entry_passed node.nested d c.each.rest.now key.now c.in_ok-key.value.now node.rest.now c.in-Ok-read_sep.after.now r more
          (omega (arith, c.max-nested.ensures, le)) c.in_ok-key.ensures.passed c.in_ok-node.ensures.passed c.in-Ok-read_sep.ensures.read a)
          (sym (ap are_distinct (ap (λ (ks : List (List ℕ)). ks ++ more) (more_own c.len-others.result _ _ (key.now ∷ []) _ c.each.invariant.keys pushed) ∙ append_assoc own (key.now ∷ []) more)) ∙ apart);
    }

pub pass_mapping-returns-in-Some-clause-passed : goal.pass_mapping-returns-in-Some-clause-passed
pass_mapping-returns-in-Some-clause-passed t c =
    let own : List (List ℕ) = drop c.len-others.result (key_texts c.each.keys.items) in
    c.each.invariant.so_far c.each.nested [] c.in-Some.following.now (omega arith)
    (none_passed c.each.nested 125 c.each.rest.now c.in-Some.following.now c.in-Some.ensures.0 c.in-Some.ensures.1)
    (ap are_distinct (append-nil own) ∙ distinct_agrees own true c.if-not-take_distinct.ensures.differ)
