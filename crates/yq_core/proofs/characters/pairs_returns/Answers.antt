use Rattle.std.proofs.Common.{arith, sym, ◌∙◌}
use Rattle.yq_core.proofs.TextChars.{pairs_alone, pairs_on}
use Rattle.yq_core.proofs.characters.pairs_returns.Goals as goal

pub returns-then-not-begins_feed : goal.returns-then-not-begins_feed
returns-then-not-begins_feed c = sym (sym c.each.invariant.so_far ∙ pairs_alone c.each.rest.now _ c.in-Some.place c.in-Some.ensures c.split_at.ensures.back (sym c.begins_feed.ensures ∙ c.if-not-begins_feed.true))

pub each-preserved : goal.each-preserved
each-preserved c = record {
  within = omega (arith, c.split_at.ensures.back_len, c.each.invariant.within);
  so_far = pairs_on c.each.rest.now _ c.in-Some.place c.in-Some.ensures c.split_at.ensures.back (sym c.begins_feed.ensures ∙ c.if-not-begins_feed.false) ∙ c.each.invariant.so_far;
}
