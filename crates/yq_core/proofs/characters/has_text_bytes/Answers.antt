use Rattle.std.proofs.Common.{arith, sym, ◌∙◌}
use Rattle.yq_core.proofs.TextChars.{none_left, stop_fails, stop_fits}
use Rattle.yq_core.proofs.characters.has_text_bytes.Goals as goal

pub returns-then-not-begins_text_char : goal.returns-then-not-begins_text_char
returns-then-not-begins_text_char c =
    sym (sym c.stops.invariant.so_far ∙ stop_fails c.stops.rest.now c.in-len1-up.len_at_least c.stops.invariant.at_stop
    (sym c.begins_text_char.ensures ∙ c.if-not-begins_text_char.true))

pub stops-preserved : goal.stops-preserved
stops-preserved c = record {
  within = omega (arith, c.past_text_bytes-rest-in-len1-up.ensures.within, c.stops.invariant.within);
  at_stop = c.past_text_bytes-rest-in-len1-up.ensures.stops;
  so_far = c.past_text_bytes-rest-in-len1-up.ensures.same
      ∙ (stop_fits c.stops.rest.now c.in-len1-up.len_at_least (sym c.begins_text_char.ensures ∙ c.if-not-begins_text_char.false) ∙ c.stops.invariant.so_far);
}

pub returns : goal.returns
returns c = sym (sym c.stops.invariant.so_far ∙ none_left c.stops.rest.now c.in_default.len_below)
