use Rattle.std.{proofs.Common.{ℕ, ◌+◌, ◌*◌, ◌<◌, ◌≤◌, List, [], ◌≡◌, ◌++◌, true, drop, length}, specs.Str.IsUtf8}
use Rattle.yq_core.specs.Keys.{are_distinct}
use Rattle.yq_inline.{specs.Passed.{ArePassedParts, IsPassedCollection}, specs.KeyTexts.key_texts, proofs.KeysLaws.KeysStay}
use Rattle.yq_inline.proofs.borrowed.+passing.Given as goal

abbrev pub decreases-pass_sequence : goal.decreases-pass_sequence
decreases-pass_sequence l = 2 * l.depth

abbrev pub decreases-pass_mapping : goal.decreases-pass_mapping
decreases-pass_mapping l = 2 * l.depth

abbrev pub decreases-pass_part : goal.decreases-pass_part
decreases-pass_part l = 2 * l.depth + 1

abbrev pub decreases-pass_sequence-each : goal.decreases-pass_sequence-each
decreases-pass_sequence-each l = length l.rest

abbrev pub decreases-pass_mapping-each : goal.decreases-pass_mapping-each
decreases-pass_mapping-each l = length l.rest

abbrev pub invariant-pass_sequence-each : goal.invariant-pass_sequence-each
invariant-pass_sequence-each l = record {
  utf8 : IsUtf8 l.rest;
  within : length l.rest ≤ length l.fn.text;
  room : l.nested < l.fn.depth;
  keys : key_texts l.keys.items ≡ key_texts l.fn.keys.items;
  so_far : (d : ℕ) (r : List ℕ) → l.nested ≤ d → ArePassedParts d 93 [] l.rest r → IsPassedCollection 93 (d + 1) l.fn.text r;
}

abbrev pub invariant-pass_mapping-each : goal.invariant-pass_mapping-each
invariant-pass_mapping-each l = record {
  utf8 : IsUtf8 l.rest;
  within : length l.rest ≤ length l.fn.text;
  room : l.nested < l.fn.depth;
  keys : KeysStay l.others (key_texts l.fn.keys.items) (key_texts l.keys.items);
  so_far : (d : ℕ) (more : List (List ℕ)) (r : List ℕ) → l.nested ≤ d → ArePassedParts d 125 more l.rest r →
      are_distinct (drop l.others (key_texts l.keys.items) ++ more) ≡ true → IsPassedCollection 125 (d + 1) l.fn.text r;
}
