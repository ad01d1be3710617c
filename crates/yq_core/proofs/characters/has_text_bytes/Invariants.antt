use Rattle.std.proofs.Common.{◌≡◌, ◌≤◌, length, true}
use Rattle.yq_core.{specs.Characters.{are_in_text, is_text_byte}, specs.Text.unless}
use Rattle.yq_core.proofs.characters.has_text_bytes.Given as goal

abbrev pub decreases-stops : goal.decreases-stops
decreases-stops l = length l.rest

abbrev pub invariant-stops : goal.invariant-stops
invariant-stops l = record {
  within : length l.rest ≤ length l.text;
  at_stop : unless is_text_byte l.rest ≡ true;
  so_far : are_in_text l.rest ≡ are_in_text l.text;
}
