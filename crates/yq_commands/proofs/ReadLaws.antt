-- Matches as they are printed, one after the other.
use Rattle.std.{proofs.Common.{◌≡◌, ◌&&◌, List, [], ◌∷◌, ap, refl}, specs.List.list_all}
use Rattle.yq_core.specs.Values.{value_node}
use Rattle.yq_eval.{specs.declared.matched.Match.Match, specs.MatchView.matches_of}
use Rattle.yq_commands.specs.Reads.{is_no_match, have_no_match}

-- matches that are all none for `-e`, each by itself
pub none_each : (ms : List Match) → list_all (λ m. is_no_match (value_node m.value)) ms ≡ have_no_match (matches_of ms)
none_each [] = refl
none_each (m ∷ ms) = ap (λ b. is_no_match (value_node m.value) && b) (none_each ms)
