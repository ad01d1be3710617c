use Rattle.std.{proofs.Common.{◌≡◌, ◌++◌, None, drop}, specs.String.string_bytes}
use Rattle.yq_eval.specs.MatchView.{matches_of}
use Rattle.yq_commands.specs.Reads.{matches_after}
use Rattle.yq_commands.proofs.reads.printed_matches.Given as goal

abbrev pub invariant-matches : goal.invariant-matches
invariant-matches l =
    string_bytes l.printed ++ matches_after l.no_doc l.last (matches_of (drop l.found-index l.matches)) ≡ matches_after l.no_doc None (matches_of l.matches)
