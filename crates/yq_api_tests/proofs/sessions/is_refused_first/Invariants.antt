use Rattle.std.proofs.Common.{◌≡◌}
use Rattle.yq_api_tests.proofs.sessions.is_refused_first.Given as goal

abbrev pub invariant-growths : goal.invariant-growths
invariant-growths l = l.session ≡ l.fn.session
