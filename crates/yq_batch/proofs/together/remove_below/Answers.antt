use Rattle.std.proofs.Common.{map}
use Rattle.yq_core.specs.Entries.{tree_step}
use Rattle.yq_batch.{specs.Runs.IsFoundHead, specs.HeadPaths.IsFoundFor, proofs.HeadRunLaws.some_is}
use Rattle.yq_batch.proofs.together.remove_below.Goals as goal

pub remove_children-requires-clause-there : goal.remove_children-requires-clause-there
remove_children-requires-clause-there c = record {
  read = c.text-text.ensures.read;
  reports = some_is (IsFoundHead c.args.cut.now) c.in_ok-found.found c.in-Some.found c.in_ok-found.ensures.head c.in-Some.is;
}

pub remove_children-requires-clause-front : goal.remove_children-requires-clause-front
remove_children-requires-clause-front c =
    (some_is (IsFoundFor c.args.doc (map tree_step c.args.front.now)) c.in_ok-found.found c.in-Some.found c.in_ok-found.ensures.leads c.in-Some.is).1
