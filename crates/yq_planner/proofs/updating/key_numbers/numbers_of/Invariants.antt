use Rattle.std.proofs.Common.{map, take}
use Rattle.yq_core.specs.Values.{field_of}
use Rattle.yq_planner.specs.EntryNumbers.{AreNumbered}
use Rattle.yq_planner.proofs.updating.key_numbers.numbers_of.Given as goal

abbrev pub invariant-entries : goal.invariant-entries
invariant-entries l = AreNumbered (map field_of (take l.number l.entries)) l.numbers
