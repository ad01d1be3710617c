use Rattle.std.{proofs.Common.{◌≡◌, ◌≤◌, ◌-◌}, specs.String.string_bytes}
use Rattle.yq_semantics.{specs.Program.update_count, specs.View.program_of}
use Rattle.yq_splice.specs.Updates.{HaveLed}
use Rattle.yq_splice.proofs.editing.update_each.Given as goal

abbrev pub invariant-updates : goal.invariant-updates
invariant-updates l = record {
  count : l.count ≡ update_count (program_of l.fn.program);
  bound : l.done ≤ l.count;
  leads : HaveLed (program_of l.fn.program) l.fn.text l.done (string_bytes l.edited.text) l.edited.splices.items;
}

abbrev pub decreases-updates : goal.decreases-updates
decreases-updates l = l.count - l.done
