use Rattle.std.proofs.Common.{◌≡◌, ◌≤◌, ◌<◌, ◌-◌, ℕ, List}
use Rattle.yq_documents.specs.Reading.{documents_of}
use Rattle.yq_semantics.{specs.Program.update_count, specs.View.program_of}
use Rattle.yq_expr.specs.FixedPaths.{IsSole, PlansAlone}
use Rattle.yq_edit_laws.specs.Theorems.{HasReading}
use Rattle.yq_splice.specs.Updates.{HaveLed}
use Rattle.yq_splice.proofs.updating.update_session.Given as goal

abbrev pub invariant-updates : goal.invariant-updates
invariant-updates l = record {
  from : l.fn.nth ≤ l.done;
  count : l._count ≡ update_count (program_of l.fn.program);
  within : l.done < update_count (program_of l.fn.program);
  plans : PlansAlone l.done l.fn.program l.session.text l.op;
  reads : HasReading l.session.text;
  sole : IsSole (documents_of l.session.text);
  leads : (t : List ℕ) → HaveLed (program_of l.fn.program) t l.fn.nth l.fn.session.text l.fn.splices.items → HaveLed (program_of l.fn.program) t l.done l.session.text l.splices.items;
}

abbrev pub decreases-updates : goal.decreases-updates
decreases-updates l = update_count (program_of l.fn.program) - l.done
