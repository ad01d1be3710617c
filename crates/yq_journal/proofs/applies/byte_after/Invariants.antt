use Rattle.std.{proofs.Common.{◌≡◌, ◌≤◌, ◌<◌, ℕ, List, Some, take, length}, specs.Prelude.slice_get}
use Rattle.yq_text.specs.Splice.{all_done}
use Rattle.yq_journal.specs.Turned.{turned_splices}
use Rattle.yq_journal.proofs.applies.byte_after.Given as goal

abbrev pub invariant-splices : goal.invariant-splices
invariant-splices l = record {
  within : l.left ≤ l.fn.count;
  here : (b : List ℕ) → all_done (take l.fn.count (turned_splices l.fn.turned)) l.fn.text ≡ Some b →
      (a : List ℕ) × (all_done (take l.left (turned_splices l.fn.turned)) l.fn.text ≡ Some a) × (l.i < length a) × (slice_get a l.i ≡ slice_get b l.fn.at);
}

abbrev pub decreases-splices : goal.decreases-splices
decreases-splices l = l.left
