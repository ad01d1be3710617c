use Rattle.std.{proofs.Common.{◌≡◌, ℕ, ◌≤◌, length, Some}, specs.Str.IsUtf8}
use Rattle.yq_core.specs.Text.{text_lines}
use Rattle.yq_batch.specs.RowRemovals.{AreLow}
use Rattle.yq_batch.proofs.row_removals.least_for.Given as goal

abbrev pub invariant-lines : goal.invariant-lines
invariant-lines l = record {
  rest_text : IsUtf8 l.rest;
  was : (m : ℕ) × (l.fn.least ≡ Some m) × (m ≤ l.found);
  so_far : (n : ℕ) → l.found ≤ n → AreLow n (text_lines l.rest) → AreLow n (text_lines l.fn.gap);
}

abbrev pub decreases-lines : goal.decreases-lines
decreases-lines l = length l.rest
