use Rattle.std.proofs.Common.{ℕ, ◌≤◌, List, length}
use Rattle.yq_documents.specs.declared.decoded.Decoded.{Decoded}
use Rattle.yq_compose.specs.Ahead.{IsAhead}
use Rattle.yq_compose.proofs.ahead.ahead_of.Given as goal

abbrev pub decreases-passed : goal.decreases-passed
decreases-passed l = length l.left

-- what is left is made of the rows from one on that is no later
abbrev pub invariant-passed : goal.invariant-passed
invariant-passed l = (all : List Decoded) (first : ℕ) → first ≤ l.row → IsAhead all first l.decoded → (n : ℕ) × (n ≤ l.row) × IsAhead all n l.left
