-- Reading (own; you may skip it): heads that the text lends.
use Rattle.std.specs.Prelude.{◌≡◌, ◌≤◌, ℕ, List, true}
use Rattle.yq_core.specs.Inline.{depth_limit}
use Rattle.yq_inline.specs.Passed.{IsPassedHead}
use Rattle.yq_documents.specs.Decoded.{borrowed_depth, opens_collection}

-- the collection in front is passed, with at most so many collections nested (own)
abbrev pub PassesHead : ℕ → List ℕ → Type 0
PassesHead d t = (d ≤ depth_limit) × ((rest : List ℕ) × IsPassedHead d t rest)

-- A head that is written so is a collection which is passed in front of a text, with no more of them nested than in what the text lends (own).
pub record LendsHead (head t : List ℕ) : Type 0 where
  pub opens : opens_collection head ≡ true
  pub passes : PassesHead borrowed_depth t
