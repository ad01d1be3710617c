-- Reading (own; you may skip it): what is made of the rows of a text from one on.
use Rattle.std.specs.Prelude.{◌≡◌, ℕ, ◌≤◌, List}
use Rattle.yq_documents.{specs.Decoded.{Rise, decoded_at}, specs.declared.decoded.Decoded.Decoded}

-- This is what is made of the rows from one on, of all that is made (own).
pub record IsAhead (all : List Decoded) (row : ℕ) (ms : List Decoded) : Type 0 where
  pub rise : Rise row ms
  pub same : (i : ℕ) → row ≤ i → decoded_at i ms ≡ decoded_at i all
