-- Reading (own; you may skip it): keys of mappings, one in the other.
use Rattle.std.{specs.Borrow.Bor, specs.Prelude.{List, ℕ, map}}

-- what keys are
abbrev pub key_texts : List (Bor (List ℕ)) → List (List ℕ)
key_texts ks = map (λ k. k.now) ks
