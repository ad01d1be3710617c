-- Reading (own; you may skip it: the clauses `found` and `only` show that it agrees with the grammar): keys in flow collections, by their places.
use Rattle.std.specs.Prelude.{◌≡◌, ◌++◌, ◌-◌, Bool, true, ◌&&◌, List, ℕ, take, drop, Option, Some, None}
use Rattle.yq_core.specs.declared.piece.Piece.{Piece}
use Rattle.yq_core.{specs.Places.{Placed, placed, CoreNode, nothing, name, text, sequence, mapping, Parts, end, part}, specs.FitKeys.is_fit}

-- the key that is from here to there is fit (own)
abbrev pub place_fits : List ℕ → Piece → Bool
place_fits t p = is_fit (take (p.end - p.start) (drop p.start t))

-- the key, if there is one, is fit where it is (own)
abbrev pub key_place_fits : List ℕ → Option (List ℕ × Piece) → Bool
key_place_fits t None = true
key_place_fits t (Some k) = place_fits t k.1

abbrev mutual
  -- each key of a node with places in a text is fit (own)
  pub node_fits : List ℕ → Placed → Bool
  node_fits t (placed a s c e f) = form_fits t f

  -- the same of what a node is (own)
  pub form_fits : List ℕ → CoreNode → Bool
  form_fits t nothing = true
  form_fits t (name n) = true
  form_fits t (text s p) = true
  form_fits t (sequence parts) = parts_fit t parts
  form_fits t (mapping parts) = parts_fit t parts

  -- the same of items or entries (own)
  pub parts_fit : List ℕ → Parts → Bool
  parts_fit t end = true
  parts_fit t (part key n parts) = key_place_fits t key && (node_fits t n && parts_fit t parts)

-- a text ends in another one (own)
abbrev pub EndsIn : List ℕ → List ℕ → Type 0
EndsIn whole t = (before : List ℕ) × (whole ≡ before ++ t)
