-- Trees whose scalars have the kinds of their texts, as those of documents do.
use Rattle.std.specs.Prelude.{List, [], ◌∷◌, ⊤}
use Rattle.yq_core.{specs.Scalar.IsScalar, specs.Tree.{Node, alias, scalar, list, map, Children, none, child}}
use Rattle.yq_semantics.specs.Places.{FoundPlace}

abbrev mutual
  -- at any depth a scalar's kind is one that its text may have (YAML 1.2.2, section 10.3.2)
  pub HasScalars : Node → Type 0
  HasScalars (alias name) = ⊤
  HasScalars (scalar anchor kind text) = IsScalar kind text
  HasScalars (list anchor cs) = EachHasScalars cs
  HasScalars (map anchor cs) = EachHasScalars cs

  -- the same of each item or entry (own)
  pub EachHasScalars : Children → Type 0
  EachHasScalars none = ⊤
  EachHasScalars (child label n cs) = HasScalars n × EachHasScalars cs

-- the node of each place is such (own)
abbrev pub HaveScalars : List FoundPlace → Type 0
HaveScalars [] = ⊤
HaveScalars (p ∷ ps) = HasScalars p.node × HaveScalars ps
