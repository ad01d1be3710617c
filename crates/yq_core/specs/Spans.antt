-- The places of an inline node and of its parts lie in order, each from one character of the text to another or to the end.
use Rattle.std.{specs.Prelude.{◌≡◌, ℕ, suc, ◌<◌, ◌≤◌, List, Option, Some, None, ⊤}, specs.Str.IsCharBoundary}
use Rattle.yq_core.{specs.declared.piece.Piece.Piece, specs.Entries.{start_of, end_of, entry_start}}
use Rattle.yq_core.specs.Places.{Placed, placed, CoreNode, nothing, name, text, sequence, mapping, Parts, end, part}

-- from one character of a text to another, or to its end (own)
pub record IsSpan (t : List ℕ) (from to : ℕ) : Type 0 where
  pub ordered : from ≤ to
  pub begins : IsCharBoundary t from
  pub ends : IsCharBoundary t to

-- a key, if there is one, is a span (own)
abbrev pub HasKeySpan : List ℕ → Option (List ℕ × Piece) → Type 0
HasKeySpan t None = ⊤
HasKeySpan t (Some k) = IsSpan t k.1.start k.1.end

abbrev mutual
  -- A node is a span from its anchor on, and after that, and so are its parts (own).
  pub HasSpans : List ℕ → Placed → Type 0
  HasSpans t (placed a s c e f) = IsSpan t s c × IsSpan t c e × ContentHasSpans t f

  -- the same of what a collection holds (own)
  pub ContentHasSpans : List ℕ → CoreNode → Type 0
  ContentHasSpans t nothing = ⊤
  ContentHasSpans t (name n) = ⊤
  ContentHasSpans t (text s p) = IsSpan t p.start p.end
  ContentHasSpans t (sequence parts) = PartsHaveSpans t parts
  ContentHasSpans t (mapping parts) = PartsHaveSpans t parts

  -- the same of items or entries with their keys (own)
  pub PartsHaveSpans : List ℕ → Parts → Type 0
  PartsHaveSpans t end = ⊤
  PartsHaveSpans t (part key n parts) = HasKeySpan t key × HasSpans t n × PartsHaveSpans t parts

-- a key, if there is one, ends before its node begins (own)
abbrev pub IsBefore : Option (List ℕ × Piece) → Placed → Type 0
IsBefore None n = ⊤
IsBefore (Some k) n = k.1.end ≤ start_of n

abbrev mutual
  -- What a node holds lies inside it, and so in all its parts (own).
  pub IsNested : Placed → Type 0
  IsNested (placed a s c e f) = LiesInside c e f

  -- a content that goes from one place to another: a scalar's piece is all of it, and the items or entries of a collection come after its
  -- bracket (YAML 1.2.2, section 7.4)
  pub LiesInside : ℕ → ℕ → CoreNode → Type 0
  LiesInside from to nothing = ⊤
  LiesInside from to (name n) = ⊤
  LiesInside from to (text s p) = (p.start ≡ from) × (p.end ≡ to)
  LiesInside from to (sequence parts) = LieInside (suc from) to parts
  LiesInside from to (mapping parts) = LieInside (suc from) to parts

  -- items or entries, each after the one before it and nested in itself; after the last one is the closing bracket (YAML 1.2.2, section 7.4)
  pub LieInside : ℕ → ℕ → Parts → Type 0
  LieInside from to end = from < to
  LieInside from to (part key n parts) = (from ≤ entry_start (key, n)) × IsBefore key n × IsNested n × LieInside (end_of n) to parts
