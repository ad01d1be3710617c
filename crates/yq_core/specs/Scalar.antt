-- A scalar: a kind and a text.
use Rattle.std.specs.Prelude.{◌≡◌, ℕ, List, codes}
use Rattle.yq_core.{specs.declared.kind.Kind.Kind, specs.SchemaReading.resolve}
use Rattle.yq_core.specs.declared.kind.Kind.TheVariants as kinds

-- a scalar's kind and its text (YAML 1.2.2, section 3.2.1)
pub record ScalarText : Type 0 where
  pub kind : Kind
  pub text : List ℕ

-- a kind and a text that a scalar may have: a string has any text, null has the text `null`, and each other kind is that of
-- its text by the core schema (YAML 1.2.2, section 10.3.2)
abbrev pub IsScalar : Kind → List ℕ → Type 0
IsScalar kinds.Null t = t ≡ codes "null"
IsScalar kinds.Bool t = resolve t ≡ kinds.Bool
IsScalar kinds.Int t = resolve t ≡ kinds.Int
IsScalar kinds.Float t = resolve t ≡ kinds.Float
IsScalar kinds.Text t = Unit {0}

-- a string of that text (YAML 1.2.2, section 10.1.1.3)
abbrev pub string_of : List ℕ → ScalarText
string_of t = record { kind = kinds.Text; text = t }

-- null, which has one text (YAML 1.2.2, section 10.2.1.1; own)
abbrev pub null : ScalarText
null = record { kind = kinds.Null; text = codes "null" }

-- the scalar of that kind and text, where each text of null is `null` (own)
abbrev pub of_kind : Kind → List ℕ → ScalarText
of_kind kinds.Null t = null
of_kind kinds.Bool t = record { kind = kinds.Bool; text = t }
of_kind kinds.Int t = record { kind = kinds.Int; text = t }
of_kind kinds.Float t = record { kind = kinds.Float; text = t }
of_kind kinds.Text t = string_of t

-- the scalar that a plain text means (YAML 1.2.2, section 10.3.2)
abbrev pub plain_of : List ℕ → ScalarText
plain_of t = of_kind (resolve t) t
