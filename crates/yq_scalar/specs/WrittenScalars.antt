-- Scalars that a style can write at a place (own).
use Rattle.std.{specs.Prelude.{◌≡◌, ◌≤◌, ℕ, ℤ, List, Option, false, true}, specs.Str.IsUtf8}
use Rattle.yq_core.{specs.Block.{BlockText, ends_block, is_tail}, specs.BlockWritten.{break_text, written_block}, specs.Plain.ends_plain}
use Rattle.yq_core.{specs.ReadBack.BlockIsReadBack, specs.Scalar.{IsScalar, ScalarText}, specs.Text.text_lines}
use Rattle.yq_core.{specs.Writable.{can_write, in_flow}, specs.declared.block_types.Break.Break, specs.declared.style.Place.Place}
use Rattle.yq_core.{specs.declared.style.Place.TheVariants.Block, specs.declared.style.Style.Style}
use Rattle.yq_core.specs.declared.style.Style.TheVariants.{Literal, Plain}

-- A scalar's kind fits its text, which can be written plain at a place (YAML 1.2.2, section 7.3.3; own).
pub record CanBePlain (place : Place) (s : ScalarText) : Type 0 where
  pub kind : IsScalar s.kind s.text
  pub writable : can_write s Plain place ≡ true

-- The same of a scalar whose text is UTF-8 (own).
pub record CanBePlainText (place : Place) (s : ScalarText) : Type 0 where
  pub plain : CanBePlain place s
  pub utf8 : IsUtf8 s.text

-- The same before a text at which a plain scalar ends there, if its lines go on with so many spaces (YAML 1.2.2, section 7.3.3; own).
pub record CanBePlainBefore (place : Place) (spaces : Option ℕ) (s : ScalarText) (rest : List ℕ) : Type 0 where
  pub text : CanBePlainText place s
  pub ends : ends_plain (in_flow place) spaces rest ≡ true

-- A scalar's text is UTF-8, and a style can write it at a place (own).
pub record CanBeWritten (style : Style) (place : Place) (s : ScalarText) : Type 0 where
  pub utf8 : IsUtf8 s.text
  pub writable : can_write s style place ≡ true

-- a string for a literal block scalar: by how many columns its lines are indented, their breaks, and the rest of its header's line
-- (YAML 1.2.2, section 8.1.2)
pub record LiteralText : Type 0 where
  pub scalar : ScalarText
  pub columns : ℕ
  pub break : Break
  pub tail : List ℕ

-- the block scalar that is written for it (own)
abbrev pub written_literal : LiteralText → BlockText
written_literal x = written_block x.scalar.text x.columns (break_text x.break) x.tail

-- It can be written there, so many columns indented or more, before a text that ends a block scalar (own).
pub record CanBeLiteral (least : ℕ) (x : LiteralText) (rest : List ℕ) : Type 0 where
  pub written : CanBeWritten Literal Block x.scalar
  pub indented : least ≤ x.columns
  pub tail_is : is_tail x.tail ≡ true
  pub ends : ends_block false (record { columns = x.columns; known = true }) (text_lines rest) ≡ true

-- what is written for it, put between two texts, is one piece there, whose content is the string (own)
abbrev pub LiteralIsReadBack : ℤ → LiteralText → List ℕ → List ℕ → Type 0
LiteralIsReadBack n x before rest = BlockIsReadBack n x.scalar x.columns x.break x.tail before rest
