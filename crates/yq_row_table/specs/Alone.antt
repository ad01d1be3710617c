-- A node alone on its line, exchanged for another one (own).
use Rattle.std.specs.Prelude.{◌≡◌, ◌==◌, ◌&&◌, ℕ, Bool, true, false, not, List}
use Rattle.yq_core.specs.Text.{is_marker}
use Rattle.yq_row_table.specs.Exchange.{with_content, allows_first}
use Rattle.yq_row_table.specs.Grammar.{IsContent, is_entry, is_more, limit_after, may_be_alone}
use Rattle.yq_row_table.specs.Rows.{Content, Nothing, Inline, Block, Row, after_indent, parent_indent}

-- nothing comes after a mark but perhaps an anchor (own)
abbrev pub holds_nothing : Content → Bool
holds_nothing (Nothing tail) = true
holds_nothing (Inline space node tail) = not (is_more node)
holds_nothing (Block space anchor block) = false

-- What is asked of a content that is in the place of a row's that has neither a dash nor a key: it may be alone on its line and is no marker
-- there, and after it the next row of the part may be (own).
pub record FitsAlone (new : Content) (r : Row) (rest : List ℕ) (after : List Row) : Type 0 where
  pub bare : is_entry r.mark ≡ false
  pub unmarked : (r.column == 0 && is_marker (after_indent (with_content new r) rest)) ≡ false
  pub alone : may_be_alone new ≡ true
  pub content : IsContent (parent_indent r) new rest
  pub next : allows_first (limit_after (with_content new r)) after ≡ true
