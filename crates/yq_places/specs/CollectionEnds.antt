-- Where one more item or entry of a block collection is: after the collection's last line (YAML 1.2.2, 8.2; own).
use Rattle.std.specs.Prelude.{ℕ, List, Bool, true}
use Rattle.yq_core.specs.Text.{is_line}
use Rattle.yq_row_table.specs.Rows.{Content, Nothing, Inline, Block}

-- The end of a block collection in a text: the column of its items or entries, the text up to the end of its last line, with its break,
-- whether that line has one, and the text after.
pub record CollectionEnd : Type 0 where
  pub column : ℕ
  pub before : List ℕ
  pub broken : Bool
  pub after : List ℕ

-- what comes after a mark ends in a break, as each block scalar does (5.4, 8.1)
abbrev pub is_broken : Content → Bool
is_broken (Nothing tail) = is_line tail
is_broken (Inline space node tail) = is_line tail
is_broken (Block space anchor block) = true
