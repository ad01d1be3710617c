-- Rows joined from pieces of two, where collections are compact (YAML 1.2.2, section 8.2.1).
use Rattle.std.specs.Prelude.{◌≡◌, ℕ, suc, ◌+◌, ◌≤◌, pos, true, false, List, ◌∷◌, ◌++◌}
use Rattle.yq_core.specs.Text.{is_empty, separates}
use Rattle.yq_row_table.{specs.Grammar.{IsContent, is_entry}, specs.Rows.{Dash, Content, content_text, Row, after_columns, mark_column}}

-- The row in which what comes after the dashes of a row is what comes after the indentation of another one (own).
abbrev pub joined_row : Row → Row → Row
joined_row r q = record { gap = r.gap; column = r.column; dashes = r.dashes ++ q.dashes; mark = q.mark; content = q.content }

-- What comes after a row's indentation may come after the dashes of another one: there are dashes, after them an entry, and it begins in that
-- column (YAML 1.2.2, section 8.2.1; own).
pub record Joins (r q : Row) : Type 0 where
  pub dashes : is_empty r.dashes ≡ false
  pub entry : is_entry q.mark ≡ true
  pub column : q.column ≡ mark_column r

-- a row up to a dash after these dashes, with this content after it (own)
abbrev pub dashed_row : (dashes : List ℕ) → Content → Row → Row
dashed_row dashes new r = record { gap = r.gap; column = r.column; dashes = dashes; mark = Dash; content = new }

-- A content may come after that dash of a row, before a rest: the row has a dash there, and it is apart (YAML 1.2.2, section 8.2.1; own).
pub record DashFits (r : Row) (dashes : List ℕ) (n : ℕ) (more : List ℕ) (new : Content) (rest : List ℕ) : Type 0 where
  pub dash : r.dashes ≡ dashes ++ (n ∷ more)
  pub content : IsContent (pos (after_columns r.column dashes)) new rest
  pub apart : separates (content_text new rest) ≡ true

-- The row in which after the dash of a row, and n spaces, is what is after the indentation of another one (own).
abbrev pub compact_row : ℕ → Row → Row → Row
compact_row n r q = record { gap = r.gap; column = r.column; dashes = r.dashes ++ (n ∷ q.dashes); mark = q.mark; content = q.content }

-- The entry of a row may come after the dash of another one, and n spaces: it begins in that column (YAML 1.2.2, section 8.2.1; own).
pub record CompactFits (n : ℕ) (r q : Row) : Type 0 where
  pub dash : r.mark ≡ Dash
  pub space : 1 ≤ n
  pub entry : is_entry q.mark ≡ true
  pub column : q.column ≡ suc (mark_column r + n)
