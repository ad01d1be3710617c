-- Gaps that are repaired after a block scalar (own).
use Rattle.std.specs.Prelude.{◌≡◌, ◌<◌, ◌⊎◌, ℕ, Bool, List, [], true}
use Rattle.yq_core.{specs.Block.{BlockText, RawLines, keeps}, specs.BlockRepair.{AreGap, comes_later, repair}}
use Rattle.yq_core.{specs.BlockWritten.ends_with_break, specs.Text.{joined, text_lines}, specs.declared.block_lines.TextIndent.TextIndent}

-- A gap may be repaired after a block scalar whose text is so indented: each of its lines is blank or a comment, a less indented line or the
-- end comes after it, and its comments go to a lower column (own).
pub record MayRepair (indent : TextIndent) (column : ℕ) (gap rest : RawLines) : Type 0 where
  pub is_gap : AreGap gap
  pub after : comes_later indent rest ≡ true
  pub lower : column < indent.columns

-- The same of the lines of a gap that ends in a break, or ends the text (own).
pub record MayRepairAfter (b : BlockText) (column : ℕ) (gap rest : List ℕ) : Type 0 where
  pub lines : MayRepair b.indent column (text_lines gap) (text_lines rest)
  pub broken : (ends_with_break (text_lines gap) ≡ true) ⊎ (rest ≡ [])

-- a gap, repaired after a block scalar that keeps empty lines or doesn't, and whose text is so indented, its comments in that column (own)
abbrev pub repaired_gap : Bool → ℕ → ℕ → List ℕ → List ℕ
repaired_gap keep indent column gap = joined (repair keep indent column (text_lines gap))

-- the same by the block scalar (own)
abbrev pub repaired_after : BlockText → ℕ → List ℕ → List ℕ
repaired_after b column gap = repaired_gap (keeps b.chomping) b.indent.columns column gap
