-- Rows that come in the place of others in a cut (own).
use Rattle.std.specs.Prelude.{ℕ, List, []}
use Rattle.yq_row_table.{specs.Grammar.IsCut, specs.ItemSplices.SplicedItems, specs.Rows.{Cut, Row}}
use Rattle.yq_row_table.specs.SpliceFits.{FitsIn, InsertFits, RemoveFits, ReplaceFits}
use Rattle.yq_row_table.specs.Splices.{before_rows, after_rows, gap_before, rows_between, splice}

-- A text has this cut (own).
pub record IsCutOfText (c : Cut) : Type 0 where
  pub text : List ℕ
  pub is_cut : IsCut text c

-- new rows, with a gap after them, for those of a part of a cut from one index up to another; parts and rows are counted from 0 (own)
pub record RowSplice : Type 0 where
  pub cut : Cut
  pub part : ℕ
  pub start : ℕ
  pub stop : ℕ
  pub new : List Row
  pub gap : List ℕ

-- the cut with them in that place (own)
abbrev pub cut_spliced : RowSplice → Cut
cut_spliced x = splice x.part x.start x.stop x.new x.gap x.cut

-- the cut with them before the first one of those (own)
abbrev pub cut_inserted : RowSplice → Cut
cut_inserted x = splice x.part x.start x.start x.new x.gap x.cut

-- the cut with the gap alone in that place (own)
abbrev pub cut_removed : RowSplice → Cut
cut_removed x = splice x.part x.start x.stop [] x.gap x.cut

-- the text before that place (own)
abbrev pub before_splice : RowSplice → List ℕ
before_splice x = before_rows x.part x.start x.cut

-- the rows that are there (own)
abbrev pub old_rows : RowSplice → List Row
old_rows x = rows_between x.part x.start x.stop x.cut

-- the gap after those (own)
abbrev pub old_gap : RowSplice → List ℕ
old_gap x = gap_before x.part x.stop x.cut

-- the text after that gap (own)
abbrev pub after_splice : RowSplice → List ℕ
after_splice x = after_rows x.part x.stop x.cut

-- the new rows may be in that place (own)
abbrev pub MaySplice : RowSplice → Type 0
MaySplice x = FitsIn x.part x.start x.stop x.new x.gap x.cut

-- they may be there, and their text begins like that of the old ones (own)
abbrev pub MayReplaceRows : RowSplice → Type 0
MayReplaceRows x = ReplaceFits x.part x.start x.stop x.new x.gap x.cut

-- they may be put in after the row before that place (own)
abbrev pub MayInsert : RowSplice → Type 0
MayInsert x = InsertFits x.part x.start x.new x.gap x.cut

-- the gap alone may be in that place (own)
abbrev pub MayRemove : RowSplice → Type 0
MayRemove x = RemoveFits x.part x.start x.stop x.gap x.cut

-- those rows and the item after them are exchanged, and all other items of the cut stay (own)
abbrev pub ExchangesItems : RowSplice → Type 0
ExchangesItems x = SplicedItems x.part x.start x.stop x.new x.gap x.cut
