-- Which rows and ends of parts a change of a text touches, by the bytes that it keeps before and after (own).
use Rattle.std.specs.Prelude.{◌≡◌, ℕ, ◌-◌, nat_lt, List, [], ◌∷◌, ◌++◌, length, if◌then◌else◌}
use Rattle.yq_row_table.{specs.Items.{Item, row_item, end_item, items_of_cut, items_text}, specs.Rows.{print_row, Cut}}

-- the text of an item (own)
abbrev pub item_text : Item → List ℕ
item_text (row_item r) = print_row r []
item_text (end_item gap marker) = gap ++ marker

-- the items that end in front of an offset of their text (own)
abbrev pub before_offset : ℕ → List Item → List Item
before_offset n [] = []
before_offset n (i ∷ is) = if nat_lt (length (item_text i)) n then i ∷ before_offset (n - length (item_text i)) is else []

-- the items that begin after the place that is so many bytes in front of the end of their text (own)
abbrev pub in_back : ℕ → List Item → List Item
in_back n [] = []
in_back n (i ∷ is) = if nat_lt (length (items_text (i ∷ is) [])) n then i ∷ is else in_back n is

-- The items of a cut that lie neither in front of so many bytes nor after that many others at its end are exchanged, and no others: those that neither
-- end in front of the first bytes' end nor begin after the last bytes' beginning. The other ones are those of the new cut that do so (own).
pub record TouchesOnly (front_kept back_kept : ℕ) (c new : Cut) : Type 0 where
  pub touched : List Item
  pub written : List Item
  pub old_are : items_of_cut c ≡ before_offset front_kept (items_of_cut c) ++ (touched ++ in_back back_kept (items_of_cut c))
  pub new_are : items_of_cut new ≡ before_offset front_kept (items_of_cut c) ++ (written ++ in_back back_kept (items_of_cut c))
  pub front_same : before_offset front_kept (items_of_cut new) ≡ before_offset front_kept (items_of_cut c)
  pub back_same : in_back back_kept (items_of_cut new) ≡ in_back back_kept (items_of_cut c)
