-- Regions (own): rows and ends of parts of a cut, one after the other, and what reading them alone gives.
use Rattle.std.specs.Prelude.{◌≡◌, ℕ, Bool, true, false, List, [], ◌∷◌, ◌++◌, Some, if◌then◌else◌}
use Rattle.yq_row_table.{specs.Grammar.IsCut, specs.Items.{Item, end_item, items_of_cut, items_text}, specs.Reading.all_parts}
use Rattle.yq_row_table.specs.Rows.{Cut, cut_text}

-- no items (own)
abbrev pub no_items : List Item → Bool
no_items [] = true
no_items (x ∷ xs) = false

-- These items are in the cut of a text, after some and before others; one of the two last lists isn't empty (own).
pub record AreItemsIn (xs back : List Item) : Type 0 where
  pub text : List ℕ
  pub cut : Cut
  pub is_cut : IsCut text cut
  pub front : List Item
  pub items : items_of_cut cut ≡ front ++ (xs ++ back)
  pub some : no_items (xs ++ back) ≡ false

-- items and the end of their part, with the line of its marker (own)
abbrev pub ended : List Item → (gap marker : List ℕ) → List Item
ended xs gap marker = xs ++ (end_item gap marker ∷ [])

-- what is read of these items alone: they, and an empty end after them where they are not the last ones (own)
abbrev pub region_items : List Item → List Item → List Item
region_items xs back = if no_items back then xs else ended xs [] []

-- Reading the text of items alone gives a cut of which these are the items (own).
pub record IsReadAlone (xs back : List Item) : Type 0 where
  pub cut : Cut
  pub read : all_parts true (items_text xs []) ≡ Some cut
  pub text : cut_text cut ≡ items_text xs []
  pub items : items_of_cut cut ≡ region_items xs back
