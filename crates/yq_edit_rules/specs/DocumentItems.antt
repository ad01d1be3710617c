-- A document of a cut among the items of that, which are its rows and the ends of its parts, in order (own).
use Rattle.std.specs.Prelude.{◌≡◌, ℕ, List, [], ◌∷◌, ◌++◌, slice_get, Some}
use Rattle.yq_row_table.{specs.Items.{Item, end_item, rows_items, items_of_cut, items_text}, specs.Rows.{Part, Cut}}
use Rattle.yq_documents.specs.Documents.{document_parts}
use Rattle.yq_edit_rules.{specs.Changed.put_document, specs.DocumentRows.after_document}

-- Document k of a cut is among items, and so is another part that replaces it; all other items stay.
pub record HasItems (c : Cut) (k : ℕ) (p : Part) : Type 0 where
  pub above : List Item
  pub marker : List ℕ
  pub below : List Item
  pub after : after_document k c ≡ marker ++ items_text below []
  pub old : items_of_cut c ≡ above ++ rows_items p.rows (end_item p.end marker ∷ below)
  pub put : (q : Part) → items_of_cut (put_document k q c) ≡ above ++ rows_items q.rows (end_item q.end marker ∷ below)

-- Each document of a cut is among its items so.
abbrev pub DocumentHasItems : Type 0
DocumentHasItems = (c : Cut) (k : ℕ) (p : Part) → slice_get (document_parts c) k ≡ Some p → HasItems c k p
