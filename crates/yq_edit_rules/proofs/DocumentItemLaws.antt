-- The items of a cut in which a document is exchanged.
use Rattle.std.proofs.Common.{rules, ◌≡◌, ℕ, zero, suc, List, [], ◌∷◌, ◌++◌, refl, sym, ap, ◌∙◌}
use Rattle.yq_row_table.specs.Items.{Item, row_item, end_item, rows_items, items_of_cut, items_text}
use Rattle.yq_row_table.{specs.Rows.{Row, Part, Cut, last, marked}, specs.Splices.{after_part, nth_part}, proofs.ItemLaws.items_of_text}
use Rattle.yq_edit_rules.{specs.Changed.put_part, specs.DocumentItems.DocumentHasItems}
use Rattle.yq_documents.{specs.PartNumbers.part_number, proofs.PartNumberLaws.part_there}

-- ---- rows as items

pub rows_before : (rs : List Row) (a b : List Item) → rows_items rs (a ++ b) ≡ rows_items rs a ++ b
rows_before [] a b = refl
rows_before (r ∷ rs) a b = ap (λ is. row_item r ∷ is) (rows_before rs a b)

pub rows_joined : (a b : List Row) (is : List Item) → rows_items (a ++ b) is ≡ rows_items a (rows_items b is)
rows_joined [] b is = refl
rows_joined (r ∷ a) b is = ap (λ js. row_item r ∷ js) (rows_joined a b is)

-- ---- a document among items

-- the same of part i
record Has (i : ℕ) (c : Cut) : Type 0 where
  above : List Item
  marker : List ℕ
  below : List Item
  after : after_part i c ≡ marker ++ items_text below []
  old : items_of_cut c ≡ above ++ rows_items (nth_part i c).rows (end_item (nth_part i c).end marker ∷ below)
  put : (q : Part) → items_of_cut (put_part i q c) ≡ above ++ rows_items q.rows (end_item q.end marker ∷ below)

-- items after one more part
later : (x : Part) (m : List ℕ) (above is all : List Item) → all ≡ above ++ is → rows_items x.rows (end_item x.end m ∷ all) ≡ rows_items x.rows (end_item x.end m ∷ above) ++ is
later x m above is all e = ap (λ js. rows_items x.rows (end_item x.end m ∷ js)) e ∙ rows_before x.rows (end_item x.end m ∷ above) is

has : (i : ℕ) (c : Cut) → Has i c
has i (last x) = record { above = []; marker = []; below = []; after = refl; old = refl; put = λ q. refl }
has zero (marked x m c) = record { above = []; marker = m; below = items_of_cut c; after = ap (λ t. m ++ t) (sym (items_of_text c)); old = refl; put = λ q. refl }
has (suc i) (marked x m c) =
    let h = has i c in
    record { above = rows_items x.rows (end_item x.end m ∷ h.above); marker = h.marker; below = h.below; after = h.after; old = later x m h.above _ _ h.old; put = λ q. later x m h.above _ _ (h.put q) }

pub document_has_items : DocumentHasItems
document_has_items c k p e = search (rules, has (part_number k c) c, part_there)
