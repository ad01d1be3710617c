-- Where a block collection is that is a root, or no rows.
use Rattle.std.proofs.Common.{◌≡◌, ℕ, List, [], ◌∷◌, ◌++◌, Some, Bool, true, false, refl, sym, ap, ◌∙◌, rules}
use Rattle.std.proofs.lemmas.Bool.{cond_both, false≢true}
use Rattle.yq_core.specs.Paths.{Step}
use Rattle.yq_row_table.specs.Rows.{Row, Cut}
use Rattle.yq_documents.specs.Pieces.{TextPiece}
use Rattle.yq_places.specs.PlacedRows.{PlacedPart, placed_document}
use Rattle.yq_places.specs.Placements.{LinesIn, RowsOfEntry, Placement, alone, beside, under, compact, block, root, no_rows}
use Rattle.yq_places.specs.Placements.{entry_placement, is_alone, rows_of_entry, root_lines, root_placement, placement_at}
use Rattle.yq_places.proofs.PlacedPartLaws.{map_some}

-- whether what is somewhere is a root that is a block collection, or no rows
abbrev is_root : Placement → Bool
is_root (alone w) = false
is_root (beside h) = false
is_root (under h column) = false
is_root (compact m column w) = false
is_root (block h indent) = false
is_root (root column w) = true
is_root (no_rows w) = true

entry_other : (e : RowsOfEntry) → is_root (entry_placement e) ≡ false
entry_other e = search (rules, cond_both)

-- no steps lead to what is of that kind
root_found : (n : ℕ) (steps : List Step) (c : Cut) (t : Placement) → placement_at n steps c ≡ Some t → is_root t ≡ true → (steps ≡ []) × (d : PlacedPart) × (placed_document n c ≡ Some d) × (root_placement d d.part.rows ≡ t)
root_found n [] c t at is = let x = map_some (λ (d : PlacedPart). root_placement d d.part.rows) (placed_document n c) t at in (refl, x.0, x.1, x.2)
root_found n (s ∷ ss) c t at is = let x = map_some entry_placement (rows_of_entry n (s ∷ ss) c) t at in absurd (false≢true (sym (entry_other x.0) ∙ (ap is_root x.2 ∙ is)))

-- A block collection that is a root: the rows of its document.
pub record HasRoot (n : ℕ) (c : Cut) (column : ℕ) (w : LinesIn) : Type 0 where
  pub d : PlacedPart
  pub placed : placed_document n c ≡ Some d
  pub row : Row
  pub others : List Row
  pub rows_are : d.part.rows ≡ row ∷ others
  pub block : is_alone row ≡ false
  pub column_is : row.column ≡ column
  pub is : root_lines d row others ≡ w

-- A root that isn't written: the document without rows, and the text round it.
pub record IsUnwrittenRoot (n : ℕ) (c : Cut) (w : TextPiece) : Type 0 where
  pub d : PlacedPart
  pub placed : placed_document n c ≡ Some d
  pub rows_are : d.part.rows ≡ []
  pub before_is : w.before ≡ d.before ++ d.part.end
  pub text_is : w.text ≡ []
  pub following_is : w.after ≡ d.after

module _ (n : ℕ) (c : Cut) (d : PlacedPart) (placed : placed_document n c ≡ Some d) where
  rooted_there : (column : ℕ) (w : LinesIn) (rs : List Row) → d.part.rows ≡ rs → root_placement d rs ≡ root column w → HasRoot n c column w
  rooted_there column w rs h1 h2 = search rules

  unwritten_there : (w : TextPiece) (rs : List Row) → d.part.rows ≡ rs → root_placement d rs ≡ no_rows w → IsUnwrittenRoot n c w
  unwritten_there w rs h1 h2 = search rules

pub has_root : (n : ℕ) (steps : List Step) (c : Cut) (column : ℕ) (w : LinesIn) → placement_at n steps c ≡ Some (root column w) → (steps ≡ []) × HasRoot n c column w
has_root n steps c column w at = let x = root_found n steps c (root column w) at refl in (x.0, rooted_there n c x.1 x.2 column w x.1.part.rows refl x.3)

pub has_no_rows : (n : ℕ) (steps : List Step) (c : Cut) (w : TextPiece) → placement_at n steps c ≡ Some (no_rows w) → (steps ≡ []) × IsUnwrittenRoot n c w
has_no_rows n steps c w at = let x = root_found n steps c (no_rows w) at refl in (x.0, unwritten_there n c x.1 x.2 w x.1.part.rows refl x.3)
