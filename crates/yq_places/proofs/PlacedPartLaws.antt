-- Documents in their place in a text.
use Rattle.std.proofs.Common.{◌≡◌, ℕ, zero, suc, ◌+◌, ◌<◌, List, [], ◌++◌, length, take, Option, Some, option_map, true, refl, ap, subst}
use Rattle.std.{proofs.Common.{arith, append_assoc, rules}, proofs.lemmas.Bool.{lt-ltb, le-ltb, cond-true, cond-false}}
use Rattle.std.{proofs.lemmas.Option.same_Some, specs.List.slice_get}
use Rattle.yq_row_table.{specs.Grammar.{unlimited, AreRows, AreParts}, specs.Rows.{rows_text, Part, part_text, Cut, last, marked, cut_text}}
use Rattle.yq_row_table.{specs.Splices.{nth_part, after_part}, proofs.PlaceLaws.part_then, proofs.splices.PartPlaces.part_in}
use Rattle.yq_documents.{specs.Documents.document_parts, specs.PartNumbers.{part_number, rows_to}, specs.LinesInRows.document_row}
use Rattle.yq_documents.proofs.PartNumberLaws.{part_there}
use Rattle.yq_places.{specs.CommentReading.before_row, specs.PlacedRows.{PlacedPart, before_part, placed_at, placed_document}}

pub map_some : {A B : Type 0} (f : A → B) (o : Option A) (y : B) → option_map f o ≡ Some y → (x : A) × (o ≡ Some x) × (f x ≡ y)
map_some f o y h1 = search (rules, same_Some)

pub following_text : (p : Part) (marker before text rest : List ℕ) → rest ≡ before ++ text → part_text p (marker ++ rest) ≡ (part_text p marker ++ before) ++ text
following_text p marker before text rest e = cc (part_then p marker (before ++ text), append_assoc (part_text p marker) before text)

-- part i between two texts
pub text_at : (i : ℕ) (c : Cut) → cut_text c ≡ before_part i c ++ part_text (nth_part i c) (after_part i c)
text_at i (last p) = refl
text_at zero (marked p marker c) = refl
text_at (suc i) (marked p marker c) = following_text p marker (before_part i c) (part_text (nth_part i c) (after_part i c)) (cut_text c) (text_at i c)

-- A document is the part of its number, between two texts.
pub record IsEntryInText (k : ℕ) (c : Cut) (d : PlacedPart) : Type 0 where
  pub there : slice_get (document_parts c) k ≡ Some d.part
  pub is : placed_at (part_number k c) c ≡ d
  pub text : cut_text c ≡ d.before ++ part_text d.part d.after

pub part_is_there : (k : ℕ) (c : Cut) (d : PlacedPart) → placed_document k c ≡ Some d → IsEntryInText k c d
part_is_there k c d e = search (rules, map_some, part_there, text_at)

pub placed_is : (k : ℕ) (c : Cut) (p : Part) → slice_get (document_parts c) k ≡ Some p → (d : PlacedPart) × (placed_document k c ≡ Some d) × (d.part ≡ p)
placed_is k c p e = (placed_at (part_number k c) c, ap (option_map (λ (x : Part). placed_at (part_number k c) c)) e, part_there c k p e)

-- the rows of a document are rows
pub part_rows : (k : ℕ) (c : Cut) (d : PlacedPart) → AreParts true c → placed_document k c ≡ Some d → AreRows unlimited d.part.rows d.part.end d.after
part_rows k c d h e = subst (λ (y : PlacedPart). AreRows unlimited y.part.rows y.part.end y.after) (part_is_there k c d e).is (part_in c (part_number k c) true h).rows

-- the text before a row of part i
pub row_before : (i : ℕ) (c : Cut) (j : ℕ) → j < length (nth_part i c).rows → before_row (rows_to i c + j) c ≡ before_part i c ++ rows_text (take j (nth_part i c).rows) []
row_before i (last p) j h = let same : 0 + j ≡ j = omega arith in ap (λ (k : ℕ). rows_text (take k p.rows) []) same
row_before zero (marked p marker c) j h = search (rules, arith, cond-true, lt-ltb)
row_before (suc i) (marked p marker c) j h = search (rules, arith, le-ltb, cond-false, following_text, row_before i c j h)

pub text_before : (n : ℕ) (c : Cut) (d : PlacedPart) → placed_document n c ≡ Some d → (j : ℕ) → j < length d.part.rows → before_row (document_row n c + j) c ≡ d.before ++ rows_text (take j d.part.rows) []
text_before n c d e = subst (λ (y : PlacedPart). (j : ℕ) → j < length y.part.rows → before_row (document_row n c + j) c ≡ y.before ++ rows_text (take j y.part.rows) []) (part_is_there n c d e).is (row_before (part_number n c) c)
