-- Documents by the numbers of their parts, both counted from 0 (YAML 1.2.2, 9.1 and 9.2; own).
use Rattle.std.specs.Prelude.{ℕ, zero, suc, ◌+◌, Bool, true, false, ◌||◌, not, length, slice_get, Option, option_map}
use Rattle.yq_row_table.{specs.Grammar.begins_document, specs.Rows.{Cut, last, marked}}
use Rattle.yq_documents.specs.Documents.{document_parts, begins_bare, has_begin}

-- the number of document k among the parts, by whether the first part is a document (9.2)
abbrev pub number_from : Bool → ℕ → Cut → ℕ
number_from is k (last p) = zero
number_from true zero (marked p marker c) = zero
number_from true (suc k) (marked p marker c) = suc (number_from (begins_document marker) k c)
number_from false k (marked p marker c) = suc (number_from (begins_document marker) k c)

-- the number of document k among the parts of a cut (9.2)
abbrev pub part_number : ℕ → Cut → ℕ
part_number k c = number_from (begins_bare c || not (has_begin c)) k c

-- the same, if there is such a document (9.2)
abbrev pub document_part : ℕ → Cut → Option ℕ
document_part k c = option_map (λ p. part_number k c) (slice_get (document_parts c) k)

-- how many rows come before part i of a cut, or before the last one (own)
abbrev pub rows_to : ℕ → Cut → ℕ
rows_to i (last p) = 0
rows_to zero (marked p marker c) = 0
rows_to (suc i) (marked p marker c) = length p.rows + rows_to i c
