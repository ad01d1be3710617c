-- Reading (own; you may skip it: the clauses `found` and `only` show that it agrees with the grammar): the lines of the rows of a part.
use Rattle.std.specs.Prelude.{ℕ, zero, suc, ◌+◌, ◌==◌, Bool, true, false, ◌||◌, not, List, [], ◌∷◌, ◌&&◌, Option, Some, None}
use Rattle.std.specs.List.{list_all}
use Rattle.yq_row_table.{specs.Grammar.begins_document, specs.Rows.Part, specs.View.Bound}
use Rattle.yq_documents.specs.Reading.{have_fit_keys, has_short_root}

-- the rows of a part are fit: their keys are, and the root is no plain scalar of several lines (own)
abbrev pub part_fits : Part → Bool
part_fits p = have_fit_keys p.rows && has_short_root p.rows

-- some marker is `---` (own)
abbrev pub some_begin : List Bound → Bool
some_begin [] = false
some_begin (b ∷ bs) = begins_document b.marker || some_begin bs

-- rows come before the first marker (own)
abbrev pub first_rows : List Bound → Bool
first_rows [] = false
first_rows (b ∷ bs) = not (b.rows == 0)

-- the number of the part that is document n, after k parts, by whether the next one is a document (own)
abbrev pub number_in : Bool → ℕ → ℕ → List Bound → Option ℕ
number_in is n k [] = None
number_in true zero k (b ∷ bs) = Some k
number_in true (suc n) k (b ∷ bs) = number_in (begins_document b.marker) n (k + 1) bs
number_in false n k (b ∷ bs) = number_in (begins_document b.marker) n (k + 1) bs

-- the rows of parts are fit (own)
abbrev pub all_fit : List Part → Bool
all_fit ps = list_all part_fits ps
