-- Which parts of a text are documents, by where its parts end.
use Rattle.std.proofs.Common.{rules, ◌≡◌, ℕ, ◌+◌, true, false, ◌||◌, not, eqb, List, length, drop, Some, refl, sym, ap, ◌∙◌}
use Rattle.std.{proofs.lemmas.Bool.false_from_ne_true, specs.List.slice_get}
use Rattle.yq_outline.proofs.EndsLaws.{drop_at}
use Rattle.yq_row_table.{specs.Grammar.{begins_document, no_rows}, specs.Rows.{Row, Cut, last, marked}}
use Rattle.yq_row_table.specs.View.{Bound, bounds_from, bounds_of, RowsView, rows_view}
use Rattle.yq_documents.{specs.Documents.{has_begin, begins_bare}, specs.PartReading.{some_begin, first_rows}}

-- a marker that is `---`, among others
pub begin_here : (bs : List Bound) (i : ℕ) (b : Bound) → slice_get bs i ≡ Some b → begins_document b.marker ≡ true → some_begin (drop i bs) ≡ true
begin_here bs i b h e = ap some_begin (drop_at bs i b h) ∙ rw e refl

pub begin_later : (bs : List Bound) (i : ℕ) (b : Bound) → slice_get bs i ≡ Some b → begins_document b.marker ≡ false → some_begin (drop (i + 1) bs) ≡ some_begin (drop i bs)
begin_later bs i b h e = sym (ap some_begin (drop_at bs i b h) ∙ rw e refl)

-- whether the first part is a document
begin_is : (n : ℕ) (c : Cut) → some_begin (bounds_from n c) ≡ has_begin c
begin_is n (last p) = refl
begin_is n (marked p marker c) = ap (λ b. begins_document marker || b) (begin_is (n + length p.rows) c)

bare_is : (rows : List Row) → not (eqb (0 + length rows) 0) ≡ not (no_rows rows)
bare_is rows = search (rules, false_from_ne_true)

first_is : (c : Cut) → first_rows (bounds_of c) ≡ begins_bare c
first_is c = search (rules, bare_is)

pub document_is : (c : Cut) (s : RowsView) → s ≡ rows_view c → (first_rows s.bounds || not (some_begin s.bounds)) ≡ (begins_bare c || not (has_begin c))
document_is c s e = ap (λ (x : RowsView). first_rows x.bounds || not (some_begin x.bounds)) e ∙ (λ i. first_is c i || not (begin_is 0 c i))
