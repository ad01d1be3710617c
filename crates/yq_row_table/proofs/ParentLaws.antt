-- The parent indentation of what comes after a row's mark, given by the row's pieces.
use Rattle.std.proofs.Common.{rules, ◌≡◌, ℕ, suc, ◌+◌, ◌<◌, List, [], ◌∷◌, length, pos, Some, arith, replicate, length-append}
use Rattle.std.{proofs.lemmas.Bool.false≢true, proofs.lemmas.List.length-replicate, proofs.lemmas.Option.same_Some}
use Rattle.yq_core.proofs.Bools.{bind_some}
use Rattle.yq_row_table.{specs.Grammar.{AreDashes, IsMark, Limit}, specs.Slicing.{sliced, row_sliced}}
use Rattle.yq_row_table.{specs.Offsets.{ParentAgrees, parent_by}, specs.Reading.row_at}
use Rattle.yq_row_table.{specs.Rows.{Content, RowMark, after_columns, dashes_text, parent_of}, specs.View.{Slices, colon_of, last_dash}}
use Rattle.yq_row_table.{proofs.BeginSteps.columns_from, proofs.RowLaws.row_takes}

dashes_length : (ns rest : List ℕ) → length (dashes_text ns rest) ≡ after_columns 0 ns + length rest
dashes_length [] rest = omega arith
dashes_length (n ∷ ns) rest = omega (arith, length-append (replicate n 32) (dashes_text ns rest), length-replicate {A = ℕ} n 32, dashes_length ns rest, columns_from (suc (0 + n)) ns)

by_colon : (columns colon : ℕ) → 0 < colon → parent_by columns colon ≡ pos columns
by_colon columns colon some = search rules

parent_agrees : (column : ℕ) (ns : List ℕ) (mark : RowMark) (c : Content) (rest : List ℕ) → AreDashes ns mark → IsMark mark c rest →
    parent_of mark (after_columns column ns) ≡ parent_by (column + length (dashes_text ns (last_dash mark))) (length (colon_of mark))
parent_agrees column ns mark c rest d m = search (rules, false≢true, dashes_length, columns_from, length-append, by_colon)

pub row_known : (limit : Limit) (gap t : List ℕ) (s : Slices) (l : Limit) (after : List ℕ) → row_sliced limit gap t ≡ Some (s, l, after) → ParentAgrees s
row_known limit gap t s l after h =
    let x = bind_some (row_at limit gap t) h in
    let is : sliced x.0 ≡ (s, l, after) = same_Some _ _ x.2 in
    let cut = row_takes limit gap t x.0 x.1 in
    search (rules, parent_agrees)
