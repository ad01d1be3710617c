-- The pieces of a row, one after the other, are the row.
use Rattle.std.proofs.Common.{◌≡◌, ℕ, ◌+◌, List, [], ◌∷◌, ◌++◌, length, refl, sym, ap, ◌∙◌, append_assoc, length-append, replicate, rules}
use Rattle.std.proofs.lemmas.List.{length-replicate}
use Rattle.yq_core.{specs.Nodes.node_text, proofs.NodesWrittenLaws.node_then}
use Rattle.yq_row_table.specs.Offsets.{row_length}
use Rattle.yq_row_table.specs.Rows.{RowMark, Bare, Dash, Key, Content, dashes_text, mark_text, content_text, Row, print_row}
use Rattle.yq_row_table.specs.View.{Slices, last_dash, key_of_mark, colon_of, content_cut, slices, slices_text}

pub content_slices : (c : Content) (rest : List ℕ) → (content_cut c).0 ++ ((content_cut c).1 ++ ((content_cut c).2 ++ ((content_cut c).3 ++ ((content_cut c).4 ++ ((content_cut c).5 ++ rest))))) ≡ content_text c rest
unfolding node_text
content_slices c rest = search (rules, node_then)

mark_slices : (ns : List ℕ) (mark : RowMark) (t : List ℕ) → dashes_text ns (last_dash mark) ++ (key_of_mark mark ++ (colon_of mark ++ t)) ≡ dashes_text ns (mark_text mark t)
mark_slices [] Bare t = refl
mark_slices [] Dash t = refl
mark_slices [] (Key key colon) t = refl
mark_slices (n ∷ ns) mark t =
    ap (λ l. 45 ∷ l) (append_assoc (replicate n 32) (dashes_text ns (last_dash mark)) (key_of_mark mark ++ (colon_of mark ++ t)) ∙ ap (λ l. replicate n 32 ++ l) (mark_slices ns mark t))

pub slices_are : (r : Row) (rest : List ℕ) → slices_text (slices r) rest ≡ print_row r rest
slices_are r rest = simp (content_slices, mark_slices)

-- how long a row is
pub slices-length : (s : Slices) (rest : List ℕ) → length (slices_text s rest) ≡ row_length s + length rest
slices-length s rest = search (rules, length-replicate, length-append)

pub print-length : (r : Row) (rest : List ℕ) → length (print_row r rest) ≡ row_length (slices r) + length rest
print-length r rest = ap length (sym (slices_are r rest)) ∙ slices-length (slices r) rest
