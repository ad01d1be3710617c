-- The text of a row up to where something is written after its key or dash.
use Rattle.std.proofs.Common.{◌≡◌, ℕ, ◌+◌, ◌≤◌, Bool, true, false, cond, List, [], ◌∷◌, ◌++◌, length, replicate, sym, ap, ◌∙◌, arith}
use Rattle.std.proofs.lemmas.List.{length-append}
use Rattle.yq_core.specs.Text.{is_empty}
use Rattle.yq_row_table.specs.Exchange.{row_front, with_content}
use Rattle.yq_row_table.specs.Rows.{Content, content_text, Row, after_dashes, after_indent, dashes_text, print_row}
use Rattle.yq_row_table.{specs.View.{content_cut, slices}, proofs.PlaceLaws.{dashes_then, row_front-append}}
use Rattle.yq_row_table.{proofs.seams.JoinLaws.dashes_text-append, proofs.SliceLaws.content_slices, specs.Items.rows_items}
use Rattle.yq_places.specs.RowPieces.{anchor_before, space_before}
use Rattle.yq_edit_rules.{specs.BlockPlaces.{IsUpto, at_mark, at_dash}, specs.Local.InFirst, proofs.ItemsLocal.first_within}

-- it lies in the row, with the white space after it
pub own_space_lead : (r : Row) → length (row_front r ++ (anchor_before (slices r) ++ space_before (slices r))) ≤ length (print_row r [])
own_space_lead r =
    let x = content_cut r.content in
    let more : List ℕ = x.3 ++ (x.4 ++ (x.5 ++ [])) in
    let text : content_text r.content [] ≡ x.0 ++ (x.1 ++ (x.2 ++ more)) = sym (content_slices r.content []) in
    omega (arith, ap length (row_front-append r []), ap length text, length-append {A = ℕ}, spaced (is_empty x.1) x.0 x.1 x.2)
  where
    spaced : (b : Bool) (p q r : List ℕ) → length (cond b [] (p ++ q)) + length (cond b p r) ≤ length p + (length q + length r)
    spaced true p q r = omega arith
    spaced false p q r = omega (arith, length-append p q)

-- so does that without the white space
pub own_lead : (r : Row) → length (row_front r ++ anchor_before (slices r)) ≤ length (print_row r [])
own_lead r =
    let a : List ℕ = anchor_before (slices r) in
    let w : List ℕ = space_before (slices r) in
    omega (arith, own_space_lead r, length-append (row_front r) a, length-append (row_front r) (a ++ w), length-append a w)

-- so does the text up to a dash
pub upto_long : {s r : Row} → IsUpto s r → length (row_front s) ≤ length (print_row r [])
upto_long (at_mark {r} entry) = omega (arith, ap length (row_front-append r []), length-append (row_front r) (content_text r.content []))
upto_long (at_dash {r} {ns} n ms is) =
    let more : List ℕ = replicate n 32 ++ dashes_text ms (after_dashes r []) in
    let own : after_indent r [] ≡ dashes_text ns (45 ∷ []) ++ more =
    ap (λ ds. dashes_text ds (after_dashes r [])) is ∙ (dashes_text-append ns (n ∷ ms) (after_dashes r []) ∙ dashes_then ns (45 ∷ []) more) in
    omega (arith, ap length own, length-append {A = ℕ})

-- the text of a row that comes after others begins with what comes before a place on its line
pub first_lead : (b f p before more lead : List ℕ) → b ++ (f ++ p) ≡ before ++ more → before ≡ (b ++ f) ++ lead → length lead ≤ length p
first_lead b f p before more lead e is =
    omega (arith, ap length e, ap length is, length-append b (f ++ p), length-append f p, length-append before more, length-append (b ++ f) lead, length-append b f)

-- so does that of a row with another content
pub content_first : (x : Content) (r : Row) → InFirst (row_front r) (rows_items (with_content x r ∷ []) [])
content_first x r = first_within _ (row_front r) (content_text x []) (row_front-append (with_content x r) [])
