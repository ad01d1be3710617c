-- A row after the dashes of another one.
use Rattle.std.proofs.Common.{rules, ◌≡◌, ℕ, suc, ℤ, ◌+◌, ◌≤◌, true, false, List, [], ◌∷◌, ◌++◌, refl, sym, ap, ◌∙◌, subst, replicate, Some}
use Rattle.std.proofs.lemmas.Bool.{false≢true}
use Rattle.yq_core.{specs.Text.{is_empty, separates}, specs.Alike.{Alike, byte}}
use Rattle.yq_row_table.specs.Grammar.{IsContent, IsMark, AreDashes, is_entry, IsRow, Limit, limit_after, limit_after_content}
use Rattle.yq_row_table.specs.Rows.{RowMark, dashes_text, after_columns, mark_column, parent_of, Row, after_dashes, after_indent}
use Rattle.yq_row_table.specs.Rows.{parent_indent, Dash, Content, content_text, mark_text}
use Rattle.yq_row_table.{specs.Joined.{joined_row, Joins, dashed_row, DashFits, compact_row, CompactFits}, specs.Seams.TakesPlace}
use Rattle.yq_row_table.{proofs.AlikeRows.dashes_text_alike, proofs.RowPlaces.takes_place}

pub dashes_text-append : (ns ms t : List ℕ) → dashes_text (ns ++ ms) t ≡ dashes_text ns (dashes_text ms t)
dashes_text-append [] ms t = refl
dashes_text-append (n ∷ ns) ms t = ap (λ l. 45 ∷ (replicate n 32 ++ l)) (dashes_text-append ns ms t)

pub after_columns-append : (column : ℕ) (ns ms : List ℕ) → after_columns column (ns ++ ms) ≡ after_columns (after_columns column ns) ms
after_columns-append column [] ms = refl
after_columns-append column (n ∷ ns) ms = after_columns-append (suc (column + n)) ns ms

dashes_joined : (ns ms : List ℕ) (old new : RowMark) → is_entry new ≡ true → AreDashes ns old → AreDashes ms new → AreDashes (ns ++ ms) new
dashes_joined [] ms old new e h k = k
dashes_joined (n ∷ ns) ms old new e h k = (h.0, e, dashes_joined ns ms old new e h.2 k)

pub space_apart : (n : ℕ) (t : List ℕ) → 1 ≤ n → separates (replicate n 32 ++ t) ≡ true
space_apart n t h = search rules

dashes_alike : (ns t u : List ℕ) (mark : RowMark) → is_empty ns ≡ false → AreDashes ns mark → Alike (Some false) (dashes_text ns t) (dashes_text ns u)
dashes_alike [] t u mark some h = absurd (false≢true (sym some))
dashes_alike (n ∷ ns) t u mark some h = byte refl refl (space_apart n (dashes_text ns t) h.0) (space_apart n (dashes_text ns u) h.0)

same_parent : (r q : Row) → q.column ≡ mark_column r → parent_indent (joined_row r q) ≡ parent_indent q
same_parent r q e = ap (parent_of q.mark) (after_columns-append r.column r.dashes q.dashes ∙ ap (λ n. after_columns n q.dashes) (sym e))

pub row_joined : (limit other : Limit) (r q : Row) (t u : List ℕ) → IsRow limit r t → IsRow other q u → Joins r q → TakesPlace limit r t (joined_row r q) u
row_joined limit other r q t u h k f = search (rules, dashes_text-append, dashes_alike, same_parent, takes_place, dashes_joined)

pub limit_joined : (r q : Row) → q.column ≡ mark_column r → limit_after (joined_row r q) ≡ limit_after q
limit_joined r q e = ap (λ (n : ℤ). limit_after_content n q.content) (same_parent r q e)

-- a row with other pieces after its first dashes
dashes_front : (ns ms : List ℕ) (old : RowMark) → AreDashes (ns ++ ms) old → AreDashes ns Dash
dashes_front [] ms old h = tt
dashes_front (n ∷ ns) ms old h = (h.0, refl, dashes_front ns ms old h.2)

dashes_back : (ns ms : List ℕ) (old : RowMark) → AreDashes (ns ++ ms) old → AreDashes ms old
dashes_back [] ms old h = h
dashes_back (n ∷ ns) ms old h = dashes_back ns ms old h.2

pub row_dashed : (limit : Limit) (r : Row) (ns : List ℕ) (n : ℕ) (ms : List ℕ) (new : Content) (t u : List ℕ) → IsRow limit r t → DashFits r ns n ms new u → TakesPlace limit r t (dashed_row ns new r) u
row_dashed limit r ns n ms new t u h f =
    let own : AreDashes (ns ++ (n ∷ ms)) r.mark = subst (λ (x : List ℕ). AreDashes x r.mark) f.dash h.dashes in
    let one : 1 ≤ n = (dashes_back ns (n ∷ ms) r.mark own).0 in
    let after : List ℕ = dashes_text ms (after_dashes r t) in
    let text : after_indent r t ≡ dashes_text ns (45 ∷ (replicate n 32 ++ after)) = ap (λ (x : List ℕ). dashes_text x (after_dashes r t)) f.dash ∙ dashes_text-append ns (n ∷ ms) (after_dashes r t) in
    let alike = dashes_text_alike ns _ _ (byte {b = 45} {t = replicate n 32 ++ after} {u = content_text new u} refl refl (space_apart n after one) f.apart) in
    let indent : Alike (Some false) (after_indent r t) (dashes_text ns (45 ∷ content_text new u)) = subst (λ (x : List ℕ). Alike (Some false) x (dashes_text ns (45 ∷ content_text new u))) (sym text) alike in
    takes_place limit r t ns Dash new u h indent (dashes_front ns (n ∷ ms) r.mark own) f.apart f.content

pub row_compact : (limit other : Limit) (n : ℕ) (r q : Row) (t u : List ℕ) → IsRow limit r t → IsRow other q u → CompactFits n r q → TakesPlace limit r t (compact_row n r q) u
row_compact limit other n r q t u h k f =
    let x : List ℕ = content_text r.content t in
    let apart : separates x ≡ true = subst (λ (m : RowMark). IsMark m r.content t) f.dash h.mark in
    let old : after_indent r t ≡ dashes_text r.dashes (45 ∷ x) = ap (λ (m : RowMark). dashes_text r.dashes (mark_text m x)) f.dash in
    let new : dashes_text (r.dashes ++ (n ∷ q.dashes)) (after_dashes q u) ≡ dashes_text r.dashes (45 ∷ (replicate n 32 ++ after_indent q u)) = dashes_text-append r.dashes (n ∷ q.dashes) (after_dashes q u) in
    let indent : Alike (Some false) (after_indent r t) (dashes_text (r.dashes ++ (n ∷ q.dashes)) (after_dashes q u)) =
    rw (old, new) (dashes_text_alike r.dashes _ _ (byte refl refl apart (space_apart n (after_indent q u) f.space))) in
    let dashes : AreDashes (r.dashes ++ (n ∷ q.dashes)) q.mark = dashes_joined r.dashes (n ∷ q.dashes) r.mark q.mark f.entry h.dashes (f.space, f.entry, k.dashes) in
    let columns : after_columns r.column (r.dashes ++ (n ∷ q.dashes)) ≡ mark_column q = after_columns-append r.column r.dashes (n ∷ q.dashes) ∙ ap (λ c. after_columns c q.dashes) (sym f.column) in
    takes_place limit r t (r.dashes ++ (n ∷ q.dashes)) q.mark q.content u h indent dashes k.mark (subst (λ (c : ℕ). IsContent (parent_of q.mark c) q.content u) (sym columns) k.content)
