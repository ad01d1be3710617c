-- The steps of a document, row by row.
use Rattle.std.proofs.Common.{rules, ◌≡◌, ℕ, suc, ◌+◌, ◌-◌, ◌*◌, ◌/◌, ◌%◌, ◌<◌, ◌≤◌, eqb, Bool, true, false, cond, List, [], ◌∷◌, ◌++◌}
use Rattle.std.{proofs.Common.{length, drop, Some, refl, sym, ap, ◌∙◌, arith}, proofs.lemmas.Bool.{cases_Bool, eq-eqb, ne_eqb, ltb-true}}
use Rattle.std.{proofs.lemmas.Option.same_Some, specs.List.slice_get}
use Rattle.yq_outline.{specs.Outline.{LineMark, Line, level, rank}, specs.Lines.{dash_line, lines_from, row_lines, lines_of_rows}}
use Rattle.yq_outline.{specs.Extents.lines_before_mark, specs.RowWalk.{HasRows, line_level}, specs.declared.line_position.Stretch.Stretch}
use Rattle.yq_outline.{proofs.EndsLaws.drop_at, proofs.WalkLevels.{RowAgrees, line_in, level_is}, proofs.WalkPositions.{Located, located}}
use Rattle.yq_row_table.{specs.Rows.{Content, Row, Cut}, specs.View.{Slices, slices, RowsView}}
use Rattle.yq_places.specs.StepReading.{begins_under_level}
use Rattle.yq_places.{specs.Steps.{steps_in, steps_of_part, document_steps, is_key, is_kind, first_step}, proofs.WalkDocuments.Found}
use Rattle.yq_outline.specs.Comments as comments
use Rattle.yq_row_table.specs.Rows as rows

-- the step of the first collection that begins under a key, in lines after one of a level
abbrev pub step_after : (dashes : Bool) → ℕ → List Line → ℕ
step_after dashes a [] = 2
step_after dashes a (l ∷ ls) = cond (begins_under_level dashes a (level l)) ((level l - a) / 3) (step_after dashes (level l) ls)

-- the mark of a line by its level
key_agrees : (m : LineMark) (column : ℕ) → is_key m ≡ eqb ((3 * column + rank m) % 3) 2
key_agrees m column = search (rules, arith, ne_eqb, eq-eqb)

kind_agrees : (dashes : Bool) (m : LineMark) (column : ℕ) → is_kind dashes m ≡ eqb ((3 * column + rank m) % 3) (cond dashes 0 2)
kind_agrees dashes m column = search (rules, arith, ne_eqb, eq-eqb)

step_agrees : (dashes : Bool) (l : Line) (ls : List Line) → first_step (is_kind dashes) (l ∷ ls) ≡ step_after dashes (level l) ls
unfolding level
step_agrees dashes l [] = refl
step_agrees dashes l (m ∷ ms) = search (rules, cases_Bool, key_agrees, kind_agrees, arith, ltb-true, step_agrees dashes m ms)

pub steps_agrees : (dashes : Bool) (ls : List Line) → step_after dashes 0 ls ≡ first_step (is_kind dashes) ls
steps_agrees dashes [] = refl
steps_agrees dashes (l ∷ ls) = sym (step_agrees dashes l ls)

lines_step : (dashes : Bool) (a : ℕ) (above : List (List ℕ)) (column : ℕ) (ns : List ℕ) (m : rows.RowMark) (c : Content) (f l : Line) (ys : List Line) →
    slice_get (lines_from above column ns m c) 0 ≡ Some f → slice_get (lines_from above column ns m c) (length ns) ≡ Some l →
    step_after dashes a (lines_from above column ns m c ++ ys) ≡ cond (begins_under_level dashes a (level f)) ((level f - a) / 3) (step_after dashes (level l) ys)
unfolding level
lines_step dashes a above column [] m c f l ys first last = search (rules, same_Some)
lines_step dashes a above column (n ∷ ns) m c f l ys first last =
    let d : Line = dash_line above column in
    let x = line_in [] (suc (column + n)) ns m c 0 (omega arith) in
    search (rules, eqb, ne_eqb, same_Some, lines_step dashes (level d) [] (suc (column + n)) ns m c x.0 l ys x.1 last)

-- the lines of a row: only its first one can begin a collection under a key
pub row_step : (dashes : Bool) (a n k : ℕ) (r : Row) (ys : List Line) → RowAgrees r → n ≡ line_level 0 (slices r) → k ≡ line_level (length r.dashes) (slices r) →
    step_after dashes a (row_lines r ++ ys) ≡ cond (begins_under_level dashes a n) ((n - a) / 3) (step_after dashes k ys)
row_step dashes a n k r ys t first last =
    let above : List (List ℕ) = comments.head_comment r.gap in
    let f = line_in above r.column r.dashes r.mark r.content 0 (omega arith) in
    let l = line_in above r.column r.dashes r.mark r.content (length r.dashes) (omega arith) in
    let begins : level f.0 ≡ n = level_is r 0 f.0 t (omega arith) f.2 ∙ sym first in
    let ends : level l.0 ≡ k = level_is r (length r.dashes) l.0 t (omega arith) l.2 ∙ sym last in
    lines_step dashes a above r.column r.dashes r.mark r.content f.0 l.0 ys f.1 l.1 ∙ (λ i. cond (begins_under_level dashes a (begins i)) ((begins i - a) / 3) (step_after dashes (ends i) ys))

-- the lines from a row of a document on
module _ (s : RowsView) (d : Stretch) (h : HasRows s d) (dashes : Bool) (i above first : ℕ) (from : d.first ≤ i) (upto : i < d.end) (agrees : (x : Slices) → slice_get s.rows i ≡ Some x → first ≡ line_level 0 x) where
  abbrev at : Located s d h (record { row = i; line = 0 })
  at = located s d h (record { row = i; line = 0 }) (record { from = from; upto = upto; line = λ x e. omega arith })

  row_here : (n : ℕ) → n ≡ line_level (length at.row.dashes) (slices at.row) →
      step_after dashes above (lines_of_rows (drop (i - d.first) h.rows)) ≡ cond (begins_under_level dashes above first) ((first - above) / 3) (step_after dashes n (lines_of_rows (drop ((i + 1) - d.first) h.rows)))
  row_here n last =
      let next : (i - d.first) + 1 ≡ (i + 1) - d.first = omega (arith, from) in
      ap (λ (rs : List Row). step_after dashes above (lines_of_rows rs)) (drop_at h.rows (i - d.first) at.row at.there ∙ ap (λ (k : ℕ). at.row ∷ drop k h.rows) next)
      ∙ row_step dashes above first n at.row (lines_of_rows (drop ((i + 1) - d.first) h.rows)) at.row_agrees (agrees (slices at.row) at.pieces) last

  pub step_here : begins_under_level dashes above first ≡ true → (first - above) / 3 ≡ step_after dashes above (lines_of_rows (drop (i - d.first) h.rows))
  step_here begins =
      let n : ℕ = line_level (length at.row.dashes) (slices at.row) in
      sym (row_here n refl ∙ ap (λ b. cond b ((first - above) / 3) (step_after dashes n (lines_of_rows (drop ((i + 1) - d.first) h.rows)))) begins)

  pub step_on : (line n : ℕ) → begins_under_level dashes above first ≡ false → ((x : Slices) → slice_get s.rows i ≡ Some x → line ≡ lines_before_mark x) → ((x : Slices) → slice_get s.rows i ≡ Some x → n ≡ line_level line x) →
      step_after dashes n (lines_of_rows (drop ((i + 1) - d.first) h.rows)) ≡ step_after dashes above (lines_of_rows (drop (i - d.first) h.rows))
  step_on line n other counted level_agrees =
      let last : line ≡ length at.row.dashes = counted (slices at.row) at.pieces ∙ at.row_agrees.counted in
      sym (row_here n (level_agrees (slices at.row) at.pieces ∙ ap (λ (k : ℕ). line_level k (slices at.row)) last)
      ∙ ap (λ b. cond b ((first - above) / 3) (step_after dashes n (lines_of_rows (drop ((i + 1) - d.first) h.rows)))) other)

-- the steps of a document that was found, and of one that isn't there
pub steps_found : (s : RowsView) (c : Cut) (n : ℕ) (d : Stretch) (f : Found s c n d) → steps_in (lines_of_rows f.document.are_there.rows) ≡ document_steps n c
steps_found s c n d f = ap (λ (rs : List Row). steps_in (lines_of_rows rs)) f.rows ∙ ap steps_of_part (sym f.there)
