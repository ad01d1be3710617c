-- The anchors and aliases of lines, row by row.
use Rattle.std.proofs.Common.{◌≡◌, ℕ, ◌+◌, ◌≤◌, List, [], ◌++◌, drop, length, Option, Some, None, refl, sym, ap, ◌∙◌, append_assoc}
use Rattle.std.{proofs.Common.append-nil, proofs.lemmas.List.drop_all, specs.List.slice_get}
use Rattle.yq_core.specs.Anchors.{Name, anchor_names}
use Rattle.yq_outline.{specs.Names.{head_names, line_names}, specs.Outline.Line, specs.Lines.{content_anchor, head_of, lines_of_rows}}
use Rattle.yq_outline.proofs.WalkLevels.{names_row}
use Rattle.yq_row_table.specs.Rows.{Row}
use Rattle.yq_compose.proofs.RowContents.{lines_at}

with-append : (a : Option (List ℕ)) (xs ys : List Name) → anchor_names a (xs ++ ys) ≡ anchor_names a xs ++ ys
with-append None xs ys = refl
with-append (Some a) xs ys = refl

-- the names of one more row
names_step : (all before middle after : List Name) (rs : List Row) (i : ℕ) (r : Row) → slice_get rs i ≡ Some r → before ++ line_names (lines_of_rows (drop i rs)) ≡ all →
    middle ≡ before ++ anchor_names (content_anchor r.content) [] → after ≡ middle ++ head_names (head_of r.content) → after ++ line_names (lines_of_rows (drop (i + 1) rs)) ≡ all
names_step all before middle after rs i r is so_far anchor head =
    let rest : List Line = lines_of_rows (drop (i + 1) rs) in
    let following : List Name = line_names rest in
    let hn : List Name = head_names (head_of r.content) in
    let a : Option (List ℕ) = content_anchor r.content in
    ap (λ (x : List Name). x ++ following) (head ∙ ap (λ (x : List Name). x ++ hn) anchor)
    ∙ (append_assoc (before ++ anchor_names a []) hn following
    ∙ (append_assoc before (anchor_names a []) (hn ++ following)
    ∙ (ap (λ (x : List Name). before ++ x) (sym (with-append a [] (hn ++ following)))
    ∙ (ap (λ (x : List Name). before ++ x) (sym (ap line_names (lines_at rs i r is) ∙ names_row r rest)) ∙ so_far))))

-- the same, by what the code adds
pub names_pass : (all before middle after f : List Name) (a : Option (List ℕ)) (rs : List Row) (i j : ℕ) (r : Row) → slice_get rs i ≡ Some r → i + 1 ≡ j → before ++ line_names (lines_of_rows (drop i rs)) ≡ all →
    middle ≡ before ++ anchor_names a [] → a ≡ content_anchor r.content → after ≡ middle ++ f → f ≡ head_names (head_of r.content) → after ++ line_names (lines_of_rows (drop j rs)) ≡ all
names_pass all before middle after f a rs i j r is next so_far anchor named head flow =
    ap (λ (k : ℕ). after ++ line_names (lines_of_rows (drop k rs))) (sym next)
    ∙ names_step all before middle after rs i r is so_far (anchor ∙ ap (λ (x : Option (List ℕ)). before ++ anchor_names x []) named) (head ∙ ap (λ (x : List Name). middle ++ x) flow)

pub names_all : (all names : List Name) (rs : List Row) (i : ℕ) → length rs ≤ i → names ++ line_names (lines_of_rows (drop i rs)) ≡ all → names ≡ all
names_all all names rs i past so_far = sym (append-nil names) ∙ (ap (λ (x : List Row). names ++ line_names (lines_of_rows x)) (sym (drop_all i rs past)) ∙ so_far)
