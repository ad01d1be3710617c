-- The row to which a path leads.
use Rattle.std.proofs.Common.{◌≡◌, ℕ, suc, ◌+◌, List, [], ◌∷◌, ◌++◌, length, Option, Some, None, option_map, option_and_then, refl, sym, ap}
use Rattle.std.{proofs.Common.{◌∙◌, subst, arith, length-append, rules}, proofs.lemmas.Option.{none-some, same_Some}}
use mathlib.Core.List.{cons≢nil}
use Rattle.yq_core.{specs.Paths.Step, specs.Tree.Node, proofs.Bools.bind_some}
use Rattle.yq_row_table.specs.Rows.{Row}
use Rattle.yq_outline.{specs.Group.level_or, specs.Lines.lines_of_rows, specs.Outline.{LineMark, Bare, Outline, IsEven, end, row}}
use Rattle.yq_outline.specs.Places.{here, lines_before, FoundLine, find_row, place_inside, bare_or, in_head, find}
use Rattle.yq_outline.{specs.Ends.{found_line, line_at_steps}, proofs.Values.If}
use Rattle.yq_documents.{specs.Reading.part_outline, specs.LinesInRows.{RowLine, row_line}}
use Rattle.yq_places.{proofs.FlowViewLaws.before_under, proofs.FoundLaws.before_inside}
use Rattle.yq_edit_rules.{proofs.PlacedLaws.same_front, specs.Siblings.{IsEntry, HasEntries, NodeLines, lines_at, lines_below, under_line}}
use Rattle.yq_edit_rules.proofs.NodeLineLaws.{Under, lines_found}
use Rattle.yq_edit_rules.specs.PathRows.{IsEntryLine, PathIsEntry, PathLineCommented, PathHeadCommented}
use Rattle.yq_edit_rules.{proofs.ApartLaws.{Stood, row_stood}, proofs.HeadLaws.head_commented, proofs.LineLaws.row_line_splits}
use Rattle.yq_edit_rules.{proofs.PartLaws.document_known, proofs.CommentPutLaws.line_commented}

-- the line to which steps lead; the root has none
abbrev pub found_at : List Step → Outline → Option (FoundLine × List Step)
found_at [] o = None
found_at (s ∷ ss) o = find s ss o

-- a step into what is under a line that was found
pub step_found : (t v : Step) (vs : List Step) (o : Outline) (f g : FoundLine) (rest : List Step) → HasEntries o → find_row t o ≡ Some f →
    f.line.head ≡ None → find v vs f.under ≡ Some (g, rest) →
    find t (v ∷ vs) o ≡ Some (place_inside f g, rest)
step_found t v vs o f g rest h1 h2 h3 h4 = search (rules, option_and_then)

step_lines : (t : Step) (ts : List Step) (o : Outline) (f : FoundLine) (h : NodeLines) → HasEntries o → find_row t o ≡ Some f → f.line.head ≡ None → lines_at ts f.under ≡ Some h →
    (g : NodeLines) × (lines_at (t ∷ ts) o ≡ Some g) × (g.lines ≡ h.lines) × (length (lines_before g.place) ≡ suc (length (lines_before f.place) + length (lines_before h.place)))
step_lines t [] end f h b e n is = absurd b
step_lines t [] (row l u a) f h b e n is = (
  under_line f,
  ap (option_and_then (λ x. lines_below x.0.line.head x.1 x.0)) (go l.mark b) ∙ ap (λ x. lines_below x [] f) n,
  ap (λ (x : NodeLines). x.lines) same,
  (let more = length-append (lines_before f.place) (f.line ∷ []) in let own = ap length (before_under f.place f.line f.after) in let none = ap (λ (x : NodeLines). length (lines_before x.place)) same in omega (arith, more, own, none)),
)
  where
    same : record { place = here; above = 0; anchor = None; lines = f.under } ≡ h
    same = same_Some _ _ is

    go : (m : LineMark) → IsEntry m → bare_or m (Some (record { place = here; line = l; under = u; after = a }, t ∷ [])) (option_map (λ f. (f, [])) (find_row t (row l u a))) ≡ Some (f, [])
    go m b = search rules
step_lines t (v ∷ vs) o f h b e n is = found (lines_found v vs f.under h is)
  where
    found : Under v vs f.under h →
        (g : NodeLines) × (lines_at (t ∷ (v ∷ vs)) o ≡ Some g) × (g.lines ≡ h.lines) × (length (lines_before g.place) ≡ suc (length (lines_before f.place) + length (lines_before h.place)))
    found w =
        let x = place_inside f w.found in
        let there = step_found t v vs o f w.found [] b e n w.is in (
          under_line x,
          ap (option_and_then (λ x. lines_below x.0.line.head x.1 x.0)) there ∙ ap (λ y. lines_below y [] x) w.open',
          ap (λ (y : NodeLines). y.lines) w.place_is,
          (let a = ap length (before_under x.place x.line x.after) in
              let b = length-append (lines_before x.place) (x.line ∷ []) in
              let c = ap length (before_inside f.place w.found.place f.line f.after) in
              let d = length-append (lines_before f.place) (f.line ∷ lines_before w.found.place) in
              let e = ap (λ (y : NodeLines). length (lines_before y.place)) (sym w.place_is) in
              let g = ap length (before_under w.found.place w.found.line w.found.after) in
              let k = length-append (lines_before w.found.place) (w.found.line ∷ []) in
              omega (arith, a, b, c, d, e, g, k)),
        )

abbrev Sits : List Step → Step → Outline → (FoundLine × List Step) → Type 0
Sits steps s o x = x.1 ≡ [] → IsEntryLine steps s o (length (lines_before x.0.place))

path_sits : (steps : List Step) (s : Step) (n : ℕ) (o : Outline) → IsEven n o → If (found_at (steps ++ (s ∷ [])) o) (Sits steps s o)
path_sits [] s n end even = tt
path_sits [] s n (row l u a) even = go l.mark refl (find_row s (row l u a)) refl
  where
    found : IsEntry l.mark → (r : Option FoundLine) → find_row s (row l u a) ≡ r → If (option_map (λ f. (f, [])) r) (Sits [] s (row l u a))
    found b None e = tt
    found b (Some f) e = λ none. record { h = record { place = here; above = 0; anchor = None; lines = row l u a }; f = f; entry = record { place_is = refl; block = b; found = e }; number = omega arith }

    go : (m : LineMark) → l.mark ≡ m → (r : Option FoundLine) → find_row s (row l u a) ≡ r →
        If (bare_or m (Some (record { place = here; line = l; under = u; after = a }, s ∷ [])) (option_map (λ f. (f, [])) r)) (Sits [] s (row l u a))
    go Bare e r is = λ none. absurd (cons≢nil none)
    go _ e r is = found (subst IsEntry (sym e) tt) r is
path_sits (t ∷ ts) s n o even = split (ts ++ (s ∷ [])) refl o even (λ m u e. path_sits ts s m u e)
  where
    Below : Type 0
    Below = (m : ℕ) (u : Outline) → IsEven m u → If (found_at (ts ++ (s ∷ [])) u) (Sits ts s u)

    none : (xs : List Step) → xs ++ (s ∷ []) ≡ [] → ⊥
    none [] e = cc
    none (x ∷ xs) e = cc

    split : (vs : List Step) → ts ++ (s ∷ []) ≡ vs → (o : Outline) → IsEven n o → Below → If (find t vs o) (Sits (t ∷ ts) s o)
    split [] e o even ih = absurd (none ts e)
    split (v ∷ vs) e end even ih = tt
    split (v ∷ vs) e (row l u a) even ih = go l.mark refl (find_row t (row l u a)) refl
      where
        here_is : HasEntries (row l u a) → (f : FoundLine) → find_row t (row l u a) ≡ Some f → f.line.head ≡ None → (r : Option (FoundLine × List Step)) → If r (Sits ts s f.under) →
            If (option_map (λ x. (place_inside f x.0, x.1)) r) (Sits (t ∷ ts) s (row l u a))
        here_is b f is head None h = tt
        here_is b f is head (Some x) h = λ end.
            let w = h end in
            let g = step_lines t ts (row l u a) f w.h b is head w.entry.place_is in
            record {
              h = g.0;
              f = w.f;
              entry = record { place_is = g.1; block = subst HasEntries (sym g.2) w.entry.block; found = ap (find_row s) g.2 ∙ w.entry.found };
              number = search (rules, arith, before_inside, length-append);
            }

        head_is : HasEntries (row l u a) → (f : FoundLine) → find_row t (row l u a) ≡ Some f → (h : Option Node) → f.line.head ≡ h → If (find v vs f.under) (Sits ts s f.under) →
            If (in_head h (Some (f, v ∷ vs)) (option_map (λ x. (place_inside f x.0, x.1)) (find v vs f.under))) (Sits (t ∷ ts) s (row l u a))
        head_is b f is None head h = here_is b f is head (find v vs f.under) h
        head_is b f is (Some x) head h = λ end. absurd (cons≢nil end)

        row_is : HasEntries (row l u a) → (r : Option FoundLine) → find_row t (row l u a) ≡ r → If r (Stood n) →
            If (option_and_then (λ f. in_head f.line.head (Some (f, v ∷ vs)) (option_map (λ x. (place_inside f x.0, x.1)) (find v vs f.under))) r) (Sits (t ∷ ts) s (row l u a))
        row_is b None is h = tt
        row_is b (Some f) is h = head_is b f is f.line.head refl (subst (λ (xs : List Step). If (found_at xs f.under) (Sits ts s f.under)) e (ih h.even.3.0 f.under h.even.3.2))

        go : (m : LineMark) → l.mark ≡ m → (r : Option FoundLine) → find_row t (row l u a) ≡ r →
            If (bare_or m (Some (record { place = here; line = l; under = u; after = a }, t ∷ (v ∷ vs)))
            (option_and_then (λ f. in_head f.line.head (Some (f, v ∷ vs)) (option_map (λ x. (place_inside f x.0, x.1)) (find v vs f.under))) r)) (Sits (t ∷ ts) s (row l u a))
        go Bare m r is = λ end. absurd (cons≢nil end)
        go _ m r is = row_is (subst IsEntry (sym m) tt) r is (subst (λ (x : Option FoundLine). If x (Stood n)) is (row_stood t n (row l u a) even))

-- the line by its number
line_at : (steps : List Step) (s : Step) (o : Outline) (r : Option (FoundLine × List Step)) (n : ℕ) → If r (Sits steps s o) → option_and_then (λ x. found_line x.0 x.1) r ≡ Some n → IsEntryLine steps s o n
line_at steps s o r n h1 h2 = search (rules, none-some, same_Some)

line_found : (steps : List Step) (rows : List Row) → line_at_steps steps (lines_of_rows rows) ≡ option_and_then (λ x. found_line x.0 x.1) (found_at steps (Rattle.yq_outline.specs.Group.group (lines_of_rows rows)))
line_found steps rows = search rules

pub path_is_entry : PathIsEntry
path_is_entry p m steps s n even e = line_at steps s (part_outline p) (found_at (steps ++ (s ∷ [])) (part_outline p)) n (path_sits steps s m (part_outline p) even) (sym (line_found (steps ++ (s ∷ [])) p.rows) ∙ e)

pub row_line_number : (rows front back : List Row) (n : ℕ) (x : RowLine) → row_line n rows ≡ Some x → rows ≡ front ++ (x.row ∷ back) → length front ≡ x.before → n ≡ length (lines_of_rows front) + x.line
row_line_number rows front back n x e is before =
    let w = row_line_splits n rows x e in
    let same : w.front ≡ front = (same_front w.front front (x.row ∷ w.back) (x.row ∷ back) (sym w.rows_are ∙ is) (w.before ∙ sym before)).0 in
    w.lines ∙ ap (λ (rs : List Row). length (lines_of_rows rs) + x.line) same

pub path_line_commented : PathLineCommented
path_line_commented t c k p steps s x front back tail old row_line_is last takes before text =
    let l = bind_some (line_at_steps (steps ++ (s ∷ [])) (lines_of_rows p.rows)) row_line_is in
    let w = path_is_entry p (level_or 0 (part_outline p)) steps s l.0 (document_known t c k p old).even l.1 in
    let number = row_line_number p.rows front back l.0 x l.2 takes.rows_are before in
    line_commented t c k p steps s w.h w.f front back x.row tail old w.entry takes (ap (λ (n : ℕ). length (lines_of_rows front) + n) (sym last) ∙ (sym number ∙ w.number)) text

pub path_head_commented : PathHeadCommented
path_head_commented t c k p steps s x front back run old row_line_is first takes before text =
    let l = bind_some (line_at_steps (steps ++ (s ∷ [])) (lines_of_rows p.rows)) row_line_is in
    let w = path_is_entry p (level_or 0 (part_outline p)) steps s l.0 (document_known t c k p old).even l.1 in
    let number = row_line_number p.rows front back l.0 x l.2 takes.rows_are before in
    let count = w.number in
    head_commented t c k p steps s w.h w.f front back x.row run old w.entry takes (omega (arith, number, first, count)) text
