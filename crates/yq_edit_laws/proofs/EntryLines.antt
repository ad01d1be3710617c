-- An item or entry of the block collection at a path has a line.
use Rattle.std.proofs.Common.{rules, ◌≡◌, List, [], ◌∷◌, ◌++◌, Option, Some, None, option_map, refl, sym, ap, ◌∙◌, subst}
use Rattle.std.{proofs.lemmas.Option.{none-some, same_Some}, specs.Prelude.option_and_then}
use Rattle.yq_core.{specs.Paths.Step, specs.Tree.Node}
use Rattle.yq_outline.specs.Outline.{LineMark, Bare, Key, Dash, Outline, end, row}
use Rattle.yq_outline.specs.Places.{here, FoundLine, bare_or, find, find_row, in_head, place_inside}
use Rattle.yq_edit_rules.{specs.Siblings.{HasEntries, IsEntry, IsEntryAt, NodeLines}, proofs.NodeLineLaws.lines_found}
use Rattle.yq_edit_rules.proofs.PathLaws.{found_at, step_found}

abbrev Reached : Type 0
Reached = FoundLine × List Step

left_on : (f g : FoundLine) (s : Step) (ss : List Step) → ◌≡◌ {A = Option Reached} (Some (f, s ∷ ss)) (Some (g, [])) → ⊥
left_on f g s ss e = search (rules, same_Some)

-- in lines of items or entries
row_found : (s : Step) (o : Outline) (f : FoundLine) → HasEntries o → find_row s o ≡ Some f → find s [] o ≡ Some (f, [])
row_found s o f b e = search rules

-- where steps lead to a line, so does the first of them
one_back : (t : Step) (o : Outline) (g : FoundLine) → find t [] o ≡ Some (g, []) → HasEntries o × (find_row t o ≡ Some g)
one_back t o g e = search (rules, none-some, same_Some)

-- A line to which steps lead is in what is under the line to which the first of them leads.
abbrev Goes : Step → Step → List Step → Outline → FoundLine → Type 0
Goes t v vs o g =
    (x : FoundLine) × HasEntries o × (find_row t o ≡ Some x) × (x.line.head ≡ None) × (z : FoundLine) × (find v vs x.under ≡ Some (z, []))
    × (place_inside x z ≡ g)

step_back : (t v : Step) (vs : List Step) (o : Outline) (g : FoundLine) → find t (v ∷ vs) o ≡ Some (g, []) → Goes t v vs o g
step_back t v vs end g e = absurd (none-some _ e)
step_back t v vs (row l u a) g e = go l.mark refl e
  where
    on : FoundLine → Option Reached
    on x = in_head x.line.head (Some (x, v ∷ vs)) (option_map {U = Reached} (λ z. (place_inside x z.0, z.1)) (find v vs x.under))

    under : (x : FoundLine) (h : Option Node) (r : Option Reached) → HasEntries (row l u a) → find_row t (row l u a) ≡ Some x → x.line.head ≡ h →
        find v vs x.under ≡ r →
        in_head h (Some (x, v ∷ vs)) (option_map {U = Reached} (λ z. (place_inside x z.0, z.1)) r) ≡ Some (g, []) → Goes t v vs (row l u a) g
    under x (Some n) r b at head found e = absurd (left_on x g v vs e)
    under x None None b at head found e = absurd (none-some _ e)
    under x None (Some z) b at head found e =
        let same : ◌≡◌ {A = Reached} (place_inside x z.0, z.1) (g, []) = same_Some _ _ e in
        (x, b, at, head, z.0, found ∙ ap (λ (w : Reached). Some (z.0, w.1)) same, ap (λ (w : Reached). w.0) same)

    by : (r : Option FoundLine) → HasEntries (row l u a) → find_row t (row l u a) ≡ r → option_and_then on r ≡ Some (g, []) → Goes t v vs (row l u a) g
    by None b at e = absurd (none-some _ e)
    by (Some x) b at e = under x x.line.head (find v vs x.under) b at refl refl e

    go : (m : LineMark) → l.mark ≡ m →
        bare_or m (Some (record { place = here; line = l; under = u; after = a }, t ∷ (v ∷ vs))) (option_and_then on (find_row t (row l u a))) ≡ Some
        (g, []) →
        Goes t v vs (row l u a) g
    go Bare m e = absurd (left_on _ g t (v ∷ vs) e)
    go (Key k) m e = by (find_row t (row l u a)) (subst IsEntry (sym m) tt) refl e
    go Dash m e = by (find_row t (row l u a)) (subst IsEntry (sym m) tt) refl e

-- one step more leads to an item or entry under the line
more_found : (t : Step) (ts : List Step) (s : Step) (o : Outline) (g f : FoundLine) → find t ts o ≡ Some (g, []) → g.line.head ≡ None →
    HasEntries g.under → find_row s g.under ≡ Some f →
    (y : FoundLine) × (find t (ts ++ (s ∷ [])) o ≡ Some (y, []))
more_found t [] s o g f e head block found = let w = one_back t o g e in
    (place_inside g f, step_found t s [] o g f [] w.0 w.1 head (row_found s g.under f block found))
more_found t (v ∷ vs) s o g f e head block found =
    let w = step_back t v vs o g e in
    let z = w.4 in
    let r = more_found v vs s w.0.under z f w.5 (ap (λ (k : FoundLine). k.line.head) w.6 ∙ head)
    (subst (λ (k : FoundLine). HasEntries k.under) (sym w.6) block) (ap (λ (k : FoundLine). find_row s k.under) w.6 ∙ found) in
    (place_inside w.0 r.0, step_found t v (vs ++ (s ∷ [])) o w.0 r.0 [] w.1 w.2 w.3 r.1)

-- an item or entry of a block collection
pub entry_line : (steps : List Step) (s : Step) (o : Outline) (h : NodeLines) (f : FoundLine) → IsEntryAt steps s o h f → (g : FoundLine) × (found_at (steps ++ (s ∷ [])) o ≡ Some (g, []))
entry_line [] s o h f at =
    let own : o ≡ h.lines = ap (λ (z : NodeLines). z.lines) (same_Some _ _ at.place_is) in
    (f, ap (find s []) own ∙ row_found s h.lines f at.block at.found)
entry_line (t ∷ ts) s o h f at =
    search (rules, lines_found t ts o h at.place_is, ap (λ (z : NodeLines). z.lines) (lines_found t ts o h at.place_is).place_is, more_found)
