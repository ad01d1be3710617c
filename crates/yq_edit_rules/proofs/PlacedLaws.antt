-- Where the lines of a node, an entry or an item are among the lines of rows.
use Rattle.std.proofs.Common.{rules, ◌≡◌, ℕ, List, [], ◌∷◌, ◌++◌, length, Option, Some, None, option_map, option_and_then, refl, sym, ap}
use Rattle.std.{proofs.Common.{◌∙◌, subst, arith, append_assoc, append-nil, length-append}, proofs.lemmas.Option.same_Some}
use mathlib.Core.List.{head-eq_of_cons-eq, tail-eq_of_cons-eq}
use Rattle.yq_core.{specs.Paths.{Step, further}, specs.Tree.Node}
use Rattle.yq_outline.{specs.Laws.with_lines, specs.Lines.lines_of_rows}
use Rattle.yq_outline.specs.Outline.{LineMark, Bare, Line, Outline, end, row, flatten, IsEven}
use Rattle.yq_outline.specs.Places.{here, lines_before, lines_after, FoundLine, find_row, place_inside, bare_or, in_head, find}
use Rattle.yq_outline.{proofs.Allowing.IsCollection, proofs.Decides.flatten-group, proofs.Finding.{IsFoundIn, path_whole}}
use Rattle.yq_outline.{proofs.PlaceLaws.{at, placed}, proofs.Values.If}
use Rattle.yq_documents.specs.Reading.{part_outline}
use Rattle.yq_places.proofs.UnderExchange.{lines_append}
use Rattle.yq_edit_rules.specs.Placed.{SameParts, RowsInParts, LinePlaced, EntryPlaced, FoundIsEntry}
use Rattle.yq_edit_rules.{specs.Siblings.{NodeLines, lines_at, put_lines}, proofs.CollectionLaws.some_at}
use Rattle.yq_edit_rules.{proofs.NodeLineLaws.{Under, lines_found, put_under}, proofs.SiblingLaws.{flatten-append, next, entry_out}}
use Rattle.yq_outline.proofs.Allowing as allowing

-- parts of lines
pub same_front : {A : Type 0} (a b z w : List A) → a ++ z ≡ b ++ w → length a ≡ length b → (a ≡ b) × (z ≡ w)
same_front [] [] z w e n = (refl, e)
same_front (l ∷ a) (k ∷ b) z w e n = let r = same_front a b z w (tail-eq_of_cons-eq e) (omega (arith, n)) in ((λ i. head-eq_of_cons-eq e i ∷ r.0 i), r.1)
same_front _ _ z w e n = absurd (omega (arith, n))

pub same_parts : SameParts
same_parts a x z b y w e n m = let p = same_front a b (x ++ z) (y ++ w) e n in let q = same_front x y z w p.1 m in (p.0, q.0, q.1)

pub rows_in_parts : RowsInParts
rows_in_parts before come after = lines_append before (come ++ after) ∙ ap (λ x. lines_of_rows before ++ x) (lines_append come after)

-- the lines of an outline, around a line that was found
pub whole_line : (o : Outline) (s : Step) (ss rest : List Step) (f : FoundLine) → find s ss o ≡ Some (f, rest) → flatten o ≡ with_lines f (f.line ∷ flatten f.under)
whole_line o s ss rest f e = ap flatten (sym (at (IsFoundIn o) (find s ss o) (f, rest) e (path_whole s ss o))) ∙ placed f f.line f.under

pub line_placed : LinePlaced
line_placed n p s ss rest f a x z even found parted =
    let parts =
    same_parts a x z (lines_before f.place) (f.line ∷ flatten f.under) (flatten f.after ++ lines_after f.place)
    (sym parted.parts_are ∙ (sym (flatten-group (lines_of_rows p.rows)) ∙ whole_line (part_outline p) s ss rest f found)) parted.before_are parted.size_is in
    (parts.1, λ ls. λ i. sym parts.0 i ++ (ls ++ sym parts.2 i))

-- the same around the lines of a node
pub whole_lines : (o : Outline) (steps : List Step) (h : NodeLines) → lines_at steps o ≡ Some h → flatten o ≡ put_lines h (flatten h.lines)
whole_lines o [] h e = subst (λ (x : NodeLines). flatten o ≡ put_lines x (flatten x.lines)) (same_Some _ _ e) (sym (append-nil (flatten o)))
whole_lines o (s ∷ ss) h e = found (lines_found s ss o h e)
  where
    found : Under s ss o h → flatten o ≡ put_lines h (flatten h.lines)
    found w = subst (λ (x : NodeLines). flatten o ≡ put_lines x (flatten x.lines)) w.place_is (whole_line o s ss [] w.found w.is ∙ sym (put_under w.found (flatten w.found.under)))

pub around : (a x e y z : List Line) → a ++ ((x ++ (e ++ y)) ++ z) ≡ (a ++ x) ++ (e ++ (y ++ z))
around a x e y z = ap (λ v. a ++ v) (append_assoc x (e ++ y) z ∙ ap (λ v. x ++ v) (append_assoc e y z)) ∙ sym (append_assoc a x (e ++ (y ++ z)))

pub entry_placed : EntryPlaced
entry_placed n p steps h s f a x z even entry parted =
    let r = some_at s h.lines f entry.found in
    let e : List Line = f.line ∷ flatten f.under in
    let place : (ls : List Line) → put_lines h (with_lines f ls) ≡ (lines_before h.place ++ lines_before f.place) ++ (ls ++ ((flatten f.after ++ lines_after f.place) ++ lines_after h.place)) =
    λ ls. around (lines_before h.place) (lines_before f.place) ls (flatten f.after ++ lines_after f.place) (lines_after h.place) in
    let olds : flatten h.lines ≡ with_lines f e = ap flatten (sym r.whole) ∙ (flatten-append r.front (row f.line f.under f.after) ∙ sym (r.lines e)) in
    let whole : a ++ (x ++ z) ≡ (lines_before h.place ++ lines_before f.place) ++ (e ++ ((flatten f.after ++ lines_after f.place) ++ lines_after h.place)) =
    sym parted.parts_are ∙ (sym (flatten-group (lines_of_rows p.rows)) ∙ (whole_lines (part_outline p) steps h entry.place_is ∙ (ap (put_lines h) olds ∙ place e))) in
    let parts = same_parts a x z (lines_before h.place ++ lines_before f.place) e ((flatten f.after ++ lines_after f.place) ++ lines_after h.place) whole
    (parted.before_are ∙ sym (length-append (lines_before h.place) (lines_before f.place))) parted.size_is in
    (parts.1, λ ls. place ls ∙ (λ i. sym parts.0 i ++ (ls ++ sym parts.2 i)))

-- a line found in a collection is an entry's
row_entry : (n : ℕ) (s : Step) (o : Outline) → IsCollection o → IsEven n o → If (find_row s o) (λ f. allowing.IsEntry f.line.mark × ((m : ℕ) × IsEven m f.under))
row_entry n s end c e = tt
row_entry n s (row k v a) c e = search (rules, next, row_entry n (further s) a (next n k a c e.0 e.4) e.4)

-- where no steps are left
abbrev Ends : List Step → Line → Type 0
Ends [] l = allowing.IsEntry l.mark
Ends (s ∷ ss) l = Unit {0}

abbrev Ending : (FoundLine × List Step) → Type 0
Ending x = Ends x.1 x.0.line

path_entry : (n : ℕ) (s : Step) (ss : List Step) (o : Outline) → IsEven n o → If (find s ss o) Ending
path_entry n s ss end e = tt
path_entry n s [] (row k v a) e = go k.mark refl (find_row s (row k v a)) (λ c. row_entry n s (row k v a) c e)
  where
    found : (r : Option FoundLine) → If r (λ f. allowing.IsEntry f.line.mark × ((m : ℕ) × IsEven m f.under)) → If (option_map (λ f. (f, [])) r) Ending
    found r h = search rules

    go : (m : LineMark) → k.mark ≡ m → (r : Option FoundLine) → (IsCollection (row k v a) → If r (λ f. allowing.IsEntry f.line.mark × ((m : ℕ) × IsEven m f.under))) →
        If (bare_or m (Some (record { place = here; line = k; under = v; after = a }, s ∷ [])) (option_map (λ f. (f, [])) r)) Ending
    go Bare e r h = tt
    go _ e r h = found r (h (subst allowing.IsEntry (sym e) tt))
path_entry n s (t ∷ ts) (row k v a) e = go (λ m u f. path_entry m t ts u f) k.mark refl (find_row s (row k v a)) (λ c. row_entry n s (row k v a) c e)
  where
    deep : (f : FoundLine) (h : Option Node) (q : Option (FoundLine × List Step)) → If q Ending → If (in_head h (Some (f, t ∷ ts)) (option_map (λ x. (place_inside f x.0, x.1)) q)) Ending
    deep f h q h3 = search rules

    found : ((m : ℕ) (u : Outline) → IsEven m u → If (find t ts u) Ending) → (r : Option FoundLine) → If r (λ f. allowing.IsEntry f.line.mark × ((m : ℕ) × IsEven m f.under)) →
        If (option_and_then (λ f. in_head f.line.head (Some (f, t ∷ ts)) (option_map (λ x. (place_inside f x.0, x.1)) (find t ts f.under))) r) Ending
    found ih None h = tt
    found ih (Some f) h = deep f f.line.head (find t ts f.under) (ih h.1.0 f.under h.1.1)

    go : ((m : ℕ) (u : Outline) → IsEven m u → If (find t ts u) Ending) → (m : LineMark) → k.mark ≡ m → (r : Option FoundLine) →
        (IsCollection (row k v a) → If r (λ f. allowing.IsEntry f.line.mark × ((m : ℕ) × IsEven m f.under))) →
        If (bare_or m (Some (record { place = here; line = k; under = v; after = a }, s ∷ (t ∷ ts)))
        (option_and_then (λ f. in_head f.line.head (Some (f, t ∷ ts)) (option_map (λ x. (place_inside f x.0, x.1)) (find t ts f.under))) r)) Ending
    go ih Bare e r h = tt
    go ih _ e r h = found ih r (h (subst allowing.IsEntry (sym e) tt))

pub found_is_entry : FoundIsEntry
found_is_entry n p s ss f even found = entry_out f.line.mark (at Ending (find s ss (part_outline p)) (f, []) found (path_entry n s ss (part_outline p) even))

-- where lines at a path are
pub ruleset places = (same_parts, rows_in_parts, line_placed, entry_placed, found_is_entry)
