-- Steps lead to the same lines where no heads are written, in an outline in which nothing is under a line with a head.
use Rattle.std.proofs.Common.{◌≡◌, ℕ, suc, ◌+◌, Bool, true, false, cond, List, [], ◌∷◌, ◌++◌, length, map, Option, Some, None, option_map}
use Rattle.std.proofs.Common.{option_and_then, refl, sym, ap, ◌∙◌, subst, rules, arith, length-append}
use Rattle.std.{proofs.lemmas.List.{length-map, map-append}, proofs.lemmas.Option.{none-some, same_Some}, specs.Prelude.⊤}
use Rattle.yq_core.{specs.Paths.{Step, is_here, further}, specs.Tree.Node}
use Rattle.yq_outline.{specs.Ends.{found_line, line_at_steps}, specs.Group.group}
use Rattle.yq_outline.specs.Outline.{LineMark, Bare, Key, Dash, IsEven, IsOpen, Line, Outline, end, row, flatten, label}
use Rattle.yq_outline.specs.Places.{Context, here, below, beside, lines_before, compose, FoundLine, next_to, find_row, place_inside}
use Rattle.yq_outline.{specs.Places.{bare_or, in_head, find}, specs.Lines.{lines_from, lines_of_rows, row_lines}}
use Rattle.yq_outline.specs.Comments.{head_comment}
use Rattle.yq_row_table.specs.Rows.{Content, Row}
use Rattle.yq_places.proofs.PlacedPartLaws.{map_some}
use Rattle.yq_places.proofs.StrippedLines.{heads_before, heads_find_row, heads_found, heads_group, heads_outline, heads_place, shape_lines}
use Rattle.yq_places.proofs.StrippedLines.{with_heads}
use Rattle.yq_row_table.specs.Rows as rows

-- no head
abbrev no_head : Option Node → Option Node
no_head h = None

abbrev pub erased : Line → Line
erased l = with_heads no_head l

abbrev erase : Outline → Outline
erase o = heads_outline no_head o

abbrev erase_found : FoundLine → FoundLine
erase_found f = heads_found no_head f

-- ---- how many lines are in front

before_size : (p : Context) → length (lines_before (heads_place no_head p)) ≡ length (lines_before p)
before_size p = ap length (heads_before no_head p) ∙ length-map (lines_before p) erased

inside_size : (p q : Context) → length (lines_before (compose p q)) ≡ length (lines_before p) + length (lines_before q)
inside_size here q = omega arith
inside_size (below l p a) q = omega (arith, inside_size p q)
inside_size (beside l u p) q =
    omega (arith, inside_size p q, length-append (flatten u) (lines_before (compose p q)), length-append (flatten u) (lines_before p))

-- ---- where steps lead

-- nothing is under a line with a head
abbrev AreOpen : Outline → Type 0
AreOpen end = ⊤
AreOpen (row l u a) = IsOpen l.head u × AreOpen u × AreOpen a

even_open : (n : ℕ) (o : Outline) → IsEven n o → AreOpen o
even_open n end h = tt
even_open n (row l u a) h = (h.1, even_open h.3.0 u h.3.2, even_open n a h.4)

abbrev number : Option (FoundLine × List Step) → Option ℕ
number o = option_and_then (λ x. found_line x.0 x.1) o

-- a line that is found has nothing under it, if it has a head
abbrev IsFoundOpen : FoundLine → Type 0
IsFoundOpen f = IsOpen f.line.head f.under × AreOpen f.under

find_row_open : (s : Step) (o : Outline) (f : FoundLine) → find_row s o ≡ Some f → AreOpen o → IsFoundOpen f
find_row_open s end f is open' = absurd (none-some _ is)
find_row_open s (row l u a) f is open' = go (is_here s (label l)) is (λ g found. find_row_open (further s) a g found open'.2)
  where
    go : (b : Bool) → cond b (Some (record { place = here; line = l; under = u; after = a })) (option_map (next_to l u) (find_row (further s) a)) ≡ Some f → ((g : FoundLine) → find_row (further s) a ≡ Some g → IsFoundOpen g) → IsFoundOpen f
    go true e again = subst IsFoundOpen (same_Some _ _ e) (open'.0, open'.1)
    go false e again =
        let g = map_some (next_to l u) (find_row (further s) a) f e in
        subst IsFoundOpen g.2 (again g.0 g.1)

abbrev deeper_found : FoundLine → FoundLine × List Step → FoundLine × List Step
deeper_found f x = (place_inside f x.0, x.1)

abbrev go_on : Step → List Step → FoundLine → Option (FoundLine × List Step)
go_on t ts f = in_head f.line.head (Some (f, t ∷ ts)) (option_map (deeper_found f) (find t ts f.under))

inside_number : (f : FoundLine) (o : Option (FoundLine × List Step)) → number (option_map (deeper_found f) o) ≡ option_map (λ k. length (lines_before f.place) + suc k) (number o)
inside_number f None = refl
inside_number f (Some x) = go x.0 x.1
  where
    go : (g : FoundLine) (left : List Step) → number (option_map (deeper_found f) (Some (g, left))) ≡ option_map (λ k. length (lines_before f.place) + suc k) (number (Some (g, left)))
    go g [] = ap Some (inside_size f.place (below f.line g.place f.after))
    go g (s ∷ left) = refl

deeper_number : (f : FoundLine) (x y : Option (FoundLine × List Step)) → number x ≡ number y → number (option_map (deeper_found (erase_found f)) x) ≡ number (option_map (deeper_found f) y)
deeper_number f x y same =
    inside_number (erase_found f) x ∙ ((λ i. option_map (λ k. before_size f.place i + suc k) (same i)) ∙ sym (inside_number f y))

bare_number : (m : LineMark) (f g : FoundLine) (t : Step) (left : List Step) (x y : Option (FoundLine × List Step)) → number x ≡ number y →
    number (bare_or m (Some (f, t ∷ left)) x) ≡ number (bare_or m (Some (g, t ∷ left)) y)
bare_number Bare f g t left x y same = refl
bare_number (Key k) f g t left x y same = same
bare_number Dash f g t left x y same = same

last_number : (o : Option FoundLine) → number (option_map (λ f. (f, [])) (option_map erase_found o)) ≡ number (option_map (λ f. (f, [])) o)
last_number None = refl
last_number (Some f) = ap Some (before_size f.place)

on_number : (t : Step) (ts : List Step) → ((o : Outline) → AreOpen o → number (find t ts (erase o)) ≡ number (find t ts o)) → (o : Option FoundLine) → ((f : FoundLine) → o ≡ Some f → IsFoundOpen f) →
    number (option_and_then (go_on t ts) (option_map erase_found o)) ≡ number (option_and_then (go_on t ts) o)
on_number t ts again None open' = refl
on_number t ts again (Some f) open' = let h = open' f refl in go f.line.head f.under h.0 h.1
  where
    go : (head : Option Node) (u : Outline) → IsOpen head u → AreOpen u →
        number (option_map (deeper_found (erase_found f)) (find t ts (erase u))) ≡ number (in_head head (Some (f, t ∷ ts)) (option_map (deeper_found f) (find t ts u)))
    go None u is all = deeper_number f (find t ts (erase u)) (find t ts u) (again u all)
    go (Some n) end is all = refl
    go (Some n) (row l v a) is all = absurd is

find_number : (s : Step) (ss : List Step) (o : Outline) → AreOpen o → number (find s ss (erase o)) ≡ number (find s ss o)
find_number s ss end open' = refl
find_number s [] (row l u a) open' =
    bare_number l.mark (erase_found (record { place = here; line = l; under = u; after = a })) (record { place = here; line = l; under = u; after = a }) s []
    (option_map (λ f. (f, [])) (find_row s (erase (row l u a)))) (option_map (λ f. (f, [])) (find_row s (row l u a)))
    (ap (λ (o : Option FoundLine). number (option_map (λ f. (f, [])) o)) (heads_find_row no_head s (row l u a)) ∙ last_number (find_row s (row l u a)))
find_number s (t ∷ ts) (row l u a) open' =
    bare_number l.mark (erase_found (record { place = here; line = l; under = u; after = a })) (record { place = here; line = l; under = u; after = a }) s (t ∷ ts)
    (option_and_then (go_on t ts) (find_row s (erase (row l u a)))) (option_and_then (go_on t ts) (find_row s (row l u a)))
    (ap (λ (o : Option FoundLine). number (option_and_then (go_on t ts) o)) (heads_find_row no_head s (row l u a))
    ∙ on_number t ts (λ o. find_number t ts o) (find_row s (row l u a)) (λ f is. find_row_open s (row l u a) f is open'))

line_erased : (n : ℕ) (steps : List Step) (ls : List Line) → IsEven n (group ls) → line_at_steps steps (map erased ls) ≡ line_at_steps steps ls
line_erased n [] ls even = refl
line_erased n (s ∷ ss) ls even = ap (λ (o : Outline). number (find s ss o)) (heads_group no_head ls) ∙ find_number s ss (group ls) (even_open n (group ls) even)

-- ---- rows

abbrev pub marks_of : List Row → List Line
marks_of [] = []
marks_of (r ∷ rs) = shape_lines r.column r.dashes r.mark false ++ marks_of rs

from_erased : (above : List (List ℕ)) (column : ℕ) (ns : List ℕ) (mark : rows.RowMark) (c : Content) → map erased (lines_from above column ns mark c) ≡ shape_lines column ns mark false
from_erased above column [] mark c = refl
from_erased above column (n ∷ ns) mark c =
    ap (λ ls. record { column = column; mark = Dash; anchor = None; head = None; head_comment = []; line_comment = None } ∷ ls) (from_erased [] (suc (column + n)) ns mark c)

rows_erased : (rs : List Row) → map erased (lines_of_rows rs) ≡ marks_of rs
rows_erased [] = refl
rows_erased (r ∷ rs) =
    map-append erased (row_lines r) (lines_of_rows rs) ∙ (λ i. from_erased (head_comment r.gap) r.column r.dashes r.mark r.content i ++ rows_erased rs i)

-- Rows with the same keys and dashes: steps lead to lines of the same numbers, if the outlines of both are even.
pub line_by_marks : (n m : ℕ) (rs ss : List Row) → IsEven n (group (lines_of_rows rs)) → IsEven m (group (lines_of_rows ss)) → marks_of ss ≡ marks_of rs → (steps : List Step) →
    line_at_steps steps (lines_of_rows ss) ≡ line_at_steps steps (lines_of_rows rs)
line_by_marks n m rs ss even_rs even_ss same steps =
    sym (line_erased m steps (lines_of_rows ss) even_ss)
    ∙ (ap (line_at_steps steps) (rows_erased ss ∙ (same ∙ sym (rows_erased rs))) ∙ line_erased n steps (lines_of_rows rs) even_rs)

-- with one row exchanged for another one
pub marks_with : (front : List Row) (r new : Row) (back : List Row) → new.column ≡ r.column → new.dashes ≡ r.dashes → new.mark ≡ r.mark → marks_of (front ++ (new ∷ back)) ≡ marks_of (front ++ (r ∷ back))
marks_with [] r new back column dashes mark = λ i. shape_lines (column i) (dashes i) (mark i) false ++ marks_of back
marks_with (x ∷ front) r new back column dashes mark = ap (λ (ls : List Line). shape_lines x.column x.dashes x.mark false ++ ls) (marks_with front r new back column dashes mark)
