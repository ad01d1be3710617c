-- Lines without what is written after their marks but that there is a head: steps lead among them to the lines of the same numbers.
use Rattle.std.proofs.Common.{◌≡◌, ℕ, suc, ◌+◌, nat_lt, Bool, true, false, cond, List, [], ◌∷◌, ◌++◌, map, Option, Some, None, option_map}
use Rattle.std.{proofs.Common.{option_and_then, refl, sym, ap, ◌∙◌, rules}, proofs.lemmas.List.{map-append, length-map}}
use Rattle.std.specs.Option.{is_some}
use Rattle.yq_core.{specs.Paths.{Step, is_here, further}, specs.Tree.Node}
use Rattle.yq_outline.{specs.Ends.{found_line, line_at_steps}, specs.Group.{deeper_lines, shallow, group}}
use Rattle.yq_outline.specs.Outline.{LineMark, Dash, Line, level, Outline, end, row, flatten, label, null_node}
use Rattle.yq_outline.specs.Places.{Context, here, below, beside, lines_before, compose, FoundLine, next_to, find_row, place_inside}
use Rattle.yq_outline.{specs.Places.{bare_or, in_head, find}, specs.Lines.{head_of, line_mark, lines_from}}
use Rattle.yq_row_table.specs.Rows.{Content}
use Rattle.yq_row_table.specs.Rows as rows

-- Lines with other heads, and without anchors and comments.
module _ (f : Option Node → Option Node) where
  abbrev pub with_heads : Line → Line
  with_heads l = record { column = l.column; mark = l.mark; anchor = None; head = f l.head; head_comment = []; line_comment = None }

  abbrev pub heads_outline : Outline → Outline
  heads_outline end = end
  heads_outline (row l u a) = row (with_heads l) (heads_outline u) (heads_outline a)

  abbrev pub heads_place : Context → Context
  heads_place here = here
  heads_place (below l p a) = below (with_heads l) (heads_place p) (heads_outline a)
  heads_place (beside l u p) = beside (with_heads l) (heads_outline u) (heads_place p)

  abbrev pub heads_found : FoundLine → FoundLine
  heads_found x = record { place = heads_place x.place; line = with_heads x.line; under = heads_outline x.under; after = heads_outline x.after }

  same_level : (l : Line) → level (with_heads l) ≡ level l
  unfolding level
  same_level l = refl

  outline_if : (b : Bool) (x y : Outline) → cond b (heads_outline x) (heads_outline y) ≡ heads_outline (cond b x y)
  outline_if b x y = search rules

  heads_deeper : (n : ℕ) (o : Outline) → deeper_lines n (heads_outline o) ≡ heads_outline (deeper_lines n o)
  heads_deeper n end = refl
  heads_deeper n (row l u a) =
      (λ i. cond (nat_lt n (same_level l i)) (row (with_heads l) (heads_outline u) (heads_deeper n a i)) end) ∙ outline_if (nat_lt n (level l)) (row l u (deeper_lines n a)) end

  heads_shallow : (n : ℕ) (o : Outline) → shallow n (heads_outline o) ≡ heads_outline (shallow n o)
  heads_shallow n end = refl
  heads_shallow n (row l u a) =
      (λ i. cond (nat_lt n (same_level l i)) (heads_shallow n a i) (row (with_heads l) (heads_outline u) (heads_outline a))) ∙ outline_if (nat_lt n (level l)) (shallow n a) (row l u a)

  pub heads_group : (ls : List Line) → group (map with_heads ls) ≡ heads_outline (group ls)
  heads_group [] = refl
  heads_group (l ∷ ls) = search (rules, same_level, heads_deeper, heads_shallow, heads_group ls)

  heads_flatten : (o : Outline) → flatten (heads_outline o) ≡ map with_heads (flatten o)
  heads_flatten end = refl
  heads_flatten (row l u a) = ap (λ ls. with_heads l ∷ ls) ((λ i. heads_flatten u i ++ heads_flatten a i) ∙ sym (map-append with_heads (flatten u) (flatten a)))

  pub heads_before : (p : Context) → lines_before (heads_place p) ≡ map with_heads (lines_before p)
  heads_before here = refl
  heads_before (below l p a) = ap (λ ls. with_heads l ∷ ls) (heads_before p)
  heads_before (beside l u p) = ap (λ ls. with_heads l ∷ ls) ((λ i. heads_flatten u i ++ heads_before p i) ∙ sym (map-append with_heads (flatten u) (lines_before p)))

  pub heads_compose : (p q : Context) → compose (heads_place p) (heads_place q) ≡ heads_place (compose p q)
  heads_compose here q = refl
  heads_compose (below l p a) q = ap (λ x. below (with_heads l) x (heads_outline a)) (heads_compose p q)
  heads_compose (beside l u p) q = ap (λ x. beside (with_heads l) (heads_outline u) x) (heads_compose p q)

  heads_here : (s : Step) (l : Line) → is_here s (label (with_heads l)) ≡ is_here s (label l)
  heads_here s l = search rules

  row_found : (b : Bool) (l : Line) (u a : Outline) (o : Option FoundLine) →
      cond b (Some (heads_found (record { place = here; line = l; under = u; after = a }))) (option_map (next_to (with_heads l) (heads_outline u)) (option_map heads_found o))
      ≡ option_map heads_found (cond b (Some (record { place = here; line = l; under = u; after = a })) (option_map (next_to l u) o))
  row_found b l u a o = search rules

  pub heads_find_row : (s : Step) (o : Outline) → find_row s (heads_outline o) ≡ option_map heads_found (find_row s o)
  heads_find_row s end = refl
  heads_find_row s (row l u a) =
      (λ i. cond (heads_here s l i) (Some (heads_found (record { place = here; line = l; under = u; after = a }))) (option_map (next_to (with_heads l) (heads_outline u)) (heads_find_row (further s) a i)))
      ∙ row_found (is_here s (label l)) l u a (find_row (further s) a)

-- ---- where steps lead among them

-- a head by that it is there
abbrev pub null_head : Option Node → Option Node
null_head h = option_map (λ n. null_node) h

abbrev pub stripped : Line → Line
stripped l = with_heads null_head l

abbrev pub strip_pair : FoundLine × List Step → FoundLine × List Step
strip_pair x = (heads_found null_head x.0, x.1)

bare_strip : (m : LineMark) (x y : Option (FoundLine × List Step)) → bare_or m (option_map strip_pair x) (option_map strip_pair y) ≡ option_map strip_pair (bare_or m x y)
bare_strip m x y = search rules

-- the same below a line that was found
abbrev deeper_found : FoundLine → FoundLine × List Step → FoundLine × List Step
deeper_found f x = (place_inside f x.0, x.1)

abbrev go_on : Step → List Step → FoundLine → Option (FoundLine × List Step)
go_on t ts f = in_head f.line.head (Some (f, t ∷ ts)) (option_map (deeper_found f) (find t ts f.under))

inside_strip : (f : FoundLine) (o : Option (FoundLine × List Step)) → option_map (deeper_found (heads_found null_head f)) (option_map strip_pair o) ≡ option_map strip_pair (option_map (deeper_found f) o)
inside_strip f None = refl
inside_strip f (Some x) =
    λ i. Some (record { place = heads_compose null_head f.place (below f.line x.0.place f.after) i; line = stripped x.0.line; under = heads_outline null_head x.0.under; after = heads_outline null_head x.0.after }, x.1)

pub head_strip : (h : Option Node) (x y : Option (FoundLine × List Step)) → in_head (option_map (λ n. null_node) h) (option_map strip_pair x) (option_map strip_pair y) ≡ option_map strip_pair (in_head h x y)
head_strip h x y = search rules

none_left : (o : Option FoundLine) → option_map (λ f. (f, [])) (option_map (heads_found null_head) o) ≡ option_map strip_pair (option_map (λ f. (f, [])) o)
none_left o = search rules

on_strip : (t : Step) (ts : List Step) → ((o : Outline) → find t ts (heads_outline null_head o) ≡ option_map strip_pair (find t ts o)) → (o : Option FoundLine) →
    option_and_then (go_on t ts) (option_map (heads_found null_head) o) ≡ option_map strip_pair (option_and_then (go_on t ts) o)
on_strip t ts h1 o = search (rules, inside_strip, head_strip)

pub find_strip : (s : Step) (ss : List Step) (o : Outline) → find s ss (heads_outline null_head o) ≡ option_map strip_pair (find s ss o)
find_strip s ss end = refl
find_strip s [] (row l u a) = search (rules, heads_find_row, none_left, bare_strip, option_and_then, on_strip)
find_strip s (t ∷ ts) (row l u a) =
    ap (bare_or l.mark (Some (strip_pair (record { place = here; line = l; under = u; after = a }, s ∷ (t ∷ ts)))))
    (ap (option_and_then (go_on t ts)) (heads_find_row null_head s (row l u a)) ∙ on_strip t ts (λ o. find_strip t ts o) (find_row s (row l u a)))
    ∙ bare_strip l.mark (Some (record { place = here; line = l; under = u; after = a }, s ∷ (t ∷ ts))) (option_and_then (go_on t ts) (find_row s (row l u a)))

abbrev found_number : Option (FoundLine × List Step) → Option ℕ
found_number o = option_and_then (λ x. found_line x.0 x.1) o

found_strip : (o : Option (FoundLine × List Step)) → found_number (option_map strip_pair o) ≡ found_number o
found_strip o = search (rules, heads_before, length-map)

pub line_strip : (steps : List Step) (ls : List Line) → line_at_steps steps (map stripped ls) ≡ line_at_steps steps ls
line_strip [] ls = refl
line_strip (s ∷ ss) ls =
    ap (λ (o : Outline). found_number (find s ss o)) (heads_group null_head ls) ∙ (ap found_number (find_strip s ss (group ls)) ∙ found_strip (find s ss (group ls)))

-- ---- those of a row

abbrev pub head_if : Bool → Option Node
head_if true = Some null_node
head_if false = None

abbrev pub shape_lines : ℕ → List ℕ → rows.RowMark → Bool → List Line
shape_lines column [] mark headed = record { column = column; mark = line_mark mark; anchor = None; head = head_if headed; head_comment = []; line_comment = None } ∷ []
shape_lines column (n ∷ ns) mark headed = record { column = column; mark = Dash; anchor = None; head = None; head_comment = []; line_comment = None } ∷ shape_lines (suc (column + n)) ns mark headed

head_is : (h : Option Node) → option_map (λ n. null_node) h ≡ head_if (is_some h)
head_is h = search rules

pub from_strip : (above : List (List ℕ)) (column : ℕ) (ns : List ℕ) (mark : rows.RowMark) (c : Content) → map stripped (lines_from above column ns mark c) ≡ shape_lines column ns mark (is_some (head_of c))
from_strip above column [] mark c = ap (λ h. record { column = column; mark = line_mark mark; anchor = None; head = h; head_comment = []; line_comment = None } ∷ []) (head_is (head_of c))
from_strip above column (n ∷ ns) mark c =
    ap (λ ls. record { column = column; mark = Dash; anchor = None; head = None; head_comment = []; line_comment = None } ∷ ls) (from_strip [] (suc (column + n)) ns mark c)
