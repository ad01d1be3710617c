-- A line to which steps lead: others lead on from there, also in each text that keeps the rows up to the line's own.
use Rattle.std.proofs.Common.{◌≡◌, ◌⊎◌, inl, inr, ℕ, zero, suc, ◌+◌, ◌-◌, ◌<◌, ◌≤◌, true, false, List, [], ◌∷◌, ◌++◌, length, map, take}
use Rattle.std.proofs.Common.{drop, replicate, Option, Some, None, option_map, option_and_then, refl, sym, ap, ◌∙◌, arith, append-nil}
use Rattle.std.{proofs.Common.{append_assoc, take-take}, proofs.lemmas.Bool.false≢true}
use Rattle.std.proofs.lemmas.List.{drop-take, length-map, map-append, take-append-drop, take-map}
use Rattle.std.{proofs.lemmas.Option.{same_Some, none-some}, specs.List.slice_get, specs.Option.{is_none, is_some}}
use mathlib.Core.List.{head-eq_of_cons-eq, tail-eq_of_cons-eq}
use Rattle.yq_core.{specs.Paths.{Step, is_item}, specs.Text.is_empty, specs.Tree.Node}
use Rattle.yq_outline.{specs.Ends.{found_line, line_at_steps, part, reached}, specs.Extents.lines_before_mark, specs.Group.group}
use Rattle.yq_outline.specs.Outline.{LineMark, Bare, Key, Dash, Line, level, Outline, end, row, key_of}
use Rattle.yq_outline.specs.Places.{Context, here, below, beside, compose, lines_before, FoundLine, find_row, place_inside, in_head}
use Rattle.yq_outline.{specs.Places.{bare_or, find}, specs.Positions.{if_head, reach_from, reach_under}, specs.Comments.head_comment}
use Rattle.yq_outline.specs.Lines.{head_of, line_mark, row_lines, lines_of_rows}
use Rattle.yq_outline.{specs.RowWalk.{HasDocument, HasRows, IsLine, line_number}, specs.declared.line_position.Position.Position}
use Rattle.yq_outline.{specs.declared.line_position.Stretch.Stretch, proofs.PathLines.last_line, proofs.WalkEnds.lines_upto}
use Rattle.yq_outline.{proofs.WalkLevels.{RowAgrees, RowsAgree, last_is}, proofs.WalkPositions.{get_taken, located}}
use Rattle.yq_outline.proofs.WalkRows.{rows_agree}
use Rattle.yq_row_table.{specs.Rows.{Row, RowMark, dashes_text}, specs.View.{Slices, slices, RowsView, colon_of, key_of_mark, last_dash}}
use Rattle.yq_row_walk.specs.Walk.{LeadOnBy}
use Rattle.yq_places.{proofs.FoundLaws.{found_in_lines, inside_number}, proofs.SearchLaws.agree_front, proofs.UnderExchange.lines_append}
use Rattle.yq_places.{proofs.StrippedLines.{from_strip, line_strip, shape_lines, stripped}, proofs.UptoLaws.{and_then_some, line_stays}}
use Rattle.yq_places.proofs.PlacedPartLaws.{map_some}
use Rattle.yq_row_table.specs.Rows as rows

-- ---- steps that go on from a line to which others lead

-- where they lead
abbrev in_rest : FoundLine → List Step → Option (FoundLine × List Step)
in_rest f [] = Some (f, [])
in_rest f (t ∷ ts) = in_head f.line.head (Some (f, t ∷ ts)) (option_map (λ x. (place_inside f x.0, x.1)) (find t ts f.under))

-- a line in what is under another one
abbrev inside : FoundLine → FoundLine × List Step → FoundLine × List Step
inside f x = (place_inside f x.0, x.1)

compose_assoc : (p q r : Context) → compose (compose p q) r ≡ compose p (compose q r)
compose_assoc here q r = refl
compose_assoc (below l p a) q r = ap (λ (c : Context). below l c a) (compose_assoc p q r)
compose_assoc (beside l u p) q r = ap (λ (c : Context). beside l u c) (compose_assoc p q r)

deeper_inside : (f g x : FoundLine) → place_inside f (place_inside g x) ≡ place_inside (place_inside f g) x
deeper_inside f g x = ap (λ (c : Context). record x { place = c }) (sym (compose_assoc f.place (below f.line g.place f.after) (below g.line x.place g.after)))

all_deeper : (f g : FoundLine) (o : Option (FoundLine × List Step)) → option_map (inside f) (option_map (inside g) o) ≡ option_map (inside (place_inside f g)) o
all_deeper f g None = refl
all_deeper f g (Some x) = ap (λ (y : FoundLine). Some (y, x.1)) (deeper_inside f g x.0)

rest_inside : (f g : FoundLine) (more : List Step) → option_map (inside f) (in_rest g more) ≡ in_rest (place_inside f g) more
rest_inside f g [] = refl
rest_inside f g (t ∷ ts) = go g.line.head
  where
    go : (h : Option Node) → option_map (inside f) (in_head h (Some (g, t ∷ ts)) (option_map (inside g) (find t ts g.under))) ≡
        in_head h (Some (place_inside f g, t ∷ ts)) (option_map (inside (place_inside f g)) (find t ts g.under))
    go None = all_deeper f g (find t ts g.under)
    go (Some n) = refl

-- a line with no steps left
abbrev alone : FoundLine → FoundLine × List Step
alone f = (f, [])

-- where a step leads to a line of a collection, and others on from there
abbrev GoOn : Step → List Step → List Step → Type 0
GoOn s ss more = (o : Outline) (f : FoundLine) → find s ss o ≡ Some (f, []) → find s (ss ++ more) o ≡ in_rest f more

left_none : {B : Type 0} (f : FoundLine) (s : Step) (ss : List Step) (g : FoundLine) → ◌≡◌ {A = Option (FoundLine × List Step)} (Some (g, s ∷ ss)) (Some (f, [])) → B
left_none f s ss g e = absurd (omega (arith, ap (λ (x : FoundLine × List Step). length x.1) (same_Some _ _ e)))

one_more : (s t : Step) (ts : List Step) (l : Line) (u a : Outline) (f : FoundLine) → find s [] (row l u a) ≡ Some (f, []) → find s (t ∷ ts) (row l u a) ≡ in_rest f (t ∷ ts)
one_more s t ts l u a f e = go l.mark (find_row s (row l u a)) e
  where
    go : (m : LineMark) (r : Option FoundLine) → bare_or m (Some (record { place = here; line = l; under = u; after = a }, s ∷ [])) (option_map alone r) ≡ Some (f, []) →
        bare_or m (Some (record { place = here; line = l; under = u; after = a }, s ∷ (t ∷ ts))) (option_and_then (λ g. in_rest g (t ∷ ts)) r) ≡ in_rest f (t ∷ ts)
    go Bare r e = left_none f s [] _ e
    go (Key k) r e = found r e
      where
        found : (r : Option FoundLine) → option_map alone r ≡ Some (f, []) → option_and_then (λ g. in_rest g (t ∷ ts)) r ≡ in_rest f (t ∷ ts)
        found None e = absurd (none-some _ e)
        found (Some g) e = ap (λ (x : FoundLine × List Step). in_rest x.0 (t ∷ ts)) (same_Some _ _ e)
    go Dash r e = found r e
      where
        found : (r : Option FoundLine) → option_map alone r ≡ Some (f, []) → option_and_then (λ g. in_rest g (t ∷ ts)) r ≡ in_rest f (t ∷ ts)
        found None e = absurd (none-some _ e)
        found (Some g) e = ap (λ (x : FoundLine × List Step). in_rest x.0 (t ∷ ts)) (same_Some _ _ e)

go_on : (s : Step) (ss more : List Step) → GoOn s ss more
go_on s ss more end f e = absurd (none-some _ e)
go_on s [] [] (row l u a) f e = e
go_on s [] (t ∷ ts) (row l u a) f e = one_more s t ts l u a f e
go_on s (t ∷ ts) more (row l u a) f e = go (λ o k is. go_on t ts more o k is) l.mark (find_row s (row l u a)) e
  where
    on_in : GoOn t ts more → (g : FoundLine) (h : Option Node) → in_head h (Some (g, t ∷ ts)) (option_map (inside g) (find t ts g.under)) ≡ Some (f, []) →
        in_head h (Some (g, t ∷ (ts ++ more))) (option_map (inside g) (find t (ts ++ more) g.under)) ≡ in_rest f more
    on_in ih g (Some n) e = left_none f t ts g e
    on_in ih g None e =
        let x = map_some (inside g) (find t ts g.under) (f, []) e in
        let left : x.0.1 ≡ [] = ap (λ (y : FoundLine × List Step). y.1) x.2 in
        let is : place_inside g x.0.0 ≡ f = ap (λ (y : FoundLine × List Step). y.0) x.2 in
        ap (option_map (inside g)) (ih g.under x.0.0 (x.1 ∙ ap (λ (ss : List Step). Some (x.0.0, ss)) left))
        ∙ (rest_inside g x.0.0 more ∙ ap (λ (k : FoundLine). in_rest k more) is)

    on : GoOn t ts more → (r : Option FoundLine) → option_and_then (λ g. in_head g.line.head (Some (g, t ∷ ts)) (option_map (inside g) (find t ts g.under))) r ≡ Some (f, []) →
        option_and_then (λ g. in_head g.line.head (Some (g, t ∷ (ts ++ more))) (option_map (inside g) (find t (ts ++ more) g.under))) r ≡ in_rest f more
    on ih None e = absurd (none-some _ e)
    on ih (Some g) e = on_in ih g g.line.head e

    go : GoOn t ts more → (m : LineMark) (r : Option FoundLine) →
        bare_or m (Some (record { place = here; line = l; under = u; after = a }, s ∷ (t ∷ ts)))
        (option_and_then (λ g. in_head g.line.head (Some (g, t ∷ ts)) (option_map (inside g) (find t ts g.under))) r) ≡ Some (f, []) →
        bare_or m (Some (record { place = here; line = l; under = u; after = a }, s ∷ (t ∷ (ts ++ more))))
        (option_and_then (λ g. in_head g.line.head (Some (g, t ∷ (ts ++ more))) (option_map (inside g) (find t (ts ++ more) g.under))) r) ≡ in_rest f more
    go ih Bare r e = left_none f s (t ∷ ts) _ e
    go ih (Key k) r e = on ih r e
    go ih Dash r e = on ih r e

-- where they lead, by lines and their numbers
abbrev numbered : Option (FoundLine × List Step) → Option (ℕ × List Step)
numbered r = option_map (λ x. (length (lines_before x.0.place), x.1)) r

under_it : (ls : List Line) (f : FoundLine) (t : Step) (ts : List Step) (h : Option Node) (o : Option (FoundLine × List Step)) →
    if_head h (Some (length (lines_before f.place), t ∷ ts)) (option_map (λ x. ((length (lines_before f.place) + 1) + length (lines_before x.0.place), x.1)) o) ≡
    numbered (in_head h (Some (f, t ∷ ts)) (option_map (inside f) o))
under_it ls f t ts (Some n) o = refl
under_it ls f t ts None None = refl
under_it ls f t ts None (Some x) = ap (λ (n : ℕ). Some (n, x.1)) (omega (arith, inside_number 0 f x.0))

from_line : (ls : List Line) (f : FoundLine) (more : List Step) → slice_get ls (length (lines_before f.place)) ≡ Some f.line → f.under ≡ part ls (length (lines_before f.place) + 1) (level f.line) →
    reach_from ls (Some (length (lines_before f.place))) more ≡ numbered (in_rest f more)
from_line ls f [] is under = refl
from_line ls f (t ∷ ts) is under =
    ap (option_and_then (reach_under ls (length (lines_before f.place)) t ts)) is
    ∙ (ap (λ (u : Outline). if_head f.line.head (Some (length (lines_before f.place), t ∷ ts))
    (option_map (λ x. ((length (lines_before f.place) + 1) + length (lines_before x.0.place), x.1)) (find t ts u))) (sym under)
    ∙ under_it ls f t ts f.line.head (find t ts f.under))

-- Steps lead on from the line to which those before them lead.
pub steps_go_on : (steps more : List Step) (ls : List Line) (n : ℕ) → line_at_steps steps ls ≡ Some n → reach_from ls (Some n) more ≡ reached (steps ++ more) ls
steps_go_on [] more ls n e = absurd (none-some _ e)
steps_go_on (s ∷ ss) more ls n e =
    let x = and_then_some (λ (x : FoundLine × List Step). found_line x.0 x.1) (find s ss (group ls)) n e in
    go x.0.0 x.0.1 x.1 x.2
  where
    go : (f : FoundLine) (left : List Step) → find s ss (group ls) ≡ Some (f, left) → found_line f left ≡ Some n → reach_from ls (Some n) more ≡ reached (s ∷ (ss ++ more)) ls
    go f (t ∷ ts) is at = absurd (none-some _ at)
    go f [] is at =
        let there = found_in_lines s ss [] ls f is in
        ap (λ (k : ℕ). reach_from ls (Some k) more) (sym (same_Some _ _ at))
        ∙ (from_line ls f more there.0 there.1 ∙ ap numbered (sym (go_on s ss more (group ls) f is)))

-- ---- a line among the first ones, whatever comes after these

-- Lines in front of one, the line, and those after it.
record CutLines (xs : List Line) (n : ℕ) : Type 0 where
  pub front : List Line
  pub line : Line
  pub back : List Line
  pub whole : xs ≡ front ++ (line ∷ back)
  pub count : length front ≡ n

cut_at : (xs : List Line) (n : ℕ) → n < length xs → CutLines xs n
cut_at [] n less = absurd (omega (arith, less))
cut_at (x ∷ xs) zero less = record { front = []; line = x; back = xs; whole = refl; count = refl }
cut_at (x ∷ xs) (suc n) less =
    let c = cut_at xs n (omega (arith, less)) in
    record { front = x ∷ c.front; line = c.line; back = c.back; whole = ap (λ (ls : List Line). x ∷ ls) c.whole; count = ap suc c.count }

line_in_front : (steps : List Step) (xs ys zs : List Line) (n : ℕ) → n < length xs → line_at_steps steps (xs ++ ys) ≡ Some n → line_at_steps steps (xs ++ zs) ≡ Some n
line_in_front steps xs ys zs n less is =
    let c = cut_at xs n less in
    let whole : (us : List Line) → xs ++ us ≡ c.front ++ (c.line ∷ (c.back ++ us)) = λ us. ap (λ (ls : List Line). ls ++ us) c.whole ∙ append_assoc c.front (c.line ∷ c.back) us in
    let there : line_at_steps steps (c.front ++ (c.line ∷ (c.back ++ ys))) ≡ Some (length c.front) = ap (line_at_steps steps) (sym (whole ys)) ∙ (is ∙ ap Some (sym c.count)) in
    ap (line_at_steps steps) (whole zs) ∙ (line_stays steps c.front c.line (c.back ++ ys) (c.back ++ zs) there ∙ ap Some c.count)

-- ---- the lines of rows by the pieces of rows

-- nothing, or a dash at first
abbrev IsDashed : List ℕ → Type 0
IsDashed t = (t ≡ []) ⊎ ((u : List ℕ) × (t ≡ 45 ∷ u))

not_dashed : {B : Type 0} (t u : List ℕ) → IsDashed t → t ≡ 32 ∷ u → B
not_dashed t u (inl none) e = absurd (omega (arith, ap length none, ap length e))
not_dashed t u (inr dash) e = absurd (omega (arith, head-eq_of_cons-eq (sym dash.1 ∙ e)))

spaces_same : (n m : ℕ) (t u : List ℕ) → IsDashed t → IsDashed u → replicate n 32 ++ t ≡ replicate m 32 ++ u → (n ≡ m) × (t ≡ u)
spaces_same zero zero t u h k e = (refl, e)
spaces_same zero (suc m) t u h k e = not_dashed t (replicate m 32 ++ u) h e
spaces_same (suc n) zero t u h k e = not_dashed u (replicate n 32 ++ t) k (sym e)
spaces_same (suc n) (suc m) t u h k e =
    let x = spaces_same n m t u h k (tail-eq_of_cons-eq e) in
    (ap suc x.0, x.1)

dashed : (ns t : List ℕ) → IsDashed t → IsDashed (dashes_text ns t)
dashed [] t h = h
dashed (n ∷ ns) t h = inr (replicate n 32 ++ dashes_text ns t, refl)

dashes_same : (ns ms t u : List ℕ) → length ns ≡ length ms → IsDashed t → IsDashed u → dashes_text ns t ≡ dashes_text ms u → (ns ≡ ms) × (t ≡ u)
dashes_same [] [] t u size h k e = (refl, e)
dashes_same [] (m ∷ ms) t u size h k e = absurd (omega (arith, size))
dashes_same (n ∷ ns) [] t u size h k e = absurd (omega (arith, size))
dashes_same (n ∷ ns) (m ∷ ms) t u size h k e =
    let x = spaces_same n m (dashes_text ns t) (dashes_text ms u) (dashed ns t h) (dashed ms u k) (tail-eq_of_cons-eq e) in
    let y = dashes_same ns ms t u (omega (arith, size)) h k x.1 in
    ((λ i. x.0 i ∷ y.0 i), y.1)

-- whether what comes before the `:` of a mark is empty
abbrev HasColon : RowMark → Type 0
HasColon m = is_empty (colon_of m) ≡ is_item (key_of (line_mark m))

mark_same : (m k : RowMark) → HasColon m → HasColon k → last_dash m ≡ last_dash k → key_of_mark m ≡ key_of_mark k → colon_of m ≡ colon_of k → m ≡ k
mark_same rows.Bare rows.Bare h g d e c = refl
mark_same rows.Dash rows.Dash h g d e c = refl
mark_same rows.Bare rows.Dash h g d e c = absurd (cc)
mark_same rows.Dash rows.Bare h g d e c = absurd (cc)
mark_same (rows.Key j a) (rows.Key k b) h g d e c = λ i. rows.Key (e i) (c i)
mark_same rows.Bare (rows.Key k b) h g d e c = absurd (false≢true (sym g ∙ ap is_empty (sym c)))
mark_same rows.Dash (rows.Key k b) h g d e c = absurd (false≢true (sym g ∙ ap is_empty (sym c)))
mark_same (rows.Key j a) rows.Bare h g d e c = absurd (false≢true (sym h ∙ ap is_empty c))
mark_same (rows.Key j a) rows.Dash h g d e c = absurd (false≢true (sym h ∙ ap is_empty c))

some_same : (o p : Option Node) → is_none o ≡ is_none p → is_some o ≡ is_some p
some_same None None e = refl
some_same (Some n) (Some m) e = refl
some_same None (Some m) e = absurd (cc)
some_same (Some n) None e = absurd (cc)

row_alike : (r q : Row) → RowAgrees r → RowAgrees q → slices r ≡ slices q → map stripped (row_lines r) ≡ map stripped (row_lines q)
row_alike r q h k e =
    let size : length r.dashes ≡ length q.dashes = sym h.counted ∙ (ap lines_before_mark e ∙ k.counted) in
    let dashes = dashes_same r.dashes q.dashes (last_dash r.mark) (last_dash q.mark) size (last_is r.mark) (last_is q.mark) (ap (λ (s : Slices). s.dashes) e) in
    let mark = mark_same r.mark q.mark h.colon k.colon dashes.1 (ap (λ (s : Slices). s.key) e) (ap (λ (s : Slices). s.colon) e) in
    let head = some_same (head_of r.content) (head_of q.content) (sym h.head ∙ (ap (λ (s : Slices). is_empty s.head) e ∙ k.head)) in
    let column : r.column ≡ q.column = ap (λ (s : Slices). s.column) e in
    from_strip (head_comment r.gap) r.column r.dashes r.mark r.content
    ∙ ((λ i. shape_lines (column i) (dashes.0 i) (mark i) (head i)) ∙ sym (from_strip (head_comment q.gap) q.column q.dashes q.mark q.content))

lines_alike : (rs qs : List Row) → RowsAgree rs → RowsAgree qs → map slices rs ≡ map slices qs → map stripped (lines_of_rows rs) ≡ map stripped (lines_of_rows qs)
lines_alike [] [] h k e = refl
lines_alike [] (q ∷ qs) h k e = absurd (cc)
lines_alike (r ∷ rs) [] h k e = absurd (cc)
lines_alike (r ∷ rs) (q ∷ qs) h k e =
    let one = row_alike r q h.0 k.0 (head-eq_of_cons-eq e) in
    let others = lines_alike rs qs h.1 k.1 (tail-eq_of_cons-eq e) in
    map-append stripped (row_lines r) (lines_of_rows rs) ∙ ((λ i. one i ++ others i) ∙ sym (map-append stripped (row_lines q) (lines_of_rows qs)))

-- ---- in a text that keeps the first rows

-- the pieces of a document's first rows
first_pieces : (s : RowsView) (d : Stretch) (h : HasRows s d) (k : ℕ) → k ≤ d.end - d.first → map slices (take k h.rows) ≡ drop d.first (take (d.first + k) s.rows)
first_pieces s d h k less =
    sym (take-map slices k h.rows) ∙ (ap (take k) (sym h.pieces) ∙ (take-take k (d.end - d.first) (drop d.first s.rows) less ∙ sym (drop-take d.first k s.rows)))

module _ (s new : RowsView) (first stop m : ℕ) (h : HasRows s (record { first = first; end = stop })) (j : HasRows new (record { first = first; end = m })) (q : Position)
    (at : IsLine s (record { first = first; end = stop }) q) (less : q.row < m) (same : take (q.row + 1) new.rows ≡ take (q.row + 1) s.rows) where
  abbrev old_rows : Stretch
  old_rows = record { first = first; end = stop }

  abbrev new_rows : Stretch
  new_rows = record { first = first; end = m }

  first_same : (k : ℕ) → first + k ≤ q.row + 1 → take (first + k) new.rows ≡ take (first + k) s.rows
  first_same k upto =
      sym (take-take (first + k) (q.row + 1) new.rows upto) ∙ (ap (take (first + k)) same ∙ take-take (first + k) (q.row + 1) s.rows upto)

  -- the lines of as many rows, but for what is written after their marks
  alike : (k : ℕ) → first + k ≤ q.row + 1 → map stripped (lines_of_rows (take k h.rows)) ≡ map stripped (lines_of_rows (take k j.rows))
  alike k upto =
      lines_alike (take k h.rows) (take k j.rows) (agree_front k h.rows (rows_agree h.limit h.rows h.end h.rest h.valid)) (agree_front k j.rows (rows_agree j.limit j.rows j.end j.rest j.valid))
      (first_pieces s old_rows h k (omega (arith, upto, at.upto)) ∙ (ap (drop first) (sym (first_same k upto)) ∙ sym (first_pieces new new_rows j k (omega (arith, upto, less)))))

  number_same : line_number old_rows h.rows q ≡ line_number new_rows j.rows q
  number_same =
      let size : length (lines_of_rows (take (q.row - first) h.rows)) ≡ length (lines_of_rows (take (q.row - first) j.rows)) =
      sym (length-map (lines_of_rows (take (q.row - first) h.rows)) stripped)
      ∙ (ap length (alike (q.row - first) (omega (arith, at.from))) ∙ length-map (lines_of_rows (take (q.row - first) j.rows)) stripped)
      in
      ap (λ (n : ℕ). n + q.line) size

  -- how many rows there are up to the line's own
  abbrev own : ℕ
  own = suc (q.row - first)

  among : line_number old_rows h.rows q < length (map stripped (lines_of_rows (take own h.rows)))
  among =
      let l = located s old_rows h q at in
      let none : own + 0 ≡ own = omega arith in
      omega (
        arith,
        lines_upto h.rows (q.row - first) 0 l.row l.there,
        l.within,
        ap (λ (n : ℕ). length (lines_of_rows (take n h.rows))) none,
        length-map (lines_of_rows (take own h.rows)) stripped,
      )

  -- a document's lines, but for what is written after their marks: those up to the end of the line's row, and others
  parted : (rs : List Row) → map stripped (lines_of_rows rs) ≡ map stripped (lines_of_rows (take own rs)) ++ map stripped (lines_of_rows (drop own rs))
  parted rs =
      ap (λ (xs : List Row). map stripped (lines_of_rows xs)) (sym (take-append-drop own rs))
      ∙ (ap (map stripped) (lines_append (take own rs) (drop own rs)) ∙ map-append stripped (lines_of_rows (take own rs)) (lines_of_rows (drop own rs)))

  line_there : (steps : List Step) → line_at_steps steps (lines_of_rows h.rows) ≡ Some (line_number old_rows h.rows q) → line_at_steps steps (lines_of_rows j.rows) ≡ Some (line_number old_rows h.rows q)
  line_there steps is =
      let front = map stripped (lines_of_rows (take own h.rows)) in
      let before : line_at_steps steps (front ++ map stripped (lines_of_rows (drop own h.rows))) ≡ Some (line_number old_rows h.rows q) =
      ap (line_at_steps steps) (sym (parted h.rows)) ∙ (line_strip steps (lines_of_rows h.rows) ∙ is)
      in
      let after = line_in_front steps front (map stripped (lines_of_rows (drop own h.rows))) (map stripped (lines_of_rows (drop own j.rows))) (line_number old_rows h.rows q) among before in
      let other : map stripped (lines_of_rows j.rows) ≡ front ++ map stripped (lines_of_rows (drop own j.rows)) =
      parted j.rows ∙ ap (λ (ls : List Line). ls ++ map stripped (lines_of_rows (drop own j.rows))) (sym (alike own (omega (arith, at.from))))
      in
      sym (line_strip steps (lines_of_rows j.rows)) ∙ (ap (line_at_steps steps) other ∙ after)

-- Steps lead to a line in each text that keeps the rows up to the line's own, wherever its document ends there.
pub line_kept : (s new : RowsView) (d : Stretch) (m : ℕ) (steps : List Step) (q : Position) → HasDocument s d → take (q.row + 1) new.rows ≡ take (q.row + 1) s.rows → q.row < m → LeadOnBy s d steps [] (Some q) →
    LeadOnBy new (record { first = d.first; end = m }) steps [] (Some q)
line_kept s new d m steps q h same less lead =
    let get : slice_get s.rows q.row ≡ slice_get new.rows q.row =
    sym (get_taken s.rows (q.row + 1) q.row (omega arith)) ∙ (ap (λ (xs : List Slices). slice_get xs q.row) (sym same) ∙ get_taken new.rows (q.row + 1) q.row (omega arith))
    in
    let ls = lines_of_rows h.are_there.rows in
    let n = line_number d h.are_there.rows q in
    let there : Some (n, []) ≡ reached steps ls = lead.leads h [] ∙ ap (λ (l : List Step). reached l ls) (append-nil steps) in
    record {
      line = record { from = lead.line.from; upto = less; line = λ x is. lead.line.line x (get ∙ is) };
      leads = λ j more.
          let number = number_same s new d.first d.end m h.are_there j.are_there q lead.line less same in
          ap (λ (k : ℕ). reach_from (lines_of_rows j.are_there.rows) (Some k) more) (sym number)
          ∙ steps_go_on steps more (lines_of_rows j.are_there.rows) n (line_there s new d.first d.end m h.are_there j.are_there q lead.line less same steps (sym (last_line steps [] ls n there refl)));
    }
