-- Lines that were found, by their indexes.
use Rattle.std.proofs.Common.{◌≡◌, ◌⊎◌, inl, inr, ℕ, suc, ◌+◌, ◌<◌, ◌≤◌, Bool, cond, List, [], ◌∷◌, ◌++◌, length, get_or, Option, Some}
use Rattle.std.proofs.Common.{None, option_map, option_and_then, refl, sym, ap, ◌∙◌, arith, append_assoc, length-append, rules}
use Rattle.std.{proofs.lemmas.Bool.cases_lt, proofs.lemmas.List.drop_all, proofs.lemmas.Option.slice_get_cases, specs.List.slice_get}
use Rattle.yq_core.{specs.Paths.{Step, is_here, further}, specs.Tree.Node}
use Rattle.yq_outline.{specs.Ends.part, specs.Group.group, specs.Outline.{LineMark, Bare, Line, level, Outline, end, row, flatten, label}}
use Rattle.yq_outline.specs.Places.{Context, here, below, beside, compose, lines_before, FoundLine, next_to, find_row, place_inside}
use Rattle.yq_outline.{specs.Places.{in_head, bare_or, find}, proofs.LineEnds.end_counted, proofs.NameLaws.part-all}
use Rattle.yq_outline.{proofs.EndsLaws.{part_stop, row_parts}, proofs.PlaceLaws.at, proofs.PositionLaws.under-length, proofs.Values.If}

-- The first of the lines from one on that are deeper than a level, with those under it, before the others.
pub record IsFirst (ls : List Line) (first floor : ℕ) (l : Line) (u a : Outline) : Type 0 where
  pub line : slice_get ls first ≡ Some l
  pub under : u ≡ part ls (first + 1) (level l)
  pub next : ℕ
  pub after : a ≡ part ls next floor
  pub size : suc first + length (flatten u) ≡ next

pub first_is : (ls : List Line) (first floor : ℕ) (l : Line) (u a : Outline) → part ls first floor ≡ row l u a → IsFirst ls first floor l u a
first_is ls first floor l u a e = go ((slice_get_cases ls first).1)
  where
    go2 : (k : Line) → slice_get ls first ≡ Some k → (floor < level k) ⊎ (level k ≤ floor) → IsFirst ls first floor l u a
    go2 k is (inr low) = search (rules, part_stop)
    go2 k is (inl deep) =
        let ends = end_counted ls first k is in
        let whole : row k (part ls (first + 1) (level k)) (part ls _ floor) ≡ row l u a = sym (row_parts ls first floor _ k is deep (ends.2 k is)) ∙ e in
        let line : k ≡ l = cc in
        let under : part ls (first + 1) (level k) ≡ u = cc in
        let after : part ls _ floor ≡ a = cc in
        record {
          line = is ∙ ap Some line;
          under = sym under ∙ ap (λ (x : Line). part ls (first + 1) (level x)) line;
          next = _;
          after = sym after;
          size = ap (λ (x : Outline). suc first + length (flatten x)) (sym under) ∙ under-length ls first _ k is ends;
        }

    go : ((x : Line) × (first < length ls) × (slice_get ls first ≡ Some x) × (get_or ls first x ≡ x)) ⊎ ((length ls ≤ first) × (slice_get ls first ≡ None)) → IsFirst ls first floor l u a
    go (inr past) = search (rules, drop_all)
    go (inl there) = go2 there.0 there.2 (cases_lt floor (level there.0))

-- A line that was found among those from one on is there by its index, and those under it follow it.
pub record IsFound (ls : List Line) (first : ℕ) (f : FoundLine) : Type 0 where
  pub line : slice_get ls (first + length (lines_before f.place)) ≡ Some f.line
  pub under : f.under ≡ part ls ((first + length (lines_before f.place)) + 1) (level f.line)

found_first : (ls : List Line) (first floor : ℕ) (l : Line) (u a : Outline) → IsFirst ls first floor l u a → IsFound ls first (record { place = here; line = l; under = u; after = a })
found_first ls first floor l u a h = search rules

-- a line that was found elsewhere, by another index
found_on : (ls : List Line) (first other : ℕ) (f g : FoundLine) → f.line ≡ g.line → f.under ≡ g.under → first + length (lines_before f.place) ≡ other + length (lines_before g.place) → IsFound ls first f → IsFound ls other g
found_on ls first other f g line under same h = search rules

row_found : (s : Step) (o : Outline) (ls : List Line) (first floor : ℕ) → part ls first floor ≡ o → If (find_row s o) (IsFound ls first)
row_found s end ls first floor e = tt
row_found s (row l u a) ls first floor e =
    let h = first_is ls first floor l u a e in
    go h (is_here s (label l)) (find_row (further s) a) (row_found (further s) a ls h.next floor (sym h.after))
  where
    later : (h : IsFirst ls first floor l u a) (r : Option FoundLine) → If r (IsFound ls h.next) → If (option_map (next_to l u) r) (IsFound ls first)
    later h r h1 = search (rules, found_on, length-append)

    go : (h : IsFirst ls first floor l u a) (b : Bool) (r : Option FoundLine) → If r (IsFound ls h.next) →
        If (cond b (Some (record { place = here; line = l; under = u; after = a })) (option_map (next_to l u) r)) (IsFound ls first)
    go h b r found_it = search (rules, found_first, later)

-- the lines before one in what is under another
pub before_inside : (p q : Context) (l : Line) (a : Outline) → lines_before (compose p (below l q a)) ≡ lines_before p ++ (l ∷ lines_before q)
before_inside here q l a = refl
before_inside (below k p b) q l a = ap (λ (x : List Line). k ∷ x) (before_inside p q l a)
before_inside (beside k v p) q l a = ap (λ (x : List Line). k ∷ x) (ap (λ (x : List Line). flatten v ++ x) (before_inside p q l a) ∙ sym (append_assoc (flatten v) (lines_before p) (l ∷ lines_before q)))

pub inside_number : (first : ℕ) (f g : FoundLine) → first + length (lines_before (place_inside f g).place) ≡ ((first + length (lines_before f.place)) + 1) + length (lines_before g.place)
inside_number first f g = omega (arith, ap length (before_inside f.place g.place f.line f.after), length-append (lines_before f.place) (f.line ∷ lines_before g.place))

path_found : (s : Step) (ss : List Step) (o : Outline) (ls : List Line) (first floor : ℕ) → part ls first floor ≡ o → If (find s ss o) (λ x. IsFound ls first x.0)
path_found s ss end ls first floor e = tt
path_found s [] (row l u a) ls first floor e = go l.mark (find_row s (row l u a)) (row_found s (row l u a) ls first floor e)
  where
    go : (m : LineMark) (r : Option FoundLine) → If r (IsFound ls first) → If (bare_or m (Some (record { place = here; line = l; under = u; after = a }, s ∷ [])) (option_map (λ f. (f, [])) r)) (λ x. IsFound ls first x.0)
    go Bare r h = found_first ls first floor l u a (first_is ls first floor l u a e)
    go x None h = tt
    go _ (Some f) h = h
path_found s (t ∷ ts) (row l u a) ls first floor e = go (λ v n deep is. path_found t ts v ls n deep is) l.mark (find_row s (row l u a)) (row_found s (row l u a) ls first floor e)
  where
    under : (f : FoundLine) (h : Option Node) → IsFound ls first f → (q : Option (FoundLine × List Step)) → If q (λ x. IsFound ls ((first + length (lines_before f.place)) + 1) x.0) →
        If (in_head h (Some (f, t ∷ ts)) (option_map (λ x. (place_inside f x.0, x.1)) q)) (λ x. IsFound ls first x.0)
    under f (Some n) found_it q h = found_it
    under f None found_it None h = tt
    under f None found_it (Some x) h = found_on ls _ first x.0 (place_inside f x.0) refl refl (sym (inside_number first f x.0)) h

    found : ((v : Outline) (n deep : ℕ) → part ls n deep ≡ v → If (find t ts v) (λ x. IsFound ls n x.0)) → (r : Option FoundLine) →
        If r (IsFound ls first) →
        If (option_and_then (λ f. in_head f.line.head (Some (f, t ∷ ts)) (option_map (λ x. (place_inside f x.0, x.1)) (find t ts f.under))) r)
        (λ x. IsFound ls first x.0)
    found again None h = tt
    found again (Some f) h = under f f.line.head h (find t ts f.under) (again f.under ((first + length (lines_before f.place)) + 1) (level f.line) (sym h.under))

    go : ((v : Outline) (n deep : ℕ) → part ls n deep ≡ v → If (find t ts v) (λ x. IsFound ls n x.0)) → (m : LineMark) (r : Option FoundLine) → If r (IsFound ls first) →
        If (bare_or m (Some (record { place = here; line = l; under = u; after = a }, s ∷ (t ∷ ts)))
        (option_and_then (λ f. in_head f.line.head (Some (f, t ∷ ts)) (option_map (λ x. (place_inside f x.0, x.1)) (find t ts f.under))) r))
        (λ x. IsFound ls first x.0)
    go again Bare r h = found_first ls first floor l u a (first_is ls first floor l u a e)
    go again x r h = found again r h

-- the line where steps lead
pub found_in_lines : (s : Step) (ss left : List Step) (ls : List Line) (f : FoundLine) → find s ss (group ls) ≡ Some (f, left) →
    (slice_get ls (length (lines_before f.place)) ≡ Some f.line) × (f.under ≡ part ls (length (lines_before f.place) + 1) (level f.line))
found_in_lines s ss left ls f is =
    search (rules, at (λ x. IsFound ls 0 x.0) (find s ss (group ls)) (f, left) is (path_found s ss (group ls) ls 0 0 (part-all ls)))
