-- Where a path leads among lines, whatever comes after the line to which it leads.
use Rattle.std.proofs.Common.{◌≡◌, ◌⊎◌, inl, inr, ℕ, suc, ◌+◌, ◌<◌, ◌≤◌, Bool, true, false, cond, ltb, List, [], ◌∷◌, ◌++◌, length, Option}
use Rattle.std.proofs.Common.{Some, None, option_map, option_and_then, refl, sym, ap, ◌∙◌, subst, arith, length-append}
use Rattle.std.proofs.lemmas.Option.{none-some, same_Some}
use Rattle.yq_core.{specs.Paths.{Step, is_here, further}, specs.Tree.Node}
use Rattle.yq_outline.{specs.Ends.{found_line, line_at_steps}, specs.Group.{deeper_lines, shallow, lead, group}}
use Rattle.yq_outline.specs.Outline.{LineMark, Bare, Key, Dash, Line, level, Outline, end, row, flatten, label}
use Rattle.yq_outline.specs.Places.{Context, here, below, beside, compose, lines_before, FoundLine, next_to, find_row, place_inside}
use Rattle.yq_outline.specs.Places.{bare_or, in_head, find}
use Rattle.yq_places.proofs.PlacedPartLaws.{map_some}

-- ---- outlines that are the same up to a line

-- Two outlines have the same lines in front of line m and at it, under the same lines.
pub data Upto : ℕ → Outline → Outline → Type 0 where
  first : {m : ℕ} (l : Line) (u v a b : Outline) → m ≡ 0 → Upto m (row l u a) (row l v b)
  within : {m : ℕ} (n : ℕ) (l : Line) (u v a b : Outline) → m ≡ suc n → Upto n u v → Upto m (row l u a) (row l v b)
  later : {m : ℕ} (n : ℕ) (l : Line) (u a b : Outline) → m ≡ suc (length (flatten u) + n) → Upto n a b → Upto m (row l u a) (row l u b)

pub bound : (m : ℕ) (o p : Outline) → Upto m o p → m < length (flatten o)
bound m o p (first l u v a b e) = omega (arith, e)
bound m o p (within n l u v a b e w) = omega (arith, e, bound n u v w, length-append (flatten u) (flatten a))
bound m o p (later n l u a b e w) = omega (arith, e, bound n a b w, length-append (flatten u) (flatten a))

from_none : (m : ℕ) → m ≡ 0 + m
from_none m = omega arith

-- Of two outlines in two parts the first ones are the same, and line m is in the second ones.
pub record InSecond (m : ℕ) (a b c d : Outline) : Type 0 where
  pub left : ℕ
  pub number : m ≡ length (flatten a) + left
  pub same : a ≡ b
  pub there : Upto left c d

pub parted : (n m : ℕ) (o p : Outline) → Upto m o p → Upto m (deeper_lines n o) (deeper_lines n p) ⊎ InSecond m (deeper_lines n o) (deeper_lines n p) (shallow n o) (shallow n p)
parted n m o p (first l u v a b e) = go (ltb n (level l))
  where
    go : (c : Bool) → Upto m (cond c (row l u (deeper_lines n a)) end) (cond c (row l v (deeper_lines n b)) end)
        ⊎ InSecond m (cond c (row l u (deeper_lines n a)) end) (cond c (row l v (deeper_lines n b)) end) (cond c (shallow n a) (row l u a)) (cond c (shallow n b) (row l v b))
    go true = inl (first l u v (deeper_lines n a) (deeper_lines n b) e)
    go false = inr (record { left = m; number = from_none m; same = refl; there = first l u v a b e })
parted n m o p (within k l u v a b e w) = go (ltb n (level l))
  where
    go : (c : Bool) → Upto m (cond c (row l u (deeper_lines n a)) end) (cond c (row l v (deeper_lines n b)) end)
        ⊎ InSecond m (cond c (row l u (deeper_lines n a)) end) (cond c (row l v (deeper_lines n b)) end) (cond c (shallow n a) (row l u a)) (cond c (shallow n b) (row l v b))
    go true = inl (within k l u v (deeper_lines n a) (deeper_lines n b) e w)
    go false = inr (record { left = m; number = from_none m; same = refl; there = within k l u v a b e w })
parted n m o p (later k l u a b e w) = go (ltb n (level l)) (parted n k a b w)
  where
    go : (c : Bool) → Upto k (deeper_lines n a) (deeper_lines n b) ⊎ InSecond k (deeper_lines n a) (deeper_lines n b) (shallow n a) (shallow n b) →
        Upto m (cond c (row l u (deeper_lines n a)) end) (cond c (row l u (deeper_lines n b)) end)
        ⊎ InSecond m (cond c (row l u (deeper_lines n a)) end) (cond c (row l u (deeper_lines n b)) end) (cond c (shallow n a) (row l u a)) (cond c (shallow n b) (row l u b))
    go true (inl x) = inl (later k l u (deeper_lines n a) (deeper_lines n b) e x)
    go true (inr y) = inr (record {
      left = y.left;
      number = omega (arith, e, y.number, length-append (flatten u) (flatten (deeper_lines n a)));
      same = ap (row l u) y.same;
      there = y.there;
    })
    go false r = inr (record { left = m; number = from_none m; same = refl; there = later k l u a b e w })

led : (k : Line) (m : ℕ) (o p : Outline) → Upto m o p → Upto (suc m) (lead k o) (lead k p)
led k m o p w = go (parted (level k) m o p w)
  where
    go : Upto m (deeper_lines (level k) o) (deeper_lines (level k) p) ⊎ InSecond m (deeper_lines (level k) o) (deeper_lines (level k) p) (shallow (level k) o) (shallow (level k) p) →
        Upto (suc m) (lead k o) (lead k p)
    go (inl x) = within m k (deeper_lines (level k) o) (deeper_lines (level k) p) (shallow (level k) o) (shallow (level k) p) refl x
    go (inr y) =
        subst (λ (v : Outline). Upto (suc m) (lead k o) (row k v (shallow (level k) p))) y.same
        (later y.left k (deeper_lines (level k) o) (shallow (level k) o) (shallow (level k) p) (ap suc y.number) y.there)

pub grouped : (xs : List Line) (l : Line) (ys zs : List Line) → Upto (length xs) (group (xs ++ (l ∷ ys))) (group (xs ++ (l ∷ zs)))
grouped [] l ys zs = first l (deeper_lines (level l) (group ys)) (deeper_lines (level l) (group zs)) (shallow (level l) (group ys)) (shallow (level l) (group zs)) refl
grouped (a ∷ xs) l ys zs = led a (length xs) (group (xs ++ (l ∷ ys))) (group (xs ++ (l ∷ zs))) (grouped xs l ys zs)

-- ---- where a step leads

-- how many lines come before one that was found
abbrev pub line_index : FoundLine → ℕ
line_index f = length (lines_before f.place)

-- A line that was found no later is found in the other outline.
pub record IsThere (m : ℕ) (f : FoundLine) (r : Option FoundLine) : Type 0 where
  pub other : FoundLine
  pub found : r ≡ Some other
  pub line : other.line ≡ f.line
  pub number : line_index other ≡ line_index f
  pub lines : line_index f < m → (f.under ≡ other.under) ⊎ ((n : ℕ) × (m ≡ suc (line_index f + n)) × Upto n f.under other.under)

pub row_there : (s : Step) (m : ℕ) (o p : Outline) (f : FoundLine) → Upto m o p → find_row s o ≡ Some f → line_index f ≤ m → IsThere m f (find_row s p)
row_there s m o p f (first l u v a b e) found short = go (is_here s (label l)) found
  where
    go : (c : Bool) → cond c (Some (record { place = here; line = l; under = u; after = a })) (option_map (next_to l u) (find_row (further s) a)) ≡ Some f →
        IsThere m f (cond c (Some (record { place = here; line = l; under = v; after = b })) (option_map (next_to l v) (find_row (further s) b)))
    go true is =
        subst (λ (x : FoundLine). IsThere m x (Some (record { place = here; line = l; under = v; after = b }))) (same_Some _ _ is)
        (record { other = record { place = here; line = l; under = v; after = b }; found = refl; line = refl; number = refl; lines = λ less. absurd (omega (arith, e, less)) })
    go false is =
        let x = map_some (next_to l u) (find_row (further s) a) f is in
        absurd (omega (arith, e, short, ap line_index x.2))
row_there s m o p f (within n l u v a b e w) found short = go (is_here s (label l)) found
  where
    go : (c : Bool) → cond c (Some (record { place = here; line = l; under = u; after = a })) (option_map (next_to l u) (find_row (further s) a)) ≡ Some f →
        IsThere m f (cond c (Some (record { place = here; line = l; under = v; after = b })) (option_map (next_to l v) (find_row (further s) b)))
    go true is =
        subst (λ (x : FoundLine). IsThere m x (Some (record { place = here; line = l; under = v; after = b }))) (same_Some _ _ is)
        (record { other = record { place = here; line = l; under = v; after = b }; found = refl; line = refl; number = refl; lines = λ less. inr (n, e ∙ ap suc (from_none n), w) })
    go false is =
        let x = map_some (next_to l u) (find_row (further s) a) f is in
        absurd (omega (arith, e, short, bound n u v w, ap line_index x.2, length-append (flatten u) (lines_before x.0.place)))
row_there s m o p f (later n l u a b e w) found short = go (λ g is less. row_there (further s) n a b g w is less) (is_here s (label l)) found
  where
    go : ((g : FoundLine) → find_row (further s) a ≡ Some g → line_index g ≤ n → IsThere n g (find_row (further s) b)) → (c : Bool) →
        cond c (Some (record { place = here; line = l; under = u; after = a })) (option_map (next_to l u) (find_row (further s) a)) ≡ Some f →
        IsThere m f (cond c (Some (record { place = here; line = l; under = u; after = b })) (option_map (next_to l u) (find_row (further s) b)))
    go ih true is =
        subst (λ (x : FoundLine). IsThere m x (Some (record { place = here; line = l; under = u; after = b }))) (same_Some _ _ is)
        (record { other = record { place = here; line = l; under = u; after = b }; found = refl; line = refl; number = refl; lines = λ less. inl refl })
    go ih false is =
        let x = map_some (next_to l u) (find_row (further s) a) f is in
        let g : FoundLine = x.0 in
        let size : line_index (next_to l u g) ≡ suc (length (flatten u) + line_index g) = omega (arith, length-append (flatten u) (lines_before g.place)) in
        let y = ih g x.1 (omega (arith, e, short, size, ap line_index x.2)) in
        subst (λ (z : FoundLine). IsThere m z (option_map (next_to l u) (find_row (further s) b))) x.2 (record {
          other = next_to l u y.other;
          found = ap (option_map (next_to l u)) y.found;
          line = y.line;
          number = omega (arith, y.number, length-append (flatten u) (lines_before g.place), length-append (flatten u) (lines_before y.other.place));
          lines = λ less. further_in g y.other size (y.lines (omega (arith, e, less, size)));
        })
      where
        further_in : (g other : FoundLine) → line_index (next_to l u g) ≡ suc (length (flatten u) + line_index g) →
            (g.under ≡ other.under) ⊎ ((k : ℕ) × (n ≡ suc (line_index g + k)) × Upto k g.under other.under) →
            (g.under ≡ other.under) ⊎ ((k : ℕ) × (m ≡ suc (line_index (next_to l u g) + k)) × Upto k g.under other.under)
        further_in g other size (inl same) = inl same
        further_in g other size (inr z) = inr (z.0, omega (arith, e, size, z.1), z.2)

-- ---- where a path leads

-- A path leads to line m.
pub record PathThere (m : ℕ) (r : Option (FoundLine × List Step)) : Type 0 where
  pub other : FoundLine
  pub found : r ≡ Some (other, [])
  pub number : line_index other ≡ m

pub and_then_some : {A B : Type 0} (f : A → Option B) (o : Option A) (y : B) → option_and_then f o ≡ Some y → (x : A) × (o ≡ Some x) × (f x ≡ Some y)
and_then_some f None y e = absurd (none-some _ e)
and_then_some f (Some x) y e = (x, refl, e)

length-compose : (p q : Context) → length (lines_before (compose p q)) ≡ length (lines_before p) + length (lines_before q)
length-compose here q = omega arith
length-compose (below l p a) q = omega (arith, length-compose p q)
length-compose (beside l u p) q = omega (arith, length-compose p q, length-append (flatten u) (lines_before (compose p q)), length-append (flatten u) (lines_before p))

inside_index : (f g : FoundLine) → line_index (place_inside f g) ≡ suc (line_index f + line_index g)
inside_index f g = omega (arith, length-compose f.place (below f.line g.place f.after))

-- what a path finds further on
abbrev further_on : Step → List Step → FoundLine → Option (FoundLine × List Step)
further_on t ts f = in_head f.line.head (Some (f, t ∷ ts)) (option_map (λ x. (place_inside f x.0, x.1)) (find t ts f.under))

-- a line with no steps left
abbrev alone : FoundLine → FoundLine × List Step
alone f = (f, [])

last_there : (s : Step) (m : ℕ) (o p : Outline) (f : FoundLine) → Upto m o p → option_map alone (find_row s o) ≡ Some (f, []) → line_index f ≡ m →
    PathThere m (option_map alone (find_row s p))
last_there s m o p f w found number =
    let x = map_some alone (find_row s o) (f, []) found in
    let same : x.0 ≡ f = ap (λ (z : FoundLine × List Step). z.0) x.2 in
    let index : line_index x.0 ≡ m = ap line_index same ∙ number in
    let y = row_there s m o p x.0 w x.1 (omega (arith, index)) in
    record { other = y.other; found = ap (option_map alone) y.found; number = y.number ∙ index }

-- Further steps lead to the same line in outlines that are the same up to it.
abbrev StepsStay : Step → List Step → Type 0
StepsStay t ts = (m : ℕ) (o p : Outline) (f : FoundLine) → Upto m o p → find t ts o ≡ Some (f, []) → line_index f ≡ m → PathThere m (find t ts p)

more_there : (s t : Step) (ts : List Step) (m : ℕ) (o p : Outline) (f : FoundLine) → StepsStay t ts → Upto m o p → option_and_then (further_on t ts) (find_row s o) ≡ Some (f, []) → line_index f ≡ m →
    PathThere m (option_and_then (further_on t ts) (find_row s p))
more_there s t ts m o p f ih w found number =
    let x = and_then_some (further_on t ts) (find_row s o) (f, []) found in
    go x.0 x.1 x.0.line.head refl x.2
  where
    go : (g : FoundLine) → find_row s o ≡ Some g → (h : Option Node) → g.line.head ≡ h → in_head h (Some (g, t ∷ ts)) (option_map (λ x. (place_inside g x.0, x.1)) (find t ts g.under)) ≡ Some (f, []) →
        PathThere m (option_and_then (further_on t ts) (find_row s p))
    go g is (Some n) head e = absurd (omega (arith, ap (λ (z : FoundLine × List Step). length z.1) (same_Some _ _ e)))
    go g is None head e =
        let x = map_some (λ (x : FoundLine × List Step). (place_inside g x.0, x.1)) (find t ts g.under) (f, []) e in
        let index : suc (line_index g + line_index x.0.0) ≡ m = sym (inside_index g x.0.0) ∙ (ap (λ (z : FoundLine × List Step). line_index z.0) x.2 ∙ number) in
        let left : x.0.1 ≡ [] = ap (λ (z : FoundLine × List Step). z.1) x.2 in
        let first : find t ts g.under ≡ Some (x.0.0, []) = x.1 ∙ ap (λ (r : List Step). Some (x.0.0, r)) left in
        let y = row_there s m o p g w is (omega (arith, index)) in
        let z = under_it g y.other x.0.0 first index (y.lines (omega (arith, index))) in
        record {
          other = place_inside y.other z.other;
          found = ap (option_and_then (further_on t ts)) y.found
              ∙ (ap (λ (k : Option Node). in_head k (Some (y.other, t ∷ ts)) (option_map (λ x. (place_inside y.other x.0, x.1)) (find t ts y.other.under))) (ap (λ (k : Line). k.head) y.line ∙ head)
              ∙ ap (option_map (λ (x : FoundLine × List Step). (place_inside y.other x.0, x.1))) z.found);
          number = omega (arith, inside_index y.other z.other, y.number, z.number, index);
        }
      where
        under_it : (g other k : FoundLine) → find t ts g.under ≡ Some (k, []) → suc (line_index g + line_index k) ≡ m →
            (g.under ≡ other.under) ⊎ ((n : ℕ) × (m ≡ suc (line_index g + n)) × Upto n g.under other.under) → PathThere (line_index k) (find t ts other.under)
        under_it g other k found index (inl same) = record { other = k; found = ap (find t ts) (sym same) ∙ found; number = refl }
        under_it g other k found index (inr z) =
            let same : line_index k ≡ z.0 = omega (arith, index, z.1) in
            subst (λ (n : ℕ). PathThere n (find t ts other.under)) (sym same) (ih z.0 g.under other.under k z.2 found same)

-- steps stay where no node alone is the first line
marked_last : (k : LineMark) (f : FoundLine) (m : ℕ) (s : Step) (x y : Option (FoundLine × List Step)) (g h : FoundLine) → (x ≡ Some (f, []) → PathThere m y) →
    bare_or k (Some (g, s ∷ [])) x ≡ Some (f, []) → PathThere m (bare_or k (Some (h, s ∷ [])) y)
marked_last Bare f m s x y g h then e = absurd (omega (arith, ap (λ (z : FoundLine × List Step). length z.1) (same_Some _ _ e)))
marked_last (Key k) f m s x y g h then e = then e
marked_last Dash f m s x y g h then e = then e

marked_more : (k : LineMark) (f : FoundLine) (m : ℕ) (s t : Step) (ts : List Step) (x y : Option (FoundLine × List Step)) (g h : FoundLine) → (x ≡ Some (f, []) → PathThere m y) →
    bare_or k (Some (g, s ∷ (t ∷ ts))) x ≡ Some (f, []) → PathThere m (bare_or k (Some (h, s ∷ (t ∷ ts))) y)
marked_more Bare f m s t ts x y g h then e = absurd (omega (arith, ap (λ (z : FoundLine × List Step). length z.1) (same_Some _ _ e)))
marked_more (Key k) f m s t ts x y g h then e = then e
marked_more Dash f m s t ts x y g h then e = then e

pub path_there : (s : Step) (ss : List Step) → StepsStay s ss
path_there s [] m o p f (first l u v a b e) found number =
    marked_last l.mark f m s _ _ _ _ (λ x. last_there s m (row l u a) (row l v b) f (first l u v a b e) x number) found
path_there s [] m o p f (within n l u v a b e w) found number =
    marked_last l.mark f m s _ _ _ _ (λ x. last_there s m (row l u a) (row l v b) f (within n l u v a b e w) x number) found
path_there s [] m o p f (later n l u a b e w) found number =
    marked_last l.mark f m s _ _ _ _ (λ x. last_there s m (row l u a) (row l u b) f (later n l u a b e w) x number) found
path_there s (t ∷ ts) m o p f (first l u v a b e) found number =
    marked_more l.mark f m s t ts _ _ _ _ (λ x. more_there s t ts m (row l u a) (row l v b) f (path_there t ts) (first l u v a b e) x number) found
path_there s (t ∷ ts) m o p f (within n l u v a b e w) found number =
    marked_more l.mark f m s t ts _ _ _ _ (λ x. more_there s t ts m (row l u a) (row l v b) f (path_there t ts) (within n l u v a b e w) x number) found
path_there s (t ∷ ts) m o p f (later n l u a b e w) found number =
    marked_more l.mark f m s t ts _ _ _ _ (λ x. more_there s t ts m (row l u a) (row l u b) f (path_there t ts) (later n l u a b e w) x number) found

-- the line of an item or entry, whatever lines come after it
pub line_stays : (steps : List Step) (xs : List Line) (l : Line) (ys zs : List Line) → line_at_steps steps (xs ++ (l ∷ ys)) ≡ Some (length xs) → line_at_steps steps (xs ++ (l ∷ zs)) ≡ Some (length xs)
line_stays [] xs l ys zs e = absurd (none-some _ e)
line_stays (s ∷ ss) xs l ys zs e =
    let x = and_then_some (λ (x : FoundLine × List Step). found_line x.0 x.1) (find s ss (group (xs ++ (l ∷ ys)))) (length xs) e in
    go x.0.0 x.0.1 x.1 x.2
  where
    go : (f : FoundLine) (rest : List Step) → find s ss (group (xs ++ (l ∷ ys))) ≡ Some (f, rest) → found_line f rest ≡ Some (length xs) → line_at_steps (s ∷ ss) (xs ++ (l ∷ zs)) ≡ Some (length xs)
    go f (t ∷ ts) is n = absurd (none-some _ n)
    go f [] is n =
        let y = path_there s ss (length xs) (group (xs ++ (l ∷ ys))) (group (xs ++ (l ∷ zs))) f (grouped xs l ys zs) is (same_Some _ _ n) in
        ap (option_and_then (λ (x : FoundLine × List Step). found_line x.0 x.1)) y.found ∙ ap Some y.number
