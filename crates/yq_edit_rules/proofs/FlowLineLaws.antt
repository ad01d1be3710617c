-- The line in whose head a node at a path is, and a document in which that line has another head.
use Rattle.std.proofs.Common.{◌≡◌, ◌⊎◌, inl, inr, ℕ, suc, ◌+◌, ◌<◌, List, [], ◌∷◌, ◌++◌, Option, Some, None, option_map, option_and_then}
use Rattle.std.{proofs.Common.{refl, sym, ap, ◌∙◌, subst, arith, rules}, proofs.lemmas.Option.{none-some, same_Some}, specs.Prelude.is_some}
use Rattle.yq_core.{specs.Answers.◌>>=◌, specs.Paths.{Step, changed_at, within}, specs.Tree.{Node, Children, none, child}}
use Rattle.yq_core.specs.Anchors.{IsNoAlias}
use Rattle.yq_outline.{specs.LineAnchors.{IsFree, HaveOneAnchorEach}, specs.Group.level_or, specs.Laws.with_lines}
use Rattle.yq_outline.specs.Outline.{LineMark, Bare, Key, Dash, Line, level, Outline, end, row, flatten, IsEven, anchored, label}
use Rattle.yq_outline.specs.Outline.{outline_node, value, IsOpen, head_or}
use Rattle.yq_outline.specs.Places.{here, below, lines_before, lines_after, plug, FoundLine, find, in_head, place_inside, content_under}
use Rattle.yq_outline.{specs.Positions.has_no_mark, proofs.Finding.{IsFoundIn, path_whole}, proofs.PlaceLaws.{at, placed}}
use Rattle.yq_outline.{proofs.Plug.{plug-compose, allows_from}, proofs.Values.anchored-within, specs.Lines.lines_of_rows}
use Rattle.yq_row_table.specs.Rows.{Part, Cut}
use Rattle.yq_documents.{specs.Documents.lead_of, specs.Reading.{part_outline, root_of}}
use Rattle.yq_places.{specs.FlowNodes.{bare_line, head_line, find_head}, proofs.FlowPlaceLaws.{TakesSteps, Takes, takes_left}}
use Rattle.yq_edit_rules.{specs.Changed.{IsChanged, put_document}, specs.Conditions.last_anchor, specs.Edited.IsPut}
use Rattle.yq_edit_rules.{specs.FlowChanges.with_head, specs.Siblings.{NodeLines, under_line, lines_below, lines_at, put_lines}}
use Rattle.yq_edit_rules.{specs.SoundRoots.IsSoundRoot, proofs.AnchorLaws.lines_among}
use Rattle.yq_edit_rules.proofs.EditedLaws.{known, lines_exchanged, lead_from, led_as, line_exchanged}
use Rattle.yq_edit_rules.{proofs.NodeLineLaws.{low_level, under_even}, proofs.ContentLaws.free_alone, proofs.PlacedLaws.whole_line}

-- ---- the operations inside flow collections, by the head of one line

-- a head that is an alias only where the old one is
abbrev pub NoNewAlias : Node → Node → Type 0
NoNewAlias n m = IsNoAlias (Some n) → IsNoAlias (Some m)

-- the anchor before a line that was found is no second one
pub free_before : (before : List Line) (l : Line) (ls : List Line) → HaveOneAnchorEach (before ++ (l ∷ ls)) → IsFree (last_anchor before) (l ∷ ls)
free_before [] l ls h = tt
free_before (k ∷ []) l ls h = h.0
free_before (k ∷ (m ∷ before)) l ls h = free_before (m ∷ before) l ls h.1

-- a line with another head takes the anchor that the old one takes
pub other_head : (a : Option (List ℕ)) (l : Line) (n m : Node) (ls ms : List Line) → l.head ≡ Some n → NoNewAlias n m → IsFree a (l ∷ ls) → IsFree a (with_head m l ∷ ms)
other_head a l n m ls ms h1 h2 h3 = search rules

pub none_under : (h : Option Node) (n : Node) (u : Outline) → h ≡ Some n → IsOpen h u → u ≡ end
none_under h n u h1 h2 = search (rules, none-some)

-- a line with another head
pub changed_head : (t : List ℕ) (c : Cut) (k : ℕ) (p q : Part) (s : Step) (ss rest : List Step) (f : FoundLine) (n m : Node) (g : Node → Node) → IsPut t c k p q →
    find s ss (part_outline p) ≡ Some (f, rest) → f.line.head ≡ Some n → NoNewAlias n m → anchored f.line.anchor m ≡ changed_at rest g (anchored f.line.anchor n) →
    lines_of_rows q.rows ≡ with_lines f (with_head m f.line ∷ []) →
    IsSoundRoot (changed_at (s ∷ ss) g (root_of p)) → IsChanged c (put_document k q c) k (lead_of p) (changed_at (s ∷ ss) g)
unfolding level
changed_head t c k p q s ss rest f n m g put found head new is lines sound =
    let none_free : (a : Option (List ℕ)) → IsFree a [] = λ a. search rules in
    let w = known t c k p q put in
    let o : Outline = part_outline p in
    let whole : plug f.place (row f.line f.under f.after) ≡ o = at (IsFoundIn o) (find s ss o) (f, rest) found (path_whole s ss o) in
    let old = (allows_from (level_or 0 o) f.place f.line f.under f.after (subst (λ x. IsEven (level_or 0 o) x) (sym whole) w.even)).1 in
    let node : content_under f.line f.under ≡ anchored f.line.anchor n = ap (λ x. anchored f.line.anchor (head_or x (value f.under))) head in
    let was : HaveOneAnchorEach (with_lines f (f.line ∷ flatten f.under)) = subst HaveOneAnchorEach (sym w.lines ∙ whole_line o s ss rest f found) w.each in
    let free = other_head (last_anchor (lines_before f.place)) f.line n m _ [] head new (free_before (lines_before f.place) f.line _ was) in
    line_exchanged t c k p q s ss rest f g (level f.line + 1) (with_head m f.line) end put found
    (record { label_is = refl; level_is = refl; headless = tt; deep = omega arith; even = tt; node_is = is ∙ ap (changed_at rest g) (sym node) })
    (search (rules, head, old.2)) (record { each = (none_free f.line.anchor, tt); free = free }) lines sound

-- ---- the line in whose head a node at a path is, and a document in which that line has another head

-- The line is that of an item or entry, or steps go on in its head.
record InEntry (steps : List Step) (o : Outline) (f : FoundLine) (rest : List Step) : Type 0 where
  first : Step
  others : List Step
  steps_are : steps ≡ first ∷ others
  found : find first others o ≡ Some (f, rest)
  takes : TakesSteps f.line

-- The line is that of a node itself, to which the steps lead.
record OnLine (steps : List Step) (o : Outline) (f : FoundLine) (rest : List Step) : Type 0 where
  lines : NodeLines
  is : lines_at steps o ≡ Some lines
  left : rest ≡ []
  outline : lines.lines ≡ row f.line f.under f.after
  even : (m : ℕ) × (lines.above < m) × IsEven m lines.lines
  put : f.after ≡ end → (ls : List Line) → with_lines f ls ≡ put_lines lines ls
  bare : f.line.mark ≡ Bare
  whole : plug f.place (row f.line f.under f.after) ≡ o

abbrev Cases : List Step → Outline → FoundLine → List Step → Type 0
Cases steps o f rest = InEntry steps o f rest ⊎ OnLine steps o f rest

root_line : (n : ℕ) (l : Line) (u a : Outline) (f : FoundLine) (rest : List Step) → IsEven n (row l u a) → find_head [] (row l u a) ≡ Some (f, rest) → Cases [] (row l u a) f rest
root_line n l u a f rest even e = go l.mark refl e
  where
    go : (m : LineMark) → l.mark ≡ m →
        option_map {U = FoundLine × List Step} (λ g. (g, []))
        (Rattle.std.proofs.Common.cond (has_no_mark m) (Some (record { place = here; line = l; under = u; after = a })) None) ≡ Some (f, rest) →
        Cases [] (row l u a) f rest
    go Bare is e = inr (subst (λ (x : FoundLine × List Step). OnLine [] (row l u a) x.0 x.1) (same_Some _ _ e) (record {
      lines = record { place = here; above = 0; anchor = None; lines = row l u a };
      is = refl;
      left = refl;
      outline = refl;
      even = (n, omega (arith, even.0, low_level l), even);
      put = λ x ls. ap (λ (y : Outline). ls ++ (flatten y ++ [])) x;
      bare = is;
      whole = refl;
    }))
    go _ is e = absurd (none-some _ e)

under_line_is : (n : ℕ) (o : Outline) (s : Step) (ss : List Step) (g : FoundLine) (f : FoundLine) (rest : List Step) → IsEven n o → find s ss o ≡ Some (g, []) → g.line.head ≡ None → (u : Outline) → g.under ≡ u →
    option_map {U = FoundLine × List Step} (λ y. (place_inside g y, [])) (bare_line u) ≡ Some (f, rest) → Cases (s ∷ ss) o f rest
under_line_is n o s ss g f rest even is open' end under e = absurd (none-some _ e)
under_line_is n o s ss g f rest even is open' (row l v a) under e = go l.mark refl e
  where
    go : (m : LineMark) → l.mark ≡ m →
        option_map {U = FoundLine × List Step} (λ y. (place_inside g y, []))
        (Rattle.std.proofs.Common.cond (has_no_mark m) (Some (record { place = here; line = l; under = v; after = a })) None) ≡ Some (f, rest) →
        Cases (s ∷ ss) o f rest
    go (Key k) mark e = absurd (none-some _ e)
    go Dash mark e = absurd (none-some _ e)
    go Bare mark e = inr (subst (λ (x : FoundLine × List Step). OnLine (s ∷ ss) o x.0 x.1) (same_Some _ _ e) (record {
      lines = under_line g;
      is = ap (option_and_then (λ x. lines_below x.0.line.head x.1 x.0)) is ∙ ap (λ h. lines_below h [] g) open';
      left = refl;
      outline = under;
      even = (under_even n o s ss g even is).1.3;
      put = search rules;
      bare = mark;
      whole = plug-compose g.place (below g.line here g.after) (row l v a) ∙ (ap (λ (y : Outline). plug g.place (row g.line y g.after)) (sym under) ∙ at (IsFoundIn o) (find s ss o) (g, []) is (path_whole s ss o));
    }))

head_cases : (n : ℕ) (o : Outline) (steps : List Step) (f : FoundLine) (rest : List Step) → IsEven n o → find_head steps o ≡ Some (f, rest) → Cases steps o f rest
head_cases n end [] f rest even e = absurd (none-some _ e)
head_cases n (row l u a) [] f rest even e = root_line n l u a f rest even e
head_cases n o (s ∷ ss) f rest even e = go (find s ss o) refl e
  where
    entry : (g : FoundLine) (left : List Step) → find s ss o ≡ Some (g, left) → TakesSteps g.line → ◌≡◌ {A = Option (FoundLine × List Step)} (Some (g, left)) (Some (f, rest)) → Cases (s ∷ ss) o f rest
    entry g left is takes e = inl (subst (λ (x : FoundLine × List Step). InEntry (s ∷ ss) o x.0 x.1) (same_Some _ _ e) (record { first = s; others = ss; steps_are = refl; found = is; takes = takes }))

    own : (g : FoundLine) → find s ss o ≡ Some (g, []) → (h : Option Node) → g.line.head ≡ h →
        in_head h (Some (g, [])) (option_map {U = FoundLine × List Step} (λ y. (place_inside g y, [])) (bare_line g.under)) ≡ Some (f, rest) →
        Cases (s ∷ ss) o f rest
    own g is (Some m) head e = entry g [] is (inr (ap is_some head)) e
    own g is None head e = under_line_is n o s ss g f rest even is head g.under refl e

    line : (g : FoundLine) (left : List Step) → find s ss o ≡ Some (g, left) → head_line g left ≡ Some (f, rest) → Cases (s ∷ ss) o f rest
    line g [] is e = own g is g.line.head refl e
    line g (t ∷ ts) is e = entry g (t ∷ ts) is (at Takes (find s ss o) (g, t ∷ ts) is (takes_left s ss o)) e

    go : (r : Option (FoundLine × List Step)) → find s ss o ≡ r → (r >>= λ x. head_line x.0 x.1) ≡ Some (f, rest) → Cases (s ∷ ss) o f rest
    go None is e = absurd (none-some _ e)
    go (Some x) is e = line x.0 x.1 is e

-- the line is in the outline
pub head_whole : (n : ℕ) (o : Outline) (steps : List Step) (f : FoundLine) (rest : List Step) → IsEven n o → find_head steps o ≡ Some (f, rest) → plug f.place (row f.line f.under f.after) ≡ o
head_whole n o steps f rest even e = go (head_cases n o steps f rest even e)
  where
    go : Cases steps o f rest → plug f.place (row f.line f.under f.after) ≡ o
    go (inl c) = at (IsFoundIn o) (find c.first c.others o) (f, rest) c.found (path_whole c.first c.others o)
    go (inr c) = c.whole

-- steps may go on in its head
pub head_takes : (n : ℕ) (o : Outline) (steps : List Step) (f : FoundLine) (rest : List Step) → IsEven n o → find_head steps o ≡ Some (f, rest) → TakesSteps f.line
head_takes n o steps f rest even e = go (head_cases n o steps f rest even e)
  where
    go : Cases steps o f rest → TakesSteps f.line
    go c = search rules

bare_value : (x : Line) → x.mark ≡ Bare → value (row x end end) ≡ content_under x end
bare_value x e = ap (λ y. outline_node y (child (label x) (content_under x end) none)) e

-- a node itself with another head
line_changed : (t : List ℕ) (c : Cut) (k : ℕ) (p q : Part) (steps rest : List Step) (f : FoundLine) (n m : Node) (h : Children → Children) → IsPut t c k p q → OnLine steps (part_outline p) f rest →
    f.line.head ≡ Some n → NoNewAlias n m → anchored f.line.anchor m ≡ changed_at rest (within h) (anchored f.line.anchor n) → lines_of_rows q.rows ≡ with_lines f (with_head m f.line ∷ []) →
    IsSoundRoot (changed_at steps (within h) (root_of p)) → IsChanged c (put_document k q c) k (lead_of p) (changed_at steps (within h))
unfolding level
line_changed t c k p q steps rest f n m h put on head new is lines sound =
    let w = known t c k p q put in
    let o : Outline = part_outline p in
    let a : NodeLines = on.lines in
    let l : Line = f.line in
    let other : Line = with_head m l in
    let old : IsEven on.even.0 (row l f.under f.after) = subst (IsEven on.even.0) on.outline on.even.2 in
    let under : f.under ≡ end = none_under l.head n f.under head old.1 in
    let after : f.after ≡ end = search (rules, on.bare, old.2) in
    let node : value a.lines ≡ anchored l.anchor n = search (rules, bare_value, under, after, l) in
    let whole_is : value (row other end end) ≡ within h (anchored l.anchor n) = bare_value other on.bare ∙ (is ∙ ap (λ x. changed_at x (within h) (anchored l.anchor n)) on.left) in
    let news : lines_of_rows q.rows ≡ put_lines a (other ∷ []) = lines ∙ on.put after (other ∷ []) in
    let olds : lines_of_rows p.rows ≡ put_lines a (l ∷ []) =
    sym w.lines ∙ (ap flatten (sym on.whole) ∙ (placed f l f.under ∙ (ap (λ (u : Outline). with_lines f (l ∷ flatten u)) under ∙ on.put after (l ∷ [])))) in
    let among = lines_among (level_or 0 o) o steps a w.even on.is in
    let free : IsFree (last_anchor (lines_before a.place)) (other ∷ []) =
    other_head (last_anchor (lines_before a.place)) l n m (lines_after a.place) [] head new (free_before (lines_before a.place) l (lines_after a.place) (subst HaveOneAnchorEach olds w.each)) in
    led_as c (put_document k q c) k (lead_of q) (lead_of p) (changed_at steps (within h)) (lead_from p q (lines_before a.place) l other (lines_after a.place) (lines_after a.place) olds news refl)
    (lines_exchanged t c k p q steps a (within h) on.even.0 (row other end end) put on.is
    (record {
      deep = on.even.1;
      even = (old.0, tt, (search rules), (suc on.even.0, omega arith, tt), tt);
      node_is = ap (anchored a.anchor) whole_is ∙ (anchored-within a.anchor h (anchored l.anchor n) ∙ ap (λ x. within h (anchored a.anchor x)) (sym node));
    })
    (record { each = (free_alone l.anchor, tt); free = subst (λ b. IsFree b (other ∷ [])) among.1 free }) news sound)

-- the line at a path with another head
pub flow_line_changed : (t : List ℕ) (c : Cut) (k : ℕ) (p q : Part) (steps rest : List Step) (f : FoundLine) (n m : Node) (h : Children → Children) → IsPut t c k p q →
    find_head steps (part_outline p) ≡ Some (f, rest) → f.line.head ≡ Some n → NoNewAlias n m → anchored f.line.anchor m ≡ changed_at rest (within h) (anchored f.line.anchor n) →
    lines_of_rows q.rows ≡ with_lines f (with_head m f.line ∷ []) → IsSoundRoot (changed_at steps (within h) (root_of p)) → IsChanged c (put_document k q c) k (lead_of p) (changed_at steps (within h))
flow_line_changed t c k p q steps rest f n m h put found head new is lines sound =
    go (head_cases (level_or 0 (part_outline p)) (part_outline p) steps f rest (known t c k p q put).even found)
  where
    go : InEntry steps (part_outline p) f rest ⊎ OnLine steps (part_outline p) f rest → IsChanged c (put_document k q c) k (lead_of p) (changed_at steps (within h))
    go (inr on) = line_changed t c k p q steps rest f n m h put on head new is lines sound
    go (inl x) =
        subst (λ (ss : List Step). IsChanged c (put_document k q c) k (lead_of p) (changed_at ss (within h))) (sym x.steps_are)
        (changed_head t c k p q x.first x.others rest f n m (within h) put x.found head new is lines (subst (λ (ss : List Step). IsSoundRoot (changed_at ss (within h) (root_of p))) x.steps_are sound))
