-- The anchors and aliases of a node, as those of its lines.
use Rattle.std.proofs.Common.{◌≡◌, ℕ, List, [], ◌∷◌, ◌++◌, Option, Some, None, true, refl, ap, ◌∙◌, append_assoc, append-nil, rules, ◌<◌}
use Rattle.std.{proofs.Common.{false, arith}, proofs.lemmas.Bool.{lt-ltb, cond-true, and_parts}, proofs.Math.Bool.and-false}
use Rattle.yq_core.{specs.Tree.{Label, Node, child}, specs.Anchors.{Name, anchor_names, names_of, names_in, IsNoAlias}}
use Rattle.yq_core.specs.Inline.{depth_limit}
use Rattle.yq_outline.{specs.LineAnchors.{MayTake, IsFree, HaveOneAnchorEach}, specs.Group.{group, level_or, is_fine, deeper_lines}}
use Rattle.yq_outline.specs.Names.{head_names, line_names, IsUnnamed, MayBeNamed, HaveHeadsApart}
use Rattle.yq_outline.specs.Outline.{LineMark, Bare, Line, Outline, end, row, flatten, IsOpen, IsWhole, IsEven, anchored, head_or}
use Rattle.yq_outline.{specs.Outline.{outline_node, children, value, level}, proofs.Decides.{flatten-group, even_from}}
use Rattle.yq_outline.{proofs.NodeLaws.anchored_none, specs.Ends.part, specs.LinesReading.{names_are_sound, lines_are_sound}}
use Rattle.yq_outline.{specs.Sound.is_sound_outline, proofs.NameConditions.anchors_are, proofs.Values.rank_small}

with-append : (a : Option (List ℕ)) (xs ys : List Name) → anchor_names a (xs ++ ys) ≡ anchor_names a xs ++ ys
with-append a xs ys = search rules

pub line_names-append : (xs ys : List Line) → line_names (xs ++ ys) ≡ line_names xs ++ line_names ys
line_names-append [] ys = refl
line_names-append (l ∷ xs) ys = search (rules, append_assoc, with-append, line_names-append xs ys)

-- a node that may take an anchor
abbrev NodeTakes : Option (List ℕ) → Node → Type 0
NodeTakes None n = Unit {0}
NodeTakes (Some a) n = IsNoAlias (Some n) × IsUnnamed (Some n)

named_node : (a : Option (List ℕ)) (n : Node) → NodeTakes a n → names_of (anchored a n) ≡ anchor_names a (names_of n)
named_node a n h1 = search rules

head_takes : (a : Option (List ℕ)) (h : Node) → IsUnnamed (Some h) → MayBeNamed a (Some h) → NodeTakes a h
head_takes a h h1 h2 = search rules

bare_takes : (x : List ℕ) (k : Option (List ℕ)) (h : Option Node) (v w : Outline) → MayTake Bare k h → IsUnnamed h → IsWhole Bare h w → NodeTakes (Some x) (anchored k (head_or h (value v)))
bare_takes x k h v w h1 h2 h3 = search (rules, anchored_none)

-- an anchor before lines can be that of their node
value_takes : (a : Option (List ℕ)) (n : ℕ) (o : Outline) → IsEven n o → IsFree a (flatten o) → HaveHeadsApart (flatten o) → NodeTakes a (value o)
value_takes a n o h1 h2 h3 = search (rules, bare_takes)

collection_names : (m : LineMark) (h : Option Node) (w : Outline) (lbl : Label) (n : Node) → IsWhole m h w → names_of (outline_node m (child lbl n (children w))) ≡ names_of n ++ names_in (children w)
collection_names m h w lbl n h1 = search (rules, append-nil)

names_value : (n : ℕ) (o : Outline) → IsEven n o → names_of (value o) ≡ names_in (children o)
names_value n o h1 = search (rules, collection_names)

pub each_front : (xs ys : List Line) → HaveOneAnchorEach (xs ++ ys) → HaveOneAnchorEach xs
each_front [] ys h = tt
each_front (l ∷ xs) ys h = (search rules, each_front xs ys h.1)

pub each_back : (xs ys : List Line) → HaveOneAnchorEach (xs ++ ys) → HaveOneAnchorEach ys
each_back [] ys h = h
each_back (l ∷ xs) ys h = each_back xs ys h.1

apart_front : (xs ys : List Line) → HaveHeadsApart (xs ++ ys) → HaveHeadsApart xs
apart_front [] ys h = tt
apart_front (l ∷ xs) ys h = (h.0, apart_front xs ys h.1)

apart_back : (xs ys : List Line) → HaveHeadsApart (xs ++ ys) → HaveHeadsApart ys
apart_back [] ys h = h
apart_back (l ∷ xs) ys h = apart_back xs ys h.1

-- the names of one item or entry
entry_names : (a : Option (List ℕ)) (h : Option Node) (n : ℕ) (u : Outline) → IsOpen h u → IsUnnamed h → MayBeNamed a h → IsEven n u → IsFree a (flatten u) → HaveHeadsApart (flatten u) →
    names_in (children u) ≡ line_names (flatten u) → names_of (anchored a (head_or h (value u))) ≡ anchor_names a (head_names h ++ line_names (flatten u))
entry_names a h n u h1 h2 h3 h4 h5 h6 h7 = search (rules, named_node, value_takes, names_value, head_takes, append-nil)

names_children : (n : ℕ) (o : Outline) → IsEven n o → HaveOneAnchorEach (flatten o) → HaveHeadsApart (flatten o) → names_in (children o) ≡ line_names (flatten o)
names_children n end even each apart = refl
names_children n (row l u a) even each apart =
    let fu = flatten u in
    let fa = flatten a in
    let hn = head_names l.head in
    let below = names_children even.3.0 u even.3.2 (each_front fu fa each.1) (apart_front fu fa apart.1) in
    let here = entry_names l.anchor l.head even.3.0 u even.1 apart.0.0 apart.0.1 even.3.2 (search rules) (apart_front fu fa apart.1) below in
    let after = names_children n a even.4 (each_back fu fa each.1) (apart_back fu fa apart.1) in
    search (rules, with-append, append_assoc, line_names-append, fu, fa, hn, here, after)

-- The names of the node that lines mean are those of the lines, in order.
pub names_lines : (ls : List Line) → is_fine (group ls) ≡ true → HaveOneAnchorEach ls → HaveHeadsApart ls → names_of (value (group ls)) ≡ line_names ls
names_lines ls fine each apart =
    let o = group ls in
    let n = level_or 0 o in
    let even = even_from n o fine in
    search (rules, flatten-group, names_value, names_children, o, n, even)

-- ---- what is asked of all lines of a document

pub above : (l : Line) → 0 < level l
unfolding level
above l = omega (arith, rank_small l.mark)

-- all lines are deeper than the level 0
pub deeper-all : (o : Outline) → deeper_lines 0 o ≡ o
deeper-all end = refl
deeper-all (row l u a) = cond-true _ _ _ (lt-ltb 0 (level l) (above l)) ∙ ap (row l u) (deeper-all a)

pub part-all : (ls : List Line) → part ls 0 0 ≡ group ls
part-all ls = deeper-all (group ls)

-- the node of all lines
pub all_value : (ls : List Line) → anchored None (value (part ls 0 0)) ≡ value (group ls)
all_value ls = anchored_none (value (part ls 0 0)) ∙ ap value (part-all ls)

-- lines that don't mean a node, or not for one that is sound
pub lines_unsound : (ls : List Line) → false ≡ is_sound_outline depth_limit (part ls 0 0) → false ≡ lines_are_sound ls
lines_unsound ls h = search (rules, part-all, and-false)

-- of lines that mean a sound node, their anchors and aliases are left to ask of
pub lines_named : (ls : List Line) → HaveHeadsApart ls → true ≡ is_sound_outline depth_limit (part ls 0 0) → names_are_sound ls ≡ lines_are_sound ls
lines_named ls apart h = search (rules, part-all, and_parts, names_lines, anchors_are)
