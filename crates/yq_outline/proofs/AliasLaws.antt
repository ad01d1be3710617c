-- Aliases of a node are in heads of its lines.
use Rattle.std.proofs.Common.{◌≡◌, ℕ, zero, suc, ltb, Bool, true, false, ◌||◌, cond, List, [], ◌∷◌, ◌++◌, drop, Option, refl, sym, ap, ◌∙◌}
use Rattle.std.{proofs.Common.rules, specs.List.list_any, proofs.lemmas.Bool.{false≢true, or_parts}}
use Rattle.std.proofs.lemmas.List.Folds.{list_any-append}
use Rattle.yq_core.{specs.Tree.{Node, Children}, specs.Anchors.{Name, Anchors, Refers, anchor_names, names_of, names_in}}
use Rattle.yq_outline.{specs.Ends.part, specs.Group.deeper_lines, specs.LinesReading.are_bound}
use Rattle.yq_outline.specs.Names.{is_reference, head_names, line_names}
use Rattle.yq_outline.specs.Outline.{Line, level, Outline, end, row, flatten, anchored, head_or, shaped, children}
use Rattle.yq_outline.{proofs.Decides.flatten-group, proofs.NameLaws.line_names-append}

-- some of these names is an alias's
abbrev refer : List Name → Bool
refer ns = list_any is_reference ns

refer-append : (xs ys : List Name) → refer (xs ++ ys) ≡ (refer xs || refer ys)
refer-append xs ys = list_any-append is_reference xs ys

refer-anchor : (a : Option (List ℕ)) (ns : List Name) → refer (anchor_names a ns) ≡ refer ns
refer-anchor a ns = search rules

refer-anchored : (a : Option (List ℕ)) (n : Node) → refer (names_of (anchored a n)) ≡ refer (names_of n)
refer-anchored a n = search (rules, refer-anchor)

-- parts of lines without aliases
pub none_line : (l : Line) (ls : List Line) → refer (line_names (l ∷ ls)) ≡ false → (refer (head_names l.head) ≡ false) × (refer (line_names ls) ≡ false)
none_line l ls h = or_parts (refer (head_names l.head)) (refer (line_names ls)) (sym (refer-append (head_names l.head) (line_names ls)) ∙ (sym (refer-anchor l.anchor (head_names l.head ++ line_names ls)) ∙ h))

none_both : (xs ys : List Line) → refer (line_names (xs ++ ys)) ≡ false → (refer (line_names xs) ≡ false) × (refer (line_names ys) ≡ false)
none_both xs ys h = or_parts (refer (line_names xs)) (refer (line_names ys)) (sym (refer-append (line_names xs) (line_names ys)) ∙ (ap refer (sym (line_names-append xs ys)) ∙ h))

none_drop : (k : ℕ) (ls : List Line) → refer (line_names ls) ≡ false → refer (line_names (drop k ls)) ≡ false
none_drop zero ls h = h
none_drop (suc k) [] h = refl
none_drop (suc k) (l ∷ ls) h = none_drop k ls (none_line l ls h).1

none_shaped : (o : Outline) (cs : Children) → refer (names_in cs) ≡ false → refer (names_of (shaped o cs)) ≡ false
none_shaped o cs h1 = search (rules, or_parts, refer-append)

none_entry : (head : Option Node) (n : Node) → refer (head_names head) ≡ false → refer (names_of n) ≡ false → refer (names_of (head_or head n)) ≡ false
none_entry head n h1 h2 = search rules

-- lines without aliases under which nodes are
none_children : (o : Outline) → refer (line_names (flatten o)) ≡ false → refer (names_in (children o)) ≡ false
none_children end h = refl
none_children (row l u a) h =
    let p = none_line l (flatten u ++ flatten a) h in
    let q = none_both (flatten u) (flatten a) p.1 in
    let entry = none_entry l.head (shaped u (children u)) p.0 (none_shaped u (children u) (none_children u q.0)) in
    refer-append (names_of (anchored l.anchor (head_or l.head (shaped u (children u))))) (names_in (children a))
    ∙ (λ i. (refer-anchored l.anchor (head_or l.head (shaped u (children u))) ∙ entry) i || none_children a q.1 i)

-- the names in the entry or item of a line
abbrev entry_names : Line → Outline → List Name
entry_names l u = names_of (anchored l.anchor (head_or l.head (shaped u (children u))))

none_entries : (l : Line) (u a : Outline) → refer (names_in (children (row l u a))) ≡ false → (refer (entry_names l u) ≡ false) × (refer (names_in (children a)) ≡ false)
none_entries l u a h = or_parts (refer (entry_names l u)) (refer (names_in (children a))) (sym (refer-append (entry_names l u) (names_in (children a))) ∙ h)

none_deeper : (n : ℕ) (o : Outline) → refer (names_in (children o)) ≡ false → refer (names_in (children (deeper_lines n o))) ≡ false
none_deeper n end h = refl
none_deeper n (row l u a) h = go (none_deeper n a (none_entries l u a h).1) (ltb n (level l))
  where
    go : refer (names_in (children (deeper_lines n a))) ≡ false → (b : Bool) → refer (names_in (children (cond b (row l u (deeper_lines n a)) end))) ≡ false
    go h1 b = search (rules, refer-append, none_entries)

-- items or entries of lines without aliases
pub none_part : (ls : List Line) (first floor : ℕ) → refer (line_names ls) ≡ false → refer (names_in (children (part ls first floor))) ≡ false
none_part ls first floor h = simp (none_deeper, none_children, flatten-group, none_drop)

-- a node with an anchor before it
pub none_anchored : (a : Option (List ℕ)) (n : Node) → list_any is_reference (names_of n) ≡ false → list_any is_reference (names_of (anchored a n)) ≡ false
none_anchored a n h = refer-anchored a n ∙ h

-- without aliases each is bound
pub bound_alone : (known : List (List ℕ)) (ns : List Name) → list_any is_reference ns ≡ false → are_bound known ns ≡ true
bound_alone known [] h = refl
bound_alone known (Anchors a ∷ ns) h = bound_alone (a ∷ known) ns h
bound_alone known (Refers a ∷ ns) h = absurd (false≢true (sym h))
