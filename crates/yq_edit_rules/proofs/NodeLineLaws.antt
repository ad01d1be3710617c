-- The lines of a node at a path, exchanged.
use Rattle.std.proofs.Common.{◌≡◌, ℕ, ◌<◌, ◌≤◌, List, [], ◌∷◌, ◌++◌, Option, Some, None, refl, sym, ap, ◌∙◌, subst, arith, append_assoc}
use Rattle.std.{proofs.Common.{append-nil, rules}, proofs.lemmas.Option.{none-some, same_Some}}
use Rattle.yq_core.{specs.Paths.{Step, changed_at}, specs.Tree.Node}
use Rattle.yq_outline.{specs.Group.level_or, specs.Laws.with_lines}
use Rattle.yq_outline.specs.Outline.{Line, level, Outline, end, row, flatten, IsEven, anchored, value, IsLocatedAt}
use Rattle.yq_outline.specs.Places.{Context, here, below, beside, lines_after, compose, FoundLine, find, content_under}
use Rattle.yq_outline.{proofs.Allowing.Allows, proofs.Finding.{IsFoundIn, path_whole}, proofs.PlaceLaws.{at, exchanged}}
use Rattle.yq_outline.{proofs.Plug.{allows_from, closed}, proofs.Values.rank_small, proofs.NodeLaws.anchored_none}
use Rattle.yq_places.proofs.FlowViewLaws.{before_under}
use Rattle.yq_edit_rules.specs.Siblings.{HasEntries, NodeLines, under_line, lines_below, lines_at, put_lines, AreSomewhere, LinesReplaced}

-- the lines after a place in what is under a line
pub after_under : (p : Context) (l : Line) (a : Outline) → lines_after (compose p (below l here a)) ≡ flatten a ++ lines_after p
after_under here l a = sym (append-nil (flatten a))
after_under (below k p b) l a = ap (λ x. x ++ flatten b) (after_under p l a) ∙ append_assoc (flatten a) (lines_after p) (flatten b)
after_under (beside k v p) l a = after_under p l a

-- the lines of an outline with others under a line
pub put_under : (f : FoundLine) (ls : List Line) → put_lines (under_line f) ls ≡ with_lines f (f.line ∷ ls)
put_under f ls = simp (before_under, after_under, append_assoc)

-- A node's lines were found under a line.
pub record Under (s : Step) (ss : List Step) (o : Outline) (h : NodeLines) : Type 0 where
  pub found : FoundLine
  pub is : find s ss o ≡ Some (found, [])
  pub open' : found.line.head ≡ None
  pub place_is : under_line found ≡ h

pub lines_found : (s : Step) (ss : List Step) (o : Outline) (h : NodeLines) → lines_at (s ∷ ss) o ≡ Some h → Under s ss o h
lines_found s ss o h e = go (find s ss o) refl e
  where
    head : (f : FoundLine) (rest : List Step) → find s ss o ≡ Some (f, rest) → (n : Option Node) → f.line.head ≡ n → lines_below n rest f ≡ Some h → Under s ss o h
    head f [] is None e h = record { found = f; is = is; open' = e; place_is = same_Some _ _ h }
    head f (t ∷ ts) is None e h = absurd (none-some _ h)
    head f rest is (Some n) e h = absurd (none-some _ h)

    go : (r : Option (FoundLine × List Step)) → find s ss o ≡ r → Rattle.std.specs.Prelude.option_and_then (λ x. lines_below x.0.line.head x.1 x.0) r ≡ Some h → Under s ss o h
    go None is e = absurd (none-some _ e)
    go (Some x) is e = head x.0 x.1 is x.0.line.head refl e

-- the line of a node found at a path, and what is under it
pub under_even : (n : ℕ) (o : Outline) (s : Step) (ss : List Step) (f : FoundLine) → IsEven n o → find s ss o ≡ Some (f, []) →
    Allows n f.place (level f.line) × IsEven (level f.line) (row f.line f.under f.after)
under_even n o s ss f even found = search (rules, at (IsFoundIn o) (find s ss o) (f, []) found (path_whole s ss o), allows_from)

pub low_level : (l : Line) → 1 ≤ level l
unfolding level
low_level l = omega (arith, rank_small l.mark)

-- a node's lines are even at a level deeper than the line above them
pub lines_even : (n : ℕ) (o : Outline) (steps : List Step) (h : NodeLines) → IsEven n o → lines_at steps o ≡ Some h → HasEntries h.lines →
    (h.above < level_or 0 h.lines) × IsEven (level_or 0 h.lines) h.lines
lines_even n o [] h even e block = search (rules, arith, same_Some, low_level)
lines_even n o (s ∷ ss) h even e block = found (lines_found s ss o h e)
  where
    go : (f : FoundLine) (o : Outline) (m : ℕ) → HasEntries o → level f.line < m → IsEven m o → (level f.line < level_or 0 o) × IsEven (level_or 0 o) o
    go f end m b lt e = absurd b
    go f (row l u a) m b lt e = (omega (arith, lt, e.0), subst (λ k. IsEven k (row l u a)) (sym e.0) e)

    found : Under s ss o h → (h.above < level_or 0 h.lines) × IsEven (level_or 0 h.lines) h.lines
    found w = search (rules, (under_even n o s ss w.found even w.is).1, subst (λ (x : NodeLines). HasEntries x.lines) (sym w.place_is) block, go)

pub lines_replaced : LinesReplaced
lines_replaced n m o u [] h g even e fit = search (rules, same_Some, append-nil, anchored_none)
lines_replaced n m o u (s ∷ ss) h g even e fit = found (lines_found s ss o h e)
  where
    found : Under s ss o h → (flatten o ≡ put_lines h (flatten h.lines)) × AreSomewhere (put_lines h (flatten u)) (changed_at (s ∷ ss) g (value o))
    found w =
        let f : FoundLine = w.found in
        let old = under_even n o s ss f even w.is in
        let deep' : level f.line < m = subst (λ (x : NodeLines). x.above < m) (sym w.place_is) fit.deep in
        let is' : anchored f.line.anchor (value u) ≡ g (anchored f.line.anchor (value f.under)) = search rules in
        let same : content_under f.line u ≡ g (content_under f.line f.under) = rw w.open' is' in
        let law = exchanged n o s ss [] f even w.is g m f.line u refl refl (closed f.line.head u w.open') (old.1).2 deep' fit.even same in
        subst (λ (x : NodeLines). (flatten o ≡ put_lines x (flatten x.lines)) × AreSomewhere (put_lines x (flatten u)) (changed_at (s ∷ ss) g (value o))) w.place_is
        (law.0 ∙ sym (put_under f (flatten f.under)), (n, subst (λ ls. IsLocatedAt ls (changed_at (s ∷ ss) g (value o)) n) (sym (put_under f (flatten u))) law.1))
