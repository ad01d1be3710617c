-- `stand` tells exactly what lines mean.
use Rattle.std.proofs.Common.{◌≡◌, ℕ, ◌+◌, ◌<◌, List, [], ◌∷◌, ◌++◌, Option, Some, None, Bool, true, false, cond, refl, ap, ◌∙◌}
use Rattle.std.proofs.Common.{append_assoc, rules}
use Rattle.std.proofs.lemmas.Bool.{lt-ltb, ltb-true, eqb-true, eq-eqb, cond-true, and_parts, and_from, false≢true}
use Rattle.std.proofs.lemmas.Option.{none-some, same_Some}
use Rattle.yq_core.specs.Tree.{Node}
use Rattle.yq_outline.specs.Outline.{LineMark, Line, level, Outline, end, row, flatten, IsOpen, IsWhole, IsEven, value, IsLocatedAt}
use Rattle.yq_outline.specs.Group.{deeper_lines, shallow, group, is_open, is_whole, level_or, is_even, are_there}
use Rattle.yq_outline.proofs.Unique.{group_even}

-- the lines of an outline's two parts
pub flatten-parts : (n : ℕ) (o : Outline) → flatten (deeper_lines n o) ++ flatten (shallow n o) ≡ flatten o
flatten-parts n end = refl
flatten-parts n (row l u a) = search (rules, append_assoc, flatten-parts n a)

pub flatten-group : (ls : List Line) → flatten (group ls) ≡ ls
flatten-group [] = refl
flatten-group (l ∷ ls) = ap (λ x. l ∷ x) (flatten-parts (level l) (group ls) ∙ flatten-group ls)

open_from : (h : Option Node) (o : Outline) → is_open h o ≡ true → IsOpen h o
open_from h o h1 = search (rules, false≢true)

whole_from : (m : LineMark) (h : Option Node) (o : Outline) → is_whole m h o ≡ true → IsWhole m h o
whole_from m h o h1 = search (rules, false≢true)

pub even_from : (n : ℕ) (o : Outline) → is_even n o ≡ true → IsEven n o
even_from n end e = tt
even_from n (row l u a) e =
    let p = and_parts _ _ e in
    let q = and_parts _ _ p.1 in
    let r = and_parts _ _ q.1 in
    let s = and_parts _ _ r.1 in
    let t = and_parts _ _ s.1 in
    (eqb-true (level l) n p.0, open_from l.head u q.0, whole_from l.mark l.head a r.0, (level_or (level l + 1) u, ltb-true n (level_or (level l + 1) u) s.0, even_from (level_or (level l + 1) u) u t.0), even_from n a t.1)

-- what is under a line is even at its first line's level
first_even : (m d : ℕ) (o : Outline) → IsEven m o → IsEven (level_or d o) o
first_even m d o h1 = search rules

first_above : (n m : ℕ) (l : Line) (o : Outline) → n < m → level l ≡ n → IsEven m o → n < level_or (level l + 1) o
first_above n m l o h1 h2 h3 = search rules

pub to_even : (n : ℕ) (o : Outline) → IsEven n o → is_even n o ≡ true
to_even n end e = refl
to_even n (row l u a) e =
    let d : ℕ = level_or (level l + 1) u in
    and_from _ _ (eq-eqb (level l) n e.0) (and_from _ _ (search rules) (and_from _ _ (search rules)
    (and_from _ _ (lt-ltb n d (first_above n e.3.0 l u e.3.1 e.0 e.3.2)) (and_from _ _ (to_even d u (first_even e.3.0 (level l + 1) u e.3.2)) (to_even n a e.4)))))

pub are_there-sound : (ls : List Line) (node : Node) → are_there ls ≡ Some node → (n : ℕ) × IsLocatedAt ls node n
are_there-sound ls node e = go (is_even (level_or 0 (group ls)) (group ls)) refl e
  where
    go : (b : Bool) → is_even (level_or 0 (group ls)) (group ls) ≡ b → cond b (Some (value (group ls))) None ≡ Some node → (n : ℕ) × IsLocatedAt ls node n
    go true h e = (level_or 0 (group ls), record { outline = group ls; even = even_from _ _ h; lines_are = flatten-group ls; node_is = same_Some _ _ e })
    go false h e = absurd (none-some _ e)

pub are_there-complete : (ls : List Line) (node : Node) (n : ℕ) → IsLocatedAt ls node n → are_there ls ≡ Some node
are_there-complete ls node n s = search (rules, group_even, cond-true, to_even, first_even)
