-- An even outline is the one that its lines group to.
use Rattle.std.proofs.Common.{rules, ◌≡◌, ℕ, ◌<◌, ◌≤◌, List, [], ◌++◌, refl, sym, ap, ◌∙◌, subst, arith, append_assoc, append-nil}
use Rattle.std.proofs.lemmas.Bool.{lt-ltb, le-ltb, cond-true, cond-false}
use Rattle.yq_core.specs.Tree.{Node}
use Rattle.yq_outline.specs.Outline.{Line, level, Outline, end, row, flatten, IsEven, IsLocatedAt}
use Rattle.yq_outline.specs.Group.{deeper_lines, shallow, group}

-- one outline after another
abbrev pub join : Outline → Outline → Outline
join end b = b
join (row l under after) b = row l under (join after b)

-- an outline begins with a line no deeper than n, or is empty
abbrev pub IsShallow : ℕ → Outline → Type 0
IsShallow n end = Unit {0}
IsShallow n (row l under after) = level l ≤ n

deeper-shallow : (n : ℕ) (o : Outline) → IsShallow n o → deeper_lines n o ≡ end
deeper-shallow n o h = search (rules, cond-false, le-ltb)

shallow-shallow : (n : ℕ) (o : Outline) → IsShallow n o → shallow n o ≡ o
shallow-shallow n o h = search (rules, cond-false, le-ltb)

deeper-join : (n m : ℕ) (o b : Outline) → n < m → IsEven m o → IsShallow n b → deeper_lines n (join o b) ≡ o
deeper-join n m end b lt e h = deeper-shallow n b h
deeper-join n m (row l u a) b lt e h = search (rules, cond-true, lt-ltb, deeper-join n m a b lt e.4 h)

shallow-join : (n m : ℕ) (o b : Outline) → n < m → IsEven m o → IsShallow n b → shallow n (join o b) ≡ b
shallow-join n m end b lt e h = shallow-shallow n b h
shallow-join n m (row l u a) b lt e h = search (rules, cond-true, lt-ltb, shallow-join n m a b lt e.4 h)

shallow_up : (n m : ℕ) (o : Outline) → n < m → IsShallow n o → IsShallow m o
shallow_up n m o lt h = search rules

join-IsShallow : (n : ℕ) (o b : Outline) → IsEven n o → IsShallow n b → IsShallow n (join o b)
join-IsShallow n end b e h = h
join-IsShallow n (row l u a) b e h = omega (arith, e.0)

pub group-flatten : (n : ℕ) (o : Outline) (ls : List Line) → IsEven n o → IsShallow n (group ls) → group (flatten o ++ ls) ≡ join o (group ls)
group-flatten n end ls e h = refl
group-flatten n (row l u a) ls e h =
    let after : group (flatten a ++ ls) ≡ join a (group ls) = group-flatten n a ls e.4 h in
    let deep : n < e.3.0 = e.3.1 in
    let low : IsShallow n (group (flatten a ++ ls)) = rw after (join-IsShallow n a (group ls) e.4 h) in
    let below : group (flatten u ++ (flatten a ++ ls)) ≡ join u (group (flatten a ++ ls)) =
    group-flatten e.3.0 u (flatten a ++ ls) e.3.2 (shallow_up n e.3.0 _ deep low) in
    let rest = join a (group ls) in
    let deep_here : level l < e.3.0 = omega (arith, e.0, deep) in
    let low_here : IsShallow (level l) rest = subst (λ (k : ℕ). IsShallow k rest) (sym e.0) (join-IsShallow n a (group ls) e.4 h) in
    search (rules, append_assoc, deeper-join, shallow-join)

join-end : (o : Outline) → join o end ≡ o
join-end end = refl
join-end (row l u a) = ap (row l u) (join-end a)

pub group_even : (n : ℕ) (o : Outline) → IsEven n o → group (flatten o) ≡ o
group_even n o e = ap group (sym (append-nil (flatten o))) ∙ (group-flatten n o [] e tt ∙ join-end o)

pub one_node : (lines : List Line) (a b : Node) (m n : ℕ) → IsLocatedAt lines a m → IsLocatedAt lines b n → a ≡ b
one_node lines a b m n s t = search (rules, group_even)
