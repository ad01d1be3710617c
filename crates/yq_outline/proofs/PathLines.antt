-- The line to which a path leads, and the steps that go on in its head, step by step.
use Rattle.std.proofs.Common.{◌≡◌, ℕ, suc, ◌+◌, ◌<◌, eqb, List, [], ◌∷◌, length, Option, Some, None, option_map, option_and_then, true}
use Rattle.std.{proofs.Common.{false, refl, sym, ap, ◌∙◌, arith, length-append, rules}, proofs.lemmas.Bool.{eq-eqb, eqb-true, false≢true}}
use Rattle.std.{proofs.lemmas.Option.{none-some, same_Some}, specs.List.slice_get, specs.Prelude.IfSome}
use Rattle.yq_core.specs.Paths.{Step}
use Rattle.yq_outline.{specs.Ends.{part, line_at_steps, reached}, specs.Outline.{Line, Outline, flatten}}
use Rattle.yq_outline.specs.Places.{Context, here, below, beside, compose, lines_before, FoundLine, find_row, place_inside, in_head, find}
use Rattle.yq_outline.{specs.Positions.{position, line_here, begins_with_node, reach_in, reach_under, reach_from}, proofs.EndsLaws.has_line}
use Rattle.yq_outline.proofs.NameLaws.{part-all}

-- what a search found, by its index after so many lines
abbrev after : ℕ → Option (FoundLine × List Step) → Option (ℕ × List Step)
after n r = option_map (λ x. (n + length (lines_before x.0.place), x.1)) r

-- the same after none
following_none : (r : Option (FoundLine × List Step)) → after 0 r ≡ option_map (λ x. (length (lines_before x.0.place), x.1)) r
following_none r = search rules

-- from the root, where all lines are looked at
pub from_root : (ls : List Line) (steps : List Step) → reach_from ls None steps ≡ reached steps ls
from_root ls steps = search (rules, following_none, part-all)

-- from a line
pub from_there : (ls : List Line) (i : ℕ) (l : Line) (s : Step) (ss : List Step) → slice_get ls i ≡ Some l → reach_from ls (Some i) (s ∷ ss) ≡ reach_under ls i s ss l
from_there ls i l s ss is = ap (option_and_then (reach_under ls i s ss)) is

-- a line, where no steps are left
abbrev line_if_last : ℕ → List Step → Option ℕ
line_if_last n [] = Some n
line_if_last n (s ∷ ss) = None

last_reached : (steps : List Step) (ls : List Line) → option_and_then (λ (x : ℕ × List Step). line_if_last x.0 x.1) (reached steps ls) ≡ line_at_steps steps ls
last_reached steps ls = search (rules, option_and_then)

-- the line that is found, where no steps go on in its head
pub last_line : (steps left : List Step) (ls : List Line) (n : ℕ) → Some (n, left) ≡ reached steps ls → true ≡ eqb (length left) 0 → Some n ≡ line_at_steps steps ls
last_line steps [] ls n e none = ap (option_and_then (λ (x : ℕ × List Step). line_if_last x.0 x.1)) e ∙ last_reached steps ls
last_line steps (s ∷ ss) ls n e none = absurd (omega (arith, eqb-true (suc (length ss)) 0 (sym none)))

-- no line is, where some do
pub no_last_line : (steps left : List Step) (ls : List Line) (n : ℕ) → Some (n, left) ≡ reached steps ls → false ≡ eqb (length left) 0 → None ≡ line_at_steps steps ls
no_last_line steps [] ls n e some = absurd (false≢true (some ∙ eq-eqb 0 0 refl))
no_last_line steps (s ∷ ss) ls n e some = ap (option_and_then (λ (x : ℕ × List Step). line_if_last x.0 x.1)) e ∙ last_reached steps ls

-- where steps lead on from a line that was found
abbrev in_rest : FoundLine → List Step → Option (FoundLine × List Step)
in_rest f [] = Some (f, [])
in_rest f (t ∷ ts) = in_head f.line.head (Some (f, t ∷ ts)) (option_map (λ x. (place_inside f x.0, x.1)) (find t ts f.under))

-- what a search finds, where the first line is no node itself
abbrev searched : Step → List Step → Outline → Option (FoundLine × List Step)
searched s ss o = option_and_then (λ f. in_rest f ss) (find_row s o)

alone : (r : Option FoundLine) → option_map (λ f. (f, [])) r ≡ option_and_then (λ f. in_rest f []) r
alone x = refl

other_find : (s : Step) (ss : List Step) (o : Outline) → begins_with_node o ≡ false → find s ss o ≡ searched s ss o
other_find s ss o h1 = search (rules, alone, option_and_then)

-- how many lines come before one in a hole of a hole
length-compose : (p q : Context) → length (lines_before (compose p q)) ≡ length (lines_before p) + length (lines_before q)
length-compose here q = omega arith
length-compose (below l p a) q = omega (arith, length-compose p q)
length-compose (beside l u p) q = omega (arith, length-compose p q, length-append (flatten u) (lines_before (compose p q)), length-append (flatten u) (lines_before p))

-- a line in what is under another, by its index in the whole
deep_line : (first : ℕ) (f : FoundLine) (r : Option (FoundLine × List Step)) → after first (option_map (λ x. (place_inside f x.0, x.1)) r) ≡ after ((first + length (lines_before f.place)) + 1) r
deep_line first f r = search (rules, length-compose)

-- one step
pub step_line : (ls : List Line) (first floor : ℕ) (s : Step) (ss : List Step) (r : Option ℕ) → begins_with_node (part ls first floor) ≡ false →
    position first (find_row s (part ls first floor)) ≡ line_here ls r → IfSome r (λ i. i < length ls) →
    reach_in ls first floor s ss ≡ option_and_then (λ i. reach_from ls (Some i) ss) r
step_line ls first floor s ss r other found within =
    ap (after first) (other_find s ss (part ls first floor) other) ∙ go (find_row s (part ls first floor)) r found within
  where
    go : (q : Option FoundLine) (r : Option ℕ) → position first q ≡ line_here ls r → IfSome r (λ i. i < length ls) →
        after first (option_and_then (λ f. in_rest f ss) q) ≡ option_and_then (λ i. reach_from ls (Some i) ss) r
    go None None e w = refl
    go (Some f) None e w = cc
    go None (Some i) e w =
        let line = has_line ls i w in
        search (rules, none-some, line)
    go (Some f) (Some i) e w = search (rules, has_line, same_Some, from_there, deep_line)
