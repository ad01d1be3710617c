-- The steps before those that go on in the head of a line lead to it, whichever steps go on there.
use Rattle.std.proofs.Common.{◌≡◌, ℕ, List, [], ◌∷◌, ◌++◌, Option, Some, None, option_map, refl, sym, ap, ◌∙◌, subst, rules}
use Rattle.std.{proofs.lemmas.Option.{none-some, same_Some}, specs.Prelude.option_and_then}
use Rattle.yq_core.{specs.Answers.◌>>=◌, specs.Paths.Step, specs.Tree.Node}
use Rattle.yq_outline.{specs.Group.group, specs.Outline.{LineMark, Line, Outline, end, row}}
use Rattle.yq_outline.specs.Places.{Context, here, below, beside, compose, FoundLine, bare_or, find_row, in_head, place_inside}
use Rattle.yq_places.{specs.FlowNodes.{bare_line, find_head, head_line}, specs.NodeReading.head_line_of}
use Rattle.yq_places.proofs.FlowViewLaws.{head_found, numbered}

abbrev Reached : Type 0
Reached = FoundLine × List Step

-- a line under another one, with the steps that go on in its head
abbrev within : FoundLine → Reached → Reached
within f x = (place_inside f x.0, x.1)

compose_twice : (p q r : Context) → compose (compose p q) r ≡ compose p (compose q r)
compose_twice here q r = refl
compose_twice (below l p a) q r = ap (λ x. below l x a) (compose_twice p q r)
compose_twice (beside l u p) q r = ap (beside l u) (compose_twice p q r)

inside_twice : (f g b : FoundLine) → place_inside (place_inside f g) b ≡ place_inside f (place_inside g b)
inside_twice f g b = ap (λ (p : Context). record b { place = p }) (compose_twice f.place (below f.line g.place f.after) (below g.line b.place g.after))

-- the line in whose head a node is, under another line
head_inside : (f : FoundLine) (x : Reached) → head_line (place_inside f x.0) x.1 ≡ option_map (within f) (head_line x.0 x.1)
head_inside f (g, s ∷ ss) = refl
head_inside f (g, []) = go g.line.head (bare_line g.under)
  where
    go : (h : Option Node) (o : Option FoundLine) →
        in_head h (Some (place_inside f g, [])) (option_map {U = Reached} (λ b. (place_inside (place_inside f g) b, [])) o) ≡ option_map (within f)
        (in_head h (Some (g, [])) (option_map {U = Reached} (λ b. (place_inside g b, [])) o))
    go h o = search (rules, inside_twice)

all_inside : (f : FoundLine) (r : Option Reached) → (option_map {U = Reached} (λ x. (place_inside f x.0, x.1)) r >>= λ x. head_line x.0 x.1) ≡ option_map (within f) (r >>= λ x. head_line x.0 x.1)
all_inside f r = search (rules, head_inside)

-- ---- one step

-- a line alone
abbrev first : Line → Outline → Outline → FoundLine
first l u a = record { place = here; line = l; under = u; after = a }

-- on from the line of an entry or item
abbrev on_from : List Step → FoundLine → Option Reached
on_from rest f = in_head f.line.head (Some (f, rest)) (option_map (within f) (find_head rest f.under))

head_in_row : (s : Step) (rest : List Step) (l : Line) (u a : Outline) → find_head (s ∷ rest) (row l u a) ≡ bare_or l.mark (Some (first l u a, s ∷ rest)) (option_and_then (on_from rest) (find_row s (row l u a)))
head_in_row s rest l u a = search (rules, all_inside)

-- ---- the steps before those that go on

-- The first steps of a path to the head of a line lead there before any others.
pub record HasStem (steps : List Step) (o : Outline) (y : FoundLine × List Step) : Type 0 where
  pub stem : List Step
  pub steps_are : steps ≡ stem ++ y.1
  pub leads : (left : List Step) → find_head (stem ++ left) o ≡ Some (y.0, left)

-- the same of all heads to which steps lead
abbrev Stems : List Step → Type 0
Stems ss = (o : Outline) (x : Reached) → find_head ss o ≡ Some x → HasStem ss o x

first_leads : (o : Outline) (f : FoundLine) → bare_line o ≡ Some f → (left : List Step) → find_head left o ≡ Some (f, left)
first_leads o f h1 left = search (rules, none-some, head_in_row)

pub stem_found : (steps : List Step) (o : Outline) (y : FoundLine × List Step) → find_head steps o ≡ Some y → HasStem steps o y
stem_found [] o y e = search rules
stem_found (s ∷ ss) end y e = absurd (none-some _ e)
stem_found (s ∷ ss) (row l u a) y e = go l.mark refl (find_row s (row l u a)) refl (λ o x is. stem_found ss o x is) (sym (head_in_row s ss l u a) ∙ e)
  where
    under : (f : FoundLine) → ((rest : List Step) → find_head (s ∷ rest) (row l u a) ≡ on_from rest f) → f.line.head ≡ None → (r : Option Reached) →
        find_head ss f.under ≡ r → Stems ss → option_map (within f) r ≡ Some y → HasStem (s ∷ ss) (row l u a) y
    under f all is None found again e = absurd (none-some _ e)
    under f all is (Some x) found again e =
        let deeper = again f.under x found in
        subst (HasStem (s ∷ ss) (row l u a)) (same_Some _ _ e) (record {
          stem = s ∷ deeper.stem;
          steps_are = ap (λ (ts : List Step). s ∷ ts) deeper.steps_are;
          leads = λ left. search (rules, deeper.leads);
        })

    entry : (f : FoundLine) → ((rest : List Step) → find_head (s ∷ rest) (row l u a) ≡ on_from rest f) → (h : Option Node) → f.line.head ≡ h →
        Stems ss → in_head h (Some (f, ss)) (option_map (within f) (find_head ss f.under)) ≡ Some y → HasStem (s ∷ ss) (row l u a) y
    entry f all (Some n) is again e = subst (HasStem (s ∷ ss) (row l u a)) (same_Some _ _ e) (record {
      stem = s ∷ [];
      steps_are = refl;
      leads = λ left. all left ∙ ap (λ (h : Option Node). in_head h (Some (f, left)) (option_map (within f) (find_head left f.under))) is;
    })
    entry f all None is again e = under f all is (find_head ss f.under) refl again e

    go : (m : LineMark) → l.mark ≡ m → (r : Option FoundLine) → find_row s (row l u a) ≡ r → Stems ss → bare_or m (Some (first l u a, s ∷ ss)) (option_and_then (on_from ss) r) ≡ Some y → HasStem (s ∷ ss) (row l u a) y
    go m is r found again e = search (rules, same_Some, first_leads, none-some, entry, head_in_row)

-- the same by the number of the line
pub record HasStemAt (steps : List Step) (ls : List Line) (x : ℕ × List Step) : Type 0 where
  pub stem : List Step
  pub steps_are : steps ≡ stem ++ x.1
  pub leads : (left : List Step) → head_line_of (stem ++ left) ls ≡ Some (x.0, left)

pub stem_at : (steps : List Step) (ls : List Line) (x : ℕ × List Step) → head_line_of steps ls ≡ Some x → HasStemAt steps ls x
stem_at steps ls x e = go (find_head steps (group ls)) refl (head_found ls steps ∙ e)
  where
    go : (r : Option Reached) → find_head steps (group ls) ≡ r → option_map numbered r ≡ Some x → HasStemAt steps ls x
    go None is e = absurd (none-some _ e)
    go (Some y) is e =
        let h = stem_found steps (group ls) y is in
        subst (HasStemAt steps ls) (same_Some _ _ e) (record { stem = h.stem; steps_are = h.steps_are; leads = λ left. sym (head_found ls (h.stem ++ left)) ∙ ap (option_map numbered) (h.leads left) })
