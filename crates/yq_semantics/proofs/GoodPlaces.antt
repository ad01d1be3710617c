-- Places that are apart, and what leads from each of them.
use Rattle.std.proofs.Common.{rules, append-nil, ◌≡◌, List, [], ◌∷◌, ◌++◌, sym, subst}
use Rattle.yq_core.{specs.Paths.Step, specs.Tree.Node, specs.PathOrder.Before, specs.Shapes.IsTree}
use Rattle.yq_semantics.{proofs.PathLaws.{before_more, before_left}, specs.Judgement.{Judgement, and_then, gives}}
use Rattle.yq_semantics.{specs.Places.{FoundPlace, for_each}, specs.PlacesApart.{IsBeforeAll, AreApart, IsIn}}
use Rattle.yq_semantics.proofs.JudgementLaws.{then_gives, gives_same}
use Rattle.yq_core.specs.Paths as paths

-- a place is at another one, or lies in it
abbrev pub LiesIn : List paths.Step → FoundPlace → Type 0
LiesIn p q = (r : List paths.Step) × (q.path ≡ p ++ r)

abbrev pub LieIn : List paths.Step → List FoundPlace → Type 0
LieIn p [] = Unit {0}
LieIn p (q ∷ qs) = LiesIn p q × LieIn p qs

-- each has a tree, that of a root
abbrev pub AreSound : Node → List FoundPlace → Type 0
AreSound root [] = Unit {0}
AreSound root (p ∷ ps) = (IsTree p.node × IsIn root p) × AreSound root ps

pub before_lying : (x p : List paths.Step) (qs : List FoundPlace) → Before x p → LieIn p qs → IsBeforeAll x qs
before_lying x p [] h l = tt
before_lying x p (q ∷ qs) h l =
    (subst (Before x) (sym l.0.1) (subst (λ (r : List Step). Before r (p ++ l.0.0)) (append-nil x) (before_more x p [] l.0.0 h)), before_lying x p qs h l.1)

pub before_join : (x : List paths.Step) (ps qs : List FoundPlace) → IsBeforeAll x ps → IsBeforeAll x qs → IsBeforeAll x (ps ++ qs)
before_join x [] qs h k = k
before_join x (p ∷ ps) qs h k = (h.0, before_join x ps qs h.1 k)

sound_join : (root : Node) (ps qs : List FoundPlace) → AreSound root ps → AreSound root qs → AreSound root (ps ++ qs)
sound_join root [] qs h k = k
sound_join root (p ∷ ps) qs h k = (h.0, sound_join root ps qs h.1 k)

-- what lies in a place comes before what that place comes before
lying_before : (x p : List paths.Step) (ps : List FoundPlace) → (r : List paths.Step) → x ≡ p ++ r → IsBeforeAll p ps → IsBeforeAll x ps
lying_before x p [] r e h = tt
lying_before x p (q ∷ qs) r e h = (subst (λ (y : List paths.Step). Before y q.path) (sym e) (before_left p q.path r h.0), lying_before x p qs r e h.1)

apart_join : (p : List paths.Step) (ps qs : List FoundPlace) → LieIn p ps → IsBeforeAll p qs → AreApart ps → AreApart qs → AreApart (ps ++ qs)
apart_join p [] qs l b h k = k
apart_join p (x ∷ xs) qs l b h k = search (rules, before_join, lying_before, apart_join p xs qs l.1 b h.1 k)

-- places into which something leads from one place
pub record LeadsInto (root : Node) (p : FoundPlace) (qs : List FoundPlace) : Type 0 where
  pub inside : LieIn p.path qs
  pub apart : AreApart qs
  pub sound : AreSound root qs

-- what leads from each place so leads so from all
abbrev pub LeadsSo : Node → (FoundPlace → Judgement (List FoundPlace)) → Type 0
LeadsSo root f = (p : FoundPlace) (qs : List FoundPlace) → IsTree p.node → IsIn root p → f p ≡ gives qs → LeadsInto root p qs

-- places that are apart, with trees of a root
pub record AreGood (root : Node) (ps : List FoundPlace) : Type 0 where
  pub apart : AreApart ps
  pub sound : AreSound root ps

each_before : (root : Node) (f : FoundPlace → Judgement (List FoundPlace)) → LeadsSo root f → (x : List paths.Step) (ps qs : List FoundPlace) → IsBeforeAll x ps → AreSound root ps → for_each f ps ≡ gives qs → IsBeforeAll x qs
each_before root f so x [] qs b s h = subst (IsBeforeAll x) (gives_same h) tt
each_before root f so x (p ∷ ps) qs b s h =
    let one = then_gives (λ first. and_then (λ others. gives (first ++ others)) (for_each f ps)) (f p) qs h in
    let two = then_gives (λ (others : List FoundPlace). gives (one.0 ++ others)) (for_each f ps) qs one.2 in
    search (rules, gives_same, before_join, before_lying, each_before root f so x ps two.0 b.1 s.1 two.1)

pub each_good : (root : Node) (f : FoundPlace → Judgement (List FoundPlace)) → LeadsSo root f → (ps qs : List FoundPlace) → AreGood root ps → for_each f ps ≡ gives qs → AreGood root qs
each_good root f so [] qs good h = subst (AreGood root) (gives_same h) good
each_good root f so (p ∷ ps) qs good h =
    let one = then_gives (λ first. and_then (λ others. gives (first ++ others)) (for_each f ps)) (f p) qs h in
    let two = then_gives (λ (others : List FoundPlace). gives (one.0 ++ others)) (for_each f ps) qs one.2 in
    let led = so p one.0 good.sound.0.0 good.sound.0.1 one.1 in
    let rest : AreGood root two.0 = each_good root f so ps two.0 (record { apart = good.apart.1; sound = good.sound.1 }) two.1 in
    let first : AreApart (one.0 ++ two.0) = apart_join p.path one.0 two.0 led.inside (each_before root f so p.path ps two.0 good.apart.0 good.sound.1 two.1) led.apart rest.apart in
    search (rules, sound_join, gives_same)
