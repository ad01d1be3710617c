-- What an update changes is in order.
use Rattle.std.{proofs.lemmas.Bool.cases_Bool, proofs.Common.{◌≡◌, ◌≢◌, ℕ, Bool, true, List, [], ◌∷◌, ◌++◌, refl, ap, subst, ◌∙◌, rules}}
use Rattle.yq_core.{specs.Tree.{Node, Children, children_of}, specs.PathOrder.Before, specs.Shapes.IsTree}
use Rattle.yq_semantics.{specs.declared.program.CommentPlace.CommentPlace, specs.Judgement.{Judgement, and_then, gives}}
use Rattle.yq_semantics.specs.Program.{Term, Update, assign, delete, comment}
use Rattle.yq_semantics.specs.Changes.{Change, Changed, Room, put_with_path, add_at, remove_at, comment_at, allowed, all_allowed, at_each}
use Rattle.yq_semantics.{specs.Changes.{with_value, changes_at, left_pipe, changes_in}, specs.Pipes.places}
use Rattle.yq_semantics.{specs.Places.{FoundPlace, root_place, for_each}, specs.PlacesApart.{IsBeforeAll, AreApart}, specs.Plans.is_removal}
use Rattle.yq_semantics.specs.RightValues.{right_value}
use Rattle.yq_semantics.proofs.updates.Folds.{ToEach, InPairs, AllAre, IsGone, IsWritten, IsSaid, IsOf, MayFold, of_may_fold}
use Rattle.yq_semantics.{proofs.updates.RootLeads.{NoneAt, NoneLater, IsFirst}, proofs.JudgementLaws.{then_gives, gives_same}}
use Rattle.yq_semantics.proofs.updates.FirstPlaces.{NoPlaceAt, NoPlaceLater, IsFirstStep, places_first}
use Rattle.yq_semantics.{proofs.updates.PipePlaces.places_apart, proofs.updates.Each.{each_given, each_join, joined_gives}}
use Rattle.yq_core.specs.Paths as paths
use Rattle.yq_semantics.specs.declared.program.Operator.TheVariants as operator

-- one change at most, at that path
abbrev AtOne : List paths.Step → List Changed → Type 0
AtOne p [] = Unit {0}
AtOne p (c ∷ []) = c.0 ≡ p
AtOne p (c ∷ (d ∷ ds)) = ⊥

-- which is so
abbrev FromPlace : (Change → Type 0) → FoundPlace → List Changed → Type 0
FromPlace P p cs = AtOne p.path cs × AllAre P cs

one_before : (x p : List paths.Step) (cs : List Changed) → Before x p → AtOne p cs → ToEach Before x cs
one_before x p cs h1 h2 = search rules

one_pairs : (p : List paths.Step) (cs ds : List Changed) → AtOne p cs → ToEach Before p ds → InPairs Before ds → InPairs Before (cs ++ ds)
one_pairs p cs ds h1 h2 h3 = search rules

-- ---- at several places

pub all_same : (root : Node) (cs ds : List Changed) → all_allowed root cs ≡ gives ds → cs ≡ ds
all_same root [] ds h = gives_same h
all_same root (c ∷ cs) ds h =
    let w = joined_gives (and_then (λ d. gives (d ∷ [])) (allowed root c)) (all_allowed root cs) ds h in
    let first = then_gives (λ (d : Changed). gives (d ∷ [])) (allowed root c) w.0 w.2 in
    ap (λ (d : Changed). d ∷ cs) (search (rules, gives_same))
    ∙ (ap (λ (xs : List Changed). first.0 ∷ xs) (all_same root cs w.1 w.3) ∙ (ap (λ (xs : List Changed). xs ++ w.1) (gives_same first.2) ∙ w.4))

-- what is changed at each place is there
abbrev IsSo : (Change → Type 0) → (FoundPlace → Judgement (List Changed)) → Type 0
IsSo P f = (p : FoundPlace) (cs : List Changed) → f p ≡ gives cs → FromPlace P p cs

each_so : (root : Node) (P : Change → Type 0) (f : FoundPlace → Judgement (List Changed)) → IsSo P f → IsSo P (λ p. and_then (all_allowed root) (f p))
each_so root P f so p cs h =
    let x = then_gives (all_allowed root) (f p) cs h in subst (FromPlace P p) (all_same root x.0 cs x.2) (so p x.0 x.1)

each_before : (P : Change → Type 0) (f : FoundPlace → Judgement (List Changed)) → IsSo P f → (x : List paths.Step) (ps : List FoundPlace) (cs : List Changed) → IsBeforeAll x ps → for_each f ps ≡ gives cs → ToEach Before x cs
each_before P f so x ps cs b h = each_given (IsBeforeAll x) (λ (c : Changed). Before x c.0) f (λ p more before. ((λ ds e. one_before x p.path ds before.0 (so p ds e).0), before.1)) ps cs b h

-- changes in order, each of which is so
abbrev InOrder : (Change → Type 0) → List Changed → Type 0
InOrder P cs = InPairs Before cs × AllAre P cs

each_ordered : (P : Change → Type 0) (f : FoundPlace → Judgement (List Changed)) → IsSo P f → (ps : List FoundPlace) (cs : List Changed) → AreApart ps → for_each f ps ≡ gives cs → InOrder P cs
each_ordered P f so [] cs a h = subst (InOrder P) (gives_same h) (tt, tt)
each_ordered P f so (p ∷ ps) cs a h =
    let w = joined_gives (f p) (for_each f ps) cs h in
    let here = so p w.0 w.2 in
    let rest = each_ordered P f so ps w.1 a.1 w.3 in
    subst (InOrder P) w.4 (one_pairs p.path w.0 w.1 here.0 (each_before P f so p.path ps w.1 a.0 w.3) rest.0, each_join (λ (c : Changed). P c.1) w.0 w.1 here.1 rest.1)

at_ordered : (root : Node) (P : Change → Type 0) (f : FoundPlace → Judgement (List Changed)) → IsSo P f → (ps : List FoundPlace) (cs : List Changed) → AreApart ps → at_each root f ps ≡ gives cs → InOrder P cs
at_ordered root P f so ps cs a h = each_ordered P (λ p. and_then (all_allowed root) (f p)) (each_so root P f so) ps cs a h

-- ---- at one place

single : (P : Change → Type 0) (p : FoundPlace) (c : Change) (cs : List Changed) → P c → gives ((p.path, c) ∷ []) ≡ gives cs → FromPlace P p cs
single P p c cs k h = subst (FromPlace P p) (gives_same h) (refl, (k, tt))

put_so : (v : Node) → IsSo IsWritten (λ p. put_with_path p v)
put_so v p cs h = search (rules, then_gives, single, gives_same)

modify_so : (doc : ℕ) (right : List Term) → IsSo IsWritten (λ p. and_then (put_with_path p) (right_value doc right p))
modify_so doc right p cs h = let x = then_gives (put_with_path p) (right_value doc right p) cs h in put_so x.0 p cs x.2

add_so : (v : Node) → IsSo IsWritten (λ p. add_at p v)
add_so v p cs h = search (rules, then_gives, single, put_so, gives_same, cases_Bool)

remove_so : IsSo IsGone remove_at
remove_so p cs h = search (rules, gives_same)

say_so : (room : Room) (place : CommentPlace) (text : List ℕ) → IsSo IsSaid (comment_at room place text)
say_so room place text p cs h = search (rules, single, cases_Bool)

-- ---- of an update

with_ordered : (root : Node) (right : Judgement Node) (f : FoundPlace → Node → Judgement (List Changed)) → ((v : Node) → IsSo IsWritten (λ p. f p v)) → (ps : List FoundPlace) (cs : List Changed) → AreApart ps →
    with_value root right f ps ≡ gives cs → InOrder IsWritten cs
with_ordered root right f so [] cs a h = subst (InOrder IsWritten) (gives_same h) (tt, tt)
with_ordered root right f so (p ∷ ps) cs a h =
    let x = then_gives (λ (v : Node). at_each root (λ q. f q v) (p ∷ ps)) right cs h in at_ordered root IsWritten (λ q. f q x.0) (so x.0) (p ∷ ps) cs a x.2

changes_ordered : (doc : ℕ) (room : Room) (root : Node) (u : Update) (ps : List FoundPlace) (cs : List Changed) → AreApart ps → changes_at doc room root u ps ≡ gives cs → InOrder (IsOf u) cs
changes_ordered doc room root (assign left operator.Set right) ps cs a h = with_ordered root (right_value doc right (root_place root)) put_with_path put_so ps cs a h
changes_ordered doc room root (assign left operator.Modify right) ps cs a h = at_ordered root IsWritten (λ p. and_then (put_with_path p) (right_value doc right p)) (modify_so doc right) ps cs a h
changes_ordered doc room root (assign left operator.Add right) ps cs a h = with_ordered root (right_value doc right (root_place root)) add_at add_so ps cs a h
changes_ordered doc room root (delete left) ps cs a h = at_ordered root IsGone remove_at remove_so ps cs a h
changes_ordered doc room root (comment left place text) ps cs a h = at_ordered root IsSaid (comment_at room place text) (say_so room place text) ps cs a h

-- what an update changes in a tree is in order, and is of its kind
pub update_kind : (u : Update) (doc : ℕ) (room : Room) (root : Node) (cs : List Changed) → IsTree root → changes_in u doc room root ≡ gives cs → InOrder (IsOf u) cs
update_kind u doc room root cs tree h =
    let x = then_gives (changes_at doc room root u) (places doc (left_pipe u) root) cs h in
    changes_ordered doc room root u x.0 cs (places_apart doc (left_pipe u) root x.0 tree x.1).apart x.2

-- changes in order, which may be made
abbrev pub AreOrdered : Bool → List Changed → Type 0
AreOrdered removal cs = InPairs Before cs × MayFold removal cs

-- what an update changes in a tree is in order
pub update_ordered : (u : Update) (doc : ℕ) (room : Room) (root : Node) (cs : List Changed) → IsTree root → changes_in u doc room root ≡ gives cs → AreOrdered (is_removal u) cs
update_ordered u doc room root cs tree h = let k = update_kind u doc room root cs tree h in (k.0, of_may_fold u cs k.1)

-- ---- what is first

one_none : (s : paths.Step) (p : List paths.Step) (cs : List Changed) → p ≢ s ∷ [] → AtOne p cs → NoneAt s cs
one_none s p cs h1 h2 = search rules

one_later : (s : paths.Step) (p : List paths.Step) (cs ds : List Changed) → AtOne p cs → NoneAt s ds → NoneLater s (cs ++ ds)
one_later s p cs ds h1 h2 = search rules

each_none : (P : Change → Type 0) (f : FoundPlace → Judgement (List Changed)) → IsSo P f → (s : paths.Step) (ps : List FoundPlace) (cs : List Changed) → NoPlaceAt s ps → for_each f ps ≡ gives cs → NoneAt s cs
each_none P f so s ps cs n h = each_given (NoPlaceAt s) (λ (c : Changed). c.0 ≢ s ∷ []) f (λ p more none. ((λ ds e. one_none s p.path ds none.0 (so p ds e).0), none.1)) ps cs n h

each_later : (P : Change → Type 0) (f : FoundPlace → Judgement (List Changed)) → IsSo P f → (s : paths.Step) (ps : List FoundPlace) (cs : List Changed) → NoPlaceLater s ps → for_each f ps ≡ gives cs → NoneLater s cs
each_later P f so s [] cs n h = subst (NoneLater s) (gives_same h) tt
each_later P f so s (p ∷ ps) cs n h =
    let w = joined_gives (f p) (for_each f ps) cs h in subst (NoneLater s) w.4 (one_later s p.path w.0 w.1 (so p w.0 w.2).0 (each_none P f so s ps w.1 n w.3))

-- of what is removed, the first item or entry of the root comes first
pub removal_first : (u : Update) (doc : ℕ) (room : Room) (root : Node) (cs : List Changed) → is_removal u ≡ true → IsTree root → changes_in u doc room root ≡ gives cs → IsFirst root cs
removal_first (delete left) doc room root cs is tree h =
    let x = then_gives (λ ps. at_each root remove_at ps) (places doc left root) cs h in
    go (children_of root) refl (λ s first. each_later IsGone (λ p. and_then (all_allowed root) (remove_at p)) (each_so root IsGone remove_at remove_so) s x.0 cs (places_first doc left root x.0 s tree first x.1) x.2)
  where
    go : (kids : Children) → children_of root ≡ kids → ((s : paths.Step) → IsFirstStep root s → NoneLater s cs) → IsFirst root cs
    go kids is later = search rules
removal_first _ doc room root cs is tree h = absurd (cc)
