-- Each operation of a plan fits at its turn.
use Rattle.std.proofs.lemmas.Bool.{cases_Bool, and_parts, or_parts}
use Rattle.std.proofs.Common.{◌≡◌, ℕ, Bool, true, false, cond, List, [], ◌∷◌, length, Option, refl, sym, ap, subst, ◌∙◌, inl, inr, rules}
use Rattle.yq_core.{specs.Tree.{Node, scalar, list, Children, none, child}, specs.Anchors.names_of, specs.Shapes.IsTree}
use Rattle.yq_semantics.{specs.declared.program.CommentPlace.CommentPlace, specs.Judgement.{Judgement, and_then, gives}}
use Rattle.yq_semantics.specs.Changes.{Change, replaces, Changed, Room, nested, put_with_path, addition, additions, added, add_below}
use Rattle.yq_semantics.specs.Changes.{add_at, remove_at, comment_at, is_too_long, is_too_deep, is_used_inside, takes_used, allowed}
use Rattle.yq_semantics.specs.Changes.{all_allowed, at_each, with_value, changes_at, left_pipe, changes_in, can_be_comment, has_comment}
use Rattle.yq_semantics.{specs.Changes.value_in, proofs.updates.Mentions.{HasNoAlias, IsPure}, specs.Pipes.places}
use Rattle.yq_semantics.{specs.Places.{FoundPlace, root_place}, specs.PlacesApart.IsIn, specs.RightValues.{is_null, right_value}}
use Rattle.yq_semantics.specs.Program.{SumHolds, UpdatesHold, PathStep, key, Term, Update, assign, delete, comment}
use Rattle.yq_semantics.proofs.updates.Aliases.{AddNone, WritesNone}
use Rattle.yq_semantics.proofs.updates.AllowedChanges.{IsMissed, AreMissed, places_missed, list_fits, entries_fit}
use Rattle.yq_semantics.{proofs.updates.FitsInOrder.{MayChange, AreFit}, proofs.JudgementLaws.{then_gives, gives_same}}
use Rattle.yq_semantics.{proofs.GoodPlaces.AreSound, proofs.updates.PipePlaces.places_apart, proofs.updates.Pure.HaveNoAlias}
use Rattle.yq_semantics.{proofs.updates.SumValues.{items_items, items_free, sum_pure, right_pure}, proofs.updates.Each.{Each, each_given}}
use Rattle.yq_core.specs.Tree as tree
use Rattle.yq_semantics.specs.declared.program.Operator.TheVariants as operator

-- ---- what is allowed

-- nothing refuses a change
abbrev IsFree : Node → Changed → Type 0
IsFree root c = (is_too_long c.1 ≡ false) × (is_too_deep (length c.0) c.1 ≡ false) × (takes_used root c.0 c.1 ≡ false)

-- a change may be made, if nothing refuses it
abbrev IfFree : Room → Node → Changed → Type 0
IfFree room root c = WritesNone c.1 × (IsFree root c → MayChange room root c)

abbrev EachIfFree : Room → Node → List Changed → Type 0
EachIfFree room root cs = Each (IfFree room root) cs

all_free : (room : Room) (root : Node) (cs ds : List Changed) → EachIfFree room root cs → all_allowed root cs ≡ gives ds → AreFit room root ds
all_free room root cs ds f h =
    each_given (EachIfFree room root) (λ (c : Changed). MayChange room root c × WritesNone c.1) (λ c. and_then (λ d. gives (d ∷ [])) (allowed root c)) (λ c more free. (one c free.0, free.1)) cs ds f h
  where
    one : (c : Changed) → IfFree room root c → (es : List Changed) → and_then (λ d. gives (d ∷ [])) (allowed root c) ≡ gives es → AreFit room root es
    one c free es h =
        let first = then_gives (λ (d : Changed). gives (d ∷ [])) (allowed root c) es h in
        let same : (c ≡ first.0) × IsFree root c = search (rules, gives_same) in
        subst (AreFit room root) (ap (λ (d : Changed). d ∷ []) same.0 ∙ gives_same first.2) ((free.1 same.1, free.0), tt)

-- what is changed at a place may be made
abbrev SoFits : Room → Node → (FoundPlace → Judgement (List Changed)) → Type 0
SoFits room root f = (p : FoundPlace) (cs : List Changed) → IsTree p.node → IsIn root p → IsMissed p.missing p.node → f p ≡ gives cs → EachIfFree room root cs

each_fit : (room : Room) (root : Node) (f : FoundPlace → Judgement (List Changed)) → SoFits room root f → (ps : List FoundPlace) (cs : List Changed) → AreSound root ps → AreMissed ps → at_each root f ps ≡ gives cs → AreFit room root cs
each_fit room root f so ps cs s m h =
    each_given (λ (qs : List FoundPlace). AreSound root qs × AreMissed qs) (λ (c : Changed). MayChange room root c × WritesNone c.1) (λ p. and_then (all_allowed root) (f p))
    (λ p more both. (one p both.0.0.0 both.0.0.1 both.1.0, (both.0.1, both.1.1))) ps cs (s, m) h
  where
    one : (p : FoundPlace) → IsTree p.node → IsIn root p → IsMissed p.missing p.node → (ds : List Changed) → and_then (all_allowed root) (f p) ≡ gives ds → AreFit room root ds
    one p tree at miss ds h = let created = then_gives (all_allowed root) (f p) ds h in all_free room root created.0 ds (so p created.0 tree at miss created.1) created.2

-- ---- at one place

puts_fit : (room : Room) (root : Node) (p : FoundPlace) (v : Node) → IsIn root p → IsPure v → IfFree room root (p.path, replaces v)
puts_fit room root p v at pure = (pure.1, λ f. ((pure.0, f.0, f.1), (p.node, at, ap (is_used_inside (names_of root)) (sym at) ∙ f.2)))

nested_free : (ms : List PathStep) (v : Node) → HasNoAlias v → HasNoAlias (nested ms v)
nested_free [] v free = free
nested_free (key k ∷ ms) v free = λ a m. elim m [ inl e ↦ nested_free ms v free a e | inr e ↦ e ]
nested_free (_ ∷ ms) v free = nested_free ms v free

nested_tree : (ms : List PathStep) (v : Node) → IsTree v → IsTree (nested ms v)
nested_tree [] v h = h
nested_tree (key k ∷ ms) v h = (((k, refl, tt), tt), (nested_tree ms v h, tt))
nested_tree (_ ∷ ms) v h = nested_tree ms v h

put_fits : (room : Room) (root : Node) (v : Node) → IsPure v → SoFits room root (λ p. put_with_path p v)
put_fits room root v pure p cs tree at miss h = search (rules, then_gives, gives_same, puts_fit, nested_free, or_parts, nested_tree, cases_Bool)

pub addition_value : (cs : Children) (o : Option (List ℕ)) (v : Node) → value_in (addition cs o v) ≡ v
addition_value cs o v = search rules

adds_none : (cs ds : Children) → HaveNoAlias ds → AddNone (additions cs ds)
adds_none cs none free = tt
adds_none cs (child label v ds) free = (subst HasNoAlias (sym (addition_value cs label.key v)) (λ a m. free a (inl m)), adds_none cs ds (λ a m. free a (inr m)))

added_fit : (room : Room) (root : Node) (p : FoundPlace) (v : Node) (n : Node) → p.node ≡ n → IsIn root p → IsPure v → (c : Change) → added n v ≡ gives c → IfFree room root (p.path, c)
added_fit room root p v (scalar anchor kind text) is at pure c h = search (rules, then_gives, gives_same, puts_fit, sum_pure)
added_fit room root p v (list anchor cs) is at pure c h = search (rules, gives_same, adds_none, items_free, list_fits, items_items)
added_fit room root p (tree.map a ds) (tree.map anchor cs) is at pure c h = search (rules, gives_same, adds_none, entries_fit)
added_fit room root p _ _ is at pure c h = absurd (cc)

add_fits : (room : Room) (root : Node) (v : Node) → IsPure v → SoFits room root (λ p. add_at p v)
add_fits room root v pure p cs tree at miss h = go (is_null v) h
  where
    below : (missing : List PathStep) → p.missing ≡ missing → add_below missing p v ≡ gives cs → EachIfFree room root cs
    below [] is e =
        let x = then_gives (λ (c : Change). gives ((p.path, c) ∷ [])) (added p.node v) cs e in
        subst (EachIfFree room root) (gives_same x.2) (added_fit room root p v p.node refl at pure x.0 x.1, tt)
    below (m ∷ ms) is e = put_fits room root v pure p cs tree at miss e

    go : (b : Bool) → cond b (gives []) (add_below p.missing p v) ≡ gives cs → EachIfFree room root cs
    go true e = subst (EachIfFree room root) (gives_same e) tt
    go false e = below p.missing refl e

remove_fits : (room : Room) (root : Node) → SoFits room root remove_at
remove_fits room root p cs tree at miss h = search (rules, gives_same)

say_fits : (room : Room) (root : Node) (place : CommentPlace) (text : List ℕ) → can_be_comment place text ≡ true → SoFits room root (comment_at room place text)
say_fits room root place text good p cs tree at miss h = search (rules, gives_same, and_parts, cases_Bool)

-- ---- of an update

modify_fits : (room : Room) (root : Node) (doc : ℕ) (right : List Term) → SumHolds right → SoFits room root (λ p. and_then (put_with_path p) (right_value doc right p))
modify_fits room root doc right free p cs tree at miss h =
    let x = then_gives (put_with_path p) (right_value doc right p) cs h in put_fits room root x.0 (right_pure root doc p tree at right x.0 free x.1) p cs tree at miss x.2

with_fit : (room : Room) (root : Node) (right : Judgement Node) (f : FoundPlace → Node → Judgement (List Changed)) → ((v : Node) → right ≡ gives v → SoFits room root (λ p. f p v)) →
    (ps : List FoundPlace) (cs : List Changed) → AreSound root ps → AreMissed ps → with_value root right f ps ≡ gives cs → AreFit room root cs
with_fit room root right f so [] cs s m h = subst (AreFit room root) (gives_same h) tt
with_fit room root right f so (p ∷ ps) cs s m h =
    let x = then_gives (λ (v : Node). at_each root (λ q. f q v) (p ∷ ps)) right cs h in each_fit room root (λ q. f q x.0) (so x.0 x.1) (p ∷ ps) cs s m x.2

changes_fit : (doc : ℕ) (room : Room) (root : Node) (u : Update) → IsTree root → UpdatesHold (u ∷ []) → has_comment u ≡ true → (ps : List FoundPlace) (cs : List Changed) → AreSound root ps → AreMissed ps →
    changes_at doc room root u ps ≡ gives cs → AreFit room root cs
changes_fit doc room root (assign left operator.Set right) tree pure good ps cs s m h =
    with_fit room root (right_value doc right (root_place root)) put_with_path (λ v is. put_fits room root v (right_pure root doc (root_place root) tree refl right v pure.0 is)) ps cs s m h
changes_fit doc room root (assign left operator.Modify right) tree pure good ps cs s m h = each_fit room root (λ p. and_then (put_with_path p) (right_value doc right p)) (modify_fits room root doc right pure.0) ps cs s m h
changes_fit doc room root (assign left operator.Add right) tree pure good ps cs s m h =
    with_fit room root (right_value doc right (root_place root)) add_at (λ v is. add_fits room root v (right_pure root doc (root_place root) tree refl right v pure.0 is)) ps cs s m h
changes_fit doc room root (delete left) tree pure good ps cs s m h = each_fit room root remove_at (remove_fits room root) ps cs s m h
changes_fit doc room root (comment left place text) tree pure good ps cs s m h = each_fit room root (comment_at room place text) (say_fits room root place text good) ps cs s m h

-- what an update changes in a tree may be made there
pub update_fit : (u : Update) (doc : ℕ) (room : Room) (root : Node) (cs : List Changed) → IsTree root → UpdatesHold (u ∷ []) → has_comment u ≡ true → changes_in u doc room root ≡ gives cs → AreFit room root cs
update_fit u doc room root cs tree pure good h =
    let x = then_gives (changes_at doc room root u) (places doc (left_pipe u) root) cs h in
    changes_fit doc room root u tree pure good x.0 cs (places_apart doc (left_pipe u) root x.0 tree x.1).sound (places_missed doc (left_pipe u) root x.0 x.1) x.2
