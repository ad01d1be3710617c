-- What calls answer of changes: those that are judged, or the refusal that is (own).
use Rattle.std.{specs.Prelude.{◌≡◌, ℕ, Bool, true, List, Option, IfSome, MatchResult, Result, map, if◌then◌else◌}, specs.Borrow.Bor}
use Rattle.std.specs.BTreeMap.{BTreeMap}
use Rattle.yq_core.{specs.Anchors.{Name, names_of}, specs.Tree.Node}
use Rattle.yq_documents.{specs.Located.steps_of, specs.Reading.documents_of}
use Rattle.yq_eval.{specs.FoundView.found_places, specs.PlaceView.{place_of, put_after}}
use Rattle.yq_nodes.specs.Nodes.{node_of}
use Rattle.yq_planner.{specs.ChangeView.{changed_of, changes_below, changes_under, placed}, specs.Indexes.HasAliases}
use Rattle.yq_planner.{specs.Substitutes.{HaveNoAlias, verdict}, specs.declared.updating.change.Change.Change}
use Rattle.yq_planner.{specs.declared.updating.change.PlacedChange.PlacedChange, specs.declared.updating.change.ChangesUnder.ChangesUnder}
use Rattle.yq_semantics.specs.Changes.{Changed, add_at, all_allowed, at_each, changes_at, changes_in, put_with_path, update_changes}
use Rattle.yq_semantics.{specs.Changes.with_value, specs.Meaning.roots_of}
use Rattle.yq_semantics.{specs.Judgement.{Judgement, Judges, MatchFails, and_then, gives, ExprError}, specs.Places.{FoundPlace, root_place}}
use Rattle.yq_semantics.{specs.PlacesApart.{AreIn, IsIn}, specs.RightValues.right_value, specs.Rooms.room_of}
use Rattle.yq_semantics.{specs.View.{term_of, update_of}, specs.declared.program.Term.Term, specs.declared.program.Update.Update}
use Rattle.yq_expr.{specs.EffectView.{effect_at, is_mapping}, specs.declared.plans.document.DocumentEffect.DocumentEffect}
use Rattle.yq_expr.{specs.declared.plans.at_node.ChildChanges.ChildChanges, specs.declared.plans.document.DocumentPlaces.DocumentPlaces}
use Rattle.yq_expr.specs.declared.plans.document.DocumentRoot.{DocumentRoot}
use Rattle.yq_expr.specs.declared.plans.effect.Action as effect
use Rattle.yq_eval.specs.declared.matching.place.FoundPlace as place

-- a document's aliases, each with what it names (own)
abbrev pub AliasMap : Type 0 → Type 0
AliasMap X = BTreeMap (Bor (List ℕ)) X

-- what is changed at a place, if nothing refuses it (own)
abbrev pub ChangesOfPlace : Type 0
ChangesOfPlace = FoundPlace → Judgement (List Changed)

-- it is so in every tree that has the places and whose anchors' names have these aliases (own)
abbrev pub InTreesOf : {X : Type 0} → AliasMap X → List FoundPlace → (Node → Type 0) → Type 0
InTreesOf aliases ps is_so = (root : Node) → HasAliases (names_of root) aliases → AreIn root ps → is_so root

-- the same of one place (own)
abbrev pub InTreesAt : {X : Type 0} → AliasMap X → FoundPlace → (Node → Type 0) → Type 0
InTreesAt aliases p is_so = (root : Node) → HasAliases (names_of root) aliases → IsIn root p → is_so root

-- an answer's changes are those of a judgement, or its refusal is that of the judgement (own)
abbrev pub JudgesChanges : Result ChangesUnder ExprError → Judgement (List Changed) → Type 0
JudgesChanges result j = Judges changes_under result j

-- an answer's changes are those at each of places, as judged in these trees, or its refusal is the one that comes there (own)
abbrev pub JudgesEach : {X : Type 0} → AliasMap X → List FoundPlace → ChangesOfPlace → Result ChangesUnder ExprError → Type 0
JudgesEach aliases ps f result = InTreesOf aliases ps (λ root. JudgesChanges result (at_each root f ps))

-- The changes after a call are those before it, and then those of a judgement, if they are allowed; or its refusal is the one that comes (own).
abbrev pub PutsAllowed : {Y : Type 0} → Node → Judgement (List Changed) → (before after : List PlacedChange) → Result Y ExprError → Type 0
PutsAllowed root j before after result =
    Judges (λ _. map changed_of after) result (put_after (map changed_of before) (and_then (all_allowed root) j))

-- the same as judged in every tree that has a place and whose anchors' names have these aliases (own)
abbrev pub JudgesAllowed : {X Y : Type 0} → AliasMap X → FoundPlace → Judgement (List Changed) → (before after : List PlacedChange) →
    Result Y ExprError → Type 0
JudgesAllowed aliases p j before after result = InTreesAt aliases p (λ root. PutsAllowed root j before after result)

-- what a right side gives at a document's root (own)
abbrev pub right_at_root : ℕ → List Term → Node → Judgement Node
right_at_root doc right root = right_value doc (map term_of right) (root_place root)

-- an answer is that there is a change at a place, or none, as a judgement says, or its refusal (own)
abbrev pub JudgesPut : place.FoundPlace → Result (Option Change) ExprError → Judgement (List Changed) → Type 0
JudgesPut p result j = Judges (placed (place_of p)) result j

-- an answer is whether a judgement gives anything, or its refusal (own)
abbrev pub JudgesVerdict : {X A : Type 0} → Result X ExprError → Judgement A → Type 0
JudgesVerdict result j = Judges (λ _. tt) result (verdict j)

-- the same of changes at each of places, in every tree that has the places and whose anchors' names have these aliases (own)
abbrev pub JudgesEachVerdict : {X Y : Type 0} → AliasMap X → List FoundPlace → ChangesOfPlace → Result Y ExprError → Type 0
JudgesEachVerdict aliases ps f result = InTreesOf aliases ps (λ root. JudgesVerdict result (at_each root f ps))

-- an answer is whether anything refuses changes at a place, in every tree that has the place and whose anchors' names have these aliases (own)
abbrev pub JudgesAt : {X Y : Type 0} → AliasMap X → FoundPlace → Judgement (List Changed) → Result Y ExprError → Type 0
JudgesAt aliases p j result = InTreesAt aliases p (λ root. JudgesVerdict result (and_then (all_allowed root) j))

-- what an update changes at places of a document, by the room that the text has (own)
abbrev pub changes_there : DocumentPlaces → Update → Judgement (List Changed)
changes_there ps u =
    changes_at ps.document.doc (room_of ps.document.documents.now ps.document.doc) (node_of ps.document.root) (update_of u) (found_places ps.places)

-- what it changes in a document (own)
abbrev pub changes_inside : DocumentRoot → Update → Judgement (List Changed)
changes_inside d u = changes_in (update_of u) d.doc (room_of d.documents.now d.doc) (node_of d.root)

-- what a right side changes that is added, or put, at places of a document (own)
abbrev pub with_right : DocumentPlaces → Bool → List Term → Judgement (List Changed)
with_right ps adds right =
    with_value (node_of ps.document.root) (right_at_root ps.document.doc right (node_of ps.document.root))
    (if adds then add_at else put_with_path) (found_places ps.places)

-- what an action changes at a place of a document, by the room that the text has (own)
abbrev pub action_in : DocumentRoot → effect.Action → FoundPlace → Judgement (List Changed)
action_in d action = effect_at d.doc (room_of d.documents.now d.doc) action

-- the same by what an update does at each place (own)
abbrev pub effect_of : DocumentEffect → List ℕ → FoundPlace → Judgement (List Changed)
effect_of e t = effect_at e.doc (room_of t e.doc) e.action

-- an answer's changes are what an update does at each of places of a document of a text, or its refusal is the one that comes there (own)
abbrev pub JudgesEachOf : DocumentEffect → List ℕ → List FoundPlace → Result ChangesUnder ExprError → Type 0
JudgesEachOf e t ps result = JudgesEach e.aliases.now ps (effect_of e t) result

-- an answer's changes, if it has any, are those of a judgement, or its refusal is that of the judgement (own)
abbrev pub MayJudgeChanges : Result (Option ChangesUnder) ExprError → Judgement (List Changed) → Type 0
MayJudgeChanges result j = MatchResult result (λ o. IfSome o (λ x. j ≡ gives (changes_under x))) (λ why. MatchFails why j)

-- the same of what an update does at each of places of a document of a text (own)
abbrev pub MayJudgeEachOf : DocumentEffect → List ℕ → List FoundPlace → Result (Option ChangesUnder) ExprError → Type 0
MayJudgeEachOf e t ps result = InTreesOf e.aliases.now ps (λ root. MayJudgeChanges result (at_each root (effect_of e t) ps))

-- an answer is that there is a change at a place, or none, as an update does it if that is allowed, in every tree that has the place and whose anchors' names
-- have these aliases; or its refusal is the one that comes there (own)
abbrev pub JudgesAllowedPut : DocumentEffect → List ℕ → place.FoundPlace → Result (Option Change) ExprError → Type 0
JudgesAllowedPut e t p result =
    InTreesAt e.aliases.now (place_of p) (λ root. JudgesPut p result (and_then (all_allowed root) (effect_of e t (place_of p))))

-- The changes at items or values of a node after a call are those before it, and then what an update does at a place, if that is allowed in every tree that
-- has the place and whose anchors' names have these aliases; or its refusal is the one that comes there (own).
abbrev pub JudgesBelow : {Y : Type 0} → DocumentEffect → place.FoundPlace → (before after : ChildChanges) → Result Y ExprError → Type 0
JudgesBelow e p before after result =
    InTreesAt e.aliases.now (place_of p)
    (λ root. Judges (λ _. changes_below (steps_of before.node) after.changes.items) result
    (put_after (changes_below (steps_of before.node) before.changes.items) (and_then (all_allowed root) (effect_of e before.cut (place_of p)))))

-- nothing but the changes is another one there (own)
abbrev pub StaysAtNode : (before after : ChildChanges) → Type 0
StaysAtNode before after = (after.cut ≡ before.cut) × ((after.node.doc ≡ before.node.doc) × (steps_of after.node ≡ steps_of before.node))

-- what it changes in each document of a text (own)
abbrev pub changes_of_all : Update → List ℕ → Judgement (List (List Changed))
changes_of_all u t = update_changes (update_of u) (room_of t) (roots_of (documents_of t))

-- an answer is whether anything refuses what an update does at a place of a document of a text (own)
abbrev pub JudgesEffect : {Y : Type 0} → DocumentEffect → List ℕ → FoundPlace → Result Y ExprError → Type 0
JudgesEffect e t p result = JudgesAt e.aliases.now p (effect_of e t p) result

-- the same at each of places (own)
abbrev pub JudgesEffects : {Y : Type 0} → DocumentEffect → List ℕ → List FoundPlace → Result Y ExprError → Type 0
JudgesEffects e t ps result = JudgesEachVerdict e.aliases.now ps (effect_of e t) result

-- the same of an update at places of a document (own)
abbrev pub JudgesThere : {X : Type 0} → DocumentPlaces → Update → Result X ExprError → Type 0
JudgesThere ps u result = JudgesVerdict result (changes_there ps u)

-- the same of an action at places of a document (own)
abbrev pub JudgesAction : {X : Type 0} → DocumentPlaces → effect.Action → Result X ExprError → Type 0
JudgesAction ps a result = JudgesVerdict result (at_each (node_of ps.document.root) (action_in ps.document a) (found_places ps.places))

-- a document with these aliases has none (own)
abbrev pub HasNone : {X : Type 0} → AliasMap X → Type 0
HasNone aliases = (names : List Name) → HasAliases names aliases → HaveNoAlias names

-- a small value may be judged in the place of one that is added: that is no mapping, or no alias is in the document (own)
abbrev pub MaySubstitute : {X : Type 0} → Node → AliasMap X → Type 0
MaySubstitute v aliases = is_mapping v ≡ true → HasNone aliases
