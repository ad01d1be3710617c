-- The operations of an update that gives a place what no text can hold.
use Rattle.std.proofs.Common.{◌≡◌, inl, inr, ℕ, zero, suc, true, false, List, [], ◌∷◌, ◌++◌, drop, length, None, if◌then◌else◌, Bool, refl}
use Rattle.std.{proofs.Common.{sym, ap, ◌∙◌, subst, append_assoc}, proofs.lemmas.Bool.false≢true, proofs.lemmas.List.length-map}
use Rattle.yq_core.{specs.Shapes.IsTree, specs.Tree.{Node, list, scalar, Children}}
use Rattle.yq_semantics.specs.Changes.{Room, Changed, add_at, at_each, changes_at, left_pipe, put_with_path, with_value}
use Rattle.yq_semantics.{specs.Judgement.{Judgement, and_then, gives}, specs.Operations.Operation, specs.Pipes.places}
use Rattle.yq_semantics.{specs.Places.{FoundPlace, root_place}, specs.Plans.ops_of}
use Rattle.yq_semantics.{specs.Program.{Stage, Term, Update, UpdatesHold, assign, delete, comment}, specs.RightValues.right_value}
use Rattle.yq_semantics.{specs.PlacesApart.AreApart, specs.View.update_of, proofs.JudgementLaws.{gives_same, then_gives}}
use Rattle.yq_semantics.{proofs.updates.Each.joined_gives, proofs.updates.SumValues.right_pure}
use Rattle.yq_expr.specs.Oversized.{BeginsLarge, BeginsOversized, GivesAt, GivesOversizedOps, HaveUtf8Keys, MayGiveOversized}
use Rattle.yq_expr.{specs.SumSizes.IsSpread, proofs.OversizedLaws.missing_keys}
use Rattle.yq_expr.proofs.SpreadOps.{AllHaveUtf8Keys, ComesWhole, adds_begin, modified_begins, puts_begin, string_begins}
use Rattle.yq_expr.{specs.Parts.{document_ops, rest_ops}, specs.declared.plans.document.DocumentRoot.DocumentRoot}
use Rattle.yq_expr.proofs.PartLaws.{changes_both, ops_join, ops_there, rest_there}
use Rattle.yq_documents.specs.Documents.{Document}
use Rattle.yq_nodes.specs.Nodes.{node_of}
use Rattle.yq_eval.specs.PlaceView.{place_of, places_of}
use Rattle.yq_core.specs.Tree as tree
use Rattle.yq_eval.specs.declared.matching.place.FoundPlace as found
use Rattle.yq_semantics.specs.declared.program.Update as declared
use Rattle.yq_semantics.specs.declared.program.Operator.TheVariants as operator
use Rattle.yq_core.specs.declared.kind.Kind.TheVariants as kinds

-- ---- others after them

begins_still : (xs ys : List Operation) → BeginsOversized xs → BeginsOversized (xs ++ ys)
begins_still xs ys h = record {
  first = h.first;
  others = h.others ++ ys;
  split = ap (λ zs. zs ++ ys) h.split ∙ append_assoc h.first h.others ys;
  write = h.write;
  more = h.more;
}

-- ---- one value for all of some places

module _ (doc : ℕ) (room : Room) (root v : Node) (right : List Term) (found : right_value doc right (root_place root) ≡ gives v) where
  each_gets : (f : FoundPlace → Node → Judgement (List Changed)) (ps : List FoundPlace) (cs : List Changed) → with_value root (right_value doc right (root_place root)) f ps ≡ gives cs → at_each root (λ p. f p v) ps ≡ gives cs
  each_gets f [] cs h = h
  each_gets f (p ∷ ps) cs h = sym (ap (and_then (λ w. at_each root (λ q. f q w) (p ∷ ps))) found) ∙ h

  spread_begins : (adds : Bool) (ps : List FoundPlace) (cs : List Changed) → IsSpread v (length ps) → (adds ≡ true → ComesWhole v) → AllHaveUtf8Keys ps → AreApart ps → (left : List Stage) →
      changes_at doc room root (assign left (if adds then operator.Add else operator.Set) right) ps ≡ gives cs → BeginsOversized (ops_of doc cs)
  spread_begins true ps cs s whole keys apart left h = adds_begin doc root v s.valid ps keys apart s.more cs (whole refl) (each_gets add_at ps cs h)
  spread_begins false ps cs s whole keys apart left h = puts_begin doc root v s.valid ps keys apart s.more cs (each_gets put_with_path ps cs h)

-- a list comes whole
list_whole : (cs : Children) → ComesWhole (list None cs)
list_whole cs = record { no_scalar = refl; apart = λ es other. absurd (cc) }

-- ---- at the first of places

module _ (doc : ℕ) (room : Room) (root : Node) (p : FoundPlace) (keys : HaveUtf8Keys p.missing) where
  -- a value that is put, or a list that is added
  value_begins : (adds : Bool) (left : List Stage) (right : List Term) (v : Node) (cs : List Changed) → right_value doc right (root_place root) ≡ gives v → IsSpread v 1 → (adds ≡ true → ComesWhole v) →
      changes_at doc room root (assign left (if adds then operator.Add else operator.Set) right) (p ∷ []) ≡ gives cs → BeginsOversized (ops_of doc cs)
  value_begins adds left right v cs found large whole h = spread_begins doc room root v right found adds (p ∷ []) cs large whole (keys, tt) (tt, tt) left h

  modified_begins_big : (v : Node) (right : List Term) (cs : List Changed) → right_value doc right p ≡ gives v → IsSpread v 1 → at_each root (λ q. and_then (put_with_path q) (right_value doc right q)) (p ∷ []) ≡ gives cs →
      BeginsOversized (ops_of doc cs)
  modified_begins_big v right cs found large h =
      puts_begin doc root v large.valid (p ∷ []) (keys, tt) (tt, tt) large.more cs (sym (ap (λ j. at_each root (λ q. j) (p ∷ [])) (ap (and_then (put_with_path p)) found)) ∙ h)

  pub place_begins_big : (u : Update) (cs : List Changed) → GivesAt doc root u p → changes_at doc room root u (p ∷ []) ≡ gives cs → BeginsOversized (ops_of doc cs)
  place_begins_big (assign left operator.Set right) cs (inl big) h = value_begins false left right (list None big.0) cs big.1 big.2 (λ adds. absurd (false≢true adds)) h
  place_begins_big (assign left operator.Set right) cs (inr big) h = value_begins false left right (scalar None kinds.Text big.0) cs big.1 big.3 (λ adds. absurd (false≢true adds)) h
  place_begins_big (assign left operator.Add right) cs (inl big) h = value_begins true left right (list None big.0) cs big.1 big.2 (λ _. list_whole big.0) h
  place_begins_big (assign left operator.Add right) cs (inr big) h =
      string_begins doc root p big.0 cs big.2 keys big.3 (each_gets doc room root (scalar None kinds.Text big.0) right big.1 add_at (p ∷ []) cs h)
  place_begins_big (assign left operator.Modify right) cs (inl big) h = modified_begins_big (list None big.0) right cs big.1 big.2 h
  place_begins_big (assign left operator.Modify right) cs (inr big) h = modified_begins_big (scalar None kinds.Text big.0) right cs big.1 big.3 h
  place_begins_big (delete left) cs big h = absurd big
  place_begins_big (comment left place text) cs big h = absurd big

-- ---- in a document

rest_apart : (n : ℕ) (ps : List FoundPlace) → AreApart ps → AreApart (drop n ps)
rest_apart zero ps h = h
rest_apart (suc n) [] h = tt
rest_apart (suc n) (p ∷ ps) h = rest_apart n ps h.1

-- the operations in a document, from a place on
pub document_begins : (u : Update) (doc : ℕ) (room : Room) (root : Node) (ps : List FoundPlace) → places doc (left_pipe u) root ≡ gives ps → (place : ℕ) (p : FoundPlace) (qs : List FoundPlace) →
    drop place ps ≡ p ∷ qs → HaveUtf8Keys p.missing → GivesAt doc root u p → GivesOversizedOps (document_ops u doc room root place)
document_begins u doc room root ps found place p qs there keys big ops h =
    let all = sym (ops_there u doc room root ps found place) ∙ h in
    let cs = then_gives (λ xs. gives (ops_of doc xs)) (changes_at doc room root u (drop place ps)) ops all in
    let split = sym (ap (changes_at doc room root u) there ∙ changes_both doc room root u (p ∷ []) qs) ∙ cs.1 in
    let w = joined_gives (changes_at doc room root u (p ∷ [])) (changes_at doc room root u qs) cs.0 split in
    let first = place_begins_big doc room root p keys u w.0 big w.2 in
    subst BeginsOversized (sym (ops_join doc w.0 w.1) ∙ (ap (ops_of doc) w.4 ∙ gives_same cs.2)) (begins_still (ops_of doc w.0) (ops_of doc w.1) first)

places_keys : (ps : List found.FoundPlace) → AllHaveUtf8Keys (places_of ps)
places_keys [] = tt
places_keys (p ∷ ps) = (missing_keys p.missing, places_keys ps)

-- the same of what no text can hold
pub document_large : (d : DocumentRoot) (u : declared.Update) (room : Room) (ps : List FoundPlace) →
    places d.doc (left_pipe (update_of u)) (node_of d.root) ≡ gives ps → IsTree (node_of d.root) → AreApart ps →
    (place : ℕ) (qs : List found.FoundPlace) →
    drop place ps ≡ places_of qs → BeginsLarge d u qs → MayGiveOversized (update_of u) (document_ops (update_of u) d.doc room (node_of d.root) place)
document_large d u room ps is tree apart place qs there (inl h) = λ holds. document_begins (update_of u) d.doc room (node_of d.root) ps is place h.0 h.1 (there ∙ h.2) h.3.0 h.3.1
document_large d u room ps is tree apart place qs there (inr (inl g)) = λ holds ops h.
    let root = node_of d.root in
    let all = sym (ops_there (update_of u) d.doc room root ps is place) ∙ h in
    let cs = then_gives (λ xs. gives (ops_of d.doc xs)) (changes_at d.doc room root (update_of u) (drop place ps)) ops all in
    let changed = (λ i. changes_at d.doc room root (sym g.by i) (sym there i)) ∙ cs.1 in
    subst BeginsOversized (gives_same cs.2)
    (modified_begins d.doc root g.right (places_of qs) g.count cs.0 (places_keys qs) (subst AreApart there (rest_apart place ps apart)) g.found g.more changed)
document_large d u room ps is tree apart place qs there (inr (inr g)) = λ holds ops h.
    let root = node_of d.root in
    let all = sym (ops_there (update_of u) d.doc room root ps is place) ∙ h in
    let cs = then_gives (λ xs. gives (ops_of d.doc xs)) (changes_at d.doc room root (update_of u) (drop place ps)) ops all in
    let changed = (λ i. changes_at d.doc room root (sym g.by i) (sym there i)) ∙ cs.1 in
    let pure = right_pure root d.doc (root_place root) tree refl g.right g.value (subst (λ v. UpdatesHold (v ∷ [])) g.by holds).0 g.found in
    let whole : g.adds ≡ true → ComesWhole g.value = λ adds. record { no_scalar = g.whole adds; apart = λ es same. (subst IsTree same pure.0).0 } in
    let spreads = subst (IsSpread g.value) (sym (length-map qs place_of)) g.spreads in
    subst BeginsOversized (gives_same cs.2)
    (spread_begins d.doc room root g.value g.right g.found g.adds (places_of qs) cs.0 spreads whole (places_keys qs) (subst AreApart there (rest_apart place ps apart)) g.left changed)

-- and those in the documents after it
pub rest_begins : (u : Update) (rooms : ℕ → Room) (docs : List Document) (doc : ℕ) (d : Document) → drop doc docs ≡ d ∷ drop (suc doc) docs → (place : ℕ) →
    GivesOversizedOps (document_ops u doc (rooms doc) d.root place) → GivesOversizedOps (rest_ops u rooms docs doc place)
rest_begins u rooms docs doc d at place here ops h =
    let w = joined_gives (document_ops u doc (rooms doc) d.root place) (rest_ops u rooms docs (suc doc) 0) ops (sym (rest_there u rooms docs doc d at place) ∙ h) in
    subst BeginsOversized w.4 (begins_still w.0 w.1 (here w.0 w.2))
