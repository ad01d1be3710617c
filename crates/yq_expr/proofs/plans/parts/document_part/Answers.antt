use Rattle.std.proofs.Common.{◌≡◌, ℕ, take, drop, ◌+◌, ◌<◌, ◌≤◌, ◌-◌, List, length, refl, sym, ap, ◌∙◌, subst, arith}
use Rattle.std.{proofs.lemmas.List.{length-map, take_rest}, proofs.lemmas.Result.err_from_is_err_and, proofs.lemmas.Bool.false≢true}
use Rattle.yq_core.specs.Tree.{Node}
use Rattle.yq_nodes.specs.Nodes.{node_of}
use Rattle.yq_semantics.{specs.Changes.{Room, changes_at, left_pipe}, specs.Judgement.{MatchFails, gives}, specs.Operations.operations_of}
use Rattle.yq_semantics.{specs.Pipes.places, specs.Places.FoundPlace, specs.PlacesApart.AreIn, specs.Program.{Stage, Update}}
use Rattle.yq_semantics.{specs.Rooms.room_of, specs.View.update_of, proofs.updates.PipePlaces.places_are_there}
use Rattle.yq_planner.{specs.ChangeView.changes_under, specs.ValidChanges.{HasValidValue, HaveValidValues}}
use Rattle.yq_planner.proofs.ValidLaws.{each_joined, ops_valid}
use Rattle.yq_eval.{specs.PlaceView.{place_of, places_of}, specs.TreeScalars.HaveScalars, proofs.MatchLaws.places_have}
use Rattle.yq_expr.{specs.Parts.{IsPlanPart, document_ops, values_limit}, proofs.OversizedOps.document_large}
use Rattle.yq_expr.proofs.PartLaws.{last_part, more_part, none_part, part_fails, some_are, some_have, some_in, some_left}
use Rattle.yq_expr.proofs.plans.parts.document_part.Goals.{then-end-count, else-end-count}
use Rattle.yq_expr.proofs.plans.parts.document_part.Goals as goal

pub returns-then-count-place-clause-part : goal.returns-then-count-place-clause-part
returns-then-count-place-clause-part c =
    let u : Update = update_of c.args.update.now in
    let root : Node = node_of c.args.document.root in
    let room : Room = room_of c.args.document.documents.now c.args.document.doc in
    let ps : List FoundPlace = places_of c.in_ok-places.places.items in
    let found : places c.args.document.doc (left_pipe u) root ≡ gives ps = ap (λ (pipe : List Stage). places c.args.document.doc pipe root) (sym c.left-pipe.ensures) ∙ c.in_ok-places.ensures in
    let past : length ps ≤ c.args.place = omega (arith, length-map c.in_ok-places.places.items place_of, c.in_ok-places.places.ok.0, c.len-count.ensures, c.if-count-place.true) in
    none_part u c.args.document.doc room root ps found (operations_of c.args.part.now.ops.items) (operations_of c.args.part.now.ops.items) c.args.place past refl

pub part_count-requires-clause-scalars : goal.part_count-requires-clause-scalars
part_count-requires-clause-scalars c =
    let u : Update = update_of c.args.update.now in
    let root : Node = node_of c.args.document.root in
    let ps : List FoundPlace = places_of c.in_ok-places.places.items in
    let found : places c.args.document.doc (left_pipe u) root ≡ gives ps = ap (λ (pipe : List Stage). places c.args.document.doc pipe root) (sym c.left-pipe.ensures) ∙ c.in_ok-places.ensures in
    let left : ℕ = length c.deref.result.now - c.args.place in
    subst HaveScalars (sym (some_are left c.args.place c.in_ok-places.places.items c.deref.result.now c.deref.ensures.value))
    (some_have left c.args.place ps (places_have c.args.document.doc (left_pipe u) root ps c.requires.document.scalars found))

pub changes_at-requires : goal.changes_at-requires
changes_at-requires c =
    let u : Update = update_of c.args.update.now in
    let root : Node = node_of c.args.document.root in
    let ps : List FoundPlace = places_of c.in_ok-places.places.items in
    let found : places c.args.document.doc (left_pipe u) root ≡ gives ps = ap (λ (pipe : List Stage). places c.args.document.doc pipe root) (sym c.left-pipe.ensures) ∙ c.in_ok-places.ensures in
    let few : ℕ = (c.args.place + c.in_ok-few.few) - c.args.place in
    let some = c.in_ok-places-2.ensures ∙ some_are few c.args.place c.in_ok-places.places.items c.deref-2.result.now c.deref-2.ensures.value in
    record {
      root = c.requires.document.scalars;
      scalars = subst HaveScalars (sym some) (some_have few c.args.place ps (places_have c.args.document.doc (left_pipe u) root ps c.requires.document.scalars found));
      within = subst (AreIn root) (sym some) (some_in root few c.args.place ps (places_are_there c.args.document.doc (left_pipe u) root ps c.requires.document.tree found).1);
    }

pub returns-in_err-changes-clause-err : goal.returns-in_err-changes-clause-err
returns-in_err-changes-clause-err c =
    let u : Update = update_of c.args.update.now in
    let root : Node = node_of c.args.document.root in
    let room : Room = room_of c.args.document.documents.now c.args.document.doc in
    let ps : List FoundPlace = places_of c.in_ok-places.places.items in
    let found : places c.args.document.doc (left_pipe u) root ≡ gives ps = ap (λ (pipe : List Stage). places c.args.document.doc pipe root) (sym c.left-pipe.ensures) ∙ c.in_ok-places.ensures in
    let some = c.in_ok-places-2.ensures ∙ some_are ((c.args.place + c.in_ok-few.few) - c.args.place) c.args.place c.in_ok-places.places.items c.deref-2.result.now c.deref-2.ensures.value in
    let order : c.args.place ≤ (c.args.place + c.in_ok-few.few) = omega arith in
    let p = err_from_is_err_and c.from_residual-in_err-changes.result c.from_residual-in_err-changes.ensures.1 in
    rw (p.1, p.2)
    (part_fails u c.args.document.doc room root ps found c.args.place (c.args.place + c.in_ok-few.few) _ order
    (subst (λ (qs : List FoundPlace). MatchFails c.in_err-changes.field-0.0 (changes_at c.args.document.doc room root u qs)) some c.in_err-changes.ensures.changes))

pub returns-clause-part : goal.returns-clause-part
returns-clause-part c =
    let u : Update = update_of c.args.update.now in
    let root : Node = node_of c.args.document.root in
    let room : Room = room_of c.args.document.documents.now c.args.document.doc in
    let ps : List FoundPlace = places_of c.in_ok-places.places.items in
    let found : places c.args.document.doc (left_pipe u) root ≡ gives ps = ap (λ (pipe : List Stage). places c.args.document.doc pipe root) (sym c.left-pipe.ensures) ∙ c.in_ok-places.ensures in
    let some = c.in_ok-places-2.ensures ∙ some_are ((c.args.place + c.in_ok-few.few) - c.args.place) c.args.place c.in_ok-places.places.items c.deref-2.result.now c.deref-2.ensures.value in
    let order : c.args.place ≤ (c.args.place + c.in_ok-few.few) = omega arith in
    let changed = ap (changes_at c.args.document.doc room root u) (sym some) ∙ c.in_ok-changes.ensures.changes in
    let before = operations_of c.args.part.now.ops.items in
    let after = operations_of c.push_changes.new.ops.items in
    let cs = changes_under c.in_ok-changes.changes in
    let is = c.in_ok-push_changes.ensures in
    let count = length-map c.in_ok-places.places.items place_of in
    elim c.if-end-count.branch [
      | then-end-count w ↦
          subst (IsPlanPart (document_ops u c.args.document.doc room root) c.args.place before after) (sym w.next-is)
          (more_part u c.args.document.doc room root ps found before after c.args.place (c.args.place + c.in_ok-few.few) cs order changed is)
      | else-end-count w ↦ subst (IsPlanPart (document_ops u c.args.document.doc room root) c.args.place before after) (sym w.next-is)
          (last_part u c.args.document.doc room root ps found before after c.args.place (c.args.place + c.in_ok-few.few) cs order changed is
          (omega (arith, count, c.in_ok-places.places.ok.0, c.len-count.ensures, w.if-end-count.false)))
    ]

pub returns-clause-ends : goal.returns-clause-ends
returns-clause-ends c =
    let left : c.args.place < length c.deref.result.now = omega (arith, c.if-count-place.false, c.len-count.ensures, c.deref.ensures.len) in
    let few : c.args.part.now.room ≡ values_limit → c.args.place < c.args.place + c.in_ok-few.few = λ all. more c.args.place c.in_ok-few.few (c.in_ok-few.ensures.some all (some_left c.args.place c.deref.result.now left)) in
    elim c.if-end-count.branch [
      | then-end-count w ↦ rw w.next-is (record { later = omega arith; moves = λ all _. few all; large = λ is. absurd (false≢true (sym c.requires.fresh ∙ is)) })
      | else-end-count w ↦ rw w.next-is tt
    ]
  where
    more : (n m : ℕ) → 0 < m → n < n + m
    more n m h = omega (arith, h)

pub begins_large-requires-clause-places : goal.begins_large-requires-clause-places
begins_large-requires-clause-places c =
    let u : Update = update_of c.args.update.now in
    let root : Node = node_of c.args.document.root in
    let ps : List FoundPlace = places_of c.in_ok-places.places.items in
    let found : places c.args.document.doc (left_pipe u) root ≡ gives ps = ap (λ (pipe : List Stage). places c.args.document.doc pipe root) (sym c.left-pipe.ensures) ∙ c.in_ok-places.ensures in
    let left : ℕ = length c.deref.result.now - c.args.place in
    subst HaveScalars (sym (some_are left c.args.place c.in_ok-places.places.items c.deref.result.now c.deref.ensures.value))
    (some_have left c.args.place ps (places_have c.args.document.doc (left_pipe u) root ps c.requires.document.scalars found))

pub returns-then-branch-clause-ends : goal.returns-then-branch-clause-ends
returns-then-branch-clause-ends c =
    let u : Update = update_of c.args.update.now in
    let root : Node = node_of c.args.document.root in
    let room : Room = room_of c.args.document.documents.now c.args.document.doc in
    let ps : List FoundPlace = places_of c.in_ok-places.places.items in
    let found : places c.args.document.doc (left_pipe u) root ≡ gives ps = ap (λ (pipe : List Stage). places c.args.document.doc pipe root) (sym c.left-pipe.ensures) ∙ c.in_ok-places.ensures in
    let left : ℕ = length c.deref.result.now - c.args.place in
    let big = c.in_ok-begins_large.ensures c.if-branch.true in
    let some = some_are left c.args.place c.in_ok-places.places.items c.deref.result.now c.deref.ensures.value in
    let all : left ≡ length ps - c.args.place = ap (λ n. n - c.args.place) (ap length c.deref.ensures.value ∙ sym (length-map c.in_ok-places.places.items place_of)) in
    let there : drop c.args.place ps ≡ places_of (take left (drop c.args.place c.deref.result.now)) = sym (ap (λ n. take n (drop c.args.place ps)) all ∙ take_rest ps c.args.place) ∙ sym some in
    record {
      later = omega arith;
      moves = λ _ fresh. absurd (false≢true (sym fresh));
      large = λ _. document_large c.args.document c.args.update.now room ps found c.requires.document.tree
          (places_are_there c.args.document.doc (left_pipe u) root ps c.requires.document.tree found).0 c.args.place
          (take left (drop c.args.place c.deref.result.now)) there big;
    }

pub returns-clause-valid : goal.returns-clause-valid
returns-clause-valid c = λ h.
    subst HaveValidValues (sym c.in_ok-push_changes.ensures)
    (each_joined HasValidValue (operations_of c.args.part.now.ops.items) _ h (ops_valid c.args.document.doc c.in_ok-changes.changes c.in_ok-changes.ensures.valid))
