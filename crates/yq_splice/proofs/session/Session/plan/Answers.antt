use Rattle.std.proofs.Common.{List, ℕ, sym, ap, ◌∙◌, subst}
use Rattle.yq_text.specs.TextGapBuffer.{buffer_text}
use Rattle.yq_documents.specs.Reading.{documents_of}
use Rattle.yq_expr.specs.FixedPaths.{IfAny, IsSole, PlansAlone}
use Rattle.yq_splice.specs.Session.{SessionState, HasPlaces, Knows}
use Rattle.yq_splice.proofs.SessionLaws.{cut_borrowed, known_borrowed, moved_same, places_back, places_borrowed, split_is, split_borrowed}
use Rattle.yq_splice.proofs.SessionLaws.{whole_borrowed}
use Rattle.yq_splice.proofs.session.Session.plan.Goals as goal

pub move_split-requires : goal.move_split-requires
move_split-requires c =
    let h : HasPlaces (buffer_text c.self.inside.text) c.replace-places.result = subst (HasPlaces (buffer_text c.self.inside.text)) (sym c.replace-places.ensures.value) c.self.invariant.0 in
    split_is (buffer_text c.self.inside.text) c.replace-places.result h

pub rows-rows-requires-clause-split : goal.rows-rows-requires-clause-split
rows-rows-requires-clause-split c =
    let h : HasPlaces (buffer_text c.self.inside.text) c.replace-places.result = subst (HasPlaces (buffer_text c.self.inside.text)) (sym c.replace-places.ensures.value) c.self.invariant.0 in
    split_borrowed (buffer_text c.self.inside.text) c.replace-places.result h c.halves-text.result (c.halves-text.ensures.front ∙ c.move_split.ensures.front, c.halves-text.ensures.back ∙ c.move_split.ensures.back)

pub rows-rows-requires-clause-placed : goal.rows-rows-requires-clause-placed
rows-rows-requires-clause-placed c =
    let h : HasPlaces (buffer_text c.self.inside.text) c.replace-places.result = subst (HasPlaces (buffer_text c.self.inside.text)) (sym c.replace-places.ensures.value) c.self.invariant.0 in
    places_borrowed (buffer_text c.self.inside.text) c.replace-places.result h c.halves-text.result (c.halves-text.ensures.front ∙ c.move_split.ensures.front, c.halves-text.ensures.back ∙ c.move_split.ensures.back)

pub plan_in-planned-requires-clause-cut : goal.plan_in-planned-requires-clause-cut
plan_in-planned-requires-clause-cut c =
    let h : HasPlaces (buffer_text c.self.inside.text) c.replace-places.result = subst (HasPlaces (buffer_text c.self.inside.text)) (sym c.replace-places.ensures.value) c.self.invariant.0 in
    cut_borrowed (buffer_text c.self.inside.text) c.replace-places.result h c.halves-text.result
    (c.halves-text.ensures.front ∙ c.move_split.ensures.front, c.halves-text.ensures.back ∙ c.move_split.ensures.back) c.rows-rows.result
    c.rows-rows.ensures

pub plan_in-planned-requires-clause-known : goal.plan_in-planned-requires-clause-known
plan_in-planned-requires-clause-known c =
    let h : HasPlaces (buffer_text c.self.inside.text) c.replace-places.result = subst (HasPlaces (buffer_text c.self.inside.text)) (sym c.replace-places.ensures.value) c.self.invariant.0 in
    known_borrowed (buffer_text c.self.inside.text) c.replace-places.result h c.halves-text.result
    (c.halves-text.ensures.front ∙ c.move_split.ensures.front, c.halves-text.ensures.back ∙ c.move_split.ensures.back) c.rows-rows.result
    c.rows-rows.ensures c.replace-known.result
    (subst (Knows (buffer_text c.self.inside.text)) (sym c.replace-known.ensures.value) c.self.invariant.1)

pub plan_in-planned-requires-clause-sole : goal.plan_in-planned-requires-clause-sole
plan_in-planned-requires-clause-sole c =
    let h : HasPlaces (buffer_text c.self.inside.text) c.replace-places.result = subst (HasPlaces (buffer_text c.self.inside.text)) (sym c.replace-places.ensures.value) c.self.invariant.0 in
    let all = whole_borrowed (buffer_text c.self.inside.text) c.replace-places.result h c.halves-text.result (c.halves-text.ensures.front ∙ c.move_split.ensures.front, c.halves-text.ensures.back ∙ c.move_split.ensures.back) in
    let same = all ∙ ap (λ (s : SessionState). s.text) c.self.view_is in
    subst (λ (t : List ℕ). IsSole (documents_of t)) (sym same) c.requires

pub returns-clause-plans : goal.returns-clause-plans
returns-clause-plans c =
    let h : HasPlaces (buffer_text c.self.inside.text) c.replace-places.result = subst (HasPlaces (buffer_text c.self.inside.text)) (sym c.replace-places.ensures.value) c.self.invariant.0 in
    let all = whole_borrowed (buffer_text c.self.inside.text) c.replace-places.result h c.halves-text.result (c.halves-text.ensures.front ∙ c.move_split.ensures.front, c.halves-text.ensures.back ∙ c.move_split.ensures.back) in
    let same = all ∙ ap (λ (s : SessionState). s.text) c.self.view_is in
    subst (λ (t : List ℕ). IfAny c.plan_in-planned.result.0 (PlansAlone c.args.nth c.args.program.now t)) same c.plan_in-planned.ensures.plans

pub invariant_of-self : goal.invariant_of-self
invariant_of-self c =
    let h : HasPlaces (buffer_text c.self.inside.text) c.replace-places.result = subst (HasPlaces (buffer_text c.self.inside.text)) (sym c.replace-places.ensures.value) c.self.invariant.0 in
    let back = places_back (buffer_text c.self.inside.text) c.replace-places.result h c.halves-text.result
    (c.halves-text.ensures.front ∙ c.move_split.ensures.front, c.halves-text.ensures.back ∙ c.move_split.ensures.back) c.rows-rows.result
    c.rows-rows.ensures c.into_places.result c.into_places.ensures in
    let all = whole_borrowed (buffer_text c.self.inside.text) c.replace-places.result h c.halves-text.result (c.halves-text.ensures.front ∙ c.move_split.ensures.front, c.halves-text.ensures.back ∙ c.move_split.ensures.back) in
    let known = subst (λ (x : List ℕ). Knows x c.plan_in-planned.result.1) all c.plan_in-planned.ensures.known in
    subst (λ (x : List ℕ). HasPlaces x c.into_places.result × Knows x c.plan_in-planned.result.1)
    (sym (moved_same (buffer_text c.self.inside.text) c.replace-places.result.split c.move_split.new.self c.move_split.ensures.front
    c.move_split.ensures.back)) (back, known)

pub returns-clause-same : goal.returns-clause-same
returns-clause-same c =
    let text = moved_same (buffer_text c.self.inside.text) c.replace-places.result.split c.move_split.new.self c.move_split.ensures.front c.move_split.ensures.back in
    (λ i. record { text = text i; scanned = c.self.inside.meter }) ∙ c.self.view_is
