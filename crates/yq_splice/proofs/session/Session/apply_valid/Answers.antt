use Rattle.std.{proofs.Common.{◌≡◌, inl, ℕ, List, sym, ap, ◌∙◌, subst}, proofs.lemmas.Result.err_from_is_err_and}
use Rattle.yq_text.specs.TextGapBuffer.{buffer_text}
use Rattle.yq_semantics.specs.Operations.{operation_of}
use Rattle.yq_rows.specs.Following.{CountsWritten, Follows, exchanged}
use Rattle.yq_edit_laws.{specs.Answers.EditFails, specs.Carried.carried, specs.Edit.gives}
use Rattle.yq_splice.specs.Session.{SessionState, HasPlaces, IsChangeBy, Knows, KnowsAfter}
use Rattle.yq_splice.proofs.FollowLaws.{carried_none, carried_some, follows, kept_after, no_splices, scans, some_splices}
use Rattle.yq_splice.proofs.SessionLaws.{known_here, on_err, places_stay}
use Rattle.yq_splice.proofs.session.Session.apply_valid.Goals as goal

pub invariant_of-self : goal.invariant_of-self
invariant_of-self c =
    subst (λ (x : List ℕ). HasPlaces x c.change.new.places × Knows x c.change.new.known) (sym c.in_err-changed.ensures.same) (c.in_err-changed.ensures.places, c.in_err-changed.ensures.kept)

pub returns-in_err-changed-clause-kept : goal.returns-in_err-changed-clause-kept
returns-in_err-changed-clause-kept c =
    on_err c.from_residual.result _ ((λ i. record { text = c.in_err-changed.ensures.same i; scanned = c.self.inside.meter }) ∙ c.self.view_is)

pub returns-in_err-changed-clause-err : goal.returns-in_err-changed-clause-err
returns-in_err-changed-clause-err c =
    let own : buffer_text c.self.inside.text ≡ c.args.self.now.text = ap (λ (s : SessionState). s.text) c.self.view_is in
    let p = err_from_is_err_and c.from_residual.result c.from_residual.ensures.1 in
    rw (p.1, p.2) (subst (λ (x : List ℕ). EditFails c.in_err-changed.field-0.0 (carried (operation_of c.args.op.now) x)) own c.in_err-changed.ensures.err)

pub invariant_of-self-then-is_empty : goal.invariant_of-self-then-is_empty
invariant_of-self-then-is_empty c =
    let known = known_here c.in_ok-changed.changed.front (buffer_text c.self.inside.text) c.change.new.known c.in_ok-changed.ensures.known in
    subst (λ (x : List ℕ). HasPlaces x c.change.new.places × Knows x c.change.new.known) (sym c.in_ok-changed.ensures.same) (c.in_ok-changed.ensures.places, known)

pub returns-then-is_empty-clause-ok : goal.returns-then-is_empty-clause-ok
returns-then-is_empty-clause-ok c =
    let own : buffer_text c.self.inside.text ≡ c.args.self.now.text = ap (λ (s : SessionState). s.text) c.self.view_is in
    let text : buffer_text c.change.new.text ≡ c.args.self.now.text = c.in_ok-changed.ensures.same ∙ own in
    let h : HasPlaces c.args.self.now.text c.change.new.places = subst (λ (x : List ℕ). HasPlaces x c.change.new.places) own c.in_ok-changed.ensures.places in
    let change = subst (λ (x : List ℕ). IsChangeBy (operation_of c.args.op.now) x c.in_ok-changed.changed) own c.in_ok-changed.ensures.ok in
    let none = no_splices c.in_ok-changed.changed.splices (sym c.is_empty.ensures ∙ c.if-is_empty.true) in
    carried_none (operation_of c.args.op.now) c.args.self.now.text c.requires.operand c.requires.fits c.change.new.places h c.in_ok-changed.changed change none
    ∙ ap (λ (x : List ℕ). gives x c.in_ok-changed.changed.splices.items) (sym text)

pub returns-then-is_empty-clause-scanned : goal.returns-then-is_empty-clause-scanned
returns-then-is_empty-clause-scanned c =
    let own : buffer_text c.self.inside.text ≡ c.args.self.now.text = ap (λ (s : SessionState). s.text) c.self.view_is in
    let none = no_splices c.in_ok-changed.changed.splices (sym c.is_empty.ensures ∙ c.if-is_empty.true) in
    inl (none, c.in_ok-changed.ensures.same ∙ own, ap (λ (s : SessionState). s.scanned) c.self.view_is)

pub follow-requires : goal.follow-requires
follow-requires c =
    let own : buffer_text c.self.inside.text ≡ c.args.self.now.text = ap (λ (s : SessionState). s.text) c.self.view_is in
    let text : buffer_text c.change.new.text ≡ c.args.self.now.text = c.in_ok-changed.ensures.same ∙ own in
    let h : HasPlaces c.args.self.now.text c.change.new.places = subst (λ (x : List ℕ). HasPlaces x c.change.new.places) own c.in_ok-changed.ensures.places in
    let change = subst (λ (x : List ℕ). IsChangeBy (operation_of c.args.op.now) x c.in_ok-changed.changed) own c.in_ok-changed.ensures.ok in
    let some = some_splices c.in_ok-changed.changed.splices (sym c.is_empty.ensures ∙ c.if-is_empty.false) in
    let new_bytes = follows (operation_of c.args.op.now) c.args.self.now.text c.requires.operand c.requires.fits c.change.new.places h c.in_ok-changed.changed change some in
    subst (λ (x : List ℕ). Follows x c.change.new.places (record { front = c.in_ok-changed.changed.front; back = c.in_ok-changed.changed.back }) c.deref.result.now) (sym text)
    (subst (Follows c.args.self.now.text c.change.new.places (record { front = c.in_ok-changed.changed.front; back = c.in_ok-changed.changed.back })) (sym c.deref.ensures) new_bytes)

pub invariant_of-self-in_err-follow : goal.invariant_of-self-in_err-follow
invariant_of-self-in_err-follow c =
    let same = sym c.in_ok-changed.ensures.same in
    let there = subst (λ (x : List ℕ). HasPlaces x c.change.new.places) same c.in_ok-changed.ensures.places in
    let known = known_here c.in_ok-changed.changed.front (buffer_text c.self.inside.text) c.change.new.known c.in_ok-changed.ensures.known in
    places_stay (buffer_text c.change.new.text) (buffer_text c.follow.new.text) c.change.new.places c.follow.new.places c.change.new.known c.in_err-follow.ensures.text
    there (subst (λ (x : List ℕ). Knows x c.change.new.known) same known) c.in_err-follow.ensures.placed

pub returns-in_err-follow-clause-kept : goal.returns-in_err-follow-clause-kept
returns-in_err-follow-clause-kept c =
    let text = c.in_err-follow.ensures.text ∙ c.in_ok-changed.ensures.same in
    on_err c.from_residual-in_err-follow.result _ ((λ i. record { text = text i; scanned = c.self.inside.meter }) ∙ c.self.view_is)

pub invariant_of-self-2 : goal.invariant_of-self-2
invariant_of-self-2 c =
    let own : buffer_text c.self.inside.text ≡ c.args.self.now.text = ap (λ (s : SessionState). s.text) c.self.view_is in
    let text : buffer_text c.change.new.text ≡ c.args.self.now.text = c.in_ok-changed.ensures.same ∙ own in
    let h : HasPlaces c.args.self.now.text c.change.new.places = subst (λ (x : List ℕ). HasPlaces x c.change.new.places) own c.in_ok-changed.ensures.places in
    let change = subst (λ (x : List ℕ). IsChangeBy (operation_of c.args.op.now) x c.in_ok-changed.changed) own c.in_ok-changed.ensures.ok in
    let some = some_splices c.in_ok-changed.changed.splices (sym c.is_empty.ensures ∙ c.if-is_empty.false) in
    let becomes = c.in_ok-follow.ensures.text ∙ (λ i. exchanged (record { front = c.in_ok-changed.changed.front; back = c.in_ok-changed.changed.back }) (text i) (c.deref.ensures i)) in
    let stays = subst (λ (x : List ℕ). KnowsAfter x c.change.new.known c.in_ok-changed.changed) own c.in_ok-changed.ensures.known in
    kept_after (operation_of c.args.op.now) c.args.self.now.text c.requires.operand c.requires.fits c.change.new.places h c.in_ok-changed.changed change some
    (buffer_text c.follow.new.text) becomes c.follow.new.places c.change.new.known c.in_ok-follow.ensures.placed stays

pub returns-clause-ok : goal.returns-clause-ok
returns-clause-ok c =
    let own : buffer_text c.self.inside.text ≡ c.args.self.now.text = ap (λ (s : SessionState). s.text) c.self.view_is in
    let text : buffer_text c.change.new.text ≡ c.args.self.now.text = c.in_ok-changed.ensures.same ∙ own in
    let h : HasPlaces c.args.self.now.text c.change.new.places = subst (λ (x : List ℕ). HasPlaces x c.change.new.places) own c.in_ok-changed.ensures.places in
    let change = subst (λ (x : List ℕ). IsChangeBy (operation_of c.args.op.now) x c.in_ok-changed.changed) own c.in_ok-changed.ensures.ok in
    let some = some_splices c.in_ok-changed.changed.splices (sym c.is_empty.ensures ∙ c.if-is_empty.false) in
    let becomes = c.in_ok-follow.ensures.text ∙ (λ i. exchanged (record { front = c.in_ok-changed.changed.front; back = c.in_ok-changed.changed.back }) (text i) (c.deref.ensures i)) in
    carried_some (operation_of c.args.op.now) c.args.self.now.text c.requires.operand c.requires.fits c.change.new.places h c.in_ok-changed.changed change some
    (buffer_text c.follow.new.text) becomes

pub returns-clause-scanned : goal.returns-clause-scanned
returns-clause-scanned c =
    let own : buffer_text c.self.inside.text ≡ c.args.self.now.text = ap (λ (s : SessionState). s.text) c.self.view_is in
    let text : buffer_text c.change.new.text ≡ c.args.self.now.text = c.in_ok-changed.ensures.same ∙ own in
    let h : HasPlaces c.args.self.now.text c.change.new.places = subst (λ (x : List ℕ). HasPlaces x c.change.new.places) own c.in_ok-changed.ensures.places in
    let change = subst (λ (x : List ℕ). IsChangeBy (operation_of c.args.op.now) x c.in_ok-changed.changed) own c.in_ok-changed.ensures.ok in
    let some = some_splices c.in_ok-changed.changed.splices (sym c.is_empty.ensures ∙ c.if-is_empty.false) in
    let becomes = c.in_ok-follow.ensures.text ∙ (λ i. exchanged (record { front = c.in_ok-changed.changed.front; back = c.in_ok-changed.changed.back }) (text i) (c.deref.ensures i)) in
    let counts = subst (λ (x : List ℕ). CountsWritten x (buffer_text c.follow.new.text)
    (record { front = c.in_ok-changed.changed.front; back = c.in_ok-changed.changed.back }) c.self.inside.meter c.follow.new.meter) text
    c.in_ok-follow.ensures.counted in
    scans (operation_of c.args.op.now) c.args.self.now.text c.requires.operand c.requires.fits c.change.new.places h c.in_ok-changed.changed change some
    (buffer_text c.follow.new.text) becomes c.self.inside.meter c.args.self.now.scanned c.follow.new.meter
    (ap (λ (s : SessionState). s.scanned) c.self.view_is) counts
