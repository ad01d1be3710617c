use Rattle.std.{proofs.Common.{ℕ, List, ◌-◌, Some, drop, sym, ap, ◌∙◌, subst}, specs.Str.{IsUtf8, IsCharBoundary}}
use Rattle.yq_places.{specs.FirstPlaces.{first_out, piece_between}, specs.LineReading.piece_at}
use Rattle.yq_places.proofs.FirstLaws.{entry_is_there, first_is, no_first_entry, no_first_row_line, other_first_line}
use Rattle.yq_documents.specs.Reading.{cut_of}
use Rattle.yq_lookup.proofs.cut_text.CutText.first_removal.Goals as goal

pub returns-in_err-at : goal.returns-in_err-at
returns-in_err-at c = rw c.from_residual.ensures (no_first_row_line c.args.path.now (cut_of c.args.self.now) _ c.in_err-at.ensures)

pub returns-then-at-eq0 : goal.returns-then-at-eq0
returns-then-at-eq0 c = other_first_line c.args.path.now (cut_of c.args.self.now) _ c.in_ok-at.at c.in_ok-at.ensures c.if-at-eq0.true

pub returns-in_err-span : goal.returns-in_err-span
returns-in_err-span c =
    rw c.from_residual-in_err-span.ensures
    (no_first_entry c.args.self.now (cut_of c.args.self.now) c.args.path.now _ c.in_ok-at.at c.whole-whole.ensures.cut
    c.whole-whole.ensures.documents c.in_ok-at.ensures c.in_err-span.ensures)

pub first_out-requires-clause-order : goal.first_out-requires-clause-order
first_out-requires-clause-order c =
    let u : IsUtf8 c.args.self.now = c.whole-whole.ensures.utf8 in
    (entry_is_there c.args.self.now (cut_of c.args.self.now) c.args.path.now c.in_ok-span.span.start c.in_ok-span.span.end u c.whole-whole.ensures.cut
    c.whole-whole.ensures.documents _ c.in_ok-at.at c.in_ok-at.ensures c.in_ok-span.ensures).order

pub first_out-requires-clause-start : goal.first_out-requires-clause-start
first_out-requires-clause-start c =
    let u : IsUtf8 c.args.self.now = c.whole-whole.ensures.utf8 in
    let h = entry_is_there c.args.self.now (cut_of c.args.self.now) c.args.path.now c.in_ok-span.span.start c.in_ok-span.span.end u
    c.whole-whole.ensures.cut c.whole-whole.ensures.documents _ c.in_ok-at.at c.in_ok-at.ensures
    c.in_ok-span.ensures in
    subst (λ (t : List ℕ). IsCharBoundary t c.in_ok-span.span.start) (sym c.whole-whole.ensures.text) h.begins

pub first_out-requires-clause-end : goal.first_out-requires-clause-end
first_out-requires-clause-end c =
    let u : IsUtf8 c.args.self.now = c.whole-whole.ensures.utf8 in
    let h = entry_is_there c.args.self.now (cut_of c.args.self.now) c.args.path.now c.in_ok-span.span.start c.in_ok-span.span.end u
    c.whole-whole.ensures.cut c.whole-whole.ensures.documents _ c.in_ok-at.at c.in_ok-at.ensures
    c.in_ok-span.ensures in
    subst (λ (t : List ℕ). IsCharBoundary (drop c.in_ok-span.span.start t) (c.in_ok-span.span.end - c.in_ok-span.span.start)) (sym c.whole-whole.ensures.text) h.ends

pub returns : goal.returns
returns c =
    let t : List ℕ = c.args.self.now in
    let from : ℕ = c.in_ok-span.span.start in
    let size : ℕ = c.in_ok-span.span.end - from in
    let u : IsUtf8 t = c.whole-whole.ensures.utf8 in
    let h = entry_is_there t (cut_of t) c.args.path.now from c.in_ok-span.span.end u c.whole-whole.ensures.cut c.whole-whole.ensures.documents _ c.in_ok-at.at c.in_ok-at.ensures c.in_ok-span.ensures in
    let text = c.whole-whole.ensures.text in
    ap Some (c.first_out.ensures ∙ (ap (λ (y : List ℕ). first_out (piece_at from c.in_ok-span.span.end y)) text ∙ (λ i. first_out (piece_between (h.before_is i) (h.text_is i) (h.following_is i)))))
    ∙ first_is c.args.path.now (cut_of t) _ c.in_ok-at.at h.piece c.in_ok-at.ensures c.if-at-eq0.false h.is
