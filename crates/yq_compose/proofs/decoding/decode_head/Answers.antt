use Rattle.std.{proofs.Common.{rules, ℕ, List, ◌++◌, refl, sym, ap, ◌∙◌, SFits, w64}, proofs.lemmas.Bool.{false≢true, not-false}}
use Rattle.std.{proofs.lemmas.Int.to_z-of_z, specs.List.list_any}
use Rattle.yq_core.{specs.Nodes.begins_with, specs.Text.is_empty}
use Rattle.yq_outline.specs.Names.{is_reference}
use Rattle.yq_row_table.specs.View.{Slices, slices}
use Rattle.yq_documents.specs.Reading.{cut_of}
use Rattle.yq_compose.{specs.Named.flow_names, proofs.DocumentsRead.cut_view}
use Rattle.yq_compose.proofs.RowsRead.{alias_fit, alias_given, borrowed_fit, fit_agrees, head_quoted, head_read, lent_fit, lent_given}
use Rattle.yq_compose.proofs.RowsRead.{lent_named, no_head, none_given, none_named, passed_there, pieces_there, place_whole, read_given}
use Rattle.yq_compose.proofs.RowsRead.{row_at, text_ends, unfit_agrees}
use Rattle.yq_compose.proofs.decoding.decode_head.Goals as goal

pub returns-then-not-has_head-clause-fits : goal.returns-then-not-has_head-clause-fits
returns-then-not-has_head-clause-fits c = λ r is.
    let k = c.requires.cut in
    let none = not-false (is_empty (slices r).head) (sym (c.has_head.ensures (slices r) (pieces_there c.args.text.now c.args.rows.now k c.args.other.row r is)) ∙ c.if-not-has_head.true) in
    borrowed_fit c.args.text.now c.args.rows.now k c.args.other.row r is (slices r).head refl (no_head (slices r).head none)

pub returns-then-not-has_head-clause-agrees : goal.returns-then-not-has_head-clause-agrees
returns-then-not-has_head-clause-agrees c = λ r is.
    let k = c.requires.cut in
    let none = not-false (is_empty (slices r).head) (sym (c.has_head.ensures (slices r) (pieces_there c.args.text.now c.args.rows.now k c.args.other.row r is)) ∙ c.if-not-has_head.true) in
    record {
      head = none_given c.args.text.now c.args.rows.now k c.args.other.row r is (slices r).head refl (no_head (slices r).head none);
      names_none = λ e. none_named c.args.text.now c.args.rows.now k c.args.other.row r is (slices r).head refl (no_head (slices r).head none);
    }

pub is_word_head-requires : goal.is_word_head-requires
is_word_head-requires c =
    let k = c.requires.cut in
    let r = row_at c.args.text.now c.args.rows.now k c.args.other.row c.requires.within in
    let pieces = pieces_there c.args.text.now c.args.rows.now k c.args.other.row r.0 r.1 in
    let s : Slices = slices r.0 in
    (s.tail ++ s.raw, c.from_head.ensures s pieces ∙ ap (λ (h : List ℕ). h ++ (s.tail ++ s.raw)) (sym (c.head-head.ensures s pieces)))

pub returns-then-is_word_head-clause-fits : goal.returns-then-is_word_head-clause-fits
returns-then-is_word_head-clause-fits c = λ r is.
    let k = c.requires.cut in
    let head = c.head-head.ensures (slices r) (pieces_there c.args.text.now c.args.rows.now k c.args.other.row r is) in
    borrowed_fit c.args.text.now c.args.rows.now k c.args.other.row r is c.head-head.result.now head (c.if-is_word_head.ensures refl)

pub returns-then-is_word_head-clause-agrees : goal.returns-then-is_word_head-clause-agrees
returns-then-is_word_head-clause-agrees c = λ r is.
    let k = c.requires.cut in
    let head = c.head-head.ensures (slices r) (pieces_there c.args.text.now c.args.rows.now k c.args.other.row r is) in
    record {
      head = none_given c.args.text.now c.args.rows.now k c.args.other.row r is c.head-head.result.now head (c.if-is_word_head.ensures refl);
      names_none = λ e. none_named c.args.text.now c.args.rows.now k c.args.other.row r is c.head-head.result.now head (c.if-is_word_head.ensures refl);
    }

pub borrows_head-requires : goal.borrows_head-requires
borrows_head-requires c =
    let k = c.requires.cut in
    let r = row_at c.args.text.now c.args.rows.now k c.args.other.row c.requires.within in
    head_quoted c.args.text.now c.args.rows.now k c.args.other.row r.0 r.1 c.head-head.result.now (c.head-head.ensures (slices r.0) (pieces_there c.args.text.now c.args.rows.now k c.args.other.row r.0 r.1))

pub returns-then-borrows_head-clause-fits : goal.returns-then-borrows_head-clause-fits
returns-then-borrows_head-clause-fits c = λ r is.
    let k = c.requires.cut in
    let head = c.head-head.ensures (slices r) (pieces_there c.args.text.now c.args.rows.now k c.args.other.row r is) in
    borrowed_fit c.args.text.now c.args.rows.now k c.args.other.row r is c.head-head.result.now head (sym c.borrows_head.ensures ∙ c.if-borrows_head.true)

pub returns-then-borrows_head-clause-agrees : goal.returns-then-borrows_head-clause-agrees
returns-then-borrows_head-clause-agrees c = λ r is.
    let k = c.requires.cut in
    let head = c.head-head.ensures (slices r) (pieces_there c.args.text.now c.args.rows.now k c.args.other.row r is) in
    record {
      head = none_given c.args.text.now c.args.rows.now k c.args.other.row r is c.head-head.result.now head (sym c.borrows_head.ensures ∙ c.if-borrows_head.true);
      names_none = λ e. none_named c.args.text.now c.args.rows.now k c.args.other.row r is c.head-head.result.now head (sym c.borrows_head.ensures ∙ c.if-borrows_head.true);
    }

pub split_at-requires : goal.split_at-requires
split_at-requires c =
    let k = c.requires.cut in
    let r = row_at c.args.text.now c.args.rows.now k c.args.other.row c.requires.within in
    let head = c.head-head.ensures (slices r.0) (pieces_there c.args.text.now c.args.rows.now k c.args.other.row r.0 r.1) in
    let start = ap (λ (x : ℕ × ℕ). x.0) (c.head_place-start.ensures (cut_of c.args.text.now) k.rows r.0 r.1) in
    place_whole c.args.text.now c.args.rows.now k c.args.other.row r.0 r.1 c.head-head.result.now c.head_place-start.result.0 head (sym c.borrows_head.ensures ∙ c.if-borrows_head.false) c.head-head.utf8 start

pub read_head-requires-clause-quoted : goal.read_head-requires-clause-quoted
read_head-requires-clause-quoted c =
    let k = c.requires.cut in
    let r = row_at c.args.text.now c.args.rows.now k c.args.other.row c.requires.within in
    head_quoted c.args.text.now c.args.rows.now k c.args.other.row r.0 r.1 c.head-head.result.now (c.head-head.ensures (slices r.0) (pieces_there c.args.text.now c.args.rows.now k c.args.other.row r.0 r.1))

pub read_head-requires-clause-ends : goal.read_head-requires-clause-ends
read_head-requires-clause-ends c =
    let k = c.requires.cut in
    let r = row_at c.args.text.now c.args.rows.now k c.args.other.row c.requires.within in
    let start = ap (λ (x : ℕ × ℕ). x.0) (c.head_place-start.ensures (cut_of c.args.text.now) k.rows r.0 r.1) in
    text_ends c.args.text.now c.args.rows.now k c.args.other.row r.0 r.1 c.split_at.result.1.now c.head_place-start.result.0 c.split_at.ensures.back start

pub returns-in-Ok-clause-fits : goal.returns-in-Ok-clause-fits
returns-in-Ok-clause-fits c = λ r is.
    let k = c.requires.cut in
    let pieces = pieces_there c.args.text.now c.args.rows.now k c.args.other.row r is in
    let head = c.head-head.ensures (slices r) pieces in
    let start = ap (λ (x : ℕ × ℕ). x.0) (c.head_place-start.ensures (cut_of c.args.text.now) k.rows r is) in
    let f : SFits w64 c.parent_indent-parent.result = search rules in
    let parent = to_z-of_z w64 c.parent_indent-parent.result f ∙ c.parent_indent-parent.ensures (slices r) pieces in
    fit_agrees _ _ _ _ (head_read c.args.text.now c.args.rows.now k c.args.other.row r is c.split_at.result.1.now c.head_place-start.result.0 c.split_at.ensures.back start _ c.head-head.result.now parent head) c.in-Ok.ensures.view

pub returns-in-Ok-clause-agrees : goal.returns-in-Ok-clause-agrees
returns-in-Ok-clause-agrees c = λ r is.
    let k = c.requires.cut in
    let pieces = pieces_there c.args.text.now c.args.rows.now k c.args.other.row r is in
    let head = c.head-head.ensures (slices r) pieces in
    let start = ap (λ (x : ℕ × ℕ). x.0) (c.head_place-start.ensures (cut_of c.args.text.now) k.rows r is) in
    let f : SFits w64 c.parent_indent-parent.result = search rules in
    let parent = to_z-of_z w64 c.parent_indent-parent.result f ∙ c.parent_indent-parent.ensures (slices r) pieces in
    let given = read_given c.args.text.now c.args.rows.now k c.args.other.row r is c.split_at.result.1.now c.head_place-start.result.0 c.split_at.ensures.back start _
    c.head-head.result.now parent head c.in-Ok.head c.in-Ok.ensures.view c.in-Ok.ensures.flow in
    record { head = given; names_none = λ e. ap (λ o. list_any is_reference (flow_names o)) (sym given.1) ∙ (sym c.head_refers.ensures ∙ e) }

pub returns-clause-fits : goal.returns-clause-fits
returns-clause-fits c = λ r is.
    let k = c.requires.cut in
    let pieces = pieces_there c.args.text.now c.args.rows.now k c.args.other.row r is in
    let head = c.head-head.ensures (slices r) pieces in
    let start = ap (λ (x : ℕ × ℕ). x.0) (c.head_place-start.ensures (cut_of c.args.text.now) k.rows r is) in
    let f : SFits w64 c.parent_indent-parent.result = search rules in
    let parent = to_z-of_z w64 c.parent_indent-parent.result f ∙ c.parent_indent-parent.ensures (slices r) pieces in
    unfit_agrees c.in-Err.e _ _ _
    (head_read c.args.text.now c.args.rows.now k c.args.other.row r is c.split_at.result.1.now c.head_place-start.result.0
    c.split_at.ensures.back start _ c.head-head.result.now parent head) c.in-Err.ensures.view

pub head_place-start-requires-clause-rows_view : goal.head_place-start-requires-clause-rows_view
head_place-start-requires-clause-rows_view c = cut_view c.args.text.now c.args.rows.now c.requires.cut

pub lends_head-requires : goal.lends_head-requires
lends_head-requires c =
    let k = c.requires.cut in
    let r = row_at c.args.text.now c.args.rows.now k c.args.other.row c.requires.within in
    let start = ap (λ (x : ℕ × ℕ). x.0) (c.head_place-start.ensures (cut_of c.args.text.now) k.rows r.0 r.1) in
    record { known = passed_there c.args.text.now c.args.rows.now k c.args.other.row r.0 r.1 c.split_at.result.1.now c.head_place-start.result.0 c.split_at.ensures.back start c.args.other.depth (c.requires.known r.0 r.1) }

pub returns-then-first_is-clause-fits : goal.returns-then-first_is-clause-fits
returns-then-first_is-clause-fits c = λ r is.
    let k = c.requires.cut in
    let head = c.head-head.ensures (slices r) (pieces_there c.args.text.now c.args.rows.now k c.args.other.row r is) in
    alias_fit c.args.text.now c.args.rows.now k c.args.other.row r is c.head-head.result.now head (ap (begins_with 42) (sym c.as_bytes-2.ensures.value) ∙ (sym c.first_is.ensures ∙ c.if-first_is.true))

pub returns-then-first_is-clause-agrees : goal.returns-then-first_is-clause-agrees
returns-then-first_is-clause-agrees c = λ r is.
    let k = c.requires.cut in
    let head = c.head-head.ensures (slices r) (pieces_there c.args.text.now c.args.rows.now k c.args.other.row r is) in
    record {
      head = alias_given c.args.text.now c.args.rows.now k c.args.other.row r is c.head-head.result.now head (ap (begins_with 42) (sym c.as_bytes-2.ensures.value) ∙ (sym c.first_is.ensures ∙ c.if-first_is.true));
      names_none = λ e. absurd (false≢true (sym e));
    }

pub returns-then-lends_head-clause-fits : goal.returns-then-lends_head-clause-fits
returns-then-lends_head-clause-fits c = λ r is.
    let k = c.requires.cut in
    let head = c.head-head.ensures (slices r) (pieces_there c.args.text.now c.args.rows.now k c.args.other.row r is) in
    let start = ap (λ (x : ℕ × ℕ). x.0) (c.head_place-start.ensures (cut_of c.args.text.now) k.rows r is) in
    lent_fit c.args.text.now c.args.rows.now k c.args.other.row r is c.split_at.result.1.now c.head_place-start.result.0 c.split_at.ensures.back start c.head-head.result.now head (c.if-lends_head.ensures refl)

pub returns-then-lends_head-clause-agrees : goal.returns-then-lends_head-clause-agrees
returns-then-lends_head-clause-agrees c = λ r is.
    let k = c.requires.cut in
    let head = c.head-head.ensures (slices r) (pieces_there c.args.text.now c.args.rows.now k c.args.other.row r is) in
    let start = ap (λ (x : ℕ × ℕ). x.0) (c.head_place-start.ensures (cut_of c.args.text.now) k.rows r is) in
    let whole = place_whole c.args.text.now c.args.rows.now k c.args.other.row r is c.head-head.result.now _ head (sym c.borrows_head.ensures ∙ c.if-borrows_head.false) c.head-head.utf8 refl in
    record {
      head = lent_given c.args.text.now c.args.rows.now k c.args.other.row r is c.split_at.result.1.now c.head_place-start.result.0 c.split_at.ensures.back start c.head-head.result.now head (c.if-lends_head.ensures refl) whole;
      names_none = λ e. lent_named c.args.text.now c.args.rows.now k c.args.other.row r is c.split_at.result.1.now c.head_place-start.result.0 c.split_at.ensures.back start c.head-head.result.now head (c.if-lends_head.ensures refl);
    }
