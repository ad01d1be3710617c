use Rattle.std.{proofs.Common.{◌∙◌, ap, refl, List, rules, SFits, subst, sym, w64, ℕ}, proofs.lemmas.Int.to_z-of_z, specs.Str.IsUtf8}
use Rattle.yq_text.specs.Halves.{whole}
use Rattle.yq_row_table.specs.View.{row_view, rows_of}
use Rattle.yq_documents.specs.Reading.{cut_of}
use Rattle.yq_places.{specs.RowWalk.HasCut, proofs.FoundEntries.within_some, proofs.HeldLaws.cut_view}
use Rattle.yq_lookup.{proofs.CutRows.row_within, proofs.RowFrontLaws.{front_none, front_some, node_there, opens, read_row}}
use Rattle.yq_lookup.proofs.cut_text.CutText.row_front.Goals as goal

pub row-row-requires : goal.row-row-requires
row-row-requires c =
    let h : HasCut c.args.self.now c.self.inside.rows.now = subst (λ (x : List ℕ). HasCut x c.self.inside.rows.now) c.self.view_is c.self.invariant.0 in
    row_within c.args.self.now c.self.inside.rows.now c.args.i h.rows c.requires

pub head_place-start-requires-clause-within : goal.head_place-start-requires-clause-within
head_place-start-requires-clause-within c =
    let h : HasCut c.args.self.now c.self.inside.rows.now = subst (λ (x : List ℕ). HasCut x c.self.inside.rows.now) c.self.view_is c.self.invariant.0 in
    row_within c.args.self.now c.self.inside.rows.now c.args.i h.rows c.requires

pub head_place-start-requires-clause-rows_view : goal.head_place-start-requires-clause-rows_view
head_place-start-requires-clause-rows_view c = cut_view (whole c.self.inside.text) c.self.inside.rows.now c.self.invariant.0

pub from_head-text-requires : goal.from_head-text-requires
from_head-text-requires c =
    let h : HasCut c.args.self.now c.self.inside.rows.now = subst (λ (x : List ℕ). HasCut x c.self.inside.rows.now) c.self.view_is c.self.invariant.0 in
    row_within c.args.self.now c.self.inside.rows.now c.args.i h.rows c.requires

pub returns-then-not-opens_collection : goal.returns-then-not-opens_collection
returns-then-not-opens_collection c = λ r is.
    let t : List ℕ = c.args.self.now in
    let h : HasCut t c.self.inside.rows.now = subst (λ (x : List ℕ). HasCut x c.self.inside.rows.now) c.self.view_is c.self.invariant.0 in
    let at = ap (λ (x : ℕ × ℕ). x.0) (c.head_place-start.ensures (cut_of t) h.rows r is) in
    let row = read_row t c.self.inside.rows.now c.args.i r (row_view c.row-row.result) c.from_head-text.result.now c.head_place-start.result.0 (subst IsUtf8 c.self.view_is c.is_text.ensures) h is c.row-row.ensures
    (c.from_head-text.ensures (row_view c.row-row.result) c.row-row.ensures) at in
    front_none t c.args.i r (row_view c.row-row.result) c.from_head-text.result.now c.head_place-start.result.0 row
    (sym (c.opens_collection.ensures ∙ ap opens (c.as_bytes.ensures.value ∙ c.head.ensures)) ∙ c.if-not-opens_collection.true)

pub invariant_of-front : goal.invariant_of-front
invariant_of-front c =
    let t : List ℕ = c.args.self.now in
    let h : HasCut t c.self.inside.rows.now = subst (λ (x : List ℕ). HasCut x c.self.inside.rows.now) c.self.view_is c.self.invariant.0 in
    let r = within_some (rows_of (cut_of t)) c.args.i c.requires in
    let at = ap (λ (x : ℕ × ℕ). x.0) (c.head_place-start.ensures (cut_of t) h.rows r.0 r.1) in
    let row = read_row t c.self.inside.rows.now c.args.i r.0 (row_view c.row-row.result) c.from_head-text.result.now c.head_place-start.result.0 (subst IsUtf8 c.self.view_is c.is_text.ensures) h r.1 c.row-row.ensures
    (c.from_head-text.ensures (row_view c.row-row.result) c.row-row.ensures) at in
    let f : SFits w64 c.row-row.result.parent = search rules in
    record {
      node = node_there t c.args.i r.0 (row_view c.row-row.result) c.from_head-text.result.now c.head_place-start.result.0 row
          (sym (c.opens_collection.ensures ∙ ap opens (c.as_bytes.ensures.value ∙ c.head.ensures)) ∙ c.if-not-opens_collection.false)
          c.further_spaces.result (rw (c.parent_indent.ensures, to_z-of_z w64 c.row-row.result.parent f) at c.further_spaces.ensures);
    }

pub returns : goal.returns
returns c = λ r is.
    let t : List ℕ = c.args.self.now in
    let h : HasCut t c.self.inside.rows.now = subst (λ (x : List ℕ). HasCut x c.self.inside.rows.now) c.self.view_is c.self.invariant.0 in
    let at = ap (λ (x : ℕ × ℕ). x.0) (c.head_place-start.ensures (cut_of t) h.rows r is) in
    let row = read_row t c.self.inside.rows.now c.args.i r (row_view c.row-row.result) c.from_head-text.result.now c.head_place-start.result.0 (subst IsUtf8 c.self.view_is c.is_text.ensures) h is c.row-row.ensures
    (c.from_head-text.ensures (row_view c.row-row.result) c.row-row.ensures) at in
    let f : SFits w64 c.row-row.result.parent = search rules in
    front_some t c.args.i r (row_view c.row-row.result) c.from_head-text.result.now c.head_place-start.result.0 row
    (sym (c.opens_collection.ensures ∙ ap opens (c.as_bytes.ensures.value ∙ c.head.ensures)) ∙ c.if-not-opens_collection.false)
    _ refl (rw (c.parent_indent.ensures, to_z-of_z w64 c.row-row.result.parent f) at c.further_spaces.ensures) refl refl
