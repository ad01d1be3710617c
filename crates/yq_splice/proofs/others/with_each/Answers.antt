use Rattle.std.proofs.Common.{◌∙◌, List, ℕ, ap, sym, subst, string_bytes}
use Rattle.yq_documents.specs.Reading.{cut_of}
use Rattle.yq_row_table.{specs.Kept.IsPlaced, specs.View.rows_view}
use Rattle.yq_semantics.specs.Operations.{operations_of}
use Rattle.yq_edit_laws.{specs.Answers.Edits, specs.Carried.carry_all, specs.Edit.edit_after, specs.Theorems.HasReading}
use Rattle.yq_edit_laws.specs.Valid.{AreServed}
use Rattle.yq_splice.proofs.SessionLaws.{reading_cut}
use Rattle.yq_splice.proofs.others.with_each.Goals as goal

pub cut_again-requires : goal.cut_again-requires
cut_again-requires c = subst HasReading (sym c.as_str.ensures.value) (c.requires.0, c.requires.1.read)

pub of-requires : goal.of-requires
of-requires c =
    let t : List ℕ = string_bytes c.args.together.edited.text in
    record {
      cut = cut_of t;
      read = reading_cut t (c.requires.0, c.requires.1.read);
      placed = subst (IsPlaced c.into_places-places.result) (c.in_ok-rows.ensures ∙ ap (λ (u : List ℕ). rows_view (cut_of u)) c.as_str.ensures.value) c.into_places-places.ensures;
    }

pub carry_all-requires : goal.carry_all-requires
carry_all-requires c = subst (AreServed (operations_of c.args.together.left.now)) (sym c.of.ensures) c.requires

pub returns : goal.returns
returns c =
    let x = c.args.together in
    subst (λ (t : List ℕ). Edits c.carry_all.result (edit_after x.edited.splices.items (carry_all (operations_of x.left.now) t))) c.of.ensures c.carry_all.ensures
