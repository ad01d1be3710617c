use Rattle.std.{proofs.Common.{◌≡◌, ◌∙◌, [], ◌∷◌, map, refl, sym, ap, subst, arith}, specs.Prelude.{Some, option_map, string_bytes}}
use Rattle.yq_core.{specs.Entries.tree_step, specs.Values.value_node}
use Rattle.yq_documents.{specs.Located.steps_of, specs.Reading.cut_of}
use Rattle.yq_semantics.specs.Operations.{append, operation_of}
use Rattle.yq_edit_rules.{specs.EntryEdits.more_lines, specs.Layouts.layout_of, specs.Operands.HasOperand}
use Rattle.yq_batch.proofs.row_ends.added_at_end.Goals as goal

pub returns : goal.returns
returns c m z at =
    let w = c.in-Append in
    let doc : w.path.doc ≡ m = omega (arith, c.if-path-end.false, at.document) in
    let steps : steps_of w.path ≡ z.steps =
    ap (map tree_step) (sym c.deref.ensures.value) ∙ (c.are_same_steps.ensures c.if-not-are_same_steps.false ∙ (ap (map tree_step) c.deref-2.ensures.value ∙ at.steps)) in
    let own : operation_of c.args.op.now ≡ append m z.steps (Some (string_bytes c.in-Some.key)) (value_node w.value) =
    ap operation_of w.is ∙ (λ i. append (doc i) (steps i) (option_map string_bytes (c.in-Some.is i)) (value_node w.value)) in (
      refl,
      record {
        end = z;
        known = refl;
        key = string_bytes c.in-Some.key;
        value = value_node w.value;
        operation = own;
        valid = subst HasOperand own c.requires;
        plain = sym c.is_filled.ensures ∙ c.if-is_filled.false;
        start = at.at;
        finish = at.at;
        more = refl;
        written = c.in_ok-written.written;
        written_is = refl;
        lines = c.in_ok-written.ensures ∙ (λ i. more_lines (layout_of (doc i) (cut_of c.args.cut.now)) (Some (c.deref-3.ensures i)) (value_node w.value) (at.column i) (10 ∷ []));
      },
    )
