use Rattle.std.{proofs.Common.{◌≡◌, rules, List, ℕ, true, sym, ◌∙◌, subst, SFits, w64}, proofs.lemmas.Int.to_z-of_z}
use Rattle.std.proofs.lemmas.Option.{same_Some}
use Rattle.yq_core.{specs.Scalars.is_quoted, specs.Quoted.IsQuotedText}
use Rattle.yq_row_table.specs.View.{row_view}
use Rattle.yq_documents.{proofs.RowFlowLaws.flow_again, proofs.RowLineLaws.{quoted_again, head_again}}
use Rattle.yq_row_heads.proofs.HeadCases.{no_fault}
use Rattle.yq_row_heads.proofs.head.row_head.Goals as goal

pub read_head-requires-clause-quoted : goal.read_head-requires-clause-quoted
read_head-requires-clause-quoted c =
    subst (λ (x : List ℕ). is_quoted x ≡ true → IsQuotedText x) (sym c.head.ensures) (quoted_again (row_view c.args.row.now) c.args.text.now c.requires.row)

pub returns-in-Ok-clause-view : goal.returns-in-Ok-clause-view
returns-in-Ok-clause-view c = λ h.
    let f : SFits w64 c.args.row.now.parent = search rules in
    same_Some _ _ (sym (rw (c.parent_indent.ensures, to_z-of_z w64 c.args.row.now.parent f, c.head.ensures) at c.in-Ok.ensures.view) ∙ head_again c.args.whole.now (row_view c.args.row.now) c.args.text.now h c.requires.ends)

pub returns-in-Ok-clause-flow : goal.returns-in-Ok-clause-flow
returns-in-Ok-clause-flow c = λ h.
    let f : SFits w64 c.args.row.now.parent = search rules in
    (rw (c.parent_indent.ensures, to_z-of_z w64 c.args.row.now.parent f, c.head.ensures) at c.in-Ok.ensures.flow) ∙ flow_again c.args.whole.now (row_view c.args.row.now) c.args.text.now h c.requires.ends

pub unreachable-requires : goal.unreachable-requires
unreachable-requires c =
    let f : SFits w64 c.args.row.now.parent = search rules in
    let fails = rw (c.parent_indent.ensures, to_z-of_z w64 c.args.row.now.parent f, c.head.ensures) at c.in-Err-Fault.ensures.view in
    no_fault _ _ _ _ c.in-Err-Fault.field-0-is fails (head_again c.args.whole.now (row_view c.args.row.now) c.args.text.now c.requires.row c.requires.ends)
