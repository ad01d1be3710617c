use Rattle.std.{proofs.Common.{Some, append-nil, sym, ap, ◌++◌, ◌∙◌}, specs.Prelude.option_map}
use Rattle.yq_core.proofs.BorrowedNames.{front_names}
use Rattle.yq_compose.{specs.Flows.flow_view, specs.Named.{all_named, flow_names}}
use Rattle.yq_compose.proofs.document_names.push_flow.Goals as goal

pub returns-in-Borrowed : goal.returns-in-Borrowed
returns-in-Borrowed c =
    let b = c.in-Borrowed.field-0 in
    let none = ap (λ o. flow_names (option_map flow_view o)) (c.in-Some.is ∙ ap Some c.in-Borrowed.is) ∙ front_names b.total b.depth b.text.now b.borrowed in
    sym (ap (λ ns. all_named c.args.names.now.items ++ ns) none ∙ append-nil (all_named c.args.names.now.items))
