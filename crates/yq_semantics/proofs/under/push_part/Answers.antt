use Rattle.std.{proofs.Common.{rules, ◌≡◌, ◌++◌, ◌∙◌, List, Vec, length, sym, ap, subst, eqb-true}, specs.declared.alloc.Global.Global}
use Rattle.yq_semantics.{specs.Operations.operations_of, specs.Under.{part_ops, PutsOps}, specs.declared.op.Op.Op}
use Rattle.yq_semantics.proofs.UnderLaws.{none_there, ops_after, part_at_root}
use Rattle.yq_semantics.proofs.under.push_part.Goals as goal

pub returns-then-is_empty : goal.returns-then-is_empty
returns-then-is_empty c =
    let root : length c.args.part.front.items ≡ 0 = sym c.args.part.front.ok.0 ∙ eqb-true _ 0 (sym c.is_empty.ensures ∙ c.if-not-is_empty.false) in
    let none = none_there c.args.ops.now.items (sym c.args.ops.now.ok.0 ∙ eqb-true _ 0 (sym c.is_empty-2.ensures ∙ c.if-is_empty.true)) in
    ap (λ (v : Vec Op Global). operations_of v.items) c.swap.ensures.x_after
    ∙ (part_at_root c.args.part root ∙ ap (λ (xs : List Op). operations_of xs ++ part_ops c.args.part) (sym none))

pub returns : goal.returns
returns c =
    let root : length c.args.part.front.items ≡ 0 = sym c.args.part.front.ok.0 ∙ eqb-true _ 0 (sym c.is_empty.ensures ∙ c.if-not-is_empty.false) in
    let own : PutsOps c.append.result c.args.ops.now c.append.new.self (operations_of c.args.part.ops.items) = search (rules, ops_after, c.append.ensures.items) in
    subst (PutsOps c.append.result c.args.ops.now c.append.new.self) (part_at_root c.args.part root) own
