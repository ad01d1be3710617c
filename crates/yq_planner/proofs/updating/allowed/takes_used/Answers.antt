use Rattle.std.{proofs.Common.{sym, ap, ◌∙◌, subst, IfOk, ◌≡◌}, proofs.lemmas.List.nil_from_length, specs.List.list_any}
use Rattle.yq_core.specs.Tree.{children_of}
use Rattle.yq_nodes.specs.Nodes.{node_of}
use Rattle.yq_planner.{specs.ChangeView.{addition_of, change_of}, specs.TakenNames.{overwrites_at, takes_at}}
use Rattle.yq_planner.{specs.declared.updating.change.Change.Change, proofs.IndexLaws.no_aliases, proofs.UsedLaws.none_taken}
use Rattle.yq_semantics.proofs.Lists.{list_any_map}
use Rattle.yq_planner.proofs.updating.allowed.takes_used.Goals as goal

pub returns-then-is_empty : goal.returns-then-is_empty
returns-then-is_empty c = λ names h.
    none_taken names (node_of c.args.node.now) (change_of c.args.change.now) (no_aliases names c.args.aliases.now (nil_from_length _ (c.is_empty.ensures.0 c.if-is_empty.true)) h)

pub returns-in-Adds : goal.returns-in-Adds
returns-in-Adds c = λ names h.
    let cs = children_of (node_of c.args.node.now) in
    let same = ap (list_any (λ a. overwrites_at names cs (addition_of a))) c.deref.ensures.value ∙ (sym (list_any_map (overwrites_at names cs) addition_of c.in-Adds.additions.items)
    ∙ ap (λ (d : Change). takes_at names (node_of c.args.node.now) (change_of d)) (sym c.in-Adds.is)) in
    subst (λ b. IfOk c.some_overwrites_used.result (λ a. a ≡ b)) same (c.some_overwrites_used.ensures names h)
