use Rattle.std.{proofs.Common.{rules, ◌≡◌, ℕ, List, Some, String, map, sym, ap, ◌∙◌, subst}, proofs.lemmas.List.length-map}
use Rattle.std.specs.declared.alloc.Global.{Global}
use Rattle.yq_core.{specs.Tree.Node, specs.Values.{entries, field_of}, specs.declared.value.Value.Value}
use Rattle.yq_semantics.specs.RightValues.{with_entry}
use Rattle.yq_planner.{specs.EntryNumbers.entry_number, proofs.SumLaws.{map_get, number_within, with_held}}
use Rattle.yq_planner.proofs.updating.holding.holds_entry.Goals as goal

abbrev Entry : Type 0
Entry = String Global × Value

pub index-requires : goal.index-requires
index-requires c = search (rules, number_within, length-map)

pub returns-in-Some : goal.returns-in-Some
returns-in-Some c = λ h.
    let k : List ℕ = c.args.key.now in
    let es : List Entry = c.args.entries.now.items in
    let r : Entry = c.index.result.now in
    let same : entry_number k (map field_of es) ≡ Some c.in-Some.number = sym (c.requires k) ∙ (sym c.number_of.ensures ∙ c.in-Some.is) in
    let at = map_get field_of es c.in-Some.number r ∙ ap field_of (sym c.index.ensures) in
    subst (λ (v : Node). with_entry (Some k) v (entries (map field_of es)) ≡ entries (map field_of es))
    (ap (λ (x : List ℕ × Node). x.1) at ∙ c.is_same_value.ensures h) (with_held k (map field_of es) c.in-Some.number (field_of r) same)
