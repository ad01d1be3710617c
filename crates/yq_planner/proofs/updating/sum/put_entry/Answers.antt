use Rattle.std.proofs.Common.{◌≡◌, ℕ, List, Some, String, length, map, string_bytes, sym, ap, ◌∙◌, rules}
use Rattle.std.{proofs.lemmas.List.{length-map, map-set, map_push}, specs.declared.alloc.Global.Global}
use Rattle.yq_core.{specs.Values.{entries, field_of, value_node}, specs.declared.value.Value.Value, specs.Tree.Node}
use Rattle.yq_planner.specs.EntryNumbers.{entry_number}
use Rattle.yq_planner.proofs.SumLaws.{map_get, number_same, numbered_push, number_within, with_absent, with_present}
use Rattle.yq_planner.proofs.updating.sum.put_entry.Goals as goal

abbrev Entry : Type 0
Entry = String Global × Value

pub index_mut-requires : goal.index_mut-requires
index_mut-requires c = search (rules, number_within, length-map)

pub returns-in-Some-clause-entries : goal.returns-in-Some-clause-entries
returns-in-Some-clause-entries c =
    let k : List ℕ = string_bytes c.args.key in
    let es : List Entry = c.args.entries.now.items in
    let r : Entry = c.index_mut.result.now in
    let same : entry_number k (map field_of es) ≡ Some c.in-Some.number =
    ap (λ (j : List ℕ). entry_number j (map field_of es)) (sym c.as_str.ensures.value) ∙ (sym (c.requires c.as_str.result.now) ∙ (sym c.number_of.ensures ∙ c.in-Some.is)) in
    ap (λ (xs : List (List ℕ × Node)). entries xs) (map-set field_of es c.in-Some.number (r.0, c.args.value))
    ∙ sym (with_present k (map field_of es) c.in-Some.number (string_bytes r.0) (value_node c.args.value) (field_of r) same
    (ap (λ (x : List ℕ × Node). x.0) (map_get field_of es c.in-Some.number r) ∙ ap (λ (x : Entry). string_bytes x.0) (sym c.index_mut.ensures.value)))

pub returns-in-Some-clause-numbers : goal.returns-in-Some-clause-numbers
returns-in-Some-clause-numbers c = λ k.
    let j : List ℕ = c.as_str.result.now in
    let es : List Entry = c.args.entries.now.items in
    let r : Entry = c.index_mut.result.now in
    let at : entry_number j (map field_of es) ≡ Some c.in-Some.number = sym (c.requires j) ∙ (sym c.number_of.ensures ∙ c.in-Some.is) in
    c.requires k
    ∙ sym (ap (entry_number k) (map-set field_of es c.in-Some.number (r.0, c.args.value))
    ∙ number_same k (map field_of es) c.in-Some.number (string_bytes r.0) (value_node c.args.value) (field_of r) (number_within j (map field_of es) c.in-Some.number at)
    (ap (λ (x : List ℕ × Node). x.0) (map_get field_of es c.in-Some.number r) ∙ ap (λ (x : Entry). string_bytes x.0) (sym c.index_mut.ensures.value)))

pub returns-in_ok-push-in-None-clause-entries : goal.returns-in_ok-push-in-None-clause-entries
returns-in_ok-push-in-None-clause-entries c = search (rules, string_bytes, map_push, with_absent)

pub returns-in_ok-push-in-None-clause-numbers : goal.returns-in_ok-push-in-None-clause-numbers
returns-in_ok-push-in-None-clause-numbers c = λ k.
    numbered_push field_of c.args.entries.now.items _ (c.args.key, c.args.value) c.as_str-in-None.result.now k (length c.as_slice.result.now) _ _
    c.as_str-in-None.ensures.value (ap length c.as_slice.ensures.value) (c.requires k) (c.in_ok-keep_number-in-None.ensures k)
    c.in_ok-push-in-None.ensures.items
