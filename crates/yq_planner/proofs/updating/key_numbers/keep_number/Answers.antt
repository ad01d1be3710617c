use Rattle.std.{proofs.Common.{ℕ, List, is_some, string_bytes, sym, ap, ◌∙◌}, proofs.lemmas.Map.Text.btree_map_updates_text}
use Rattle.std.specs.BTreeMap.{get_by_text}
use Rattle.yq_planner.{specs.EntryNumbers.number_kept, proofs.IndexLaws.new_number}
use Rattle.yq_planner.proofs.updating.key_numbers.keep_number.Goals as goal

pub returns-in_ok-insert : goal.returns-in_ok-insert
returns-in_ok-insert c = λ k.
    let m = c.args.numbers.now in
    let a : List ℕ = string_bytes c.in_ok-owned.owned in
    let absent = ap (λ (j : List ℕ). is_some (get_by_text m j)) c.in_ok-owned.ensures.ok ∙ (sym c.contains_key.ensures ∙ c.if-not-contains_key.true) in
    btree_map_updates_text a m c.insert.new.self _ c.in_ok-insert.ensures.updates k
    ∙ (new_number a k (get_by_text m) c.args.number absent
    ∙ ap (λ (j : List ℕ). number_kept k (get_by_text m k) j c.args.number) c.in_ok-owned.ensures.ok)
