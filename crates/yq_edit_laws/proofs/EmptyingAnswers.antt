-- A sole item or entry is removed by Replace of its collection with an empty one.
use Rattle.std.{proofs.Common.{◌≡◌, rules, ℕ, List, Option, Some, None, option_map, refl, ap, ◌∙◌}, proofs.lemmas.Option.same_Some}
use Rattle.yq_core.{specs.Answers.◌>>=◌, specs.Paths.Step, specs.Tree.Node}
use Rattle.yq_row_table.specs.Rows.{Cut}
use Rattle.yq_places.specs.NodesAt.{NodeAt, node_summary}
use Rattle.yq_edit_rules.specs.Edits.{empty_collection}
use Rattle.yq_edit_laws.specs.Emptying.{Emptied, SoleByEmptying, emptied_summary, emptying, summary_above}

pub sole_by_emptying : SoleByEmptying
sole_by_emptying n c None = refl
sole_by_emptying n c (Some x) = search rules

-- the empty collection, by what is known of the one in which a path ends
emptied_known : (n : Node) → emptied_summary (node_summary n) ≡ empty_collection n
emptied_known n = search rules

known_empty : (o : Option Node) (v : NodeAt) → Some v ≡ option_map node_summary o → emptied_summary v ≡ (o >>= empty_collection)
known_empty None v e = absurd cc
known_empty (Some n) v e = ap emptied_summary (same_Some _ _ e) ∙ emptied_known n

abbrev pub put_at : ℕ → List Step → Node → Emptied
put_at n steps v = record { doc = n; steps = steps; value = v }

pub emptied_above : (n : ℕ) (c : Cut) (o : Option (List Step × Step)) (x : List Step × Step) (v : NodeAt) → Some x ≡ o → Some v ≡ summary_above n c o → emptying n c o ≡ option_map (put_at n x.0) (emptied_summary v)
emptied_above n c o x v last is = search (rules, known_empty, same_Some)
