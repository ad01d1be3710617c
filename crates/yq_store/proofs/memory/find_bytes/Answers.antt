use Rattle.std.{proofs.Common.{arith, ◌∙◌, sym, ap}, specs.FinMap.{find, get-from_entries}, specs.Ordering.nat_cmp}
use Rattle.std.{specs.Cmp.Lexicographic.{slice_cmp, nat_list_cmp_total}, proofs.lemmas.Grind.common_steps}
use Rattle.yq_store.{specs.FileMap.log_entries, proofs.Found.{found_first, found_later}}
use Rattle.yq_store.proofs.memory.find_bytes.Goals as goal

pub entries-init : goal.entries-init
entries-init c = get-from_entries nat_list_cmp_total _ _ ∙ ap (λ es. find (slice_cmp nat_cmp) c.args.name.now (log_entries es)) (sym c.into_iter-k-iterator.ensures.into_iter_gives.0)

pub returns-then-eq : goal.returns-then-eq
returns-then-eq c = grind (arith, common_steps, found_first)

pub entries-preserved : goal.entries-preserved
entries-preserved c = grind (arith, common_steps, found_later)
