use Rattle.std.{proofs.Common.◌≡◌, specs.Ordering.nat_cmp, specs.Cmp.Lexicographic.slice_cmp, specs.FinMap.{get, find}}
use Rattle.std.specs.VecDeque.Iter.{deque_iter_rest}
use Rattle.yq_store.specs.FileMap.{file_bytes, log_entries}
use Rattle.yq_store.proofs.memory.find_bytes.Given as goal

abbrev pub invariant-entries : goal.invariant-entries
invariant-entries l = get (file_bytes l.log.items) l.name ≡ find (slice_cmp nat_cmp) l.name (log_entries (deque_iter_rest l.k-iterator))
