use Rattle.std.proofs.Common.{◌≡◌, ◌++◌, drop, option_map}
use Rattle.serde_json.specs.View.{view, items_view}
use Rattle.yq_journal.specs.Json.{each_of, record_of, records_of}
use Rattle.yq_journal.proofs.read.edits.records.Given as goal

abbrev pub invariant-values : goal.invariant-values
invariant-values l = option_map (λ ys. l.found.items ++ ys) (each_of (record_of l.counted) (items_view (drop l.entry-index l.entry-items))) ≡ records_of l.counted (view l.fn.value)
