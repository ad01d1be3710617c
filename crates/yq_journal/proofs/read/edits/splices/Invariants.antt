use Rattle.std.proofs.Common.{◌≡◌, ◌++◌, drop, option_map}
use Rattle.serde_json.specs.View.{view, items_view}
use Rattle.yq_journal.specs.Json.{each_of, splice_of, splices_of}
use Rattle.yq_journal.proofs.read.edits.splices.Given as goal

abbrev pub invariant-values : goal.invariant-values
invariant-values l = option_map (λ ys. l.found.items ++ ys) (each_of splice_of (items_view (drop l.entry-index l.entry-items))) ≡ splices_of (view l.fn.value)
