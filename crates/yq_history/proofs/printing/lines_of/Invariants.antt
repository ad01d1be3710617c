use Rattle.std.{proofs.Common.{◌≡◌, map, take}, specs.String.string_bytes}
use Rattle.yq_journal.specs.Record.{Record}
use Rattle.yq_history.specs.Listing.{listing_after}
use Rattle.yq_history.proofs.printing.lines_of.Given as goal

abbrev pub invariant-records : goal.invariant-records
invariant-records l = string_bytes l.lines ≡ listing_after 0 l.state.at (map (λ (r : Record). r.expr) (take l.i l.state.records))
