use Rattle.std.proofs.Common.{◌≡◌, ◌≢◌, None, length}
use Rattle.yq_text.specs.Splice.{all_done, lengths_done}
use Rattle.yq_journal.specs.Turned.{flipped_if}
use Rattle.yq_journal.proofs.piece_table.spliced.Given as goal

abbrev pub invariant-texts : goal.invariant-texts
invariant-texts l = record {
  lie : lengths_done (flipped_if l.back l.others) (length l.reached.items) ≢ None;
  done : all_done (flipped_if l.back l.others) l.reached.items ≡ all_done (flipped_if l.back l.splices) l.fn.text;
}

abbrev pub decreases-texts : goal.decreases-texts
decreases-texts l = length l.others
