use Rattle.std.{proofs.Common.{◌≡◌, length}, specs.Str.IsUtf8}
use Rattle.yq_core.specs.Text.{text_lines}
use Rattle.yq_row_table.specs.Removal.{hold_comment}
use Rattle.yq_places.proofs.places.removal_place.holds_comment.Given as goal

abbrev pub invariant-lines : goal.invariant-lines
invariant-lines l = record { rest_text : IsUtf8 l.rest; so_far : hold_comment (text_lines l.gap) ≡ hold_comment (text_lines l.rest) }

abbrev pub decreases-lines : goal.decreases-lines
decreases-lines l = length l.rest
