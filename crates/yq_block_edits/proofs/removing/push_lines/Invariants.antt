use Rattle.std.{proofs.Common.{◌≡◌, ◌++◌, length}, specs.Str.IsUtf8}
use Rattle.yq_core.specs.Text.{text_lines}
use Rattle.yq_places.specs.RemovalReading.{seam_view}
use Rattle.yq_edit_rules.specs.Removing.{lines_mended}
use Rattle.yq_block_edits.proofs.removing.push_lines.Given as goal

-- what is added and what the lines that are left come to is what all come to
abbrev pub invariant-lines : goal.invariant-lines
invariant-lines l = record {
  rest_text : IsUtf8 l.rest;
  so_far : l.segments ++ lines_mended (seam_view l.seam) (text_lines l.rest) ≡ l.initial.segments ++ lines_mended (seam_view l.seam) (text_lines l.gap);
}

abbrev pub decreases-lines : goal.decreases-lines
decreases-lines l = length l.rest
