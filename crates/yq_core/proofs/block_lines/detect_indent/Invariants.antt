use Rattle.std.proofs.Common.{◌≡◌, length}
use Rattle.yq_core.specs.Text.{text_lines}
use Rattle.yq_core.specs.BlockReading as spec
use Rattle.yq_core.proofs.block_lines.detect_indent.Given as goal

abbrev pub decreases-each : goal.decreases-each
decreases-each l = length l.rest

abbrev pub invariant-each : goal.invariant-each
invariant-each l = spec.detected_at l.least l.most (text_lines l.rest) ≡ spec.detected_at l.least 0 (text_lines l.text)
