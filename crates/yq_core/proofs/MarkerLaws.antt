-- Markers in front of a text.
use Rattle.std.proofs.Common.{rules, ◌≡◌, ℕ, ◌≤◌, true, ◌&&◌, List, length, drop}
use Rattle.yq_core.{specs.PlainText.begins_marker, specs.Text.{is_marker, separates}}

pub marker_is : (t : List ℕ) → is_marker t ≡ (begins_marker t && separates (drop 3 t))
marker_is t = search rules

pub marker_long : (t : List ℕ) → begins_marker t ≡ true → 3 ≤ length t
marker_long t h = search rules
