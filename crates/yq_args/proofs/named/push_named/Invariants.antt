use Rattle.std.proofs.Common.{◌≡◌, ◌++◌, string_bytes, length}
use denote.Text.{Utf8}
use denote.Shadow.{shadow}
use Rattle.yq_args.specs.Named.{named}
use Rattle.yq_args.proofs.named.push_named.Given as goal

abbrev pub invariant-marks : goal.invariant-marks
invariant-marks l = shadow (Utf8 l.rest) × (string_bytes l.text ++ named l.name l.rest ≡ string_bytes l.fn.text ++ named l.name l.added)

abbrev pub decreases-marks : goal.decreases-marks
decreases-marks l = length l.rest
