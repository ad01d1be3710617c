use Rattle.std.{proofs.Common.{◌≡◌, ◌++◌, [], length}, specs.String.string_bytes}
use denote.Shadow.{shadow}
use denote.Text.{Utf8}
use Rattle.yq_core.specs.ContentReading as spec
use Rattle.yq_scalar_reader.proofs.folding.fold.Given as goal

abbrev pub decreases-each : goal.decreases-each
decreases-each l = length l.rest

abbrev pub invariant-each : goal.invariant-each
invariant-each l = record { text : shadow (Utf8 l.rest); so_far : string_bytes l.out ++ spec.content_on l.quote 0 (spec.before_of l.joined) [] l.rest ≡ spec.quoted_text l.quote l.text }
