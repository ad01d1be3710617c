use Rattle.std.{proofs.Common.{◌≡◌, [], length}, specs.Str.bytes_eq}
use denote.Shadow.{shadow}
use denote.Text.{Utf8}
use Rattle.yq_core.specs.ContentReading as spec
use Rattle.yq_scalar_reader.proofs.same_content.folds_to.Given as goal

abbrev pub decreases-each : goal.decreases-each
decreases-each l = length l.rest

abbrev pub invariant-each : goal.invariant-each
invariant-each l = record { text : shadow (Utf8 l.rest); wanted : shadow (Utf8 l.wanted); so_far : bytes_eq (spec.content_on l.quote 0 (spec.before_of l.joined) [] l.rest) l.wanted ≡ bytes_eq (spec.quoted_text l.quote l.text) l.content }
