use denote.Shadow.{shadow}
use denote.Text.{Utf8}
use Rattle.yq_scalar_reader.proofs.SameContentLaws.{OnlyLeft}
use Rattle.yq_scalar_reader.proofs.same_content.strip_breaks.Given as goal

abbrev pub decreases-each : goal.decreases-each
decreases-each l = l.left

abbrev pub invariant-each : goal.invariant-each
invariant-each l = record { utf8 : shadow (Utf8 l.rest); so_far : OnlyLeft l.count l.text l.left l.rest }
