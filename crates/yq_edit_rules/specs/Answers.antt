-- What is answered of the segments that an operation exchanges (own).
use Rattle.std.specs.Prelude.{◌≡◌, List, Option, Result, IfOk}
use Rattle.yq_text.specs.Script.{Segment}

-- the answer is these segments, or that there are none, unless memory ran out (own)
abbrev pub GivesSegments : {E : Type 0} → Result (Option (List Segment)) E → Option (List Segment) → Type 0
GivesSegments result exchanged = IfOk result (λ ss. exchanged ≡ ss)
