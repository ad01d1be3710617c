-- What comes of a text as an expression: its program, or why it has none (own).
use Rattle.yq_semantics.{specs.Program.Program, specs.declared.parse_fault.ParseFault.ParseFault}
use Rattle.yq_failure.specs.declared.failure.Failure.{Failure}
use Rattle.yq_semantics.specs.declared.parse_fault.ParseFault.TheVariants as fault

-- why a text is not a program
abbrev pub ParseError : Type 0
ParseError = Failure ParseFault

-- What comes of a text: a program, or why it is none.
pub data Outcome : Type 0 where
  parsed : Program → Outcome
  ill_formed : Outcome
  not_in_profile : Outcome
  with_pattern : Outcome

-- the refusal that a fault reports, wherever it is in the text
abbrev pub refusal : ParseFault → Outcome
refusal (fault.Syntax left expected) = ill_formed
refusal (fault.NotInProfile left) = not_in_profile
refusal (fault.Pattern left) = with_pattern
