-- Faults of words as faults of a command (own).
use Rattle.std.specs.Prelude.{◌≡◌, List}
use Rattle.clap.specs.Words.{Text}
use Rattle.yq_args.specs.Asked.{WordsError, WordsRefused, full_words}
use Rattle.yq_fault.{specs.declared.fault.Fault.Fault, specs.declared.fault.Fault.TheVariants.{Usage, OutOfMemory}}
use Rattle.yq_failure.specs.declared.failure.Failure.TheVariants as words

-- why words are no command
abbrev pub of_words : WordsError → Fault
of_words (words.Fault cause) = Usage cause
of_words words.Memory = OutOfMemory

-- the fault says why these words are no command
abbrev pub RefusesWords : List Text → Fault → Type 0
RefusesWords words fault = (e : WordsError) × (fault ≡ of_words e) × WordsRefused (full_words words) e
