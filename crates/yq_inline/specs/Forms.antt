-- What the code reads of a node in steps of its own (own; you may skip it).
use Rattle.std.specs.Prelude.{ℕ, List, Option, Some, None, Bool, if◌then◌else◌}
use Rattle.yq_core.{specs.Answers.◌>>=◌, specs.Places.{Placed, CoreNode, bare_placed}, specs.PlacedReading.{core_between, past_sep}}
use Rattle.yq_core.specs.Reading.{read_core, one_level_less, read_gap, kids_of}

-- what a node without an anchor in front is, and what follows it (own)
abbrev pub placed_form : Bool → Option ℕ → ℕ → ℕ → List ℕ → Option (CoreNode × List ℕ)
placed_form flow spaces total d t = read_core flow spaces (kids_of d) t >>= λ x. Some (core_between total t x.0 x.1, x.1)

-- what follows an opening bracket and the gap after it, where one more collection may be nested (own)
abbrev pub after_bracket : ℕ → List ℕ → Option (List ℕ)
after_bracket d t = one_level_less d (λ e. read_gap t >>= λ gap. Some gap.1)

-- what follows an item of a sequence and what comes after it (own)
abbrev pub after_item : Placed → List ℕ → Option (List ℕ)
after_item item t = if bare_placed item then None else past_sep 93 t
