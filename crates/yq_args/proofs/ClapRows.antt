-- Rows of clap's matches: each has a value, where each use of an argument passes.
use Rattle.std.proofs.Common.{rules, if◌then◌else◌, ◌≡◌, ◌<◌, ◌||◌, ◌⊎◌, not, ℕ, Bool, true, false, List, [], ◌∷◌, ◌++◌, length, nat_le}
use Rattle.std.proofs.Common.{Some, is_some, slice_get, option_and_then, cond, refl, arith, length-append, find, fold}
use Rattle.std.{specs.Option.option_map_or, specs.Str.bytes_eq}
use Rattle.clap.{specs.Facts.{unwrap_or_range, explicit_source}, specs.Matches.count_text, specs.Takes.{use_passes, is_given}}
use Rattle.clap.specs.Values.{is_request}
use Rattle.clap.specs.Walk.{Row, Rule, Text, action_of, at_row, counted, default_rows, first_of, has_row, is_empty, more_values, new_count}
use Rattle.clap.specs.Walk.{reading_by, used, used_as, values_or_missing, with_count, with_default, with_values, without}
use Rattle.clap.{specs.declared.builder.action.ArgAction.ArgAction, specs.declared.builder.value_parser.Reading.Reading}
use Rattle.clap.{specs.declared.parser.matches.ValueSource.ValueSource, specs.declared.parser.matches.ValueSource.TheVariants.CommandLine}
use Rattle.clap.proofs.WalkLemmas.{both}

-- each row has a value
abbrev pub AreFilled : List Row → Type 0
AreFilled [] = Unit {0}
AreFilled (r ∷ rows) = (0 < length r.values) × AreFilled rows

joined_filled : (rows more : List Row) → AreFilled rows → AreFilled more → AreFilled (rows ++ more)
joined_filled [] more h k = k
joined_filled (r ∷ rows) more h k = (h.0, joined_filled rows more h.1 k)

pub chosen_filled : (b : Bool) (rows other : List Row) → AreFilled rows → AreFilled other → AreFilled (if b then rows else other)
chosen_filled b rows other h k = search rules

row_filled : (id : Text) (change : Row → List Row) (missing rows : List Row) → ((r : Row) → 0 < length r.values → AreFilled (change r)) → AreFilled missing → AreFilled rows → AreFilled (at_row id change missing rows)
row_filled id change missing [] changes new h = new
row_filled id change missing (r ∷ rows) changes new h =
    chosen_filled (bytes_eq r.id id) (change r ++ rows) (r ∷ at_row id change missing rows)
    (joined_filled (change r) rows (changes r h.0) h.1)
    (h.0, row_filled id change missing rows changes new h.1)

values_filled : (id : Text) (how : Reading) (s : ValueSource) (values : List Text) (rows : List Row) → 0 < length values → AreFilled rows → AreFilled (with_values id how s values rows)
values_filled id how s values rows some h = row_filled id (more_values s values) _ rows (λ r n. (omega (arith, n, length-append r.values values), tt)) (some, tt) h

count_filled : (id : Text) (how : Reading) (s : ValueSource) (n : ℕ) (rows : List Row) → AreFilled rows → AreFilled (with_count id how s n rows)
count_filled id how s n rows h = row_filled id (new_count s n) _ rows (λ r m. (omega (arith, m, length-append r.values (count_text n ∷ [])), tt)) (omega arith, tt) h

without_filled : (id : Text) (rows : List Row) → AreFilled rows → AreFilled (without id rows)
without_filled id rows h = row_filled id (λ _. []) [] rows (λ r n. tt) tt h

-- a use of the argument with as many values as it asks for leaves a row with a value, or none
abbrev pub fills : Rule → Bool
fills a = nat_le 1 (unwrap_or_range a.range).start_inclusive || (not (is_empty a.missing) || is_request (action_of a))

enough : (a : Rule) (values : List Text) → fills a ≡ true → nat_le (unwrap_or_range a.range).start_inclusive (length values) ≡ true → (is_request (action_of a) ≡ true) ⊎ (0 < length (values_or_missing a values))
enough a values f e = search rules

counted_filled : (id : Text) (how : Reading) (values : List Text) (rows : List Row) → AreFilled rows → AreFilled (counted id how values rows)
counted_filled id how values rows h = search (rules, count_filled, without_filled, values_filled)

set_filled : (id : Text) (how : Reading) (values : List Text) (rows : List Row) → 0 < length values → AreFilled rows → AreFilled (with_values id how CommandLine values (without id rows))
set_filled id how values rows some h = values_filled id how CommandLine values (without id rows) some (without_filled id rows h)

action_filled : (x : ArgAction) (id : Text) (how : Reading) (values : List Text) (rows : List Row) → (is_request x ≡ true) ⊎ (0 < length values) → AreFilled rows → AreFilled (used_as x id how values rows)
action_filled x id how values rows some h = search (rules, values_filled, counted_filled, set_filled)

pub used_filled : (again : Bool) (a : Rule) (values : List Text) (rows : List Row) → fills a ≡ true → use_passes again a values rows ≡ true → AreFilled rows → AreFilled (used a values rows)
used_filled again a values rows f passes h = search (rules, action_filled, enough, both)

-- defaults
default_filled : (id : Text) (how : Reading) (values : List Text) (rows : List Row) → AreFilled rows → AreFilled (default_rows id how values rows)
default_filled id how values rows h = search (rules, values_filled)

pub defaults_filled : (rules : List Rule) (rows : List Row) → AreFilled rows → AreFilled (fold with_default rows rules)
defaults_filled [] rows h = h
defaults_filled (a ∷ rules) rows h =
    defaults_filled rules (with_default rows a) (chosen_filled (has_row a.id rows) rows _ h (default_filled a.id (reading_by a) a.defaults rows h))

-- an argument that was given has a text
first_value : (xs : List Text) → 0 < length xs → is_some (slice_get xs 0) ≡ true
first_value [] h = absurd (omega arith)
first_value (x ∷ xs) h = refl

pub option_text : (id : Text) (rows : List Row) → AreFilled rows → is_given id rows ≡ true → is_some (first_of id rows) ≡ true
option_text id [] h given = cc
option_text id (r ∷ rows) h given = here (bytes_eq r.id id) given (option_text id rows h.1) where
  here : (b : Bool) → option_map_or (λ (x : Row). explicit_source x.source) (cond b (Some r) (find (λ x. bytes_eq x.id id) rows)) false ≡ true → (is_given id rows ≡ true → is_some (first_of id rows) ≡ true) →
      is_some (option_and_then (λ (x : Row). slice_get x.values 0) (cond b (Some r) (find (λ x. bytes_eq x.id id) rows))) ≡ true
  here true given later = first_value r.values h.0
  here false given later = later given
