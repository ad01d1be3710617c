-- Where clap takes the words, it finds the texts that a command needs.
use Rattle.std.proofs.Common.{rules, ◌≡◌, ◌∙◌, ◌&&◌, ◌||◌, inl, inr, not, Bool, true, false, List, [], ◌∷◌, codes, Option, Some, None}
use Rattle.std.proofs.Common.{Result, IfErr, is_some, find, option_and_then, if◌then◌else◌, refl, sym, ap, subst}
use Rattle.std.{specs.List.{list_all, list_any}, specs.Option.option_map_or, specs.Str.bytes_eq, proofs.lemmas.Bool.{false≢true, or_cases}}
use Rattle.std.{proofs.lemmas.Result.IfErr-weaker, proofs.lemmas.Slice.Eq.bytes_eq-Decides}
use Rattle.clap.{specs.Simple.{Shape, built, is_simple, label_of, names_of, subcommand_of}, specs.Takes.{is_given, takes}}
use Rattle.clap.specs.Walk.{Row, Rule, Text, answers_to, first_of, nothing_held, rows_after, walk_from, walked}
use Rattle.clap.{proofs.OnLiterals.clap_on_literals, proofs.WalkLemmas.both}
use Rattle.yq_args.specs.CommandWords.{is_command_word}
use Rattle.yq_args.specs.Asked.{checks, count_in, WordsRefused, IsNotTaken, finds, full_words, name_fits, names_fit, words_fit, WordsError}
use Rattle.yq_args.{specs.Line.{yq, four_commands, two_commands}, specs.declared.command.Command.Command}
use Rattle.yq_args.{proofs.ClapLevel.{Passed, stops_at, sub_found, sub_passed}, proofs.ClapRows.{fills, option_text}}

-- an argument that is required was given
required_in : (rules : List Rule) (rows : List Row) (id : Text) → list_all (λ a. not a.required || is_given a.id rows) rules ≡ true → list_any (λ a. a.required && bytes_eq a.id id) rules ≡ true → is_given id rows ≡ true
required_in [] rows id all some = cc
required_in (a ∷ rules) rows id all some = elim (or_cases (a.required && bytes_eq a.id id) _ some) [
  | inl here ↦
      let is = both a.required _ here in
      let given : (not true || is_given a.id rows) ≡ true = sym (ap (λ b. not b || is_given a.id rows) is.0) ∙ (both (not a.required || is_given a.id rows) _ all).0 in
      subst (λ x. is_given x rows ≡ true) ((bytes_eq-Decides a.id id).0 is.1) given
  | inr later ↦ required_in rules rows id (both (not a.required || is_given a.id rows) _ all).1 later
]

required_text : (s : Shape) (words : List Text) (id : Text) → s.subcommand_negates_reqs ≡ false → list_any (λ a. a.required && bytes_eq a.id id) s.rules ≡ true → Passed s words → is_some (first_of id (rows_after s.rules [] words)) ≡ true
required_text s words id none some p =
    let rows = rows_after s.rules [] words in
    let all = sym (ap (λ b. (b && false) || list_all (λ a. not a.required || is_given a.id rows) s.rules) none) ∙ p.given in
    option_text id rows p.filled (required_in s.rules rows id all some)

-- A command's words that clap takes.
record Taken (name : Text) (s : Shape) (rest : List Text) : Type 0 where
  pub passed : Passed s rest
  pub found : subcommand_of yq (codes "yq" ∷ name ∷ rest) ≡ Some (s.name, rows_after s.rules [] rest)

command_taken : (name : Text) (s : Shape) (rest : List Text) → (walked (built yq).top.rules (names_of (built yq)) (walk_from nothing_held) name).stopped ≡ Some (name, []) → find (λ x. answers_to name (label_of x)) (built yq).subs ≡ Some s →
    list_all fills s.rules ≡ true → takes yq (codes "yq" ∷ name ∷ rest) ≡ true → Taken name s rest
unfolding yq four_commands two_commands
command_taken name s rest stop found f taken =
    let at = stops_at (built yq).top.rules (names_of (built yq)) name name rest stop in
    record {
      passed = sub_passed (built yq) (name ∷ rest) rest name s at found f (both (is_simple yq) _ taken).1;
      found = sub_found (built yq) (name ∷ rest) rest name s at found;
    }

-- a refusal whose texts are found comes from a check of the program
kept : (b other : Bool) → (b && true) ≡ false → (b && other) ≡ false
kept b other e = search rules

squash_refused : (rows : List Row) → is_some (first_of (codes "file") rows) ≡ true → is_some (first_of (codes "n") rows) ≡ true →
    (names_fit (first_of (codes "file") rows) (first_of (codes "journal") rows) && is_some (option_and_then count_in (first_of (codes "n") rows))) ≡ false → checks rows ≡ false
squash_refused rows some count e = go (first_of (codes "file") rows) (first_of (codes "n") rows) some count e where
  go : (file n : Option Text) → is_some file ≡ true → is_some n ≡ true → (names_fit file (first_of (codes "journal") rows) && is_some (option_and_then count_in n)) ≡ false →
      (option_map_or (name_fits (first_of (codes "journal") rows)) file true && option_map_or (λ text. is_some (count_in text)) n true) ≡ false
  go None n some count e = cc
  go (Some file) None some count e = cc
  go (Some file) (Some n) some count e = e

-- words that clap takes and that aren't found to pass fail a check of the program
abbrev pub Refused : List Text → Type 0
Refused full = takes yq full ≡ true → finds (subcommand_of yq full) ≡ false → option_map_or (λ found. checks found.1) (subcommand_of yq full) true ≡ false

-- FILE is there, and what a command has besides
file_refused : (name : Text) (s : Shape) (rest : List Text) → Taken name s rest → is_some (first_of (codes "file") (rows_after s.rules [] rest)) ≡ true → words_fit s.name (rows_after s.rules [] rest) ≡ true →
    finds (subcommand_of yq (codes "yq" ∷ name ∷ rest)) ≡ false → option_map_or (λ found. checks found.1) (subcommand_of yq (codes "yq" ∷ name ∷ rest)) true ≡ false
file_refused name s rest t file fit e = search rules

simple_refused : (name : Text) (s : Shape) (rest : List Text) → Taken name s rest → s.subcommand_negates_reqs ≡ false →
    list_any (λ a. a.required && bytes_eq a.id (codes "file")) s.rules ≡ true → ((rows : List Row) → words_fit s.name rows ≡ true) →
    finds (subcommand_of yq (codes "yq" ∷ name ∷ rest)) ≡ false → option_map_or (λ found. checks found.1) (subcommand_of yq (codes "yq" ∷ name ∷ rest)) true ≡ false
simple_refused name s rest t none file fit = file_refused name s rest t (required_text s rest (codes "file") none file t.passed) (fit (rows_after s.rules [] rest))

count_refused : (name : Text) (s : Shape) (rest : List Text) → Taken name s rest → is_some (first_of (codes "file") (rows_after s.rules [] rest)) ≡ true → is_some (first_of (codes "n") (rows_after s.rules [] rest)) ≡ true →
    ((rows : List Row) → words_fit s.name rows ≡ is_some (option_and_then count_in (first_of (codes "n") rows))) →
    finds (subcommand_of yq (codes "yq" ∷ name ∷ rest)) ≡ false →
    option_map_or (λ found. checks found.1) (subcommand_of yq (codes "yq" ∷ name ∷ rest)) true ≡ false
count_refused name s rest t file count fit e = search rules

eval_refused : (rest : List Text) → Refused (codes "yq" ∷ codes "eval" ∷ rest)
unfolding clap_on_literals yq four_commands two_commands
eval_refused rest taken e =
    let t = command_taken (codes "eval") _ rest refl refl refl taken in
    file_refused (codes "eval") _ rest t (required_text _ rest (codes "file") refl refl t.passed) (required_text _ rest (codes "expr") refl refl t.passed) e

undo_refused : (rest : List Text) → Refused (codes "yq" ∷ codes "undo" ∷ rest)
unfolding clap_on_literals yq four_commands two_commands
undo_refused rest taken e = simple_refused (codes "undo") _ rest (command_taken (codes "undo") _ rest refl refl refl taken) refl refl (λ rows. refl) e

redo_refused : (rest : List Text) → Refused (codes "yq" ∷ codes "redo" ∷ rest)
unfolding clap_on_literals yq four_commands two_commands
redo_refused rest taken e = simple_refused (codes "redo") _ rest (command_taken (codes "redo") _ rest refl refl refl taken) refl refl (λ rows. refl) e

history_refused : (rest : List Text) → Refused (codes "yq" ∷ codes "history" ∷ rest)
unfolding clap_on_literals yq four_commands two_commands
history_refused rest taken e = simple_refused (codes "history") _ rest (command_taken (codes "history") _ rest refl refl refl taken) refl refl (λ rows. refl) e

squash_words_refused : (rest : List Text) → Refused (codes "yq" ∷ codes "squash" ∷ rest)
unfolding clap_on_literals yq four_commands two_commands
squash_words_refused rest taken e =
    let t = command_taken (codes "squash") _ rest refl refl refl taken in
    count_refused (codes "squash") _ rest t (required_text _ rest (codes "file") refl refl t.passed) (required_text _ rest (codes "n") refl refl t.passed) (λ rows. refl) e

-- each of these words begins words that are refused
abbrev AreRefused : List Text → List Text → Type 0
AreRefused rest [] = Unit {0}
AreRefused rest (name ∷ names) = Refused (codes "yq" ∷ name ∷ rest) × AreRefused rest names

any_refused : (names : List Text) (word : Text) (rest : List Text) → AreRefused rest names → list_any (λ name. bytes_eq word name) names ≡ true →
    Refused (codes "yq" ∷ word ∷ rest)
any_refused [] word rest h some = absurd (false≢true some)
any_refused (name ∷ names) word rest h some = elim (or_cases (bytes_eq word name) _ some) [
  | inl is ↦ subst (λ w. Refused (codes "yq" ∷ w ∷ rest)) (sym ((bytes_eq-Decides word name).0 is)) h.0
  | inr more ↦ any_refused names word rest h.1 more
]

-- each word that names a command
word_refused : (word : Text) (rest : List Text) → is_command_word word ≡ true → Refused (codes "yq" ∷ word ∷ rest)
word_refused word rest h = search (rules, any_refused, eval_refused, undo_refused, redo_refused, history_refused, squash_words_refused)

words_refused : (words : List Text) → Refused (full_words words)
words_refused [] = eval_refused []
words_refused (word ∷ rest) = by_command (is_command_word word) refl where
  by_e : (b : Bool) → Refused (codes "yq" ∷ (if b then codes "eval" ∷ rest else codes "eval" ∷ word ∷ rest))
  by_e true = eval_refused rest
  by_e false = eval_refused (word ∷ rest)

  by_command : (b : Bool) → b ≡ is_command_word word → Refused (codes "yq" ∷ (if b then word ∷ rest else if bytes_eq word (codes "e") then codes "eval" ∷ rest else codes "eval" ∷ word ∷ rest))
  by_command true h = word_refused word rest (sym h)
  by_command false h = by_e (bytes_eq word (codes "e"))

pub refused_by_checks : (answer : Result Command WordsError) (words : List Text) → IfErr answer (IsNotTaken (full_words words)) → IfErr answer (WordsRefused (full_words words))
refused_by_checks answer words h = IfErr-weaker answer _ _ (λ fault unread. elim unread [
  | inl memory ↦ inl memory
  | inr usage ↦ inr (usage.0, λ taken. words_refused words taken (usage.1 taken))
]) h
