-- Words at which no step of clap's reading fails are words that clap takes.
use Rattle.std.proofs.Common.{rules, ◌≡◌, ◌∙◌, ◌&&◌, ◌||◌, not, subst, Result, Ok, Err, IfOk, ℕ, zero, suc, Bool, true, false, cond, List}
use Rattle.std.proofs.Common.{[], ◌∷◌, length, drop, Option, Some, None, is_some, if◌then◌else◌, refl, ap, find, encode_utf8, slice_get}
use Rattle.std.{proofs.lemmas.Bool.{and_from, and_parts}, specs.List.{list_all, list_any}, specs.Option.option_map_or}
use Rattle.std.specs.Str.{bytes_eq, chars}
use Rattle.clap.{specs.Lexer.{long_of, short_of}, specs.Facts.{explicit_source, parser_of_value}}
use Rattle.clap.specs.Kinds.{FailsBy, Kinds, or_else, value_kinds}
use Rattle.clap.specs.Simple.{App, HasMatchesOf, Shape, argument_words, built, entered, label_of, names_of, subcommand_of}
use Rattle.clap.{specs.Simple.subcommand_rows_of, specs.Faults.{fault_of, is_simple_and_free}, specs.Takes.takes, specs.ValueTests.accepts}
use Rattle.clap.specs.Walk.{Held, Names, Row, Rule, Step, value, Text, Waiting, Walk, answers_to, arg_by_id, arg_by_index, arg_by_long}
use Rattle.clap.specs.Walk.{arg_by_short, attached_value, is_pending, nothing_held, reacted, subcommand_met, takes_several, takes_values}
use Rattle.clap.{specs.Walk.{walk, walked, word_met}, specs.declared.builder.action.ArgAction.ArgAction, specs.declared.error.Error.Error}
use Rattle.clap.{specs.declared.parser.matches.ArgMatches.ArgMatches, specs.declared.error.kind.ErrorKind.ErrorKind}
use Rattle.clap.{proofs.OnLiterals.clap_on_literals, proofs.WalkLemmas.both}
use Rattle.yq_args.specs.Line.{yq, four_commands, two_commands}
use Rattle.clap.specs.Faults as fault
use Rattle.clap.specs.Takes as pass

-- neither of two steps fails
neither : (a b : Kinds) → or_else a b ≡ [] → (a ≡ []) × (b ≡ [])
neither a b e = search rules

-- a test that fails by a kind
unless : (b : Bool) (k : ErrorKind) (ks : Kinds) → (if b then [] else k ∷ ks) ≡ [] → b ≡ true
unless b k ks e = search rules

-- ---- one use of an argument

value_passes : (a : Rule) (v : Text) → value_kinds a.ignore_case (parser_of_value a.parser) v ≡ [] → pass.value_passes a v ≡ true
value_passes a v e = unless (accepts a.ignore_case (parser_of_value a.parser) v) _ _ e

values_pass : (a : Rule) (vs : List Text) → fault.values_fault a vs ≡ [] → pass.values_pass a vs ≡ true
values_pass a [] e = refl
values_pass a (v ∷ vs) e =
    let p = neither (value_kinds a.ignore_case (parser_of_value a.parser) v) _ e in
    and_from _ _ (value_passes a v p.0) (values_pass a vs p.1)

count_passes : (a : Rule) (vs : List Text) (rows : List Row) → fault.count_fault a vs rows ≡ [] → pass.count_passes a vs rows ≡ true
count_passes a vs rows e = search (rules, value_passes, values_pass)

repeat_passes : (b again : Bool) (k : ErrorKind) → (if b && not again then k ∷ [] else []) ≡ [] → (not b || again) ≡ true
repeat_passes b again k e = search rules

set_passes : (again : Bool) (a : Rule) (values : List Text) (rows : List Row) → fault.set_fault again a values rows ≡ [] → pass.set_passes again a values rows ≡ true
set_passes again a values rows e = search (rules, neither, and_from, repeat_passes, values_pass)

action_passes : (x : ArgAction) (again : Bool) (a : Rule) (values : List Text) (rows : List Row) → fault.action_fault x again a values rows ≡ [] → pass.action_passes x again a values rows ≡ true
action_passes x again a values rows e = search (rules, set_passes, values_pass, count_passes)

use_passes : (again : Bool) (a : Rule) (values : List Text) (rows : List Row) → fault.use_fault again a values rows ≡ [] → pass.use_passes again a values rows ≡ true
use_passes again a values rows e = search (rules, neither, and_from, action_passes)

-- ---- the walk

module _ (c : List Rule) (again : Bool) where
  by_id_passes : (o : Option Rule) (values : List Text) (rows : List Row) → option_map_or (λ a. fault.use_fault again a values rows) o [] ≡ [] → option_map_or (λ a. pass.use_passes again a values rows) o true ≡ true
  by_id_passes o values rows e = search (rules, use_passes)

  pending_passes : (p : Option (Text × List Text)) (rows : List Row) → option_map_or (λ q. option_map_or (λ a. fault.use_fault again a q.1 rows) (arg_by_id c q.0) []) p [] ≡ []
      → option_map_or (λ q. option_map_or (λ a. pass.use_passes again a q.1 rows) (arg_by_id c q.0) true) p true ≡ true
  pending_passes None rows e = refl
  pending_passes (Some q) rows e = by_id_passes (arg_by_id c q.0) q.1 rows e

  settle_passes : (h : Held) → fault.settle_fault c again h ≡ [] → pass.settle_passes c again h ≡ true
  settle_passes h e = pending_passes h.pending h.rows e

  react_passes : (a : Rule) (values : List Text) (h : Held) → fault.react_fault c again a values h ≡ [] → pass.react_passes c again a values h ≡ true
  react_passes a values h e = search (rules, neither, and_from, settle_passes, use_passes)

  option_passes : (a : Rule) (v : Option Text) (h : Held) → fault.option_fault c again a v h ≡ [] → pass.option_passes c again a v h ≡ true
  option_passes a (Some v) h e = react_passes a (v ∷ []) h e
  option_passes a None h e = settle_passes h e

  long_passes : (o : Option Rule) (v : Option Text) (h : Held) → fault.long_fault c again o v h ≡ [] → pass.long_passes c again o v h ≡ true
  long_passes None v h e = cc
  long_passes (Some a) v h e = by_takes (takes_values a) v e where
    by_takes : (b : Bool) (v : Option Text) →
        (if b then fault.option_fault c again a v h else
        (if is_some v then ErrorKind.TooManyValues ∷ [] else fault.react_fault c again a [] h)) ≡ [] →
        (if b then pass.option_passes c again a v h else (not (is_some v) && pass.react_passes c again a [] h)) ≡ true
    by_takes true v e = option_passes a v h e
    by_takes false (Some v) e = cc
    by_takes false None e = react_passes a [] h e

  short_passes : (o : Option Rule) (rest : Text) (h : Held) (fails : Held → Kinds) (on : Held → Bool) → ((h : Held) → fails h ≡ [] → on h ≡ true) → fault.short_fault c again o rest h fails ≡ [] → pass.short_passes c again o rest h on ≡ true
  short_passes None rest h fails on later e = cc
  short_passes (Some a) rest h fails on later e = by_takes (takes_values a) e where
    by_takes : (b : Bool) → (if b then fault.option_fault c again a (attached_value rest) h else or_else (fault.react_fault c again a [] h) (fails (reacted c a [] h))) ≡ []
        → (if b then pass.option_passes c again a (attached_value rest) h else (pass.react_passes c again a [] h && on (reacted c a [] h))) ≡ true
    by_takes true e = option_passes a (attached_value rest) h e
    by_takes false e =
        let p = neither (fault.react_fault c again a [] h) _ e in
        and_from _ _ (react_passes a [] h p.0) (later (reacted c a [] h) p.1)

  step_passes : (o : Option ℕ) (flags : Text) (skip : ℕ) (h : Held) (fails : Text → ℕ → Held → Kinds) (on : Text → ℕ → Held → Bool) → ((flags : Text) (skip : ℕ) (h : Held) → fails flags skip h ≡ [] → on flags skip h ≡ true) →
      fault.bundle_step_fault c again o flags skip h fails ≡ [] → pass.bundle_step_passes c again o flags skip h on ≡ true
  step_passes None flags skip h fails on later e = refl
  step_passes (Some x) flags zero h fails on later e =
      let rest = drop (length (encode_utf8 x)) flags in
      short_passes (arg_by_short c x) rest h (fails rest 0) (on rest 0) (later rest 0) e
  step_passes (Some x) flags (suc skip) h fails on later e = later (drop (length (encode_utf8 x)) flags) skip h e

  flags_pass : (k : ℕ) (flags : Text) (skip : ℕ) (h : Held) → fault.flags_fault c again k flags skip h ≡ [] → pass.flags_pass c again k flags skip h ≡ true
  unfolding fault.flags_fault pass.flags_pass
  flags_pass zero flags skip h e = refl
  flags_pass (suc k) flags skip h e = step_passes (slice_get (chars flags) 0) flags skip h (fault.flags_fault c again k) (pass.flags_pass c again k) (flags_pass k) e

  flag_word_passes : (o : Option (Text × Option Text)) (word : Text) (h : Held) → fault.flag_word_fault c again o word h ≡ [] → pass.flag_word_passes c again o word h ≡ true
  flag_word_passes (Some p) word h e = long_passes (arg_by_long c p.0) p.1 h e
  flag_word_passes None word h e = by_short (short_of word) e where
    by_short : (o : Option Text) → option_map_or (λ flags. fault.bundle_fault c again flags h) o [] ≡ [] → option_map_or (λ flags. pass.bundle_passes c again flags h) o true ≡ true
    by_short None e = refl
    by_short (Some flags) e = flags_pass (length flags) flags h.skip (record h { skip = 0 }) e

  positional_passes : (a : Rule) (h : Held) → fault.positional_fault c again a h ≡ [] → pass.positional_passes c again a h ≡ true
  positional_passes a h e = by_kept (is_pending a h.pending && takes_several a) e where
    by_kept : (b : Bool) → (if b then [] else fault.settle_fault c again h) ≡ [] → (b || pass.settle_passes c again h) ≡ true
    by_kept true e = refl
    by_kept false e = settle_passes h e

other_passes : (s : Shape) (o : Option Text) (word : Text) (h : Held) → fault.other_fault s o word h ≡ [] → pass.other_passes s o word h ≡ true
other_passes s (Some name) word h e = by_help (bytes_eq name _) s.disable_help_subcommand e where
  by_help : (help off : Bool) → (if help && not off then ErrorKind.DisplayHelp ∷ ErrorKind.InvalidSubcommand ∷ [] else []) ≡ [] → (not help || off) ≡ true
  by_help true true e = refl
  by_help true false e = cc
  by_help false off e = refl
other_passes s None word h e = by_end (bytes_eq word (45 ∷ 45 ∷ [])) e where
  by_end : (b : Bool) → (if b then [] else fault.flag_word_fault s.rules s.args_override_self (long_of word) word h) ≡ [] → (b || pass.flag_word_passes s.rules s.args_override_self (long_of word) word h) ≡ true
  by_end true e = refl
  by_end false e = flag_word_passes s.rules s.args_override_self (long_of word) word h e

word_passes : (s : Shape) (names : Names) (b : Bool) (waiting : Waiting) (word : Text) (h : Held) → fault.word_fault s names b waiting word h ≡ [] → pass.word_passes s names b waiting word h ≡ true
word_passes s names true waiting word h e = refl
word_passes s names false waiting word h e = other_passes s (subcommand_met names waiting word) word h e

step_taken : (s : Shape) (position : ℕ) (h : Held) (step : Step) → fault.step_fault s position h step ≡ [] → pass.step_passes s position h step ≡ true
step_taken s position h value e = by_rule (arg_by_index s.rules position) e where
  stray : (b : Bool) → (if b then ErrorKind.UnknownArgument ∷ [] else ErrorKind.UnknownArgument ∷ ErrorKind.InvalidSubcommand ∷ []) ≡ [] → false ≡ true
  stray true e = cc
  stray false e = cc

  by_rule : (o : Option Rule) → option_map_or (λ a. fault.positional_fault s.rules s.args_override_self a h) o (fault.stray_fault s) ≡ [] → option_map_or (λ a. pass.positional_passes s.rules s.args_override_self a h) o false ≡ true
  by_rule None e = stray s.is_leaf e
  by_rule (Some a) e = positional_passes s.rules s.args_override_self a h e
step_taken s position h _ e = refl

turn_passes : (s : Shape) (names : Names) (w : Walk) (word : Text) → fault.turn_fault s names w word ≡ [] → pass.turn_passes s names w word ≡ true
turn_passes s names w word e = by_stop (is_some w.stopped) (word_met s.rules names w.is_trailing w.waiting w.position word w.held) e where
  by_stop : (b : Bool) (met : Held × Step) → (if b then [] else or_else (fault.word_fault s names w.is_trailing w.waiting word w.held) (fault.step_fault s w.position met.0 met.1)) ≡ []
      → (b || (pass.word_passes s names w.is_trailing w.waiting word w.held && pass.step_passes s w.position met.0 met.1)) ≡ true
  by_stop true met e = refl
  by_stop false met e =
      let p = neither (fault.word_fault s names w.is_trailing w.waiting word w.held) _ e in
      and_from _ _ (word_passes s names w.is_trailing w.waiting word w.held p.0) (step_taken s w.position met.0 met.1 p.1)

walk_passes : (s : Shape) (names : Names) (w : Walk) (words : List Text) → fault.walk_fault s names w words ≡ [] → pass.walk_passes s names w words ≡ true
unfolding fault.walk_fault pass.walk_passes
walk_passes s names w [] e = refl
walk_passes s names w (word ∷ words) e =
    let p = neither (fault.turn_fault s names w word) _ e in
    and_from _ _ (turn_passes s names w word p.0) (walk_passes s names (walked s.rules names w word) words p.1)

-- ---- after the walk

none_wants : (rules : List Rule) (rows : List Row) → list_any (λ a. a.required && not (pass.is_given a.id rows)) rules ≡ false → list_all (λ a. not a.required || pass.is_given a.id rows) rules ≡ true
none_wants [] rows e = refl
none_wants (a ∷ rules) rows e = by_one a.required (pass.is_given a.id rows) (list_any (λ x. x.required && not (pass.is_given x.id rows)) rules) e (none_wants rules rows) where
  by_one : (required given others : Bool) → ((required && not given) || others) ≡ false →
      (others ≡ false → list_all (λ x. not x.required || pass.is_given x.id rows) rules ≡ true) →
      ((not required || given) && list_all (λ x. not x.required || pass.is_given x.id rows) rules) ≡ true
  by_one true true others e later = later e
  by_one true false others e later = cc
  by_one false given others e later = later e

-- a step fails by a test
not_met : (b : Bool) (k : ErrorKind) (ks : Kinds) → (if b then k ∷ [] else ks) ≡ [] → (b ≡ false) × (ks ≡ [])
not_met b k ks e = search rules

no_help : (has help any : Bool) → (not has && (help && not any)) ≡ false → (not help || (has || any)) ≡ true
no_help has help any e = search rules

no_want : (has wants : Bool) → (not has && wants) ≡ false → (not wants || has) ≡ true
no_want has wants e = search rules

no_miss : (negated some all : Bool) → (not negated && some) ≡ false → (some ≡ false → all ≡ true) → (negated || all) ≡ true
no_miss negated some all e given = search rules

-- a command whose defaults pass, and whose arguments have no rule on one another
abbrev is_usual : Shape → Bool
is_usual s = list_all pass.default_passes s.rules && list_all (λ a. a.is_free) s.rules

valid : (s : Shape) (rows : List Row) (has : Bool) → list_all (λ a. a.is_free) s.rules ≡ true → fault.check_fault s rows has ≡ [] → pass.is_valid s rows has ≡ true
valid s rows has free e =
    let p = not_met (not has && (s.arg_required_else_help && not (list_any (λ r. explicit_source r.source) rows))) _ _ e in
    let q = not_met (not has && s.subcommand_required) _ _ p.1 in
    let r = not_met (not (s.subcommand_negates_reqs && has) && list_any (λ a. a.required && not (pass.is_given a.id rows)) s.rules) _ _ q.1 in
    and_from _ _ (no_help has s.arg_required_else_help _ p.0)
    (and_from _ _ (no_want has s.subcommand_required q.0)
    (and_from _ _ free (no_miss (s.subcommand_negates_reqs && has) _ _ r.0 (none_wants s.rules rows))))

-- one level, and what is below it
level_passes : (s : Shape) (names : Names) (h : Held) (words : List Text) (has : Bool) (below : Kinds) → is_usual s ≡ true → fault.level_fault s names h words has below ≡ [] → (below ≡ []) × (pass.level_passes s names h words has ≡ true)
level_passes s names h words has below usual e = search (rules, both, neither, and_from, walk_passes, settle_passes, valid)

entered_passes : (a : App) (stop : Option (Text × List Text)) → list_all is_usual a.subs ≡ true → fault.entered_fault a stop ≡ [] → pass.entered_passes a stop ≡ true
entered_passes a None usual e = refl
entered_passes a (Some p) usual e = go a.subs usual e where
  here : (b : Bool) (s : Shape) (o : Option Shape) → is_usual s ≡ true → (option_map_or (λ x. fault.level_fault x [] nothing_held p.1 false []) o [] ≡ [] → option_map_or (λ x. pass.level_passes x [] nothing_held p.1 false) o true ≡ true) →
      option_map_or (λ x. fault.level_fault x [] nothing_held p.1 false []) (cond b (Some s) o) [] ≡ [] → option_map_or (λ x. pass.level_passes x [] nothing_held p.1 false) (cond b (Some s) o) true ≡ true
  here true s o usual later e = (level_passes s [] nothing_held p.1 false [] usual e).1
  here false s o usual later e = later e

  go : (subs : List Shape) → list_all is_usual subs ≡ true → option_map_or (λ s. fault.level_fault s [] nothing_held p.1 false []) (find (λ s. answers_to p.0 (label_of s)) subs) [] ≡ []
      → option_map_or (λ s. pass.level_passes s [] nothing_held p.1 false) (find (λ s. answers_to p.0 (label_of s)) subs) true ≡ true
  go [] usual e = refl
  go (s ∷ subs) usual e = let u = both (is_usual s) _ usual in here (answers_to p.0 (label_of s)) s (find (λ x. answers_to p.0 (label_of x)) subs) u.0 (go subs u.1) e

built_takes : (a : App) (h : Held) (words : List Text) → (is_usual a.top && list_all is_usual a.subs) ≡ true → fault.built_fault a h words ≡ [] → pass.built_takes a h words ≡ true
built_takes a h words usual e =
    let u = both (is_usual a.top) _ usual in
    let stop = (walk a.top.rules (names_of a) h words).stopped in
    let p = level_passes a.top (names_of a) h words (is_some (entered a stop)) (fault.entered_fault a stop) u.0 e in
    and_from _ _ (entered_passes a stop u.1 p.0) p.1

-- the words of the program's command line
pub taken_where_none_fails : (words : List Text) → fault_of yq words ≡ [] → takes yq words ≡ true
unfolding clap_on_literals yq four_commands two_commands
taken_where_none_fails words e = built_takes (built yq) nothing_held (argument_words yq words) refl e

yq_free : is_simple_and_free yq ≡ true
unfolding clap_on_literals yq four_commands two_commands
yq_free = refl

-- ---- what clap answers

module _ {T : Type 0} (answer : Result T Error) (app : App) (words : List Text) (is : app ≡ yq) (fails : is_simple_and_free app ≡ true → FailsBy (fault_of app words) answer) where
  pub matched_kinds : FailsBy (fault_of yq words) answer
  matched_kinds = subst (λ a. FailsBy (fault_of a words) answer) is (fails (ap is_simple_and_free is ∙ yq_free))

  pub matched_taken : IfOk answer (λ m. takes yq words ≡ true)
  matched_taken = go answer matched_kinds where
    go : (r : Result T Error) → FailsBy (fault_of yq words) r → IfOk r (λ m. takes yq words ≡ true)
    go (Ok m) none = taken_where_none_fails words none
    go (Err e) kinds = tt

-- what clap finds in the words, by the command line
pub matched_rows : (answer : Result ArgMatches Error) (app : App) (words : List Text) → app ≡ yq → IfOk answer (HasMatchesOf app words) →
    IfOk answer (λ m. subcommand_rows_of m ≡ subcommand_of yq words)
matched_rows answer app words is = search (rules, and_parts, yq_free)
