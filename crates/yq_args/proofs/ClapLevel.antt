-- clap's parse of one command, where it passes: what is required has a text.
use Rattle.std.proofs.Common.{rules, ◌≡◌, ◌∙◌, ◌&&◌, ◌||◌, true, false, List, [], ◌∷◌, ◌++◌, Option, Some, None, is_some, not, find}
use Rattle.std.{proofs.Common.{option_map, refl, sym, ap, fold, append-nil, append_assoc}, specs.List.list_all}
use Rattle.clap.specs.Simple.{App, Shape, entered, label_of, names_of}
use Rattle.clap.specs.Takes.{built_takes, is_given, level_passes, step_passes, turn_passes, walk_passes, word_passes}
use Rattle.clap.specs.Walk.{Names, Rule, Text, Walk, answers_to, nothing_held, rows_after, stop_after, walk_from, walked, walked_from}
use Rattle.clap.{specs.Walk.word_met, proofs.WalkLemmas.both}
use Rattle.yq_args.{proofs.ClapRows.{AreFilled, fills, defaults_filled}, proofs.ClapWalk.{settled_filled, word_filled, step_filled}}

turn_filled : (s : Shape) (names : Names) (w : Walk) (word : Text) → list_all fills s.rules ≡ true → turn_passes s names w word ≡ true → AreFilled w.held.rows → AreFilled (walked s.rules names w word).held.rows
unfolding walked
turn_filled s names w word f p k = go w.stopped p where
  go : (o : Option (Text × List Text)) →
      (is_some o || (word_passes s names w.is_trailing w.waiting word w.held
      && step_passes s w.position (word_met s.rules names w.is_trailing w.waiting w.position word w.held).0 (word_met s.rules names w.is_trailing w.waiting w.position word w.held).1)) ≡ true →
      AreFilled (walked_from s.rules names o w word).held.rows
  go (Some stop) p = k
  go None p =
      let met = word_met s.rules names w.is_trailing w.waiting w.position word w.held in
      let q = both (word_passes s names w.is_trailing w.waiting word w.held) _ p in
      step_filled s.rules s.args_override_self f w word met.0 met.1 (λ e. sym (ap (step_passes s w.position met.0) e) ∙ q.1)
      (word_filled s.rules s.args_override_self f s names w word refl refl q.0 k)

walk_filled : (s : Shape) (names : Names) (words : List Text) (w : Walk) → list_all fills s.rules ≡ true → walk_passes s names w words ≡ true → AreFilled w.held.rows → AreFilled (fold (walked s.rules names) w words).held.rows
unfolding walk_passes
walk_filled s names [] w f p k = k
walk_filled s names (word ∷ words) w f p k =
    let q = both (turn_passes s names w word) _ p in
    walk_filled s names words (walked s.rules names w word) f q.1 (turn_filled s names w word f q.0 k)

-- One command's own level passes: its rows have values, and what is required was given.
pub record Passed (s : Shape) (words : List Text) : Type 0 where
  pub filled : AreFilled (rows_after s.rules [] words)
  pub given : ((s.subcommand_negates_reqs && false) || list_all (λ a. not a.required || is_given a.id (rows_after s.rules [] words)) s.rules) ≡ true

pub level_passed : (s : Shape) (words : List Text) → list_all fills s.rules ≡ true → level_passes s [] nothing_held words false ≡ true → Passed s words
level_passed s words f p = search (rules, both, defaults_filled, settled_filled, walk_filled)

-- the words after the one that names a command are that command's
stop_goes_on : (c : List Rule) (names : Names) (words : List Text) (w : Walk) (name : Text) (before : List Text) → w.stopped ≡ Some (name, before) → (fold (walked c names) w words).stopped ≡ Some (name, before ++ words)
unfolding walked
stop_goes_on c names [] w name before e = e ∙ ap (λ l. Some (name, l)) (sym (append-nil before))
stop_goes_on c names (word ∷ words) w name before e =
    stop_goes_on c names words (walked c names w word) name (before ++ word ∷ []) (ap (λ o. (walked_from c names o w word).stopped) e)
    ∙ ap (λ l. Some (name, l)) (append_assoc before (word ∷ []) words)

pub stops_at : (c : List Rule) (names : Names) (word name : Text) (words : List Text) → (walked c names (walk_from nothing_held) word).stopped ≡ Some (name, []) → stop_after c names (word ∷ words) ≡ Some (name, words)
stops_at c names word name words e = stop_goes_on c names words (walked c names (walk_from nothing_held) word) name [] e

pub sub_passed : (a : App) (words rest : List Text) (name : Text) (s : Shape) → stop_after a.top.rules (names_of a) words ≡ Some (name, rest) → find (λ x. answers_to name (label_of x)) a.subs ≡ Some s → list_all fills s.rules ≡ true →
    built_takes a nothing_held words ≡ true → Passed s rest
sub_passed a words rest name s stop found f p = search (rules, both, level_passed)

pub sub_found : (a : App) (words rest : List Text) (name : Text) (s : Shape) → stop_after a.top.rules (names_of a) words ≡ Some (name, rest) → find (λ x. answers_to name (label_of x)) a.subs ≡ Some s →
    entered a (stop_after a.top.rules (names_of a) words) ≡ Some (s.name, rows_after s.rules [] rest)
sub_found a words rest name s stop found = ap (entered a) stop ∙ ap (λ o. option_map (λ x. (x.name, rows_after x.rules [] rest)) o) found
