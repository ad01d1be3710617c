-- clap's walk over words that pass: the rows that it leaves have values.
use Rattle.std.proofs.Common.{rules, if◌then◌else◌, ◌≡◌, ◌∙◌, ◌&&◌, ◌||◌, ◌⊎◌, inl, inr, not, ℕ, zero, suc, Bool, true, false, cond, List}
use Rattle.std.proofs.Common.{[], ◌∷◌, length, drop, Option, Some, None, is_some, refl, sym, ap₂, find, encode_utf8, slice_get}
use Rattle.std.{specs.List.list_all, specs.Option.option_map_or, specs.Str.{bytes_eq, chars}}
use Rattle.clap.{specs.Lexer.{long_of, short_of}, specs.Simple.Shape}
use Rattle.clap.specs.Takes.{bundle_passes, bundle_step_passes, flag_word_passes, flags_pass, long_passes, option_passes, other_passes}
use Rattle.clap.specs.Takes.{positional_passes, react_passes, settle_passes, short_passes, use_passes, word_passes}
use Rattle.clap.specs.Walk.{Held, Names, Outcome, done, Row, Rule, Step, trailing, value, Text, Waiting, Walk, after_flag, after_step}
use Rattle.clap.specs.Walk.{arg_by_id, arg_by_index, arg_by_long, arg_by_short, attached_value, bundle_met, bundle_step, flag_met}
use Rattle.clap.specs.Walk.{is_pending, long_met, long_or_other, option_met, positional_held, reacted, settled, settled_rows, short_met}
use Rattle.clap.specs.Walk.{short_or_plain, subcommand_met, subcommand_or_other, takes_several, takes_values, to_positional, used_by_id}
use Rattle.clap.{specs.Walk.word_met, proofs.WalkLemmas.both}
use Rattle.yq_args.proofs.ClapRows.{AreFilled, fills, used_filled}

-- the argument, if there is one, asks for a value
abbrev RuleFills : Option Rule → Type 0
RuleFills None = Unit {0}
RuleFills (Some a) = fills a ≡ true

found_fills : (p : Rule → Bool) (c : List Rule) → list_all fills c ≡ true → RuleFills (find p c)
found_fills p [] f = tt
found_fills p (a ∷ c) f = here (p a) (find p c) (found_fills p c (both _ _ f).1) where
  here : (b : Bool) (o : Option Rule) → RuleFills o → RuleFills (cond b (Some a) o)
  here true o later = (both _ _ f).0
  here false o later = later

module _ (c : List Rule) (again : Bool) (f : list_all fills c ≡ true) where
  by_id_filled : (o : Option Rule) (values : List Text) (rows : List Row) → RuleFills o → option_map_or (λ a. use_passes again a values rows) o true ≡ true → AreFilled rows → AreFilled (used_by_id o values rows)
  by_id_filled o values rows one passes h = search (rules, used_filled)

  pending_filled : (p : Option (Text × List Text)) (rows : List Row) → option_map_or (λ q. option_map_or (λ a. use_passes again a q.1 rows) (arg_by_id c q.0) true) p true ≡ true → AreFilled rows → AreFilled (settled_rows c p rows)
  pending_filled None rows passes h = h
  pending_filled (Some q) rows passes h = by_id_filled (arg_by_id c q.0) q.1 rows (found_fills (λ a. bytes_eq a.id q.0) c f) passes h

  pub settled_filled : (h : Held) → settle_passes c again h ≡ true → AreFilled h.rows → AreFilled (settled c h).rows
  settled_filled h passes k = pending_filled h.pending h.rows passes k

  reacted_filled : (a : Rule) (values : List Text) (h : Held) → fills a ≡ true → react_passes c again a values h ≡ true → AreFilled h.rows → AreFilled (reacted c a values h).rows
  reacted_filled a values h one passes k = search (rules, both, used_filled, settled_filled)

  -- options and flags
  option_filled : (a : Rule) (v : Option Text) (h : Held) → fills a ≡ true → option_passes c again a v h ≡ true → AreFilled h.rows → AreFilled (option_met c a v h).0.rows
  option_filled a (Some v) h one passes k = reacted_filled a (v ∷ []) h one passes k
  option_filled a None h one passes k = settled_filled h passes k

  long_filled : (o : Option Rule) (v : Option Text) (h : Held) → RuleFills o → long_passes c again o v h ≡ true → AreFilled h.rows → AreFilled (long_met c o v h).0.rows
  long_filled None v h one passes k = k
  long_filled (Some a) v h one passes k = by_takes (takes_values a) v passes where
    by_takes : (b : Bool) (v : Option Text) → (if b then option_passes c again a v h else (not (is_some v) && react_passes c again a [] h)) ≡ true → AreFilled (if b then option_met c a v h else flag_met c a v h).0.rows
    by_takes true v passes = option_filled a v h one passes k
    by_takes false (Some v) passes = k
    by_takes false None passes = reacted_filled a [] h one passes k

  short_filled : (o : Option Rule) (rest : Text) (h : Held) (passes : Held → Bool) (on : Held → Held × Outcome) → RuleFills o → ((h : Held) → passes h ≡ true → AreFilled h.rows → AreFilled (on h).0.rows) →
      short_passes c again o rest h passes ≡ true → AreFilled h.rows → AreFilled (short_met c o rest h on).0.rows
  short_filled None rest h passes on one later p k = k
  short_filled (Some a) rest h passes on one later p k = by_takes (takes_values a) p where
    by_takes : (b : Bool) → (if b then option_passes c again a (attached_value rest) h else (react_passes c again a [] h && passes (reacted c a [] h))) ≡ true →
        AreFilled (if b then option_met c a (attached_value rest) h else on (reacted c a [] h)).0.rows
    by_takes true p = option_filled a (attached_value rest) h one p k
    by_takes false p = let q = both (react_passes c again a [] h) _ p in later (reacted c a [] h) q.1 (reacted_filled a [] h one q.0 k)

  flag_filled : (o : Option ℕ) (flags : Text) (skip : ℕ) (so_far : Outcome) (h : Held) (passes : Text → ℕ → Held → Bool) (on : Text → ℕ → Outcome → Held → Held × Outcome) →
      ((flags : Text) (skip : ℕ) (so_far : Outcome) (h : Held) → passes flags skip h ≡ true → AreFilled h.rows → AreFilled (on flags skip so_far h).0.rows) →
      bundle_step_passes c again o flags skip h passes ≡ true → AreFilled h.rows → AreFilled (bundle_step c o flags skip so_far h on).0.rows
  flag_filled None flags skip so_far h passes on later p k = k
  flag_filled (Some x) flags zero so_far h passes on later p k =
      let rest = drop (length (encode_utf8 x)) flags in
      short_filled (arg_by_short c x) rest h (passes rest 0) (on rest 0 done) (found_fills _ c f) (later rest 0 done) p k
  flag_filled (Some x) flags (suc skip) so_far h passes on later p k = later (drop (length (encode_utf8 x)) flags) skip so_far h p k

  flags_filled : (n : ℕ) (flags : Text) (skip : ℕ) (so_far : Outcome) (h : Held) → flags_pass c again n flags skip h ≡ true → AreFilled h.rows → AreFilled (bundle_met c n flags skip so_far h).0.rows
  unfolding flags_pass bundle_met
  flags_filled zero flags skip so_far h p k = k
  flags_filled (suc n) flags skip so_far h p k = flag_filled (slice_get (chars flags) 0) flags skip so_far h (flags_pass c again n) (bundle_met c n) (flags_filled n) p k

  after_filled : (waiting : Waiting) (word : Text) (h : Held) (o : Outcome) → AreFilled h.rows → AreFilled (after_flag c waiting word h o).0.rows
  after_filled waiting word h o k = search rules

  short_word_filled : (waiting : Waiting) (word : Text) (o : Option Text) (h : Held) → option_map_or (λ flags. bundle_passes c again flags h) o true ≡ true → AreFilled h.rows → AreFilled (short_or_plain c waiting word o h).0.rows
  short_word_filled waiting word o h p k = search (rules, after_filled, flags_filled)

  flag_word_filled : (waiting : Waiting) (word : Text) (o : Option (Text × Option Text)) (h : Held) → flag_word_passes c again o word h ≡ true → AreFilled h.rows → AreFilled (long_or_other c waiting word o h).0.rows
  flag_word_filled waiting word None h p k = short_word_filled waiting word (short_of word) h p k
  flag_word_filled waiting word (Some q) h p k =
      let met = long_met c (arg_by_long c q.0) q.1 h in
      after_filled waiting word met.0 met.1 (long_filled (arg_by_long c q.0) q.1 h (found_fills _ c f) p k)

  other_filled : (waiting : Waiting) (position : ℕ) (word : Text) (h : Held) (o : Option Text) → (is_some o ≡ true) ⊎ ((bytes_eq word (45 ∷ 45 ∷ []) || flag_word_passes c again (long_of word) word h) ≡ true) → AreFilled h.rows →
      AreFilled (subcommand_or_other c o waiting position word h).0.rows
  other_filled waiting position word h (Some name) p k = k
  other_filled waiting position word h None (inl never) k = cc
  other_filled waiting position word h None (inr p) k = by_end (bytes_eq word (45 ∷ 45 ∷ [])) p where
    by_end : (b : Bool) → (b || flag_word_passes c again (long_of word) word h) ≡ true → AreFilled (if b then (h, trailing position) else long_or_other c waiting word (long_of word) h).0.rows
    by_end true p = k
    by_end false p = flag_word_filled waiting word (long_of word) h p k

  pub word_filled : (s : Shape) (names : Names) (w : Walk) (word : Text) → s.rules ≡ c → s.args_override_self ≡ again → word_passes s names w.is_trailing w.waiting word w.held ≡ true → AreFilled w.held.rows →
      AreFilled (word_met c names w.is_trailing w.waiting w.position word w.held).0.rows
  word_filled s names w word rules self p k = by_trailing w.is_trailing p where
    by_name : (o : Option Text) → other_passes s o word w.held ≡ true → (is_some o ≡ true) ⊎ ((bytes_eq word (45 ∷ 45 ∷ []) || flag_word_passes c again (long_of word) word w.held) ≡ true)
    by_name (Some name) p = inl refl
    by_name None p = inr (sym (ap₂ (λ r b. bytes_eq word (45 ∷ 45 ∷ []) || flag_word_passes r b (long_of word) word w.held) rules self) ∙ p)

    by_trailing : (b : Bool) → (b || other_passes s (subcommand_met names w.waiting word) word w.held) ≡ true →
        AreFilled (if b then (w.held, value) else subcommand_or_other c (subcommand_met names w.waiting word) w.waiting w.position word w.held).0.rows
    by_trailing true p = k
    by_trailing false p = let met = subcommand_met names w.waiting word in other_filled w.waiting w.position word w.held met (by_name met p) k

  -- a step
  held_filled : (a : Rule) (word : Text) (h : Held) → positional_passes c again a h ≡ true → AreFilled h.rows → AreFilled (positional_held c a word h).rows
  held_filled a word h p k = by_kept (is_pending a h.pending && takes_several a) p where
    by_kept : (b : Bool) → (b || settle_passes c again h) ≡ true → AreFilled (if b then h else settled c h).rows
    by_kept true p = k
    by_kept false p = settled_filled h p k

  pub step_filled : (w : Walk) (word : Text) (h : Held) (step : Step) →
      (step ≡ value → option_map_or (λ a. positional_passes c again a h) (arg_by_index c w.position) false ≡ true) → AreFilled h.rows →
      AreFilled (after_step c word w h step).held.rows
  step_filled w word h value p k = go (arg_by_index c w.position) (p refl) where
    go : (o : Option Rule) → option_map_or (λ a. positional_passes c again a h) o false ≡ true → AreFilled (to_positional c o word w h).held.rows
    go None p = k
    go (Some a) p = held_filled a word h p k
  step_filled w word h _ p k = k
