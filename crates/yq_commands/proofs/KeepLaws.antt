-- What a command leaves of the store's names, and a list of them.
use Rattle.std.proofs.Common.{rules, ◌≡◌, ◌≢◌, ◌⊎◌, inl, inr, ℕ, true, false, List, [], ◌∷◌, ◌++◌, Option, Result, Ok, Err, OnOk, IfErr}
use Rattle.std.{proofs.Common.{sym, ap, ◌∙◌, subst, refl}, proofs.lemmas.List.Elements.{All-head, All-tail}, specs.FinMap.get}
use Rattle.std.specs.String.{string_bytes}
use Rattle.yq_journal.{specs.Good.Good, specs.History.History}
use Rattle.yq_commands.{specs.declared.answer.Answer.Answer, specs.CommandFaults.{IsUnparsed, RefusedUnparsed}}
use Rattle.yq_commands.{specs.CommandEffects.{OfEffect, IsListing, expression_cause, output_by}, specs.FileEdits.HasEdited}
use Rattle.yq_commands.{specs.CommandDone.{CarriesOut, IsSilent}, specs.CommandNames.{IsOn, file_of}}
use Rattle.yq_commands.specs.Lists.{IsUnrelated, AllOnOrApart, Reply, IsAnswer, Goes, RunsAll, ReportsEffect, HasEffect, RunsTo, Keeps}
use Rattle.yq_commands.{specs.Lists.{ReportsUnparsed, is_accepted, leaves_names}, specs.Help.{AnswersHelp, Helps}}
use Rattle.yq_commands.{specs.Expecting.{expects_change, works_as_expected}, specs.Prints.{prints, prints_change}}
use Rattle.yq_commands.{proofs.ReplyLaws.{reply, reply-answer}, proofs.ListLaws.arrived}
use Rattle.yq_args.{specs.declared.command.Command.Command, specs.declared.command.Command.TheVariants.Eval}
use Rattle.yq_history.{specs.Causes.Cause, specs.Effects.{Effect, Works}, specs.Output.IsOutput, specs.Pair.GoodIn, specs.Report.Report}
use Rattle.yq_history.proofs.PairLaws.{same_pair}
use Rattle.yq_fault.{specs.declared.fault.Fault.Fault, specs.Faults.{is_outer_fault, is_output}}
use Rattle.yq_store.specs.FileMap.{FileMap}

-- an edit in place is of a file and a journal of two names
abbrev HasTwoNames : Command → Type 0
HasTwoNames (Eval w true) = string_bytes w.file ≢ string_bytes w.journal
HasTwoNames _ = Unit {0}

two_names : (cmd : Command) (f j : List ℕ) → f ≢ j → IsOn f j cmd → HasTwoNames cmd
two_names cmd f j apart on = search rules

-- what a command shows is the output of its effect
shows_effect : {T : Type 0} (cmd : Command) (file journal : Option (List ℕ)) (r : Result T Fault) (s : Report) → HasTwoNames cmd →
    (prints cmd ≡ false → prints_change cmd ≡ false → s.printed ≡ []) → OnOk r (IsListing cmd file journal s.printed) →
    OfEffect cmd file journal (λ x. OnOk r (IsOutput (file_of cmd) (output_by (prints_change cmd) file x) s.printed))
shows_effect cmd file journal r s apart silent listed = search rules

-- ---- what a reply says of an effect

module _ (cmd : Command) (x : Effect) (f j : List ℕ) (c e : FileMap) where
  -- what an answer says, with the bytes that are printed if it is one of those that print
  abbrev ReportsOf : Answer → List ℕ → Type 0
  ReportsOf a o = ReportsEffect cmd x f j c e (reply a o).answer (reply a o).printed

  -- the bytes are the output of the effect
  abbrev IsOutputOf : List ℕ → Type 0
  IsOutputOf o = IsOutput f (output_by (prints_change cmd) (get c f) x) o

  reports_each : {T : Type 0} (r : Result T Fault) (a : Answer) (s : Report) →
      IsAnswer r a s → IfErr r (λ y. is_output y ≡ false) → Works x f j c e r → OnOk r (IsOutputOf s.printed) → OnOk r (s.is_match ≡ works_as_expected (expects_change cmd) x) → ReportsOf a s.printed
  reports_each r a s is no_output p o m = search rules

of_effect : (cmd : Command) (file journal : Option (List ℕ)) (P R Q : Effect → Type 0) →
    ((x : Effect) → P x → R x → Q x) → OfEffect cmd file journal P → OfEffect cmd file journal R → OfEffect cmd file journal Q
of_effect cmd file journal P R Q more p q = search rules

-- ---- one command

-- what is known of a command that was carried out or refused, by its contract, and of its answer
pub record IsDone {T : Type 0} (c e : FileMap) (cmd : Command) (r : Result T Fault) (a : Answer) (s : Report) : Type 0 where
  pub answered : IsAnswer r a s
  pub done : CarriesOut cmd c e r s
  pub silent : IsSilent cmd s
  pub no_output : IfErr r (λ x. is_output x ≡ false)
  pub unparsed : RefusedUnparsed (expression_cause cmd) r
  pub helped : Helps cmd r s

-- a command on a file names it
on_file : (cmd : Command) (f j : List ℕ) → IsOn f j cmd → file_of cmd ≡ f
on_file cmd f j on = search rules

-- a refusal that leaves the names left the content
kept_by : {T : Type 0} (c e : FileMap) (cmd : Command) (r : Result T Fault) (a : Answer) (s : Report) → IsAnswer r a s → (prints_change cmd ≡ false → s.printed ≡ []) → prints cmd ≡ false →
    leaves_names cmd a ≡ true → IfErr r (λ x. is_outer_fault x ≡ false → e ≡ c) → e ≡ c
kept_by c e cmd r a s is silent h8 k same = search rules

-- what was accepted of an edit
edited_by : {T : Type 0} (c e : FileMap) (cmd : Command) (r : Result T Fault) (a : Answer) (s : Report) → IsAnswer r a s → OnOk r (HasEdited cmd c e s.printed) →
    is_accepted (reply a s.printed).answer ≡ true → HasEdited cmd c e (reply a s.printed).printed
edited_by c e cmd r a s is has done = search rules

-- the answer to an expression that is no program
unparsed_by : {T : Type 0} (x : Cause) (r : Result T Fault) (a : Answer) (s : Report) → IsAnswer r a s → IsUnparsed x r → ReportsUnparsed x (reply a s.printed).answer
unparsed_by x (Ok v) a s is reports = absurd reports
unparsed_by x (Err e) a s is reports = subst (ReportsUnparsed x) (sym (reply-answer a s.printed ∙ is)) reports

-- the answer to one that asks for help
helped_by : {T : Type 0} (cmd : Command) (r : Result T Fault) (a : Answer) (s : Report) → IsAnswer r a s → Helps cmd r s →
    AnswersHelp cmd (reply a s.printed).answer (reply a s.printed).printed
helped_by cmd r a s is shows = search rules

module _ {T : Type 0} (c e : FileMap) (cmd : Command) (r : Result T Fault) (a : Answer) (s : Report) (k : IsDone c e cmd r a s) where
  -- a command goes on, on the pair or apart from it
  goes_on : (f j : List ℕ) → f ≢ j → IsOn f j cmd ⊎ IsUnrelated f j cmd → (h : Option History) → GoodIn c f j h → (m : Option History) × Goes f j cmd h (reply a s.printed) m × GoodIn e f j m
  goes_on f j apart (inl on) h good =
      let p = arrived e f j cmd h r a s k.answered (k.done.output f j on h good) k.no_output (k.done.arrives f j apart on h good) in
      (p.0, inl (on, p.1), p.2)
  goes_on f j apart (inr (inl unrelated)) h good =
      (h, inr (inl unrelated, refl), subst (λ x. Good x (get e j) h) (sym (k.done.names.others f unrelated.0)) (subst (λ y. Good (get c f) y h) (sym (k.done.names.others j unrelated.1)) good))
  goes_on f j apart (inr (inr printing)) h good = (h, inr (inr printing, refl), same_pair c e f j h (k.done.still printing.1) good)

  has_effect : HasEffect cmd (reply a s.printed) c e
  has_effect = search (rules, of_effect, reports_each, on_file, shows_effect, two_names)

  -- what a command leaves
  pub left_by : RunsTo cmd (reply a s.printed) c e
  left_by = record {
    all = λ holds. elim (prints cmd) as (λ b. prints cmd ≡ b → e ≡ c) [
      | true ↦ λ p. k.done.still p
      | false ↦ λ p. kept_by c e cmd r a s k.answered (k.silent p) p (sym (ap (leaves_names cmd) (reply-answer a s.printed)) ∙ holds) k.done.names.kept
    ] refl;
    others = k.done.names.others;
    effect = has_effect;
    steps = λ f j apart fits h good. goes_on f j apart fits h good;
    edited = edited_by c e cmd r a s k.answered k.done.edited;
    unparsed = λ x is. unparsed_by x r a s k.answered (k.unparsed x is);
    helped = helped_by cmd r a s k.answered k.helped;
  }

-- ---- a list of commands

-- one command more
pub keeps_more : (old m new : FileMap) (cs : List Command) (rs : List Reply) (c : Command) (r : Reply) → Keeps old cs rs m → RunsTo c r m new → Keeps old (cs ++ c ∷ []) (rs ++ r ∷ []) new
keeps_more old m new [] [] c r k left = (new, subst (λ x. RunsTo c r x new) k left, refl)
keeps_more old m new (d ∷ cs) (b ∷ rs) c r k left = (k.0, k.1, keeps_more k.0 m new cs rs c r k.2 left)
keeps_more old m new [] (b ∷ rs) c r k left = absurd k
keeps_more old m new (d ∷ cs) [] c r k left = absurd k

-- from a pair that is good for a history it is a run
pub run_of : (f j : List ℕ) → f ≢ j → (cs : List Command) (rs : List Reply) (old new : FileMap) (h : Option History) →
    Keeps old cs rs new → AllOnOrApart f j cs → GoodIn old f j h → (k : Option History) × RunsAll f j h cs rs k × GoodIn new f j k
run_of f j apart [] [] old new h keeps fit good = (h, refl, same_pair old new f j h keeps good)
run_of f j apart (c ∷ cs) (r ∷ rs) old new h keeps fit good =
    let one = keeps.1.steps f j apart (All-head (λ x. IsOn f j x ⊎ IsUnrelated f j x) c cs fit) h good in
    let more = run_of f j apart cs rs keeps.0 new one.0 keeps.2 (All-tail (λ x. IsOn f j x ⊎ IsUnrelated f j x) c cs fit) one.2 in
    (more.0, (one.0, one.1, more.1), more.2)
run_of f j apart [] (r ∷ rs) old new h keeps fit good = absurd keeps
run_of f j apart (c ∷ cs) [] old new h keeps fit good = absurd keeps
