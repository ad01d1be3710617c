-- Runs of commands.
use Rattle.std.proofs.Common.{rules, ◌≡◌, ◌⊎◌, inl, inr, ℕ, Bool, true, false, ◌&&◌, not, List, [], ◌∷◌, Option, Some, Result, Ok, Err}
use Rattle.std.{proofs.Common.{OnOk, MatchBool, IfErr, sym, ap, ◌∙◌, subst, refl}, proofs.lemmas.Bool.{and_parts, and_from, not-true}}
use Rattle.std.specs.List.{list_all}
use Rattle.yq_journal.specs.History.{History}
use Rattle.yq_commands.{specs.declared.answer.Answer.Answer, specs.declared.answer.Answer.TheVariants.{Done, NoMatch, Refused}}
use Rattle.yq_commands.specs.Lists.{answer_by, Reply, answers_in, IsAnswer, CommandRefused, IsCarriedOut, RunsCommand, Goes, RunsAll}
use Rattle.yq_commands.specs.Lists.{IsReply, StepsExactly, GoesExactly, RunExactly, reports_failure, reports_output, count_passing}
use Rattle.yq_commands.{specs.Lists.{failures_in, output_failures_in, has_memory}, specs.Prints.report_of, specs.CommandNames.file_of}
use Rattle.yq_commands.{specs.CommandSteps.{cause_of, next_of}, proofs.ReplyLaws.reply}
use Rattle.yq_args.specs.declared.command.Command.{Command}
use Rattle.yq_history.{specs.Causes.{Cause, IsFor}, specs.Output.{Showing, Shows}, specs.Pair.{GoodIn, Arrives}, specs.Report.Report}
use Rattle.yq_fault.{specs.declared.fault.Fault.Fault, specs.Faults.{is_outer_fault, is_output}}
use Rattle.yq_store.specs.FileMap.{FileMap}

module _ (e : FileMap) (f j : List ℕ) (c : Command) (h : Option History) where
  refused_step : (x : Fault) (b : Bool) → is_output x ≡ false → is_outer_fault x ≡ b →
      MatchBool b (GoodIn e f j h ⊎ GoodIn e f j (next_of c h)) (IsFor (cause_of c h) x × GoodIn e f j h) → (k : Option History) × CommandRefused c h x k × GoodIn e f j k
  refused_step x b no_output out p = search rules

  carried_out : (m : Bool) (o : List ℕ) (k : Option History) → IsCarriedOut c h m o k → RunsCommand c h (reply (answer_by m) o).answer (reply (answer_by m) o).printed k
  carried_out m o k is = search rules

  -- a command that arrives is a step
  pub arrived : {T : Type 0} (r : Result T Fault) (a : Answer) (s : Report) →
      IsAnswer r a s → OnOk r (Shows (file_of c) (report_of c h) s) → IfErr r (λ x. is_output x ≡ false) → Arrives e f j (cause_of c h) h (next_of c h) r →
      (k : Option History) × RunsCommand c h (reply a s.printed).answer (reply a s.printed).printed k × GoodIn e f j k
  arrived (Ok v) a s (inl is) shows no_output p = (
    next_of c h,
    subst (λ y. RunsCommand c h (reply y s.printed).answer (reply y s.printed).printed (next_of c h)) (sym is)
        (carried_out s.is_match s.printed (next_of c h) (p.0, shows.is_match, shows.output, refl)),
    p.1,
  )
  arrived (Ok v) a s (inr is) shows no_output p =
      (next_of c h, subst (λ y. RunsCommand c h (reply y s.printed).answer (reply y s.printed).printed (next_of c h)) (sym is.0) (refl, (p.0, refl)), p.1)
  arrived (Err x) a s is shows no_output p =
      let k = refused_step x (is_outer_fault x) no_output refl p in
      (k.0, subst (λ y. RunsCommand c h (reply y s.printed).answer (reply y s.printed).printed k.0) (sym is) (refl, k.1), k.2)

-- ---- what a refused command leaves

-- a command with a cause for a refusal leaves the history
pub stays : (c : Command) (h : Option History) (x : Cause) → cause_of c h ≡ Some x → next_of c h ≡ h
stays c h x is = search rules

-- ---- where nothing fails from outside

abbrev pub is_inside : Answer → Bool
is_inside Done = true
is_inside NoMatch = true
is_inside (Refused e) = not (is_outer_fault e) && not (is_output e)

for_some : (f : List ℕ) (o : Option Cause) (e : Fault) (s : Showing) (r : Reply) → r.answer ≡ Refused e → r.printed ≡ [] → IsFor o e → IsReply f o s r × ((x : Cause) × (o ≡ Some x))
for_some f o e s r is h6 why = search rules

inside_step : (c : Command) (h k : Option History) (e : Fault) → is_outer_fault e ≡ false → is_output e ≡ false → CommandRefused c h e k → IsFor (cause_of c h) e × (k ≡ h)
inside_step c h k e out no_output s = search rules

exact_step : (c : Command) (h k : Option History) (r : Reply) (a : Answer) → r.answer ≡ a → RunsCommand c h a r.printed k → is_inside a ≡ true → StepsExactly c h r k
exact_step c h k r Done is s i = (subst (λ o. IsReply (file_of c) o (report_of c h) r) (sym s.0) (is ∙ ap answer_by s.1, s.2), s.3)
exact_step c h k r NoMatch is s i = (subst (λ o. IsReply (file_of c) o (report_of c h) r) (sym s.0) (is ∙ ap answer_by s.1, s.2), s.3)
exact_step c h k r (Refused e) is s i =
    let out = not-true (is_outer_fault e) (and_parts (not (is_outer_fault e)) (not (is_output e)) i).0 in
    let no_output = not-true (is_output e) (and_parts (not (is_outer_fault e)) (not (is_output e)) i).1 in
    let p = inside_step c h k e out no_output s.1 in
    let q = for_some (file_of c) (cause_of c h) e (report_of c h) r is s.0 p.0 in
    (q.0, p.1 ∙ sym (stays c h q.1.0 q.1.1))

exact_goes : (f j : List ℕ) (c : Command) (h k : Option History) (r : Reply) → Goes f j c h r k → is_inside r.answer ≡ true → GoesExactly f j c h r k
exact_goes f j c h k r s i = search (rules, exact_step)

pub exact_run : (f j : List ℕ) (cs : List Command) (rs : List Reply) (h k : Option History) → RunsAll f j h cs rs k → list_all is_inside (answers_in rs) ≡ true → RunExactly f j h cs rs k
exact_run f j [] [] h k r i = r
exact_run f j (c ∷ cs) (a ∷ rs) h k r i =
    (r.0, exact_goes f j c h r.0 a r.1 (and_parts (is_inside a.answer) (list_all is_inside (answers_in rs)) i).0, exact_run f j cs rs r.0 k r.2 (and_parts (is_inside a.answer) (list_all is_inside (answers_in rs)) i).1)
exact_run f j [] (a ∷ rs) h k r i = absurd r
exact_run f j (c ∷ cs) [] h k r i = absurd r

inside_one : (a : Answer) → reports_failure a ≡ false → reports_output a ≡ false → has_memory a ≡ true → is_inside a ≡ true
inside_one a p o q = search rules

none_first : (passes : Answer → Bool) (a : Answer) (rs : List Answer) → count_passing passes (a ∷ rs) ≡ 0 → (passes a ≡ false) × (count_passing passes rs ≡ 0)
none_first passes a rs h3 = search rules

-- where no answer reports a failure or of want of memory, all come from inside
pub all_inside : (rs : List Answer) → failures_in rs ≡ 0 → output_failures_in rs ≡ 0 → list_all has_memory rs ≡ true → list_all is_inside rs ≡ true
all_inside [] none no_output m = refl
all_inside (a ∷ rs) none no_output m =
    let p = none_first reports_failure a rs none in
    let q = none_first reports_output a rs no_output in
    and_from (is_inside a) (list_all is_inside rs) (inside_one a p.0 q.0 (and_parts (has_memory a) (list_all has_memory rs) m).0)
    (all_inside rs p.1 q.1 (and_parts (has_memory a) (list_all has_memory rs) m).1)
