-- The calls of a command, from those of the calls of which it is made.
use Rattle.std.proofs.Common.{◌≡◌, inl, inr, false, List, [], ◌∷◌, ◌++◌, Result, Ok, Err, is_ok, sym, subst, refl}
use Rattle.yq_semantics.specs.Program.{Program}
use Rattle.yq_args.specs.declared.command.Command.{Command}
use Rattle.yq_history.{specs.Causes.Cause, specs.Report.Report}
use Rattle.yq_fault.specs.declared.fault.Fault.{Fault}
use Rattle.yq_store.specs.Calls.{Call}
use Rattle.yq_commands.{specs.declared.answer.Answer.Answer, specs.Lists.IsAnswer, specs.Calls.{CallsOf, CallsOfAll, IfProgram}}

module _ {S : Type 0} (leads : S → Call → S → Type 0) where
  module _ {T : Type 0} (r : Result T Fault) (next : Program → S → S → Type 0) (s : S) where
    -- no call was made before the fault
    pub none_yet : (q : Result Program Cause) → is_ok r ≡ false → IfProgram leads r q next s s
    none_yet (Ok p) bad = inl (bad, refl)
    none_yet (Err x) bad = refl

    -- the calls after the expression was read
    pub parsed_calls : (q : Result Program Cause) (p : Program) (t : S) → q ≡ Ok p → next p s t → IfProgram leads r q next s t
    parsed_calls q p t is k = subst (λ x. IfProgram leads r x next s t) (sym is) (inr k)

  -- one command more
  pub calls_more : (cs : List Command) (as' : List Answer) (c : Command) (r : Result (Unit {0}) Fault) (a : Answer) (o : Report) (s m t : S) →
      CallsOfAll leads cs as' s m → IsAnswer r a o → CallsOf leads r c m t → CallsOfAll leads (cs ++ c ∷ []) (as' ++ a ∷ []) s t
  calls_more [] [] c r a o s m t all answered one = (r, o, answered, t, subst (λ x. CallsOf leads r c x t) all one, refl)
  calls_more (d ∷ cs) (b ∷ as') c r a o s m t all answered one = (all.0, all.1, all.2, all.3, all.4, calls_more cs as' c r a o all.3 m t all.5 answered one)
  calls_more [] (b ∷ as') c r a o s m t all answered one = absurd all
  calls_more (d ∷ cs) [] c r a o s m t all answered one = absurd all
