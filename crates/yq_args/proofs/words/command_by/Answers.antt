use Rattle.std.{proofs.Common.{◌≡◌, ◌∷◌, [], ◌∙◌, inl, inr, sym}, proofs.lemmas.Result.IfErr-weaker}
use Rattle.clap.{specs.Kinds.Kinds, specs.declared.error.kind.ErrorKind.ErrorKind}
use Rattle.yq_args.proofs.words.command_by.Goals as goal

pub returns-in-Err-clause-err : goal.returns-in-Err-clause-err
returns-in-Err-clause-err c =
    IfErr-weaker c.without_matches.result _ _ (λ fault. elim [
      | inl memory ↦ inl memory.0
      | inr usage ↦ inr (usage.0, λ takes. absurd (usage.1 (c.kind.ensures ∙ c.in-Err.ensures.passes takes)))
    ]) c.without_matches.ensures.err

-- clap reads no call for help in words that it takes
no_call : (kinds : Kinds) (k : ErrorKind) → kinds ≡ [] → kinds ≡ k ∷ [] → ⊥
no_call kinds k none one = let e : [] ≡ k ∷ [] = sym none ∙ one in cc

pub returns-in-Some-clause-called : goal.returns-in-Some-clause-called
returns-in-Some-clause-called c = λ asked one. absurd (no_call _ _ c.in-Ok.ensures.kinds one)

pub returns-clause-called : goal.returns-clause-called
returns-clause-called c = λ asked one. absurd (no_call _ _ c.in-Ok.ensures.kinds one)
