-- What is known of a program of which the first updates were carried out (own).
use Rattle.std.specs.Prelude.{◌≡◌, ℕ, List, take, Result, IfOk, IfErr, string_bytes}
use Rattle.yq_semantics.{specs.Program.{Program, Update, updates}, specs.Judgement.ExprError}
use Rattle.yq_text.{specs.Splice.Splice, specs.declared.edited.Edited.Edited}
use Rattle.yq_edit_laws.{specs.Theorems.InOrder, specs.Valid.{FailsEach, IsStep}}

-- the first updates of a program, so many, lead from a text to another one by splices (own)
abbrev pub HaveLed : Program → List ℕ → ℕ → List ℕ → List Splice → Type 0
HaveLed p t n m cs = (us : List Update) → p ≡ updates us → InOrder IsStep (take n us) t m cs

-- an error is what the updates of a program give on a text (own)
abbrev pub HaveFailed : Program → List ℕ → ExprError → Type 0
HaveFailed p t e = (us : List Update) → p ≡ updates us → FailsEach e us t

-- where the first updates, so many, lead to a text by splices, so many as the answer counts lead to its text by its splices (own)
abbrev pub LeadOn : Program → ℕ → List ℕ → List Splice → Result (Edited × ℕ) ExprError → Type 0
LeadOn p n m cs result = (t : List ℕ) → HaveLed p t n m cs → IfOk result (λ x. HaveLed p t x.1 (string_bytes x.0.text) x.0.splices.items)

-- where the first updates, so many, lead to a text by splices, an answer's error is what the updates give (own)
abbrev pub FailAfter : Program → ℕ → List ℕ → List Splice → Result (Edited × ℕ) ExprError → Type 0
FailAfter p n m cs result = (t : List ℕ) → HaveLed p t n m cs → IfErr result (λ e. HaveFailed p t e)
