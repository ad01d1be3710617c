-- Heads that are found for a path, and what is taken out of collections of these (own).
use Rattle.std.specs.Prelude.{◌≡◌, ℕ, List, ◌++◌, map, Option, IfSome}
use Rattle.yq_core.{specs.Paths.Step, specs.Entries.tree_step}
use Rattle.yq_documents.{specs.Located.steps_of, specs.declared.path.Path.Path}
use Rattle.yq_semantics.specs.Operations.{Operation}
use Rattle.yq_batch.{specs.Runs.{EndsAt, cut_with, stem_of}, specs.RemovalRuns.RemovesOn, specs.declared.head.FoundHead.FoundHead}
use Rattle.yq_batch.{specs.declared.head.HeadInText.HeadInText, specs.declared.removals.RemovalRun.RemovalRun}
use Rattle.yq_batch.specs.declared.gone.LeftOf.{LeftOf}
use Rattle.yq_core.specs.declared.path.Step as declared

-- steps of a document lead to the collection for which a head was found
abbrev pub IsFoundFor : ℕ → List Step → FoundHead → Type 0
IsFoundFor n steps x = (x.doc ≡ n) × (steps ≡ map tree_step x.stem.now ++ map tree_step x.head.left.now)

-- the same of a head in a text
abbrev pub LeadsToCollection : HeadInText → List declared.Step → Type 0
LeadsToCollection x front = map tree_step front ≡ stem_of x ++ map tree_step x.head.left.now

-- a path ends in the collection of a head to which these steps lead on in that
abbrev pub EndsInHead : HeadInText → List declared.Step → Path → Type 0
EndsInHead x steps p = (p.doc ≡ x.doc) × EndsAt (stem_of x) (map tree_step steps) (steps_of p)

-- where an operation was carried out on the text of a run of a head, that goes on
abbrev pub MayRemoveOn : Operation → HeadInText → (before after : RemovalRun) → Option (Option LeftOf) → Type 0
MayRemoveOn op x before after o = IfSome o (λ next. RemovesOn op (cut_with x) x.doc (stem_of x) before next after)
