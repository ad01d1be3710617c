-- Steps that are missing.
use Rattle.std.proofs.Common.{◌≡◌, List, [], ◌∷◌, ◌++◌, refl, false}
use Rattle.yq_core.specs.Tree.{Node}
use Rattle.yq_semantics.{specs.Changes.{add_below, is_there, put_with_path}, specs.Places.FoundPlace, specs.Program.PathStep}

-- something is missing where a step is
pub not_there : (front : List PathStep) (s : PathStep) → is_there (front ++ s ∷ []) ≡ false
not_there [] s = refl
not_there (m ∷ ms) s = refl

-- what is added there is put there
pub added_missing : (front : List PathStep) (s : PathStep) (p : FoundPlace) (v : Node) → add_below (front ++ s ∷ []) p v ≡ put_with_path p v
added_missing [] s p v = refl
added_missing (m ∷ ms) s p v = refl
