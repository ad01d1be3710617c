-- How a command ends, by how a call within it ended.
use Rattle.std.{proofs.Common.{rules, ◌≡◌, ℕ, List, Option, Some, None, Result, Ok, Err, IfErr, Vec, ap, subst}, specs.FinMap.get}
use Rattle.std.specs.declared.alloc.Global.{Global}
use Rattle.yq_journal.{specs.History.History, specs.State.State}
use Rattle.yq_semantics.specs.Program.{Program}
use Rattle.yq_store.specs.FileMap.{FileMap}
use Rattle.yq_fault.{specs.declared.fault.Fault.Fault, specs.declared.fault.Fault.TheVariants.NotThere}
use Rattle.yq_history.{specs.Causes.{Cause, named}, specs.Leaves.LeavesNames, specs.Pair.{Arrives, GoodIn, Opens, PairAtRest}}

-- what holds anyway holds of each error
pub each_error : {T : Type 0} (P : Fault → Type 0) (r : Result T Fault) → ((e : Fault) → P e) → IfErr r P
each_error P r h = search rules

-- where all names hold what they held, a call leaves what it has to
pub all_left : (Others : List ℕ → Type 0) (c e : FileMap) {T : Type 0} (r : Result T Fault) → e ≡ c → LeavesNames Others c e r
all_left Others c e r same = record { kept = each_error _ r (λ x inside. same); others = λ q apart. ap (λ m. get m q) same }

-- the same, by what an expression is
pub arrives_as : (c : FileMap) (f j : List ℕ) {T : Type 0} (r : Result T Fault) (cause : Result Program Cause → Option Cause) (next : Result Program Cause → Option History) (h : Option History) (p q : Result Program Cause) → p ≡ q →
    Arrives c f j (cause p) h (next p) r → Arrives c f j (cause q) h (next q) r
arrives_as c f j r cause next h p q is arrives = subst (λ x. Arrives c f j (cause x) h (next x) r) is arrives

-- ---- from a pair that was opened, or was not

module _ (cause : Option History → Option Cause) (next : Option History → Option History) (m d : FileMap) (f j : List ℕ) {T : Type 0} (r : Result T Fault) where
  pub opened : (p : Vec ℕ Global × State) (h : Option History) → Opens m f j h (Ok p) →
      ((x : History) → PairAtRest m f j p.1 p.0.items x → Arrives d f j (cause (Some x)) (Some x) (next (Some x)) r) → Arrives d f j (cause h) h (next h) r
  opened p h opens go = search rules

  pub unopened : cause None ≡ Some (named NotThere) → (e : Fault) (h : Option History) → r ≡ Err e → Opens m f j h (Err e) → GoodIn m f j h → Arrives m f j (cause h) h (next h) r
  unopened missed e h is out good = search rules
