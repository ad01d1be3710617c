-- Operations of which the first ones were carried out together on a text, and how operations are (own).
use Rattle.std.specs.Prelude.{◌≡◌, ⊤, ℕ, List, Option, IfSome, string_bytes}
use Rattle.yq_semantics.{specs.Operations.operations_of, specs.declared.op.Op.Op}
use Rattle.yq_edit_laws.{specs.Carried.carry_all, specs.Edit.{Edit, edit_after}, specs.Valid.AreServed}
use Rattle.yq_batch.{specs.Runs.IsFoundHead, specs.declared.together.Together.Together, specs.declared.together.HowCarried.HowCarried}
use Rattle.yq_batch.specs.declared.together.HowCarried.TheVariants.{InHeads, OutOfHeads}

-- what operations give of which the first ones were carried out together, with those that are left (own)
abbrev pub all_of : Together → Edit
all_of x = edit_after x.edited.splices.items (carry_all (operations_of x.left.now) (string_bytes x.edited.text))

-- The first of some operations were carried out together, and the others then give what all give (own).
pub record CarriesSome (all : Edit) (x : Together) : Type 0 where
  pub whole : all_of x ≡ all
  pub serves : AreServed (operations_of x.left.now) (string_bytes x.edited.text)

-- the same of operations on a text (own)
abbrev pub CarriesFirst : List Op → List ℕ → Together → Type 0
CarriesFirst ops t x = CarriesSome (carry_all (operations_of ops) t) x

-- the same of what the code made of them, if it did (own)
abbrev pub CarriesTogether : List Op → List ℕ → Option Together → Type 0
CarriesTogether ops t o = IfSome o (CarriesFirst ops t)

-- a head that was found for operations is in a text (own)
abbrev pub IsHow : List ℕ → HowCarried → Type 0
IsHow t (InHeads x) = IsFoundHead t x
IsHow t (OutOfHeads x) = IsFoundHead t x
IsHow t _ = ⊤
