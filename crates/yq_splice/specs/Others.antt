-- Operations that are left where others were carried out together on a text that was read once (own).
use Rattle.std.specs.Prelude.{◌≡◌, ◌<◌, length, string_bytes}
use Rattle.yq_semantics.specs.Operations.{operations_of}
use Rattle.yq_edit_laws.specs.Valid.{AreServed}
use Rattle.yq_batch.{specs.Together.all_of, specs.declared.together.Together.Together}

-- of operations of which the first ones were carried out, the others may follow on the text (own)
abbrev pub LeftAreServed : Together → Type 0
LeftAreServed x = AreServed (operations_of x.left.now) (string_bytes x.edited.text)

-- More of them were carried out: all give what they gave, and fewer are left (own).
pub record CarriesMore (before after : Together) : Type 0 where
  pub whole : all_of after ≡ all_of before
  pub serves : LeftAreServed after
  pub fewer : length after.left.now < length before.left.now
