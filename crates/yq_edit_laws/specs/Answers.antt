-- What an answer to an edit says.
use Rattle.std.specs.Prelude.{◌≡◌, Result, Ok, Err, string_bytes}
use Rattle.yq_semantics.specs.Judgement.{ExprError}
use Rattle.yq_text.specs.declared.edited.Edited.{Edited}
use Rattle.yq_edit_laws.specs.Edit.{Edit, refuses, gives}
use Rattle.yq_failure.specs.declared.failure.Failure.TheVariants as failure

-- what an error says of an edit; lack of memory says nothing (own)
abbrev pub EditFails : ExprError → Edit → Type 0
EditFails (failure.Fault why) edit = edit ≡ refuses why
EditFails failure.Memory edit = Unit {0}

-- the answer is what the edit gives (own)
abbrev pub Edits : Result Edited ExprError → Edit → Type 0
Edits (Ok e) edit = edit ≡ gives (string_bytes e.text) e.splices.items
Edits (Err e) edit = EditFails e edit
