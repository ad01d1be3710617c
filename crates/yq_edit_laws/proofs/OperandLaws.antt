-- The operands of the code's operations are valid where their values are.
use Rattle.std.{proofs.Common.{Option, Some, None, option_map, String, string_bytes}, specs.declared.alloc.Global.Global}
use Rattle.std.{proofs.lemmas.Str.IsUtf8-string_bytes, specs.Str.IsUtf8}
use Rattle.yq_edit_rules.specs.Operands.{KeyIsUtf8}

pub text_valid : (text : String Global) → IsUtf8 (string_bytes text)
text_valid text = IsUtf8-string_bytes text

pub key_valid : (key : Option (String Global)) → KeyIsUtf8 (option_map string_bytes key)
key_valid None = tt
key_valid (Some text) = text_valid text
