-- What a scalar holds: its kind, and its text, which is in it where it is short (own).
use Rattle.std.specs.Prelude.{string_bytes}
use Rattle.yq_core.{specs.Scalar.ScalarText, specs.declared.scalar.ScalarData.ScalarData}
use Rattle.yq_core.specs.declared.scalar.ScalarData.TheVariants.{Short, Long}

-- the kind and the text (own)
abbrev pub data_text : ScalarData → ScalarText
data_text (Short kind text) = record { kind = kind; text = text.bytes }
data_text (Long kind text) = record { kind = kind; text = string_bytes text }
