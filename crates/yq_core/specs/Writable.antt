-- Which styles can write a scalar, and where (own).
use Rattle.std.{specs.Prelude.{ℕ, Bool, true, false, ◌||◌, ◌&&◌, not, ◌==◌, nat_eq, List, [], ◌∷◌}, specs.List.{list_all, ends_with}}
use Rattle.std.specs.Str.{chars}
use Rattle.yq_core.{specs.declared.kind.Kind.Kind, specs.declared.style.Style.Style, specs.declared.style.Place.Place}
use Rattle.yq_core.{specs.PlainText.{is_plain_char, is_plain_text}, specs.Scalar.ScalarText, specs.SchemaReading.resolve}
use Rattle.yq_core.specs.Text.{feed, is_empty, is_feed, is_white, front}
use Rattle.yq_core.specs.declared.kind.Kind.TheVariants as kinds
use Rattle.yq_core.specs.declared.style.Style.TheVariants as styles
use Rattle.yq_core.specs.declared.style.Place.TheVariants as places

-- a string, and no null, bool, int or float (YAML 1.2.2, section 10.3.2)
abbrev pub is_string : Kind → Bool
is_string kinds.Null = false
is_string kinds.Bool = false
is_string kinds.Int = false
is_string kinds.Float = false
is_string kinds.Text = true

-- a place in a flow collection (own)
abbrev pub in_flow : Place → Bool
in_flow places.Block = false
in_flow places.Flow = true
in_flow places.BlockKey = false
in_flow places.FlowKey = true

-- a node's place outside flow collections (own)
abbrev pub in_block : Place → Bool
in_block places.Block = true
in_block places.Flow = false
in_block places.BlockKey = false
in_block places.FlowKey = false

-- a character that single quotes hold as it is (own)
abbrev pub is_single_char : ℕ → Bool
is_single_char c = is_plain_char c || c == 9

-- a character that a literal scalar holds as it is (own)
abbrev pub is_literal_char : ℕ → Bool
is_literal_char c = is_plain_char c || c == 9 || is_feed c

-- a text that a literal scalar holds as it is: not empty, with neither white space nor LF in front, and with one LF at most at its end (own)
abbrev pub is_literal_text : List ℕ → Bool
is_literal_text t =
    not (is_empty t) && not (front is_white t) && not (front is_feed t) && not (ends_with nat_eq t (feed ∷ feed ∷ [])) && list_all is_literal_char (chars t)

-- Plain writes each null, bool, int and float, and the strings that are read as they are (own).
unfoldable pub can_write_plain : ScalarText → Bool → Bool
can_write_plain s flow = not (is_string s.kind) || (is_string (resolve s.text) && is_plain_text flow s.text)

-- Single quotes write the strings of their characters; double quotes every string; and literal, outside flow and keys, the texts that it holds as
-- they are (own).
abbrev pub can_write : ScalarText → Style → Place → Bool
can_write s styles.Plain place = can_write_plain s (in_flow place)
can_write s styles.Single place = is_string s.kind && list_all is_single_char (chars s.text)
can_write s styles.Double place = is_string s.kind
can_write s styles.Literal place = is_string s.kind && in_block place && is_literal_text s.text
can_write s styles.Folded place = false
