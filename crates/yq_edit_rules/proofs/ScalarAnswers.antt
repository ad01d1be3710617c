-- What is asked of the scalar at a place, by what the code finds.
use Rattle.std.{proofs.Common.{rules, ◌≡◌, Bool, false, Option, Some, None, is_some, option_and_then}, proofs.lemmas.Bool.false≢true}
use Rattle.yq_core.{specs.Scalar.ScalarText, specs.Tree.Node}
use Rattle.yq_places.specs.NodesAt.{scalar_in}
use Rattle.yq_edit_rules.{specs.ReplaceEdits.{has_text, holds_text}, specs.Replacing.{are_same, keeps_scalar}}

-- whether it has a text
pub no_text : (o : Option Node) → None ≡ option_and_then scalar_in o → false ≡ has_text o
no_text o e = search rules

pub has_text_agrees : (o : Option Node) (s : ScalarText) (b : Bool) → Some s ≡ option_and_then scalar_in o → b ≡ holds_text (Some s) → b ≡ has_text o
has_text_agrees o s b e holds = search rules

pub no_scalar : (o : Option Node) (v : Node) → is_some (scalar_in v) ≡ false → false ≡ keeps_scalar o v
no_scalar o v h2 = search (rules, false≢true)

pub not_kept : (o : Option Node) (v : Node) → None ≡ option_and_then scalar_in o → false ≡ keeps_scalar o v
not_kept o v e = search rules

pub kept_agrees : (o : Option Node) (v : Node) (s : ScalarText) (b : Bool) → Some s ≡ option_and_then scalar_in o → b ≡ are_same (Some s) (scalar_in v) → b ≡ keeps_scalar o v
kept_agrees o v s b e same = search rules
