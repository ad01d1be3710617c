use Rattle.std.proofs.Common.{◌-◌, refl}
use Rattle.yq_core.{specs.Piece.further_spaces, specs.Writable.in_flow, specs.Inline.depth_limit, specs.Nodes.node_text}
use Rattle.yq_core.{proofs.InlineLaws.{inline_takes, inline_again}, proofs.NodeLaws.one_node}
use Rattle.yq_inline.proofs.laws.one_inline.Goals as goal

pub returns : goal.returns
returns c = record {
  takes = inline_takes;
  again = inline_again;
  one = λ place n depth a b rest other same x y. one_node (in_flow place) (further_spaces place n) (depth_limit - depth) (node_text a rest) a b rest other refl x.valid same y.valid;
}
