use Rattle.std.{proofs.Common.{sym, subst, List, ℕ}, proofs.lemmas.Str.IsUtf8-drop, specs.Str.IsUtf8}
use Rattle.yq_core.proofs.PieceContentLaws.{scalar_of, boundary_end}
use Rattle.yq_scalar.proofs.piece_content.piece_text.Goals as goal

pub split_at-requires-2 : goal.split_at-requires-2
split_at-requires-2 c =
    let text : List ℕ = c.args.text.now in
    let piece = c.args.piece.now in
    let utf8 : IsUtf8 c.split_at.result.1.now = subst IsUtf8 (sym c.split_at.ensures.back) (IsUtf8-drop text piece.start c.utf8.text c.requires.begins) in
    boundary_end text _ piece (scalar_of text piece c.requires) c.split_at.ensures.back utf8
