-- What the comments in pieces of a text tell (own).
use Rattle.std.specs.Prelude.{ℕ, List, [], drop, Option, Some, None, option_map, ◌≡◌}
use Rattle.yq_core.{specs.Answers.◌>>=◌, specs.Text.text_lines}
use Rattle.yq_row_table.specs.Rows.{Cut}
use Rattle.yq_documents.{specs.declared.path.Path.Path, specs.Located.labelled_located, specs.Reading.read_at, specs.Texts.texts}
use Rattle.yq_documents.specs.Pieces.{TextPiece}
use Rattle.yq_outline.{specs.Comments.less_space, specs.Labelled.Labelled}
use Rattle.yq_places.specs.PathPieces.{path_piece}
use Rattle.yq_documents.specs.declared.path.Part.TheVariants as parts
use Rattle.yq_documents.specs.declared.path.Part.TheVariants as parts

-- the text of the comment in a piece: what follows its `#`, less one leading space
abbrev pub comment_of : TextPiece → List ℕ
comment_of p = less_space (drop 1 p.text)

-- the texts of the comment lines in a piece; none where there is no piece
abbrev pub comments_of : Option TextPiece → List (List ℕ)
comments_of None = []
comments_of (Some p) = texts (text_lines p.text)

-- the head comment that is known of an entry or item; none where there is none
abbrev pub head_comment_of : Option Labelled → List (List ℕ)
head_comment_of None = []
head_comment_of (Some x) = x.0.head_comment

-- The comments that the tree has at a path are those that are at their places, and it has none where there is no place.
abbrev pub CommentsAreThere : Type 0
CommentsAreThere =
    (t : List ℕ) (c : Cut) (p : Path) → read_at t ≡ Some c →
    ((labelled_located p t >>= λ x. x.0.line_comment) ≡ option_map comment_of (path_piece p parts.LineComment c))
    × (head_comment_of (labelled_located p t) ≡ comments_of (path_piece p parts.HeadComment c))
