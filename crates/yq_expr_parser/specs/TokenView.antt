-- The token that a value of the code means.
use Rattle.yq_semantics.specs.Tokens.{Token}
use Rattle.yq_expr_parser.specs.Lexing.{token_of}
use Rattle.yq_expr_parser.specs.declared.token.Token as code

-- the token that a piece of a text in the code means (own)
abbrev pub token_view : code.Token → Token
token_view t = token_of t.form t.piece.now
