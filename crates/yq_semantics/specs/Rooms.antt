-- What a text has room for, document by document (own).
use Rattle.std.specs.Prelude.{ℕ, List, slice_get, Bool}
use Rattle.yq_core.{specs.Answers.◌>>=◌, specs.Paths.Step}
use Rattle.yq_documents.{specs.declared.path.Part.Part, specs.declared.path.Part.TheVariants.{HeadComment, LineComment}}
use Rattle.yq_documents.{specs.Documents.document_parts, specs.Reading.{cut_of, documents_of}, specs.Ready.{root_is_block, TextIsReady}}
use Rattle.yq_documents.specs.LinesInRows.{row_line_of, row_line_has_room}
use Rattle.yq_semantics.{specs.declared.program.CommentPlace.CommentPlace, specs.Changes.Room, specs.Meaning.AreReady}
use Rattle.yq_semantics.specs.declared.program.CommentPlace.TheVariants as comments

-- the part of an entry or item that a comment is (own)
abbrev pub comment_part : CommentPlace → Part
comment_part comments.Line = LineComment
comment_part comments.Head = HeadComment

-- whether a text has room for a comment of what steps lead to in document i (own)
abbrev pub has_room_in : List ℕ → ℕ → CommentPlace → List Step → Bool
has_room_in t i place steps = row_line_has_room (comment_part place) (slice_get (document_parts (cut_of t)) i >>= λ p. row_line_of steps p.rows)

-- what a text has room for in document i (own)
abbrev pub room_of : List ℕ → ℕ → Room
room_of t i = record { block = root_is_block t i; has = has_room_in t i }

-- The documents of a text that reads are ready, with the room that the text has (own).
abbrev pub RoomsAreReady : Type 0
RoomsAreReady = (t : List ℕ) → TextIsReady t → AreReady (room_of t) 0 (documents_of t)
