-- The operations that carry out an update (own).
use Rattle.std.specs.Prelude.{ℕ, suc, Bool, true, false, List, [], ◌∷◌, ◌++◌, map, reverse}
use Rattle.yq_core.specs.Paths.{To}
use Rattle.yq_documents.specs.Documents.{Document}
use Rattle.yq_semantics.specs.declared.program.CommentPlace.{CommentPlace}
use Rattle.yq_semantics.specs.Changes.{Addition, appends, overwrites, replaces, adds, sets_comment, Changed, Room, update_changes}
use Rattle.yq_semantics.{specs.Judgement.{Judgement, and_then, gives}, specs.Meaning.roots_of}
use Rattle.yq_semantics.specs.Operations.{Operation, replace, append, remove, line_comment, head_comment}
use Rattle.yq_semantics.specs.Program.{Update, assign, delete, comment}
use Rattle.yq_core.specs.Paths as paths
use Rattle.yq_semantics.specs.declared.program.CommentPlace.TheVariants as comments
use Rattle.yq_semantics.specs.Changes as changes

-- the operation of an addition at a path in the document of that number (own)
abbrev pub add_op : ℕ → List paths.Step → Addition → Operation
add_op doc path (appends k v) = append doc path k v
add_op doc path (overwrites k v) = replace doc (path ++ To k ∷ []) v

-- the operation that sets a comment (own)
abbrev pub comment_op : ℕ → List paths.Step → CommentPlace → List ℕ → Operation
comment_op doc path comments.Line text = line_comment doc path text
comment_op doc path comments.Head text = head_comment doc path text

-- the operations of a change (own)
abbrev pub change_ops : ℕ → Changed → List Operation
change_ops doc (path, replaces v) = replace doc path v ∷ []
change_ops doc (path, adds xs) = map (add_op doc path) xs
change_ops doc (path, changes.removes) = remove doc path ∷ []
change_ops doc (path, sets_comment place text) = comment_op doc path place text ∷ []

-- those of changes, one after the other (own)
abbrev pub ops_of : ℕ → List Changed → List Operation
ops_of doc [] = []
ops_of doc (c ∷ cs) = change_ops doc c ++ ops_of doc cs

-- whether an update is a removal (own)
abbrev pub is_removal : Update → Bool
is_removal (assign left operator right) = false
is_removal (delete left) = true
is_removal (comment left place text) = false

-- changes in the order in which they are made: removals are made last to first (own)
abbrev pub ordered : Bool → List Changed → List Changed
ordered true cs = reverse cs
ordered false cs = cs

-- the operations of changes in documents, from the one of that number on (own)
abbrev pub all_ops : Bool → ℕ → List (List Changed) → List Operation
all_ops removal n [] = []
all_ops removal n (cs ∷ css) = ops_of n (ordered removal cs) ++ all_ops removal (suc n) css

-- the operations that carry out an update, or the first refusal (own)
abbrev pub plan : Update → (ℕ → Room) → List Document → Judgement (List Operation)
plan u rooms docs = and_then (λ css. gives (all_ops (is_removal u) 0 css)) (update_changes u rooms (roots_of docs))
