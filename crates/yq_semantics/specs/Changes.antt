-- What an update changes in a document: where, and what there; or the first refusal (yq manual; own).
use Rattle.std.specs.Prelude.{ℕ, suc, ◌+◌, nat_lt, ◌==◌, Bool, true, false, not, ◌&&◌, ◌||◌, List, [], ◌∷◌, ◌++◌, length, Option, Some}
use Rattle.std.{specs.Prelude.{None, is_some, if◌then◌else◌}, specs.List.{list_any, list_all}, specs.Str.{bytes_eq, chars}}
use Rattle.yq_core.{specs.Characters.is_text_char, specs.Keys.depth, specs.declared.style.Place.TheVariants.FlowKey}
use Rattle.yq_core.{specs.Paths.{To, child_at, node_at}, specs.Scalar.string_of}
use Rattle.yq_core.{specs.Tree.{Node, alias, scalar, list, Children, none, child, children_of, key_label}, specs.Inline.depth_limit}
use Rattle.yq_core.{specs.NodesWritten.scalar_text, specs.Anchors.{Name, Anchors, Refers, names_of, names_in}, specs.FitKeys.key_limit}
use Rattle.yq_semantics.specs.declared.program.CommentPlace.{CommentPlace}
use Rattle.yq_semantics.specs.declared.refusal.Refusal.TheVariants.{IndexOutOfRange, ThroughAlias, AnchorInUse, KindMismatch}
use Rattle.yq_semantics.specs.declared.refusal.Refusal.TheVariants.{NoPlaceForComment, BadCommentText, RootDelete, TooDeep, KeyTooLong}
use Rattle.yq_semantics.specs.Judgement.{Judgement, and_then, gives, refuses}
use Rattle.yq_semantics.{specs.Program.{is_index, PathStep, key, index, each, Stage, Update, assign, delete, comment}, specs.Pipes.places}
use Rattle.yq_semantics.{specs.Places.{FoundPlace, root_place, for_each}, specs.RightValues.{is_null, as_items, sum, right_value}}
use Rattle.yq_core.specs.Paths as paths
use Rattle.yq_core.specs.Tree as tree
use Rattle.yq_semantics.specs.declared.program.CommentPlace.TheVariants as comments
use Rattle.yq_semantics.specs.declared.program.Operator.TheVariants as operator

-- what a collection gets: one item or entry more, or a new value for a key that it has (own)
pub data Addition : Type 0 where
  appends : Option (List ℕ) → Node → Addition
  overwrites : List ℕ → Node → Addition

-- what is changed at a node: it is replaced by a value, gets more, is removed, or has the text of a comment set (own)
pub data Change : Type 0 where
  replaces : Node → Change
  adds : List Addition → Change
  removes : Change
  sets_comment : CommentPlace → List ℕ → Change

-- a change, and the path to the node (own)
abbrev pub Changed : Type 0
Changed = List paths.Step × Change

-- What a document's text has room for: whether a collection at its root is block, and which comments at which paths (own).
pub record Room : Type 0 where
  pub block : Bool
  pub has : CommentPlace → List paths.Step → Bool

-- ---- at a place

-- a value under missing keys, a mapping of one entry for each (own)
abbrev pub nested : List PathStep → Node → Node
nested [] v = v
nested (key k ∷ ms) v = tree.map None (child (key_label (Some k)) (nested ms v) none)
nested (index i ∷ ms) v = nested ms v
nested (each ∷ ms) v = nested ms v

-- the key of a step (own)
abbrev pub step_key : PathStep → Option (List ℕ)
step_key (key k) = Some k
step_key (index i) = None
step_key each = None

-- a value under missing keys below a node: a mapping gets an entry more, and a null is replaced by a mapping (own)
abbrev pub created : Node → PathStep → List PathStep → Node → Change
created (tree.map anchor cs) m ms v = adds (appends (step_key m) (nested ms v) ∷ [])
created n m ms v = replaces (nested (m ∷ ms) v)

-- a value at a place: no item can be made (own)
abbrev pub put_below : Node → List PathStep → Node → Judgement Change
put_below n [] v = gives (replaces v)
put_below n (m ∷ ms) v = if list_any is_index (m ∷ ms) then refuses IndexOutOfRange else gives (created n m ms v)

-- the same with the path (own)
abbrev pub put_with_path : FoundPlace → Node → Judgement (List Changed)
put_with_path p v = and_then (λ c. gives ((p.path, c) ∷ [])) (put_below p.node p.missing v)

-- an entry for a mapping with these entries (own)
abbrev pub addition : Children → Option (List ℕ) → Node → Addition
addition cs None v = appends None v
addition cs (Some k) v = if is_some (child_at (To k) cs) then overwrites k v else appends (Some k) v

-- items or entries for a collection with these (own)
abbrev pub additions : Children → Children → List Addition
additions cs none = []
additions cs (child label v ds) = addition cs label.key v ∷ additions cs ds

-- the entries of a value for a mapping (own)
abbrev pub added_entries : Children → Node → Judgement Change
added_entries cs (tree.map anchor ds) = gives (adds (additions cs ds))
added_entries cs n = refuses KindMismatch

-- a value that is added to a node (own)
abbrev pub added : Node → Node → Judgement Change
added (alias name) v = refuses ThroughAlias
added (scalar anchor kind text) v = and_then (λ w. gives (replaces w)) (sum (scalar None kind text) v)
added (list anchor cs) v = gives (adds (additions none (as_items v)))
added (tree.map anchor cs) v = added_entries cs v

-- a value that is added at a place of which these steps are missing (own)
abbrev pub add_below : List PathStep → FoundPlace → Node → Judgement (List Changed)
add_below [] p v = and_then (λ c. gives ((p.path, c) ∷ [])) (added p.node v)
add_below (m ∷ ms) p v = put_with_path p v

-- the same of a place; null adds nothing (own)
abbrev pub add_at : FoundPlace → Node → Judgement (List Changed)
add_at p v = if is_null v then gives [] else add_below p.missing p v

-- what is removed at a path of which these steps are missing: what is missing is not, and a root can't be (own)
abbrev pub remove_below : List PathStep → List paths.Step → Judgement (List Changed)
remove_below (m ∷ ms) x = gives []
remove_below [] [] = refuses RootDelete
remove_below [] (s ∷ x) = gives ((s ∷ x, removes) ∷ [])

-- the same of a place (own)
abbrev pub remove_at : FoundPlace → Judgement (List Changed)
remove_at p = remove_below p.missing p.path

-- whether nothing is missing (own)
abbrev pub is_there : List PathStep → Bool
is_there [] = true
is_there (m ∷ ms) = false

-- the text of a comment that is set at a place (own)
abbrev pub comment_at : Room → CommentPlace → List ℕ → FoundPlace → Judgement (List Changed)
comment_at room place text p =
    if is_there p.missing && room.has place p.path then gives ((p.path, sets_comment place text) ∷ []) else refuses NoPlaceForComment

-- ---- what refuses a change

-- whether a key has too many characters as it is written in flow mappings, without quotes if it can be (YAML 1.2.2, section 7.4.2)
abbrev pub is_long_key : List ℕ → Bool
is_long_key k = nat_lt key_limit (length (chars (scalar_text (string_of k) FlowKey)))

-- a key is there, and too long (own)
abbrev pub is_overlong_key : Option (List ℕ) → Bool
is_overlong_key None = false
is_overlong_key (Some k) = is_long_key k

abbrev mutual
  -- whether a value has too long a key (own)
  pub has_long_key : Node → Bool
  has_long_key (alias name) = false
  has_long_key (scalar anchor kind text) = false
  has_long_key (list anchor cs) = have_long_key cs
  has_long_key (tree.map anchor cs) = have_long_key cs

  -- the same of items or entries (own)
  pub have_long_key : Children → Bool
  have_long_key none = false
  have_long_key (child label n cs) = is_overlong_key label.key || (has_long_key n || have_long_key cs)

-- whether too long a key would be written (own)
abbrev pub writes_long_key : Addition → Bool
writes_long_key (appends k v) = is_overlong_key k || has_long_key v
writes_long_key (overwrites k v) = has_long_key v

-- the same of a change (own)
abbrev pub is_too_long : Change → Bool
is_too_long (replaces v) = has_long_key v
is_too_long (adds xs) = list_any writes_long_key xs
is_too_long removes = false
is_too_long (sets_comment place text) = false

-- the value of an addition (own)
abbrev pub value_in : Addition → Node
value_in (appends k v) = v
value_in (overwrites k v) = v

-- whether so many collections, and those of a value in them, are too many (own)
abbrev pub is_deep : ℕ → Node → Bool
is_deep n v = nat_lt depth_limit (n + depth v)

-- whether collections would be nested too deep, below so many (own)
abbrev pub is_too_deep : ℕ → Change → Bool
is_too_deep n (replaces v) = is_deep n v
is_too_deep n (adds xs) = list_any (λ x. is_deep (suc n) (value_in x)) xs
is_too_deep n removes = false
is_too_deep n (sets_comment place text) = false

-- whether this is an alias of that name (own)
abbrev pub refers_to : List ℕ → Name → Bool
refers_to k (Anchors a) = false
refers_to k (Refers a) = bytes_eq k a

-- whether this is an anchor that some alias names (own)
abbrev pub is_used : List Name → Name → Bool
is_used names (Anchors a) = list_any (refers_to a) names
is_used names (Refers a) = false

-- whether some anchor in a node, its own excepted, is named by an alias (own)
abbrev pub is_used_inside : List Name → Option Node → Bool
is_used_inside names None = false
is_used_inside names (Some n) = list_any (is_used names) (names_in (children_of n))

-- whether some anchor of a node is (own)
abbrev pub is_used_in : List Name → Option Node → Bool
is_used_in names None = false
is_used_in names (Some n) = list_any (is_used names) (names_of n)

-- whether what is overwritten by an addition holds an anchor that an alias names (own)
abbrev pub overwrites_used : Node → List paths.Step → Addition → Bool
overwrites_used root x (appends k v) = false
overwrites_used root x (overwrites k v) = is_used_inside (names_of root) (node_at (x ++ To k ∷ []) root)

-- whether what is removed or overwritten does (own)
abbrev pub takes_used : Node → List paths.Step → Change → Bool
takes_used root x (replaces v) = is_used_inside (names_of root) (node_at x root)
takes_used root x (adds xs) = list_any (overwrites_used root x) xs
takes_used root x removes = is_used_in (names_of root) (node_at x root)
takes_used root x (sets_comment place text) = false

-- a change that nothing refuses (own)
abbrev pub allowed : Node → Changed → Judgement Changed
allowed root c =
    if is_too_long c.1 then refuses KeyTooLong
    else (if is_too_deep (length c.0) c.1 then refuses TooDeep
    else (if takes_used root c.0 c.1 then refuses AnchorInUse else gives c))

-- changes that nothing refuses, or the first refusal (own)
abbrev pub all_allowed : Node → List Changed → Judgement (List Changed)
all_allowed root cs = for_each (λ c. and_then (λ d. gives (d ∷ [])) (allowed root c)) cs

-- ---- in a document

-- what is changed at each of several places (own)
abbrev pub at_each : Node → (FoundPlace → Judgement (List Changed)) → List FoundPlace → Judgement (List Changed)
at_each root f ps = for_each (λ p. and_then (all_allowed root) (f p)) ps

-- what is changed at places by one value, which is evaluated if there are any (own)
abbrev pub with_value : Node → Judgement Node → (FoundPlace → Node → Judgement (List Changed)) → List FoundPlace → Judgement (List Changed)
with_value root right f [] = gives []
with_value root right f (p ∷ ps) = and_then (λ v. at_each root (λ q. f q v) (p ∷ ps)) right

-- what an update changes at places of the document of that number (own)
abbrev pub changes_at : ℕ → Room → Node → Update → List FoundPlace → Judgement (List Changed)
changes_at doc room root (assign left operator.Set right) ps = with_value root (right_value doc right (root_place root)) put_with_path ps
changes_at doc room root (assign left operator.Modify right) ps = at_each root (λ p. and_then (put_with_path p) (right_value doc right p)) ps
changes_at doc room root (assign left operator.Add right) ps = with_value root (right_value doc right (root_place root)) add_at ps
changes_at doc room root (delete left) ps = at_each root remove_at ps
changes_at doc room root (comment left place text) ps = at_each root (comment_at room place text) ps

-- the pipe of an update's left side (own)
abbrev pub left_pipe : Update → List Stage
left_pipe (assign left operator right) = left
left_pipe (delete left) = left
left_pipe (comment left place text) = left

-- what an update changes in the document of that number (own)
abbrev pub changes_in : Update → ℕ → Room → Node → Judgement (List Changed)
changes_in u doc room root = and_then (changes_at doc room root u) (places doc (left_pipe u) root)

-- whether a comment can have a text: each character can be in a text, and in a line comment none is a break (own)
abbrev pub can_be_comment : CommentPlace → List ℕ → Bool
can_be_comment comments.Line text = list_all (λ c. is_text_char c && (not (c == 10) && not (c == 13))) (chars text)
can_be_comment comments.Head text = list_all (λ c. is_text_char c && not (c == 13)) (chars text)

-- whether an update's text can be that of a comment (own)
abbrev pub has_comment : Update → Bool
has_comment (assign left operator right) = true
has_comment (delete left) = true
has_comment (comment left place text) = can_be_comment place text

-- what an update changes in each document, from the one of that number on (own)
abbrev pub changes_from : Update → (ℕ → Room) → ℕ → List Node → Judgement (List (List Changed))
changes_from u rooms n [] = gives []
changes_from u rooms n (root ∷ roots) =
    and_then (λ first. and_then (λ others. gives (first ∷ others)) (changes_from u rooms (suc n) roots)) (changes_in u n (rooms n) root)

-- what an update changes in documents with these roots (own)
abbrev pub update_changes : Update → (ℕ → Room) → List Node → Judgement (List (List Changed))
update_changes u rooms roots = if has_comment u then changes_from u rooms 0 roots else refuses BadCommentText
