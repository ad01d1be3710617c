-- Updates worked out: what they change, or why they are refused.
use Rattle.std.{proofs.Common.{◌≡◌, ℕ, true, false, List, [], ◌∷◌, Some, None, refl}, specs.Prelude.{codes, pos, negsuc}, specs.Str.chars}
use Rattle.yq_core.{specs.Paths.To, specs.SchemaReading.{resolve, is_int, is_float}}
use Rattle.yq_core.{specs.Tree.{Node, alias, scalar, list, map, Children, none, child, key_label}, specs.Writable.can_write_plain}
use Rattle.yq_core.specs.NodesWritten.{scalar_text}
use Rattle.yq_documents.specs.Documents.{Document}
use Rattle.yq_semantics.specs.declared.refusal.Refusal.TheVariants.{NotAMap, NotASequence, IndexOutOfRange, ThroughAlias, AnchorInUse}
use Rattle.yq_semantics.specs.declared.refusal.Refusal.TheVariants.{NotOneValue, KindMismatch, FloatArithmetic, NoPlaceForComment}
use Rattle.yq_semantics.specs.declared.refusal.Refusal.TheVariants.{BadCommentText, RootDelete}
use Rattle.yq_semantics.{specs.Judgement.{Judgement, gives, refuses}, specs.Meaning.meaning}
use Rattle.yq_semantics.{specs.Operations.{Operation, replace, append, remove}, specs.Plans.plan}
use Rattle.yq_semantics.specs.Program.{key, index, each, Stage, path, literal, found, Update, assign, delete, comment}
use Rattle.yq_core.specs.declared.kind.Kind.TheVariants as kinds
use Rattle.yq_semantics.specs.declared.program.CommentPlace.TheVariants as comments
use Rattle.yq_semantics.specs.declared.program.Operator.TheVariants as operator

abbrev entry : List ℕ → Node → Children → Children
entry k n cs = child (key_label (Some k)) n cs

abbrev item : Node → Children → Children
item n cs = child (key_label None) n cs

abbrev one : Node
one = scalar None kinds.Int (codes "1")

abbrev text : List ℕ → Node
text t = scalar None kinds.Text t

-- a scalar with the anchor x, and an alias of it
abbrev named : Node
named = scalar (Some (codes "x")) kinds.Int (codes "1")

abbrev other : Node
other = alias (codes "x")

-- what is under two keys, and under one
abbrev two : Node → Node → Node
two n m = map None (entry (codes "a") n (entry (codes "b") m none))

abbrev sole : Node → Node
sole n = map None (entry (codes "n") n none)

abbrev seq : Node → Node
seq n = list None (item n none)

-- a pipe that is a path of one key, and one that leads to each item or value
abbrev at : List ℕ → List Stage
at k = path (key k ∷ []) ∷ []

abbrev all : List Stage
all = path (each ∷ []) ∷ []

abbrev set : List Stage → Node → Update
set left v = assign left operator.Set (literal v ∷ [])

-- the plan of an update on one document in block style that has no room for comments
abbrev planned : Update → Node → Judgement (List Operation)
planned u n = plan u (λ doc. record { block = true; has = λ place p. false }) (record { lead = []; root = n } ∷ [])

-- what it means there
abbrev meant : Update → List (List ℕ) → Node → Judgement (List Document)
meant u lead n = meaning u (λ doc. record { block = true; has = λ place p. false }) (record { lead = lead; root = n } ∷ [])

-- ---- what is made

-- `a: 1⏎b: 2⏎`, `del(.[])`: the last one is removed first
removals : planned (delete all) (two one one) ≡ gives (remove 0 (To (codes "b") ∷ []) ∷ (remove 0 (To (codes "a") ∷ []) ∷ []))
removals = refl

-- `n: 1⏎`, `.n += null`: nothing
null_added : planned (assign (at (codes "n")) operator.Add (literal (scalar None kinds.Null (codes "null")) ∷ [])) (sole one) ≡ gives []
null_added = refl

-- `n: 1⏎`, `.x.y = 1`: an entry of the new key x
nested_created : planned (set (path (key (codes "x") ∷ (key (codes "y") ∷ [])) ∷ []) one) (sole one)
    ≡ gives (append 0 [] (Some (codes "x")) (map None (entry (codes "y") one none)) ∷ [])
unfolding scalar_text chars can_write_plain resolve is_int is_float
nested_created = refl

-- `a: {b: 0}⏎b: 1⏎`, `.a += {"b": 1, "c": 2}`: a present key's value is replaced, a new key goes last
entries_added : planned (assign (at (codes "a")) operator.Add (literal (map None (entry (codes "b") one (entry (codes "c") one none))) ∷ [])) (two (map None (entry (codes "b") one none)) one)
    ≡ gives (replace 0 (To (codes "a") ∷ (To (codes "b") ∷ [])) one ∷ (append 0 (To (codes "a") ∷ []) (Some (codes "c")) one ∷ []))
unfolding scalar_text chars can_write_plain resolve is_int is_float
entries_added = refl

-- `a: x⏎b: z⏎`, `.[] = .a + "y"`: the right side is found in what was there before
set_to_sum : meant (assign all operator.Set (found (at (codes "a")) ∷ (literal (text (codes "y")) ∷ []))) [] (two (text (codes "x")) (text (codes "z")))
    ≡ gives (record { lead = []; root = two (text (codes "xy")) (text (codes "xy")) } ∷ [])
set_to_sum = refl

-- `n: 1⏎`, `.b[] = (.n.b)`: the left side leads nowhere, so the right side isn't asked for
nothing_set : planned (assign (path (key (codes "b") ∷ (each ∷ [])) ∷ []) operator.Set (found (path (key (codes "n") ∷ (key (codes "b") ∷ [])) ∷ []) ∷ [])) (sole one) ≡ gives []
nothing_set = refl

-- `# c⏎a: 1⏎# d⏎b: 1⏎`, `del(.[])`: the lead stays
lead_stays : meant (delete all) (codes "c" ∷ []) (map None
    (child (record { key = Some (codes "a"); head_comment = codes "c" ∷ []; line_comment = None }) one
    (child (record { key = Some (codes "b"); head_comment = codes "d" ∷ []; line_comment = None }) one none)))
    ≡ gives (record { lead = codes "c" ∷ []; root = map None none } ∷ [])
lead_stays = refl

-- `# c⏎a: 1⏎# d⏎b: 1⏎`, `del(.a)`: the lead is that of the next entry
lead_passes : meant (delete (at (codes "a"))) (codes "c" ∷ []) (map None
    (child (record { key = Some (codes "a"); head_comment = codes "c" ∷ []; line_comment = None }) one
    (child (record { key = Some (codes "b"); head_comment = codes "d" ∷ []; line_comment = None }) one none)))
    ≡ gives (record { lead = codes "d" ∷ []; root = map None (child (record { key = Some (codes "b"); head_comment = codes "d" ∷ []; line_comment = None }) one none) } ∷ [])
lead_passes = refl

-- ---- anchors and aliases

-- `a: &x 1⏎b: *x⏎`, `del(.a)`
in_use : planned (delete (at (codes "a"))) (two named other) ≡ refuses AnchorInUse
in_use = refl

-- the same, `del(.[])`: though the alias goes too
in_use_all : planned (delete all) (two named other) ≡ refuses AnchorInUse
in_use_all = refl

-- `a: [&x 1, *x]⏎b: 1⏎`, `.a = 1`: though the alias goes too
in_use_inside : planned (set (at (codes "a")) one) (two (list None (item named (item other none))) one) ≡ refuses AnchorInUse
in_use_inside = refl

-- `a: {n: &x 1}⏎b: *x⏎`, `.a = 1`
in_use_below : planned (set (at (codes "a")) one) (two (sole named) other) ≡ refuses AnchorInUse
in_use_below = refl

-- `a: &x 1⏎b: *x⏎`, `.a = 1`: its own anchor stays
own_anchor : planned (set (at (codes "a")) one) (two named other) ≡ gives (replace 0 (To (codes "a") ∷ []) one ∷ [])
own_anchor = refl

-- the same, `.b.c = 1` and `.b = 1`
through_alias : planned (set (path (key (codes "b") ∷ (key (codes "c") ∷ [])) ∷ []) one) (two named other) ≡ refuses ThroughAlias
through_alias = refl

alias_set : planned (set (at (codes "b")) one) (two named other) ≡ gives (replace 0 (To (codes "b") ∷ []) one ∷ [])
alias_set = refl

-- ---- refusals

-- `a: [1]⏎b: {}⏎`
abbrev base : Node
base = two (seq one) (map None none)

-- `.a[5] = 1`, `del(.a[-2])` and `.b[0] = 1`
past_end : planned (set (path (key (codes "a") ∷ (index (pos 5) ∷ [])) ∷ []) one) base ≡ refuses IndexOutOfRange
past_end = refl

before_first : planned (delete (path (key (codes "a") ∷ (index (negsuc 1) ∷ [])) ∷ [])) base ≡ refuses IndexOutOfRange
before_first = refl

no_sequence : planned (set (path (key (codes "b") ∷ (index (pos 0) ∷ [])) ∷ []) one) base ≡ refuses NotASequence
no_sequence = refl

-- `.a.b = 1`
no_map : planned (set (path (key (codes "a") ∷ (key (codes "b") ∷ [])) ∷ []) one) base ≡ refuses NotAMap
no_map = refl

-- `del(.)`
root_removed : planned (delete (path [] ∷ [])) base ≡ refuses RootDelete
root_removed = refl

-- `.a[0] line_comment = "z"`, where there is no room, and `.a line_comment = "p\nq"`
no_room : planned (comment (path (key (codes "a") ∷ (index (pos 0) ∷ [])) ∷ []) comments.Line (codes "z")) base ≡ refuses NoPlaceForComment
unfolding chars
no_room = refl

bad_text : planned (comment (at (codes "a")) comments.Line (112 ∷ (10 ∷ (113 ∷ [])))) base ≡ refuses BadCommentText
unfolding chars
bad_text = refl

-- `.b = .a[]` and `.b = .b[]`
one_value : planned (assign (at (codes "b")) operator.Set (found (path (key (codes "a") ∷ (each ∷ [])) ∷ []) ∷ [])) base ≡ gives (replace 0 (To (codes "b") ∷ []) one ∷ [])
one_value = refl

no_value : planned (assign (at (codes "b")) operator.Set (found (path (key (codes "b") ∷ (each ∷ [])) ∷ []) ∷ [])) base ≡ refuses NotOneValue
no_value = refl

-- `n: 1.5⏎` and `n: x⏎`, `.n += 1`
float_sum : planned (assign (at (codes "n")) operator.Add (literal one ∷ [])) (sole (scalar None kinds.Float (codes "1.5"))) ≡ refuses FloatArithmetic
float_sum = refl

text_sum : planned (assign (at (codes "n")) operator.Add (literal one ∷ [])) (sole (scalar None kinds.Text (codes "x"))) ≡ refuses KindMismatch
text_sum = refl
