-- What each operation exchanges, by its kind and by what is at its place: the tables of docs/STYLE-AND-EXTENTS.md (own).
use Rattle.std.{specs.Option.option_or, specs.Prelude.{ℕ, List, [], ◌∷◌, Option, Some, None, option_map, if◌then◌else◌}}
use Rattle.yq_core.{specs.Answers.◌>>=◌, specs.Paths.Step, specs.Tree.{Node, alias, scalar, list, map, none}}
use Rattle.yq_row_table.specs.Rows.{Cut, cut_text}
use Rattle.yq_places.{specs.FlowNodes.flow_collection, specs.NodesAt.node_in, specs.RemovalPlaces.has_others_at}
use Rattle.yq_places.specs.Placements.{flow_placement, last_step}
use Rattle.yq_semantics.specs.Operations.{Operation, replace, append, remove, line_comment, head_comment}
use Rattle.yq_text.specs.Script.{Segment, keep}
use Rattle.yq_edit_rules.{specs.CommentEdits.{head_comment_at, line_comment_at}, specs.EntryEdits.{more_at, one_removed}}
use Rattle.yq_edit_rules.{specs.FlowParts.{flow_more, flow_put, flow_removed}, specs.ReplaceEdits.value_put_at}
use Rattle.yq_edit_rules.specs.Replacing.{keeps_scalar}

-- Replace: an equal scalar leaves the bytes alone; else by what is there outside flow collections, or by the part of one
abbrev pub replace_segments : ℕ → List Step → Node → Cut → Option (List Segment)
replace_segments n steps v c =
    if keeps_scalar (node_in n steps c) v then Some (keep (cut_text c) ∷ [])
    else option_or (value_put_at n steps v c) (option_map (flow_put (cut_text c) v) (flow_placement n c (last_step steps)))

-- Append: rows after those of a block collection, or else a part more in a flow collection
abbrev pub appended : ℕ → List Step → Option (List ℕ) → Node → Cut → Option (List Segment)
appended n steps key v c = option_or (more_at n steps c key v) (flow_collection n steps c >>= flow_more (cut_text c) key v)

-- the empty collection of the kind of a collection
abbrev pub empty_collection : Node → Option Node
empty_collection (alias name) = None
empty_collection (scalar anchor kind text) = None
empty_collection (list anchor cs) = Some (list None none)
empty_collection (map anchor cs) = Some (map None none)

-- a sole item or entry, in block or in flow: `[]` or `{}` is put in the place of its collection (7.4, 8.2)
abbrev pub sole_removed : ℕ → Cut → Option (List Step × Step) → Option (List Segment)
sole_removed n c None = None
sole_removed n c (Some x) = node_in n x.0 c >>= empty_collection >>= λ v. replace_segments n x.0 v c

-- one of several items or entries of a flow collection
abbrev pub part_removed : ℕ → Cut → Option (List Step × Step) → Option (List Segment)
part_removed n c None = None
part_removed n c (Some x) = flow_collection n x.0 c >>= flow_removed (cut_text c) x.1

-- outside these: one of several, or a sole one, which is removed so in flow too
abbrev pub rows_or_sole : ℕ → List Step → Cut → Option (List Segment)
rows_or_sole n steps c = if has_others_at n steps c then one_removed n steps c else sole_removed n c (last_step steps)

-- Remove: one of several parts of a flow collection, or else by what is next to it
abbrev pub removed : ℕ → List Step → Cut → Option (List Segment)
removed n steps c = option_or (part_removed n c (last_step steps)) (rows_or_sole n steps c)

-- each operation, by its kind
abbrev pub op_edits : Operation → Cut → Option (List Segment)
op_edits (replace n steps v) c = replace_segments n steps v c
op_edits (append n steps key v) c = appended n steps key v c
op_edits (remove n steps) c = removed n steps c
op_edits (line_comment n steps text) c = line_comment_at n steps c text
op_edits (head_comment n steps text) c = head_comment_at n steps c text

-- where there is nothing to exchange, as for no operation that fits, the text stays
abbrev pub or_stay : Cut → Option (List Segment) → List Segment
or_stay c None = keep (cut_text c) ∷ []
or_stay c (Some ss) = ss
