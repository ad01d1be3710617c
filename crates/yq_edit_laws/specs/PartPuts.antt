-- Values put in the place of contents in a flow collection, and items and entries put into one, where its row's head was read once (YAML 1.2.2, 7.4; own).
use Rattle.std.specs.Prelude.{◌≡◌, ◌⊎◌, ℕ, ◌<◌, ◌≤◌, List, [], ◌∷◌, ◌++◌, drop, take, length, Option, Some, None, option_map, Bool, true}
use Rattle.std.{specs.Prelude.{false, if◌then◌else◌, String, string_bytes}, specs.declared.alloc.Global.Global}
use Rattle.yq_core.{specs.Answers.◌>>=◌, specs.Paths.Step, specs.Tree.Node, specs.Collections.CollPieces}
use Rattle.yq_core.{specs.Entries.{EntryPieces, item_at}, specs.NodesWritten.{flow_key, flow_of, flow_text}, specs.Nodes.key_text}
use Rattle.yq_core.{specs.Places.Placed, specs.Trees.placed_tree, specs.declared.style.Place.TheVariants.Flow as InFlow}
use Rattle.yq_flow_edits.specs.FlowEdits.{FlowEdit, appending, after_appended, is_none, replacing}
use Rattle.yq_flow_edits.specs.FlowPlaces.{PlacedEdit, append_place, edit_view, place_edit, replace_place}
use Rattle.yq_flow_edits.specs.declared.flow_place.EditPlace.{EditPlace}
use Rattle.yq_row_table.specs.Rows.{Cut, cut_text}
use Rattle.yq_places.{specs.FlowNodes.flow_collection, specs.NodesAt.node_in, specs.Placements.{FlowPart, flow_placement, last_step}}
use Rattle.yq_text.specs.Script.{Segment, keep}
use Rattle.yq_edit_rules.{specs.FlowParts.{content_written, flow_more, flow_put, flow_value, takes_key}, specs.Replacing.keeps_scalar}
use Rattle.yq_edit_rules.specs.WrittenValues.{value_text}
use Rattle.yq_edit_laws.specs.EditPlaces.{LiesIn, moved_on, placed_takes}

-- a value put in the place of the content of a part, unless that is kept
abbrev pub part_put : List ℕ → (kept : Bool) → Node → FlowPart → List Segment
part_put t kept v x = if kept then keep t ∷ [] else flow_put t v x

-- the same where steps lead in document n; an equal scalar is kept
abbrev pub part_replaced : ℕ → List Step → Node → Cut → Option (List Segment)
part_replaced n steps v c = option_map (part_put (cut_text c) (keeps_scalar (node_in n steps c) v) v) (flow_placement n c (last_step steps))

-- the edit that puts a value in the place of the content of a part
abbrev pub put_edit : Node → FlowPart → FlowEdit
put_edit v x = replacing x.step x.part (flow_value (content_written x.part.node) v) x.collection

-- A place in a text is that of an edit.
pub record IsEditPlace (t : List ℕ) (e : FlowEdit) (place : PlacedEdit) : Type 0 where
  pub lies : LiesIn t place
  pub place_is : place ≡ place_edit (length t) e
  pub before : List ℕ
  pub text : t ≡ before ++ (e.old ++ e.after)

-- a place is that of the edit that puts a value at a part
abbrev pub IsPlaceOf : List ℕ → Node → FlowPart → PlacedEdit → Type 0
IsPlaceOf t v z place = IsEditPlace t (put_edit v z) place

-- the place of an edit of the code in a text, before the head of which are so many bytes
abbrev pub place_after : ℕ → EditPlace → PlacedEdit
place_after before place = moved_on before (edit_view place)

-- what is written of a value at a part: nothing, if it is the scalar there
abbrev pub IsWrittenPart : Option Node → Node → FlowPart → Option (String Global) → Type 0
IsWrittenPart old v z None = keeps_scalar old v ≡ true
IsWrittenPart old v z (Some s) = (keeps_scalar old v ≡ false) × (string_bytes s ≡ (put_edit v z).written)

-- a value is put at this place, at the part where steps lead in document n, and this is written
abbrev pub IsValuePut : ℕ → List Step → Node → Cut → PlacedEdit → Option (String Global) → Type 0
IsValuePut n steps v c place written =
    (z : FlowPart) × (flow_placement n c (last_step steps) ≡ Some z) × IsPlaceOf (cut_text c) v z place × IsWrittenPart (node_in n steps c) v z written

-- what is written in the place of a content: nothing, if it is kept
abbrev pub IsWrittenFor : (kept : Bool) → List ℕ → Option (String Global) → Type 0
IsWrittenFor kept new None = kept ≡ true
IsWrittenFor kept new (Some s) = (kept ≡ false) × (string_bytes s ≡ new)

-- what is written of a value in the place of the content of a node, with its places in a text
abbrev pub IsWrittenIn : List ℕ → Placed → Node → Option (String Global) → Type 0
IsWrittenIn t q v written =
    let place = replace_place q in IsWrittenFor (keeps_scalar (Some (placed_tree q)) v) (value_text InFlow (drop place.start (take place.end t)) v) written

-- a part is in document n of a cut, in the collection to which steps lead, at one more step (7.4; own)
abbrev pub IsPartOf : Cut → ℕ → List Step → Step → EntryPieces → Type 0
IsPartOf c n steps s y = (flow_collection n steps c >>= λ w. item_at w.close s w.items w.rest) ≡ Some y

-- ---- one more item or entry

-- the edit by which a collection gets an item, or an entry of a key
abbrev pub more_edit : Option (List ℕ) → Node → CollPieces → FlowEdit
more_edit key v w = appending (flow_key key) (flow_of v) w

-- the edits that put one more item or entry into a collection that takes it
abbrev pub IsMore : List ℕ → CollPieces → Option (List ℕ) → Node → ℕ → EditPlace × String Global → Type 0
IsMore t w key v before p =
    (takes_key w.close key ≡ true) × IsEditPlace t (more_edit key v w) (place_after before p.0) × (string_bytes p.1 ≡ (more_edit key v w).written)

-- the edits that put one more into the collection to which steps lead in document n, in a head after so many bytes; none, where there is no collection, or
-- one that doesn't take it
abbrev pub AreMore : ℕ → List Step → Option (List ℕ) → Node → Cut → ℕ → Option (EditPlace × String Global) → Type 0
AreMore n steps key v c before None = (flow_collection n steps c >>= flow_more (cut_text c) key v) ≡ None
AreMore n steps key v c before (Some p) =
    (w : CollPieces) × (flow_collection n steps c ≡ Some w) × IsMore (cut_text c) w key v before p

-- the edit that puts one more into a node, if it is a collection that takes it
abbrev pub PutsMoreIn : Placed → Option (List ℕ) → Node → Option (EditPlace × String Global) → Type 0
PutsMoreIn q key v None = (placed_takes q key ≡ false) ⊎ (append_place q ≡ None)
PutsMoreIn q key v (Some p) =
    (placed_takes q key ≡ true) × (append_place q ≡ Some (edit_view p.0)) × (string_bytes p.1 ≡ key_text (flow_key key) (flow_text v))

-- ---- ends of collections

-- A collection ends as another one does: with the same bracket, and the same text after its last item or entry, or after its opening bracket if there is
-- none, and it has some if that one has (7.4; own).
pub record EndsAs (w z : CollPieces) : Type 0 where
  pub close : z.close ≡ w.close
  pub none : is_none z.items ≡ is_none w.items
  pub after : after_appended z ≡ after_appended w

-- the collection to which steps lead in document n of a cut ends as this one (own)
abbrev pub EndsAsIn : CollPieces → Cut → ℕ → List Step → Type 0
EndsAsIn w c n steps = (z : CollPieces) × (flow_collection n steps c ≡ Some z) × EndsAs w z

-- one more item or entry of a collection comes in the last n bytes of a text; if it has none, with more bytes before it there (own)
abbrev pub EndsAfter : ℕ → CollPieces → Type 0
EndsAfter n w = (length (after_appended w) ≤ n) × (is_none w.items ≡ true → length (after_appended w) < n)

-- a part of document n comes before a text, and is in a cut, before another one in its place (7.4; own)
abbrev pub IsPartBefore : Cut → ℕ → List Step → Step → EntryPieces → List ℕ → List ℕ → Type 0
IsPartBefore cut n steps s y t t2 = (m : List ℕ) × (y.rest ≡ m ++ t) × IsPartOf cut n steps s (record y { rest = m ++ t2 })

-- the same of a collection (own)
abbrev pub IsCollBefore : Cut → ℕ → List Step → CollPieces → List ℕ → List ℕ → Type 0
IsCollBefore cut n steps w t t2 = (m : List ℕ) × (w.rest ≡ m ++ t) × (flow_collection n steps cut ≡ Some (record w { rest = m ++ t2 }))
