-- A sole item or entry taken out: an empty collection in the place of its own is what is left of that.
use Rattle.std.proofs.Common.{rules, ◌≡◌, ℕ, zero, suc, ◌+◌, ◌≤◌, cond, ltb, Bool, false, List, [], ◌∷◌, ◌++◌, length, Option, Some, None}
use Rattle.std.{proofs.Common.{option_and_then, refl, sym, ap, ◌∙◌, subst, arith, append-nil}, proofs.lemmas.Bool.{le-ltb, ltb-false}}
use Rattle.std.{proofs.lemmas.Option.{none-some, same_Some}, specs.List.slice_get}
use Rattle.yq_core.{specs.Answers.◌>>=◌, specs.Keys.depth}
use Rattle.yq_core.specs.Paths.{Step, changed_at, change_child, child_at, further, is_here, node_at, remove_child, within}
use Rattle.yq_core.{specs.Shapes.IsTree, specs.Tree.{Label, Node, Children, none, child, children_of}, proofs.Bools.bind_some}
use Rattle.yq_core.{specs.Inline.depth_limit, specs.Anchors.names_of}
use Rattle.yq_flow_edits.specs.Valued.{IsValueTree}
use Rattle.yq_outline.specs.Counts.{count}
use Rattle.yq_row_table.specs.Rows.{Cut, cut_text}
use Rattle.yq_documents.{specs.Documents.Document, specs.Reading.{documents, documents_of, read_at, root_of}}
use Rattle.yq_documents.specs.TreeEdits.{change_nth, led, replaced_node}
use Rattle.yq_places.{specs.RemovalPlaces.{has_others_at, has_several}, specs.NodesAt.node_in}
use Rattle.yq_edit_rules.{proofs.AfterLaws.end_is_change, proofs.PartLaws.document_known, proofs.SoundRootLaws.depth_at}
use Rattle.yq_edit_rules.{proofs.RemovalChangeLaws.take_init, specs.EditLaws.{IsEdit, SoleIsRemoved}, specs.Edits.empty_collection}
use Rattle.yq_edit_rules.{specs.ReadsAfter.ReadsAfter, proofs.DoneLaws.read_cut}
use Rattle.yq_semantics.{specs.After.{done_to, root_after}, specs.Changes.{has_long_key, is_deep, is_used_in}, specs.Fits.{Fits, IsBelow}}
use Rattle.yq_semantics.{specs.Operations.{replace, remove}, specs.Rooms.room_of, specs.RoomsKept.HasSome}
use Rattle.yq_text.specs.Script.{new_text}
use Rattle.yq_edit_laws.{proofs.FlowSoundLaws.{above_is, last_is}, proofs.DocumentParts.part_of}
use Rattle.yq_core.specs.Tree as tree

-- ---- an empty collection in the place of another

-- What is so of an empty collection in the place of the collection o.
record IsEmptied (o v : Node) : Type 0 where
  value : IsValueTree v
  shape : IsTree v
  short : has_long_key v ≡ false
  flat : depth v ≤ depth o
  led_same : (block : Bool) (lead : List (List ℕ)) (path : List Step) → led block lead path v ≡ v
  bare : children_of (replaced_node v o) ≡ none
  left : (s : Step) → remove_child s (children_of o) ≡ none → replaced_node v o ≡ within (remove_child s) o

first_none : (a : Option (List ℕ)) → Rattle.yq_outline.specs.Outline.first_anchor a None ≡ a
first_none a = search rules

is_emptied : (o v : Node) → empty_collection o ≡ Some v → IsEmptied o v
is_emptied o v e = search (rules, arith, none-some, same_Some, first_none)

-- ---- a sole item or entry

-- A node is the sole one of these items or entries, of which none is left without it.
record IsSole (s : Step) (cs : Children) (m : Node) : Type 0 where
  label : Label
  is : cs ≡ child label m none
  gone : remove_child s cs ≡ none

sole : (s : Step) (cs : Children) (m : Node) → child_at s cs ≡ Some m → ltb 1 (count cs) ≡ false → IsSole s cs m
sole s none m e h = absurd (none-some _ e)
sole s (child l n none) m e h = search (rules, same_Some, none-some)
sole s (child l n (child k o cs)) m e h = absurd (omega (arith, ltb-false 1 (count (child l n (child k o cs))) h))

-- ---- changes that do the same

child_alike : (s : Step) (f g : Node → Node) (at : Node → Option Node) (cs : Children) (n : Node) → ((m : Node) → at m ≡ Some n → f m ≡ g m) → option_and_then at (child_at s cs) ≡ Some n → change_child s f cs ≡ change_child s g cs
child_alike s f g at none n h e = refl
child_alike s f g at (child label m cs) n h e = go (is_here s label) (child_alike (further s) f g at cs n h) e
  where
    go : (b : Bool) → (option_and_then at (child_at (further s) cs) ≡ Some n → change_child (further s) f cs ≡ change_child (further s) g cs) → option_and_then at (cond b (Some m) (child_at (further s) cs)) ≡ Some n →
        cond b (child label (f m) cs) (child label m (change_child (further s) f cs)) ≡ cond b (child label (g m) cs) (child label m (change_child (further s) g cs))
    go b later e = search rules

change_alike : (ss : List Step) (f g : Node → Node) (root n : Node) → node_at ss root ≡ Some n → f n ≡ g n → changed_at ss f root ≡ changed_at ss g root
change_alike [] f g root n e h = subst (λ m. f m ≡ g m) (sym (same_Some _ _ e)) h
change_alike (s ∷ ss) f g (tree.alias name) n e h = refl
change_alike (s ∷ ss) f g (tree.scalar a kind t) n e h = refl
change_alike (s ∷ ss) f g (tree.list a cs) n e h = ap (tree.list a) (child_alike s (changed_at ss f) (changed_at ss g) (node_at ss) cs n (λ m at. change_alike ss f g m n at h) e)
change_alike (s ∷ ss) f g (tree.map a cs) n e h = ap (tree.map a) (child_alike s (changed_at ss f) (changed_at ss g) (node_at ss) cs n (λ m at. change_alike ss f g m n at h) e)

nth_alike : (k : ℕ) (f g : Document → Document) (ds : List Document) (d : Document) → slice_get ds k ≡ Some d → f d ≡ g d → change_nth k f ds ≡ change_nth k g ds
nth_alike k f g [] d e h = refl
nth_alike zero f g (x ∷ ds) d e h = ap (λ y. y ∷ ds) (subst (λ y. f y ≡ g y) (sym (same_Some _ _ e)) h)
nth_alike (suc k) f g (x ∷ ds) d e h = ap (λ ys. x ∷ ys) (nth_alike k f g ds d e h)

nth_changed : (k : ℕ) (f : Document → Document) (ds : List Document) (d : Document) → slice_get ds k ≡ Some d → slice_get (change_nth k f ds) k ≡ Some (f d)
nth_changed k f [] d e = absurd (none-some _ e)
nth_changed zero f (x ∷ ds) d e = ap (λ y. Some (f y)) (same_Some _ _ e)
nth_changed (suc k) f (x ∷ ds) d e = nth_changed k f ds d e

-- ---- the operation that means a removal

-- What is known of a removal that fits and of the operation that means it.
record RemovalMeans (doc : ℕ) (init : List Step) (s : Step) (v : Node) (c : Cut) : Type 0 where
  read : read_at (cut_text c) ≡ Some c
  others : has_others_at doc (init ++ (s ∷ [])) c ≡ false
  d : Document
  document : slice_get (documents c) doc ≡ Some d
  old : Node
  there : node_in doc init c ≡ Some old
  empty : IsEmptied old v
  node : Node
  node_is : node_at (init ++ (s ∷ [])) d.root ≡ Some node
  unused : is_used_in (names_of d.root) (Some node) ≡ false

module _ (doc : ℕ) (init : List Step) (s : Step) (v : Node) (c : Cut) (h : RemovalMeans doc init s v c) where
  at_init : node_at init h.d.root ≡ Some h.old
  at_init = sym (ap (λ (x : Option Document). x >>= λ d. node_at init d.root) h.document) ∙ h.there

  above : (old : Node) × (node_at init h.d.root ≡ Some old) × (child_at s (children_of old) ≡ Some h.node)
  above = above_is init s h.d.root h.node h.node_is

  same : above.0 ≡ h.old
  same = same_Some _ _ (sym above.1 ∙ at_init)

  alone : ltb 1 (count (children_of h.old)) ≡ false
  alone =
      sym ((λ i. has_several (slice_get (documents c) doc >>= λ (x : Document). node_at (take_init init s i) x.root)) ∙ ap has_several h.there) ∙ h.others

  is_sole : IsSole s (children_of h.old) h.node
  is_sole = sole s (children_of h.old) h.node (subst (λ (o : Node). child_at s (children_of o) ≡ Some h.node) same above.2) alone

  not_deep : is_deep (length init) v ≡ false
  not_deep =
      let p = part_of c doc h.d h.document in
      let limit : depth (root_of p.part) ≤ depth_limit = (document_known (cut_text c) c doc p.part (record { read = h.read; there = p.there })).document.nested in
      let inside = depth_at init (root_of p.part) h.old (ap (node_at init) (sym p.root) ∙ at_init) in
      le-ltb depth_limit (length init + depth v) (omega (arith, limit, inside, h.empty.flat))

  fits : Fits (room_of (cut_text c)) (replace doc init v) (documents c)
  fits = search (rules, h.document, h.empty.shape, h.empty.short, not_deep, at_init, is_sole.is, append-nil, h.unused)

  same_root : (block : Bool) (lead : List (List ℕ)) → root_after block lead (replace doc init v) h.d.root ≡ root_after block lead (remove doc (init ++ (s ∷ []))) h.d.root
  same_root block lead = search (rules, h.empty.led_same, change_alike, at_init, h.empty.left, is_sole.gone, end_is_change)

  same_document : (block : Bool) → done_to block (replace doc init v) h.d ≡ done_to block (remove doc (init ++ (s ∷ []))) h.d
  same_document block = ap (λ (n : Node). Rattle.yq_documents.specs.TreeEdits.with_tree block n h.d) (same_root block h.d.lead)

  -- where the root after it has items or entries, the collection is below it
  below : (ss : List Step) (root : Node) → node_at ss root ≡ Some h.old → HasSome (children_of (changed_at ss (replaced_node v) root)) → IsBelow ss
  below [] root e some = absurd (subst HasSome (ap (λ (n : Node). children_of (replaced_node v n)) (same_Some _ _ e) ∙ h.empty.bare) some)
  below (t ∷ ts) root e some = tt

  read_so : (new : List ℕ) → ReadsAfter (replace doc init v) c new → ReadsAfter (remove doc (init ++ (s ∷ []))) c new
  read_so new r =
      let rooms = room_of (cut_text c) in
      let block : Bool = (rooms doc).block in
      record {
        cut = r.cut;
        read = r.read;
        documents_are = r.documents_are ∙ nth_alike doc (done_to block (replace doc init v)) (done_to block (remove doc (init ++ (s ∷ [])))) (documents c) h.d h.document (same_document block);
        room = record {
          others = r.room.others;
          comments = λ sets. absurd sets;
          block = λ d at keeps.
              let at_doc : slice_get (documents_of new) doc ≡ Some (done_to block (replace doc init v) h.d) =
              ap (λ x. slice_get (documents x) doc) (read_cut new r.cut r.read) ∙ (ap (λ ds. slice_get ds doc) r.documents_are ∙ nth_changed doc (done_to block (replace doc init v)) (documents c) h.d h.document) in
              let root : d.root ≡ changed_at init (replaced_node v) h.d.root =
              ap (λ (x : Document). x.root) (same_Some _ _ (sym at ∙ at_doc)) ∙ ap (λ (n : Node). changed_at init (replaced_node n) h.d.root) (h.empty.led_same block h.d.lead init) in
              r.room.block d at (below init h.d.root at_init (subst (λ (n : Node). HasSome (children_of n)) root keeps));
        };
      }

-- What puts an empty collection in the place of the one with the sole item or entry removes it.
pub sole_removed : SoleIsRemoved
sole_removed n steps init s v c ss read last others empty edit =
    let o = bind_some (node_in n init c) empty in
    let path : steps ≡ init ++ (s ∷ []) = last_is steps init s last in
    subst (λ (z : List Step). IsEdit (remove n z) c ss) (sym path) (record {
      old = edit.old;
      carried = λ operand fits_it size.
          let h : RemovalMeans n init s v c =
          search (rules, path, fits_it.0, fits_it.1, o.0, o.1, is_emptied, o.2, fits_it.2.1.0, fits_it.2.1.1, fits_it.2.1.2) in
          let done = edit.carried h.empty.value (fits n init s v c h) size in
          record { reads = read_so n init s v c h (new_text ss) done.reads; local = done.local };
    })

-- it is a value
pub empty_value : (old v : Node) → empty_collection old ≡ Some v → IsValueTree v
empty_value old v e = (is_emptied old v e).value

-- the operation that puts it there fits, where the removal does
pub sole_fits : (n : ℕ) (init : List Step) (s : Step) (v old : Node) (c : Cut) → read_at (cut_text c) ≡ Some c → has_others_at n (init ++ (s ∷ [])) c ≡ false → node_in n init c ≡ Some old → empty_collection old ≡ Some v →
    Fits (room_of (cut_text c)) (remove n (init ++ (s ∷ []))) (documents c) → Fits (room_of (cut_text c)) (replace n init v) (documents c)
sole_fits n init s v old c read others there empty f =
    fits n init s v c
    (record { read = read; others = others; d = f.0; document = f.1; old = old; there = there; empty = is_emptied old v empty; node = f.2.1.0; node_is = f.2.1.1; unused = f.2.1.2 })
