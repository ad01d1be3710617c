-- What a line's head spells, by what is made of its row.
use Rattle.std.proofs.Common.{rules, ◌≡◌, ℕ, zero, suc, ◌+◌, ◌-◌, ◌≤◌, ◌||◌, Bool, true, false, List, [], ◌∷◌, length, take, drop, Option}
use Rattle.std.{proofs.Common.{Some, None, refl, subst, sym, ap, ◌∙◌, arith}, proofs.lemmas.Bool.{false≢true, le-leb}}
use Rattle.std.{proofs.lemmas.Option.same_Some, specs.List.slice_get, specs.Prelude.{is_some, option_map}}
use denote.Bor.{Bor}
use Rattle.yq_core.{specs.Borrowed.{is_borrowed, leading_node}, specs.Nodes.begins_with, specs.declared.kind.Kind.Kind}
use Rattle.yq_core.{specs.Tree.{Node, alias, scalar}, specs.Places.Placed, specs.Trees.placed_tree}
use Rattle.yq_outline.{specs.Extents.head_place, specs.Names.head_names, specs.View.{content_view, head_flow, head_view}}
use Rattle.yq_outline.{specs.Outline.Line, specs.Sound.head_is_sound, specs.Lines.{head_of, lines_of_rows}}
use Rattle.yq_outline.{specs.RowWalk.{IsLine, line_number}, specs.declared.line_position.Position.Position}
use Rattle.yq_outline.{specs.declared.line_position.Stretch.Stretch, proofs.KnownLaws.get_dropped, proofs.WalkPositions.located}
use Rattle.yq_row_table.{specs.Exchange.after_row, specs.Rows.Row, specs.View.{RowsView, rows_of, slices}}
use Rattle.yq_documents.specs.Decoded.{IsKnownAs, IsKnownHead, IsKnownRow, IsBorrowedAs, alias_from, borrowed_depth, borrowed_head}
use Rattle.yq_documents.{specs.Decoded.{decoded_at, owned_head, opens_collection}, specs.FlowReading.row_flow}
use Rattle.yq_documents.specs.declared.decoded.Decoded.{Decoded}
use Rattle.yq_compose.{specs.Checking.IsCheckable, specs.Named.flow_names, proofs.BorrowedDepths.depth_kept, proofs.PositionOrder.head_last}
use Rattle.yq_outline.specs.declared.line.Head as heads

-- nothing is there
pub none_of : (o : Option (Bor Decoded)) → is_some o ≡ false → option_map (λ m. m.now) o ≡ None
none_of None e = refl
none_of (Some m) e = absurd (false≢true (sym e))

-- an item of a part of a list is one of the list
get_take : {A : Type 0} (n i : ℕ) (xs : List A) (x : A) → slice_get (take n xs) i ≡ Some x → slice_get xs i ≡ Some x
get_take zero i xs x e = absurd (cc)
get_take (suc n) i [] x e = absurd (cc)
get_take (suc n) zero (y ∷ xs) x e = e
get_take (suc n) (suc i) (y ∷ xs) x e = get_take n i xs x e

pub row_in_cut : (t : List ℕ) (s : RowsView) (ms : List Decoded) (d : Stretch) (k : IsCheckable t s ms d) (i : ℕ) (r : Row) → slice_get k.document.rows i ≡ Some r → slice_get (rows_of k.cut) (d.first + i) ≡ Some r
row_in_cut t s ms d k i r e =
    sym (get_dropped (rows_of k.cut) d.first i) ∙ get_take (d.end - d.first) i (drop d.first (rows_of k.cut)) r (ap (λ (rs : List Row). slice_get rs i) (sym k.there) ∙ e)

-- the row of a line is one of the cut
pub row_of_cut : (t : List ℕ) (s : RowsView) (ms : List Decoded) (d : Stretch) (k : IsCheckable t s ms d) (q : Position) (at : IsLine s d q) → slice_get (rows_of k.cut) q.row ≡ Some (located s d k.document q at).row
row_of_cut t s ms d k q at =
    let l = located s d k.document q at in
    let place : d.first + (q.row - d.first) ≡ q.row = omega (arith, at.from) in
    ap (slice_get (rows_of k.cut)) (sym place) ∙ row_in_cut t s ms d k (q.row - d.first) l.row l.there

-- what is made of a row of the cut is known
abbrev pub known_row : (t : List ℕ) (s : RowsView) (ms : List Decoded) (d : Stretch) → IsCheckable t s ms d → (i : ℕ) (m : Option Decoded) → m ≡ decoded_at i ms → IsKnownRow t s m i
known_row t s ms d k i m made = record {
  cut = k.cut;
  rows = k.rows;
  rows_view = k.rows_view;
  agrees = λ r is. subst (λ (o : Option Decoded). IsKnownHead t k.cut (owned_head o) i r) (sym made) (k.agrees i r is).head;
}

-- a head and the alias or flow collection that it is agree
abbrev pub MeansFlow : Option Node → Option Placed → Type 0
MeansFlow n None = (head_names n ≡ []) × ((d : ℕ) → head_is_sound d n ≡ true)
MeansFlow n (Some p) = Some (placed_tree p) ≡ n

pub means_named : (n : Option Node) (f : Option Placed) → MeansFlow n f → head_names n ≡ flow_names f
means_named n None m = m.0
means_named n (Some p) m = ap head_names (sym m)

-- what is borrowed is a scalar
borrowed_flat : (d : ℕ) (h : List ℕ) → head_is_sound d (borrowed_head h) ≡ true
borrowed_flat d h = search (rules, le-leb)

borrowed_named : (h : List ℕ) → head_names (borrowed_head h) ≡ []
borrowed_named h = search rules

scalar_flat : (d : ℕ) (kind : Kind) (t : List ℕ) → head_is_sound d (Some (scalar None kind t)) ≡ true
scalar_flat d kind t = search (rules, le-leb)

made_means : (x : heads.Head) → MeansFlow (head_view x) (head_flow x)
made_means heads.TheVariants.Nothing = (refl, λ d. refl)
made_means (heads.TheVariants.Scalar kind t) = (refl, λ d. scalar_flat d kind (content_view t))
made_means (heads.TheVariants.Inline node) = refl

-- an alias holds no collection
pub alias_sound : (d : ℕ) (n : List ℕ) → head_is_sound d (Some (alias n)) ≡ true
alias_sound d n = search (rules, le-leb)

-- what is so of what the text lends
lent_is : (P : Option Node × Option Placed → Type 0) (t h : List ℕ) (start : ℕ) (n : Option Node) (f : Option Placed) → IsBorrowedAs t h start n f →
    P (Some (placed_tree (alias_from (drop 1 h) start)), Some (alias_from (drop 1 h) start)) →
    (is_borrowed borrowed_depth (drop start t) ≡ true → P (Some (placed_tree (leading_node (length t) borrowed_depth (drop start t))), Some (leading_node (length t) borrowed_depth (drop start t)))) →
    P (borrowed_head h, None) → P (n, f)
lent_is P t h start n f l star opens other = go (begins_with 42 h) refl (opens_collection h) refl
  where
    go : (a : Bool) → begins_with 42 h ≡ a → (b : Bool) → opens_collection h ≡ b → P (n, f)
    go true e b q = let x = l.alias e in subst P (λ i. (x.0 i, x.1 i)) star
    go false e true q = let x = l.collection q in subst P (λ i. (x.view i, x.flow i)) (opens x.borrowed)
    go false e false q = let x = l.other (ap (λ a. a || opens_collection h) e ∙ q) in subst P (λ i. (x.0 i, x.1 i)) other

pub given_means : (t h : List ℕ) (start : ℕ) (m : Option heads.Head) (n : Option Node) (f : Option Placed) → IsKnownAs t h start m n f → MeansFlow n f
given_means t h start None n f g = lent_is (λ (x : Option Node × Option Placed). MeansFlow x.0 x.1) t h start n f g refl (λ e. refl) (borrowed_named h, λ d. borrowed_flat d h)
given_means t h start (Some x) n f g = subst (λ (y : Option Node × Option Placed). MeansFlow y.0 y.1) (λ i. (g.0 i, g.1 i)) (made_means x)

-- where nothing is made of it, few collections are nested in it
lent_sound : (t h : List ℕ) (start d : ℕ) (n : Option Node) (f : Option Placed) → borrowed_depth ≤ d → IsBorrowedAs t h start n f → head_is_sound d n ≡ true
lent_sound t h start d n f le g =
    lent_is (λ (x : Option Node × Option Placed). head_is_sound d x.0 ≡ true) t h start n f g (alias_sound d (drop 1 h)) (λ e. depth_kept (length t) borrowed_depth d (drop start t) e le) (borrowed_flat d h)

-- a line without a head
pub headless : (d : ℕ) (o : Option Node) → false ≡ is_some o → head_is_sound d o ≡ true
headless d None e = refl
headless d (Some n) e = absurd (false≢true e)

-- a line of a document that is checked
module _ (t : List ℕ) (s : RowsView) (ms : List Decoded) (d : Stretch) (k : IsCheckable t s ms d) (q : Position) (at : IsLine s d q) where
  abbrev row : Row
  row = (located s d k.document q at).row

  pub row_means : MeansFlow (head_of row.content) (row_flow (length t) row (after_row q.row k.cut))
  row_means = given_means t (slices row).head (head_place q.row k.cut row).0 (owned_head (decoded_at q.row ms)) _ _ (k.agrees q.row row (row_of_cut t s ms d k q at)).head

  module _ (l : Line) (is : slice_get (lines_of_rows k.document.rows) (line_number d k.document.rows q) ≡ Some l) where
    -- the head of a line that has one is reported
    head_line : true ≡ is_some l.head → head_of row.content ≡ l.head
    head_line some =
        let f = located s d k.document q at in
        let own : f.line ≡ l = same_Some _ _ (sym f.is ∙ is) in
        let last = head_last s d k.document q at l is some in
        sym (f.agrees.mark last).1 ∙ ap (λ (y : Line). y.head) own

    -- it is an alias or flow collection
    pub flow_line : (p : Placed) → row_flow (length t) row (after_row q.row k.cut) ≡ Some p → true ≡ is_some l.head → Some (placed_tree p) ≡ l.head
    flow_line p flow some = subst (MeansFlow (head_of row.content)) flow row_means ∙ head_line some

    by_row : (depth : ℕ) → head_is_sound depth (head_of row.content) ≡ true → head_is_sound depth l.head ≡ true
    by_row depth sound = go (is_some l.head) refl
      where
        go : (b : Bool) → is_some l.head ≡ b → head_is_sound depth l.head ≡ true
        go true e = ap (head_is_sound depth) (sym (head_line (sym e))) ∙ sound
        go false e = headless depth l.head (sym e)

    -- it is none
    pub head_free : (depth : ℕ) → row_flow (length t) row (after_row q.row k.cut) ≡ None → head_is_sound depth l.head ≡ true
    head_free depth none = by_row depth ((subst (MeansFlow (head_of row.content)) none row_means).1 depth)

    -- it is one that is sound
    pub head_sound : (depth : ℕ) (p : Placed) → row_flow (length t) row (after_row q.row k.cut) ≡ Some p → head_is_sound depth (Some (placed_tree p)) ≡ true → head_is_sound depth l.head ≡ true
    head_sound depth p flow sound = by_row depth (ap (head_is_sound depth) (sym (subst (MeansFlow (head_of row.content)) flow row_means)) ∙ sound)

    -- nothing is made of the row
    pub unmade_sound : (depth : ℕ) → borrowed_depth ≤ depth → decoded_at q.row ms ≡ None → head_is_sound depth l.head ≡ true
    unmade_sound depth le none =
        let lent = subst (λ (o : Option Decoded). IsKnownHead t k.cut (owned_head o) q.row row) none (k.agrees q.row row (row_of_cut t s ms d k q at)).head in
        by_row depth (lent_sound t (slices row).head (head_place q.row k.cut row).0 depth _ _ le lent)
