-- A walk to an item or entry goes on from one that is known.
use Rattle.std.proofs.Common.{◌≡◌, ◌⊎◌, inl, inr, ℕ, zero, suc, ◌+◌, ◌-◌, ◌<◌, ◌≤◌, Bool, true, false, not, ◌&&◌, List, ◌∷◌, length, take}
use Rattle.std.proofs.Common.{drop, Option, Some, option_map, refl, sym, ap, ◌∙◌, subst, arith, rules}
use Rattle.std.{proofs.lemmas.Bool.{lt-ltb, ne_eqb}, proofs.lemmas.List.{drop-drop, drop-take, take-take, length-take-le, length-drop}}
use Rattle.std.{proofs.lemmas.Option.{same_Some, slice_get_within}, specs.List.slice_get}
use Rattle.yq_core.{specs.Keys.{are_distinct, keys_of}, specs.Paths.{Step, To, Nth, is_here, is_item, further}}
use Rattle.yq_outline.{specs.Ends.{IsEndOf, has_no_lines, part}, specs.Outline.{Line, Outline, children, key_of, label, level}}
use Rattle.yq_outline.{proofs.EndsLaws.drop_at, proofs.PositionLaws.{position_here, position_passed, here_item}, specs.Lines.lines_of_rows}
use Rattle.yq_outline.specs.RowWalk.{line_level, level_count, deeper_rows, AreRowsDeep, HasRows, IsPosition, IsLine, IsKnownIn, IsKeyed}
use Rattle.yq_outline.specs.RowWalk.{HaveKeys, Finds, GoesOn, found_from, line_number, rows_end}
use Rattle.yq_outline.{specs.declared.line_position.KnownItem.KnownItem, specs.declared.line_position.Position.Position}
use Rattle.yq_outline.{specs.declared.line_position.Stretch.Stretch, proofs.EntryKeys.{keys_after, other_key}}
use Rattle.yq_outline.{proofs.KnownLaws.{get_dropped, one_there}, proofs.WalkRows.under_more}
use Rattle.yq_outline.proofs.WalkPositions.{Located, Sibling, after_agrees, deeper_agrees, deeper_upto, get_taken, located, position_line}
use Rattle.yq_outline.proofs.WalkPositions.{siblings}
use Rattle.yq_row_table.specs.View.{Slices, RowsView}
use Rattle.yq_outline.specs.Positions as lines

module _ (s : RowsView) (d : Stretch) (h : HasRows s d) (floor row n : ℕ) (y : Slices) (within : row < d.end) (last : slice_get s.rows row ≡ Some y) (low : line_level 0 y ≤ n) (deeper : floor < n) where
  -- where a step leads
  abbrev line_here : Position → Step → Option (ℕ × Line × Outline)
  line_here q st = found_from d h.rows floor q st

  abbrev stop : Position
  stop = record { row = row; line = 0 }

  -- the entries from a line on have different keys
  abbrev HasKeys : Position → Type 0
  HasKeys q = are_distinct (keys_of (children (part (lines_of_rows h.rows) (line_number d h.rows q) floor))) ≡ true

  -- The lines under a line end at another one.
  record Over (q e : Position) : Type 0 where
    pub piece : Slices
    pub at : IsLine s d q
    pub there : slice_get s.rows q.row ≡ Some piece
    pub same : line_level q.line piece ≡ n
    pub next : e.row ≡ (q.row + 1) + deeper_rows n (take (d.end - (q.row + 1)) (drop (q.row + 1) s.rows))
    pub none : e.line ≡ 0

  module _ (q e : Position) (o : Over q e) where
    abbrev l : Located s d h q
    l = located s d h q o.at

    agrees : (z : Slices) → slice_get s.rows q.row ≡ Some z → n ≡ line_level q.line z
    agrees z is = sym o.same ∙ ap (line_level q.line) (same_Some _ _ (sym o.there ∙ is))

    ends : IsEndOf (lines_of_rows h.rows) (line_number d h.rows q) (line_number d h.rows e)
    ends = after_agrees s d h q e n o.at agrees o.next o.none

    here : true ≡ not (has_no_lines (part (lines_of_rows h.rows) (line_number d h.rows q) floor))
    here = sym (lt-ltb floor n deeper) ∙ deeper_agrees s d h q n floor o.at agrees

    -- over one item that isn't the one
    over : (st : Step) → is_here st (label l.line) ≡ false → line_here q st ≡ line_here e (further st)
    over st other = position_passed (lines_of_rows h.rows) (line_number d h.rows q) floor l.line l.is here st (line_number d h.rows e) ends other

    over_item : (i : ℕ) → line_here q (Nth (suc i)) ≡ line_here e (Nth i)
    over_item i = over (Nth (suc i)) (here_item (suc i) l.line ∙ ap (λ (b : Bool). b && is_item (key_of l.line.mark)) (ne_eqb (suc i) 0 (λ e. omega (arith, e))))

    more_keys : HasKeys q → HasKeys e
    more_keys keys = keys_after (lines_of_rows h.rows) (line_number d h.rows q) floor (line_number d h.rows e) l.line l.is here ends keys

    over_key : (key : List ℕ) (w : ℕ × Line × Outline) → HasKeys q → line_here e (To key) ≡ Some w → line_here q (To key) ≡ line_here e (To key)
    over_key key w keys found = over (To key) (other_key (lines_of_rows h.rows) (line_number d h.rows q) floor (line_number d h.rows e) l.line l.is here ends keys key w found)

  -- the rows after an item and in front of the last one
  abbrev following : Position → List Slices
  following q = drop (q.row + 1) (take row s.rows)

  -- An item of the walk, after which so many others are passed.
  record Passing (q : Position) (p : ℕ) : Type 0 where
    pub piece : Slices
    pub at : IsLine s d q
    pub there : slice_get s.rows q.row ≡ Some piece
    pub same : line_level q.line piece ≡ n
    pub less : q.row < row
    pub deep : AreRowsDeep n (following q)
    pub count : level_count n (following q) ≡ p

  front : (q : Position) → q.row < row → following q ≡ take (row - (q.row + 1)) (take (d.end - (q.row + 1)) (drop (q.row + 1) s.rows))
  front q less =
      let a : ℕ = q.row + 1 in
      let m : ℕ = row - a in
      let whole : row ≡ a + m = omega (arith, less) in
      ap (λ (k : ℕ). drop a (take k s.rows)) whole ∙ (drop-take a m s.rows ∙ sym (take-take m (d.end - a) (drop a s.rows) (omega (arith, within))))

  size : (q : Position) → q.row < row → length (following q) ≡ row - (q.row + 1)
  size q less = omega (arith, length-drop (q.row + 1) (take row s.rows), length-take-le row s.rows (omega (arith, slice_get_within s.rows row y last)))

  total : (q : Position) → q.row < row → deeper_rows n (take (d.end - (q.row + 1)) (drop (q.row + 1) s.rows)) ≡ deeper_rows n (following q)
  total q less = search (rules, get_taken, get_dropped, last, deeper_upto, front)

  -- the next item
  next_item : (q : Position) (p : ℕ) (h : Passing q (suc p)) (z : Sibling n (following q)) → Passing (record { row = (q.row + 1) + z.before; line = 0 }) p
  next_item q p h z =
      let a : ℕ = q.row + 1 in
      let inner : z.before < length (following q) = slice_get_within (following q) z.before z.piece z.there in
      let long = size q h.less in
      let sum : a + suc z.before ≡ (a + z.before) + 1 = omega arith in
      let rest : drop (suc z.before) (following q) ≡ drop ((a + z.before) + 1) (take row s.rows) = drop-drop (suc z.before) a (take row s.rows) ∙ ap (λ (k : ℕ). drop k (take row s.rows)) sum in
      search (rules, get_taken, get_dropped, a, inner, long, rest)

  -- after an item that is passed comes the next one, or the last one
  abbrev after : (q : Position) → Sibling n (following q) → Position
  after q z = record { row = (q.row + 1) + z.before; line = 0 }

  to_next : (q : Position) (p : ℕ) (h : Passing q p) (z : Sibling n (following q)) → Over q (after q z)
  to_next q p h z = record { piece = h.piece; at = h.at; there = h.there; same = h.same; next = omega (arith, z.is, total q h.less); none = refl }

  to_stop : (q : Position) (p : ℕ) (h : Passing q p) → deeper_rows n (following q) ≡ length (following q) → Over q stop
  to_stop q p h all = record { piece = h.piece; at = h.at; there = h.there; same = h.same; next = omega (arith, all, total q h.less, size q h.less, h.less); none = refl }

  -- over all of them to an item
  over_items : (p : ℕ) (q : Position) → Passing q p → (i : ℕ) → line_here q (Nth (suc p + i)) ≡ line_here stop (Nth i)
  over_items zero q h i = go (siblings n (following q) h.deep)
    where
      go : ((deeper_rows n (following q) ≡ length (following q)) × (level_count n (following q) ≡ 0)) ⊎ Sibling n (following q) → line_here q (Nth (suc 0 + i)) ≡ line_here stop (Nth i)
      go (inl z) = let one : suc 0 + i ≡ suc i = omega arith in ap (λ (k : ℕ). line_here q (Nth k)) one ∙ over_item q stop (to_stop q 0 h z.0) i
      go (inr z) = absurd (omega (arith, z.count, h.count))
  over_items (suc p) q h i = go (siblings n (following q) h.deep) (λ e g. over_items p e g i)
    where
      go : ((deeper_rows n (following q) ≡ length (following q)) × (level_count n (following q) ≡ 0)) ⊎ Sibling n (following q) →
          ((e : Position) → Passing e p → line_here e (Nth (suc p + i)) ≡ line_here stop (Nth i)) →
          line_here q (Nth (suc (suc p) + i)) ≡ line_here stop (Nth i)
      go (inl z) later = absurd (omega (arith, z.1, h.count))
      go (inr z) later =
          let one : suc (suc p) + i ≡ suc (suc p + i) = omega arith in
          ap (λ (k : ℕ). line_here q (Nth k)) one ∙ (over_item q (after q z) (to_next q (suc p) h z) (suc p + i) ∙ later (after q z) (next_item q p h z))

  -- over all of them to an entry, which has its key alone
  module _ (key : List ℕ) (w : ℕ × Line × Outline) (found : line_here stop (To key) ≡ Some w) where
    over_keys : (p : ℕ) (q : Position) → Passing q p → HasKeys q → line_here q (To key) ≡ Some w
    over_keys zero q h keys = go (siblings n (following q) h.deep)
      where
        go : ((deeper_rows n (following q) ≡ length (following q)) × (level_count n (following q) ≡ 0)) ⊎ Sibling n (following q) → line_here q (To key) ≡ Some w
        go (inl z) = over_key q stop (to_stop q 0 h z.0) key w keys found ∙ found
        go (inr z) = absurd (omega (arith, z.count, h.count))
    over_keys (suc p) q h keys = go (siblings n (following q) h.deep) (over_keys p)
      where
        go : ((deeper_rows n (following q) ≡ length (following q)) × (level_count n (following q) ≡ 0)) ⊎ Sibling n (following q) → ((e : Position) → Passing e p → HasKeys e → line_here e (To key) ≡ Some w) → line_here q (To key) ≡ Some w
        go (inl z) later = absurd (omega (arith, z.1, h.count))
        go (inr z) later =
            let o = to_next q (suc p) h z in
            let rest = later (after q z) (next_item q p h z) (more_keys q (after q z) o keys) in
            over_key q (after q z) o key w keys rest ∙ rest

-- rows are counted from one on, where those before are deeper
rows_passed : (ss : List Slices) (floor n end : ℕ) → floor < n → end ≤ length ss → (m a : ℕ) → a + m ≤ end → AreRowsDeep n (drop a (take (a + m) ss)) →
    a + deeper_rows floor (take (end - a) (drop a ss)) ≡ (a + m) + deeper_rows floor (take (end - (a + m)) (drop (a + m) ss))
rows_passed ss floor n end less long zero a within deep = let none : a ≡ a + zero = omega arith in ap (λ (k : ℕ). k + deeper_rows floor (take (end - k) (drop k ss))) none
rows_passed ss floor n end less long (suc m) a within deep =
    let x = one_there ss a (omega (arith, within, long)) in
    let sum : a + suc m ≡ (a + 1) + m = omega arith in
    let first : drop a (take (a + suc m) ss) ≡ x.0 ∷ drop (a + 1) (take ((a + 1) + m) ss) = search (rules, drop_at, get_taken, x) in
    let both : AreRowsDeep n (x.0 ∷ drop (a + 1) (take ((a + 1) + m) ss)) = subst (AreRowsDeep n) first deep in
    search (rules, under_more, rows_passed ss floor n end less long m (a + 1) (omega (arith, within)) both.1)

-- the end of a collection is looked for from a known item on
module _ (s : RowsView) (d : Stretch) (h : HasRows s d) (under : Position) (floor : ℕ) (k : KnownItem) (among : IsKnownIn s.rows under floor d.end k) where
  pub row_later : under.row < k.row
  row_later = search (rules, slice_get_within, length-take-le)

  pub end_later : rows_end s d floor k.row ≡ rows_end s d floor (under.row + 1)
  end_later =
      let a : ℕ = under.row + 1 in
      let m : ℕ = k.row - a in
      let row : a + m ≡ k.row = omega (arith, row_later) in
      let deep : AreRowsDeep k.level (drop a (take (a + m) s.rows)) = subst (λ (q : Position × ℕ). AreRowsDeep k.level (drop (q.0.row + 1) (take q.1 s.rows))) (λ i. (among.under_is i, sym row i)) among.known.deep in
      sym (rows_passed s.rows floor k.level d.end (omega (arith, among.floor_is, among.known.deeper)) h.within m a (omega (arith, row, among.within)) deep ∙ ap (rows_end s d floor) row)

-- A walk goes on from a known item.
module _ (s : RowsView) (d : Stretch) (under : Position) (floor : ℕ) (k : KnownItem) (start : IsPosition s d under)
    (among : IsKnownIn s.rows under floor d.end k) (low : (y : Slices) → slice_get s.rows k.row ≡ Some y → line_level 0 y ≤ k.level) where
  abbrev row_of : Position
  row_of = record { row = k.row; line = 0 }

  all_taken : (h : HasRows s d) → length (take k.row s.rows) ≡ k.row
  all_taken h = length-take-le k.row s.rows (omega (arith, among.within, h.within))

  before_offset : (h : HasRows s d) → k.under.row < k.row
  before_offset h = omega (arith, slice_get_within (take k.row s.rows) k.under.row among.known.piece among.known.there, all_taken h)

  begin : IsPosition s d k.under
  begin = subst (IsPosition s d) (sym among.under_is) start

  last : (h : HasRows s d) → (y : Slices) × (slice_get s.rows k.row ≡ Some y)
  last h = one_there s.rows k.row (omega (arith, among.within, h.within))

  abbrev count : ℕ
  count = level_count k.level (drop (k.under.row + 1) (take k.row s.rows))

  first : (h : HasRows s d) → Passing s d h k.floor k.row k.level (last h).0 among.within (last h).1 (low (last h).0 (last h).1) among.known.deeper k.under count
  first h = search (rules, position_line, begin, before_offset, get_taken)

  -- the known item's line
  pub known_line : HasRows s d → IsLine s d row_of
  known_line h = record { from = omega (arith, begin.from, before_offset h); upto = among.within; line = λ x is. omega arith }

  pub goes_on : (index : ℕ) → k.index ≤ index → GoesOn s d floor under index row_of (index - k.index)
  goes_on index more h =
      let all = over_items s d h.are_there k.floor k.row k.level (last h.are_there).0 among.within (last h.are_there).1
      (low (last h.are_there).0 (last h.are_there).1) among.known.deeper count k.under (first h.are_there) (index - k.index) in
      search (rules, all)

  -- the entry of a known item is found, where it has the key
  pub goes_to : (key : List ℕ) → HaveKeys s d under floor → ((y : Slices) → slice_get s.rows k.row ≡ Some y → k.level ≡ line_level 0 y) → IsKeyed s d k key → Finds s d under floor (To key) (Some row_of)
  goes_to key keys exact keyed h =
      let ls : List Line = lines_of_rows h.are_there.rows in
      let i : ℕ = line_number d h.are_there.rows row_of in
      let l = located s d h.are_there row_of (known_line h.are_there) in
      let deep : true ≡ not (has_no_lines (part ls i k.floor)) = sym (lt-ltb k.floor k.level among.known.deeper) ∙ deeper_agrees s d h.are_there row_of k.level k.floor (known_line h.are_there) exact in
      let here = position_here ls i k.floor l.line l.is deep (To key) (keyed h.are_there l.line l.is) in
      let one : lines.line_here ls (Some i) ≡ Some (i, l.line, part ls (i + 1) (level l.line)) = ap (option_map (λ m. (i, m, part ls (i + 1) (level m)))) l.is in
      let differ : are_distinct (keys_of (children (part ls (line_number d h.are_there.rows k.under) k.floor))) ≡ true = search (rules, ls) in
      let all = over_keys s d h.are_there k.floor k.row k.level (last h.are_there).0 among.within (last h.are_there).1
      (low (last h.are_there).0 (last h.are_there).1) among.known.deeper key _ (here ∙ one) count k.under (first h.are_there) differ in
      (λ j. found_from d h.are_there.rows (sym among.floor_is j) (sym among.under_is j) (To key)) ∙ (all ∙ sym one)
