-- Rows that go from the end of a text, after one that stays as it was read.
use Rattle.std.proofs.Common.{◌≡◌, ℕ, ◌+◌, ◌-◌, ◌<◌, true, false, not, List, [], ◌∷◌, ◌++◌, length, map, reverse, take, drop, drop_at, suc}
use Rattle.std.proofs.Common.{Some, get_or, slice_get, slice_set, refl, sym, ap, ◌∙◌, subst, arith, append-nil, append_assoc, length-append}
use Rattle.std.{proofs.Common.{length-take, rules}, proofs.Math.Seq.get_or-append_seam, proofs.lemmas.List.{drop_all, set_split, take_at}}
use Rattle.std.{proofs.lemmas.Option.{get_or_from_slice_get, same_Some, slice_get_within}, proofs.lemmas.Str.IsUtf8-nil}
use Rattle.yq_row_table.{specs.Ends.end_at, specs.Grammar.IsCut, specs.Items.{Item, row_item, end_item, items_of_cut, items_text}}
use Rattle.yq_row_table.{specs.Kept.{ArePlaced, near, ends_near, row_from_end, TextsIn}, specs.Offsets.offsets_of, specs.Reading.all_parts}
use Rattle.yq_row_table.{specs.Regions.{IsReadAlone, region_items, no_items}, specs.Rows.{Row, Cut}, specs.Touched.TouchesOnly}
use Rattle.yq_row_table.{specs.View.slices, specs.declared.ends.EndPlace.EndPlace, specs.declared.places.Places.Places}
use Rattle.yq_row_table.{proofs.ItemLaws.items_of_text, proofs.KeptLaws.{near_joined, texts_joined}, proofs.RegionLaws.region}
use Rattle.yq_rows.{specs.Dropping.DropsLast, specs.Exchanging.TextChange, specs.Following.{ArePlacesOf, exchanged, read_text}}
use Rattle.yq_rows.{specs.Reading.{read_part, region_text}, specs.Sides.{AreAt, first_byte, text_length}, specs.declared.kept.Kept.Kept}
use Rattle.yq_rows.{specs.declared.sides.Side.Side, specs.declared.touched.Touched.Touched, proofs.BeginLaws.joined_long}
use Rattle.yq_rows.{proofs.CountLaws.ends_joined, proofs.ExchangeLaws.texts_first}
use Rattle.yq_rows.proofs.ItemPlaces.{BothSides, cut_long, placed_in, places_of, text_split}
use Rattle.yq_row_table.specs.declared.offsets.Offsets as declared

-- the item after some others is a row, where more rows than they have come before the next end of a part
row_next : (p : Places) (f ys : List Item) (e : EndPlace) → AreAt p (f ++ ys) → slice_get p.ends (length (ends_near 0 0 f)) ≡ Some e → length (near 0 f) < e.rows → (r : Row) × (rest : List Item) × (ys ≡ row_item r ∷ rest)
row_next p f ys e at own less = go ys (at.ends_are ∙ ends_joined 0 0 f ys)
  where
    go : (l : List Item) → p.ends ≡ ends_near 0 0 f ++ ends_near (0 + text_length f) (0 + length (near 0 f)) l → (r : Row) × (rest : List Item) × (l ≡ row_item r ∷ rest)
    go [] is = absurd (omega (arith, slice_get_within p.ends (length (ends_near 0 0 f)) e own, ap length is, length-append (ends_near 0 0 f) []))
    go (row_item r ∷ rest) is = (r, rest, refl)
    go (end_item gap marker ∷ rest) is =
        let n : ℕ = 0 + text_length f in
        let k : ℕ = 0 + length (near 0 f) in
        let there = ap (λ (l : List EndPlace). get_or l (length (ends_near 0 0 f)) e) is ∙ get_or-append_seam (ends_near 0 0 f) (end_at n k gap marker) (ends_near (n + length (gap ++ marker)) k rest) e in
        let same : e ≡ end_at n k gap marker = sym (get_or_from_slice_get p.ends (length (ends_near 0 0 f)) e e own) ∙ there in
        absurd (omega (arith, less, ap (λ (x : EndPlace). x.rows) same))

-- the first row after a split begins where it is
first_there : (n m : ℕ) (os tail : List declared.Offsets) (r : Row) → map (row_from_end n) os ≡ offsets_of m (slices r) ∷ tail → first_byte n os ≡ m
first_there n m [] tail r e = absurd cc
first_there n m (o ∷ os) tail r e =
    let first : row_from_end n o ≡ offsets_of m (slices r) = cc in
    ap (λ (x : declared.Offsets). x.start) first

none_following : (l : List Item) → false ≡ not (no_items l) → l ≡ []
none_following [] e = refl
none_following (i ∷ l) e = absurd cc

-- items with one text are read alone as the same ones
read_same : (w z xs ys : List Item) → IsReadAlone w z → IsReadAlone xs ys → items_text w [] ≡ items_text xs [] → region_items w z ≡ region_items xs ys
read_same w z xs ys h j text =
    let same : h.cut ≡ j.cut = same_Some h.cut j.cut (sym h.read ∙ (ap (all_parts true) text ∙ j.read)) in
    sym h.items ∙ (ap items_of_cut same ∙ j.items)

module _ (t : List ℕ) (kept : Kept) (p : Places) (x : Touched) (last : EndPlace) (k : TextChange t [] kept p x) (d : DropsLast p (length t) x kept last) (c : Cut) (is : IsCut t c) where
  abbrev b : List Item
  b = k.before

  front_rows : x.front.rows ≡ length (near 0 b)
  front_rows = ap (λ (s : Side). s.rows) k.front_is

  front_ends : x.front.ends ≡ length (ends_near 0 0 b)
  front_ends = ap (λ (s : Side). s.ends) k.front_is

  -- the row in front, and the next one
  pub own : (r : Row) × (rest : List Item) × (k.touched ++ k.read.after ≡ row_item r ∷ rest)
  own = row_next p b (k.touched ++ k.read.after) d.end k.placed (subst (λ (n : ℕ). slice_get p.ends n ≡ Some d.end) front_ends d.end_is) (omega (arith, front_rows, d.one_row, d.later))

  abbrev one : List Item
  one = row_item own.0 ∷ []

  abbrev rest : List Item
  rest = own.1

  abbrev f : List Item
  f = b ++ one

  group : b ++ (k.touched ++ k.read.after) ≡ f ++ rest
  group = ap (λ l. b ++ l) own.2 ∙ sym (append_assoc b one rest)

  placed : AreAt p (f ++ rest)
  placed = subst (AreAt p) group k.placed

  rows_f : length (near 0 f) ≡ length p.front.items
  rows_f = omega (arith, ap length (near_joined 0 b one), length-append (near 0 b) (near (0 + text_length b) one), front_rows, d.one_row)

  ends_f : length (ends_near 0 0 f) ≡ x.front.ends
  ends_f = omega (arith, ap length (ends_joined 0 0 b one), length-append (ends_near 0 0 b) (ends_near (0 + text_length b) (0 + length (near 0 b)) one), front_ends)

  next : (r : Row) × (more : List Item) × (rest ≡ row_item r ∷ more)
  next = row_next p f rest d.end placed (subst (λ (n : ℕ). slice_get p.ends n ≡ Some d.end) (sym ends_f) d.end_is) (omega (arith, rows_f, d.later))

  -- the split
  abbrev back : List declared.Offsets
  back = map (row_from_end (text_length (f ++ rest))) (reverse p.after.items)

  sides : p.front.items ++ back ≡ near 0 f ++ near (0 + text_length f) rest
  sides = placed.rows_are ∙ near_joined 0 f rest

  front_are : p.front.items ≡ near 0 f
  front_are = sym (take_at p.front.items back (length p.front.items) refl) ∙ (ap (take (length p.front.items)) sides ∙ take_at (near 0 f) (near (0 + text_length f) rest) (length p.front.items) rows_f)

  after_are : back ≡ near (0 + text_length f) rest
  after_are = sym (drop_at p.front.items back (length p.front.items) refl) ∙ (ap (drop (length p.front.items)) sides ∙ drop_at (near 0 f) (near (0 + text_length f) rest) (length p.front.items) rows_f)

  begins : kept.front ≡ text_length f
  begins =
      let m : ℕ = 0 + text_length f in
      let there = first_there (text_length (f ++ rest)) m (reverse p.after.items) _ next.0 (after_are ∙ ap (near m) next.2) in
      search (rules, cut_long, group, m, there)

  -- what would be read
  text : t ≡ items_text f [] ++ items_text rest []
  text = is.text ∙ (sym (items_of_text c) ∙ (ap (λ (l : List Item). items_text l []) (sym (k.old_items c is) ∙ group) ∙ text_split f rest))

  pub front_text : drop x.front.bytes (take kept.front t) ≡ items_text one []
  front_text =
      let kept_text : take kept.front t ≡ items_text b [] ++ items_text one [] = ap (take kept.front) text ∙ (take_at (items_text f []) (items_text rest []) kept.front (sym begins) ∙ text_split b one) in
      search (rules, drop_at, kept_text)

  pub region_is : region_text t x kept [] ≡ drop x.front.bytes (take kept.front t)
  region_is =
      let none : drop (length t - kept.back) (take x.old.bytes t) ≡ [] = drop_all (length t - kept.back) (take x.old.bytes t) (omega (arith, d.nothing_kept, length-take x.old.bytes t)) in
      ap (λ l. drop x.front.bytes (take kept.front t) ++ l) none ∙ append-nil (drop x.front.bytes (take kept.front t))

  nothing : k.read.after ≡ []
  nothing = none_following k.read.after (sym d.more ∙ k.read.more)

  abbrev final : List Item
  final = end_item [] [] ∷ []

  written : k.read.written ≡ one ++ final
  written =
      let mine : IsReadAlone one rest = region one rest (record { text = t; cut = c; is_cut = is; front = b; items = sym (k.old_items c is) ∙ ap (λ l. b ++ l) own.2; some = refl }) in
      ap (region_items k.read.written) (sym nothing)
      ∙ (read_same k.read.written k.read.after one rest k.read.read mine (sym k.read.text ∙ (region_is ∙ front_text)) ∙ ap (region_items one) next.2)

  -- the places that stay
  ends_final : ends_near 0 0 (f ++ final) ≡ ends_near 0 0 f ++ end_at (0 + text_length f) (0 + length (near 0 f)) [] [] ∷ []
  ends_final = ends_joined 0 0 f final

  ends_set : slice_set p.ends (length p.ends - 1) last ≡ ends_near 0 0 (f ++ final)
  ends_set =
      let n : ℕ = length p.ends - 1 in
      let some : n < length p.ends = omega (arith, d.one_end) in
      let gone : drop (suc n) p.ends ≡ [] = drop_all (suc n) p.ends (omega (arith, d.one_end)) in
      let first : take n p.ends ≡ ends_near 0 0 f = ap (take n) (placed.ends_are ∙ ends_joined 0 0 f rest) ∙ take_at (ends_near 0 0 f) (ends_near (0 + text_length f) (0 + length (near 0 f)) rest) n (omega (arith, ends_f, d.one_end)) in
      search (rules, rows_f, begins, set_split, ends_final, first, n, some, gone)

  final_placed : (q : Places) → q.front.items ≡ p.front.items → q.after.items ≡ [] → q.ends ≡ slice_set p.ends (length p.ends - 1) last → q.split ≡ kept.front → ArePlaced q (f ++ final) []
  final_placed q rows after ends split =
      let all : f ++ final ≡ (f ++ final) ++ [] = sym (append-nil (f ++ final)) in
      record {
        split_is = omega (arith, split, begins, joined_long f final);
        front_are = rows ∙ (front_are ∙ sym (near_joined 0 f final ∙ append-nil (near 0 f)));
        after_are = ap reverse after;
        ends_are = ends ∙ (ends_set ∙ ap (ends_near 0 0) all);
        texts = subst TextsIn all (texts_joined f final (texts_first f rest placed.texts) (IsUtf8-nil, IsUtf8-nil, tt));
        small = omega (arith, ap text_length (sym all), joined_long f final, joined_long f rest, placed.small);
      }

  pub rows_dropped : (q : Places) → q.front.items ≡ p.front.items → q.after.items ≡ [] → q.ends ≡ slice_set p.ends (length p.ends - 1) last → q.split ≡ kept.front → ArePlaced q (b ++ k.read.written) k.read.after
  rows_dropped q rows after ends split = search (rules, nothing, final_placed, append_assoc, written)

  -- the text that stays
  pub kept_text : take kept.front t ≡ exchanged kept t []
  kept_text =
      let none : drop (length t - kept.back) t ≡ [] = drop_all (length t - kept.back) t (omega (arith, d.nothing_kept)) in
      sym (ap (λ l. take kept.front t ++ l) none ∙ append-nil (take kept.front t))

  pub dropped_places : (u : List ℕ) (q : Places) (new : Cut) → IsCut (exchanged kept t []) new → u ≡ take kept.front t →
      q.front.items ≡ p.front.items → q.after.items ≡ [] → q.ends ≡ slice_set p.ends (length p.ends - 1) last → q.split ≡ kept.front → ArePlacesOf u q
  dropped_places u q new new_is text_is rows after ends split =
      let both : BothSides q (items_of_cut new) = (b ++ k.read.written, k.read.after, append_assoc b k.read.written k.read.after ∙ k.items new new_is, rows_dropped q rows after ends split) in
      subst (λ (l : List ℕ). ArePlacesOf l q) (sym (text_is ∙ kept_text)) (places_of (exchanged kept t []) q (placed_in (exchanged kept t []) q new new_is both))

  -- what is counted
  pub dropped_text : (old new : Cut) → IsCut t old → IsCut (exchanged kept t []) new → (h : TouchesOnly kept.front kept.back old new) → drop x.front.bytes (take kept.front t) ≡ read_text kept old new h
  dropped_text old new was new_is h = sym region_is ∙ (ap (read_part (region_text t x kept [])) (sym d.marked) ∙ sym (k.once old new was new_is h))
