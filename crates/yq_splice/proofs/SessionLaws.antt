-- A text with its cut, which a session keeps, and what is borrowed of it.
use Rattle.std.proofs.Common.{◌≡◌, ℕ, ◌-◌, Bool, true, false, cond, ltb, List, [], ◌∷◌, ◌++◌, length, take, drop, Some, refl, sym, ap, ◌∙◌}
use Rattle.std.{proofs.Common.{subst, arith, append-nil}, proofs.lemmas.Bool.le-ltb, proofs.lemmas.List.{length-take-le, take-append-drop}}
use Rattle.std.{specs.Str.{IsCharBoundary, IsUtf8, is_utf8}, specs.Prelude.{Err, Ok, OnErr, Result}}
use Rattle.yq_text.{specs.Halves.whole, specs.TextGapBuffer.{TextGapView, buffer_text}, specs.declared.halves.Halves.Halves}
use Rattle.yq_text.{specs.Changing.IsChange, specs.Script.new_text, specs.declared.changed.ChangedMiddle.ChangedMiddle}
use Rattle.yq_text.specs.declared.edited.Edited.{Edited}
use Rattle.yq_core.{specs.Answers.ReadError, proofs.Bools.guard_then}
use Rattle.yq_row_table.{specs.Grammar.IsCut, specs.Items.{Item, items_of_cut, items_text}, specs.Kept.IsPlaced, specs.Rows.Cut}
use Rattle.yq_row_table.{specs.Touched.{TouchesOnly, in_back, before_offset, item_text}, specs.View.{RowsView, rows_view}}
use Rattle.yq_row_table.{specs.declared.places.Places.Places, proofs.PlacedLaws.split_boundary}
use Rattle.yq_documents.{specs.Reading.{all_documents, documents, cut_of, read_at}, proofs.ReadLaws.{parts_read, text_takes, read_takes}}
use Rattle.yq_places.specs.RowWalk.{HasCut}
use Rattle.yq_lookup.{specs.Knowledge.{IsKnowledge, KnowledgeStays}, specs.declared.knowledge.Knowledge.Knowledge}
use Rattle.yq_semantics.{specs.Judgement.ExprError, specs.Operations.Operation}
use Rattle.yq_edit_laws.{specs.Answers.Edits, proofs.CutLaws.cut_read, specs.Carried.{carry_one, carried}}
use Rattle.yq_edit_laws.{specs.Edit.{gives, by_reading, exchange_edit}, specs.Theorems.HasReading, specs.Valid.segments_by}
use Rattle.yq_edit_laws.{proofs.TextFaults.{FailsToRead, text_unread}, proofs.UpdateLaws.no_reading}
use Rattle.yq_edit_rules.proofs.DoneLaws.{read_cut}
use Rattle.yq_rows.specs.Following.{ArePlacesOf}
use Rattle.yq_splice.specs.Session.{HasPlaces, Knows, NotOpened}
use Rattle.yq_failure.specs.declared.failure.Failure.TheVariants as reading

-- ---- what failed

-- what is known where it failed is known of what it answers
pub on_err : {A E : Type 0} (r : Result A E) (P : Type 0) → P → OnErr r P
on_err (Ok x) P h = tt
on_err (Err e) P h = h

pub on_err_then : {A E : Type 0} (r : Result A E) (P Q : Type 0) → (P → Q) → OnErr r P → OnErr r Q
on_err_then (Ok x) P Q f h = tt
on_err_then (Err e) P Q f h = f h

-- ---- a text with its cut

documents_sound : (t : List ℕ) (c : Cut) → read_at t ≡ Some c → all_documents c ≡ true
unfolding read_at
documents_sound t c is = (text_takes t c (guard_then (is_utf8 t) is).1).1

pub has_cut : (t : List ℕ) (c : Cut) (s : RowsView) → read_at t ≡ Some c → s ≡ rows_view c → HasCut t s
has_cut t c s is shows =
    let same : c ≡ cut_of t = sym (read_cut t c is) in
    record { cut = subst (IsCut t) same (cut_read t c is); rows = shows ∙ ap rows_view same; sound = ap all_documents (sym same) ∙ documents_sound t c is }

-- ---- a text that has a reading

-- it is read as its cut
pub reading_cut : (t : List ℕ) → HasReading t → read_at t ≡ Some (cut_of t)
reading_cut t h = let read = (parts_read t h.0 h.1).0 in read ∙ ap Some (sym (read_cut t h.1.parts read))

-- ---- opened

-- a text that is read, and one that isn't
pub has_reading : (t : List ℕ) (c : Cut) → read_at t ≡ Some c → HasReading t
has_reading t c is = (documents c, read_takes t c is)

pub not_opened : (e : ReadError) (bytes t : List ℕ) → bytes ≡ t → IsUtf8 t → FailsToRead e bytes → NotOpened e t
not_opened reading.Memory bytes t same utf8 h = tt
not_opened (reading.Fault fault) bytes t same utf8 h = let k = text_unread bytes t fault same utf8 h in (no_reading t k.0, k.1)

-- ---- its rows

-- a text whose split was moved is the same
pub moved_same : (t : List ℕ) (n : ℕ) (s : TextGapView) → s.front ≡ take n t → s.back ≡ drop n t → buffer_text s ≡ t
moved_same t n s front back = (λ i. front i ++ back i) ∙ take-append-drop n t

-- those of a text that is as before
pub places_stay : (t u : List ℕ) (p q : Places) (k : Knowledge) → u ≡ t → HasPlaces t p → Knows t k → ArePlacesOf u q → HasPlaces u q × Knows u k
places_stay t u p q k same h known placed =
    let read : read_at u ≡ Some h.cut = ap read_at same ∙ h.read in
    (record { cut = h.cut; read = read; placed = placed h.cut (cut_read u h.cut read) }, subst (λ (x : List ℕ). Knows x k) (sym same) known)

module _ (t : List ℕ) (p : Places) (h : HasPlaces t p) where
  -- their split is in the text
  pub split_is : IsCharBoundary t p.split
  split_is = split_boundary t h.cut p (cut_read t h.cut h.read) h.placed

  -- borrowed on the halves of the text, which is split there
  module _ (text : Halves) (borrowed : (text.front.now ≡ take p.split t) × (text.back.now ≡ drop p.split t)) where
    pub whole_borrowed : whole text ≡ t
    whole_borrowed = (λ i. borrowed.0 i ++ borrowed.1 i) ∙ take-append-drop p.split t

    own_cut : (d : Cut) → IsCut t d → IsCut (whole text) d
    own_cut d = subst (λ (x : List ℕ). IsCut x d) (sym whole_borrowed)

    pub split_borrowed : length text.front.now ≡ p.split
    split_borrowed = ap length borrowed.0 ∙ length-take-le p.split t split_is.0

    pub places_borrowed : (c : Cut) × IsCut (whole text) c × IsPlaced p (rows_view c)
    places_borrowed = (h.cut, own_cut h.cut (cut_read t h.cut h.read), h.placed)

    module _ (r : RowsView) (shows : (c : Cut) → IsCut (whole text) c → r ≡ rows_view c) where
      own : r ≡ rows_view h.cut
      own = shows h.cut (own_cut h.cut (cut_read t h.cut h.read))

      pub cut_borrowed : HasCut (whole text) r
      cut_borrowed = subst (λ (x : List ℕ). HasCut x r) (sym whole_borrowed) (has_cut t h.cut r h.read own)

      -- what is known of it
      pub known_borrowed : (k : Knowledge) → Knows t k → IsKnowledge r k
      known_borrowed k is = subst (λ (x : RowsView). IsKnowledge x k) (sym (own ∙ ap rows_view (sym (read_cut t h.cut h.read)))) is

      -- and given back
      pub places_back : (q : Places) → IsPlaced q r → HasPlaces t q
      places_back q placed = record { cut = h.cut; read = h.read; placed = subst (IsPlaced q) own placed }

-- ---- what is known

-- the items before an offset are the first ones
front_part : (n : ℕ) (xs : List Item) → (ys : List Item) × (xs ≡ before_offset n xs ++ ys)
front_part n [] = ([], refl)
front_part n (i ∷ xs) = go (front_part (n - length (item_text i)) xs) (ltb (length (item_text i)) n) refl
  where
    go : ((ys : List Item) × (xs ≡ before_offset (n - length (item_text i)) xs ++ ys)) → (b : Bool) → ltb (length (item_text i)) n ≡ b → (ys : List Item) × (i ∷ xs ≡ before_offset n (i ∷ xs) ++ ys)
    go more true e = (more.0, ap (λ (l : List Item). i ∷ l) more.1 ∙ ap (λ (b : Bool). cond b (i ∷ before_offset (n - length (item_text i)) xs) [] ++ more.0) (sym e))
    go more false e = (i ∷ xs, ap (λ (b : Bool). cond b (i ∷ before_offset (n - length (item_text i)) xs) [] ++ (i ∷ xs)) (sym e))

none_following : (xs : List Item) → in_back 0 xs ≡ []
none_following [] = refl
none_following (i ∷ xs) = rw (le-ltb (length (items_text (i ∷ xs) [])) 0 (omega arith)) (none_following xs)

touches_itself : (n : ℕ) (c : Cut) → TouchesOnly n 0 c c
touches_itself n c =
    let xs = items_of_cut c in
    let rest = front_part n xs in
    let all : xs ≡ before_offset n xs ++ (rest.0 ++ in_back 0 xs) =
    rest.1 ∙ ap (λ (l : List Item). before_offset n xs ++ l) (sym (append-nil rest.0) ∙ ap (λ (l : List Item). rest.0 ++ l) (sym (none_following xs))) in
    record { touched = rest.0; written = rest.0; old_are = all; new_are = all; front_same = refl; back_same = refl }

-- what stays known is so in the text itself
pub known_here : (n : ℕ) (t : List ℕ) (k : Knowledge) → KnowledgeStays n (cut_of t) k → Knows t k
known_here n t k stay = stay (cut_of t) 0 (touches_itself n (cut_of t))

-- ---- an operation on it

-- what it comes to, by the cut of the text and by what it changes there
pub carried_on : (op : Operation) (t x : List ℕ) (p : Places) → HasPlaces t p → x ≡ t → carry_one op (cut_of x) ≡ carried op t
carried_on op t x p h same = ap (λ (y : List ℕ). carry_one op (cut_of y)) same ∙ (ap (carry_one op) (read_cut t h.cut h.read) ∙ sym (ap (by_reading (carry_one op)) h.read))

pub carried_again : (op : Operation) (t x : List ℕ) (r : Result Edited ExprError) → HasReading t → x ≡ t → Edits r (carry_one op (cut_of x)) → Edits r (carried op t)
carried_again op t x r h same e =
    subst (Edits r) (ap (λ (y : List ℕ). carry_one op (cut_of y)) same ∙ sym (ap (by_reading (carry_one op)) (reading_cut t h))) e

pub carried_by : (op : Operation) (t : List ℕ) (p : Places) (x : ChangedMiddle) → HasPlaces t p → IsChange (segments_by op (cut_of t)) x → carried op t ≡ gives (new_text (segments_by op (cut_of t))) x.splices.items
carried_by op t p x h change = sym (carried_on op t t p h refl) ∙ ap exchange_edit change.exact
