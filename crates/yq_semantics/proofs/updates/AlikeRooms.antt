-- Rooms that are alike for operations say the same of them.
use Rattle.std.proofs.lemmas.Bool.{cases_Bool, eqb-true, eqb-false}
use Rattle.std.{proofs.Common.{◌≡◌, ◌⊎◌, ℕ, zero, suc, Bool, List, [], ◌∷◌, refl, ap, ◌∙◌, Some, option_map, rules}, specs.List.slice_get}
use Rattle.yq_documents.{specs.Documents.Document, specs.TreeEdits.change_nth}
use Rattle.yq_semantics.{specs.After.{op_document, done_to, after_op, all_after}, specs.Changes.Room, specs.Fits.{Fits, AllFit}}
use Rattle.yq_semantics.specs.Operations.{Operation}
use Rattle.yq_semantics.specs.RoomsKept.{KeepsBlockIn, SetsComment, NoneOn, BlockLasts, SetComments, SetNoComment, MayFollow, SameRoom}
use Rattle.yq_semantics.specs.RoomsKept.{LeavesRooms, AlikeFor, AreAlike}

module _ (old new : ℕ → Room) where
  -- an operation fits by either
  pub fits_alike : (op : Operation) (docs : List Document) → AlikeFor op (old (op_document op)) (new (op_document op)) → Fits old op docs → Fits new op docs
  fits_alike op docs a h = (h.0, h.1, search rules)

  -- it makes the same of documents
  pub after_alike : (op : Operation) (docs : List Document) → AlikeFor op (old (op_document op)) (new (op_document op)) → after_op new op docs ≡ after_op old op docs
  after_alike op docs a = ap (λ (b : Bool). change_nth (op_document op) (done_to b op) docs) a.block

  -- so do operations
  pub all_after_alike : (ops : List Operation) (docs : List Document) → AreAlike old new ops → all_after new ops docs ≡ all_after old ops docs
  all_after_alike [] docs a = refl
  all_after_alike (op ∷ ops) docs a = ap (all_after new ops) (after_alike op docs a.0) ∙ all_after_alike ops (after_op old op docs) a.1

  -- which fit by either
  pub all_fit_alike : (ops : List Operation) (docs : List Document) → AreAlike old new ops → AllFit old ops docs → AllFit new ops docs
  all_fit_alike [] docs a h = tt
  all_fit_alike (op ∷ ops) docs a h = search (rules, fits_alike, after_alike, all_fit_alike ops (after_op old op docs) a.1 h.1)

  lasts_alike : (ops : List Operation) (docs : List Document) → AreAlike old new ops → BlockLasts old ops docs → BlockLasts new ops docs
  lasts_alike [] docs a h = tt
  lasts_alike (op ∷ ops) docs a h = search (rules, after_alike, lasts_alike ops (after_op old op docs) a.1 h.1)

-- ---- the rooms after an operation

pub nth_changed : {A : Type 0} (n : ℕ) (f : A → A) (xs : List A) (x : A) → slice_get xs n ≡ Some x → slice_get (change_nth n f xs) n ≡ Some (f x)
nth_changed n f [] x h = absurd (cc)
nth_changed zero f (y ∷ ys) x h = ap (λ o. option_map f o) h
nth_changed (suc n) f (y ∷ ys) x h = nth_changed n f ys x h

-- the document of an operation that fits is there after it
there_after : (rooms : ℕ → Room) (op : Operation) (docs : List Document) → Fits rooms op docs → (d : Document) × (slice_get (after_op rooms op docs) (op_document op) ≡ Some d)
there_after rooms op docs fits = (done_to (rooms (op_document op)).block op fits.0, nth_changed (op_document op) (done_to (rooms (op_document op)).block op) docs fits.0 fits.1)

module _ (op : Operation) (old new : ℕ → Room) (docs : List Document) (left : LeavesRooms op old new docs) (there : (d : Document) × (slice_get docs (op_document op) ≡ Some d)) where
  -- by what is so of the room of the operation's document, and of that of any other
  by_document : (P : ℕ → Type 0) → P (op_document op) → ((i : ℕ) → (i ≡ op_document op → ⊥) → P i) → (i : ℕ) → P i
  by_document P here other i = search (rules, eqb-true, eqb-false, cases_Bool)

  all_same : SetsComment op → (others : List Operation) → AreAlike old new others
  all_same set [] = tt
  all_same set (x ∷ xs) = let same : SameRoom (old (op_document x)) (new (op_document x)) =
      by_document (λ i. SameRoom (old i) (new i)) (left.comments set) left.others (op_document x) in
      (record { block = same.block; has = λ c. same.has }, all_same set xs)

  same_block : KeepsBlockIn op docs → (others : List Operation) → SetNoComment others → AreAlike old new others
  same_block kept [] none = tt
  same_block kept (x ∷ xs) none =
      (record { block = by_document (λ i. (new i).block ≡ (old i).block) go (λ i apart. (left.others i apart).block) (op_document x); has = λ c. absurd (none.0 c) }, same_block kept xs none.1)
    where
      go : (new (op_document op)).block ≡ (old (op_document op)).block
      go = left.block there.0 there.1 (kept there.0 there.1)

  same_others : (others : List Operation) → NoneOn (op_document op) others → SetNoComment others → AreAlike old new others
  same_others [] apart none = tt
  same_others (x ∷ xs) apart none = (record { block = (left.others (op_document x) apart.0).block; has = λ c. absurd (none.0 c) }, same_others xs apart.1 none.1)

-- the rooms that an operation leaves are alike for the later ones
next_alike : (op : Operation) (ops : List Operation) (old new : ℕ → Room) (after : List Document) → LeavesRooms op old new after →
    ((d : Document) × (slice_get after (op_document op) ≡ Some d)) → (KeepsBlockIn op after ⊎ NoneOn (op_document op) ops) →
    SetComments (op ∷ ops) ⊎ SetNoComment (op ∷ ops) → AreAlike old new ops
next_alike op ops old new after h1 h2 h3 h4 = search (rules, all_same, same_block, same_others)

module _ (op : Operation) (ops : List Operation) (old new : ℕ → Room) (docs : List Document) (left : LeavesRooms op old new (after_op old op docs)) (h : MayFollow old (op ∷ ops) docs) where
  alike : AreAlike old new ops
  alike = next_alike op ops old new (after_op old op docs) left (there_after old op docs h.fit.0) h.last.block.0 h.last.comments

  -- the later operations may follow, by the rooms that the first one leaves
  pub rest_follow : MayFollow new ops (after_op old op docs)
  rest_follow = search (rules, alike, all_fit_alike, lasts_alike)

  -- and make the same of documents
  pub rest_after : all_after new ops (after_op old op docs) ≡ all_after old (op ∷ ops) docs
  rest_after = all_after_alike old new ops (after_op old op docs) alike
