-- What is borrowed as it is written is what it spells.
use Rattle.std.proofs.Common.{◌≡◌, ℕ, ℤ, eqb, Bool, true, false, not, ◌||◌, ◌&&◌, List, [], ◌∷◌, Some, None, refl, sym, ap}
use Rattle.std.proofs.lemmas.Bool.{and_parts, false≢true, not-true, or_parts}
use Rattle.yq_core.{specs.Borrowed.{borrowed_text, borrows_text}, specs.ContentReading.quoted_content, specs.Nodes.begins_with}
use Rattle.yq_core.{specs.Quoted.IsQuotedText, specs.Text.is_empty, specs.Scalars.{is_quoted, scalar_content}}
use Rattle.yq_core.{proofs.BorrowedTexts.{borrows_key, borrows_parts}, proofs.Bools.at_byte}
use Rattle.yq_documents.{specs.Decoded.{begins_flow, borrowed_head, opens_collection}, specs.FlowReading.head_flow_at}
use Rattle.yq_documents.specs.RowReading.{is_block_head, read_head, is_short_plain, string_head}
use Rattle.yq_compose.specs.Checking.{begins_tree, borrows_head}

pub quoted_is : (t : List ℕ) → is_quoted t ≡ true → scalar_content t ≡ quoted_content t
unfolding scalar_content
quoted_is t q = rw q refl

-- a head that is borrowed is read as what is borrowed of it, and holds no alias and no flow collection
abbrev Borrowed : List ℕ → ℤ → List ℕ → List ℕ → Type 0
Borrowed whole n h t = (read_head whole n h t ≡ Some (borrowed_head h)) × (head_flow_at whole n h t ≡ None)

borrowed_string : (whole : List ℕ) (n : ℤ) (h t : List ℕ) → is_empty h ≡ false → is_block_head h ≡ false → is_quoted h ≡ true → borrowed_text h ≡ scalar_content h → Borrowed whole n h t
unfolding read_head head_flow_at
borrowed_string whole n h t some block quoted same = (rw (some, block, quoted) (ap (λ x. Some (string_head x)) (sym (rw quoted at same))), rw (some, block, quoted) refl)

borrowed_plain : (whole : List ℕ) (n : ℤ) (h t : List ℕ) → is_empty h ≡ false → is_block_head h ≡ false → is_quoted h ≡ false → is_short_plain h ≡ true → Borrowed whole n h t
unfolding read_head head_flow_at
borrowed_plain whole n h t some block quoted short = (rw (some, block, short, quoted) refl, rw (some, block, short, quoted) refl)

pub borrowed_read : (whole : List ℕ) (n : ℤ) (h t : List ℕ) → (is_quoted h ≡ true → IsQuotedText h) → borrows_head h ≡ true → Borrowed whole n h t
unfolding read_head head_flow_at
borrowed_read whole n [] t q e = (refl, refl)
borrowed_read whole n (b ∷ bs) t q e = go (is_quoted (b ∷ bs)) refl
  where
    h : List ℕ
    h = b ∷ bs

    parts : (not (begins_tree h) ≡ true) × (borrows_text h ≡ true)
    parts = and_parts (not (begins_tree h)) (borrows_text h) e

    trees : (is_block_head h ≡ false) × ((begins_with 42 h || (begins_with 91 h || begins_with 123 h)) ≡ false)
    trees = or_parts (is_block_head h) _ (not-true (begins_tree h) parts.0)

    go : (quoted : Bool) → is_quoted (b ∷ bs) ≡ quoted → Borrowed whole n (b ∷ bs) t
    go true quoted = borrowed_string whole n h t refl trees.0 quoted (borrows_key h q parts.1)
    go false quoted =
        let short : is_short_plain h ≡ true = λ i. not (quoted i || trees.1 i) && not ((borrows_parts h parts.1).0 i) in
        borrowed_plain whole n h t refl trees.0 quoted short

-- no alias and no collection begins with it
pub no_flow : (h : List ℕ) → borrows_head h ≡ true → begins_flow h ≡ false
no_flow [] e = refl
no_flow (b ∷ bs) e =
    let tree = not-true (begins_tree (b ∷ bs)) (and_parts (not (begins_tree (b ∷ bs))) (borrows_text (b ∷ bs)) e).0 in
    (or_parts (is_block_head (b ∷ bs)) (begins_flow (b ∷ bs)) tree).1

-- an alias is no collection
pub star_closed : (h : List ℕ) → begins_with 42 h ≡ true → opens_collection h ≡ false
star_closed [] e = absurd (false≢true e)
star_closed (b ∷ bs) e = rw (at_byte (λ x. eqb x 42) b 91 e refl, at_byte (λ x. eqb x 42) b 123 e refl) refl
