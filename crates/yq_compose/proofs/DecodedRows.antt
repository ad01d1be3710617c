-- What is made of rows, one after the other.
use Rattle.std.proofs.Common.{◌≡◌, ◌⊎◌, inl, inr, ℕ, suc, ◌+◌, ◌<◌, ◌≤◌, eqb, Bool, true, false, ◌&&◌, ◌||◌, cond, List, [], ◌∷◌, ◌++◌}
use Rattle.std.proofs.Common.{length, drop, Option, Some, None, refl, sym, ap, ◌∙◌, subst, arith, append-nil}
use Rattle.std.proofs.lemmas.Bool.{cases_lt, cond-false, cond-true, eq-eqb, ne_eqb, or_parts}
use Rattle.std.{proofs.lemmas.Option.{same_Some, slice_get_within}, specs.List.{list_all, slice_get}, specs.Prelude.IfSome}
use Rattle.yq_row_table.{specs.Rows.Row, specs.View.rows_of}
use Rattle.yq_documents.specs.Decoded.{IsDecoded, IsDecodedBy, Rise, decoded_at}
use Rattle.yq_documents.{specs.Reading.{content_is_fit, cut_of, have_fit_keys, mark_is_fit}, specs.RowReading.row_fits}
use Rattle.yq_documents.specs.declared.decoded.Decoded.{Decoded}
use Rattle.yq_compose.{specs.Decoding.{AreAliasFree, AreDecoded, NamesNone, OfRow, list_of_option}, proofs.AllOf.{all_done, all_step}}

-- what is made of rows from one on, before another one, is in their order
abbrev pub RiseUpto : ℕ → ℕ → List Decoded → Type 0
RiseUpto n i [] = n ≤ i
RiseUpto n i (m ∷ ms) = (n ≤ m.row) × RiseUpto (suc m.row) i ms

rise_of : (n i : ℕ) (ms : List Decoded) → RiseUpto n i ms → Rise n ms
rise_of n i [] h = tt
rise_of n i (m ∷ ms) h = (h.0, rise_of (suc m.row) i ms h.1)

rise_order : (n i : ℕ) (ms : List Decoded) → RiseUpto n i ms → n ≤ i
rise_order n i [] h = h
rise_order n i (m ∷ ms) h = omega (arith, h.0, rise_order (suc m.row) i ms h.1)

rise_more : (n i : ℕ) (ms : List Decoded) → RiseUpto n i ms → RiseUpto n (i + 1) ms
rise_more n i [] h = omega (arith, h)
rise_more n i (m ∷ ms) h = (h.0, rise_more (suc m.row) i ms h.1)

rise_push : (n i : ℕ) (ms : List Decoded) (m : Decoded) → RiseUpto n i ms → m.row ≡ i → RiseUpto n (i + 1) (ms ++ m ∷ [])
rise_push n i [] m h e = (omega (arith, h, e), omega (arith, e))
rise_push n i (x ∷ ms) m h e = (h.0, rise_push (suc x.row) i ms m h.1 e)

-- what is made of a row, by its number
decoded_none : (n i j : ℕ) (ms : List Decoded) → RiseUpto n i ms → i ≤ j → decoded_at j ms ≡ None
decoded_none n i j [] h le = refl
decoded_none n i j (m ∷ ms) h le =
    cond-false (eqb j m.row) (Some m) (decoded_at j ms) (ne_eqb j m.row (λ e. omega (arith, e, le, rise_order (suc m.row) i ms h.1))) ∙ decoded_none (suc m.row) i j ms h.1 le

decoded_same : (i j : ℕ) (ms : List Decoded) (m : Decoded) → m.row ≡ i → j < i → decoded_at j (ms ++ m ∷ []) ≡ decoded_at j ms
decoded_same i j [] m e less = cond-false (eqb j m.row) (Some m) None (ne_eqb j m.row (λ q. omega (arith, q, e, less)))
decoded_same i j (x ∷ ms) m e less = ap (λ (o : Option Decoded). cond (eqb j x.row) (Some x) o) (decoded_same i j ms m e less)

decoded_last : (n i : ℕ) (ms : List Decoded) (m : Decoded) → RiseUpto n i ms → m.row ≡ i → decoded_at i (ms ++ m ∷ []) ≡ Some m
decoded_last n i [] m h e = cond-true (eqb i m.row) (Some m) None (eq-eqb i m.row (sym e))
decoded_last n i (x ∷ ms) m h e =
    cond-false (eqb i x.row) (Some x) (decoded_at i (ms ++ m ∷ [])) (ne_eqb i x.row (λ q. omega (arith, q, rise_order (suc x.row) i ms h.1))) ∙ decoded_last (suc x.row) i ms m h.1 e

-- the keys of rows are fit where those of each are
and_assoc : (a b c : Bool) → (a && (b && c)) ≡ ((a && b) && c)
and_assoc true b c = refl
and_assoc false b c = refl

pub each_fits : (rs : List Row) → list_all row_fits rs ≡ have_fit_keys rs
each_fits [] = refl
each_fits (r ∷ rs) = ap (λ b. row_fits r && b) (each_fits rs) ∙ sym (and_assoc (mark_is_fit r.mark) (content_is_fit r.content) (have_fit_keys rs))

-- What is made of the rows of a text before one, whose keys are fit, and whether an alias may be in them.
pub record DecodedUpto (t : List ℕ) (b : Bool) (i : ℕ) (ms : List Decoded) : Type 0 where
  pub rise : RiseUpto 0 i ms
  pub agrees : (j : ℕ) → j < i → OfRow t j (IsDecoded t (cut_of t) ms j)
  pub names_none : b ≡ false → (j : ℕ) → j < i → OfRow t j (NamesNone t j)
  pub fits : list_all row_fits (drop i (rows_of (cut_of t))) ≡ have_fit_keys (rows_of (cut_of t))

pub decoded_start : (t : List ℕ) (ms : List Decoded) → ms ≡ [] → DecodedUpto t false 0 ms
decoded_start t ms none = subst (DecodedUpto t false 0) (sym none)
    (record {
      rise = omega arith;
      agrees = λ j less r is. absurd (omega (arith, less));
      names_none = λ e j less r is. absurd (omega (arith, less));
      fits = each_fits (rows_of (cut_of t));
    })

module _ (t : List ℕ) (b : Bool) (i : ℕ) (ms : List Decoded) (k : DecodedUpto t b i ms) where
  pub decoded_done : length (rows_of (cut_of t)) ≤ i → have_fit_keys (rows_of (cut_of t)) ≡ true
  decoded_done past = all_done row_fits (rows_of (cut_of t)) i _ k.fits past

  -- what is so of the rows before one, and of it, is so of those up to it
  module _ (r : Row) (is : slice_get (rows_of (cut_of t)) i ≡ Some r) where
    each_more : (P : ℕ → Row → Type 0) → ((j : ℕ) → j < i → OfRow t j (P j)) → P i r → (j : ℕ) → j < i + 1 → OfRow t j (P j)
    each_more P before here j less x at = go (cases_lt j i)
      where
        go : (j < i) ⊎ (i ≤ j) → P j x
        go (inl first) = before j first x at
        go (inr after) =
            let last : i ≡ j = omega (arith, after, less) in
            let own : r ≡ x = same_Some _ _ (sym is ∙ (ap (slice_get (rows_of (cut_of t))) last ∙ at)) in
            subst (λ (y : ℕ × Row). P y.0 y.1) (λ l. (last l, own l)) here

    agrees_more : (new : List Decoded) → ((j : ℕ) → j < i → decoded_at j new ≡ decoded_at j ms) → IsDecoded t (cut_of t) new i r → (j : ℕ) → j < i + 1 → OfRow t j (IsDecoded t (cut_of t) new j)
    agrees_more new same = each_more (λ j x. IsDecoded t (cut_of t) new j x) (λ j less x at. subst (λ (o : Option Decoded). IsDecodedBy t (cut_of t) o j x) (sym (same j less)) (k.agrees j less x at))

    agrees_with : (m : Option Decoded) (new : List Decoded) → IfSome m (λ x. x.row ≡ i) → new ≡ ms ++ list_of_option m → IsDecodedBy t (cut_of t) m i r →
        RiseUpto 0 (i + 1) new × ((j : ℕ) → j < i + 1 → OfRow t j (IsDecoded t (cut_of t) new j))
    agrees_with None new row pushed here =
        subst (λ (xs : List Decoded). RiseUpto 0 (i + 1) xs × ((j : ℕ) → j < i + 1 → OfRow t j (IsDecoded t (cut_of t) xs j))) (sym (pushed ∙ append-nil ms))
        (rise_more 0 i ms k.rise, agrees_more ms (λ j less. refl) (subst (λ (o : Option Decoded). IsDecodedBy t (cut_of t) o i r) (sym (decoded_none 0 i i ms k.rise (omega arith))) here))
    agrees_with (Some m) new row pushed here =
        subst (λ (xs : List Decoded). RiseUpto 0 (i + 1) xs × ((j : ℕ) → j < i + 1 → OfRow t j (IsDecoded t (cut_of t) xs j))) (sym pushed) (
          rise_push 0 i ms m k.rise row,
          agrees_more (ms ++ m ∷ []) (λ j less. decoded_same i j ms m row less) (subst (λ (o : Option Decoded). IsDecodedBy t (cut_of t) o i r) (sym (decoded_last 0 i ms m k.rise row)) here),
        )

    -- one more row is read
    pub row_step : row_fits r ≡ true → (m : Option Decoded) (new : List Decoded) → IfSome m (λ x. x.row ≡ i) → new ≡ ms ++ list_of_option m → IsDecodedBy t (cut_of t) m i r →
        (x e : Bool) → e ≡ (b || x) → (x ≡ false → NamesNone t i r) → DecodedUpto t e (i + 1) new
    row_step fit m new row pushed here x e either none =
        let p = agrees_with m new row pushed here in
        record {
          rise = p.0;
          agrees = p.1;
          names_none = λ no_alias. let apart = or_parts b x (sym either ∙ no_alias) in each_more (NamesNone t) (k.names_none apart.0) (none apart.1);
          fits = all_step row_fits (rows_of (cut_of t)) i _ k.fits r is fit;
        }

-- all rows are passed
module _ (t : List ℕ) (b : Bool) (i : ℕ) (ms : List Decoded) (k : DecodedUpto t b i ms) (past : length (rows_of (cut_of t)) ≤ i) where
  pub are_decoded : AreDecoded t ms
  are_decoded = record { rise = rise_of 0 i ms k.rise; agrees = λ j r is. k.agrees j (omega (arith, past, slice_get_within (rows_of (cut_of t)) j r is)) r is }

  pub are_alias_free : b ≡ false → AreAliasFree t
  are_alias_free e = λ j r is. k.names_none e j (omega (arith, past, slice_get_within (rows_of (cut_of t)) j r is)) r is
