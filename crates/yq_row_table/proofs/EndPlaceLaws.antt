-- Ends of parts by where they are in a text.
use Rattle.std.proofs.Common.{rules, ◌≡◌, ℕ, Fits, w32, ◌-◌, ◌<◌, ◌≤◌, ◌^◌, List, [], ◌∷◌, ◌++◌, length, take, refl, sym, ap, ◌∙◌, subst}
use Rattle.std.{proofs.Common.{arith, length-append, length-drop}, proofs.Math.Seq.drop-append_seam}
use Rattle.std.{proofs.lemmas.List.{take-append-drop, take_at}, proofs.lemmas.Str.IsUtf8-append, specs.Str.IsUtf8}
use Rattle.yq_row_table.{specs.Ends.{bound_in, EndIsLocated, end_at}, specs.Offsets.{Ends, AreCuts}, proofs.FrontLaws.front_boundary}
use Rattle.yq_row_table.proofs.OffsetLaws.{cuts}

pub end_is_located : (whole end marker rest : List ℕ) (k : ℕ) → Ends (end ++ (marker ++ rest)) whole → IsUtf8 end → IsUtf8 marker → IsUtf8 rest → EndIsLocated whole (end_at (length whole - length (end ++ (marker ++ rest))) k end marker)
unfolding EndIsLocated
end_is_located whole end marker rest k h e m u =
    let t = end ++ (marker ++ rest) in
    let text : IsUtf8 t = IsUtf8-append end (marker ++ rest) e (IsUtf8-append marker rest m u) in
    let split : whole ≡ take (length whole - length t) whole ++ t = sym (take-append-drop (length whole - length t) whole) ∙ ap (λ l. take (length whole - length t) whole ++ l) h in (
      front_boundary whole (take (length whole - length t) whole) t split text,
      subst (λ (v : List ℕ). AreCuts v (length end ∷ length marker ∷ [])) (sym h) (cuts (end ∷ marker ∷ []) t rest refl text (e, (m, tt))),
    )

pub end_same : (whole end marker rest : List ℕ) (k : ℕ) → Ends (end ++ (marker ++ rest)) whole → bound_in whole (end_at (length whole - length (end ++ (marker ++ rest))) k end marker) ≡ record { rows = k; end = end; marker = marker }
end_same whole end marker rest k h = search (rules, take_at, drop-append_seam)

pub start_is : (whole end marker rest : List ℕ) (n : ℕ) → n ≡ ((length whole - length rest) - length marker) - length end → n ≡ length whole - length (end ++ (marker ++ rest))
start_is whole end marker rest n e = omega (arith, e, length-append end (marker ++ rest), length-append marker rest)

-- How long the parts of the end of a text are, which a `u32` holds.
pub record EndFits (whole end marker rest : List ℕ) : Type 0 where
  pub rest_le : length rest ≤ length whole
  pub marker_le : length marker ≤ length whole - length rest
  pub end_le : length end ≤ (length whole - length rest) - length marker
  pub marker_fits : Fits w32 (length marker)
  pub end_fits : Fits w32 (length end)

pub end_lengths : (whole end marker rest : List ℕ) → length whole < 2 ^ 32 → Ends (end ++ (marker ++ rest)) whole → EndFits whole end marker rest
end_lengths whole end marker rest small h = search (rules, length-append, length-drop)
