use Rattle.std.proofs.Common.{◌≡◌, ◌+◌, ◌++◌, ◌∷◌, [], List, map, take, is_ok, true, vec_len, ap, sym, ◌∙◌, append_assoc, arith, get_or}
use Rattle.std.{proofs.lemmas.List.map_more, proofs.lemmas.Option.{get_or_from_slice_get, slice_get_within}}
use Rattle.yq_row_table.{specs.PartEnds.shifted, specs.declared.ends.EndPlace.EndPlace}
use Rattle.yq_row_table.proofs.part_ends.push_shifted.Goals as goal

pub ends-preserved : goal.ends-preserved
ends-preserved c =
    let by = c.args.by in
    let all = c.args.found.now in
    let i = c.ends.i in
    let ok : is_ok c.push.result ≡ true = c.push.ensures.succeeds (omega arith) in
    let items : c.push.new.self.items ≡ c.ends.ends.items ++ (c.shifted-end.result ∷ []) = rw ok at c.push.ensures.items in
    let long : vec_len c.push.new.self ≡ vec_len c.ends.ends + 1 = rw ok at c.push.ensures.len in
    let one : shifted by (get_or all i c.at.result) ≡ c.shifted-end.result =
    ap (shifted by) (get_or_from_slice_get all i c.at.result c.at.result c.at.ensures) ∙ sym c.shifted-end.ensures in
    let more : map (shifted by) (take (i + 1) all) ≡ map (shifted by) (take i all) ++ (c.shifted-end.result ∷ []) =
    map_more (shifted by) all i c.at.result (slice_get_within all i c.at.result c.at.ensures)
    ∙ ap (λ (e : EndPlace). map (shifted by) (take i all) ++ (e ∷ [])) one in
    record {
      same = items
          ∙ (ap (λ (l : List EndPlace). l ++ (c.shifted-end.result ∷ [])) c.ends.invariant.same
          ∙ (append_assoc c.args.ends.now.items (map (shifted by) (take i all)) (c.shifted-end.result ∷ [])
          ∙ ap (λ (l : List EndPlace). c.args.ends.now.items ++ l) (sym more)));
      room = omega (arith, c.push.ensures.capacity, long);
    }
