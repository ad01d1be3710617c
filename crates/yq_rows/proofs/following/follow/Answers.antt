use Rattle.std.proofs.Common.{◌≡◌, ◌∙◌, ◌++◌, List, [], ℕ, eqb-true, length, refl, sym, ap, subst, ◌+◌, ◌-◌, ◌≤◌}
use Rattle.std.{proofs.lemmas.List.nil_from_length, specs.Str.IsCharBoundary}
use Rattle.yq_text.specs.TextGapBuffer.{buffer_text}
use Rattle.yq_row_table.{specs.Grammar.IsCut, specs.Meter.{count_after, line_count}}
use Rattle.yq_rows.{specs.Dropping.DropsLast, specs.Exchanging.TextChange, specs.Following.{Follows, exchanged}}
use Rattle.yq_rows.specs.Reading.{AreEdges, Comes, IsRead, read_part, region_text}
use Rattle.yq_rows.proofs.DoneLaws.{gives_way, moved_follows, new_places, placed_before, same_places, still_placed}
use Rattle.yq_rows.proofs.DropLaws.{dropped_places, dropped_text, kept_text}
use Rattle.yq_rows.proofs.following.follow.Goals as goal

pub move_split-requires : goal.move_split-requires
move_split-requires c = placed_before (buffer_text c.args.text.now) c.args.places.now c.args.kept c.args.new.now c.requires

pub read-requires : goal.read-requires
read-requires c =
    let t = buffer_text c.args.text.now in
    let p = c.move_split.new.places in
    let x = c.find_touched-touched.result in
    let k : TextChange t c.args.new.now c.args.kept p x =
    c.find_touched-touched.ensures t c.args.new.now c.len.ensures c.begins_line-begins.ensures
    (moved_follows t c.args.places.now p c.args.kept c.args.new.now c.requires c.move_split.ensures.placed) in
    let whole = (λ i. c.halves.ensures.front i ++ c.halves.ensures.back i) ∙ refl in
    let part = c.as_str.ensures.value ∙ (c.in_ok-region.ensures ∙ ap (λ (u : List ℕ). region_text u x c.args.kept c.args.new.now) whole) in
    subst (λ (u : List ℕ). IsRead u x) (sym part) k.read

pub exchange-requires : goal.exchange-requires
exchange-requires c =
    let t = buffer_text c.args.text.now in
    let p = c.move_split.new.places in
    let x = c.find_touched-touched.result in
    let k : TextChange t c.args.new.now c.args.kept p x =
    c.find_touched-touched.ensures t c.args.new.now c.len.ensures c.begins_line-begins.ensures
    (moved_follows t c.args.places.now p c.args.kept c.args.new.now c.requires c.move_split.ensures.placed) in
    let whole = (λ i. c.halves.ensures.front i ++ c.halves.ensures.back i) ∙ refl in
    let part = c.as_str.ensures.value ∙ (c.in_ok-region.ensures ∙ ap (λ (u : List ℕ). region_text u x c.args.kept c.args.new.now) whole) in
    gives_way t c.args.new.now c.args.kept p x c.in_ok-come.come k (subst (λ (u : List ℕ). Comes u x c.in_ok-come.come) part c.in_ok-come.ensures.come k.read)

pub returns : goal.returns
returns c =
    let t = buffer_text c.args.text.now in
    let p = c.move_split.new.places in
    let x = c.find_touched-touched.result in
    let empty : c.args.new.now ≡ [] = nil_from_length c.args.new.now (eqb-true (length c.args.new.now) 0 (sym c.is_empty.ensures ∙ c.if-is_empty.true)) in
    let h : Follows t c.args.places.now c.args.kept [] = subst (Follows t c.args.places.now c.args.kept) empty c.requires in
    let k : TextChange t [] c.args.kept p x = c.find_touched-touched.ensures t [] c.len.ensures c.begins_line-begins.ensures (moved_follows t c.args.places.now p c.args.kept [] h c.move_split.ensures.placed) in
    let drops = subst (λ (n : ℕ). DropsLast p n x c.args.kept c.in-Some.end) c.len-2.ensures c.in-Some.ensures in
    record {
      text =
          c.drop_text.ensures.text ∙ (kept_text t c.args.kept p x c.in-Some.end k drops h.old_cut h.old_is ∙ ap (exchanged c.args.kept t) (sym empty));
      placed =
          dropped_places t c.args.kept p x c.in-Some.end k drops h.old_cut h.old_is _ c.drop_rows.new.places h.new_cut h.new_is c.drop_text.ensures.text
          c.drop_rows.ensures.front c.drop_rows.ensures.after c.drop_rows.ensures.ends c.drop_rows.ensures.split;
      counted = λ old d was is j.
          c.drop_text.ensures.counted ∙ ap (λ (u : List ℕ). count_after (line_count u) c.args.meter.now)
          (dropped_text t c.args.kept p x c.in-Some.end k drops h.old_cut h.old_is old d was
          (subst (λ (u : List ℕ). IsCut u d) (c.drop_text.ensures.text ∙ kept_text t c.args.kept p x c.in-Some.end k drops h.old_cut h.old_is) is) j);
    }

pub returns-2 : goal.returns-2
returns-2 c =
    let t = buffer_text c.args.text.now in
    let p = c.move_split.new.places in
    let x = c.find_touched-touched.result in
    let k : TextChange t c.args.new.now c.args.kept p x =
    c.find_touched-touched.ensures t c.args.new.now c.len.ensures c.begins_line-begins.ensures
    (moved_follows t c.args.places.now p c.args.kept c.args.new.now c.requires c.move_split.ensures.placed) in
    let whole = (λ i. c.halves.ensures.front i ++ c.halves.ensures.back i) ∙ refl in
    let part = c.as_str.ensures.value ∙ (c.in_ok-region.ensures ∙ ap (λ (u : List ℕ). region_text u x c.args.kept c.args.new.now) whole) in
    let same = (λ i. c.reserve.ensures.front i ++ c.reserve.ensures.back i) ∙ refl in
    record {
      text =
          c.write.ensures ∙ ap (λ (u : List ℕ). exchanged c.args.kept u c.args.new.now) same;
      placed =
          new_places t (buffer_text c.reserve.new.self) (buffer_text c.write.new.text) c.args.new.now c.args.kept p c.exchange.new.places x c.in_ok-come.come
          c.requires.new_cut same c.write.ensures k
          (subst (λ (u : List ℕ). Comes u x c.in_ok-come.come) part c.in_ok-come.ensures.come k.read) c.in_ok-exchange.ensures.ok c.requires.new_is;
      counted = λ old d was is h.
          let spliced = c.write.ensures ∙ ap (λ (u : List ℕ). exchanged c.args.kept u c.args.new.now) same in
          c.in_ok-come.ensures.counted ∙ ap (λ (u : List ℕ). count_after (line_count u) c.args.meter.now)
          (ap (λ (u : List ℕ). read_part u x.marked) part ∙ sym (k.once old d was (subst (λ (u : List ℕ). IsCut u d) spliced is) h));
    }

pub write-requires : goal.write-requires
write-requires c = record {
  within = subst (λ (u : List ℕ). c.args.kept.front + c.args.kept.back ≤ length u) (sym ((λ i. c.reserve.ensures.front i ++ c.reserve.ensures.back i) ∙ refl))
      c.requires.within;
  front = subst (λ (u : List ℕ). IsCharBoundary u c.args.kept.front) (sym ((λ i. c.reserve.ensures.front i ++ c.reserve.ensures.back i) ∙ refl))
      c.requires.front_edge;
  back = subst (λ (u : List ℕ). IsCharBoundary u (length u - c.args.kept.back)) (sym ((λ i. c.reserve.ensures.front i ++ c.reserve.ensures.back i) ∙ refl))
      c.requires.back_edge;
  room = c.in_ok-reserve.ensures.room;
}

pub returns-in_err-move_split-clause-placed : goal.returns-in_err-move_split-clause-placed
returns-in_err-move_split-clause-placed c = still_placed (buffer_text c.args.text.now) _ _ refl c.move_split.ensures.placed

pub region-requires-clause-edges : goal.region-requires-clause-edges
region-requires-clause-edges c =
    let t = buffer_text c.args.text.now in
    let p = c.move_split.new.places in
    let k : TextChange t c.args.new.now c.args.kept p c.find_touched-touched.result =
    c.find_touched-touched.ensures t c.args.new.now c.len.ensures c.begins_line-begins.ensures
    (moved_follows t c.args.places.now p c.args.kept c.args.new.now c.requires c.move_split.ensures.placed) in
    let whole = (λ i. c.halves.ensures.front i ++ c.halves.ensures.back i) ∙ refl in
    subst (λ (u : List ℕ). AreEdges u c.find_touched-touched.result c.args.kept) (sym whole) k.edges

pub returns-in_err-region-clause-placed : goal.returns-in_err-region-clause-placed
returns-in_err-region-clause-placed c = still_placed (buffer_text c.args.text.now) _ _ refl c.move_split.ensures.placed

pub returns-in_err-come-clause-placed : goal.returns-in_err-come-clause-placed
returns-in_err-come-clause-placed c = still_placed (buffer_text c.args.text.now) _ _ refl c.move_split.ensures.placed

pub returns-in_err-reserve-clause-placed : goal.returns-in_err-reserve-clause-placed
returns-in_err-reserve-clause-placed c = still_placed (buffer_text c.args.text.now) _ _ ((λ i. c.reserve.ensures.front i ++ c.reserve.ensures.back i) ∙ refl) c.move_split.ensures.placed

pub returns-in_err-exchange-clause-placed : goal.returns-in_err-exchange-clause-placed
returns-in_err-exchange-clause-placed c = same_places (buffer_text c.args.text.now) _ c.move_split.new.places _ ((λ i. c.reserve.ensures.front i ++ c.reserve.ensures.back i) ∙ refl) c.move_split.ensures.placed c.in_err-exchange.ensures.err

pub drop_text-requires-clause-begin : goal.drop_text-requires-clause-begin
drop_text-requires-clause-begin c =
    let t = buffer_text c.args.text.now in
    let k : TextChange t c.args.new.now c.args.kept c.move_split.new.places c.find_touched-touched.result =
    c.find_touched-touched.ensures t c.args.new.now c.len.ensures c.begins_line-begins.ensures
    (moved_follows t c.args.places.now c.move_split.new.places c.args.kept c.args.new.now c.requires c.move_split.ensures.placed) in
    k.edges.begin
