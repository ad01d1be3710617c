-- Runs of items and entries that are taken out of the collections of one head, as the code makes them.
use Rattle.std.proofs.Common.{◌≡◌, ◌⊎◌, inl, inr, ℕ, suc, ◌+◌, ◌-◌, ◌≤◌, Bool, List, [], ◌++◌, length, take, drop, map, Option, Some, None}
use Rattle.std.proofs.Common.{refl, sym, ap, ◌∙◌, subst, append_assoc, append-nil, arith, length-append}
use Rattle.std.specs.Str.{IsCharBoundary, IsUtf8}
use Rattle.std.proofs.lemmas.List.{append_cancel_right, drop_all, length-take-le, take_all, take-append-drop}
use Rattle.std.{proofs.Math.Seq.drop-append-add, proofs.lemmas.Option.same_Some, specs.Prelude.{false, nat_lt}}
use Rattle.yq_text.{specs.Limit.text_limit, specs.TextGapBuffer.buffer_text}
use Rattle.yq_core.{specs.Paths.Step, specs.Collections.CollPieces, specs.Entries.{end_of, parts_of, tree_step}, specs.Places.Placed}
use Rattle.yq_core.{specs.Nodes.{Items, flow_items_text}, specs.Trees.items_tree, proofs.NodesWrittenLaws.items_append}
use Rattle.yq_flow_edits.specs.FlowEdits.{FlowEdit}
use Rattle.yq_outline.specs.Counts.{count}
use Rattle.yq_row_table.specs.Rows.{Cut, cut_text}
use Rattle.yq_documents.specs.Reading.{cut_of, read_at}
use Rattle.yq_places.{specs.FlowNodes.flow_collection, specs.FlowViews.{FlowAgrees, LeadsToHead}, specs.Placements.last_step}
use Rattle.yq_places.{specs.declared.places.flow_node.FlowHead.FlowHead, proofs.FlowNodeLaws.with_more}
use Rattle.yq_semantics.specs.Operations.{Operation, remove}
use Rattle.yq_edit_laws.{proofs.CutLaws.text_read, proofs.TextFaults.text_utf8, proofs.FlowAnswers.{CollFound, coll_found}}
use Rattle.yq_edit_laws.{specs.Theorems.IsFitting, specs.NearParts.LeadsToPart}
use Rattle.yq_batch.{specs.HeadRows.CollectionsStay, specs.LeftItems.{closing, count_items, count_parts}}
use Rattle.yq_batch.specs.RemovalRuns.{AreFirstLeft, GoesInHead, IsKnownLeft, IsLeftIn, IsLeftOf, IsRemovalRun, PartGoes, SoleGoes}
use Rattle.yq_batch.{specs.RemovalRuns.{content_of, empty_text, RemovesSo, left_coll, text_exchanged}, specs.LeftPlaces.IsLeftPlace}
use Rattle.yq_batch.{specs.declared.left.LeftPlace.LeftPlace, specs.Runs.EndsAt, specs.declared.gone.LeftOf.LeftOf}
use Rattle.yq_batch.{specs.declared.gone.Removed.Removed, specs.declared.removals.RemovalRun.RemovalRun, proofs.CollectionLeft.left_there}
use Rattle.yq_batch.{proofs.LeftItemLaws.{all_left, ends_within}, proofs.LeftPlaceLaws.counted}
use Rattle.yq_batch.proofs.LeftRemovals.{Goes, begins_at, coll_is, empty_is, ends_at, goes_out, more, opened, opened_size, opening, own}
use Rattle.yq_batch.{proofs.LeftRemovals.parts_are, proofs.Exchanges.{CanExchange, exchange_fails, exchange_on, few_left}}
use Rattle.yq_batch.proofs.RemovalRunLaws as laws
use Rattle.yq_batch.proofs.SoleRemovals as sole

-- a run of nothing
pub removals_begin : (t : List ℕ) (n : ℕ) (stem : List Step) (r : RemovalRun) → read_at t ≡ Some (cut_of t) → LeadsToHead (cut_of t) n stem → buffer_text r.text ≡ t → r.keep ≡ length t → RemovesSo (cut_of t) n stem None r
removals_begin t n stem r read leads text keep =
    let same : cut_text (cut_of t) ≡ t = text_read t (cut_of t) read in
    let all : r.keep ≡ length (cut_text (cut_of t)) = keep ∙ ap length (sym same) in
    let whole : take r.keep (cut_text (cut_of t)) ≡ cut_text (cut_of t) = take_all r.keep (cut_text (cut_of t)) (omega (arith, all)) in
    let none : drop r.keep (cut_text (cut_of t)) ≡ [] = drop_all r.keep (cut_text (cut_of t)) (omega (arith, all)) in
    let kept : (other : List Step) → CollectionsStay (cut_of t) (cut_of t) n other r.keep [] =
    λ other left w mid found rest. found ∙ ap (λ (l : List ℕ). Some (record w { rest = l })) (rest ∙ ap (λ (l : List ℕ). mid ++ l) none) in
    record {
      tail = [];
      text = text ∙ (sym same ∙ (sym whole ∙ sym (append-nil (take r.keep (cut_text (cut_of t))))));
      run = record {
        within = omega (arith, all);
        cut = cut_of t;
        read = ap read_at (append-nil (take r.keep (cut_text (cut_of t))) ∙ (whole ∙ same)) ∙ read;
        leads = leads;
        stays = kept stem;
        row = λ i x. (x, λ other j y less. (y, kept other));
      };
      known_is = tt;
    }

-- The collection in which an operation takes one out is found in the head.
module _ (c : Cut) (n : ℕ) (stem left path : List Step) (s : Step) (last : last_step path ≡ Some (stem ++ left, s)) (x : FlowHead) (q : Placed) (f : CollFound c n (stem ++ left) x q)
    (before : RemovalRun) (known : Option LeftOf) (run : RemovesSo c n stem known before) where
  abbrev t : List ℕ
  t = cut_text c

  abbrev now : List ℕ
  now = take before.keep t ++ run.tail

  abbrev pub w : CollPieces
  w = with_more (more c n (stem ++ left) x q f) (own c n (stem ++ left) x q f)

  found : flow_collection n (stem ++ left) c ≡ Some w
  found = f.found ∙ ap Some (coll_is c n (stem ++ left) x q f)

  abbrev first_bytes : List ℕ
  first_bytes = f.agrees.front ++ opening c n (stem ++ left) x q f

  opens : t ≡ first_bytes ++ flow_items_text w.close w.items w.rest
  opens = opened c n (stem ++ left) x q f

  abbrev text : cut_text run.run.cut ≡ now
  text = text_read now run.run.cut run.run.read

  utf8 : IsUtf8 (buffer_text before.text)
  utf8 = subst IsUtf8 (text ∙ sym run.text) (text_utf8 (cut_text run.run.cut) run.run.cut (ap read_at text ∙ run.run.read))

  abbrev First : ℕ → Option Bool → ℕ → Type 0
  First count after following = AreFirstLeft w c run.run.cut n (stem ++ left) before.keep count after following

  -- of one that ends before what was taken out all are left
  all_are : (following : ℕ) → length t - length w.rest ≤ before.keep → following + (length t - length w.rest) ≡ length now → First (count_items w.items) None following
  all_are following ends size_is =
      let size : length t ≡ length first_bytes + length (flow_items_text w.close w.items w.rest) = ap length opens ∙ length-append first_bytes (flow_items_text w.close w.items w.rest) in
      let front : List ℕ = first_bytes ++ flow_items_text w.close w.items [] in
      let is : t ≡ front ++ w.rest = opens ∙ (ap (λ (l : List ℕ). first_bytes ++ l) (items_append w.close w.items [] w.rest) ∙ sym (append_assoc first_bytes (flow_items_text w.close w.items []) w.rest)) in
      let kept : before.keep ≡ length front + (before.keep - length front) = omega (arith, ends, ap length is, length-append front w.rest) in
      let mid : List ℕ = take (before.keep - length front) w.rest in
      let rest : w.rest ≡ mid ++ drop before.keep t =
      sym (take-append-drop (before.keep - length front) w.rest) ∙ ap (λ (l : List ℕ). mid ++ l) (sym ((λ i. drop (kept i) (is i)) ∙ drop-append-add front w.rest (before.keep - length front))) in
      let there = run.run.stays left w mid found rest in
      let all = all_left w.items in
      let whole : (first_bytes ++ flow_items_text w.close w.items mid) ++ drop before.keep t ≡ take before.keep t ++ drop before.keep t =
      append_assoc first_bytes (flow_items_text w.close w.items mid) (drop before.keep t)
      ∙ (ap (λ (l : List ℕ). first_bytes ++ l) (sym (items_append w.close w.items mid (drop before.keep t)) ∙ ap (flow_items_text w.close w.items) (sym rest)) ∙ (sym opens ∙ sym (take-append-drop before.keep t))) in
      record {
        ending = closing all.0;
        ends = tt;
        rest = mid ++ run.tail;
        following_is = omega (
          arith,
          size_is,
          ends,
          ap length rest,
          ap length is,
          length-append front w.rest,
          length-append mid (drop before.keep t),
          length-append mid run.tail,
          length-append (take before.keep t) run.tail,
          length-take-le before.keep t run.run.within,
          ap length (take-append-drop before.keep t),
          length-append (take before.keep t) (drop before.keep t),
        );
        left = there ∙ ap (λ (is : Items). Some (record { close = w.close; gap = w.gap; items = is; rest = mid ++ run.tail })) (sym all.1);
        opening = first_bytes;
        was = opens;
        is =
            text
            ∙ (ap (λ (l : List ℕ). l ++ run.tail) (sym (append_cancel_right (first_bytes ++ flow_items_text w.close w.items mid) (take before.keep t) (drop before.keep t) whole))
            ∙ (append_assoc first_bytes (flow_items_text w.close w.items mid) run.tail
            ∙ ap (λ (l : List ℕ). first_bytes ++ l) (sym (items_append w.close w.items mid run.tail) ∙ ap (λ (is : Items). flow_items_text w.close is (mid ++ run.tail)) (sym all.1))));
        kept = λ i less. omega (arith, size, ends, ends_within w.close i w.items w.rest);
      }

  -- of one that is known
  known_are : (k : LeftOf) → known ≡ Some k → map tree_step k.steps.now ≡ left → First k.count k.after k.following
  known_are k is same =
      let h : IsLeftOf c run.run.cut n (stem ++ left) before.keep k.count k.after k.following =
      subst (λ (ss : List Step). IsLeftOf c run.run.cut n (stem ++ ss) before.keep k.count k.after k.following) same (subst (IsKnownLeft c run.run.cut n stem before.keep) is run.known_is) in
      subst (λ (v : CollPieces). AreFirstLeft v c run.run.cut n (stem ++ left) before.keep k.count k.after k.following) (same_Some _ _ (sym h.1 ∙ found)) h.2

  -- as the code finds it
  pub are_left : (end : ℕ) (k : LeftOf) → end ≡ x.before + end_of q → IsLeftIn left known end before.keep (length (buffer_text before.text)) (count_parts (parts_of q)) k → First k.count k.after k.following
  are_left end k end_is (inl h) = known_are k h.0 h.1
  are_left end k end_is (inr h) =
      let all : count_parts (parts_of q) ≡ count_items w.items = ap count_parts (parts_are c n (stem ++ left) x q f) ∙ counted _ _ _ _ in
      let ends = ends_at c n (stem ++ left) x q f in
      let reaches : length t - length w.rest ≤ before.keep = omega (arith, h.0, end_is, ends) in
      let size : k.following + (length t - length w.rest) ≡ length now = omega (arith, h.3, end_is, ends, ap length run.text) in
      subst (λ (o : Option Bool). First k.count o k.following) (sym h.2) (subst (λ (m : ℕ). First m None k.following) (sym (h.1 ∙ all)) (all_are k.following reaches size))

  -- an operation takes one out
  module _ (i j : ℕ) (b : Option Bool) (following : ℕ) (p : LeftPlace) (leads : LeadsToPart s i (parts_of q)) (goes : IsLeftPlace x.text.now (parts_of q) i j b p) (h : First j b following) where
    abbrev place : Goes w.close w.gap w.items (x.before + length (opening c n (stem ++ left) x q f)) i j s h.ending h.rest p x.before
    place = goes_out c n (stem ++ left) x q f s i j b p leads goes h.ending h.ends h.rest

    abbrev z : CollPieces
    z = left_coll w j h.ending h.rest

    abbrev g : FlowEdit
    g = place.out.edit

    abbrev pub start : ℕ
    start = x.before + p.start

    abbrev pub finish : ℕ
    finish = x.before + p.end

    abbrev front : List ℕ
    front = h.opening ++ place.front

    open_size : length h.opening ≡ x.before + length (opening c n (stem ++ left) x q f)
    open_size =
        omega (
          arith,
          ap length h.was,
          ap length opens,
          length-append h.opening (flow_items_text w.close w.items w.rest),
          length-append first_bytes (flow_items_text w.close w.items w.rest),
          opened_size c n (stem ++ left) x q f,
        )

    now_is : now ≡ front ++ (g.old ++ g.after)
    now_is = sym text ∙ (h.is ∙ (ap (λ (l : List ℕ). h.opening ++ l) place.out.text ∙ sym (append_assoc h.opening place.front (g.old ++ g.after))))

    start_is : start ≡ length front
    start_is = omega (arith, place.start, open_size, length-append h.opening place.front)

    finish_is : finish ≡ length (front ++ g.old)
    finish_is = omega (arith, place.finish, open_size, ap length place.out.old, length-append place.front g.old, length-append front g.old, length-append h.opening place.front)

    short : start ≤ before.keep
    short = omega (arith, h.kept place.within.0 place.within.1, place.within.2, place.start, open_size)

    -- what is left is known
    known_next : (cut : Cut) → cut_text cut ≡ take start t ++ g.after →
        cut ≡ laws.next_cut c n stem left path s before.keep run.tail run.run last z h.left g place.out.removes place.out.lead front now_is start finish start_is finish_is short →
        AreFirstLeft w c cut n (stem ++ left) start i p.after following
    known_next cut reads is = record {
      ending = place.ending;
      ends = place.ends;
      rest = h.rest;
      following_is = h.following_is;
      left =
          ap (flow_collection n (stem ++ left)) is
          ∙ (left_there run.run.cut n stem left z (ap read_at text ∙ run.run.read) h.left run.run.leads path s g last place.out.removes
          ∙ λ i. Some (record { close = w.close; gap = place.out.gap i; items = place.out.items i; rest = h.rest }));
      opening = h.opening;
      was = h.was;
      is =
          reads
          ∙ (laws.front_stays c n stem left path s before.keep run.tail run.run last z h.left g place.out.removes place.out.lead front now_is start finish start_is finish_is short
          ∙ (append_assoc h.opening place.front g.after ∙ ap (λ (l : List ℕ). h.opening ++ l) (sym place.out.left_text)));
      kept = λ m less. omega (arith, place.short m less, place.start, open_size);
    }

    module _ (k : LeftOf) (steps : map tree_step k.steps.now ≡ left) (count : k.count ≡ i) (others : k.after ≡ p.after) (size : k.following ≡ following) where
      goes_on : IsFitting (remove n path) now → length (text_exchanged now start finish []) ≤ text_limit → (r : IsRemovalRun c n stem start g.after) × IsKnownLeft c r.cut n stem start (Some k)
      goes_on fitting small =
          let on = laws.removal_goes_on c n stem left path s before.keep run.tail run.run last z h.left g place.out.removes place.out.lead front now_is start finish start_is finish_is short fitting small in
          let first : AreFirstLeft w c on.0.cut n (stem ++ left) start i p.after following = known_next on.0.cut (text_read (take start t ++ g.after) on.0.cut on.0.read) on.1 in (
            on.0,
            subst (λ (ss : List Step). IsLeftOf c on.0.cut n (stem ++ ss) start k.count k.after k.following) (sym steps)
                (subst (λ (m : ℕ). IsLeftOf c on.0.cut n (stem ++ left) start m k.after k.following) (sym count)
                (subst (λ (o : Option Bool). IsLeftOf c on.0.cut n (stem ++ left) start i o k.following) (sym others) (subst (IsLeftOf c on.0.cut n (stem ++ left) start i p.after) (sym size) (w, found, first)))),
          )

      pub can_take : CanExchange (remove n path) c n stem before start finish [] (Some k)
      can_take = record {
        order = laws.in_order c n stem left path s before.keep run.tail run.run last z h.left g place.out.removes place.out.lead front now_is start finish start_is finish_is short;
        room = omega arith;
        starts =
            subst (λ (l : List ℕ). IsCharBoundary l start) (sym run.text)
            (laws.start_there c n stem left path s before.keep run.tail run.run last z h.left g place.out.removes place.out.lead front now_is start finish start_is finish_is short);
        finishes =
            subst (λ (l : List ℕ). IsCharBoundary l finish) (sym run.text)
            (laws.finish_there c n stem left path s before.keep run.tail run.run last z h.left g place.out.removes place.out.lead front now_is start finish start_is finish_is short);
        utf8 = utf8;
        on = λ fitting. exchange_on (remove n path) c n stem before now run.text start finish [] g.after (Some k) tt fitting
            (laws.removal_there c n stem left path s before.keep run.tail run.run last z h.left g place.out.removes place.out.lead front now_is start finish start_is finish_is short)
            (goes_on (subst (IsFitting (remove n path)) run.text fitting))
            (laws.new_text_is c n stem left path s before.keep run.tail run.run last z h.left g place.out.removes place.out.lead front now_is start finish start_is finish_is short);
        fails = exchange_fails (remove n path) before now run.text start finish []
            (laws.removal_large c n stem left path s before.keep run.tail run.run last z h.left g place.out.removes place.out.lead front now_is start
            finish start_is finish_is short);
      }

  -- the only one that is left
  module _ (above : List Step × Step) (inner : last_step left ≡ Some above) (following : ℕ) (h : First 1 None following) where
    abbrev z1 : CollPieces
    z1 = left_coll w 1 h.ending h.rest

    few : nat_lt 1 (count (items_tree z1.items)) ≡ false
    few = few_left h.ending h.ends w.items

    abbrev e1 : FlowEdit
    e1 = sole.e c n stem left path s before.keep run.tail run.run last above inner z1 h.left few

    abbrev front1 : List ℕ
    front1 = sole.before c n stem left path s before.keep run.tail run.run last above inner z1 h.left few

    abbrev new1 : List ℕ
    new1 = e1.lead ++ e1.written

    opened1 : length front1 + suc (length w.gap) ≡ length h.opening
    opened1 = sole.opens c n stem left path s before.keep run.tail run.run last above inner z1 h.left few h.opening (h.is)

    module _ (start1 finish1 : ℕ) (new : List ℕ) (starts_at : start1 ≡ x.before + content_of q) (ends_there : finish1 + following ≡ length (buffer_text before.text)) (empty : empty_text q ≡ Some new) where
      at_start : start1 ≡ length front1
      at_start =
          omega (
            arith,
            starts_at,
            opened1,
            ap length h.was,
            ap length opens,
            length-append h.opening (flow_items_text w.close w.items w.rest),
            length-append first_bytes (flow_items_text w.close w.items w.rest),
            opened_size c n (stem ++ left) x q f,
            begins_at c n (stem ++ left) x q f,
          )

      at_finish : finish1 ≡ length (front1 ++ e1.old)
      at_finish = omega (arith, ends_there, ap length run.text, h.following_is, sole.ends c n stem left path s before.keep run.tail run.run last above inner z1 h.left few)

      short1 : start1 ≤ before.keep
      short1 = omega (arith, at_start, opened1, h.kept 0 (omega arith))

      new_same : new1 ≡ new
      new_same = sole.new_is c n stem left path s before.keep run.tail run.run last above inner z1 h.left few ∙ same_Some _ _ (sym (empty_is c n (stem ++ left) x q f) ∙ empty)

      can_empty_so : CanExchange (remove n path) c n stem before start1 finish1 new1 None
      can_empty_so = record {
        order = sole.sole_order c n stem left path s before.keep run.tail run.run last above inner z1 h.left few start1 finish1 at_start at_finish short1;
        room = sole.sole_room c n stem left path s before.keep run.tail run.run last above inner z1 h.left few start1 finish1 at_start at_finish short1;
        starts = subst (λ (l : List ℕ). IsCharBoundary l start1) (sym run.text) (sole.sole_start c n stem left path s before.keep run.tail run.run last above inner z1 h.left few start1 finish1 at_start at_finish short1);
        finishes = subst (λ (l : List ℕ). IsCharBoundary l finish1) (sym run.text) (sole.sole_finish c n stem left path s before.keep run.tail run.run last above inner z1 h.left few start1 finish1 at_start at_finish short1);
        utf8 = utf8;
        on = λ fitting. exchange_on (remove n path) c n stem before now run.text start1 finish1 new1 (new1 ++ e1.after) None tt fitting
            (sole.sole_there c n stem left path s before.keep run.tail run.run last above inner z1 h.left few start1 finish1 at_start at_finish short1)
            (λ small. (sole.sole_goes_on c n stem left path s before.keep run.tail run.run last above inner z1 h.left few start1 finish1 at_start at_finish short1 (subst (IsFitting (remove n path)) run.text fitting) small, tt))
            (sole.sole_text c n stem left path s before.keep run.tail run.run last above inner z1 h.left few start1 finish1 at_start at_finish short1);
        fails = exchange_fails (remove n path) before now run.text start1 finish1 new1 (sole.sole_large c n stem left path s before.keep run.tail run.run last above inner z1 h.left few start1 finish1 at_start at_finish short1);
      }

      pub can_empty : CanExchange (remove n path) c n stem before start1 finish1 new None
      can_empty = subst (λ (l : List ℕ). CanExchange (remove n path) c n stem before start1 finish1 l None) new_same can_empty_so

-- what the code finds of an operation
module _ (t : List ℕ) (n : ℕ) (stem path : List Step) (x : FlowHead) (r : Removed) (before : RemovalRun) (known : Option LeftOf) (read : read_at t ≡ Some (cut_of t)) (ends : EndsAt stem (map tree_step x.left.now) path)
    (agrees : FlowAgrees t (flow_collection n (stem ++ map tree_step x.left.now) (cut_of t)) (Some x)) (gone : GoesInHead path x known before r) (run : RemovesSo (cut_of t) n stem known before) where
  abbrev own_cut : Cut
  own_cut = cut_of t

  abbrev own_left : List Step
  own_left = map tree_step x.left.now

  abbrev Can : Type 0
  Can = CanExchange (remove n path) own_cut n stem before r.start r.end r.new.now r.known

  found_in : CollFound own_cut n (stem ++ own_left) x gone.node
  found_in = coll_found t n (stem ++ own_left) (Some x) x gone.node read agrees refl gone.there

  part_out : PartGoes path x gone.node gone.left r → Can
  part_out h =
      let last : last_step path ≡ Some (stem ++ own_left, h.step) = ends.1 ∙ ap (λ (s : Step). Some (stem ++ own_left, s)) (sym (ap (λ (y : List Step × Step). y.1) (same_Some _ _ (h.last ∙ ends.1)))) in
      let first = are_left own_cut n stem own_left path h.step last x gone.node found_in before known run (x.before + end_of gone.node) gone.left refl gone.first in
      subst (λ (a : ℕ). CanExchange (remove n path) own_cut n stem before a r.end r.new.now r.known) (sym h.start)
      (subst (λ (b : ℕ). CanExchange (remove n path) own_cut n stem before (x.before + h.place.start) b r.new.now r.known) (sym h.finish)
      (subst (λ (l : List ℕ). CanExchange (remove n path) own_cut n stem before (x.before + h.place.start) (x.before + h.place.end) l r.known) (sym h.new)
      (subst (CanExchange (remove n path) own_cut n stem before (x.before + h.place.start) (x.before + h.place.end) []) (sym h.known_is)
      (can_take own_cut n stem own_left path h.step last x gone.node found_in before known run h.index gone.left.count gone.left.after gone.left.following h.place h.leads h.goes first h.known h.steps_are h.count h.after h.following))))

  sole_out : SoleGoes x gone.node gone.left before r → Can
  sole_out h =
      let first = are_left own_cut n stem own_left path ends.0 ends.1 x gone.node found_in before known run (x.before + end_of gone.node) gone.left refl gone.first in
      let coll : CollPieces = w own_cut n stem own_left path ends.0 ends.1 x gone.node found_in before known run in
      let one : AreFirstLeft coll own_cut run.run.cut n (stem ++ own_left) before.keep 1 None gone.left.following =
      subst (λ (o : Option Bool). AreFirstLeft coll own_cut run.run.cut n (stem ++ own_left) before.keep 1 o gone.left.following) h.empty.alone
      (subst (λ (k : ℕ). AreFirstLeft coll own_cut run.run.cut n (stem ++ own_left) before.keep k gone.left.after gone.left.following) h.empty.sole first) in
      subst (CanExchange (remove n path) own_cut n stem before r.start r.end r.new.now) (sym h.empty.known)
      (can_empty own_cut n stem own_left path ends.0 ends.1 x gone.node found_in before known run h.own (sym h.inner) gone.left.following one r.start r.end r.new.now h.empty.start h.empty.finish h.empty.new)

  either : PartGoes path x gone.node gone.left r ⊎ SoleGoes x gone.node gone.left before r → Can
  either (inl h) = part_out h
  either (inr h) = sole_out h

  pub out_of : (m : ℕ) (op : Operation) → op ≡ remove m path → m ≡ n → CanExchange op own_cut n stem before r.start r.end r.new.now r.known
  out_of m op is same =
      subst (λ (o : Operation). CanExchange o own_cut n stem before r.start r.end r.new.now r.known) (sym (is ∙ ap (λ (k : ℕ). remove k path) same)) (either gone.goes)
