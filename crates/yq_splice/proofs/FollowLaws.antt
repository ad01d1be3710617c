-- The text and the rows of a session follow an operation that is carried out by segments.
use Rattle.std.proofs.Common.{◌≡◌, ◌⊎◌, inl, inr, ℕ, ◌-◌, ◌≤◌, Bool, true, false, List, [], ◌∷◌, ◌++◌, length, Some, string_bytes, refl}
use Rattle.std.proofs.Common.{Result, Ok, Err, IfOk, IfErr, sym, ap, ◌∙◌, subst, arith, eqb, eqb-true, Vec, vec_len}
use Rattle.std.{proofs.lemmas.Bool.false≢true, proofs.lemmas.List.length-append, proofs.lemmas.Option.same_Some}
use Rattle.std.{specs.Str.{IsCharBoundary, IsUtf8}, specs.declared.alloc.Global.Global}
use Rattle.yq_text.{specs.Limit.text_limit, specs.Changing.IsChange}
use Rattle.yq_text.specs.Script.{Segment, keep, put, old_text, new_text, AllStay, are_kept, kept_front, kept_back}
use Rattle.yq_text.{specs.Splice.{Splice, all_done}, specs.declared.changed.ChangedMiddle.ChangedMiddle}
use Rattle.yq_text.{proofs.ChangeLaws.{cut_back, cut_front}, proofs.ScriptLaws.{changes_lead, kept_changes}}
use Rattle.yq_text.proofs.KeptSegments.{IsBetween, between}
use Rattle.yq_row_table.{specs.Grammar.IsCut, specs.Meter.{count_after, line_count}, specs.Rows.{Cut, cut_text}, specs.Touched.TouchesOnly}
use Rattle.yq_row_table.{specs.View.rows_view, specs.declared.places.Places.Places, proofs.MeterLaws.counted_within}
use Rattle.yq_documents.{specs.Documents.{Document, ReadsDocuments}, specs.Reading.{documents, cut_of, read_at}, proofs.ReadLaws.parts_read}
use Rattle.yq_lookup.{specs.Knowledge.{IsKnowledge, KnowledgeStays}, specs.declared.knowledge.Knowledge.Knowledge}
use Rattle.yq_semantics.{specs.Fits.Fits, specs.Judgement.ExprError, specs.Operations.Operation, specs.Rooms.room_of}
use Rattle.yq_rows.{specs.Following.{ArePlacesOf, CountsWritten, Follows, exchanged, read_text}, specs.declared.kept.Kept.Kept}
use Rattle.yq_edit_rules.{specs.Edits.{op_edits, or_stay}, specs.Local.IsLocalTo, specs.Operands.HasOperand, proofs.DoneLaws.read_cut}
use Rattle.yq_edit_laws.{specs.TouchedRanges.IsLocalEdit, proofs.NearLaws.edits_are_near, proofs.TouchLaws.local_touches}
use Rattle.yq_edit_laws.{proofs.TouchedLaws.near_touched, proofs.CutLaws.{cut_read, text_read}, specs.Carried.carried}
use Rattle.yq_edit_laws.{specs.Answers.EditFails, specs.Edit.gives, specs.Theorems.{IsFitting, IsApplied, OpRefused}}
use Rattle.yq_edit_laws.{specs.Valid.segments_by, proofs.ApplyLaws.{fits, applied_by, refused_by}, proofs.EditsHold.edit_is}
use Rattle.yq_edit_laws.proofs.TextFaults.{text_utf8}
use Rattle.yq_splice.{specs.Session.{HasPlaces, Knows, Scans}, proofs.SessionLaws.carried_by, proofs.TouchedLineLaws.read_within}

-- ---- whether there are splices, by their number

pub no_splices : (cs : Vec Splice Global) → eqb (vec_len cs) 0 ≡ true → cs.items ≡ []
no_splices cs h = go cs.items (sym cs.ok.0 ∙ eqb-true (vec_len cs) 0 h)
  where
    go : (xs : List Splice) → length xs ≡ 0 → xs ≡ []
    go [] e = refl
    go (x ∷ xs) e = absurd (omega (arith, e))

pub some_splices : (cs : Vec Splice Global) → eqb (vec_len cs) 0 ≡ false → ¬ (cs.items ≡ [])
some_splices cs h none = absurd (false≢true (sym h ∙ ap (λ (n : ℕ). eqb n 0) (cs.ok.0 ∙ ap length none)))

-- ---- an operation by its segments

all_stay : (ss : List Segment) → are_kept ss ≡ true → AllStay ss
all_stay [] e = tt
all_stay (keep t ∷ ss) e = (tt, all_stay ss e)
all_stay (put o w ∷ ss) e = absurd (cc)

-- segments of which not all bytes stay exchange some
some_change : (ss : List Segment) → ¬ AllStay ss → are_kept ss ≡ false
some_change ss change = go (are_kept ss) refl
  where
    go : (b : Bool) → are_kept ss ≡ b → are_kept ss ≡ false
    go true e = absurd (change (all_stay ss e))
    go false e = e

-- what it changes of a text
module _ (op : Operation) (t : List ℕ) (operand : HasOperand op) (fitting : IsFitting op t) (p : Places) (h : HasPlaces t p) (x : ChangedMiddle) (change : IsChange (segments_by op (cut_of t)) x) where
  abbrev own : List Segment
  own = segments_by op (cut_of t)

  abbrev new_bytes : List ℕ
  new_bytes = new_text own

  a : IsApplied op t new_bytes x.splices.items
  a = applied_by op t operand fitting new_bytes x.splices.items (carried_by op t p x h change)

  -- where it makes no splice, the text stays
  module _ (none : x.splices.items ≡ []) where
    stays : new_bytes ≡ t
    stays =
        let lead : Some (old_text a.segments) ≡ Some (new_text a.segments) = sym (ap (λ (xs : List Splice). all_done xs (old_text a.segments)) (a.splices ∙ none)) ∙ changes_lead a.segments in
        sym a.new_is ∙ (sym (same_Some _ _ lead) ∙ a.old_is)

    pub carried_none : carried op t ≡ gives t x.splices.items
    carried_none = carried_by op t p x h change ∙ ap (λ (y : List ℕ). gives y x.splices.items) stays

  -- where it makes some
  module _ (some : ¬ (x.splices.items ≡ [])) where
    abbrev ss : List Segment
    ss = a.segments

    abbrev c : Cut
    c = h.cut

    abbrev new_cut : Cut
    new_cut = a.reads.parts

    text : cut_text c ≡ t
    text = text_read t c h.read

    again : read_at (cut_text c) ≡ Some c
    again = ap read_at text ∙ h.read

    cut_known : (docs : List Document) (d : ReadsDocuments t docs) → d.parts ≡ c
    cut_known docs d = same_Some _ _ (sym (parts_read t docs d).0 ∙ h.read)

    exchanged_there : op_edits op c ≡ Some ss
    exchanged_there = subst (λ (x : Cut). op_edits op x ≡ Some ss) (cut_known a.before a.read) a.exchanged

    own_is : own ≡ ss
    own_is = ap (segments_by op) (read_cut t c h.read) ∙ ap (or_stay c) exchanged_there

    fit : Fits (room_of (cut_text c)) op (documents c)
    fit = subst (λ (x : Cut). Fits (room_of (cut_text x)) op (documents x)) (cut_known fitting.before fitting.read) (fits op t operand fitting)

    size : length (new_text ss) ≤ text_limit
    size = omega (arith, a.reads.cut.size, ap length a.new_is)

    new_bytes_read : read_at new_bytes ≡ Some new_cut
    new_bytes_read = (parts_read new_bytes _ a.reads).0

    changed : ¬ AllStay ss
    changed stay = some (sym a.splices ∙ kept_changes ss stay)

    by_local : IsLocalTo ss c ⊎ AllStay ss → IsLocalTo ss c
    by_local (inl local) = local
    by_local (inr stay) = absurd (changed stay)

    touches : TouchesOnly (length (kept_front ss)) (length (kept_back ss)) c new_cut
    touches = local_touches ss c new_cut (by_local ((edit_is op c ss again exchanged_there).carried operand fit size).local new_cut (ap read_at a.new_is ∙ new_bytes_read))

    some_change_there : are_kept ss ≡ false
    some_change_there = some_change ss changed

    near : IsLocalEdit ss
    near = edits_are_near op c ss again exchanged_there operand fit size

    room : IsBetween ss
    room = between ss some_change_there

    abbrev kept : Kept
    kept = record { front = x.front; back = x.back }

    front : kept.front ≡ length (kept_front ss)
    front = change.front ∙ ap (λ (y : List Segment). length (kept_front y)) own_is

    back : kept.back ≡ length (kept_back ss)
    back = change.back ∙ ap (λ (y : List Segment). length (kept_back y)) own_is

    agrees : TouchesOnly kept.front kept.back c new_cut
    agrees = subst (λ (n : ℕ). TouchesOnly n kept.back c new_cut) (sym front) (subst (λ (n : ℕ). TouchesOnly (length (kept_front ss)) n c new_cut) (sym back) touches)

    of_text : old_text own ≡ t
    of_text = ap old_text own_is ∙ a.old_is

    utf8 : IsUtf8 (old_text own)
    utf8 = subst IsUtf8 (sym of_text) (text_utf8 t c h.read)

    new_bytes_are : new_bytes ≡ exchanged kept t (string_bytes x.new)
    new_bytes_are = change.text (ap are_kept own_is ∙ some_change_there) ∙ ap (λ (y : List ℕ). exchanged kept y (string_bytes x.new)) of_text

    -- the text and the rows follow
    pub follows : Follows t p kept (string_bytes x.new)
    follows = record {
      old_cut = c;
      new_cut = new_cut;
      old_is = cut_read t c h.read;
      placed = h.placed;
      new_is = subst (λ (y : List ℕ). IsCut y new_cut) new_bytes_are a.reads.cut;
      touches = agrees;
      within = omega (arith, front, back, ap length a.old_is, ap length room.old_is, length-append (kept_front ss) (room.old ++ kept_back ss), length-append room.old (kept_back ss));
      front_edge = subst (λ (y : List ℕ). IsCharBoundary y x.front) of_text (subst (IsCharBoundary (old_text own)) (sym change.front) (cut_front own utf8 change.front_text));
      back_edge = subst (λ (y : List ℕ). IsCharBoundary y (length y - x.back)) of_text (subst (λ (n : ℕ). IsCharBoundary (old_text own) (length (old_text own) - n)) (sym change.back) (cut_back own change.back_text));
    }

    -- and after that
    module _ (new : List ℕ) (becomes : new ≡ exchanged kept t (string_bytes x.new)) where
      text_after : new_bytes ≡ new
      text_after = new_bytes_are ∙ sym becomes

      pub carried_some : carried op t ≡ gives new x.splices.items
      carried_some = carried_by op t p x h change ∙ ap (λ (y : List ℕ). gives y x.splices.items) text_after

      is_cut : IsCut new new_cut
      is_cut = subst (λ (y : List ℕ). IsCut y new_cut) text_after a.reads.cut

      read_after : read_at new ≡ Some new_cut
      read_after = ap read_at (sym text_after) ∙ new_bytes_read

      known_by : (k : Knowledge) → KnowledgeStays kept.front (cut_of t) k → Knows new k
      known_by k stay =
          subst (λ (d : Cut). IsKnowledge (rows_view d) k) (sym (read_cut new new_cut read_after))
          (stay new_cut kept.back (subst (λ (d : Cut). TouchesOnly kept.front kept.back d new_cut) (sym (read_cut t c h.read)) agrees))

      pub kept_after : (q : Places) (k : Knowledge) → ArePlacesOf new q → KnowledgeStays kept.front (cut_of t) k → HasPlaces new q × Knows new k
      kept_after q k placed stay = (record { cut = new_cut; read = read_after; placed = placed new_cut is_cut }, known_by k stay)

      pub scans : (count before after : ℕ) → count ≡ before → CountsWritten t new kept count after → Scans op t new x.splices.items before after
      scans count before after is counts =
          let lines : ℕ = line_count (read_text kept c new_cut agrees) in
          let exact : after ≡ count_after lines before = counts c new_cut (cut_read t c h.read) is_cut agrees ∙ ap (count_after lines) is in
          let each = near_touched ss c new_cut near some_change_there (ap read_at a.new_is ∙ new_bytes_read) kept.front kept.back front back agrees in
          let few = read_within t new kept c new_cut ss (record {
            old_is = cut_read t c h.read;
            new_is = is_cut;
            touches = agrees;
            come = string_bytes x.new;
            becomes = becomes;
            within = follows.within;
            text_is = a.new_is ∙ text_after;
            back_is = back;
            each = each;
          }) in
          inr (
            some,
            record {
              cut = c;
              new_cut = new_cut;
              segments = ss;
              read = h.read;
              new_read = read_after;
              exchanged = exchanged_there;
              new_is = sym text_after ∙ sym a.new_is;
              kept = kept;
              front = front;
              back = back;
              touches = agrees;
              each = each;
              exact = exact;
              most = omega (arith, exact, counted_within lines before);
              bound = omega (arith, exact, counted_within lines before, few);
            },
          )

-- ---- operations whose operand is known to be valid

-- what is done where one is carried out, and why it is refused
pub done_by : (op : Operation) (t m : List ℕ) → HasOperand op → IsFitting op t → (r : Result (Vec Splice Global) ExprError) →
    IfOk r (λ cs. carried op t ≡ gives m cs.items) → IfOk r (λ cs. IsApplied op t m cs.items)
done_by op t m operand fitting (Ok cs) h = applied_by op t operand fitting m cs.items h
done_by op t m operand fitting (Err e) h = tt

pub why_refused : (op : Operation) (t : List ℕ) → HasOperand op → IsFitting op t → (r : Result (Vec Splice Global) ExprError) →
    IfErr r (λ e. EditFails e (carried op t)) → IfErr r (λ e. OpRefused e op t)
why_refused op t operand fitting (Ok cs) h = tt
why_refused op t operand fitting (Err e) h = refused_by op t operand fitting e h
