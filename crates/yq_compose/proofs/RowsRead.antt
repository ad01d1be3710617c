-- What the rows of a text spell is given by reading their heads again.
use Rattle.std.proofs.Common.{rules, ◌≡◌, ℕ, ℤ, zero, suc, ◌<◌, Bool, true, false, List, [], ◌∷◌, ◌++◌, length, drop, Option, Some, None}
use Rattle.std.proofs.Common.{refl, sym, ap, ◌∙◌, subst, arith, append_assoc, length-append}
use Rattle.std.{proofs.Math.Seq.{drop-append_seam, get_or-append_seam}, proofs.lemmas.Bool.{cond-false, false≢true, or_parts}}
use Rattle.std.{proofs.lemmas.List.length-map, proofs.lemmas.Option.{cond_some, slice_get-map}, proofs.lemmas.Str.IsCharBoundary-start}
use Rattle.std.{specs.List.{list_any, slice_get}, specs.Prelude.option_map, specs.Str.{IsCharBoundary, IsUtf8}}
use Rattle.yq_core.{specs.Answers.{ReadFails, ReadError}, specs.Quoted.IsQuotedText, specs.Nodes.begins_with, specs.Text.is_empty}
use Rattle.yq_core.{specs.Scalars.{scalar_content, is_quoted}, proofs.OneLine.kept, specs.Places.Placed, specs.Trees.placed_tree}
use Rattle.yq_core.{specs.Borrowed.{borrows_text, borrowed_text, is_borrowed, leading_node}, specs.FitKeys.key_fits}
use Rattle.yq_core.{proofs.BorrowedNames.front_names, proofs.BorrowedTexts.borrows_key}
use Rattle.yq_outline.{specs.Lines.head_of, specs.Names.is_reference, specs.View.{head_flow, head_view}, specs.declared.line.Head.Head}
use Rattle.yq_outline.proofs.RowLaws.{colon_some, mark_quoted}
use Rattle.yq_row_table.{specs.Exchange.{before_content, after_row, following_rows}, specs.Grammar.IsMark}
use Rattle.yq_row_table.{specs.Rows.{Row, Cut, parent_indent}, specs.View.{Slices, colon_of, key_of_mark, slices, rows_of, RowsView}}
use Rattle.yq_row_table.{proofs.PlaceLaws.{RowIn, place, row_in}, proofs.SliceLaws.content_slices, specs.WordRows.KnowsHead}
use Rattle.yq_documents.{specs.FlowReading.{head_flow_at, row_flow}, specs.KeyReading.EndsIn}
use Rattle.yq_documents.specs.Decoded.{IsKnownHead, borrowed_depth, borrowed_head, opens_collection}
use Rattle.yq_documents.{specs.Reading.{content_is_fit, cut_of, mark_is_fit}, specs.RowReading.read_head}
use Rattle.yq_documents.{proofs.HeadLaws.{fitting, head_is, head_text}, proofs.RowFlowLaws.flow_is, proofs.RowLineLaws.content_quoted}
use Rattle.yq_inline.proofs.WholeCollections.{whole_passed}
use Rattle.yq_compose.{specs.Borrowing.{LendsHead, PassesHead}, specs.Checking.borrows_head, specs.Deciding.Denies}
use Rattle.yq_compose.{specs.Decoding.{IsCutInto, IsKeyDecoded, NamesNone}, specs.Named.flow_names, proofs.RowBegins.mark_plain}
use Rattle.yq_compose.{proofs.AliasHeads.{MeansAlias, means_alias}, proofs.BorrowLaws.{borrowed_read, no_flow, star_closed}}
use Rattle.yq_compose.proofs.BorrowedHeads.{head_flow_is, head_lent, head_view_is}
use Rattle.yq_core.specs.Tree as trees
use Rattle.yq_failure.specs.declared.failure.Failure.TheVariants as errors
use Rattle.yq_row_table.specs.Rows as rows

-- a key is fit that is no plain `<<`
key_fit : (m : rows.RowMark) → key_fits (key_of_mark m) ≡ mark_is_fit m
key_fit rows.Bare = refl
key_fit rows.Dash = refl
key_fit (rows.Key key colon) = refl

-- where a head isn't read, its keys aren't fit
pub unfit_agrees : (e : ReadError) (o : Option (Option trees.Node)) (fit : Bool) (head : Option trees.Node) → o ≡ fitting fit head → ReadFails e o → Denies e fit
unfit_agrees errors.Memory o fit head is f = tt
unfit_agrees (errors.Fault k) o true head is f = absurd (cc)
unfit_agrees (errors.Fault k) o false head is f = refl

pub fit_agrees : (o : Option (Option trees.Node)) (fit : Bool) (head x : Option trees.Node) → o ≡ fitting fit head → o ≡ Some x → fit ≡ true
fit_agrees o fit head x is e = (cond_some fit _ _ (sym is ∙ e)).0

-- a row without a colon has no key, which is fit and means itself
no_key : (m : rows.RowMark) (c : rows.Content) (rest : List ℕ) → IsMark m c rest → is_empty (colon_of m) ≡ true → (mark_is_fit m ≡ true) × (borrowed_text (key_of_mark m) ≡ scalar_content (key_of_mark m))
no_key rows.Bare c rest h e = (refl, kept [] refl refl)
no_key rows.Dash c rest h e = (refl, kept [] refl refl)
no_key (rows.Key key colon) c rest h e = absurd (false≢true (sym (ap is_empty h.colon_is.spelled ∙ colon_some h.colon_is.white) ∙ e))

-- no head is borrowed
pub no_head : (h : List ℕ) → is_empty h ≡ true → borrows_head h ≡ true
no_head [] e = refl
no_head (b ∷ bs) e = absurd (false≢true e)

-- a row is there
has_row : (rs : List Row) (i : ℕ) → i < length rs → (r : Row) × (slice_get rs i ≡ Some r)
has_row [] i h = absurd (omega (arith, h))
has_row (r ∷ rs) zero h = (r, refl)
has_row (r ∷ rs) (suc i) h = has_row rs i (omega (arith, h))

pub rows_count : (t : List ℕ) (s : RowsView) → IsCutInto t s → length s.rows ≡ length (rows_of (cut_of t))
rows_count t s k = ap (λ (y : RowsView). length y.rows) k.rows ∙ length-map (rows_of (cut_of t)) slices

pub row_at : (t : List ℕ) (s : RowsView) → IsCutInto t s → (i : ℕ) → i < length s.rows → (r : Row) × (slice_get (rows_of (cut_of t)) i ≡ Some r)
row_at t s k i h = has_row (rows_of (cut_of t)) i (omega (arith, h, rows_count t s k))

regroup : (a b c d e : List ℕ) → a ++ (b ++ (c ++ (d ++ e))) ≡ (a ++ (b ++ (c ++ d))) ++ e
regroup a b c d e = simp append_assoc refl

-- a head that isn't borrowed is written, and begins with a whole character
unlent_some : (h : List ℕ) → borrows_head h ≡ false → is_empty h ≡ false
unlent_some [] e = absurd (false≢true (sym e))
unlent_some (b ∷ bs) e = refl

whole_there : (t before h more : List ℕ) (n : ℕ) → t ≡ before ++ (h ++ more) → n ≡ length before → is_empty h ≡ false → IsUtf8 h → IsCharBoundary t n
whole_there t before h more n is at some u = search (rules, false≢true, IsCharBoundary-start, get_or-append_seam, length-append)

-- a row of a text
module _ (t : List ℕ) (s : RowsView) (k : IsCutInto t s) (i : ℕ) (r : Row) (is : slice_get (rows_of (cut_of t)) i ≡ Some r) where
  abbrev c : Cut
  c = cut_of t

  abbrev before : List ℕ
  before = before_content i c ++ ((slices r).space ++ ((slices r).anchor ++ (slices r).apart))

  abbrev after : List ℕ
  after = head_text r.content (after_row i c)

  pub pieces_there : slice_get s.rows i ≡ Some (slices r)
  pieces_there = ap (λ (y : RowsView). slice_get y.rows i) k.rows ∙ (slice_get-map slices (rows_of c) i ∙ ap (option_map slices) is)

  row_here : RowIn r (after_row i c) (following_rows i c)
  row_here = row_in c i true r k.cut.parts is

  pub head_quoted : (h : List ℕ) → h ≡ (slices r).head → is_quoted h ≡ true → IsQuotedText h
  head_quoted h e = subst (λ (x : List ℕ). is_quoted x ≡ true → IsQuotedText x) (sym e) (content_quoted (parent_indent r) r.content (after_row i c) row_here.row.content)

  pub key_quoted : (h : List ℕ) → h ≡ (slices r).key → is_quoted h ≡ true → IsQuotedText h
  key_quoted h e = subst (λ (x : List ℕ). is_quoted x ≡ true → IsQuotedText x) (sym e) (mark_quoted r.mark r.content (after_row i c) row_here.row.mark)

  pub keyless : is_empty (slices r).colon ≡ true → (mark_is_fit r.mark ≡ true) × IsKeyDecoded None r
  keyless = no_key r.mark r.content (after_row i c) row_here.row.mark

  -- the key is written
  module _ (key : List ℕ) (is_key : key ≡ (slices r).key) where
    pub key_fits_is : key_fits key ≡ mark_is_fit r.mark
    key_fits_is = ap key_fits is_key ∙ key_fit r.mark

    pub key_unquoted : is_quoted key ≡ false → IsKeyDecoded None r
    key_unquoted plain =
        let own = ap is_quoted (sym is_key) ∙ plain in
        cond-false (is_quoted (slices r).key) _ (slices r).key own ∙ mark_plain r.mark r.content (after_row i c) row_here.row.mark own

    pub key_borrowed : borrows_text key ≡ true → IsKeyDecoded None r
    key_borrowed borrows = borrows_key (slices r).key (key_quoted (slices r).key refl) (ap borrows_text (sym is_key) ∙ borrows)

  pub text_there : t ≡ before ++ after
  text_there =
      let x : Slices = slices r in
      k.cut.text
      ∙ (place c i r is
      ∙ (ap (λ (y : List ℕ). before_content i c ++ y) (sym (content_slices r.content (after_row i c))) ∙ regroup (before_content i c) x.space x.anchor x.apart after))

  read_again : read_head t (parent_indent r) (slices r).head after ≡ fitting (content_is_fit r.content) (head_of r.content)
  read_again = head_is t (parent_indent r) r.content (after_row i c) (before, text_there) row_here.row.content

  flow_again : head_flow_at t (parent_indent r) (slices r).head after ≡ row_flow (length t) r (after_row i c)
  flow_again = flow_is t (parent_indent r) r.content (after_row i c) (before, text_there) row_here.row.content

  -- the head is borrowed
  module _ (h : List ℕ) (head : h ≡ (slices r).head) (borrows : borrows_head h ≡ true) where
    borrowed_so : (fitting (content_is_fit r.content) (head_of r.content) ≡ Some (borrowed_head (slices r).head)) × (None ≡ row_flow (length t) r (after_row i c))
    borrowed_so =
        let l = borrowed_read t (parent_indent r) (slices r).head after (head_quoted (slices r).head refl) (ap borrows_head (sym head) ∙ borrows) in
        (sym read_again ∙ l.0, sym l.1 ∙ flow_again)

    pub borrowed_fit : content_is_fit r.content ≡ true
    borrowed_fit = (cond_some (content_is_fit r.content) _ _ borrowed_so.0).0

    pub none_given : IsKnownHead t c None i r
    none_given =
        let apart = or_parts (begins_with 42 (slices r).head) (opens_collection (slices r).head) (no_flow (slices r).head (ap borrows_head (sym head) ∙ borrows)) in
        record {
          alias = λ star. absurd (false≢true (sym apart.0 ∙ star));
          collection = λ opens. absurd (false≢true (sym apart.1 ∙ opens));
          other = λ closed. (sym (cond_some (content_is_fit r.content) _ _ borrowed_so.0).1, borrowed_so.1);
        }

    pub none_named : NamesNone t i r
    none_named = ap (λ o. list_any is_reference (flow_names o)) (sym borrowed_so.1)

  -- the head is an alias
  module _ (h : List ℕ) (head : h ≡ (slices r).head) (star : begins_with 42 h ≡ true) where
    own_star : begins_with 42 (slices r).head ≡ true
    own_star = ap (begins_with 42) (sym head) ∙ star

    means : MeansAlias (after_row i c) r.content
    means = means_alias (parent_indent r) r.content (after_row i c) row_here.row.content own_star

    pub alias_fit : content_is_fit r.content ≡ true
    alias_fit = means.fit

    pub alias_given : IsKnownHead t c None i r
    alias_given = record {
      alias = λ e. (means.head, means.flow (length t) (length before) (omega (arith, ap length text_there, length-append before after)));
      collection = λ opens. absurd (false≢true (sym (star_closed (slices r).head own_star) ∙ opens));
      other = λ closed. absurd (false≢true (sym (or_parts (begins_with 42 (slices r).head) (opens_collection (slices r).head) closed).0 ∙ own_star));
    }

  pub place_whole : (h : List ℕ) (n : ℕ) → h ≡ (slices r).head → borrows_head h ≡ false → IsUtf8 h → n ≡ length before → IsCharBoundary t n
  place_whole h n e unlent u at =
      let x : Slices = slices r in
      let rest : List ℕ = x.tail ++ (x.raw ++ after_row i c) in
      whole_there t before h rest n (text_there ∙ ap (λ (y : List ℕ). before ++ (y ++ rest)) (sym e)) at (unlent_some h unlent) u

  -- the head is read
  module _ (text : List ℕ) (start : ℕ) (from : text ≡ drop start t) (place_is : start ≡ length before) where
    from_there : text ≡ after
    from_there = from ∙ ((λ j. drop (place_is j) (text_there j)) ∙ drop-append_seam before after)

    pub text_ends : EndsIn t text
    text_ends = (before, text_there ∙ ap (λ (x : List ℕ). before ++ x) (sym from_there))

    -- what is known of the head is so of the text from it on
    pub passed_there : (d : ℕ) → KnowsHead d (slices r).head → 0 < d → PassesHead d text
    passed_there d knows more =
        let k = knows more in
        let x : Slices = slices r in
        let rest : List ℕ = x.tail ++ (x.raw ++ after_row i c) in
        (k.0, (rest, whole_passed d x.head rest text k.1 from_there))

    module _ (p : ℤ) (h : List ℕ) (parent : p ≡ parent_indent r) (head : h ≡ (slices r).head) where
      pub head_read : read_head t p h text ≡ fitting (content_is_fit r.content) (head_of r.content)
      head_read = (λ j. read_head t (parent j) (head j) (from_there j)) ∙ read_again

      flow_read : head_flow_at t p h text ≡ row_flow (length t) r (after_row i c)
      flow_read = (λ j. head_flow_at t (parent j) (head j) (from_there j)) ∙ flow_again

      pub read_given : (x : Head) → read_head t p h text ≡ Some (head_view x) → head_flow x ≡ head_flow_at t p h text → IsKnownHead t c (Some x) i r
      read_given x view flow = (sym (cond_some (content_is_fit r.content) _ _ (sym head_read ∙ view)).1, flow ∙ flow_read)

    -- the text lends the collection that the head is
    module _ (h : List ℕ) (head : h ≡ (slices r).head) (lends : LendsHead h text) where
      abbrev node : Placed
      node = leading_node (length t) borrowed_depth text

      lent_read : read_head t (parent_indent r) h text ≡ Some (Some (placed_tree node))
      lent_read = head_view_is t text lends.passes.1.0 borrowed_depth text_ends lends.passes.0 lends.passes.1.1 h (parent_indent r) lends.opens

      pub lent_fit : content_is_fit r.content ≡ true
      lent_fit = fit_agrees _ _ _ _ (head_read (parent_indent r) h refl head) lent_read

      lent_flow : Some node ≡ row_flow (length t) r (after_row i c)
      lent_flow = head_flow_is t text lends.passes.1.0 borrowed_depth text_ends lends.passes.0 lends.passes.1.1 h (parent_indent r) lends.opens ∙ flow_read (parent_indent r) h refl head

      lent_is : is_borrowed borrowed_depth text ≡ true
      lent_is = head_lent t text lends.passes.1.0 borrowed_depth text_ends lends.passes.0 lends.passes.1.1

      own_opens : opens_collection (slices r).head ≡ true
      own_opens = ap opens_collection (sym head) ∙ lends.opens

      here : drop (length before) t ≡ text
      here = ap (λ (n : ℕ). drop n t) (sym place_is) ∙ sym from

      pub lent_given : IsCharBoundary t (length before) → IsKnownHead t c None i r
      lent_given boundary = record {
        alias = λ star. absurd (false≢true (sym (star_closed (slices r).head star) ∙ own_opens));
        collection = λ opens. record {
          boundary = boundary;
          borrowed = ap (is_borrowed borrowed_depth) here ∙ lent_is;
          view = ap (λ (x : List ℕ). Some (placed_tree (leading_node (length t) borrowed_depth x))) here
              ∙ sym (cond_some (content_is_fit r.content) _ _ (sym (head_read (parent_indent r) h refl head) ∙ lent_read)).1;
          flow = ap (λ (x : List ℕ). Some (leading_node (length t) borrowed_depth x)) here ∙ lent_flow;
        };
        other = λ closed. absurd (false≢true (sym (or_parts (begins_with 42 (slices r).head) (opens_collection (slices r).head) closed).1 ∙ own_opens));
      }

      pub lent_named : NamesNone t i r
      lent_named = ap (λ o. list_any is_reference (flow_names o)) (sym lent_flow) ∙ ap (list_any is_reference) (front_names (length t) borrowed_depth text lent_is)
