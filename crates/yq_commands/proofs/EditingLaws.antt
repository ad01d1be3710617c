-- Texts without a reading, and why a program is refused on a text.
use Rattle.std.proofs.Common.{rules, ◌≡◌, ◌≢◌, ℕ, List, true, false, if◌then◌else◌, None, sym, ap, subst, ◌∙◌, true≢false}
use Rattle.std.specs.Str.{is_utf8}
use Rattle.yq_core.{specs.declared.ReadFault.ReadFault, specs.declared.fault.FaultKind.TheVariants.NotUtf8}
use Rattle.yq_documents.specs.Reading.{read_at, checked_at}
use Rattle.yq_semantics.{specs.Program.Program, specs.Parsing.refusal, specs.declared.parse_fault.ParseFault.ParseFault}
use Rattle.yq_edit_laws.{specs.Carried.{edit_of, program_done}, specs.Edit.by_reading}
use Rattle.yq_fault.{specs.declared.fault.Fault.Fault, specs.declared.fault.Fault.TheVariants.{Expression, Unreadable}}
use Rattle.yq_history.specs.Causes.{IsFor, IsUnreadable, no_reading}
use Rattle.yq_commands.{specs.CommandFaults.cause_in, specs.Editing.{Refuses, program_edits, program_in, refused, edit_outcome}}
use Rattle.yq_expr_parser.specs.Parse.{outcome}

-- bytes that are no UTF-8
pub not_read : (t : List ℕ) → is_utf8 t ≡ false → read_at t ≡ None
unfolding read_at
not_read t is = ap (λ b. if b then checked_at t else None) is

-- nothing is made of them
unread : (p : Program) (t : List ℕ) → read_at t ≡ None → program_edits p t ≡ refused (no_reading t)
unfolding program_edits edit_of
unread p t is = ap (λ o. edit_outcome t (by_reading (λ c. program_done p t) o)) is

pub unread_refuses : (p : Program) (t : List ℕ) (e : Fault) → read_at t ≡ None → IsUnreadable t e → Refuses (program_edits p t) e
unread_refuses p t e none reports = subst (λ o. Refuses o e) (sym (unread p t none)) reports

-- why an expression has no program
pub parse_refused : (t : List ℕ) (f : ParseFault) → outcome t ≡ refusal f → IsFor (cause_in (program_in t)) (Expression f)
unfolding program_in
parse_refused t f h = search rules

-- ---- whether a fault says that they are no UTF-8

-- of other bytes it says that
pub no_utf8_fault : (t : List ℕ) (f : ReadFault) → is_utf8 t ≡ false → f.kind ≡ NotUtf8 → IsUnreadable t (Unreadable f)
no_utf8_fault t f other kind = (λ is. other, λ is. kind)

-- and of UTF-8 it doesn't
pub unread_text : (t : List ℕ) (f : ReadFault) → is_utf8 t ≡ true → f.kind ≢ NotUtf8 → IsUnreadable t (Unreadable f)
unread_text t f utf8 other = (λ is. absurd (other is), λ no. absurd (true≢false (sym utf8 ∙ no)))
