-- What a read prints of its matches (own).
use Rattle.std.specs.Prelude.{ℕ, ◌==◌, Bool, true, false, not, ◌&&◌, ◌||◌, if◌then◌else◌, List, [], ◌∷◌, ◌++◌, codes, Option, Some, None}
use Rattle.yq_core.{specs.declared.kind.Kind.Kind, specs.Tree.{Node, alias, scalar, list, map}, specs.SchemaReading.is_true_word}
use Rattle.yq_core.{specs.declared.value.Value.Value, specs.Values.value_node}
use Rattle.yq_edit_rules.specs.Print.{print_text}
use Rattle.yq_args.specs.declared.eval_options.EvalOptions.{EvalOptions}
use Rattle.yq_history.specs.Output.{Showing, bytes}
use Rattle.yq_core.specs.declared.kind.Kind.TheVariants as kinds

-- what comes before a match, by the document of the one before it: the line `---`, where that is another document
abbrev pub separator_before : Bool → Option ℕ → ℕ → List ℕ
separator_before no_doc None doc = []
separator_before no_doc (Some last) doc = if no_doc || (last == doc) then [] else codes "---" ++ 10 ∷ []

-- what was printed, and then a match of a document, after one of the document `last`
abbrev pub with_match : List ℕ → Bool → Option ℕ → ℕ → Value → List ℕ
with_match printed no_doc last doc value = (printed ++ separator_before no_doc last doc) ++ print_text (value_node value)

-- matches, each with its document's number, as they are printed after a match of such a document, or first of all
abbrev pub matches_after : Bool → Option ℕ → List (ℕ × Node) → List ℕ
matches_after no_doc last [] = []
matches_after no_doc last (m ∷ ms) = separator_before no_doc last m.0 ++ (print_text m.1 ++ matches_after no_doc (Some m.0) ms)

-- matches as they are printed
abbrev pub printed_matches : Bool → List (ℕ × Node) → List ℕ
printed_matches no_doc ms = matches_after no_doc None ms

-- whether a scalar is null, or false in one of its words (YAML 1.2.2, section 10.3.2)
abbrev pub is_null_or_false : Kind → List ℕ → Bool
is_null_or_false kinds.Null text = true
is_null_or_false kinds.Bool text = not (is_true_word text)
is_null_or_false kinds.Int text = false
is_null_or_false kinds.Float text = false
is_null_or_false kinds.Text text = false

-- whether a value is no match for `-e`
abbrev pub is_no_match : Node → Bool
is_no_match (alias name) = false
is_no_match (scalar anchor kind text) = is_null_or_false kind text
is_no_match (list anchor cs) = false
is_no_match (map anchor cs) = false

-- whether all matches are none for `-e`
abbrev pub have_no_match : List (ℕ × Node) → Bool
have_no_match [] = true
have_no_match (m ∷ ms) = is_no_match m.1 && have_no_match ms

-- what is shown of matches: with `-e` there is to be one other than null and false
abbrev pub report_matches : EvalOptions → List (ℕ × Node) → Showing
report_matches options ms = record {
  output = bytes (printed_matches options.no_doc ms);
  is_match = not (options.exit_status && have_no_match ms);
}
