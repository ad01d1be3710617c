-- The grammar of expressions. `IsX x ts rest` says that the tokens ts are the form x and then the tokens rest.
use Rattle.std.specs.Prelude.{◌≡◌, ℕ, zero, suc, ◌⊎◌, Bool, true, false, List, [], ◌∷◌, map, Some, None, codes}
use Rattle.yq_core.{specs.Keys.AreDistinct, specs.Scalar.{ScalarText, string_of, plain_of}, specs.SchemaReading.{int_value, is_one_of}}
use Rattle.yq_core.{specs.Tree.Node, specs.Values.{items, entries}}
use Rattle.yq_semantics.{specs.declared.program.Operator.Operator, specs.declared.program.CommentPlace.CommentPlace}
use Rattle.yq_semantics.specs.Program.{PathStep, key, index, each, Operand, value_at, document_index, Condition, compares, has, Stage, path}
use Rattle.yq_semantics.specs.Program.{select, Term, literal, found, Update, assign, delete, comment, Program, read, updates}
use Rattle.yq_semantics.specs.Tokens.{Token, string, number, step, symbol, scalar_words}
use Rattle.yq_core.specs.Tree as tree
use Rattle.yq_semantics.specs.declared.program.Operator.TheVariants as operator
use Rattle.yq_semantics.specs.declared.program.CommentPlace.TheVariants as place

-- a form: what it says, its tokens with those that follow, and those that follow (own)
abbrev pub Production : Type 0 → Type 1
Production A = A → List Token → List Token → Type 0

-- the mark or word s is in front (own)
abbrev pub HasSymbol : List ℕ → List Token → List Token → Type 0
HasSymbol s ts rest = ts ≡ symbol s ∷ rest

-- "[" "]", "[" int "]" or "[" string "]"; an int is a number without a point, and in i64 (own)
abbrev pub IsBracket : Production PathStep
IsBracket (key k) ts rest = ts ≡ symbol (codes "[") ∷ string k ∷ symbol (codes "]") ∷ rest
IsBracket (index n) ts rest = (w : List ℕ) × (int_value w ≡ Some n) × (ts ≡ symbol (codes "[") ∷ number w ∷ symbol (codes "]") ∷ rest)
IsBracket each ts rest = ts ≡ symbol (codes "[") ∷ symbol (codes "]") ∷ rest

-- "." and then a bracket (own)
abbrev pub IsDotted : Production PathStep
IsDotted s ts rest = (inner : List Token) × HasSymbol (codes ".") ts inner × IsBracket s inner rest

-- a step `.name` or `."string"` (own)
abbrev pub IsNamed : Production PathStep
IsNamed (key k) ts rest = ts ≡ step k ∷ rest
IsNamed (index n) ts rest = ⊥
IsNamed each ts rest = ⊥

-- the first step of a path: a named one, or "." and a bracket (own)
abbrev pub IsFirst : Production PathStep
IsFirst s ts rest = IsNamed s ts rest ⊎ IsDotted s ts rest

-- a further step of a path: a named one, a bracket, or "." and a bracket (own)
abbrev pub IsNext : Production PathStep
IsNext s ts rest = IsNamed s ts rest ⊎ IsBracket s ts rest ⊎ IsDotted s ts rest

-- forms one after the other, as many as there are (own)
abbrev pub Are : {A : Type 0} → Production A → Production (List A)
Are Is [] ts rest = ts ≡ rest
Are Is (x ∷ xs) ts rest = (after : List Token) × Is x ts after × Are Is xs after rest

-- a mark and then a form (own)
abbrev pub Preceded : {A : Type 0} → List ℕ → Production A → Production A
Preceded s Is x ts rest = (after : List Token) × HasSymbol s ts after × Is x after rest

-- one form or more, with the mark between them (own)
abbrev pub AreParted : {A : Type 0} → List ℕ → Production A → Production (List A)
AreParted s Is [] ts rest = ⊥
AreParted s Is (x ∷ xs) ts rest = (after : List Token) × Is x ts after × Are (Preceded s Is) xs after rest

-- a form between two marks (own)
abbrev pub Between : {A : Type 0} → List ℕ → List ℕ → Production A → Production A
Between opening closing Is x ts rest = (inner after : List Token) × HasSymbol opening ts inner × Is x inner after × HasSymbol closing after rest

-- path = "." | first { next } (own)
abbrev pub IsPath : Production (List PathStep)
IsPath [] ts rest = HasSymbol (codes ".") ts rest
IsPath (s ∷ steps) ts rest = (after : List Token) × IsFirst s ts after × Are IsNext steps after rest

-- scalar = string | number | "true" | "false" | "null" (own)
abbrev pub IsPlainLiteral : Production ScalarText
IsPlainLiteral s ts rest =
    ((text : List ℕ) × (s ≡ string_of text) × (ts ≡ string text ∷ rest))
    ⊎ ((text : List ℕ) × (s ≡ plain_of text) × (ts ≡ number text ∷ rest))
    ⊎ ((word : List ℕ) × (s ≡ plain_of word) × (is_one_of scalar_words word ≡ true) × (ts ≡ symbol word ∷ rest))

-- any number of forms between two marks, with commas between them (own)
abbrev pub AreListed : {A : Type 0} → List ℕ → List ℕ → Production A → Production (List A)
AreListed opening closing Is [] ts rest = ts ≡ symbol opening ∷ symbol closing ∷ rest
AreListed opening closing Is (x ∷ xs) ts rest = Between opening closing (AreParted (codes ",") Is) (x ∷ xs) ts rest

-- string ":" and a form (own)
abbrev pub IsField : {A : Type 0} → Production A → Production (List ℕ × A)
IsField Is e ts rest = (after : List Token) × (ts ≡ string e.0 ∷ symbol (codes ":") ∷ after) × Is e.1 after rest

-- a scalar as a node (own)
abbrev pub IsScalarNode : Production Node
IsScalarNode n ts rest = (s : ScalarText) × (n ≡ tree.scalar None s.kind s.text) × IsPlainLiteral s ts rest

-- literal = scalar | "[" literals "]" | "{" string ":" literal ... "}", whose keys differ, and in which so many
-- collections are nested at most (own)
unfoldable pub IsLiteral : ℕ → Production Node
IsLiteral zero n ts rest = IsScalarNode n ts rest
IsLiteral (suc depth) n ts rest =
    IsScalarNode n ts rest
    ⊎ ((ns : List Node) × (n ≡ tree.list None (items ns)) × AreListed (codes "[") (codes "]") (IsLiteral depth) ns ts rest)
    ⊎ ((es : List (List ℕ × Node)) × (n ≡ tree.map None (entries es)) × AreDistinct (map (λ e. e.0) es)
    × AreListed (codes "{") (codes "}") (IsField (IsLiteral depth)) es ts rest)

-- a path without "[" "]" is simple (own)
abbrev pub IsSimple : List PathStep → Type 0
IsSimple [] = Unit {0}
IsSimple (key k ∷ steps) = IsSimple steps
IsSimple (index n ∷ steps) = IsSimple steps
IsSimple (each ∷ steps) = ⊥

-- simple | "di" | "document_index" (own)
abbrev pub IsOperand : Production Operand
IsOperand (value_at steps) ts rest = IsSimple steps × IsPath steps ts rest
IsOperand document_index ts rest = HasSymbol (codes "di") ts rest ⊎ HasSymbol (codes "document_index") ts rest

-- "==", or "!=" (own)
abbrev pub comparison : Bool → List ℕ
comparison true = codes "=="
comparison false = codes "!="

-- cond = (simple | "di" | "document_index") ("==" | "!=") scalar | "has" "(" string ")" (own)
abbrev pub IsCondition : Production Condition
IsCondition (compares operand equal kind text) ts rest =
    (sign scalar : List Token) × IsOperand operand ts sign × HasSymbol (comparison equal) sign scalar ×
    IsPlainLiteral (record { kind = kind; text = text }) scalar rest
IsCondition (has k) ts rest = ts ≡ symbol (codes "has") ∷ symbol (codes "(") ∷ string k ∷ symbol (codes ")") ∷ rest

-- a form in parentheses (own)
abbrev pub InParentheses : {A : Type 0} → Production A → Production A
InParentheses = Between (codes "(") (codes ")")

-- stage = path | "select" "(" cond ")" (own)
abbrev pub IsStage : Production Stage
IsStage (path steps) ts rest = IsPath steps ts rest
IsStage (select c) ts rest = Preceded (codes "select") (InParentheses IsCondition) c ts rest

-- pipe = stage { "|" stage } (own)
abbrev pub IsPipe : Production (List Stage)
IsPipe = AreParted (codes "|") IsStage

-- left = path | "(" pipe ")" (own)
abbrev pub IsLeft : Production (List Stage)
IsLeft stages ts rest =
    ((steps : List PathStep) × (stages ≡ path steps ∷ []) × IsPath steps ts rest) ⊎ InParentheses IsPipe stages ts rest

-- the literals of an expression nest 64 collections at most (own)
unfoldable pub literal_depth : ℕ
literal_depth = 64

-- term = literal | path | "(" pipe ")" (own)
abbrev pub IsTerm : Production Term
IsTerm (literal n) ts rest = IsLiteral literal_depth n ts rest
IsTerm (found stages) ts rest = IsLeft stages ts rest

-- right = term { "+" term } (own)
abbrev pub IsRight : Production (List Term)
IsRight = AreParted (codes "+") IsTerm

-- how an operator is written (own)
abbrev pub operator_mark : Operator → List ℕ
operator_mark operator.Set = codes "="
operator_mark operator.Modify = codes "|="
operator_mark operator.Add = codes "+="

-- how the place of a comment is written (own)
abbrev pub place_word : CommentPlace → List ℕ
place_word place.Line = codes "line_comment"
place_word place.Head = codes "head_comment"

-- update = left ("=" | "|=" | "+=") right | "del" "(" pipe ")" | left ("line_comment" | "head_comment") "=" string (own)
abbrev pub IsUpdate : Production Update
IsUpdate (assign left op right) ts rest =
    (sign after : List Token) × IsLeft left ts sign × HasSymbol (operator_mark op) sign after × IsRight right after rest
IsUpdate (delete stages) ts rest = Preceded (codes "del") (InParentheses IsPipe) stages ts rest
IsUpdate (comment left p text) ts rest =
    (after : List Token) × IsLeft left ts after × (after ≡ symbol (place_word p) ∷ symbol (codes "=") ∷ string text ∷ rest)

-- program = pipe | update { "|" update }; no token is left (own)
abbrev pub IsProgram : Program → List Token → Type 0
IsProgram (read stages) ts = IsPipe stages ts []
IsProgram (updates us) ts = AreParted (codes "|") IsUpdate us ts []
