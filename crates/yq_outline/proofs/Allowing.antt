-- What a place in an outline allows.
use Rattle.std.proofs.Common.{◌≡◌, ℕ, ◌<◌, None}
use Rattle.yq_outline.specs.Outline.{LineMark, Bare, Key, Dash, level, Outline, end, row, IsOpen, IsEven}
use Rattle.yq_outline.specs.Places.{Context, here, below, beside}

-- a key or a dash
abbrev pub IsEntry : LineMark → Type 0
IsEntry Bare = ⊥
IsEntry (Key k) = Unit {0}
IsEntry Dash = Unit {0}

-- what the tree makes of its first line
abbrev pub IsCollection : Outline → Type 0
IsCollection end = Unit {0}
IsCollection (row l under a) = IsEntry l.mark

-- a place in an outline of level n allows lines at level m
abbrev pub Allows : ℕ → Context → ℕ → Type 0
Allows n here m = n ≡ m
Allows n (below l p after) m =
    (level l ≡ n) × (l.head ≡ None) × IsEntry l.mark × ((k : ℕ) × (n < k) × Allows k p m) × IsEven n after
Allows n (beside l under p) m =
    (level l ≡ n) × IsOpen l.head under × IsEntry l.mark × ((k : ℕ) × (n < k) × IsEven k under) × Allows n p m
