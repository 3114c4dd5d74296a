-- What the digits at the front of a text are read as.
use Rattle.std.specs.Prelude.{ℕ, zero, suc, ◌+◌, ◌-◌, ◌*◌, ◌&&◌, List, [], ◌∷◌, Option, Some, None, option_and_then}
use Rattle.std.specs.{Prelude.if◌then◌else◌, Char.is_ascii_digit}

infixl 10 ◌>>=◌
abbrev pub ◌>>=◌ : {A B : Type 0} → Option A → (A → Option B) → Option B
o >>= f = option_and_then f o

-- the number of the first two digits, and the octets behind them
unfoldable pub pair_at : List ℕ → Option (ℕ × List ℕ)
pair_at [] = None
pair_at (tens ∷ []) = None
pair_at (tens ∷ ones ∷ rest) =
    if is_ascii_digit tens && is_ascii_digit ones then Some ((tens - 0x30) * 10 + (ones - 0x30), rest) else None

-- so many such numbers, and the octets behind them
unfoldable pub pairs_at : ℕ → List ℕ → Option (List ℕ × List ℕ)
pairs_at zero octets = Some ([], octets)
pairs_at (suc count) octets = do
  first ← pair_at octets
  others ← pairs_at count first.1
  Some (first.0 ∷ others.0, others.1)
