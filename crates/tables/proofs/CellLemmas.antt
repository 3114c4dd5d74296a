-- Rows that are equal cell by cell.
use Rattle.tables.proofs.Words.{Int, List, Row, Text, Value, ap, ap₂, bound_value, ℕ, ℤ, ◌∷◌, ◌≡◌}

pub int_more : {m n : ℤ} {a b : Row} → m ≡ n → a ≡ b → Int m ∷ a ≡ Int n ∷ b
int_more p q = ap₂ (λ z r. Int z ∷ r) p q

pub text_more : {s t : List ℕ} {a b : Row} → s ≡ t → a ≡ b → Text s ∷ a ≡ Text t ∷ b
text_more p q = ap₂ (λ z r. Text z ∷ r) p q

-- a value that a conversion gave
pub value_more : (v : Value) (z : ℤ) {a b : Row} → v ≡ Int z → a ≡ b → bound_value v ∷ a ≡ Int z ∷ b
value_more v z p q = ap₂ (λ x r. x ∷ r) (ap bound_value p) q
