-- Fronts of texts that are joined of two.
use Rattle.std.proofs.Common.{◌≡◌, ◌∙◌, ℕ, ◌+◌, List, ◌++◌, length, take, drop, refl, ap}
use Rattle.std.proofs.lemmas.List.{take_at, drop_at}
use lib.Seq.{take-add}

-- a front of a text that is joined of two, longer than the first
pub front_of_joined : (a b : List ℕ) (n : ℕ) → take (length a + n) (a ++ b) ≡ a ++ take n b
front_of_joined a b n =
    take-add (length a) n (a ++ b) ∙ ap (λ l. l ++ take n (drop (length a) (a ++ b))) (take_at a b (length a) refl)
    ∙ ap (λ l. a ++ take n l) (drop_at a b (length a) refl)
