-- The entries of arrays, seen as their values.
use Rattle.std.proofs.Common.{◌≡◌, List, [], ◌∷◌, length, refl, arith}
use Rattle.std.proofs.lemmas.Simd.{map-map}
use Rattle.toml.specs.{View.items_view, declared.value.Value.Value}
use Rattle.policy.specs.Kinds.{count_of}

-- how many there are
pub count_of_view : (vs : List Value) → count_of (items_view vs) ≡ length vs
count_of_view [] = refl
count_of_view (v ∷ vs) = omega (arith, count_of_view vs)

-- what belongs to the values is what belongs to the elements
pub ruleset entry_values = (map-map, count_of_view)
