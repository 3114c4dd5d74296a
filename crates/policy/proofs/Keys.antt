-- The keys of a table.
use Rattle.std.proofs.Common.{◌≡◌, ℕ, List, [], ◌∷◌, map, refl, ap, String, Global, string_bytes, ◌&&◌}
use Rattle.std.specs.{List.list_all, Map.keys_of}
use Rattle.toml.specs.{View.members_view, declared.value.Value.Value}
use Rattle.policy.specs.Kinds.{is_among, has_only}

pub has_only-keys : (known : List (List ℕ)) (es : List (String Global × Value))
    → list_all (is_among known) (map string_bytes (keys_of es)) ≡ has_only known (members_view es)
has_only-keys known [] = refl
has_only-keys known (e ∷ es) = ap (λ b. is_among known (string_bytes e.0) && b) (has_only-keys known es)
