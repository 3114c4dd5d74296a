-- The tests by which the code judges the rules on extensions and algorithms: stepping stones of the proofs, no
-- definitions.
use Rattle.std.specs.Prelude.{ℕ, ◌&&◌, ◌||◌, not, nat_le, Bool, true, false, List, [], ◌∷◌, map, length, string_bytes}
use Rattle.std.specs.{List.list_all, List.list_any, Str.bytes_eq}
use Rattle.der.specs.ObjectIdentifier.{oid_content}
use Rattle.policy.specs.Kinds.{is_among}
use Rattle.policy.specs.declared.entries.{Algorithm.Algorithm, Extension.Extension, TsaPolicy.TsaPolicy}
use Rattle.tsp.specs.Request.{ExtensionValue}

abbrev pub lists_algorithm : List Algorithm → List ℕ → TsaPolicy → Bool
lists_algorithm algorithms identifier p =
    list_any (λ a. bytes_eq (oid_content a.oid) identifier
    && is_among (map string_bytes p.algorithms.items) (string_bytes a.name)) algorithms

abbrev pub knows_extension : List Extension → TsaPolicy → ExtensionValue → Bool
knows_extension known p e =
    list_any (λ x. bytes_eq (oid_content x.oid) (oid_content e.identifier)
    && (is_among (map string_bytes p.extensions.items) (string_bytes x.name)
    && nat_le (length e.value) x.max_length)) known

abbrev pub knows_extensions : List Extension → TsaPolicy → List ExtensionValue → Bool
knows_extensions known p es = list_all (knows_extension known p) es

-- none has the identifier, or one at most where none was seen
abbrev pub stands_once : List ℕ → Bool → List ExtensionValue → Bool
stands_once identifier seen [] = true
stands_once identifier seen (e ∷ es) =
    not (seen && bytes_eq (oid_content e.identifier) identifier)
    && stands_once identifier (seen || bytes_eq (oid_content e.identifier) identifier) es

-- each known identifier stands once at most
abbrev pub stand_once : List Extension → List ExtensionValue → Bool
stand_once known es = list_all (λ x. stands_once (oid_content x.oid) false es) known
