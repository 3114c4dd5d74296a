-- The five algorithms, as values and as the contents of their object identifiers.
use Rattle.std.proofs.Common.{◌≡◌, ℕ, zero, suc, ◌<◌, Bool, true, false, Option, Some, None, is_some, List, [], ◌∷◌}
use Rattle.std.proofs.Common.{get_or, refl, sym, ap, ◌∙◌, arith}
use Rattle.std.specs.Prelude.{Contains, slice_index_or, ◌↔◌, IsTrue, IsNone, IfSome}
use Rattle.der.specs.ObjectIdentifier.{oid_content, subidentifier_octets}
use Rattle.tsp.specs.Rules.{AlgorithmValue}
use Rattle.policy.specs.declared.hash_algorithm.HashAlgorithm.TheVariants.{Sha1, Sha224, Sha256, Sha384, Sha512}
use Rattle.policy.specs.{HashAlgorithms.value_of, declared.hash_algorithm.HashAlgorithm.HashAlgorithm}
use Rattle.console.specs.Known.{algorithm, five_algorithms}

pub contains_value : (a : HashAlgorithm) → Contains five_algorithms (algorithm a)
contains_value Sha1 = (0, omega arith, refl)
contains_value Sha224 = (1, omega arith, refl)
contains_value Sha256 = (2, omega arith, refl)
contains_value Sha384 = (3, omega arith, refl)
contains_value Sha512 = (4, omega arith, refl)

value_at : (k : ℕ) (v : AlgorithmValue) → k < 5 → slice_index_or five_algorithms k v ≡ v → (a : HashAlgorithm)
    × (algorithm a ≡ v)
value_at zero v h e = (Sha1, e)
value_at (suc zero) v h e = (Sha224, e)
value_at (suc (suc zero)) v h e = (Sha256, e)
value_at (suc (suc (suc zero))) v h e = (Sha384, e)
value_at (suc (suc (suc (suc zero)))) v h e = (Sha512, e)
value_at (suc (suc (suc (suc (suc k))))) v h e = absurd (omega arith)

pub value_contained : (v : AlgorithmValue) → Contains five_algorithms v → (a : HashAlgorithm) × (algorithm a ≡ v)
value_contained v h = value_at h.0 v (omega (arith, h.1)) h.2

-- the length that belongs to the contents of one of the identifiers
abbrev length_in : List ℕ → ℕ
length_in content = get_or (20 ∷ 32 ∷ 48 ∷ 64 ∷ 28 ∷ []) (get_or content 8 0) 0

length_in-content : (a : HashAlgorithm) → length_in (oid_content (algorithm a).identifier) ≡ (algorithm a).hash_length
unfolding subidentifier_octets
length_in-content Sha1 = refl
length_in-content _ = refl

-- the contents of an identifier tell the length
pub same_length : (a b : HashAlgorithm) → oid_content (algorithm a).identifier ≡ oid_content (algorithm b).identifier
    → (algorithm a).hash_length ≡ (algorithm b).hash_length
same_length a b e = sym (length_in-content a) ∙ ap length_in e ∙ length_in-content b

-- a length that one algorithm with these contents has is the one of each
pub each_length : (content : List ℕ) (n : ℕ) (a : HashAlgorithm) → content ≡ oid_content (algorithm a).identifier
    → n ≡ (algorithm a).hash_length
    → (v : AlgorithmValue) → Contains five_algorithms v → content ≡ oid_content v.identifier → n ≡ v.hash_length
each_length content n a same len v h e =
    let found = value_contained v h in
    let v_is = found.1 in
    let again : oid_content (algorithm a).identifier ≡ oid_content (algorithm found.0).identifier =
    sym same ∙ e ∙ ap (λ (x : AlgorithmValue). oid_content x.identifier) (sym v_is) in
    len ∙ same_length a found.0 again ∙ ap (λ (x : AlgorithmValue). x.hash_length) v_is

-- where none has these contents, no value is contained with them
pub none_contained : (content : List ℕ) → ((a : HashAlgorithm) → content ≡ oid_content (algorithm a).identifier → ⊥)
    → (v : AlgorithmValue) → Contains five_algorithms v → content ≡ oid_content v.identifier → ⊥
none_contained content none v h e =
    let found = value_contained v h in
    none found.0 (e ∙ ap (λ (x : AlgorithmValue). oid_content x.identifier) (sym found.1))

-- an algorithm is known by these contents
abbrev pub IsKnownBy : List ℕ → Type 0
IsKnownBy content = (a : AlgorithmValue) × Contains five_algorithms a × (content ≡ oid_content a.identifier)

pub known_tells : (content : List ℕ) (found : Option HashAlgorithm) (answer : Bool) → answer ≡ is_some found
    → IfSome found (λ a. content ≡ oid_content (value_of a).oid)
    → (IsNone found → (a : HashAlgorithm) → content ≡ oid_content (value_of a).oid → ⊥)
    → IsTrue answer ↔ IsKnownBy content
known_tells content (Some a) answer e same none = (λ _. (algorithm a, contains_value a, same), λ _. e)
known_tells content None answer e same none =
    (λ t. let bad : true ≡ false = sym t ∙ e in cc bad, λ w. absurd (none_contained content (none refl) w.0 w.1 w.2))
