-- Object identifiers by their contents octets.
use Rattle.std.proofs.Common.{◌≡◌, ℕ, List, [], ◌∷◌, refl, sym, ap, ◌∙◌, subst, arith}
use Rattle.der.specs.ObjectIdentifier.{IsOid, ReadsAsOid, oid_content, subidentifiers_of, subidentifier_octets}
use Rattle.tsp.specs.Request.{sha256_identifier}

pub same_oid : (octets oid : List ℕ) → octets ≡ oid_content oid → subidentifiers_of (oid_content oid) ≡ oid
    → subidentifiers_of octets ≡ oid
same_oid octets oid same read = ap subidentifiers_of same ∙ read

pub content_is : (octets oid : List ℕ) → IsOid oid → octets ≡ oid_content oid
    → subidentifiers_of (oid_content oid) ≡ oid → ReadsAsOid octets
content_is octets oid proper same read =
    let is = same_oid octets oid same read in
    record { oid = subst IsOid (sym is) proper; same = ap oid_content is ∙ sym same }

pub sha256_is_oid : IsOid sha256_identifier
sha256_is_oid = record {
  some = omega arith;
  few = omega arith;
  small = (
    omega arith,
    (
      omega arith,
      (
        omega arith,
        (omega arith, (omega arith, (omega arith, (omega arith, (omega arith, tt))))),
      ),
    ),
  );
}

pub sha256_content : 96 ∷ 134 ∷ 72 ∷ 1 ∷ 101 ∷ 3 ∷ 4 ∷ 2 ∷ 1 ∷ [] ≡ oid_content sha256_identifier
unfolding subidentifier_octets
sha256_content = refl
