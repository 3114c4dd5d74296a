-- The definitions, computed on rows from elsewhere.
use Rattle.std.proofs.Common.{◌≡◌, [], ◌∷◌, ◌++◌, codes, refl}
use Rattle.der.specs.ObjectIdentifier.{oid_text, decimal}
use Rattle.console.specs.{Hexadecimal.IsHexadecimal, Hexadecimal.line, Known.algorithm}
use Rattle.policy.specs.declared.hash_algorithm.HashAlgorithm.TheVariants.{Sha1, Sha224, Sha256, Sha384, Sha512}

-- no digit spells no octet
pub no_octets : IsHexadecimal (9 ∷ 10 ∷ 13 ∷ 32 ∷ []) []
no_octets = refl

-- blanks also between the two digits of an octet, and letters of either case
pub three_octets : IsHexadecimal (codes "3 0fA" ++ (13 ∷ 10 ∷ codes "0") ++ (9 ∷ codes "9")) (48 ∷ 250 ∷ 9 ∷ [])
three_octets = refl

pub line_of_octets : line (48 ∷ 250 ∷ 9 ∷ []) ≡ codes "30fa09" ++ (10 ∷ [])
line_of_octets = refl

-- RFC 3370 2.1, RFC 5754 2.1 to 2.4
pub text_of_sha_1 : oid_text (algorithm Sha1).identifier ≡ codes "1.3.14.3.2.26"
unfolding decimal
text_of_sha_1 = refl

pub text_of_sha_256 : oid_text (algorithm Sha256).identifier ≡ codes "2.16.840.1.101.3.4.2.1"
unfolding decimal
text_of_sha_256 = refl

pub text_of_sha_384 : oid_text (algorithm Sha384).identifier ≡ codes "2.16.840.1.101.3.4.2.2"
unfolding decimal
text_of_sha_384 = refl

pub text_of_sha_512 : oid_text (algorithm Sha512).identifier ≡ codes "2.16.840.1.101.3.4.2.3"
unfolding decimal
text_of_sha_512 = refl

pub text_of_sha_224 : oid_text (algorithm Sha224).identifier ≡ codes "2.16.840.1.101.3.4.2.4"
unfolding decimal
text_of_sha_224 = refl
