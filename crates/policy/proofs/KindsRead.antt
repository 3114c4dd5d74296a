-- The kinds of keys.
use Rattle.std.proofs.Common.{◌≡◌, ℕ, List, Some, None, Result, Ok, Err, refl, MatchResult}
use Rattle.std.specs.Result.{result_ok}
use Rattle.toml.specs.Data.{Data, as_str}
use Rattle.der.{specs.ObjectIdentifier.IsOid, specs.ObjectIdentifier.oid_text, proofs.OidOfTexts.oid_of_text-written}
use Rattle.hex.specs.{Hex.decode_sized, declared.error.FromHexError.FromHexError}
use Rattle.policy.specs.Kinds.{hash_in, oid_in}
use Rattle.policy.specs.declared.{fault.PolicyFault.TheVariants.BadValue, field.Field.Field}

-- a text that isn't 64 hexadecimal digits
pub hash_in-refused : (field : Field) (d : Data) (text : List ℕ) → Some text ≡ as_str d
    → result_ok (decode_sized text 32) ≡ None → Err (BadValue field) ≡ hash_in field d
unfolding hash_in
hash_in-refused field d text is none = rw (← is, none) refl

pub refused-decode : {Y : Type 0} (decoded : Result (List ℕ) FromHexError) (fault : FromHexError) (P : List ℕ → Type 0)
    (r : Result Y FromHexError) (y : Y) → r ≡ Err fault
    → MatchResult decoded (λ bytes. (r ≡ Ok y) × P bytes) (λ e. r ≡ Err e) → result_ok decoded ≡ None
refused-decode (Ok bytes) fault P r y is h = cc
refused-decode (Err e) fault P r y is h = refl

-- an object identifier's text
pub oid_in-read : (field : Field) (d : Data) (text oid : List ℕ) → Some text ≡ as_str d → IsOid oid
    → text ≡ oid_text oid → oid_in field d ≡ Ok oid
unfolding oid_in
oid_in-read field d text oid is h written = rw (← is, written, oid_of_text-written oid h) refl
