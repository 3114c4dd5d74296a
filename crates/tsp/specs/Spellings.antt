-- The octets that spell a request, part by part: which of them are free, and that nothing else is.
use Rattle.std.specs.Prelude.{◌≡◌, ◌⊎◌, ℕ, Bool, true, false, List, [], ◌∷◌, ◌++◌}
use Rattle.std.specs.List.{AllByRecursion}
use Rattle.der.specs.{Node.element, Node.encoding, Node.encodings, Tree.nodes}
use Rattle.tsp.specs.Grammar.{integer, object_identifier, octet_string, optional}
use Rattle.tsp.specs.Request.{ExtensionValue, RequestValue, message_imprint}

-- certReq and each critical are TRUE
pub record HasNoFalse (r : RequestValue) : Type 0 where
  pub cert_req : r.cert_req ≡ true
  pub critical : AllByRecursion (λ extension. extension.critical ≡ true) r.extensions

-- the octets of a BOOLEAN DEFAULT FALSE: 01 01 FF for TRUE, and for FALSE none or 01 01 00
abbrev pub AreFlag : Bool → List ℕ → Type 0
AreFlag true octets = octets ≡ 0x01 ∷ 0x01 ∷ 0xff ∷ []
AreFlag false octets = (octets ≡ []) ⊎ (octets ≡ 0x01 ∷ 0x01 ∷ 0x00 ∷ [])

-- those of an Extension, of which the flag's alone are free
pub record AreExtension (octets : List ℕ) (e : ExtensionValue) : Type 0 where
  pub flag : List ℕ
  pub is_flag : AreFlag e.critical flag
  pub same : octets
      ≡ element 0x30 (encoding (object_identifier e.identifier) ++ (flag ++ encoding (octet_string e.value)))

-- those of Extension after Extension
abbrev pub AreExtensionList : List ℕ → List ExtensionValue → Type 0
AreExtensionList octets [] = octets ≡ []
AreExtensionList octets (e ∷ es) =
    (first : List ℕ) × (others : List ℕ) × (octets ≡ first ++ others)
    × AreExtension first e × AreExtensionList others es

-- those of Extensions under [0]; none where there is no extension
abbrev pub AreExtensions : List ℕ → List ExtensionValue → Type 0
AreExtensions octets [] = octets ≡ []
AreExtensions octets (e ∷ es) =
    (contents : List ℕ) × (octets ≡ element 0xa0 contents) × AreExtensionList contents (e ∷ es)

-- those of a TimeStampReq, of which those of the flags alone are free
pub record AreRequest (octets : List ℕ) (r : RequestValue) : Type 0 where
  pub flag : List ℕ
  pub is_flag : AreFlag r.cert_req flag
  pub extensions : List ℕ
  pub are_extensions : AreExtensions extensions r.extensions
  pub same : octets ≡ element 0x30 (encoding (integer r.version)
      ++ (encoding (message_imprint r.imprint)
      ++ (encodings (nodes (optional object_identifier r.policy))
      ++ (encodings (nodes (optional integer r.nonce))
      ++ (flag
      ++ extensions)))))
