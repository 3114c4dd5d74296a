-- The octets of a reply that grants.
use Rattle.std.proofs.Common.{◌≡◌, ℕ, List, [], ◌∷◌, ◌++◌, length, pos, refl, sym, ap, ◌∙◌}
use Rattle.der.specs.{Node.length_octets, Node.element, Node.encoding, Number.number_content}
use Rattle.tsp.specs.{Grammar.sequence, Grammar.integer, Granted.granted_octets}

-- status 0
status : encoding (sequence (integer (pos 0) ∷ [])) ≡ 48 ∷ 3 ∷ 2 ∷ 1 ∷ 0 ∷ []
unfolding length_octets number_content
status = refl

pub granted_text : (token : List ℕ) (count : ℕ) → count ≡ length (48 ∷ 3 ∷ 2 ∷ 1 ∷ 0 ∷ token)
    → 48 ∷ (length_octets count ++ (48 ∷ 3 ∷ 2 ∷ 1 ∷ 0 ∷ token)) ≡ granted_octets token
granted_text token count e =
    ap (λ n. 48 ∷ (length_octets n ++ (48 ∷ 3 ∷ 2 ∷ 1 ∷ 0 ∷ token))) e
    ∙ ap (λ octets. element 48 (octets ++ token)) (sym status)
