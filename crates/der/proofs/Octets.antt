-- Octets one after the other are octets.
use Rattle.std.proofs.Common.{ℕ, suc, ◌<◌, List, [], ◌∷◌, ◌++◌, get_or, take, drop, sym, subst}
use Rattle.std.proofs.lemmas.List.{take-append-drop}
use Rattle.der.specs.Node.{AreOctets}

pub AreOctets-append : (xs ys : List ℕ) → AreOctets xs → AreOctets ys → AreOctets (xs ++ ys)
AreOctets-append [] ys p q = q
AreOctets-append (x ∷ xs) ys p q = (p.0, AreOctets-append xs ys p.1 q)

-- the parts of octets are octets
pub AreOctets-parts : (xs ys : List ℕ) → AreOctets (xs ++ ys) → AreOctets xs × AreOctets ys
AreOctets-parts [] ys p = (tt, p)
AreOctets-parts (x ∷ xs) ys p = let parts = AreOctets-parts xs ys p.1 in ((p.0, parts.0), parts.1)

pub AreOctets-take : (k : ℕ) (xs : List ℕ) → AreOctets xs → AreOctets (take k xs)
AreOctets-take k xs p = (AreOctets-parts (take k xs) (drop k xs) (subst AreOctets (sym (take-append-drop k xs)) p)).0

-- each octet, by its place
pub AreOctets-at : (xs : List ℕ) → ((i : ℕ) → get_or xs i 0 < 256) → AreOctets xs
AreOctets-at [] each = tt
AreOctets-at (x ∷ xs) each = (each 0, AreOctets-at xs (λ i. each (suc i)))
