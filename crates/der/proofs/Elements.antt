-- An element at the front of octets: where it ends, and that there is one at most.
use Rattle.std.proofs.Common.{◌≡◌, ℕ, ◌-◌, ◌%◌, ◌<◌, ◌^◌, ◌==◌, Bool, true, false, not, List, ◌++◌, length, take, drop}
use Rattle.std.proofs.Common.{Ok, Err, refl, sym, ap, ◌∙◌, arith}
use Rattle.std.proofs.lemmas.{Bool.eq-eqb, Bool.ne_eqb, Bool.eqb-true, List.length-append}
use Rattle.std.proofs.Math.Seq.{take-append_seam, drop-append_seam}
use Rattle.der.specs.{Node.element, FirstFault.Piece, FirstFault.element_at, FirstFault.expected_at}
use Rattle.der.specs.declared.fault.DerFault.{DerFault, TheVariants.WrongKind}
use Rattle.der.proofs.ReadingSteps.{ok_is, err_is_not}
use Rattle.der.proofs.ReadingElements.{piece, element_at-element}

-- the front that is left where so much is behind it
pub front_taken : (octets whole rest : List ℕ) → octets ≡ whole ++ rest
    → take (length octets - length rest) octets ≡ whole
front_taken octets whole rest e =
    let count : length octets - length rest ≡ length whole = omega (arith, ap length e, length-append whole rest) in
    rw (count, e) (take-append_seam whole rest)

-- what stands behind a front
pub rest_dropped : (octets whole rest : List ℕ) → octets ≡ whole ++ rest → drop (length whole) octets ≡ rest
rest_dropped octets whole rest e = rw e (drop-append_seam whole rest)

-- octets that begin with an element are read as it
pub element_found : (octets : List ℕ) (found : Piece) (identifier : ℕ) (contents rest : List ℕ)
    → element_at octets ≡ Ok found → identifier % 32 < 31 → length contents < 2 ^ 24
    → octets ≡ element identifier contents ++ rest → found ≡ piece identifier contents rest
element_found octets found identifier contents rest read low short e =
    ok_is found (piece identifier contents rest)
    (sym read ∙ (ap element_at e ∙ element_at-element identifier contents rest low short))

-- and are not refused
pub element_not_refused : (octets : List ℕ) (fault : DerFault) (identifier : ℕ) (contents rest : List ℕ)
    → element_at octets ≡ Err fault → identifier % 32 < 31 → length contents < 2 ^ 24
    → octets ≡ element identifier contents ++ rest → ⊥
element_not_refused octets fault identifier contents rest read low short e =
    err_is_not fault (piece identifier contents rest)
    (sym read ∙ (ap element_at e ∙ element_at-element identifier contents rest low short))

pub one_beginning : (i j : ℕ) (contents others x y : List ℕ) → i % 32 < 31 → j % 32 < 31 → length contents < 2 ^ 24
    → length others < 2 ^ 24 → element i contents ++ x ≡ element j others ++ y → (i ≡ j) × (contents ≡ others) × (x ≡ y)
one_beginning i j contents others x y p q short small e =
    let same = element_found (element i contents ++ x) (piece i contents x) j others y
    (element_at-element i contents x p short) q small e in
    (ap (λ p. p.identifier) same, ap (λ p. p.contents) same, ap (λ p. p.rest) same)

-- the element at the front is refused, and so is the one that is expected
pub expected_fails : (tag : ℕ) (octets : List ℕ) (fault : DerFault) → element_at octets ≡ Err fault
    → expected_at tag octets ≡ Err fault
unfolding expected_at
expected_fails tag octets fault e = rw e refl

-- it is under another tag
pub expected_wrong : (tag : ℕ) (octets : List ℕ) (found : Piece) → element_at octets ≡ Ok found
    → (found.identifier ≡ tag → ⊥) → expected_at tag octets ≡ Err WrongKind
unfolding expected_at
expected_wrong tag octets found e other =
    let test : (found.identifier == tag) ≡ false = ne_eqb found.identifier tag other in rw (e, test) refl

-- an element under another tag stands at the front
pub expected_other : (tag : ℕ) (octets whole : List ℕ) (identifier : ℕ) (contents rest : List ℕ)
    → octets ≡ whole ++ rest → whole ≡ element identifier contents → identifier % 32 < 31 → length contents < 2 ^ 24
    → (identifier ≡ tag → ⊥) → expected_at tag octets ≡ Err WrongKind
expected_other tag octets whole identifier contents rest front is low short other =
    expected_wrong tag octets (piece identifier contents rest)
    (ap element_at (front ∙ ap (λ front. front ++ rest) is) ∙ element_at-element identifier contents rest low short)
    other

pub not_equal : (a b : ℕ) → true ≡ not (a == b) → a ≡ b → ⊥
not_equal a b e same = let test : (a == b) ≡ true = eq-eqb a b same in absurd cc

not_false : (b : Bool) → false ≡ not b → b ≡ true
not_false true e = refl
not_false false e = absurd cc

pub equal_where : (a b : ℕ) → false ≡ not (a == b) → a ≡ b
equal_where a b e = let test : (a == b) ≡ true = not_false (a == b) e in eqb-true a b test
