-- Reading the value that octets are, by its steps.
use Rattle.std.proofs.Common.{◌≡◌, ℕ, ◌<◌, ◌==◌, true, false, List, length, Result, Ok, Err, refl, sym, ap, ◌∙◌, arith}
use Rattle.std.proofs.lemmas.Bool.{eq-eqb, ne_eqb}
use Rattle.der.specs.Node.{Node, encoding, IsLawful}
use Rattle.der.specs.FirstFault.{IsFaultOf, node_at, tree_of}
use Rattle.der.specs.declared.fault.DerFault.{DerFault, TheVariants.Trailing, TheVariants.BadValue, TheVariants.Memory}
use Rattle.der.specs.declared.fault.DerFault.TheVariants.{Truncated, LengthForm, HighTag, WrongKind, TooDeep, TooLong}
use Rattle.der.proofs.{ReadingSteps.err_is_not, ReadingRuns.IsFaultOf-along, ReadingNodes.tree_of-encoding}

-- nothing follows the value
pub tree_of_alone : (octets : List ℕ) (n : Node) (rest : List ℕ) → node_at 32 octets ≡ Ok (n, rest) → length rest ≡ 0
    → tree_of octets ≡ Ok n
unfolding tree_of
tree_of_alone octets n rest found none =
    let test : (length rest == 0) ≡ true = eq-eqb (length rest) 0 none in rw (found, test) refl

-- something follows the value
pub tree_of_more : (octets : List ℕ) (n : Node) (rest : List ℕ) → node_at 32 octets ≡ Ok (n, rest) → 0 < length rest
    → tree_of octets ≡ Err Trailing
unfolding tree_of
tree_of_more octets n rest found some =
    let test : (length rest == 0) ≡ false = ne_eqb (length rest) 0 (λ e. omega arith) in rw (found, test) refl

-- no value is read
pub tree_of_no_node : (octets : List ℕ) (e : DerFault) → node_at 32 octets ≡ Err e → tree_of octets ≡ Err e
unfolding tree_of
tree_of_no_node octets e found = rw found refl

pub tree_of_fails : (octets : List ℕ) (fault : DerFault) → IsFaultOf fault (node_at 32 octets)
    → IsFaultOf fault (tree_of octets)
tree_of_fails octets fault fails =
    IsFaultOf-along fault (node_at 32 octets) (tree_of octets) (tree_of_no_node octets) fails

not_found : (fault : DerFault) (n : Node) (r : Result Node DerFault) → IsFaultOf fault r → r ≡ Ok n → fault ≡ Memory
not_found Truncated n r fails found = absurd (err_is_not Truncated n (sym fails ∙ found))
not_found LengthForm n r fails found = absurd (err_is_not LengthForm n (sym fails ∙ found))
not_found HighTag n r fails found = absurd (err_is_not HighTag n (sym fails ∙ found))
not_found WrongKind n r fails found = absurd (err_is_not WrongKind n (sym fails ∙ found))
not_found TooDeep n r fails found = absurd (err_is_not TooDeep n (sym fails ∙ found))
not_found TooLong n r fails found = absurd (err_is_not TooLong n (sym fails ∙ found))
not_found Trailing n r fails found = absurd (err_is_not Trailing n (sym fails ∙ found))
not_found BadValue n r fails found = absurd (err_is_not BadValue n (sym fails ∙ found))
not_found Memory n r fails found = refl

-- where a lawful value's encoding is refused, memory ran out
pub refused_lawful : (octets : List ℕ) (fault : DerFault) (n : Node) → IsFaultOf fault (tree_of octets) → IsLawful n
    → octets ≡ encoding n → fault ≡ Memory
refused_lawful octets fault n fails lawful same =
    not_found fault n (tree_of octets) fails (ap tree_of same ∙ tree_of-encoding n lawful)

-- octets that are refused are no lawful value's encoding
pub refused : (octets : List ℕ) (fault : DerFault) → tree_of octets ≡ Err fault → (n : Node) → IsLawful n
    → octets ≡ encoding n → ⊥
refused octets fault fails n lawful same =
    err_is_not fault n (sym fails ∙ (ap tree_of same ∙ tree_of-encoding n lawful))
