-- Reading values one after the other, step by step.
use Rattle.std.proofs.Common.{◌≡◌, ℕ, zero, suc, ◌-◌, ◌<◌, ◌==◌, true, false, List, [], ◌∷◌, ◌++◌, length, Result, Ok}
use Rattle.std.proofs.Common.{Err, refl, sym, ap, ◌∙◌, arith}
use Rattle.der.specs.Node.{Node, primitive, constructed, Nodes, no_nodes, node, bit_six}
use Rattle.der.specs.Tree.{nodes}
use Rattle.der.specs.FirstFault.{◌>>=◌, IsFaultOf, Piece, element_at, nodes_with, node_of, node_at}
use Rattle.der.specs.declared.fault.DerFault.{DerFault, TheVariants.Trailing, TheVariants.BadValue, TheVariants.Memory}
use Rattle.der.specs.declared.fault.DerFault.TheVariants.{Truncated, LengthForm, HighTag, WrongKind, TooDeep, TooLong}

abbrev Reader : Type 0
Reader = List ℕ → Result (Node × List ℕ) DerFault

-- values that were found, and those that follow them
abbrev pub followed : List Node → Nodes → Nodes
followed [] others = others
followed (first ∷ more) others = node first (followed more others)

-- what is read in all, where these values were found and the rest is read so
abbrev pub after_found : List Node → Result Nodes DerFault → Result Nodes DerFault
after_found found (Ok others) = Ok (followed found others)
after_found found (Err fault) = Err fault

pub followed-none : (found : List Node) → followed found no_nodes ≡ nodes found
followed-none [] = refl
followed-none (first ∷ more) = ap (node first) (followed-none more)

followed-push : (found : List Node) (n : Node) (others : Nodes)
    → followed (found ++ n ∷ []) others ≡ followed found (node n others)
followed-push [] n others = refl
followed-push (first ∷ more) n others = ap (node first) (followed-push more n others)

pub after_found-nothing : (r : Result Nodes DerFault) → after_found [] r ≡ r
after_found-nothing (Ok others) = refl
after_found-nothing (Err fault) = refl

after_found-push : (found : List Node) (n : Node) (r : Result Nodes DerFault)
    → after_found found (r >>= λ others. Ok (node n others)) ≡ after_found (found ++ n ∷ []) r
after_found-push found n (Ok others) = ap Ok (sym (followed-push found n others))
after_found-push found n (Err fault) = refl

pub nodes_with_step : (one : Reader) (count : ℕ) (octets : List ℕ) (n : Node) (rest : List ℕ) → 0 < length octets
    → one octets ≡ Ok (n, rest) → nodes_with one (suc count) octets
    ≡ (nodes_with one count rest >>= λ others. Ok (node n others))
unfolding nodes_with
nodes_with_step one count [] n rest some first = absurd (omega arith)
nodes_with_step one count (octet ∷ octets) n rest some first = rw first refl

-- one more value
pub nodes_with_more : (one : Reader) (found : List Node) (count : ℕ) (octets : List ℕ) (n : Node) (rest : List ℕ)
    → 0 < count → 0 < length octets → one octets ≡ Ok (n, rest)
    → after_found found (nodes_with one count octets) ≡ after_found (found ++ n ∷ []) (nodes_with one (count - 1) rest)
nodes_with_more one found zero octets n rest room some first = absurd (omega arith)
nodes_with_more one found (suc count) octets n rest room some first =
    let less : suc count - 1 ≡ count = omega arith in
    rw less (ap (after_found found) (nodes_with_step one count octets n rest some first)
    ∙ after_found-push found n (nodes_with one count rest))

-- no more octets
pub nodes_with_end : (one : Reader) (found : List Node) (count : ℕ) (octets : List ℕ) → length octets ≡ 0
    → after_found found (nodes_with one count octets) ≡ Ok (nodes found)
unfolding nodes_with
nodes_with_end one found zero [] none = ap Ok (followed-none found)
nodes_with_end one found (suc count) [] none = ap Ok (followed-none found)
nodes_with_end one found count (octet ∷ octets) none = absurd (omega arith)

-- a fault that one reading has, and another too
pub IsFaultOf-along : {A B : Type 0} (fault : DerFault) (r : Result A DerFault) (s : Result B DerFault)
    → ((e : DerFault) → r ≡ Err e → s ≡ Err e) → IsFaultOf fault r → IsFaultOf fault s
IsFaultOf-along Truncated r s along fails = along Truncated fails
IsFaultOf-along LengthForm r s along fails = along LengthForm fails
IsFaultOf-along HighTag r s along fails = along HighTag fails
IsFaultOf-along WrongKind r s along fails = along WrongKind fails
IsFaultOf-along TooDeep r s along fails = along TooDeep fails
IsFaultOf-along TooLong r s along fails = along TooLong fails
IsFaultOf-along Trailing r s along fails = along Trailing fails
IsFaultOf-along BadValue r s along fails = along BadValue fails
IsFaultOf-along Memory r s along fails = tt

one_fails : (one : Reader) (found : List Node) (count : ℕ) (octets : List ℕ) (e : DerFault) → 0 < count
    → 0 < length octets → one octets ≡ Err e → after_found found (nodes_with one count octets) ≡ Err e
unfolding nodes_with
one_fails one found zero octets e room some first = absurd (omega arith)
one_fails one found count [] e room some first = absurd (omega arith)
one_fails one found (suc count) (octet ∷ octets) e room some first = rw first refl

-- the fault of the next value
pub nodes_with_fails : (one : Reader) (found : List Node) (count : ℕ) (octets : List ℕ) (fault : DerFault) → 0 < count
    → 0 < length octets → IsFaultOf fault (one octets)
    → IsFaultOf fault (after_found found (nodes_with one count octets))
nodes_with_fails one found count octets fault room some fails =
    IsFaultOf-along fault (one octets) (after_found found (nodes_with one count octets))
    (λ e first. one_fails one found count octets e room some first) fails

-- no level is left
pub node_at_none : (levels : ℕ) (octets : List ℕ) → levels ≡ 0 → node_at levels octets ≡ Err TooDeep
unfolding node_at
node_at_none zero octets none = refl
node_at_none (suc levels) octets none = absurd (omega arith)

node_at_step : (levels : ℕ) (octets : List ℕ) → 0 < levels
    → node_at levels octets ≡ (element_at octets >>= node_of (node_at (levels - 1)))
unfolding node_at
node_at_step zero octets some = absurd (omega arith)
node_at_step (suc levels) octets some = let less : suc levels - 1 ≡ levels = omega arith in rw less refl

-- a fault is one
IsFaultOf-is : {A : Type 0} (fault : DerFault) (r : Result A DerFault) → r ≡ Err fault → IsFaultOf fault r
IsFaultOf-is Truncated r e = e
IsFaultOf-is LengthForm r e = e
IsFaultOf-is HighTag r e = e
IsFaultOf-is WrongKind r e = e
IsFaultOf-is TooDeep r e = e
IsFaultOf-is TooLong r e = e
IsFaultOf-is Trailing r e = e
IsFaultOf-is BadValue r e = e
IsFaultOf-is Memory r e = tt

-- the value's own fault
pub node_at_refused : (levels : ℕ) (octets : List ℕ) (fault : DerFault) → 0 < levels → element_at octets ≡ Err fault
    → node_at levels octets ≡ Err fault
node_at_refused levels octets fault some first =
    node_at_step levels octets some ∙ ap (λ found. found >>= node_of (node_at (levels - 1))) first

pub node_at_fails : (levels : ℕ) (octets : List ℕ) (fault : DerFault) → 0 < levels → element_at octets ≡ Err fault
    → IsFaultOf fault (node_at levels octets)
node_at_fails levels octets fault some first =
    IsFaultOf-is fault (node_at levels octets) (node_at_refused levels octets fault some first)

node_of_fails : (one : Reader) (found : Piece) (e : DerFault) → (bit_six found.identifier == 1) ≡ true
    → nodes_with one (length found.contents) found.contents ≡ Err e → node_of one found ≡ Err e
unfolding node_of
node_of_fails one found e bit inner = rw (bit, inner) refl

node_of_constructed : (one : Reader) (found : Piece) (ns : Nodes) → (bit_six found.identifier == 1) ≡ true
    → nodes_with one (length found.contents) found.contents ≡ Ok ns
    → node_of one found ≡ Ok (constructed found.identifier ns, found.rest)
unfolding node_of
node_of_constructed one found ns bit inner = rw (bit, inner) refl

node_of_primitive : (one : Reader) (found : Piece) → (bit_six found.identifier == 1) ≡ false
    → node_of one found ≡ Ok (primitive found.identifier found.contents, found.rest)
unfolding node_of
node_of_primitive one found bit = rw bit refl

at_piece : (levels : ℕ) (octets : List ℕ) (found : Piece) → 0 < levels → element_at octets ≡ Ok found
    → node_at levels octets ≡ node_of (node_at (levels - 1)) found
at_piece levels octets found some first = node_at_step levels octets some
    ∙ ap (λ read. read >>= node_of (node_at (levels - 1))) first

-- a fault of the values inside
pub node_at_inner_refused : (levels : ℕ) (octets : List ℕ) (found : Piece) (fault : DerFault) → 0 < levels
    → element_at octets ≡ Ok found → (bit_six found.identifier == 1) ≡ true
    → nodes_with (node_at (levels - 1)) (length found.contents) found.contents ≡ Err fault
    → node_at levels octets ≡ Err fault
node_at_inner_refused levels octets found fault some first bit inner =
    at_piece levels octets found some first ∙ node_of_fails (node_at (levels - 1)) found fault bit inner

pub node_at_inner_fails : (levels : ℕ) (octets : List ℕ) (found : Piece) (fault : DerFault) → 0 < levels
    → element_at octets ≡ Ok found → (bit_six found.identifier == 1) ≡ true
    → IsFaultOf fault (nodes_with (node_at (levels - 1)) (length found.contents) found.contents)
    → IsFaultOf fault (node_at levels octets)
node_at_inner_fails levels octets found fault some first bit fails =
    IsFaultOf-along fault (nodes_with (node_at (levels - 1)) (length found.contents) found.contents)
    (node_at levels octets)
    (λ e inner. node_at_inner_refused levels octets found e some first bit inner) fails

-- values are inside
pub node_at_constructed : (levels : ℕ) (octets : List ℕ) (found : Piece) (ns : Nodes) → 0 < levels
    → element_at octets ≡ Ok found → (bit_six found.identifier == 1) ≡ true
    → nodes_with (node_at (levels - 1)) (length found.contents) found.contents ≡ Ok ns
    → node_at levels octets ≡ Ok (constructed found.identifier ns, found.rest)
node_at_constructed levels octets found ns some first bit inner =
    at_piece levels octets found some first ∙ node_of_constructed (node_at (levels - 1)) found ns bit inner

-- octets are inside
pub node_at_primitive : (levels : ℕ) (octets : List ℕ) (found : Piece) → 0 < levels → element_at octets ≡ Ok found
    → (bit_six found.identifier == 1) ≡ false
    → node_at levels octets ≡ Ok (primitive found.identifier found.contents, found.rest)
node_at_primitive levels octets found some first bit =
    at_piece levels octets found some first ∙ node_of_primitive (node_at (levels - 1)) found bit
