-- Lemmas on values one after the other, and on options.
use Rattle.std.proofs.Common.{◌≡◌, ℕ, eqb, List, [], ◌∷◌, ◌++◌, Some, refl, ap}
use Rattle.std.proofs.lemmas.{Option.cond_some, Bool.eqb-true}
use Rattle.der.specs.Node.{Node, primitive, constructed, Nodes, no_nodes, node, contents_of, components_of, first_of}
use Rattle.der.specs.Tree.{nodes}

-- values before others
abbrev pub before : List Node → Nodes → Nodes
before [] rest = rest
before (x ∷ xs) rest = node x (before xs rest)

pub nodes-append : (xs ys : List Node) → nodes (xs ++ ys) ≡ before xs (nodes ys)
nodes-append [] ys = refl
nodes-append (x ∷ xs) ys = ap (node x) (nodes-append xs ys)

pub contents_takes : (tag : ℕ) (n : Node) (c : List ℕ) → contents_of tag n ≡ Some c → n ≡ primitive tag c
contents_takes tag (primitive t d) c e =
    let p = cond_some (eqb t tag) d c e in
    let same : t ≡ tag = eqb-true t tag p.0 in
    cc
contents_takes tag (constructed t ns) c e = cc

pub components_takes : (tag : ℕ) (n : Node) (ns : Nodes) → components_of tag n ≡ Some ns → n ≡ constructed tag ns
components_takes tag (primitive t d) ns e = cc
components_takes tag (constructed t ms) ns e =
    let p = cond_some (eqb t tag) ms ns e in
    let same : t ≡ tag = eqb-true t tag p.0 in
    cc

pub front_takes : (ns : Nodes) (found : Node × Nodes) → first_of ns ≡ Some found → ns ≡ node found.0 found.1
front_takes no_nodes found e = cc
front_takes (node first others) found e = cc
