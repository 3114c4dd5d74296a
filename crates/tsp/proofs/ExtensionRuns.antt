-- Extensions one after the other.
use Rattle.std.proofs.Common.{◌≡◌, ℕ, Bool, true, false, suc, List, [], ◌∷◌, Option, Some, None, unwrap_or, refl, sym}
use Rattle.std.proofs.{Common.ap, Common.◌∙◌, Common.subst, lemmas.Option.same_Some, lemmas.Option.option_and_then_some}
use Rattle.std.specs.Option.{option_and_then, option_map, is_some, MatchOption}
use Rattle.der.specs.Node.{Node, Nodes, no_nodes, node, first_of, is_end, components_of}
use Rattle.tsp.{specs.Request.ExtensionValue, specs.Request.extension_nodes, proofs.RequestTakes.extensions_takes}
use Rattle.tsp.specs.{View.extension_view, declared.extensions.Extension.Extension}
use Rattle.tsp.proofs.RequestReads.{extensions_of-extension_nodes, all_allowed}
use Rattle.tsp.specs.Parser.{extension_of, extensions_of, some_extensions, extension_list_of}
use Rattle.tsp.specs.ExtensionsInPlace.{extensions_in, AreExtensions}

abbrev pub count_of : Nodes → ℕ
count_of no_nodes = 0
count_of (node first others) = suc (count_of others)

-- nothing is left to read
pub are_extensions_end : (may : Bool) (ns : Nodes) → first_of ns ≡ None → is_some (extensions_of may ns) ≡ true
unfolding extensions_of
are_extensions_end may no_nodes e = refl
are_extensions_end may (node first others) e = cc

-- what comes next is no extension
pub are_extensions_none : (may : Bool) (ns rest : Nodes) (first : Node) → first_of ns ≡ Some (first, rest)
    → extension_of may first ≡ None → is_some (extensions_of may ns) ≡ false
unfolding extensions_of
are_extensions_none may no_nodes rest first e nothing = cc
are_extensions_none may (node n ns) rest first e nothing =
    let same = ap (λ (p : Node × Nodes). p.0) (same_Some (n, ns) (first, rest) e) in
    rw (same, nothing) refl

after_one : (v : ExtensionValue) (read : Option (List ExtensionValue))
    → is_some (option_and_then (λ vs. Some (v ∷ vs)) read) ≡ is_some read
after_one v None = refl
after_one v (Some vs) = refl

-- what comes next is an extension
pub are_extensions_some : (may : Bool) (ns rest : Nodes) (first : Node) (v : ExtensionValue)
    → first_of ns ≡ Some (first, rest) → extension_of may first ≡ Some v
    → is_some (extensions_of may ns) ≡ is_some (extensions_of may rest)
unfolding extensions_of
are_extensions_some may no_nodes rest first v e found = cc
are_extensions_some may (node n ns) rest first v e found =
    let same = ap (λ (p : Node × Nodes). p.0) (same_Some (n, ns) (first, rest) e) in
    let left = ap (λ (p : Node × Nodes). p.1) (same_Some (n, ns) (first, rest) e) in
    rw (same, found, left) (after_one v (extensions_of may rest))

-- ---- extensions where they lie

pub none_left : (ns : Nodes) → first_of ns ≡ None → extensions_in ns ≡ []
unfolding extensions_in extensions_of
none_left no_nodes e = refl
none_left (node first others) e = cc

-- an extension and those after it
pub record IsStep (first : Node) (ns rest : Nodes) : Type 0 where
  pub value : ExtensionValue
  pub read : extension_of true first ≡ Some value
  pub others : AreExtensions rest
  pub all : extensions_in ns ≡ value ∷ extensions_in rest

step_by : (first : Node) (others : Nodes) → AreExtensions (node first others) → IsStep first (node first others) others
unfolding extensions_in extensions_of
step_by first others are =
    option_and_then_some _ (extension_of true first) (extensions_in (node first others)) are (λ v e1 r1.
    option_and_then_some _ (extensions_of true others) (extensions_in (node first others)) r1 (λ vs e2 r2.
    record { value = v; read = e1; others = rw e2 refl; all = sym (same_Some (v ∷ vs) _ r2) ∙ rw e2 refl }))

pub extensions_step : (ns rest : Nodes) (first : Node) → AreExtensions ns → Some (first, rest) ≡ first_of ns
    → IsStep first ns rest
extensions_step no_nodes rest first are e = cc
extensions_step (node n ns) rest first are e =
    let is = same_Some (first, rest) (n, ns) e in
    let P : Node × Nodes → Type 0 = λ p. IsStep p.0 (node n ns) p.1 in
    subst P (sym is) (step_by n ns are)

pub no_extensions : (ns : Nodes) → AreExtensions ns → extensions_in ns ≡ [] → is_end ns ≡ true
no_extensions no_nodes are none = refl
no_extensions (node first others) are none =
    let step = step_by first others are in
    cc (sym none ∙ step.all)

pub end_extensions : (ns : Nodes) → is_end ns ≡ true → extensions_in ns ≡ []
unfolding extensions_in extensions_of
end_extensions no_nodes e = refl
end_extensions (node first others) e = cc

-- ---- a list of extensions that was tested

pub none_by : (result : Option Extension) (read : Option ExtensionValue) → option_map extension_view result ≡ read
    → is_some result ≡ false → read ≡ None
none_by None read e none = sym e
none_by (Some x) read e none = cc

pub value_by : (result : Option Extension) (read : Option ExtensionValue) → option_map extension_view result ≡ read
    → is_some result ≡ true → (v : ExtensionValue) × (read ≡ Some v)
value_by None read e some = cc
value_by (Some x) read e some = (extension_view x, sym e)

-- extensions without stated FALSEs are extensions
leniently : (may : Bool) (ns : Nodes) (es : List ExtensionValue) → extensions_of may ns ≡ Some es
    → extensions_of true ns ≡ Some es
leniently may ns es e =
    let found = extensions_takes may ns es e in
    ap (extensions_of true) found.1.1.1
    ∙ extensions_of-extension_nodes true found.1.0 es (all_allowed found.1.0) found.0

pub tested : (may : Bool) (ns : Nodes) → is_some (extensions_of may ns) ≡ true
    → (extensions_of may ns ≡ Some (extensions_in ns)) × AreExtensions ns
unfolding extensions_in
tested may ns some = by_answer (extensions_of may ns) refl some
  where
    by_answer : (read : Option (List ExtensionValue)) → extensions_of may ns ≡ read → is_some read ≡ true
        → (read ≡ Some (unwrap_or (extensions_of true ns) []))
        × (extensions_of true ns ≡ Some (unwrap_or (extensions_of true ns) []))
    by_answer None e some = cc
    by_answer (Some es) e some =
        let is = leniently may ns es e in
        (ap Some (sym (ap (λ o. unwrap_or o []) is)), is ∙ ap Some (sym (ap (λ o. unwrap_or o []) is)))

pub list_empty : (may : Bool) (tag : ℕ) (n : Node) (ns : Nodes) → Some ns ≡ components_of tag n → true ≡ is_end ns
    → None ≡ extension_list_of may tag n
unfolding extension_list_of extensions_of some_extensions
list_empty may tag n no_nodes e none = rw (sym e) refl
list_empty may tag n (node first others) e none = cc

some_by : (ns : Nodes) → false ≡ is_end ns → AreExtensions ns
    → some_extensions (extensions_in ns) ≡ Some (extensions_in ns)
unfolding some_extensions
some_by no_nodes some are = cc
some_by (node first others) some are = let step = step_by first others are in rw step.all refl

pub list_found : (may : Bool) (tag : ℕ) (n : Node) (ns : Nodes) → Some ns ≡ components_of tag n → false ≡ is_end ns
    → is_some (extensions_of may ns) ≡ true → Some (extensions_in ns) ≡ extension_list_of may tag n
unfolding extension_list_of
list_found may tag n ns e some are =
    let found = tested may ns are in
    rw (sym e, found.0) (sym (some_by ns some found.1))

-- ---- the next extension

pub first_by : (old rest : List ExtensionValue) (value : ExtensionValue) (result : Option Extension)
    → option_map extension_view result ≡ Some value → old ≡ value ∷ rest
    → MatchOption result ((old ≡ []) × (rest ≡ [])) (λ x. old ≡ extension_view x ∷ rest)
first_by old rest value None e all = cc
first_by old rest value (Some x) e all = all ∙ ap (λ v. v ∷ rest) (sym (same_Some (extension_view x) value e))

pub ruleset are_extensions_laws =
    (none_by, value_by, are_extensions_end, are_extensions_none, are_extensions_some)

pub ruleset list_laws = (tested, list_empty, list_found)
