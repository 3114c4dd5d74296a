-- What the grammar gives for a request is read as that request.
use Rattle.std.proofs.Common.{◌≡◌, ℕ, Bool, true, false, ◌||◌, ℤ, List, [], ◌∷◌, ◌++◌, Option, Some, None, refl, sym}
use Rattle.std.proofs.{Common.ap, Common.◌∙◌, Common.arith, lemmas.Bool.eq-eqb}
use Rattle.std.specs.{Option.IfSome, List.AllByRecursion}
use Rattle.der.specs.Node.{Node, constructed, Nodes, no_nodes, node, identifier_of}
use Rattle.der.{specs.Tree.nodes, specs.ObjectIdentifier.IsOid, proofs.OidContents.oid_of-content}
use Rattle.der.proofs.NumberContents.{twos_value-number_content, is_shortest-number_content}
use Rattle.tsp.specs.Grammar.{integer, boolean, octet_string, object_identifier, sequence, optional, false_by_default}
use Rattle.tsp.specs.Request.{ImprintValue, ExtensionValue, RequestValue, IsRequest, Stated, message_imprint, extension}
use Rattle.tsp.specs.Request.{extension_nodes, extensions_under, time_stamp_req}
use Rattle.tsp.specs.Parser.{integer_value_of, integer_of, truth_of, boolean_of, stated_of, oid_in, only, end_of}
use Rattle.tsp.specs.Parser.{optional_at, flag_at, parameters_of, algorithm_of, imprint_of, extension_of, extensions_of}
use Rattle.tsp.specs.Parser.{some_extensions, extension_list_of, extensions_at, request_of}
use borrow.Author.Tests.{ne_eqb}
use Rattle.tsp.proofs.Components.{before, nodes-append}

pub integer_of-integer : (z : ℤ) → integer_of (integer z) ≡ Some z
unfolding integer_of integer_value_of
integer_of-integer z = rw (is_shortest-number_content z, twos_value-number_content z) refl

pub boolean_of-boolean : (b : Bool) → boolean_of (boolean b) ≡ Some b
unfolding boolean_of truth_of
boolean_of-boolean true = refl
boolean_of-boolean false = refl

pub oid_in-object_identifier : (a : List ℕ) → IsOid a → oid_in (object_identifier a) ≡ Some a
unfolding oid_in
oid_in-object_identifier a h = oid_of-content a h

-- before no values at all
pub before-none : (xs : List Node) → before xs no_nodes ≡ nodes xs
before-none [] = refl
before-none (x ∷ xs) = ap (node x) (before-none xs)

-- an optional component that is there
pub optional_at-some : {A : Type 0} (tag : ℕ) (read : Node → Option A) (n : Node) (x : A) (rest : Nodes)
    → identifier_of n ≡ tag → read n ≡ Some x → optional_at tag read (node n rest) ≡ Some (Some x, rest)
unfolding optional_at
optional_at-some tag read n x rest same e = rw (eq-eqb (identifier_of n) tag same, e) refl

-- values whose first is under another identifier octet
abbrev pub StartsApart : ℕ → Nodes → Type 0
StartsApart tag no_nodes = Unit {0}
StartsApart tag (node first others) = identifier_of first ≡ tag → ⊥

pub optional_at-none : {A : Type 0} (tag : ℕ) (read : Node → Option A) (rest : Nodes) → StartsApart tag rest
    → optional_at tag read rest ≡ Some (None, rest)
unfolding optional_at
optional_at-none tag read no_nodes apart = refl
optional_at-none tag read (node first others) apart = rw (ne_eqb (identifier_of first) tag apart) refl

-- the same where the grammar writes the component or leaves it away
pub optional_at-optional : {A : Type 0} (tag : ℕ) (read : Node → Option A) (write : A → Node) (o : Option A)
    (rest : Nodes)
    → ((x : A) → identifier_of (write x) ≡ tag) → IfSome o (λ x. read (write x) ≡ Some x) → StartsApart tag rest
    → optional_at tag read (before (optional write o) rest) ≡ Some (o, rest)
optional_at-optional tag read write None rest same reads apart = optional_at-none tag read rest apart
optional_at-optional tag read write (Some x) rest same reads apart =
    optional_at-some tag read (write x) x rest (same x) reads

-- a FALSE may be stated
abbrev pub IsAllowed : Bool → Bool → Type 0
IsAllowed may stated = stated ≡ true → may ≡ true

stated_of-boolean : (may b : Bool) → (b || may) ≡ true → stated_of may (boolean b) ≡ Some b
unfolding stated_of
stated_of-boolean may b allowed = rw (boolean_of-boolean b, allowed) refl

pub flag_at-false_by_default : (may stated b : Bool) (rest : Nodes) → IsAllowed may stated → StartsApart 1 rest
    → flag_at may (before (false_by_default stated b) rest) ≡ Some (b, rest)
unfolding flag_at
flag_at-false_by_default may stated true rest allowed apart =
    rw (optional_at-some 1 (stated_of may) (boolean true) true rest refl (stated_of-boolean may true refl)) refl
flag_at-false_by_default may true false rest allowed apart =
    rw (optional_at-some 1 (stated_of may) (boolean false) false rest refl (stated_of-boolean may false (allowed refl)))
    refl
flag_at-false_by_default may false false rest allowed apart = rw (optional_at-none 1 (stated_of may) rest apart) refl

pub algorithm_of-algorithm_identifier : (a : List ℕ) (parameters : Option Node) → IsOid a
    → algorithm_of (sequence (object_identifier a ∷ optional (λ p. p) parameters)) ≡ Some (a, parameters)
unfolding algorithm_of parameters_of
algorithm_of-algorithm_identifier a None h = rw (oid_in-object_identifier a h) refl
algorithm_of-algorithm_identifier a (Some n) h = rw (oid_in-object_identifier a h) refl

pub imprint_of-message_imprint : (i : ImprintValue) → IsOid i.algorithm → imprint_of (message_imprint i) ≡ Some i
unfolding imprint_of only end_of
imprint_of-message_imprint i h = rw (algorithm_of-algorithm_identifier i.algorithm i.parameters h) refl

-- what comes after an extension's critical begins with an OCTET STRING
pub extension_of-extension : (may stated : Bool) (e : ExtensionValue) → IsAllowed may stated → IsOid e.identifier
    → extension_of may (extension stated e) ≡ Some e
unfolding extension_of only end_of
extension_of-extension may stated e allowed h =
    let split : nodes (false_by_default stated e.critical ++ (octet_string e.value ∷ []))
    ≡ before (false_by_default stated e.critical) (node (octet_string e.value) no_nodes) = nodes-append _ _ in
    let apart : StartsApart 1 (node (octet_string e.value) no_nodes) = λ q. absurd (omega (arith, q)) in
    let flag = flag_at-false_by_default may stated e.critical (node (octet_string e.value) no_nodes) allowed apart in
    rw (oid_in-object_identifier e.identifier h, split, flag) refl

pub never : (may : Bool) → IsAllowed may false
never may = λ q. cc

pub extensions_of-extension_nodes : (may : Bool) (stated : List Bool) (es : List ExtensionValue)
    → AllByRecursion (IsAllowed may) stated → AllByRecursion (λ e. IsOid e.identifier) es
    → extensions_of may (nodes (extension_nodes stated es)) ≡ Some es
unfolding extensions_of
extensions_of-extension_nodes may stated [] allowed h = refl
extensions_of-extension_nodes may [] (e ∷ es) allowed h =
    rw (extension_of-extension may false e (never may) h.0, extensions_of-extension_nodes may [] es tt h.1) refl
extensions_of-extension_nodes may (s ∷ ss) (e ∷ es) allowed h =
    rw (extension_of-extension may s e allowed.0 h.0, extensions_of-extension_nodes may ss es allowed.1 h.1) refl

pub extensions_at-extensions_under : (may : Bool) (tag : ℕ) (stated : List Bool) (es : List ExtensionValue)
    → AllByRecursion (IsAllowed may) stated → AllByRecursion (λ e. IsOid e.identifier) es
    → extensions_at may tag (nodes (extensions_under tag stated es)) ≡ Some (es, no_nodes)
unfolding extensions_at
extensions_at-extensions_under may tag stated [] allowed h =
    rw (optional_at-none tag (extension_list_of may tag) no_nodes tt) refl
extensions_at-extensions_under may tag stated (e ∷ es) allowed h =
    let all = extensions_of-extension_nodes may stated (e ∷ es) allowed h in
    let list : extension_list_of may tag (constructed tag (nodes (extension_nodes stated (e ∷ es)))) ≡ Some (e ∷ es) =
    unfold extension_list_of some_extensions in rw (eq-eqb tag tag refl, all) refl in
    rw (optional_at-some tag (extension_list_of may tag) (constructed tag (nodes (extension_nodes stated (e ∷ es))))
    (e ∷ es) no_nodes refl list) refl

pub all_allowed : (stated : List Bool) → AllByRecursion (IsAllowed true) stated
all_allowed [] = tt
all_allowed (s ∷ ss) = (λ q. refl, all_allowed ss)

-- Where the values after a component begin apart, and the component does too, so do both.
pub apart-optional : {A : Type 0} (tag other : ℕ) (write : A → Node) (o : Option A) (rest : Nodes)
    → ((x : A) → identifier_of (write x) ≡ other) → (other ≡ tag → ⊥) → StartsApart tag rest
    → StartsApart tag (before (optional write o) rest)
apart-optional tag other write None rest same differs apart = apart
apart-optional tag other write (Some x) rest same differs apart = λ q. differs (sym (same x) ∙ q)

pub apart-false_by_default : (tag : ℕ) (stated b : Bool) (rest : Nodes) → (1 ≡ tag → ⊥) → StartsApart tag rest
    → StartsApart tag (before (false_by_default stated b) rest)
apart-false_by_default tag stated true rest differs apart = differs
apart-false_by_default tag true false rest differs apart = differs
apart-false_by_default tag false false rest differs apart = apart

pub apart-extensions_under : (tag other : ℕ) (stated : List Bool) (es : List ExtensionValue) → (other ≡ tag → ⊥)
    → StartsApart tag (nodes (extensions_under other stated es))
apart-extensions_under tag other stated [] differs = tt
apart-extensions_under tag other stated (e ∷ es) differs = differs

-- the optional components of a request, one after the other
pub request_tail : (s : Stated) (r : RequestValue)
    → nodes (optional object_identifier r.policy
    ++ (optional integer r.nonce ++ (false_by_default s.cert_req r.cert_req
    ++ extensions_under 160 s.critical r.extensions)))
    ≡ before (optional object_identifier r.policy)
    (before (optional integer r.nonce) (before (false_by_default s.cert_req r.cert_req)
    (nodes (extensions_under 160 s.critical r.extensions))))
request_tail s r =
    let a = nodes-append (false_by_default s.cert_req r.cert_req) (extensions_under 160 s.critical r.extensions) in
    let b = nodes-append (optional integer r.nonce)
    (false_by_default s.cert_req r.cert_req ++ extensions_under 160 s.critical r.extensions) in
    let c = nodes-append (optional object_identifier r.policy)
    (optional integer r.nonce ++ (false_by_default s.cert_req r.cert_req
    ++ extensions_under 160 s.critical r.extensions)) in
    c ∙ ap (before (optional object_identifier r.policy)) (b ∙ ap (before (optional integer r.nonce)) a)

if_some : {A : Type 0} (P Q : A → Type 0) (o : Option A) → IfSome o P → ((x : A) → P x → Q x) → IfSome o Q
if_some P Q None h f = tt
if_some P Q (Some x) h f = f x h

pub any : {A : Type 0} (Q : A → Type 0) (o : Option A) → ((x : A) → Q x) → IfSome o Q
any Q None f = tt
any Q (Some x) f = f x

pub request_of-request : (s : Stated) (r : RequestValue) → IsRequest r → request_of (time_stamp_req s r) ≡ Some r
unfolding request_of only end_of
request_of-request s r h =
    let ext = nodes (extensions_under 160 s.critical r.extensions) in
    let flags = before (false_by_default s.cert_req r.cert_req) ext in
    let nonces = before (optional integer r.nonce) flags in
    let none_one : StartsApart 1 ext = apart-extensions_under 1 160 s.critical r.extensions
    (λ q. absurd (omega (arith, q))) in
    let none_two : StartsApart 2 flags =
    apart-false_by_default 2 s.cert_req r.cert_req ext (λ q. absurd (omega (arith, q)))
    (apart-extensions_under 2 160 s.critical r.extensions (λ q. absurd (omega (arith, q)))) in
    let none_six : StartsApart 6 nonces =
    apart-optional 6 2 integer r.nonce flags (λ x. refl) (λ q. absurd (omega (arith, q)))
    (apart-false_by_default 6 s.cert_req r.cert_req ext (λ q. absurd (omega (arith, q)))
    (apart-extensions_under 6 160 s.critical r.extensions (λ q. absurd (omega (arith, q))))) in
    let policy = optional_at-optional 6 oid_in object_identifier r.policy nonces (λ x. refl)
    (if_some IsOid (λ x. oid_in (object_identifier x) ≡ Some x) r.policy h.policy oid_in-object_identifier)
    none_six in
    let nonce = optional_at-optional 2 integer_of integer r.nonce flags (λ x. refl)
    (any (λ x. integer_of (integer x) ≡ Some x) r.nonce integer_of-integer) none_two in
    let flag = flag_at-false_by_default true s.cert_req r.cert_req ext (λ q. refl) none_one in
    let extensions = extensions_at-extensions_under true 160 s.critical r.extensions (all_allowed s.critical)
    h.extensions in
    rw (
      integer_of-integer r.version,
      imprint_of-message_imprint r.imprint h.algorithm,
      request_tail s r,
      policy,
      nonce,
      flag,
      extensions,
    ) refl
