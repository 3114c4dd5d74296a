-- What is read from a value is what the grammar gives for some choice of stated FALSEs.
use Rattle.std.proofs.Common.{◌≡◌, ℕ, Bool, true, false, ◌||◌, cond, ℤ, List, [], ◌∷◌, Option, Some, None, ◌⊎◌, inl}
use Rattle.std.proofs.Common.{inr, eqb, refl, sym, ap, ◌∙◌, subst}
use mathlib.Core.Logic.{⊎_elim}
use Rattle.std.specs.{Option.IfSome, Option.unwrap_or, List.AllByRecursion}
use Rattle.std.proofs.lemmas.{Option.option_and_then_some, Option.cond_some, Bool.eqb-true}
use Rattle.der.specs.Node.{Node, primitive, constructed, Nodes, no_nodes, node, contents_of, components_of, first_of}
use Rattle.der.specs.Node.{identifier_of, IsFormed, AreFormed, AreOctets}
use Rattle.der.specs.{Tree.nodes, ObjectIdentifier.IsOid, ObjectIdentifier.oid_of}
use Rattle.der.specs.Number.{is_shortest, twos_value, number_content}
use Rattle.der.proofs.{NumberContents.number_content-twos_value, OidContents.oid_of-some}
use Rattle.tsp.specs.Grammar.{integer, boolean, octet_string, object_identifier, sequence, optional, false_by_default}
use Rattle.tsp.specs.Request.{ImprintValue, ExtensionValue, RequestValue, IsRequest, Stated, message_imprint, extension}
use Rattle.tsp.specs.Request.{extension_nodes, extensions_under, time_stamp_req}
use Rattle.tsp.specs.Parser.{integer_value_of, integer_of, truth_of, boolean_of, stated_of, oid_in, only, end_of}
use Rattle.tsp.specs.Parser.{optional_of, optional_at, flag_at, parameters_of, algorithm_of, imprint_of, extension_of}
use Rattle.tsp.specs.Parser.{extensions_of, some_extensions, extension_list_of, extensions_at, request_of}
use Rattle.tsp.proofs.Components.{before, nodes-append, contents_takes, components_takes, front_takes}
use Rattle.tsp.proofs.RequestReads.{before-none, request_tail, IsAllowed}

pub number_takes : (octets : List ℕ) (z : ℤ) → AreOctets octets → integer_value_of octets ≡ Some z
    → octets ≡ number_content z
unfolding integer_value_of
number_takes octets z bytes e =
    let p = cond_some (is_shortest octets) (twos_value octets) z e in
    sym (number_content-twos_value octets bytes p.0) ∙ ap number_content p.1

pub integer_takes : (n : Node) (z : ℤ) → IsFormed n → integer_of n ≡ Some z → n ≡ integer z
unfolding integer_of
integer_takes n z formed e = option_and_then_some integer_value_of (contents_of 2 n) z e (λ octets p q.
    let is = contents_takes 2 n octets p in
    let parts = subst IsFormed is formed in
    is ∙ ap (primitive 2) (number_takes octets z parts.2 q))

-- which way a test went
chosen : {A : Type 0} (t : Bool) (x y z : A) → cond t x y ≡ z → ((t ≡ true) × (x ≡ z)) ⊎ ((t ≡ false) × (y ≡ z))
chosen true x y z e = inl (refl, e)
chosen false x y z e = inr (refl, e)

truth_takes : (octets : List ℕ) (b : Bool) → truth_of octets ≡ Some b → octets ≡ (cond b 255 0) ∷ []
unfolding truth_of
truth_takes [] b e = cc
truth_takes (octet ∷ second ∷ others) b e = cc
truth_takes (octet ∷ []) b e = ⊎_elim
    (λ zero. let is = eqb-true octet 0 zero.0 in let no : false ≡ b = cc (zero.1) in
    ap (λ x. x ∷ []) (is ∙ ap (λ x. cond x 255 0) no))
    (λ other. let p = cond_some (eqb octet 255) true b other.1 in let is = eqb-true octet 255 p.0 in
    ap (λ x. x ∷ []) (is ∙ ap (λ x. cond x 255 0) p.1))
    (chosen (eqb octet 0) (Some false) (cond (eqb octet 255) (Some true) None) (Some b) e)

pub boolean_takes : (n : Node) (b : Bool) → boolean_of n ≡ Some b → n ≡ boolean b
unfolding boolean_of
boolean_takes n b e = option_and_then_some truth_of (contents_of 1 n) b e
    (λ octets p q. contents_takes 1 n octets p ∙ ap (primitive 1) (truth_takes octets b q))

pub oid_takes : (n : Node) (a : List ℕ) → oid_in n ≡ Some a → IsOid a × (n ≡ object_identifier a)
unfolding oid_in
oid_takes n a e = option_and_then_some oid_of (contents_of 6 n) a e (λ octets p q.
    let is = oid_of-some octets a q in
    (is.0, contents_takes 6 n octets p ∙ ap (primitive 6) is.1))

pub only_takes : {A : Type 0} (ns : Nodes) (x y : A) → only ns x ≡ Some y → (ns ≡ no_nodes) × (x ≡ y)
unfolding only end_of
only_takes no_nodes x y e = (refl, cc)
only_takes (node first others) x y e = cc

optional_by_test : {A : Type 0} (t : Bool) (read : Node → Option A) (first : Node) (others : Nodes)
    (found : Option A × Nodes)
    → optional_of read (cond {A = Option Node × Nodes} t (Some first, others) (None, node first others)).0
    (cond {A = Option Node × Nodes} t (Some first, others) (None, node first others)).1 ≡ Some found
    → ((found.0 ≡ None) × (node first others ≡ found.1))
    ⊎ ((n : Node) × (x : A) × (found.0 ≡ Some x) × (read n ≡ Some x) × (node first others ≡ node n found.1))
optional_by_test true read first others found e =
    option_and_then_some (λ x. Some (Some x, others)) (read first) found e (λ x p q. inr (first, x, cc, p, cc))
optional_by_test false read first others found e = inl (cc, cc)

-- What optional_at answers stood in front of what is left.
pub optional_at_takes : {A : Type 0} (tag : ℕ) (read : Node → Option A) (ns : Nodes) (found : Option A × Nodes)
    → optional_at tag read ns ≡ Some found
    → ((found.0 ≡ None) × (ns ≡ found.1)) ⊎ ((n : Node) × (x : A) × (found.0 ≡ Some x) × (read n ≡ Some x)
    × (ns ≡ node n found.1))
unfolding optional_at
optional_at_takes tag read no_nodes found e = inl (cc, cc)
optional_at_takes tag read (node first others) found e =
    optional_by_test (eqb (identifier_of first) tag) read first others found e

-- the same, where what is read is what the grammar writes
pub optional_takes : {A : Type 0} (tag : ℕ) (read : Node → Option A) (write : A → Node) (Good : A → Type 0) (ns : Nodes)
    (found : Option A × Nodes)
    → optional_at tag read ns ≡ Some found → ((n : Node) (x : A) → ns ≡ node n found.1 → read n ≡ Some x → Good x
    × (n ≡ write x))
    → IfSome found.0 Good × (ns ≡ before (optional write found.0) found.1)
optional_takes {A} tag read write Good ns found e takes = ⊎_elim
    (λ none. rw (none.0) (tt, none.1))
    (λ some. let is = takes some.0 some.1 some.4 some.3 in rw (some.2) (is.0, some.4 ∙ ap (λ n. node n found.1) is.1))
    (optional_at_takes tag read ns found e)

stated_flag : (may b : Bool) (rest : Nodes) → (b || may) ≡ true
    → before (false_by_default may b) rest ≡ node (boolean b) rest
stated_flag may b rest allowed = rw (allowed) refl

stated_takes : (may : Bool) (n : Node) (b : Bool) → stated_of may n ≡ Some b → (n ≡ boolean b) × ((b || may) ≡ true)
unfolding stated_of
stated_takes may n b e = option_and_then_some _ (boolean_of n) b e (λ x p q.
    let t = cond_some (x || may) x b q in
    (boolean_takes n x p ∙ ap boolean t.1, sym (ap (λ y. y || may) t.1) ∙ t.0))

pub flag_takes : (may : Bool) (ns : Nodes) (found : Bool × Nodes) → flag_at may ns ≡ Some found → (stated : Bool)
    × (IsAllowed may stated × (ns ≡ before (false_by_default stated found.0) found.1))
unfolding flag_at
flag_takes may ns found e = option_and_then_some (λ f. Some (unwrap_or f.0 false, f.1))
    (optional_at 1 (stated_of may) ns) found e (λ f p q.
    let flag : unwrap_or f.0 false ≡ found.0 = cc in
    let rest : f.1 ≡ found.1 = cc in
    ⊎_elim
    (λ none. let is : found.0 ≡ false = sym flag ∙ ap (λ o. unwrap_or o false) none.0 in
    (false, (λ r. cc, none.1 ∙ rest ∙ sym (ap (λ b. before (false_by_default false b) found.1) is))))
    (λ some. let is : found.0 ≡ some.1 = sym flag ∙ ap (λ o. unwrap_or o false) some.2 in
    let read = stated_takes may some.0 some.1 some.3 in (
      may,
      (
        λ r. r,
        some.4 ∙ ap (λ n. node n f.1) (read.0 ∙ ap boolean (sym is)) ∙ ap (node (boolean found.0)) rest
            ∙ sym (stated_flag may found.0 found.1 (ap (λ b. b || may) is ∙ read.1)),
      ),
    ))
    (optional_at_takes 1 (stated_of may) ns f p))

parameters_takes : (ns : Nodes) (parameters : Option Node) → parameters_of ns ≡ Some parameters
    → ns ≡ nodes (optional (λ n. n) parameters)
unfolding parameters_of
parameters_takes no_nodes parameters e = let is : None ≡ parameters = cc in ap (λ o. nodes (optional (λ n. n) o)) is
parameters_takes (node first no_nodes) parameters e = let is : Some first ≡ parameters = cc in
    ap (λ o. nodes (optional (λ n. n) o)) is
parameters_takes (node first (node second others)) parameters e = cc

pub algorithm_takes : (n : Node) (found : List ℕ × Option Node) → algorithm_of n ≡ Some found
    → IsOid found.0 × (n ≡ sequence (object_identifier found.0 ∷ optional (λ p. p) found.1))
unfolding algorithm_of
algorithm_takes n found e =
    option_and_then_some _ (components_of 48 n) found e (λ members e1 r1.
    option_and_then_some _ (first_of members) found r1 (λ first e2 r2.
    option_and_then_some _ (oid_in first.0) found r2 (λ identifier e3 r3.
    option_and_then_some _ (parameters_of first.1) found r3 (λ parameters e4 r4.
    let oid = oid_takes first.0 identifier e3 in
    let same_oid : identifier ≡ found.0 = cc in
    let same_parameters : parameters ≡ found.1 = cc in (
      subst IsOid same_oid oid.0,
      components_takes 48 n members e1 ∙ ap (constructed 48) (front_takes members first e2
          ∙ ap (λ x. node x first.1) (oid.1 ∙ ap object_identifier same_oid)
          ∙ ap (node (object_identifier found.0))
          (parameters_takes first.1 parameters e4 ∙ ap (λ o. nodes (optional (λ p. p) o)) same_parameters)),
    )))))

pub imprint_takes : (n : Node) (i : ImprintValue) → imprint_of n ≡ Some i → IsOid i.algorithm × (n ≡ message_imprint i)
unfolding imprint_of
imprint_takes n i e =
    option_and_then_some _ (components_of 48 n) i e (λ members e1 r1.
    option_and_then_some _ (first_of members) i r1 (λ first e2 r2.
    option_and_then_some _ (algorithm_of first.0) i r2 (λ algorithm e3 r3.
    option_and_then_some _ (first_of first.1) i r3 (λ second e4 r4.
    option_and_then_some _ (contents_of 4 second.0) i r4 (λ hash e5 r5.
    let a = algorithm_takes first.0 algorithm e3 in
    let last = only_takes second.1 _ i r5 in
    let whole : n ≡ message_imprint (record { algorithm = algorithm.0; parameters = algorithm.1; hash = hash }) =
    components_takes 48 n members e1 ∙ ap (constructed 48) (front_takes members first e2 ∙ ap (λ x. node x first.1) a.1
    ∙ ap (node (sequence (object_identifier algorithm.0 ∷ optional (λ p. p) algorithm.1)))
    (front_takes first.1 second e4
    ∙ ap (λ x. node x second.1) (contents_takes 4 second.0 hash e5) ∙ ap (node (octet_string hash)) last.0)) in
    (subst (λ (v : ImprintValue). IsOid v.algorithm) last.1 a.0, whole ∙ ap message_imprint last.1))))))

pub extension_takes : (may : Bool) (n : Node) (v : ExtensionValue) → extension_of may n ≡ Some v → IsOid v.identifier
    × ((stated : Bool) × (IsAllowed may stated × (n ≡ extension stated v)))
unfolding extension_of
extension_takes may n v e =
    option_and_then_some _ (components_of 48 n) v e (λ members e1 r1.
    option_and_then_some _ (first_of members) v r1 (λ first e2 r2.
    option_and_then_some _ (oid_in first.0) v r2 (λ identifier e3 r3.
    option_and_then_some _ (flag_at may first.1) v r3 (λ critical e4 r4.
    option_and_then_some _ (first_of critical.1) v r4 (λ last e5 r5.
    option_and_then_some _ (contents_of 4 last.0) v r5 (λ value e6 r6.
    let oid = oid_takes first.0 identifier e3 in
    let flag = flag_takes may first.1 critical e4 in
    let end = only_takes last.1 _ v r6 in
    let whole : n ≡ extension flag.0 (record { identifier = identifier; critical = critical.0; value = value }) =
    components_takes 48 n members e1 ∙ ap (constructed 48)
    (front_takes members first e2 ∙ ap (λ x. node x first.1) oid.1
    ∙ ap (node (object_identifier identifier))
    (flag.1.1 ∙ ap (before (false_by_default flag.0 critical.0)) (front_takes critical.1 last e5
    ∙ ap (λ x. node x last.1) (contents_takes 4 last.0 value e6) ∙ ap (node (octet_string value)) end.0)
    ∙ sym (nodes-append (false_by_default flag.0 critical.0) (octet_string value ∷ [])))) in (
      subst (λ (x : ExtensionValue). IsOid x.identifier) end.1 oid.0,
      (flag.0, (flag.1.0, whole ∙ ap (extension flag.0) end.1)),
    )))))))

pub extensions_takes : (may : Bool) (ns : Nodes) (es : List ExtensionValue) → extensions_of may ns ≡ Some es
    → AllByRecursion (λ x. IsOid x.identifier) es
    × ((stated : List Bool) × (AllByRecursion (IsAllowed may) stated × (ns ≡ nodes (extension_nodes stated es))))
unfolding extensions_of
extensions_takes may no_nodes es e = let is : [] ≡ es = cc in (
  subst (λ xs. AllByRecursion (λ x. IsOid x.identifier) xs) is tt,
  ([], (tt, ap (λ xs. nodes (extension_nodes [] xs)) is)),
)
extensions_takes may (node first others) es e =
    option_and_then_some _ (extension_of may first) es e (λ v e1 r1.
    option_and_then_some _ (extensions_of may others) es r1 (λ vs e2 r2.
    let one = extension_takes may first v e1 in
    let rest = extensions_takes may others vs e2 in
    let is : v ∷ vs ≡ es = cc in (
      subst (λ xs. AllByRecursion (λ x. IsOid x.identifier) xs) is (one.0, rest.0),
      (
        one.1.0 ∷ rest.1.0,
        (
          (one.1.1.0, rest.1.1.0),
          ap (λ x. node x others) one.1.1.1
              ∙ ap (node (extension one.1.0 v)) rest.1.1.1
              ∙ ap (λ xs. nodes (extension_nodes (one.1.0 ∷ rest.1.0) xs)) is,
        ),
      ),
    )))

some_takes : (es found : List ExtensionValue) → some_extensions es ≡ Some found → (first : ExtensionValue)
    × (others : List ExtensionValue) × (es ≡ first ∷ others) × (found ≡ first ∷ others)
unfolding some_extensions
some_takes [] found e = cc
some_takes (first ∷ others) found e = (first, others, refl, cc)

-- these extensions stood, each FALSE stated or not where it may be, in front of what is left
abbrev pub TakesExtensions : Bool → ℕ → Nodes → List ExtensionValue × Nodes → Type 0
TakesExtensions may tag ns found = AllByRecursion (λ x. IsOid x.identifier) found.0
    × ((stated : List Bool) × (AllByRecursion (IsAllowed may) stated
    × (ns ≡ before (extensions_under tag stated found.0) found.1)))

extensions_some : (may : Bool) (tag : ℕ) (ns rest : Nodes) (es : List ExtensionValue) (n : Node)
    → extension_list_of may tag n ≡ Some es → ns ≡ node n rest → TakesExtensions may tag ns (es, rest)
unfolding extension_list_of
extensions_some may tag ns rest es n e stood =
    option_and_then_some _ (components_of tag n) es e (λ members e1 r1.
    option_and_then_some _ (extensions_of may members) es r1 (λ found e2 r2.
    let all = extensions_takes may members found e2 in
    let some = some_takes found es r2 in
    let same : found ≡ es = some.2 ∙ sym some.3 in
    let is : n ≡ constructed tag (nodes (extension_nodes all.1.0 es)) = components_takes tag n members e1
    ∙ ap (constructed tag) (all.1.1.1 ∙ ap (λ xs. nodes (extension_nodes all.1.0 xs)) same) in
    let under : before (extensions_under tag all.1.0 es) rest
    ≡ node (constructed tag (nodes (extension_nodes all.1.0 es))) rest = rw (some.3) refl in (
      subst (λ xs. AllByRecursion (λ x. IsOid x.identifier) xs) same all.0,
      (all.1.0, (all.1.1.0, stood ∙ ap (λ x. node x rest) is ∙ sym under)),
    )))

extensions_found : (may : Bool) (tag : ℕ) (ns : Nodes) (f : Option (List ExtensionValue) × Nodes)
    → ((f.0 ≡ None) × (ns ≡ f.1)) ⊎ ((n : Node) × (x : List ExtensionValue) × (f.0 ≡ Some x)
    × (extension_list_of may tag n ≡ Some x) × (ns ≡ node n f.1))
    → TakesExtensions may tag ns (unwrap_or f.0 [], f.1)
extensions_found may tag ns f (inl none) = rw (none.0) (tt, ([], (tt, none.1)))
extensions_found may tag ns f (inr some) = rw (some.2) (extensions_some may tag ns f.1 some.1 some.0 some.3 some.4)

pub extensions_at_takes : (may : Bool) (tag : ℕ) (ns : Nodes) (found : List ExtensionValue × Nodes)
    → extensions_at may tag ns ≡ Some found → TakesExtensions may tag ns found
unfolding extensions_at
extensions_at_takes may tag ns found e =
    option_and_then_some (λ f. Some (unwrap_or f.0 [], f.1)) (optional_at tag (extension_list_of may tag) ns) found e
    (λ f p q.
    let same : (unwrap_or f.0 [], f.1) ≡ found = cc in
    subst (TakesExtensions may tag ns) same (extensions_found may tag ns f
    (optional_at_takes tag (extension_list_of may tag) ns f p)))

pub formed_after : (xs : List Node) (rest : Nodes) → AreFormed (before xs rest) → AreFormed rest
formed_after [] rest formed = formed
formed_after (x ∷ xs) rest formed = formed_after xs rest formed.1

pub request_takes : (n : Node) (r : RequestValue) → IsFormed n → request_of n ≡ Some r → IsRequest r
    × ((s : Stated) × (n ≡ time_stamp_req s r))
unfolding request_of
request_takes n r formed e =
    option_and_then_some _ (components_of 48 n) r e (λ members e1 r1.
    option_and_then_some _ (first_of members) r r1 (λ first e2 r2.
    option_and_then_some _ (integer_of first.0) r r2 (λ version e3 r3.
    option_and_then_some _ (first_of first.1) r r3 (λ second e4 r4.
    option_and_then_some _ (imprint_of second.0) r r4 (λ imprint e5 r5.
    option_and_then_some _ (optional_at 6 oid_in second.1) r r5 (λ policy e6 r6.
    option_and_then_some _ (optional_at 2 integer_of policy.1) r r6 (λ nonce e7 r7.
    option_and_then_some _ (flag_at true nonce.1) r r7 (λ cert_req e8 r8.
    option_and_then_some _ (extensions_at true 160 cert_req.1) r r8 (λ extensions e9 r9.
    let is_n = components_takes 48 n members e1 in
    let is_members = front_takes members first e2 in
    let is_rest = front_takes first.1 second e4 in
    let all_formed : AreFormed members = (subst IsFormed is_n formed).2 in
    let both_formed : IsFormed first.0 × AreFormed first.1 = subst AreFormed is_members all_formed in
    let rest_formed : IsFormed second.0 × AreFormed second.1 = subst AreFormed is_rest both_formed.1 in
    let is_version = integer_takes first.0 version both_formed.0 e3 in
    let of_imprint = imprint_takes second.0 imprint e5 in
    let of_policy = optional_takes 6 oid_in object_identifier IsOid second.1 policy e6 (λ m x p q. oid_takes m x q) in
    let policy_formed : AreFormed policy.1 =
    formed_after (optional object_identifier policy.0) policy.1 (subst AreFormed of_policy.1 rest_formed.1) in
    let of_nonce = optional_takes 2 integer_of integer (λ x. Unit {0}) policy.1 nonce e7
    (λ m x p q. (tt, integer_takes m x (subst AreFormed p policy_formed).0 q)) in
    let of_flag = flag_takes true nonce.1 cert_req e8 in
    let of_extensions = extensions_at_takes true 160 cert_req.1 extensions e9 in
    let end = only_takes extensions.1 _ r r9 in
    let found : RequestValue = record {
      version = version;
      imprint = imprint;
      policy = policy.0;
      nonce =
          nonce.0;
      cert_req = cert_req.0;
      extensions = extensions.0;
    } in
    let s : Stated = record { cert_req = of_flag.0; critical = of_extensions.1.0 } in
    let whole : n ≡ time_stamp_req s found =
    is_n ∙ ap (constructed 48) (is_members ∙ ap (λ x. node x first.1) is_version ∙ ap (node (integer version)) (is_rest
    ∙ ap (λ x. node x second.1) of_imprint.1 ∙ ap (node (message_imprint imprint)) (of_policy.1
    ∙ ap (before (optional object_identifier policy.0))
    (of_nonce.1 ∙ ap (before (optional integer nonce.0)) (of_flag.1.1
    ∙ ap (before (false_by_default of_flag.0 cert_req.0))
    (of_extensions.1.1.1 ∙ ap (before (extensions_under 160 of_extensions.1.0 extensions.0)) end.0
    ∙ before-none (extensions_under 160 of_extensions.1.0 extensions.0)))) ∙ sym (request_tail s found)))) in
    let proper : IsRequest found = record {
      algorithm = of_imprint.0;
      policy = of_policy.0;
      extensions =
          of_extensions.0;
    } in
    (subst IsRequest end.1 proper, (s, whole ∙ ap (time_stamp_req s) end.1)))))))))))
