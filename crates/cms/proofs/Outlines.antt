-- A certificate's and an algorithm's values are read as their parts, and what is read so is such a value.
use Rattle.std.proofs.Common.{◌≡◌, ℕ, Bool, true, false, cond, ◌&&◌, List, Option, Some, None, refl, sym, ap, ◌∙◌, ◌≤◌}
use Rattle.std.proofs.Common.{suc, leb, subst, eqb, arith}
use Rattle.std.specs.Option.{option_map, is_some, IfSome, MatchOption}
use Rattle.std.specs.Prelude.{◌↔◌, Result, Ok, Err, is_ok}
use Rattle.std.proofs.lemmas.{List.append-nil, Bool.eqb-true, Bool.leb-true, Bool.Decides.nat_tests}
use Rattle.der.specs.{DataValue.AreEncodings, DataValue.values_in, declared.fault.DerFault.DerFault, Number.is_shortest}
use Rattle.der.specs.Node.{encodings, Node, primitive, constructed, Nodes, no_nodes, node, contents_of, components_of}
use Rattle.der.specs.Node.{identifier_of, first_of, levels, levels_of, IsFormed, AreFormed, IsLawful, encoding}
use Rattle.std.proofs.lemmas.Option.{option_and_then_some, cond_some, none-some, same_Some}
use Rattle.der.specs.ObjectIdentifier.{oid_of, oid_content, IsOid}
use Rattle.cms.specs.Certificate.{CertificateParts, with_version, serial_number, subject_name, after_serial}
use Rattle.cms.specs.Certificate.{after_issuer, certificate, IsCertificate, optional, algorithm_identifier, IsAlgorithm}
use Rattle.cms.specs.auxiliary.Outline.{Outline, outline, sequence_at, subject_at, serial_at, after_version, outline_of}
use Rattle.cms.specs.auxiliary.Outline.{is_optional, algorithm_of}

contents_takes : (tag : ℕ) (n : Node) (c : List ℕ) → contents_of tag n ≡ Some c → n ≡ primitive tag c
contents_takes tag (primitive t d) c e =
    let p = cond_some (eqb t tag) d c e in
    let same : t ≡ tag = eqb-true t tag p.0 in
    cc
contents_takes tag (constructed t ns) c e = cc

components_takes : (tag : ℕ) (n : Node) (ns : Nodes) → components_of tag n ≡ Some ns → n ≡ constructed tag ns
components_takes tag (primitive t d) ns e = cc
components_takes tag (constructed t ms) ns e =
    let p = cond_some (eqb t tag) ms ns e in
    let same : t ≡ tag = eqb-true t tag p.0 in
    cc

front_takes : (ns : Nodes) (found : Node × Nodes) → first_of ns ≡ Some found → ns ≡ node found.0 found.1
front_takes no_nodes found e = cc
front_takes (node first others) found e = cc

sequence_takes : (ns : Nodes) (found : Node × Nodes) → sequence_at ns ≡ Some found
    → (inside : Nodes) × (ns ≡ node (constructed 48 inside) found.1) × (found.0 ≡ constructed 48 inside)
unfolding sequence_at
sequence_takes ns found e = option_and_then_some _ (first_of ns) found e (λ first e1 r1.
    option_and_then_some _ (components_of 48 first.0) found r1 (λ inside e2 r2.
    let same : first ≡ found = cc in
    let is = components_takes 48 first.0 inside e2 in
    let front = front_takes ns first e1 in (
      inside,
      front ∙ ap (λ n. node n first.1) is ∙ ap (λ (f : Node × Nodes). node (constructed 48 inside) f.1) same,
      sym (ap (λ (f : Node × Nodes). f.0) same) ∙ is,
    )))

subject_takes : (ns : Nodes) (found : Node × Nodes) → subject_at ns ≡ Some found
    → (inside : Nodes) × (ns ≡ node (constructed 48 inside) found.1) × (found.0 ≡ constructed 48 inside)
    × (levels (constructed 48 inside) ≤ 29)
unfolding subject_at
subject_takes ns found e = option_and_then_some _ (sequence_at ns) found e (λ first e1 r1.
    let test = cond_some (leb (levels first.0) 29) first found r1 in
    let (inside, front, at) = sequence_takes ns first e1 in (
      inside,
      front ∙ ap (λ (f : Node × Nodes). node (constructed 48 inside) f.1) test.1,
      sym (ap (λ (f : Node × Nodes). f.0) test.1) ∙ at,
      subst (λ n. levels n ≤ 29) at (leb-true (levels first.0) 29 test.0),
    ))

-- ---- how many levels a value has, by its octets

deep_of_octets : (octets : List ℕ) (n : Node) → IsLawful n → octets ≡ encoding n
    → ((ns : Nodes) → AreFormed ns → levels_of ns ≤ 32 → values_in (encodings ns) ≡ ns) → AreEncodings 29 octets
    → levels n ≤ 29
deep_of_octets octets n lawful is law e =
    let one : Nodes = node n no_nodes in
    let same : e.values ≡ one = sym (law e.values e.formed (omega (arith, e.depth)))
    ∙ ap values_in (sym e.encoded ∙ is ∙ sym (append-nil (encoding n)))
    ∙ law one (lawful.formed, tt) (omega (arith, lawful.depth)) in
    let depth : levels_of one ≤ 29 = subst (λ ns. levels_of ns ≤ 29) same e.depth in
    omega (arith, depth)

octets_of_shallow : (octets : List ℕ) (n : Node) → IsLawful n → octets ≡ encoding n → levels n ≤ 29
    → AreEncodings 29 octets
octets_of_shallow octets n lawful is few = record {
  values = node n no_nodes;
  formed = (lawful.formed, tt);
  depth = omega (arith, few);
  encoded = is ∙ sym (append-nil (encoding n));
}

is_unit : {E : Type 0} (r : Result (Unit {0}) E) → is_ok r ≡ true → r ≡ Ok tt
is_unit (Ok u) e = refl
is_unit (Err f) e = cc

-- what a check of its octets tells
pub shallow_told : (octets : List ℕ) (n : Node) (r : Result (Unit {0}) DerFault) → IsLawful n → octets ≡ encoding n
    → ((ns : Nodes) → AreFormed ns → levels_of ns ≤ 32 → values_in (encodings ns) ≡ ns)
    → (r ≡ Ok tt) ↔ AreEncodings 29 octets → is_ok r ≡ leb (levels n) 29
shallow_told octets n r lawful is law told = by_test (is_ok r) (leb (levels n) 29) refl refl
  where
    by_test : (a b : Bool) → is_ok r ≡ a → leb (levels n) 29 ≡ b → a ≡ b
    by_test true true e g = refl
    by_test false false e g = refl
    by_test true false e g =
        let few = deep_of_octets octets n lawful is law (told.0 (is_unit r e)) in
        let test : leb (levels n) 29 ≡ true = grind (arith, nat_tests) in
        sym test ∙ g
    by_test false true e g =
        sym e ∙ ap is_ok (told.1 (octets_of_shallow octets n lawful is (leb-true (levels n) 29 g)))

serial_takes : (ns : Nodes) (found : Node × Nodes) → serial_at ns ≡ Some found
    → (octets : List ℕ) × (ns ≡ node (primitive 2 octets) found.1) × (found.0 ≡ primitive 2 octets)
    × (is_shortest octets ≡ true)
unfolding serial_at
serial_takes ns found e = option_and_then_some _ (first_of ns) found e (λ first e1 r1.
    option_and_then_some _ (contents_of 2 first.0) found r1 (λ octets e2 r2.
    let test = cond_some (is_shortest octets) first found r2 in
    let is = contents_takes 2 first.0 octets e2 in
    let front = front_takes ns first e1 in (
      octets,
      front ∙ ap (λ n. node n first.1) is ∙ ap (λ (f : Node × Nodes). node (primitive 2 octets) f.1) test.1,
      sym (ap (λ (f : Node × Nodes). f.0) test.1) ∙ is,
      test.0,
    )))

under_zero : (n : Node) → identifier_of n ≡ 160 → IsFormed n → (inside : Nodes) × (n ≡ constructed 160 inside)
under_zero (primitive t c) e formed = absurd (omega (arith, e, formed.1))
under_zero (constructed t inside) e formed = (inside, ap (λ x. constructed x inside) e)

version_cases : (b : Bool) (first : Node) (others : Nodes)
    → (b ≡ true → (inside : Nodes) × (first ≡ constructed 160 inside))
    → (version : Option Nodes)
    × (node first others
    ≡ with_version version (cond {A = Option Node × Nodes} b (Some first, others) (None, node first others)).1)
version_cases true first others is = let under = is refl in (Some under.0, ap (λ n. node n others) under.1)
version_cases false first others is = (None, refl)

version_takes : (ns : Nodes) → AreFormed ns → (version : Option Nodes) × (ns ≡ with_version version (after_version ns))
unfolding after_version
version_takes no_nodes formed = (None, refl)
version_takes (node first others) formed =
    version_cases (eqb (identifier_of first) 160) first others
    (λ e. under_zero first (eqb-true (identifier_of first) 160 e) formed.0)

-- What is read as an outline is the outline of a certificate's parts.
pub outline_takes : (n : Node) (found : Outline) → IsFormed n → outline_of n ≡ Some found
    → (p : CertificateParts) × (n ≡ certificate p) × (is_shortest p.serial ≡ true) × (found ≡ outline p)
    × (levels (subject_name p) ≤ 29)
unfolding outline_of
outline_takes n found formed e = option_and_then_some _ (components_of 48 n) found e (λ members e1 r1.
    option_and_then_some _ (first_of members) found r1 (λ tbs e2 r2.
    option_and_then_some _ (components_of 48 tbs.0) found r2 (λ inside e3 r3.
    option_and_then_some _ (serial_at (after_version inside)) found r3 (λ serial e4 r4.
    option_and_then_some _ (sequence_at serial.1) found r4 (λ signature e5 r5.
    option_and_then_some _ (sequence_at signature.1) found r5 (λ issuer e6 r6.
    option_and_then_some _ (sequence_at issuer.1) found r6 (λ validity e7 r7.
    option_and_then_some _ (subject_at validity.1) found r7 (λ subject e8 r8.
    let outer = components_takes 48 n members e1 in
    let front = front_takes members tbs e2 in
    let within = components_takes 48 tbs.0 inside e3 in
    let whole : n ≡ constructed 48 (node (constructed 48 inside) tbs.1) =
    outer ∙ ap (constructed 48) (front ∙ ap (λ x. node x tbs.1) within) in
    let all_formed = subst IsFormed whole formed in
    let version = version_takes inside all_formed.2.0.2 in
    let (digits, is_serial, at_serial, shortest) = serial_takes (after_version inside) serial e4 in
    let (in_signature, is_signature, at_signature) = sequence_takes serial.1 signature e5 in
    let (in_issuer, is_issuer, at_issuer) = sequence_takes signature.1 issuer e6 in
    let (in_validity, is_validity, at_validity) = sequence_takes issuer.1 validity e7 in
    let (in_subject, is_subject, at_subject, shallow) = subject_takes validity.1 subject e8 in
    let p : CertificateParts = record {
      version = version.0;
      serial = digits;
      signature = in_signature;
      issuer = in_issuer;
      validity = in_validity;
      subject = in_subject;
      further = subject.1;
      after = tbs.1;
    } in
    let from_validity : issuer.1 ≡ after_issuer p = is_validity ∙ ap (node (constructed 48 in_validity)) is_subject in
    let from_signature : serial.1 ≡ after_serial p =
    is_signature ∙ ap (node (constructed 48 in_signature)) (is_issuer
    ∙ ap (node (constructed 48 in_issuer)) from_validity) in
    let from_serial : after_version inside ≡ node (serial_number p) (after_serial p) =
    is_serial ∙ ap (node (primitive 2 digits)) from_signature in
    let tbs_is : inside ≡ with_version version.0 (node (serial_number p) (after_serial p)) =
    version.1 ∙ ap (with_version version.0) from_serial in
    let certificate_is : n ≡ certificate p = whole ∙ ap (λ x. constructed 48 (node (constructed 48 x) tbs.1)) tbs_is in
    let read : Outline =
    record {
      serial = serial.0;
      after_serial = serial.1;
      issuer = issuer.0;
      after_issuer = issuer.1;
      subject = subject.0;
      after_subject = subject.1;
      after = tbs.1;
    } in
    let found_is : read ≡ found = cc in
    let outline_is : read ≡ outline p = cc in
    (p, certificate_is, shortest, sym found_is ∙ outline_is, shallow)))))))))

outline_version : (p : CertificateParts) (version : Option Nodes) → is_shortest p.serial ≡ true
    → leb (suc (levels_of p.subject)) 29 ≡ true
    → outline_of (constructed 48 (node (constructed 48 (with_version version (node (serial_number p) (after_serial p))))
    p.after)) ≡ Some (outline p)
unfolding outline_of serial_at sequence_at subject_at after_version
outline_version p None shortest shallow = rw (shortest, shallow) refl
outline_version p (Some inside) shortest shallow = rw (shortest, shallow) refl

pub outline_of-certificate : (p : CertificateParts) → is_shortest p.serial ≡ true → levels (subject_name p) ≤ 29
    → outline_of (certificate p) ≡ Some (outline p)
outline_of-certificate p shortest shallow =
    let few : suc (levels_of p.subject) ≤ 29 = shallow in
    let test : leb (suc (levels_of p.subject)) 29 ≡ true = grind (arith, nat_tests) in
    outline_version p p.version shortest test

optional_takes : (ns : Nodes) → is_optional ns ≡ true → (parameters : Option Node) × (ns ≡ optional parameters)
unfolding is_optional
optional_takes no_nodes e = (None, refl)
optional_takes (node value no_nodes) e = (Some value, refl)
optional_takes (node value (node second others)) e = cc

is_optional-optional : (parameters : Option Node) → is_optional (optional parameters) ≡ true
unfolding is_optional
is_optional-optional None = refl
is_optional-optional (Some value) = refl

both : (a b : Bool) → (a && b) ≡ true → (a ≡ true) × (b ≡ true)
both true b e = (refl, e)
both false b e = cc

pub algorithm_takes : (n : Node) → algorithm_of n ≡ Some tt
    → (octets : List ℕ) × (parameters : Option Node)
    × (n ≡ constructed 48 (node (primitive 6 octets) (optional parameters))) × (is_some (oid_of octets) ≡ true)
unfolding algorithm_of
algorithm_takes n e = option_and_then_some _ (components_of 48 n) tt e (λ members e1 r1.
    option_and_then_some _ (first_of members) tt r1 (λ first e2 r2.
    option_and_then_some _ (contents_of 6 first.0) tt r2 (λ octets e3 r3.
    let tests = both (is_some (oid_of octets)) (is_optional first.1)
    (cond_some (is_some (oid_of octets) && is_optional first.1) tt tt r3).0 in
    let rest = optional_takes first.1 tests.1 in
    let outer = components_takes 48 n members e1 in
    let front = front_takes members first e2 in
    let is = contents_takes 6 first.0 octets e3 in (
      octets,
      rest.0,
      outer
          ∙ ap (constructed 48) (front ∙ ap (λ x. node x first.1) is ∙ ap (node (primitive 6 octets)) rest.1),
      tests.0,
    ))))

pub algorithm_of-identifier : (octets : List ℕ) (parameters : Option Node) → is_some (oid_of octets) ≡ true
    → algorithm_of (constructed 48 (node (primitive 6 octets) (optional parameters))) ≡ Some tt
unfolding algorithm_of
algorithm_of-identifier octets parameters e = rw (e, is_optional-optional parameters) refl

-- ---- what an outline's reader answers, seen by a view

pub outline_found : {A : Type 0} (view : A → Outline) (r : Option A) (octets : List ℕ) (n : Node)
    → option_map view r ≡ outline_of n → IsLawful n → octets ≡ encoding n
    → IfSome r (λ found. (p : CertificateParts) × (IsCertificate octets p × (view found ≡ outline p)))
outline_found view None octets n e lawful is = tt
outline_found view (Some a) octets n e lawful is =
    let read = outline_takes n (view a) lawful.formed (sym e) in (
      read.0,
      (
        record {
          lawful = subst IsLawful read.1 lawful;
          encoded = is ∙ ap encoding read.1;
          shortest = read.2;
          shallow = read.4;
        },
        read.3,
      ),
    )

pub outline_only : {A : Type 0} (view : A → Outline) (r : Option A) (n : Node) (p : CertificateParts)
    → option_map view r ≡ outline_of n → n ≡ certificate p
    → is_shortest p.serial ≡ true → levels (subject_name p) ≤ 29
    → MatchOption r ⊥ (λ found. view found ≡ outline p)
outline_only view None n p e is shortest shallow =
    let all = e ∙ ap outline_of is ∙ outline_of-certificate p shortest shallow in none-some (outline p) all
outline_only view (Some a) n p e is shortest shallow =
    let all = e ∙ ap outline_of is ∙ outline_of-certificate p shortest shallow in same_Some (view a) (outline p) all

-- ---- algorithms

pub accepted : (r : Option (Unit {0})) → is_some r ≡ true → r ≡ Some tt
accepted None e = cc
accepted (Some unit) e = refl

some_of : {A : Type 0} (o : Option A) → is_some o ≡ true → (x : A) × (o ≡ Some x)
some_of None e = cc
some_of (Some x) e = (x, refl)

pub algorithm_found : ((octets oid : List ℕ) → oid_of octets ≡ Some oid → IsOid oid × (octets ≡ oid_content oid))
    → (octets : List ℕ) (n : Node) → IsLawful n → octets ≡ encoding n
    → algorithm_of n ≡ Some tt → IsAlgorithm octets
algorithm_found law octets n lawful is e =
    let read = algorithm_takes n e in
    let oid = some_of (oid_of read.0) read.3 in
    let content = law read.0 oid.0 oid.1 in
    let same : n ≡ algorithm_identifier oid.0 read.1 =
    read.2 ∙ ap (λ c. constructed 48 (node (primitive 6 c) (optional read.1))) content.1 in
    record {
      subidentifiers = oid.0;
      parameters = read.1;
      oid = content.0;
      lawful = subst IsLawful same lawful;
      encoded = is ∙ ap encoding same;
    }

pub algorithm_only : ((oid : List ℕ) → IsOid oid → oid_of (oid_content oid) ≡ Some oid)
    → (octets : List ℕ) (n : Node) (is : IsAlgorithm octets)
    → n ≡ algorithm_identifier is.subidentifiers is.parameters → algorithm_of n ≡ Some tt
algorithm_only law octets n is same =
    let known : is_some (oid_of (oid_content is.subidentifiers)) ≡ true = ap is_some (law is.subidentifiers is.oid) in
    ap algorithm_of same ∙ algorithm_of-identifier (oid_content is.subidentifiers) is.parameters known
