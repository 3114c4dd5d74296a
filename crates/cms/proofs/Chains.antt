-- Certificates one after the other: what octets begin with, and that a chain's are told apart in one way.
use Rattle.std.proofs.Common.{◌≡◌, ℕ, zero, suc, ◌+◌, ◌<◌, ◌≤◌, Bool, true, false, List, [], ◌∷◌, ◌++◌, ◌⊎◌, inl, inr}
use Rattle.std.proofs.Common.{length, map, drop, refl, sym, ap, ◌∙◌, subst, append_assoc, length-append, arith}
use mathlib.Core.Logic.{⊎_elim}
use Rattle.std.specs.Prelude.{◌↔◌, ◌==◌, IsTrue, Result, Ok, Err, IfOk, IfErr, MatchResult}
use Rattle.std.proofs.{Common.IsErrAnd, lemmas.Bool.eqb-true, Math.Seq.drop-append_seam}
use Rattle.std.specs.{Bool.MatchBool, List.AllByRecursion, List.AllWithin, List.Contains, List.HoldsAt}
use Rattle.std.proofs.lemmas.List.{length-map, get_or-map, Elements.Contains-append_right, Elements.Contains-push_cases}
use Rattle.der.specs.Node.{element, encodings, node, IsLowTag}
use Rattle.cms.specs.Certificate.{CertificateParts, IsCertificate, identity_of, identity_with, tbs_certificate}
use Rattle.cms.specs.Chain.{IsShortCertificate, AreApart, AreFurtherCertificates, IsElement, BeginsWith, IsRefused}
use Rattle.cms.specs.{Chain.IsChainFault, Chain.IsFirstFault, Grammar.joined, Identity.IdentityValue}
use Rattle.cms.{specs.auxiliary.ChainView.IsTaken, specs.declared.fault.CmsFault.CmsFault, proofs.Texts.joined-append}
use Rattle.cms.specs.declared.fault.CmsFault.TheVariants.{NotCertificate, TooLarge, Memory, TooMany, Repeated}

-- octets begin with one element at most
abbrev pub OneBeginning : Type 0
OneBeginning =
    (i j : ℕ) (contents others x y : List ℕ) → IsLowTag i → IsLowTag j → length contents < 16777216
    → length others < 16777216 → element i contents ++ x ≡ element j others ++ y
    → (i ≡ j) × (contents ≡ others) × (x ≡ y)

pub same_front : OneBeginning → (a b x y : List ℕ) → IsElement a → IsElement b → a ++ x ≡ b ++ y → (a ≡ b) × (x ≡ y)
same_front law a b x y p q e =
    let both = law p.identifier q.identifier p.contents q.contents x y p.low q.low p.short q.short
    (ap (λ w. w ++ x) (sym p.is) ∙ e ∙ ap (λ w. w ++ y) q.is) in
    (p.is ∙ ap (λ i. element i p.contents) both.0 ∙ ap (element q.identifier) both.1 ∙ sym q.is, both.2)

pub certificate_is_element : (c : List ℕ) → IsShortCertificate c → IsElement c
certificate_is_element c h =
    let p = h.parts in
    record {
      identifier = 48;
      contents = encodings (node (tbs_certificate p) p.after);
      low = (omega arith, omega arith);
      short = h.is.lawful.formed.3;
      is = h.is.encoded;
    }

-- a certificate has octets
pub certificate_some : (c : List ℕ) → IsShortCertificate c → 1 ≤ length c
certificate_some c h = let e = ap length (certificate_is_element c h).is in omega (arith, e)

-- Where a chain of certificates begins with others, the rest are those after them.
pub prefix_of : OneBeginning → (xs ys : List (List ℕ)) (rest : List ℕ) → AllByRecursion IsShortCertificate xs
    → AllByRecursion IsShortCertificate ys → joined ys ≡ joined xs ++ rest
    → (later : List (List ℕ)) × (ys ≡ xs ++ later) × (rest ≡ joined later)
prefix_of law [] ys rest a b e = (ys, refl, sym e)
prefix_of law (x ∷ xs) [] rest a b e =
    let some = certificate_some x a.0 in
    let count = ap length e ∙ length-append (x ++ joined xs) rest
    ∙ ap (λ k. k + length rest) (length-append x (joined xs)) in
    absurd (omega (arith, some, count))
prefix_of law (x ∷ xs) (y ∷ ys) rest a b e =
    let front = same_front law y x (joined ys) (joined xs ++ rest) (certificate_is_element y b.0)
    (certificate_is_element x a.0) (e ∙ append_assoc x (joined xs) rest) in
    let (later, is, left) = prefix_of law xs ys rest a.1 b.1 front.1 in
    (later, ap (λ c. c ∷ ys) front.0 ∙ ap (λ cs. x ∷ cs) is, left)

-- certificates that are joined to nothing are none
pub none_joined : (ys : List (List ℕ)) → AllByRecursion IsShortCertificate ys → [] ≡ joined ys → ys ≡ []
none_joined [] h e = refl
none_joined (y ∷ ys) h e =
    let some = certificate_some y h.0 in
    absurd (omega (arith, some, ap length e ∙ length-append y (joined ys)))

after_of : (xs ys : List (List ℕ)) → AllByRecursion IsShortCertificate (xs ++ ys) → AllByRecursion IsShortCertificate ys
after_of [] ys h = h
after_of (x ∷ xs) ys h = after_of xs ys h.1

append-none : (xs : List (List ℕ)) → xs ++ [] ≡ xs
append-none [] = refl
append-none (x ∷ xs) = ap (λ l. x ∷ l) (append-none xs)

append_nothing : (w : List ℕ) → w ++ [] ≡ w
append_nothing [] = refl
append_nothing (o ∷ w) = ap (λ l. o ∷ l) (append_nothing w)

-- octets are the certificates of one list at most
pub same_chain : OneBeginning → (xs ys : List (List ℕ)) → AllByRecursion IsShortCertificate xs
    → AllByRecursion IsShortCertificate ys → joined ys ≡ joined xs → ys ≡ xs
same_chain law xs ys a b e =
    let (later, is, left) = prefix_of law xs ys [] a b (e ∙ sym (append_nothing (joined xs))) in
    let none = none_joined later (after_of xs later (subst (AllByRecursion IsShortCertificate) is b)) left in
    is ∙ ap (λ l. xs ++ l) none ∙ append-none xs

-- ---- which stand twice

-- octets with a value that a search has found, or not, among others
pub tells_among : {A : Type 0} (view : A → List ℕ) (xs : List A) (c : List ℕ) (r : Bool)
    → MatchBool r ((k : ℕ) × (k < length xs) × HoldsAt (λ x. view x ≡ c) xs k)
    (AllWithin (λ x. view x ≡ c → ⊥) xs 0 (length xs)) → IsTrue r ↔ Contains (map view xs) c
tells_among view xs c true h = (λ _. found_among view xs c h, λ _. refl)
  where
    found_among : {A : Type 0} (view : A → List ℕ) (xs : List A) (c : List ℕ)
        → (k : ℕ) × (k < length xs) × HoldsAt (λ x. view x ≡ c) xs k → Contains (map view xs) c
    found_among view [] c h = absurd (omega (arith, h.1))
    found_among view (x ∷ xs) c h =
        (h.0, omega (arith, h.1, length-map (x ∷ xs) view), get_or-map view (x ∷ xs) h.0 x c h.1 ∙ h.2 x)
tells_among view [] c false h = (λ e. absurd (cc e), λ among. absurd (omega (arith, among.1)))
tells_among view (x ∷ xs) c false h = (
  λ e. absurd (cc e),
  λ among.
      (let within : among.0 < length (x ∷ xs) = omega (arith, among.1, length-map (x ∷ xs) view) in
      absurd (h among.0 x (omega arith) within (sym (get_or-map view (x ∷ xs) among.0 x c within) ∙ among.2))),
)

contains_more : (y : List ℕ) (ys : List (List ℕ)) (c : List ℕ) → Contains ys c → Contains (y ∷ ys) c
contains_more y ys c h = (suc h.0, omega (arith, h.1), h.2)

pub apart_more : (xs : List (List ℕ)) (c : List ℕ) → AreApart xs → (Contains xs c → ⊥) → AreApart (xs ++ c ∷ [])
apart_more [] c apart new = (λ h. absurd (omega (arith, h.1)), tt)
apart_more (x ∷ xs) c apart new = (
  λ h. ⊎_elim (λ among. apart.0 among)
      (λ same. new (subst (Contains (x ∷ xs)) (sym same) (zero, omega arith, refl)))
      (Contains-push_cases xs c x h),
  apart_more xs c apart.1 (λ h. new (contains_more x xs c h)),
)

apart_from : (xs later : List (List ℕ)) (c : List ℕ) → AreApart (xs ++ (c ∷ later)) → Contains xs c → ⊥
apart_from [] later c apart h = absurd (omega (arith, h.1))
apart_from (x ∷ xs) later c apart (zero, within, same) =
    apart.0 (subst (Contains (xs ++ (c ∷ later))) (sym same)
    (Contains-append_right xs (c ∷ later) c (zero, omega arith, refl)))
apart_from (x ∷ xs) later c apart (suc k, within, same) = apart_from xs later c apart.1 (k, omega (arith, within), same)

-- ---- a certificate that goes with those before it isn't refused

begins : (c : List ℕ) (later : List (List ℕ)) (rest : List ℕ) → IsShortCertificate c → rest ≡ c ++ joined later
    → BeginsWith rest c
begins c later rest h is = record { rest = joined later; front = certificate_is_element c h; split = is }

only_beginning : OneBeginning → (c first rest : List ℕ) (later : List (List ℕ)) → IsShortCertificate c
    → rest ≡ c ++ joined later → BeginsWith rest first → first ≡ c
only_beginning law c first rest later h is b =
    (same_front law first c b.rest (joined later) b.front (certificate_is_element c h) (sym b.split ∙ is)).0

refused_not : OneBeginning → (before later : List (List ℕ)) (c rest : List ℕ) (fault : CmsFault) → IsShortCertificate c
    → AreApart (before ++ (c ∷ later)) → length (before ++ (c ∷ later)) ≤ 4 → rest ≡ c ++ joined later
    → IsRefused before rest fault → ⊥
refused_not law before later c rest TooMany h apart few is refused =
    absurd (omega (arith, refused, few, length-append before (c ∷ later)))
refused_not law before later c rest TooLarge h apart few is (left, (first, front, long)) =
    let same = only_beginning law c first rest later h is front in
    absurd (omega (arith, h.short, long, ap length same))
refused_not law before later c rest NotCertificate h apart few is refused =
    (refused.1 c (begins c later rest h is)).1 h
refused_not law before later c rest Repeated h apart few is (left, (first, front, short, among)) =
    let same = only_beginning law c first rest later h is front in
    apart_from before later c apart (subst (Contains before) same among)
refused_not law before later c rest Memory h apart few is refused = absurd refused

left_over : OneBeginning → (signer : List ℕ) (further before later : List (List ℕ)) (rest : List ℕ) (fault : CmsFault)
    → AreFurtherCertificates signer further → further ≡ before ++ later → rest ≡ joined later → (rest ≡ [] → ⊥)
    → IsRefused (signer ∷ before) rest fault → ⊥
left_over law signer further before [] rest fault fits is left some refused = some left
left_over law signer further before (c ∷ later) rest fault fits is left some refused =
    let all = subst (AllByRecursion IsShortCertificate) is fits.each in
    let apart = subst (λ l. AreApart (signer ∷ l)) is fits.apart in
    let count : length (before ++ (c ∷ later)) ≤ 3 = omega (arith, fits.few, ap length is) in
    refused_not law (signer ∷ before) later c rest fault (after_of before (c ∷ later) all).0 apart
    (omega (arith, count)) left refused

-- a chain of certificates that go with a signer's has no fault
pub no_chain_fault : OneBeginning → (signer chain : List ℕ) (further : List (List ℕ)) (fault : CmsFault)
    → AreFurtherCertificates signer further → chain ≡ joined further → IsChainFault signer chain fault → ⊥
no_chain_fault law signer chain further fault fits is k =
    let (later, same, left) = prefix_of law k.further further k.rest k.fitting.each fits.each (sym is ∙ k.split) in
    left_over law signer further k.further later k.rest fault fits same left k.left k.refused

-- ---- one more certificate is taken

-- certificates behind the signer's, and the octets of a chain that are left
pub record HaveTaken (signer chain : List ℕ) (certificates : List (List ℕ)) (rest : List ℕ) : Type 0 where
  pub further : List (List ℕ)
  pub fits : AreFurtherCertificates signer further
  pub split : chain ≡ joined further ++ rest
  pub are : certificates ≡ signer ∷ further

pub none_taken : (signer chain : List ℕ) → HaveTaken signer chain (signer ∷ []) chain
none_taken signer chain = record {
  further = [];
  fits = record { few = omega arith; each = tt; apart = (λ h. absurd (omega (arith, h.1)), tt) };
  split = refl;
  are = refl;
}

-- the certificate at the front is taken off the octets
pub is_taken : (before after : List (List ℕ)) (chain first rest : List ℕ) → length before < 4
    → (Contains before first → ⊥) → BeginsWith chain first → IsShortCertificate first
    → rest ≡ drop (length first) chain → after ≡ before ++ first ∷ [] → IsTaken before chain after rest
is_taken before after chain first rest few new begins short left more = record {
  certificate = first;
  is = short;
  few = few;
  new = new;
  split = begins.split ∙ ap (λ w. first ++ w)
      (sym (left ∙ ap (drop (length first)) begins.split ∙ drop-append_seam first begins.rest));
  more = more;
}

all_push : (xs : List (List ℕ)) (c : List ℕ) → AllByRecursion IsShortCertificate xs → IsShortCertificate c
    → AllByRecursion IsShortCertificate (xs ++ c ∷ [])
all_push [] c h is = (is, tt)
all_push (x ∷ xs) c h is = (h.0, all_push xs c h.1 is)

nothing_after : (c : List ℕ) → joined (c ∷ []) ≡ c
nothing_after [] = refl
nothing_after (o ∷ c) = ap (λ l. o ∷ l) (nothing_after c)

pub one_taken : (signer chain : List ℕ) (before after : List (List ℕ)) (rest left : List ℕ)
    → HaveTaken signer chain before rest → IsTaken before rest after left → HaveTaken signer chain after left
one_taken signer chain before after rest left h t =
    let c = t.certificate in
    let count : length (signer ∷ h.further) < 4 = omega (arith, t.few, ap length h.are) in
    record {
      further = h.further ++ c ∷ [];
      fits = record {
        few = omega (arith, count, length-append h.further (c ∷ []));
        each = all_push h.further c h.fits.each t.is;
        apart = apart_more (signer ∷ h.further) c h.fits.apart (subst (λ l. Contains l c → ⊥) h.are t.new);
      };
      split = h.split ∙ ap (λ w. joined h.further ++ w) t.split ∙ sym (append_assoc (joined h.further) c left)
          ∙ ap (λ w. (joined h.further ++ w) ++ left) (sym (nothing_after c))
          ∙ ap (λ w. w ++ left) (sym (joined-append h.further (c ∷ [])));
      are = t.more ∙ ap (λ l. l ++ c ∷ []) h.are;
    }

pub is_chain_fault : (signer chain : List ℕ) (before : List (List ℕ)) (rest : List ℕ) (fault : CmsFault)
    → HaveTaken signer chain before rest → (rest ≡ [] → ⊥) → IsRefused before rest fault
    → IsChainFault signer chain fault
is_chain_fault signer chain before rest fault h left refused = record {
  further = h.further;
  rest = rest;
  fitting = h.fits;
  split = h.split;
  left = left;
  refused = subst (λ l. IsRefused l rest fault) h.are refused;
}

-- what is answered where the next certificate is refused
pub refused_so : {X : Type 0} (signer chain : List ℕ) (r : Result X CmsFault) (fault : CmsFault)
    → IsErrAnd r (λ own. own ≡ fault) → (fault ≡ Memory) ⊎ IsChainFault signer chain fault
    → IfErr r (λ own. (own ≡ Memory) ⊎ IsChainFault signer chain own)
refused_so signer chain (Ok x) fault is h = absurd is
refused_so signer chain (Err own) fault is h =
    subst (λ f. (f ≡ Memory) ⊎ IsChainFault signer chain f) (sym is) h

-- where the chain has no fault, memory ran out
pub only_memory : {X : Type 0} (P : X → Type 0) (signer chain : List ℕ) (further : List (List ℕ))
    (r : Result X CmsFault) (fault : CmsFault) → OneBeginning → AreFurtherCertificates signer further
    → chain ≡ joined further
    → IsErrAnd r (λ own. own ≡ fault) → (fault ≡ Memory) ⊎ IsChainFault signer chain fault
    → MatchResult r P (λ own. own ≡ Memory)
only_memory P signer chain further (Ok x) fault law fits is own h = absurd own
only_memory P signer chain further (Err f) fault law fits is own h =
    own ∙ ⊎_elim (λ memory. memory) (λ k. absurd (no_chain_fault law signer chain further fault fits is k)) h

-- how a refused entry refuses the chain
pub at_this_entry : (signer chain : List ℕ) (before : List (List ℕ)) (rest : List ℕ) (fault : CmsFault)
    → HaveTaken signer chain before rest → false ≡ (length rest == 0) → (fault ≡ Memory) ⊎ IsRefused before rest fault
    → (fault ≡ Memory) ⊎ IsChainFault signer chain fault
at_this_entry signer chain before rest fault h left told =
    ⊎_elim inl (λ refused. inr (is_chain_fault signer chain before rest fault h (is_left rest left) refused)) told
  where
    is_left : (rest : List ℕ) → false ≡ (length rest == 0) → rest ≡ [] → ⊥
    is_left [] e none = cc
    is_left (o ∷ rest) e none = cc

-- the whole chain was taken
pub all_taken : (signer chain : List ℕ) (certificates further : List (List ℕ)) (rest : List ℕ) → OneBeginning
    → HaveTaken signer chain certificates rest → true ≡ (length rest == 0) → AreFurtherCertificates signer further
    → chain ≡ joined further → certificates ≡ signer ∷ further
all_taken signer chain certificates further [] law h end fits is =
    let whole : joined further ≡ joined h.further = sym is ∙ h.split ∙ append_nothing (joined h.further) in
    h.are ∙ ap (λ l. signer ∷ l) (sym (same_chain law h.further further h.fits.each fits.each whole))
all_taken signer chain certificates further (o ∷ rest) law h end fits is =
    let none : length (o ∷ rest) ≡ 0 = eqb-true (length (o ∷ rest)) 0 (sym end) in
    absurd (omega (arith, none))

-- ---- the identity

-- a fault behind the signer's certificate is the first
pub behind_signer : (signer chain : List ℕ) (fault : CmsFault) → IsShortCertificate signer
    → (fault ≡ Memory) ⊎ IsChainFault signer chain fault → IsFirstFault signer chain fault
behind_signer signer chain Memory short h = short
behind_signer signer chain NotCertificate short h = ⊎_elim (λ m. absurd (cc m)) (λ k. inr (short, k)) h
behind_signer signer chain TooLarge short h = ⊎_elim (λ m. absurd (cc m)) (λ k. inr (short, k)) h
behind_signer signer chain TooMany short h = ⊎_elim (λ m. absurd (cc m)) (λ k. inr (short, k)) h
behind_signer signer chain Repeated short h = ⊎_elim (λ m. absurd (cc m)) (λ k. inr (short, k)) h

pub first_fault : {X : Type 0} (signer chain : List ℕ) (r : Result X CmsFault) (fault : CmsFault)
    → IsErrAnd r (λ own. own ≡ fault) → IsShortCertificate signer → (fault ≡ Memory) ⊎ IsChainFault signer chain fault
    → IfErr r (IsFirstFault signer chain)
first_fault signer chain (Ok x) fault is short h = absurd is
first_fault signer chain (Err own) fault is short h =
    subst (IsFirstFault signer chain) (sym is) (behind_signer signer chain fault short h)

-- an empty chain has no certificates
pub alone : (signer : List ℕ) → AreFurtherCertificates signer []
unfolding none_taken
alone signer = (none_taken signer []).fits

pub found_alone : (octets : List ℕ) (r : Result IdentityValue CmsFault)
    → IfOk r (λ identity. (p : CertificateParts) × (further : List (List ℕ)) × IsCertificate octets p
    × (length octets ≤ 16384) × AreFurtherCertificates octets further × ([] ≡ joined further)
    × (identity ≡ identity_with octets further p))
    → IfOk r (λ identity. (p : CertificateParts) × (IsCertificate octets p × (identity ≡ identity_of octets p)))
found_alone octets (Ok identity) h =
    let none = none_joined h.1 h.4.each h.5 in
    (h.0, (h.2, h.6 ∙ ap (λ further. identity_with octets further h.0) none))
found_alone octets (Err fault) h = tt
