-- The code's tests tell the rules' sentences.
use Rattle.std.proofs.Common.{◌≡◌, ℕ, ◌≤◌, Bool, true, false, Option, Some, None, is_some, List, [], ◌∷◌, map, length}
use Rattle.std.proofs.Common.{◌&&◌, ◌||◌, ◌==◌, not, nat_le, option_map, String, Global, string_bytes, refl, sym, ap}
use Rattle.std.proofs.Common.{◌∙◌, subst, inl, inr, ◌⊎◌}
use Rattle.std.specs.{Prelude.Contains, Bool.Decides, Str.bytes_eq}
use Rattle.std.specs.List.{list_any, list_all, find, AllByRecursion}
use Rattle.std.proofs.lemmas.Bool.Decides.{Decides-like, Decides-or, Decides-and, Decides-not, Decides-eqb}
use Rattle.std.proofs.lemmas.{Bool.leb-true, Bool.le-leb, Slice.Eq.bytes_eq-Decides, Option.same_Some}
use Rattle.der.specs.ObjectIdentifier.{oid_content}
use Rattle.policy.specs.{Kinds.is_among, LookUp.policy_of_oid}
use Rattle.policy.specs.Record.{TsaPolicyValue, AccountValue, PolicyValue}
use Rattle.policy.specs.View.{algorithm_view, extension_view, tsa_policy_view, policy_view}
use Rattle.policy.specs.declared.{entries.Algorithm.Algorithm, entries.TsaPolicy.TsaPolicy, policy.Policy.Policy}
use Rattle.tsp.specs.{Rules.AlgorithmValue, Request.ExtensionValue}
use Rattle.decide.specs.Rules.{algorithms_of, IsAccepted, KnowsExtension, AreDistinct}
use Rattle.decide.specs.auxiliary.Tests.{lists_algorithm, knows_extension, knows_extensions, stands_once, stand_once}
use Rattle.decide.proofs.Lists.{contains_here, contains_there, contains_none, contains_first_or_other, decides_any}
use Rattle.decide.proofs.Lists.{decides_all, decides_found, found_passes, map_id}
use Rattle.policy.specs.Record as record_of

-- the contents of an object identifier tell it
abbrev pub OneContent : Type 0
OneContent = (a b : List ℕ) → oid_content a ≡ oid_content b → a ≡ b

pub decides_oid : OneContent → (a b content : List ℕ) → content ≡ oid_content b
    → Decides (bytes_eq (oid_content a) content) (a ≡ b)
decides_oid one a b content e =
    let d = bytes_eq-Decides (oid_content a) content in
    (λ t. one a b (d.0 t ∙ e), λ s. d.1 (ap oid_content s ∙ sym e))

name_forward : (x name : List ℕ) (xs : List (List ℕ)) → (x ≡ name) ⊎ Contains xs name → Contains (x ∷ xs) name
name_forward x name xs (inl e) = subst (λ y. Contains (x ∷ xs) y) e (contains_here x xs)
name_forward x name xs (inr h) = contains_there x name xs h

pub decides_among : (names : List (List ℕ)) (name : List ℕ) → Decides (is_among names name) (Contains names name)
decides_among [] name = (λ h. cc h, λ w. absurd (contains_none name w))
decides_among (x ∷ xs) name =
    Decides-like (is_among (x ∷ xs) name) (name_forward x name xs) (contains_first_or_other x name xs)
    (Decides-or (bytes_eq x name) (is_among xs name) (bytes_eq-Decides x name) (decides_among xs name))

pub map_map : {A B C : Type 0} (g : B → C) (f : A → B) (xs : List A) → map g (map f xs) ≡ map (λ x. g (f x)) xs
map_map g f [] = refl
map_map g f (x ∷ xs) = ap (λ ys. g (f x) ∷ ys) (map_map g f xs)

-- the algorithms as the rules see them
abbrev known : Algorithm → AlgorithmValue
known a = record { identifier = a.oid; hash_length = a.length }

pub algorithm_known : OneContent → (file : PolicyValue) (content identifier : List ℕ) → content ≡ oid_content identifier
    → Decides (list_any (λ a. bytes_eq (oid_content a.oid) content) file.algorithms)
    ((a : AlgorithmValue) × Contains (algorithms_of file) a × (a.identifier ≡ identifier))
algorithm_known one file content identifier e =
    decides_any (λ a. record { identifier = a.oid; hash_length = a.length }) (λ a. bytes_eq (oid_content a.oid) content)
    (λ a. a.identifier ≡ identifier)
    (λ a. decides_oid one a.oid identifier content e) file.algorithms

is_some_map : {A B : Type 0} (f : A → B) (o : Option A) → is_some (option_map f o) ≡ is_some o
is_some_map f None = refl
is_some_map f (Some x) = refl

-- what a look-up answered tells whether a test finds an element
pub look_up_tells : {A B : Type 0} (f : A → B) (test : B → Bool) (xs : List B) (o : Option A)
    → option_map f o ≡ find test xs → is_some o ≡ list_any test xs
look_up_tells f test xs o e = sym (is_some_map f o) ∙ ap is_some e ∙ decides_found test xs

decides_implies : {P Q : Type 0} (x y : Bool) → Decides x P → Decides y Q → Decides (not x || y) (P → Q)
decides_implies true y d e = (λ t p. e.0 t, λ f. e.1 (f (d.0 refl)))
decides_implies false y d e = (λ t p. let bad : false ≡ true = d.1 p in cc bad, λ f. refl)

eq_turned : (a b : ℕ) → Decides (a == b) (b ≡ a)
eq_turned a b = let d = Decides-eqb a b in (λ t. sym (d.0 t), λ e. d.1 (sym e))

pub algorithm_length : OneContent → (policy : Policy) (content identifier : List ℕ) (n : ℕ)
    → content ≡ oid_content identifier
    → Decides (list_all (λ a. not (bytes_eq (oid_content a.oid) content) || (a.length == n)) policy.algorithms.items)
    ((a : AlgorithmValue) → Contains (algorithms_of (policy_view policy)) a → a.identifier ≡ identifier
    → n ≡ a.hash_length)
algorithm_length one policy content identifier n e =
    let all =
    decides_all known (λ a. not (bytes_eq (oid_content a.oid) content) || (a.length == n))
    (λ a. a.identifier ≡ identifier → n ≡ a.hash_length)
    (λ a. decides_implies _ _ (decides_oid one a.oid identifier content e) (eq_turned a.length n))
    policy.algorithms.items in
    subst (λ xs. Decides (list_all (λ a. not (bytes_eq (oid_content a.oid) content) || (a.length == n))
    policy.algorithms.items)
    ((a : AlgorithmValue) → Contains xs a → a.identifier ≡ identifier → n ≡ a.hash_length))
    (sym (map_map _ algorithm_view policy.algorithms.items)) all

-- one of the policies with the object identifier passes a test
pub asked_any : OneContent → (policies : List TsaPolicy) (content oid : List ℕ) → content ≡ oid_content oid
    → (test : TsaPolicy → Bool) (P : TsaPolicyValue → Type 0)
    → ((p : TsaPolicy) → Decides (test p) (P (tsa_policy_view p)))
    → Decides (list_any (λ p. bytes_eq (oid_content p.oid) content && test p) policies)
    ((p : TsaPolicyValue) × (Contains (map tsa_policy_view policies) p × (Some oid ≡ Some p.oid)) × P p)
asked_any one policies content oid e test P each =
    Decides-like (list_any (λ p. bytes_eq (oid_content p.oid) content && test p) policies)
    (λ w. (w.0, (w.1, ap Some (sym w.2.0)), w.2.1))
    (λ w. (w.0, w.1.0, (sym (same_Some _ _ w.1.1), w.2)))
    (decides_any tsa_policy_view (λ p. bytes_eq (oid_content p.oid) content && test p) (λ p. (p.oid ≡ oid) × P p)
    (λ p. Decides-and _ _ (decides_oid one p.oid oid content e) (each p)) policies)

pub decides_lists : OneContent → (algorithms : List Algorithm) (content identifier : List ℕ)
    → content ≡ oid_content identifier → (p : TsaPolicy)
    → Decides (lists_algorithm algorithms content p)
    ((a : record_of.AlgorithmValue) × Contains (map algorithm_view algorithms) a × (a.oid ≡ identifier)
    × Contains (tsa_policy_view p).algorithms a.name)
decides_lists one algorithms content identifier e p =
    Decides-like (lists_algorithm algorithms content p) (λ w. (w.0, w.1, w.2.0, w.2.1)) (λ w. (w.0, w.1, (w.2, w.3)))
    (decides_any algorithm_view
    (λ a. bytes_eq (oid_content a.oid) content && is_among (map string_bytes p.algorithms.items) (string_bytes a.name))
    (λ a. (a.oid ≡ identifier) × Contains (tsa_policy_view p).algorithms a.name)
    (λ a. Decides-and _ _ (decides_oid one a.oid identifier content e)
    (decides_among (map string_bytes p.algorithms.items) (string_bytes a.name)))
    algorithms)

decides_le : (a b : ℕ) → Decides (nat_le a b) (a ≤ b)
decides_le a b = (leb-true a b, le-leb a b)

decides_knows : OneContent → (policy : Policy) (p : TsaPolicy) (e : ExtensionValue)
    → Decides (knows_extension policy.extensions.items p e) (KnowsExtension (policy_view policy) (tsa_policy_view p) e)
decides_knows one policy p e =
    Decides-like (knows_extension policy.extensions.items p e) (λ w. (w.0, w.1, w.2.0, w.2.1.0, w.2.1.1))
    (λ w. (w.0, w.1, (w.2, (w.3, w.4))))
    (decides_any extension_view
    (λ x. bytes_eq (oid_content x.oid) (oid_content e.identifier)
    && (is_among (map string_bytes p.extensions.items) (string_bytes x.name) && nat_le (length e.value) x.max_length))
    (λ x. (x.oid ≡ e.identifier) × (Contains (tsa_policy_view p).extensions x.name × (length e.value ≤ x.max_length)))
    (λ x. Decides-and _ _ (decides_oid one x.oid e.identifier (oid_content e.identifier) refl)
    (Decides-and _ _ (decides_among (map string_bytes p.extensions.items) (string_bytes x.name))
    (decides_le (length e.value) x.max_length)))
    policy.extensions.items)

pub decides_all_known : OneContent → (policy : Policy) (es : List ExtensionValue) (p : TsaPolicy)
    → Decides (knows_extensions policy.extensions.items p es)
    (AllByRecursion (KnowsExtension (policy_view policy) (tsa_policy_view p)) es)
decides_all_known one policy [] p = (λ h. tt, λ w. refl)
decides_all_known one policy (e ∷ es) p =
    Decides-and _ _ (decides_knows one policy p e) (decides_all_known one policy es p)

wanted_at : {P : Type 0} (asked given : Bool) → asked ≡ true → Decides given P → (asked ≡ false) ⊎ P → given ≡ true
wanted_at asked given e d (inl off) = let bad : true ≡ false = sym e ∙ off in cc bad
wanted_at asked given e d (inr p) = d.1 p

-- the certificate is asked for, so that it has to be given out
pub wanted_given : {P : Type 0} (asked given : Bool) → asked ≡ true → Decides given P
    → Decides given ((asked ≡ false) ⊎ P)
wanted_given asked given e d = (λ t. inr (d.0 t), λ w. wanted_at asked given e d w)

-- ---- no identifier stands twice

absent_from : (x oid : List ℕ) (xs : List (List ℕ)) → (x ≡ oid → ⊥) × (Contains xs oid → ⊥) → (x ≡ oid)
    ⊎ Contains xs oid → ⊥
absent_from x oid xs w (inl e) = w.0 e
absent_from x oid xs w (inr h) = w.1 h

-- an identifier that was seen stands no more
decides_absent : OneContent → (oid : List ℕ) (es : List ExtensionValue)
    → Decides (stands_once (oid_content oid) true es) (Contains (map (λ e. e.identifier) es) oid → ⊥)
decides_absent one oid [] = (λ t h. contains_none oid h, λ f. refl)
decides_absent one oid (e ∷ es) =
    let others = map (λ (x : ExtensionValue). x.identifier) es in
    Decides-like (stands_once (oid_content oid) true (e ∷ es))
    (λ w h. absent_from e.identifier oid others w (contains_first_or_other e.identifier oid others h))
    (λ f. (
      λ same. f (subst (λ y. Contains (e.identifier ∷ others) y) same (contains_here e.identifier others)),
      λ h. f (contains_there e.identifier oid others h),
    ))
    (Decides-and _ _ (Decides-not _ (decides_oid one e.identifier oid (oid_content oid) refl))
    (decides_absent one oid es))

once_at : (identifier : List ℕ) (es : List ExtensionValue) (here : Bool)
    → (stands_once identifier true es ≡ true → stands_once identifier false es ≡ true)
    → (not here && stands_once identifier true es) ≡ true → stands_once identifier here es ≡ true
once_at identifier es true ih t = absurd (cc t)
once_at identifier es false ih t = ih t

-- one that doesn't stand stands once at most
once_where_absent : (identifier : List ℕ) (es : List ExtensionValue) → stands_once identifier true es ≡ true
    → stands_once identifier false es ≡ true
once_where_absent identifier [] t = refl
once_where_absent identifier (e ∷ es) t =
    once_at identifier es (bytes_eq (oid_content e.identifier) identifier) (once_where_absent identifier es) t

once_after : (identifier : List ℕ) (es : List ExtensionValue) (here : Bool) → stands_once identifier here es ≡ true
    → stands_once identifier false es ≡ true
once_after identifier es true t = once_where_absent identifier es t
once_after identifier es false t = t

-- each of the known identifiers stands once at most
abbrev AreOnce : List record_of.ExtensionValue → List ExtensionValue → Type 0
AreOnce known es = (x : record_of.ExtensionValue) → Contains known x → stands_once (oid_content x.oid) false es ≡ true

seen_here : (identifier : List ℕ) (es : List ExtensionValue) (here : Bool) → here ≡ true
    → stands_once identifier here es ≡ true → stands_once identifier true es ≡ true
seen_here identifier es true h t = t
seen_here identifier es false h t = absurd (cc h)

distinct_where_once : OneContent → (file : PolicyValue) (p : TsaPolicyValue) (es : List ExtensionValue)
    → AllByRecursion (KnowsExtension file p) es
    → AreOnce file.extensions es → AreDistinct (map (λ e. e.identifier) es)
distinct_where_once one file p [] known once = tt
distinct_where_once one file p (e ∷ es) known once =
    let x = known.0.0 in
    let same : x.oid ≡ e.identifier = known.0.2 in
    let here : bytes_eq (oid_content e.identifier) (oid_content x.oid) ≡ true =
    (decides_oid one e.identifier x.oid (oid_content x.oid) refl).1 (sym same) in
    let seen = seen_here (oid_content x.oid) es (bytes_eq (oid_content e.identifier) (oid_content x.oid)) here
    (once x known.0.1) in
    let absent = (decides_absent one x.oid es).0 seen in (
      λ h. absent (subst (λ y. Contains (map (λ (z : ExtensionValue). z.identifier) es) y) (sym same) h),
      distinct_where_once one file p es known.1
          (λ y h. once_after (oid_content y.oid) es (bytes_eq (oid_content e.identifier) (oid_content y.oid))
          (once y h)),
    )

once_where_distinct_at : OneContent → (oid : List ℕ) (e : ExtensionValue) (es : List ExtensionValue)
    → (Contains (map (λ x. x.identifier) es) e.identifier → ⊥)
    → stands_once (oid_content oid) false es ≡ true → (here : Bool)
    → bytes_eq (oid_content e.identifier) (oid_content oid) ≡ here
    → stands_once (oid_content oid) here es ≡ true
once_where_distinct_at one oid e es absent ih true h =
    let same : e.identifier ≡ oid = (decides_oid one e.identifier oid (oid_content oid) refl).0 h in
    (decides_absent one oid es).1 (λ k. absent
    (subst (λ y. Contains (map (λ (x : ExtensionValue). x.identifier) es) y) (sym same) k))
once_where_distinct_at one oid e es absent ih false h = ih

once_where_distinct : OneContent → (oid : List ℕ) (es : List ExtensionValue) → AreDistinct (map (λ e. e.identifier) es)
    → stands_once (oid_content oid) false es ≡ true
once_where_distinct one oid [] w = refl
once_where_distinct one oid (e ∷ es) w =
    once_where_distinct_at one oid e es w.0 (once_where_distinct one oid es w.1)
    (bytes_eq (oid_content e.identifier) (oid_content oid)) refl

-- where each is known, it suffices to look at the known ones
decides_distinct : OneContent → (policy : Policy) (p : TsaPolicyValue) (es : List ExtensionValue)
    → AllByRecursion (KnowsExtension (policy_view policy) p) es
    → Decides (stand_once policy.extensions.items es) (AreDistinct (map (λ e. e.identifier) es))
decides_distinct one policy p es known =
    Decides-like (stand_once policy.extensions.items es)
    (distinct_where_once one (policy_view policy) p es known)
    (λ distinct x h. once_where_distinct one x.oid es distinct)
    (decides_all extension_view (λ x. stands_once (oid_content x.oid) false es)
    (λ x. stands_once (oid_content x.oid) false es ≡ true)
    (λ x. (λ t. t, λ t. t)) policy.extensions.items)

-- ---- the rule on extensions

abbrev pub Known : Policy → List ℕ → List ExtensionValue → Type 0
Known policy oid es =
    (p : TsaPolicyValue) × (Contains (map tsa_policy_view policy.policies.items) p × (Some oid ≡ Some p.oid))
    × AllByRecursion (KnowsExtension (policy_view policy) p) es

knowing : OneContent → (policy : Policy) (es : List ExtensionValue) (content oid : List ℕ) → content ≡ oid_content oid
    → Decides (list_any (λ p. bytes_eq (oid_content p.oid) content && knows_extensions policy.extensions.items p es)
    policy.policies.items)
    (Known policy oid es)
knowing one policy es content oid e =
    asked_any one policy.policies.items content oid e (λ p. knows_extensions policy.extensions.items p es)
    (λ p. AllByRecursion (KnowsExtension (policy_view policy) p) es) (decides_all_known one policy es)

distinct_at : {P Q : Type 0} (es : List ExtensionValue) → (es ≡ [] → ⊥) → (answer : Bool)
    → (Q → answer ≡ true) → (es ≡ []) ⊎ (P × Q) → answer ≡ true
distinct_at es some answer f (inl none) = absurd (some none)
distinct_at es some answer f (inr w) = f w.1

-- there are extensions, and the policy knows them
pub extensions_known : OneContent → (policy : Policy) (es : List ExtensionValue) (content oid : List ℕ)
    → content ≡ oid_content oid
    → (es ≡ [] → ⊥)
    → (answer : Bool) → answer ≡ list_any (λ p. bytes_eq
    (oid_content p.oid) content && knows_extensions policy.extensions.items p es) policy.policies.items
    → answer ≡ true → (distinct : Bool) → distinct ≡ stand_once policy.extensions.items es
    → Decides distinct ((es ≡ []) ⊎ (Known policy oid es × AreDistinct (map (λ x. x.identifier) es)))
extensions_known one policy es content oid e some answer is knows distinct is_distinct =
    let known = (knowing one policy es content oid e).0 (sym is ∙ knows) in
    let apart = decides_distinct one policy known.0 es known.2 in (
      λ t. inr (known, apart.0 (sym is_distinct ∙ t)),
      λ w. distinct_at es some distinct (λ k. is_distinct ∙ apart.1 k) w,
    )

unknown_at : {P Q : Type 0} (es : List ExtensionValue) → (es ≡ [] → ⊥) → (answer : Bool)
    → (P → answer ≡ true) → (es ≡ []) ⊎ (P × Q) → answer ≡ true
unknown_at es some answer f (inl none) = absurd (some none)
unknown_at es some answer f (inr w) = f w.0

-- there are extensions, and no policy knows them
pub extensions_unknown : OneContent → (policy : Policy) (es : List ExtensionValue) (content oid : List ℕ)
    → content ≡ oid_content oid
    → (es ≡ [] → ⊥)
    → (answer : Bool) → answer ≡ list_any (λ p. bytes_eq
    (oid_content p.oid) content && knows_extensions policy.extensions.items p es) policy.policies.items
    → answer ≡ false → Decides answer ((es ≡ []) ⊎ (Known policy oid es × AreDistinct (map (λ x. x.identifier) es)))
extensions_unknown one policy es content oid e some answer is no_policy =
    let known = knowing one policy es content oid e in (
      λ t. let bad : true ≡ false = sym t ∙ no_policy in cc bad,
      λ w. unknown_at es some answer (λ k. is ∙ known.1 k) w,
    )

-- the contents that a look-up answered are an object identifier's
pub asked_some : (o : Option (List ℕ)) (content : List ℕ) → option_map oid_content o ≡ Some content
    → (oid : List ℕ) × (o ≡ Some oid) × (content ≡ oid_content oid)
asked_some None content h = cc h
asked_some (Some oid) content h = (oid, refl, sym (same_Some _ _ h))

accepting : OneContent → (policy : Policy) (names : List (String Global)) (content oid : List ℕ)
    → content ≡ oid_content oid
    → Decides (list_any (λ p. bytes_eq (oid_content p.oid) content && is_among (map string_bytes names)
    (string_bytes p.name)) policy.policies.items)
    ((p : TsaPolicyValue) × (Contains (map tsa_policy_view policy.policies.items) p × (Some oid ≡ Some p.oid))
    × Contains (map string_bytes names) p.name)
accepting one policy names content oid e =
    asked_any one policy.policies.items content oid e (λ p. is_among (map string_bytes names) (string_bytes p.name))
    (λ p. Contains (map string_bytes names) p.name) (λ p. decides_among (map string_bytes names) (string_bytes p.name))

decides_each_value : {A : Type 0} (test : A → Bool) (P : A → Type 0) → ((x : A) → Decides (test x) (P x))
    → (xs : List A) → Decides (list_any test xs) ((y : A) × Contains xs y × P y)
decides_each_value test P each xs =
    subst (λ ys. Decides (list_any test xs) ((y : _) × Contains ys y × P y)) (map_id xs)
    (decides_any (λ x. x) test P each xs)

-- no policy has the object identifier that is asked for
pub none_asked : OneContent → (policy : Policy) (account : Option AccountValue) (asked : Option (List ℕ))
    (content : List ℕ)
    → option_map oid_content asked ≡ Some content → policy_of_oid (policy_view policy) content ≡ None
    → IsAccepted (policy_view policy) account asked → ⊥
none_asked one policy account asked content e none w =
    let found = asked_some asked content e in
    let p = w.2.0 in
    let same : p.oid ≡ found.0 = sym (same_Some _ _ (sym found.1 ∙ w.2.1.1)) in
    let values = map tsa_policy_view policy.policies.items in
    let any =
    decides_each_value (λ q. bytes_eq (oid_content q.oid) content) (λ q. q.oid ≡ found.0)
    (λ q. decides_oid one q.oid found.0 content found.2) values in
    let some : true ≡ false =
    sym (any.1 (p, w.2.1.0, same)) ∙ sym (decides_found (λ q. bytes_eq (oid_content q.oid) content) values)
    ∙ ap is_some none in
    cc some

-- the policy that was found is the one that is asked for, and the account's
pub found_accepted : OneContent → (policy : Policy) (account : AccountValue) (names : List (String Global))
    → map string_bytes names ≡ account.policies
    → (asked : Option (List ℕ)) (content : List ℕ) → option_map oid_content asked ≡ Some content
    → (q : TsaPolicyValue) → policy_of_oid (policy_view policy) content ≡ Some q
    → list_any (λ p. bytes_eq (oid_content p.oid) content && is_among (map string_bytes names) (string_bytes p.name))
    policy.policies.items ≡ true
    → IsAccepted (policy_view policy) (Some account) (Some q.oid) × (asked ≡ Some q.oid)
found_accepted one policy account names listed asked content e q found accepted =
    let some = asked_some asked content e in
    let passes = found_passes (λ p. bytes_eq (oid_content p.oid) content) (map tsa_policy_view policy.policies.items) q
    found in
    let same : q.oid ≡ some.0 = (decides_oid one q.oid some.0 content some.2).0 passes in
    let w = (accepting one policy names content some.0 some.2).0 accepted in (
      (account, refl, (w.0, (w.1.0, ap Some same ∙ w.1.1), subst (λ ns. Contains ns w.0.name) listed w.2)),
      some.1
          ∙ ap Some (sym same),
    )

-- no policy with the object identifier that is asked for is the account's
pub none_accepted : OneContent → (policy : Policy) (account : AccountValue) (names : List (String Global))
    → map string_bytes names ≡ account.policies
    → (asked : Option (List ℕ)) (content : List ℕ) → option_map oid_content asked ≡ Some content
    → list_any (λ p. bytes_eq (oid_content p.oid) content && is_among (map string_bytes names) (string_bytes p.name))
    policy.policies.items ≡ false
    → IsAccepted (policy_view policy) (Some account) asked → ⊥
none_accepted one policy account names listed asked content e off w =
    let some = asked_some asked content e in
    let own : w.0.policies ≡ map string_bytes names = ap (λ (a : AccountValue). a.policies) (sym (same_Some _ _ w.1))
    ∙ sym listed in
    let p = w.2.0 in
    let bad : true ≡ false =
    sym ((accepting one policy names content some.0 some.2).1
    (p, (w.2.1.0, sym some.1 ∙ w.2.1.1), subst (λ ns. Contains ns p.name) own w.2.2)) ∙ off in
    cc bad
