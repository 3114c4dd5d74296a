-- Whether a row is that of the stamp which a plan makes, by what was compared of it.
use Rattle.std.proofs.Common.{◌≡◌, ℕ, ◌≤◌, ℤ, Bool, true, false, List, length, Option, Some, None, refl, sym, ap, ◌∙◌}
use Rattle.std.proofs.Common.{option_map, subst}
use Rattle.std.specs.Prelude.{◌↔◌, IsTrue, is_some}
use Rattle.der.specs.{Node.Node, Number.number_content, Number.twos_value, ObjectIdentifier.oid_content}
use Rattle.tsp.specs.Request.{ImprintValue, ExtensionValue, RequestValue, Spells}
use Rattle.tsp.specs.Tst.{TstValue, SpellsTst, answer}
use Rattle.audit.specs.Consistent.{IsConsistent, IsOwnName}
use Rattle.book.specs.{Identities.identity_before, Rows.InstalledRow, Rows.StampRow}
use Rattle.decide.specs.Verdict.{PlanValue}
use Rattle.judgement.specs.auxiliary.Search.{HasColumns, IsAnswerBy}
use Rattle.judgement.specs.{Given.IsStampBy, Given.Names, Readings.EvidenceValue}

names : (wanted : Bool) (identity : Option InstalledRow) (tsa : Option Node) → is_some tsa ≡ wanted
    → IsOwnName identity tsa → Names wanted identity tsa
names false identity None e own = refl
names true None (Some name) e own = own
names true (Some i) (Some name) e own = (name, refl, own)
names _ identity _ e own = cc

own_name : (wanted : Bool) (identity : Option InstalledRow) (tsa : Option Node) → Names wanted identity tsa
    → IsOwnName identity tsa
own_name false identity tsa named = subst (IsOwnName identity) (sym named) tt
own_name true None tsa named = absurd named
own_name true (Some i) tsa named = subst (IsOwnName (Some i)) (sym named.1) named.2

is_named : (wanted : Bool) (identity : Option InstalledRow) (tsa : Option Node) → Names wanted identity tsa
    → is_some tsa ≡ wanted
is_named false identity tsa named = ap is_some named
is_named true None tsa named = absurd named
is_named true (Some i) tsa named = ap is_some named.1

made : List ℕ → ImprintValue → ℕ → ℕ → ℕ → Bool → Option ℤ → Option Node → List ExtensionValue → TstValue
made policy imprint serial gen_time accuracy ordering nonce tsa extensions = record {
  policy = policy;
  imprint = imprint;
  serial = serial;
  gen_time = gen_time;
  accuracy = accuracy;
  ordering = ordering;
  nonce = nonce;
  tsa = tsa;
  extensions = extensions;
}

same_made : (t u : TstValue) → t.policy ≡ u.policy → t.imprint ≡ u.imprint → t.serial ≡ u.serial
    → t.gen_time ≡ u.gen_time → t.accuracy ≡ u.accuracy → t.ordering ≡ u.ordering → t.nonce ≡ u.nonce
    → t.tsa ≡ u.tsa → t.extensions ≡ u.extensions → t ≡ u
unfolding made
same_made t u policy imprint serial gen_time accuracy ordering nonce tsa extensions =
    ap (λ x. made x t.imprint t.serial t.gen_time t.accuracy t.ordering t.nonce t.tsa t.extensions) policy
    ∙ (ap (λ x. made u.policy x t.serial t.gen_time t.accuracy t.ordering t.nonce t.tsa t.extensions) imprint
    ∙ (ap (λ x. made u.policy u.imprint x t.gen_time t.accuracy t.ordering t.nonce t.tsa t.extensions) serial
    ∙ (ap (λ x. made u.policy u.imprint u.serial x t.accuracy t.ordering t.nonce t.tsa t.extensions) gen_time
    ∙ (ap (λ x. made u.policy u.imprint u.serial u.gen_time x t.ordering t.nonce t.tsa t.extensions) accuracy
    ∙ (ap (λ x. made u.policy u.imprint u.serial u.gen_time u.accuracy x t.nonce t.tsa t.extensions) ordering
    ∙ (ap (λ x. made u.policy u.imprint u.serial u.gen_time u.accuracy u.ordering x t.tsa t.extensions) nonce
    ∙ (ap (λ x. made u.policy u.imprint u.serial u.gen_time u.accuracy u.ordering u.nonce x t.extensions) tsa
    ∙ ap (made u.policy u.imprint u.serial u.gen_time u.accuracy u.ordering u.nonce u.tsa) extensions)))))))

-- what is compared of a row, where its TSTInfo and its request are read as these
pub record IsCompared (e : EvidenceValue) (r : RequestValue) (plan : PlanValue) (stamp : StampRow) (tst : TstValue)
    : Type 0 where
  pub consistent : IsConsistent stamp e.identities
  pub columns : HasColumns plan stamp
  pub answers : IsAnswerBy e.file.counter r plan tst

pub stamp_of_compared : (e : EvidenceValue) (r : RequestValue) (plan : PlanValue) (stamp : StampRow) (tst : TstValue)
    → SpellsTst stamp.tst tst → ((t : TstValue) → SpellsTst stamp.tst t → tst ≡ t)
    → ((s : RequestValue) → Spells stamp.request s → s ≡ r)
    → IsCompared e r plan stamp tst → IsStampBy e r plan stamp
stamp_of_compared e r plan stamp tst spelled one_tst one_request k =
    let agree = k.consistent.agree in
    let same : tst ≡ k.consistent.tst = one_tst k.consistent.tst k.consistent.spelled in
    let asked : k.consistent.request ≡ r = one_request k.consistent.request k.consistent.asked in
    let counter = e.file.counter in
    let answered = answer r plan.policy stamp.serial plan.gen_time counter.accuracy_us counter.ordering tst.tsa in
    let is : tst ≡ answered = same_made tst answered k.answers.policy
    (ap (λ t. t.imprint) same ∙ (agree.imprint ∙ ap (λ x. x.imprint) asked))
    (ap (λ t. t.serial) same ∙ agree.serial)
    (ap (λ t. t.gen_time) same ∙ (agree.gen_time ∙ k.columns.gen_time))
    k.answers.accuracy k.answers.ordering k.answers.nonce refl k.answers.extensions in
    let identity = identity_before stamp.serial e.identities in
    let own : IsOwnName identity tst.tsa = subst (λ t. IsOwnName identity t.tsa) (sym same) agree.tsa in
    record {
      gen_time = k.columns.gen_time;
      day = k.columns.day;
      policy = k.columns.policy;
      algorithm = sym agree.algorithm ∙ ap (λ x. oid_content x.imprint.algorithm) asked;
      digest = sym agree.digest ∙ ap (λ x. x.imprint.hash) asked;
      tsa = tst.tsa;
      named = names counter.tsa_name identity tst.tsa k.answers.named own;
      tst = subst (SpellsTst stamp.tst) is spelled;
    }

pub compared_of_stamp : (e : EvidenceValue) (r : RequestValue) (plan : PlanValue) (stamp : StampRow) (tst : TstValue)
    → ((t : TstValue) → SpellsTst stamp.tst t → tst ≡ t) → Spells stamp.request r → length stamp.request ≤ 65536
    → IsStampBy e r plan stamp → IsCompared e r plan stamp tst
compared_of_stamp e r plan stamp tst one_tst asked short k =
    let counter = e.file.counter in
    let answered = answer r plan.policy stamp.serial plan.gen_time counter.accuracy_us counter.ordering k.tsa in
    let is : tst ≡ answered = one_tst answered k.tst in
    let identity = identity_before stamp.serial e.identities in
    record {
      consistent = record {
        tst = answered;
        spelled = k.tst;
        request = r;
        asked = asked;
        short = short;
        agree = record {
          serial = refl;
          gen_time = sym k.gen_time;
          policy = sym k.policy;
          tsa = own_name counter.tsa_name identity k.tsa k.named;
          imprint = refl;
          algorithm = sym k.algorithm;
          digest = sym k.digest;
        };
      };
      columns = record { gen_time = k.gen_time; day = k.day; policy = k.policy };
      answers = record {
        policy = ap (λ t. t.policy) is;
        accuracy = ap (λ t. t.accuracy) is;
        ordering = ap (λ t. t.ordering) is;
        named = ap (λ t. is_some t.tsa) is ∙ is_named counter.tsa_name identity k.tsa k.named;
        nonce = ap (λ t. t.nonce) is;
        extensions = ap (λ t. t.extensions) is;
      };
    }

read_back : ((z : ℤ) → twos_value (number_content z) ≡ z) → (number : Option ℤ)
    → option_map twos_value (option_map number_content number) ≡ number
read_back law None = refl
read_back law (Some z) = ap Some (law z)

-- numbers with the same contents octets are the same
pub same_number : ((z : ℤ) → twos_value (number_content z) ≡ z) → (one other : Option ℤ)
    → option_map number_content one ≡ option_map number_content other → one ≡ other
same_number law one other e =
    sym (read_back law one) ∙ (ap (option_map twos_value) e ∙ read_back law other)

-- ---- what is told of a row, by octets that are the TSTInfo's

pub no_stamp : (e : EvidenceValue) (r : RequestValue) (plan : PlanValue) (stamp : StampRow) (octets : List ℕ)
    → octets ≡ stamp.tst → ((t : TstValue) → SpellsTst octets t → ⊥) → IsStampBy e r plan stamp → ⊥
no_stamp e r plan stamp octets is none k =
    none (answer r plan.policy stamp.serial plan.gen_time e.file.counter.accuracy_us e.file.counter.ordering k.tsa)
    (subst (λ o. SpellsTst o (answer r plan.policy stamp.serial plan.gen_time e.file.counter.accuracy_us
    e.file.counter.ordering k.tsa)) (sym is) k.tst)

-- octets that are read as this TSTInfo, and a request that is read as this one
pub record AreRead (r : RequestValue) (stamp : StampRow) (octets : List ℕ) (tst : TstValue) : Type 0 where
  pub same : octets ≡ stamp.tst
  pub spelled : SpellsTst octets tst
  pub one_tst : (t : TstValue) → SpellsTst octets t → tst ≡ t
  pub asked : Spells stamp.request r
  pub short : length stamp.request ≤ 65536
  pub one_request : (s : RequestValue) → Spells stamp.request s → s ≡ r

one_of : (r : RequestValue) (stamp : StampRow) (octets : List ℕ) (tst : TstValue) → AreRead r stamp octets tst
    → (t : TstValue) → SpellsTst stamp.tst t → tst ≡ t
one_of r stamp octets tst k t h = k.one_tst t (subst (λ o. SpellsTst o t) (sym k.same) h)

pub compared : (e : EvidenceValue) (r : RequestValue) (plan : PlanValue) (stamp : StampRow) (octets : List ℕ)
    (tst : TstValue) → AreRead r stamp octets tst → IsStampBy e r plan stamp → IsCompared e r plan stamp tst
compared e r plan stamp octets tst k =
    compared_of_stamp e r plan stamp tst (one_of r stamp octets tst k) k.asked k.short

pub tells_stamp : (e : EvidenceValue) (r : RequestValue) (plan : PlanValue) (stamp : StampRow) (octets : List ℕ)
    (tst : TstValue) (answers : Bool) → AreRead r stamp octets tst → IsConsistent stamp e.identities
    → HasColumns plan stamp → IsTrue answers ↔ IsAnswerBy e.file.counter r plan tst
    → IsTrue answers ↔ IsStampBy e r plan stamp
tells_stamp e r plan stamp octets tst answers k consistent columns told = (
  λ yes. stamp_of_compared e r plan stamp tst (subst (λ o. SpellsTst o tst) k.same k.spelled)
      (one_of r stamp octets tst k) k.one_request
      (record { consistent = consistent; columns = columns; answers = told.0 yes }),
  λ stamped. told.1 (compared e r plan stamp octets tst k stamped).answers,
)
