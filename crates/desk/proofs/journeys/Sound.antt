-- Each step leaves a sound history sound, and keeps what was acknowledged.
use Rattle.std.proofs.Common.{zero, ◌∙◌, if◌then◌else◌, ◌≡◌, ℕ, suc, ◌<◌, ◌≤◌, ◌^◌, ◌+◌, ◌-◌, nat_le, ℤ, Bool, true}
use Rattle.std.proofs.Common.{false, IfSome, List, [], ◌∷◌, ◌++◌, length, Option, Some, None, drop, refl, sym, arith}
use Rattle.std.proofs.lemmas.List.Elements.{All-contains, All-from_recursion}
use Rattle.std.proofs.{Math.Nat.div-mul-le_self, lemmas.Bool.Decides.nat_tests}
use Rattle.der.specs.{Node.Node, Node.IsLawful, ObjectIdentifier.IsOid}
use Rattle.gentime.specs.GenTime.{last_moment}
use Rattle.policy.specs.Record.{AccountValue}
use Rattle.tsp.specs.Request.{RequestValue, Spells}
use Rattle.tsp.specs.Tst.{SpellsTst, TstValue, IsTst, IsName, IsTsaName, tst_info, answer}
use Rattle.tsp.specs.declared.rule.Rule.TheVariants.{Spelling, Policy}
use Rattle.book.specs.History.{Entry, Reserved, History, greatest_serial}
use Rattle.book.specs.Sound.{Along, Fits, greatest_number}
use Rattle.cms.specs.Certificate.{IsSubjectName}
use Rattle.desk.specs.Content.{IsForRequest, IsTrueOf, IsNaming}
use Rattle.desk.specs.Succession.{installed_by, subject_of, tsa_of, IsNameable, NamesLatest}
use Rattle.desk.specs.{Findings.StampPlan, Findings.IsAllowed, Command.Setting, Texts.tst_of, Effects.next_reservation}
use Rattle.desk.specs.{MachineRuns.IsProper, MachineRuns.IsRising, Outcome.Cause, Outcome.OfStore, Outcome.first_cause}

-- what is asked of the crate that reads and writes the texts
pub record TextLaws : Type 0 where
  pub one_request : (octets : List ℕ) (r s : RequestValue) → Spells octets r → Spells octets s → r ≡ s
  pub lawful_answers : (octets : List ℕ) (r : RequestValue) (t : TstValue) → Spells octets r → length octets ≤ 65536
      → IsTst t → t.imprint ≡ r.imprint → t.nonce ≡ r.nonce → t.extensions ≡ r.extensions → IfSome t.tsa IsTsaName
      → IsLawful (tst_info t)

-- all that an entry has to be, where the authority that is named is the one in force
pub record IsGoodEntry (P : Type 0) (e : Entry) (b : History) : Type 0 where
  pub fits : Fits e b
  pub true_of : IsTrueOf e b
  pub rising : IsRising e b
  pub naming : P → IsNaming e b

abbrev pub AreGood : History → Type 0
AreGood b = Along (IsGoodEntry (Unit {0})) b

pub fits_along : (b : History) → AreGood b → Along Fits b
fits_along [] g = tt
fits_along (e ∷ b) g = (g.0.fits, fits_along b g.1)

pub true_along : (b : History) → AreGood b → Along IsTrueOf b
true_along [] g = tt
true_along (e ∷ b) g = (g.0.true_of, true_along b g.1)

pub rising_along : (b : History) → AreGood b → Along IsRising b
rising_along [] g = tt
rising_along (e ∷ b) g = (g.0.rising, rising_along b g.1)

pub naming_along : (b : History) → AreGood b → Along IsNaming b
naming_along [] g = tt
naming_along (e ∷ b) g = (g.0.naming tt, naming_along b g.1)

pub all_good : (b : History) → Along Fits b → Along IsTrueOf b → Along IsRising b → Along IsNaming b → AreGood b
all_good [] fits true_of rising naming = tt
all_good (e ∷ b) fits true_of rising naming = (
  record { fits = fits.0; true_of = true_of.0; rising = rising.0; naming = λ named. naming.0 },
  all_good b fits.1 true_of.1 rising.1 naming.1,
)

-- what a stop leaves of good entries is good
pub good_cut : (k : ℕ) (es : List Entry) (b : History) → AreGood (es ++ b) → AreGood (drop k es ++ b)
good_cut zero es b g = g
good_cut (suc k) [] b g = g
good_cut (suc k) (e ∷ es) b g = good_cut k es b g.1

-- the policy that is asked for is an object identifier
asked_is_oid : (s : Setting) → IsProper s → (account : Option AccountValue) (reading : ℤ) (octets : List ℕ)
    (b : History) (plan : StampPlan)
    → IsAllowed s.file account reading octets b plan → IsOid plan.policy
asked_is_oid s proper account reading octets b plan allowed =
    let accepted = allowed.holds Policy plan.request allowed.spelled in
    let p = accepted.2.0 in
    let asked = accepted.2.1 in
    let all = All-from_recursion (λ q. IsOid q.oid) s.file.policies proper.policies in
    let oid : IsOid p.oid = All-contains (λ q. IsOid q.oid) s.file.policies p all asked.0 in
    let e : Some plan.policy ≡ Some p.oid = sym allowed.policy ∙ asked.1 in
    let same : plan.policy ≡ p.oid = cc in
    rw same oid

pub number_left : (full : Bool) (causes : List (Option Cause)) → first_cause ((if full then Some OfStore else None)
    ∷ causes) ≡ None → full ≡ false
number_left true causes e = cc
number_left false causes e = refl

pub not_full : (n : ℕ) → nat_le greatest_number n ≡ false → n < greatest_number
not_full n e = grind (arith, nat_tests)

-- the TSTInfo of a plan is one
abbrev tst_value : Setting → StampPlan → ℕ → TstValue
tst_value s plan serial = answer plan.request plan.policy serial plan.gen_time s.file.counter.accuracy_us
    s.file.counter.ordering (tsa_of s)

-- a TSTInfo has room for the name of an identity
tsa_fits : (name : Node) → IsSubjectName name → (wanted : Bool) → IfSome (if wanted then Some name else None) IsTsaName
tsa_fits name is true = let short = is.short in record {
  name = record { components = is.components; sequence = is.sequence };
  formed = is.formed;
  depth = is.shallow;
  short = omega arith;
}
tsa_fits name is false = tt

tsa_is_name : (name : Node) → IsSubjectName name → (wanted : Bool) → IfSome (if wanted then Some name else None) IsName
tsa_is_name name is true = record { components = is.components; sequence = is.sequence }
tsa_is_name name is false = tt

-- and it is that of the identity that was installed last
names_latest : (s : Setting) → IsProper s → (b : History) → IsNameable s b → (wanted : Bool)
    → s.file.counter.tsa_name ≡ wanted
    → NamesLatest (if wanted then Some (subject_of s.in_force.identity) else None) b
names_latest s proper b nameable true e =
    (installed_by s.in_force.identity, nameable e, proper.identity.subject)
names_latest s proper b nameable false e = tt

pub gen_time_bound : (s : Setting) (account : Option AccountValue) (reading : ℤ) (octets : List ℕ) (b : History)
    (plan : StampPlan)
    → IsAllowed s.file account reading octets b plan → plan.gen_time ≤ last_moment
gen_time_bound s account reading octets b plan allowed =
    let good = allowed.good.0 in
    let low = div-mul-le_self good.now (10 ^ (6 - s.file.counter.fraction_digits)) in
    let high = good.statable in
    let same = allowed.good.1 in
    omega arith

proper_tst : (s : Setting) → IsProper s → (account : Option AccountValue) (reading : ℤ) (octets : List ℕ)
    (b : History) (plan : StampPlan)
    → IsAllowed s.file account reading octets b plan → (serial : ℕ) → 1 ≤ serial → serial ≤ greatest_number
    → IsTst (tst_value s plan serial)
proper_tst s proper account reading octets b plan allowed serial some most = record {
  policy = asked_is_oid s proper account reading octets b plan allowed;
  algorithm = allowed.spelled.proper.algorithm;
  some_serial = some;
  last_serial = omega arith;
  gen_time = gen_time_bound s account reading octets b plan allowed;
  some_accuracy = proper.some_accuracy;
  most_accuracy = proper.most_accuracy;
  tsa = tsa_is_name (subject_of s.in_force.identity) proper.identity.name s.file.counter.tsa_name;
  extensions = allowed.spelled.proper.extensions;
}

-- what is reserved by a plan fits, is for its request, and rises
pub reserved_good : TextLaws → (s : Setting) → IsProper s
    → (account : Option AccountValue) (name : List ℕ) (reading : ℤ) (octets : List ℕ) (b : History)
    (plan : StampPlan) → IsAllowed s.file account reading octets b plan → greatest_serial b < greatest_number
    → IsGoodEntry (IsNameable s b) (Reserved (next_reservation s name plan octets b)) b
reserved_good laws s proper account name reading octets b plan allowed left =
    let serial = greatest_serial b + 1 in
    let tst = proper_tst s proper account reading octets b plan allowed serial (omega arith) (omega arith) in
    let spelled = allowed.holds Spelling in
    let fitting = tsa_fits (subject_of s.in_force.identity) proper.identity.name s.file.counter.tsa_name in
    let text : SpellsTst (tst_of s plan serial) (tst_value s plan serial) =
    record {
      ranges = tst;
      lawful = laws.lawful_answers octets plan.request
          (tst_value s plan serial) allowed.spelled spelled.1 tst refl refl refl fitting;
      spelled = refl;
    } in
    let stamped : IsForRequest (next_reservation s name plan octets b) = record {
      request = plan.request;
      spelled = allowed.spelled;
      algorithm = refl;
      digest = refl;
      policy = plan.policy;
      accuracy = s.file.counter.accuracy_us;
      ordering = s.file.counter.ordering;
      tsa = tsa_of s;
      content = refl;
      tst = text;
    } in
    record {
      fits = record {
        rises = omega arith;
        within = omega arith;
        moment = gen_time_bound s account reading octets b
            plan allowed;
      };
      true_of = stamped;
      rising = record { stamped = stamped; follows = rw allowed.good.1 allowed.good.0.follows };
      naming = λ nameable. record {
        stamped = stamped;
        named = names_latest s proper b nameable s.file.counter.tsa_name refl;
      };
    }
