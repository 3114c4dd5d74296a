-- A deposit of new octets is a stamp, whose token is kept with it.
use Rattle.std.proofs.Common.{◌≡◌, ℕ, ◌≤◌, nat_le, ℤ, Bool, true, List, length, Option, Some, None, refl, sym}
use Rattle.std.proofs.{Common.◌∙◌, Common.ap, Common.subst, Common.arith, lemmas.Bool.Decides.nat_tests}
use Rattle.book.specs.{declared.standing.Standing.Ghosts, History.History, History.deposit_under}
use Rattle.std.specs.Prelude.{IfSome}
use Rattle.sha2.specs.Sha256.{sha256}
use Rattle.policy.specs.Record.{AccountValue, PolicyValue}
use Rattle.tsp.specs.Request.{RequestValue, Spells, sha256_request}
use Rattle.desk.specs.Outcome.{Fine, Outcome, cause_of}
use Rattle.desk.specs.Effects.{for_deposit, deposit_found}
use Rattle.desk.specs.MachineStep.{HasEffect, KeepsWithinSize, KeepsOnceSearched, KeepsByReference}
use Rattle.desk.specs.auxiliary.NewDeposit.{octets_of, question_of, IsUnused}
use Rattle.desk.specs.{Findings.Finding, Findings.Finds, Command.Setting, Command.Deposit}
use Rattle.desk.specs.{Texts.gives_certificate, Texts.request_for, Texts.octets_for}
use Rattle.desk.proofs.{stamps.Stamps.IsStamp, journeys.Views.fits_seal}

-- the request as which a deposit is stamped
pub request_is : (file : PolicyValue) (a : AccountValue) (bytes digest : List ℕ) (certificate : Bool)
    (r : RequestValue) → r ≡ sha256_request digest certificate → digest ≡ sha256 bytes
    → certificate ≡ gives_certificate file a → r ≡ request_for file a bytes
request_is file a bytes digest certificate r made hashed gives =
    made ∙ (ap (λ d. sha256_request d certificate) hashed ∙ ap (sha256_request (sha256 bytes)) gives)

-- its octets, where they were written
pub lent_octets : {X : Type 0} (view : X → List ℕ) (query : Option X) (octets : List ℕ) (r : RequestValue)
    → IfSome query (λ q. view q ≡ octets) → Spells octets r → length octets ≤ 65536
    → IfSome query (λ q. Spells (view q) r) × IfSome query (λ q. length (view q) ≤ 65536)
lent_octets view None octets r is spelled short = (tt, tt)
lent_octets view (Some q) octets r is spelled short =
    (subst (λ xs. Spells xs r) (sym is) spelled, subst (λ xs. length xs ≤ 65536) (sym is) short)

-- a plan is found as for a stamp
under_octets : (s : Setting) (a : AccountValue) (reading : ℤ) (reference bytes : List ℕ) (o : Outcome) (b : History)
    (f : Finding) → nat_le (length bytes) 1_048_576 ≡ true → deposit_under a.name reference b ≡ None
    → Spells (octets_for s.file a bytes) (request_for s.file a bytes) → o.searching ≡ Fine
    → Finds s.file (Some a) reading (octets_for s.file a bytes) o b f
    → HasEffect s (Deposit a reading reference bytes) o b
    (deposit_found s a.name reference bytes (octets_for s.file a bytes) o b f)
under_octets s a reading reference bytes o b f few unused spelled fine found =
    let e = deposit_found s a.name reference bytes (octets_for s.file a bytes) o b f in
    subst (λ x. KeepsWithinSize s a reading reference bytes o b x e) (sym few)
    (subst (λ x. KeepsOnceSearched s a reading reference bytes o b (cause_of x) e) (sym fine)
    (subst (λ x. KeepsByReference s a reading reference bytes o b x e) (sym unused) (spelled, (f, found, refl))))

pub is_few : (n : ℕ) → n ≤ 1_048_576 → nat_le n 1_048_576 ≡ true
is_few n h = grind (arith, nat_tests)

as_made : {B : Type 0} (g : Ghosts B) (s : Setting) (a : AccountValue) (reading : ℤ) (reference bytes : List ℕ)
    → length bytes ≤ 1_048_576 → Spells (octets_for s.file a bytes) (request_for s.file a bytes)
    → IsStamp g s (Deposit a reading reference bytes) (for_deposit a.name reference bytes)
    (question_of (Some a) reading (request_for s.file a bytes)) (IsUnused a reference)
as_made g s a reading reference bytes few spelled = record {
  has = λ o b f unused fine found. under_octets s a reading reference bytes o b f (is_few (length bytes) few) unused
      spelled fine found;
  calls = λ o finished signing fits wrapped. (refl, (fits.1.0, wrapped));
  fits = λ r token b unused sound above own. record {
    sealed = fits_seal r b sound above;
    owner = own;
    unused = unused;
  };
  tells = record {
    opens = λ n token new open_yet. open_yet;
    refuses = λ cause new. tt;
    rejects = λ rule new. tt;
    grants = λ n token o old new. tt;
    blames = λ cause o old new blamed. blamed;
    fails = λ rule o old new. tt;
  };
  excused = λ old new e. e;
}

pub new_deposit : {B : Type 0} (g : Ghosts B) (s : Setting) (a : AccountValue) (reading : ℤ) (reference bytes : List ℕ)
    (r : RequestValue) → r ≡ request_for s.file a bytes → length bytes ≤ 1_048_576 → Spells (octets_of r) r
    → IsStamp g s (Deposit a reading reference bytes) (for_deposit a.name reference bytes)
    (question_of (Some a) reading r) (IsUnused a reference)
new_deposit g s a reading reference bytes r same few spelled =
    subst (λ x. IsStamp g s (Deposit a reading reference bytes) (for_deposit a.name reference bytes)
    (question_of (Some a) reading x) (IsUnused a reference)) (sym same)
    (as_made g s a reading reference bytes few (subst (λ x. Spells (octets_of x) x) same spelled))
