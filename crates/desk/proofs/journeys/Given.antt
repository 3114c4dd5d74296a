-- What is given out to be signed is over the reservation that the same command adds first.
use Rattle.std.proofs.Common.{arith, ◌≡◌, ℕ, ◌+◌, ◌<◌, nat_le, cond, Bool, true, false, List, [], ◌∷◌, ◌++◌, length}
use Rattle.std.proofs.Common.{Option, Some, None, refl, sym, ◌∙◌, ap, subst}
use Rattle.std.proofs.lemmas.Bool.{eq-eqb}
use Rattle.std.specs.Str.{bytes_eq}
use Rattle.cms.specs.SignedData.{attribute_text}
use Rattle.book.specs.History.{Entry, Reserved, Sealed, Deposited, Calibrated, Held, Granted, Revoked, History}
use Rattle.book.specs.History.{ReservationValue, greatest_serial, latest_calibration, token_of}
use Rattle.book.specs.History.{Installed, InstalledValue, calibrations, holds}
use Rattle.book.specs.Identities.{latest_identity, identity_at_reservation}
use Rattle.book.specs.{Rights.seen_by, Rights.listed, Rows.DepositRow, Sound.is_backwards, Values.deposit_of}
use Rattle.desk.specs.Findings.{StampPlan, Finding, Fails, Unanswered, Allowed}
use Rattle.desk.specs.Command.{Setting, PendingValue, Command, Stamp, Begin, Finish, Abandon, Deposit, Show, Token}
use Rattle.desk.specs.Command.{ListAll, Grant, Revoke, Calibrate, Hold, Succeed, Answer, Begun, Kept, Listed, Shown}
use Rattle.desk.specs.Effects.{Effect, only, Stamping, Unreserved, Void, Sealing, no_number, no_seal, no_sight}
use Rattle.desk.specs.Effects.{next_reservation, stamping_of, stamp_effect, stamp_found, begin_effect, begin_found}
use Rattle.desk.specs.Effects.{finish_effect, deposit_effect, deposit_found, show_effect}
use Rattle.desk.specs.Effects.{token_effect, reply_or_nothing, right_effect, calibrate_effect, name_of}
use Rattle.desk.specs.{Succession.installed_by, Succession.is_latest, declared.fault.Fault.Fault, MachineStep.HasEffect}
use Rattle.desk.specs.{Outcome.Outcome, Outcome.Cause, Outcome.cause_of, Effects.accepted, Effects.numbered}
use Rattle.desk.specs.{Effects.succeed_effect, Command.Done, Command.Numbered, Command.Refused, Texts.octets_for}
use Rattle.desk.specs.{Texts.pending_of, Laws.IsReservedText, Laws.IsPendingOf, Serials.serials_of, Viewers.viewer_in}
use Rattle.desk.specs.declared.fault.Fault.TheVariants as fault
use Rattle.desk.proofs.journeys.Branches.{if_has, unless_has, right_has}
use Rattle.desk.proofs.{journeys.Headline.SealedBy, journeys.Headline.stamping_by, journeys.Branches.deposit_has}

-- what an effect gives out
record IsGivenOut (s : Setting) (b : History) (e : Effect) : Type 0 where
  asked : (text : List ℕ) → e.asks ≡ Some text → IsReservedText s e b text
  begun : (p : PendingValue) → e.says ≡ Begun p
      → IsPendingOf s e b p

-- nothing at all
plainly : (s : Setting) (b : History) (e : Effect) → e.asks ≡ None → ((p : PendingValue) → e.says ≡ Begun p → ⊥)
    → IsGivenOut s b e
plainly s b e none other = record { asked = λ text h. absurd cc; begun = λ p h. absurd (other p h) }

refusal_given : (s : Setting) (b : History) (f : Fault) → IsGivenOut s b (only (Refused f))
refusal_given s b f = plainly s b (only (Refused f)) refl (λ p h. cc)

answer_given : (s : Setting) (b : History) (adds : List Entry) (answer : Answer)
    → ((p : PendingValue) → answer ≡ Begun p → ⊥)
    → IsGivenOut s b (record { adds = adds; asks = None; says = answer })
answer_given s b adds answer other = plainly s b (record { adds = adds; asks = None; says = answer }) refl other

-- the identity of what was just reserved is the latest
pub just_found : (r : ReservationValue) (b : History)
    → identity_at_reservation r.serial (Reserved r ∷ b) ≡ latest_identity b
just_found r b = rw (eq-eqb r.serial r.serial refl) refl

-- the next reservation's text
text_of : (s : Setting) (b : History) (account : List ℕ) (plan : StampPlan) (octets : List ℕ) (later : List Entry)
    (r : ReservationValue) (e : Effect) → r ≡ next_reservation s account plan octets b
    → e.adds ≡ later ++ (Reserved r ∷ []) → serials_of e.adds ≡ r.serial ∷ []
    → identity_at_reservation r.serial (e.adds ++ b) ≡ latest_identity b
    → IsReservedText s e b (attribute_text s.in_force.identity r.tst)
text_of s b account plan octets later r e is adds alone found = record {
  reservation = r;
  later = later;
  adds = adds;
  alone = alone;
  above = let number : r.serial ≡ greatest_serial b + 1 = ap (λ x. x.serial) is in omega arith;
  text_is = refl;
  signer = λ k. found ∙ k;
}

asked_of : (s : Setting) (b : History) (e : Effect) (text other : List ℕ) → IsReservedText s e b text
    → Some text ≡ Some other → IsReservedText s e b other
asked_of s b e text other h is = let same : text ≡ other = cc in subst (IsReservedText s e b) same h

stamp_given : (s : Setting) (b : History) (account : List ℕ) (plan : StampPlan) (octets : List ℕ) (o : Outcome)
    (st : Stamping)
    → SealedBy s account plan octets o b st → IsGivenOut s b (stamp_effect s st)
stamp_given s b account plan octets o (Unreserved cause) by = plainly s b (stamp_effect s (Unreserved cause)) refl
    (λ p h. cc)
stamp_given s b account plan octets o (Void r cause) by =
    let e = stamp_effect s (Void r cause) in record {
      asked = λ text h. asked_of s b e (attribute_text s.in_force.identity r.tst) text
          (text_of s b account plan octets [] r e by refl refl (just_found r b)) h;
      begun = λ p h. absurd cc;
    }
stamp_given s b account plan octets o (Sealing r token) by =
    let e = stamp_effect s (Sealing r token) in record {
      asked = λ text h. asked_of s b e (attribute_text s.in_force.identity r.tst) text
          (text_of s b account plan octets (Sealed r.serial token ∷ []) r e by.1 refl refl (just_found r b)) h;
      begun = λ p h. absurd cc;
    }

stamp_found_given : (s : Setting) (b : History) (account octets : List ℕ) (o : Outcome) (f : Finding)
    → IsGivenOut s b (stamp_found s account octets o b f)
stamp_found_given s b account octets o (Fails rule) = plainly s b (stamp_found s account octets o b (Fails rule)) refl
    (λ p h. cc)
stamp_found_given s b account octets o (Unanswered cause) =
    plainly s b (stamp_found s account octets o b (Unanswered cause)) refl (λ p h. cc)
stamp_found_given s b account octets o (Allowed plan) =
    stamp_given s b account plan octets o (stamping_of s account plan octets o b (no_number o b))
    (stamping_by s account plan octets o b (no_number o b))

begin_given : (s : Setting) (b : History) (account octets : List ℕ) (plan : StampPlan) (refused : Option Cause)
    → IsGivenOut s b (begin_effect s account plan octets b refused)
begin_given s b account octets plan (Some cause) = plainly s b (begin_effect s account plan octets b (Some cause)) refl
    (λ p h. cc)
begin_given s b account octets plan None =
    let e = begin_effect s account plan octets b None in
    let r = next_reservation s account plan octets b in
    record {
      asked = λ text h. absurd cc;
      begun = λ p h.
          let above : greatest_serial b < r.serial = omega arith in
          let waiting : IsPendingOf s e b (pending_of s plan r) = record {
            of_reservation = record {
              reservation = r;
              later = [];
              adds = refl;
              alone = refl;
              above = above;
              text_is = refl;
              signer = λ k. just_found r b ∙ k;
            };
            number = refl;
            tst = refl;
          } in
          let same : pending_of s plan r ≡ p = cc in subst (IsPendingOf s e b) same waiting;
    }

begin_found_given : (s : Setting) (b : History) (account octets : List ℕ) (o : Outcome) (f : Finding)
    → IsGivenOut s b (begin_found s account octets o b f)
begin_found_given s b account octets o (Fails rule) = plainly s b (begin_found s account octets o b (Fails rule)) refl
    (λ p h. cc)
begin_found_given s b account octets o (Unanswered cause) =
    plainly s b (begin_found s account octets o b (Unanswered cause)) refl (λ p h. cc)
begin_found_given s b account octets o (Allowed plan) = begin_given s b account octets plan (no_number o b)

deposit_given : (s : Setting) (b : History) (owner reference bytes : List ℕ) (plan : StampPlan) (octets : List ℕ)
    (o : Outcome) (st : Stamping)
    → SealedBy s owner plan octets o b st → IsGivenOut s b (deposit_effect s owner reference bytes st)
deposit_given s b owner reference bytes plan octets o (Unreserved cause) by =
    plainly s b (deposit_effect s owner reference bytes (Unreserved cause)) refl (λ p h. cc)
deposit_given s b owner reference bytes plan octets o (Void r cause) by =
    let e = deposit_effect s owner reference bytes (Void r cause) in record {
      asked = λ text h. asked_of s b e (attribute_text s.in_force.identity r.tst) text
          (text_of s b owner plan octets [] r e by refl refl (just_found r b)) h;
      begun = λ p h. absurd cc;
    }
deposit_given s b owner reference bytes plan octets o (Sealing r token) by =
    let e = deposit_effect s owner reference bytes (Sealing r token) in record {
      asked = λ text h. asked_of s b e (attribute_text s.in_force.identity r.tst) text
          (text_of s b owner plan octets (Deposited (deposit_of r.serial owner reference bytes) token ∷ []) r e by.1
          refl refl (just_found r b)) h;
      begun = λ p h. absurd cc;
    }

deposit_found_given : (s : Setting) (b : History) (owner reference bytes octets : List ℕ) (o : Outcome) (f : Finding)
    → IsGivenOut s b (deposit_found s owner reference bytes octets o b f)
deposit_found_given s b owner reference bytes octets o (Fails rule) =
    plainly s b (deposit_found s owner reference bytes octets o b (Fails rule)) refl (λ p h. cc)
deposit_found_given s b owner reference bytes octets o (Unanswered cause) =
    plainly s b (deposit_found s owner reference bytes octets o b (Unanswered cause)) refl (λ p h. cc)
deposit_found_given s b owner reference bytes octets o (Allowed plan) =
    deposit_given s b owner reference bytes plan octets o (stamping_of s owner plan octets o b (no_number o b))
    (stamping_by s owner plan octets o b (no_number o b))

known_by : (s : Setting) (b : History) (number : ℕ) (same : Bool)
    → IsGivenOut s b (only (cond same (Kept number false) (Refused fault.Conflict)))
known_by s b number true = plainly s b (only (Kept number false)) refl (λ p h. cc)
known_by s b number false = refusal_given s b fault.Conflict

show_given : (s : Setting) (b : History) (refused : Option Cause) (seen : Option DepositRow)
    → IsGivenOut s b (show_effect refused seen)
show_given s b refused None = refusal_given s b fault.NotHere
show_given s b refused (Some d) =
    unless_has (IsGivenOut s b) (refusal_given s b) refused (only (Shown d.bytes))
    (answer_given s b [] (Shown d.bytes) (λ p h. cc))

reply_given : (s : Setting) (b : History) (token : Option (List ℕ)) → IsGivenOut s b (only (reply_or_nothing token))
reply_given s b None = refusal_given s b fault.NotHere
reply_given s b (Some token) = plainly s b (only (reply_or_nothing (Some token))) refl (λ p h. cc)

token_given : (s : Setting) (b : History) (refused : Option Cause) (token : Option (List ℕ))
    (seen : Option DepositRow)
    → IsGivenOut s b (token_effect refused token seen)
token_given s b refused token None = refusal_given s b fault.NotHere
token_given s b refused token (Some d) =
    unless_has (IsGivenOut s b) (refusal_given s b) refused (only (reply_or_nothing token)) (reply_given s b token)

added_given : (s : Setting) (b : History) (entry : Entry)
    → IsGivenOut s b (record { adds = entry ∷ []; asks = None; says = Done })
added_given s b entry = answer_given s b (entry ∷ []) Done (λ p h. cc)

numbered_given : (s : Setting) (b : History) (entry : Entry) (number : ℕ) → IsGivenOut s b (numbered entry number)
numbered_given s b entry number = answer_given s b (entry ∷ []) (Numbered number) (λ p h. cc)

succeeded_given : (s : Setting) (b : History) (o : Outcome) (i : InstalledValue) (latest : Bool)
    → IsGivenOut s b (succeed_effect o i latest)
succeeded_given s b o i true = answer_given s b [] Done (λ p h. cc)
succeeded_given s b o i false =
    unless_has (IsGivenOut s b) (refusal_given s b) (cause_of o.adding) (accepted (Installed i))
    (added_given s b (Installed i))

given_out : (s : Setting) (c : Command) (o : Outcome) (b : History) (e : Effect) → HasEffect s c o b e
    → IsGivenOut s b e
given_out s (Stamp account reading octets) o b e h = subst (IsGivenOut s b) (sym h.2)
    (stamp_found_given s b (name_of account) octets o h.0)
given_out s (Begin account reading octets) o b e h = subst (IsGivenOut s b) (sym h.2)
    (begin_found_given s b (name_of account) octets o h.0)
given_out s (Finish p signature) o b e h =
    let d = finish_effect p signature in
    subst (IsGivenOut s b) (sym h) (unless_has (IsGivenOut s b) (refusal_given s b) (no_seal o) d
    (plainly s b d refl (λ q k. cc)))
given_out s (Abandon p) o b e h = subst (IsGivenOut s b) (sym h) (answer_given s b [] Done (λ q k. cc))
given_out s (Deposit a reading reference bytes) o b e h =
    deposit_has (IsGivenOut s b) (refusal_given s b) s a reading reference bytes o b
    (λ d is. known_by s b d.serial (bytes_eq d.bytes bytes))
    (λ unused spelled f found. deposit_found_given s b a.name reference bytes (octets_for s.file a bytes) o f)
    (nat_le (length bytes) 1_048_576) e h
given_out s (Show a n) o b e h =
    let d = show_effect (no_sight o) (seen_by (viewer_in s.file a.name) n b) in
    subst (IsGivenOut s b) (sym h) (unless_has (IsGivenOut s b) (refusal_given s b) (cause_of o.searching) d
    (show_given s b (no_sight o) (seen_by (viewer_in s.file a.name) n b)))
given_out s (Token a n) o b e h =
    let d = token_effect (no_sight o) (token_of n b) (seen_by (viewer_in s.file a.name) n b) in
    subst (IsGivenOut s b) (sym h) (unless_has (IsGivenOut s b) (refusal_given s b) (cause_of o.searching) d
    (token_given s b (no_sight o) (token_of n b) (seen_by (viewer_in s.file a.name) n b)))
given_out s (ListAll a) o b e h =
    let d : Effect = only (Listed (listed (viewer_in s.file a.name) b)) in
    subst (IsGivenOut s b) (sym h) (unless_has (IsGivenOut s b) (refusal_given s b) (cause_of o.looking) d
    (answer_given s b [] (Listed (listed (viewer_in s.file a.name) b)) (λ p k. cc)))
given_out s (Grant a n reader) o b e h =
    let entry = Granted n reader in
    let d = right_effect s.file a.name reader o entry (seen_by (viewer_in s.file a.name) n b) in
    subst (IsGivenOut s b) (sym h) (unless_has (IsGivenOut s b) (refusal_given s b) (cause_of o.searching) d
    (right_has (IsGivenOut s b) (refusal_given s b) s.file a.name reader o entry
    (seen_by (viewer_in s.file a.name) n b) (λ x is owns. added_given s b entry)))
given_out s (Revoke a n reader) o b e h =
    let entry = Revoked n reader in
    let d = right_effect s.file a.name reader o entry (seen_by (viewer_in s.file a.name) n b) in
    subst (IsGivenOut s b) (sym h) (unless_has (IsGivenOut s b) (refusal_given s b) (cause_of o.searching) d
    (right_has (IsGivenOut s b) (refusal_given s b) s.file a.name reader o entry
    (seen_by (viewer_in s.file a.name) n b) (λ x is owns. added_given s b entry)))
given_out s (Calibrate c) o b e h =
    let entry = Calibrated c in
    let added = numbered entry (length (calibrations b) + 1) in
    let backwards : Effect = only (Refused fault.Store) in
    subst (IsGivenOut s b) (sym h) (unless_has (IsGivenOut s b) (refusal_given s b) (cause_of o.adding)
    (calibrate_effect c b) (if_has (IsGivenOut s b) (is_backwards c (latest_calibration b)) backwards added
    (refusal_given s b fault.Store) (numbered_given s b entry (length (calibrations b) + 1))))
given_out s (Hold k) o b e h =
    let entry = Held k in
    let number = length (holds b) + 1 in
    subst (IsGivenOut s b) (sym h) (unless_has (IsGivenOut s b) (refusal_given s b) (cause_of o.adding)
    (numbered entry number) (numbered_given s b entry number))
given_out s (Succeed next) o b e h =
    let i = installed_by next.identity in
    subst (IsGivenOut s b) (sym h) (unless_has (IsGivenOut s b) (refusal_given s b) (cause_of o.looking)
    (succeed_effect o i (is_latest i (latest_identity b)))
    (succeeded_given s b o i (is_latest i (latest_identity b))))

pub asked_is_reserved : (s : Setting) (c : Command) (o : Outcome) (b : History) (e : Effect) (text : List ℕ)
    → HasEffect s c o b e → e.asks ≡ Some text → IsReservedText s e b text
asked_is_reserved s c o b e text h = (given_out s c o b e h).asked text

pub begun_is_reserved : (s : Setting) (c : Command) (o : Outcome) (b : History) (e : Effect) (p : PendingValue)
    → HasEffect s c o b e → e.says ≡ Begun p
    → IsPendingOf s e b p
begun_is_reserved s c o b e p h = (given_out s c o b e h).begun p
