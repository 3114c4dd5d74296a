-- Histories that agree for an account agree again after its commands.
use Rattle.std.proofs.Common.{◌≡◌, ℕ, ◌<◌, ◌==◌, ◌||◌, ◌⊎◌, max, nat_le, cond, Bool, true, false, List, []}
use Rattle.std.proofs.Common.{◌∷◌, ◌++◌, length, Option, Some, None, refl, sym, ◌∙◌, ap, subst, inl}
use Rattle.std.proofs.lemmas.Bool.{eq-eqb, eqb-true}
use Rattle.std.proofs.{Common.inr, Common.arith, lemmas.Slice.Eq.bytes_eq-Decides}
use Rattle.std.specs.{Prelude.filter, Prelude.map, Prelude.option_map, Option.option_and_then, Str.bytes_eq}
use Rattle.policy.specs.Record.{AccountValue, PolicyValue}
use Rattle.book.specs.History.{Entry, Reserved, Sealed, Deposited, Granted, Revoked, History, ReservationValue}
use Rattle.book.specs.History.{reservations, stamps, stamp_of, greatest_serial, token_of, reservation_at, deposit_at}
use Rattle.book.specs.{Rows.StampRow, Rows.DepositRow, Readers.Reader, Readers.Viewer, Rights.seen_by, Rights.shown_to}
use Rattle.book.specs.{Rights.may_read, Rights.listed, Sound.Along, Sound.Fits, Values.deposit_of}
use Rattle.desk.specs.Command.{Setting, Command, Stamp, Begin, Finish, Abandon, Deposit, Show, Token}
use Rattle.desk.specs.Command.{ListAll, Grant, Revoke, Calibrate, Hold, Succeed, Listed}
use Rattle.desk.specs.{Effects.Effect, Effects.unless, Effects.next_reservation, Effects.right_effect, Effects.no_sight}
use Rattle.desk.specs.{Agreement.SeenValue, Agreement.seen_as, Agreement.Agree, Agreement.IsCommandOf, Effects.Purpose}
use Rattle.desk.specs.{Effects.purpose_found, Effects.for_reply, Effects.for_deposit, Outcome.Outcome, Outcome.cause_of}
use Rattle.desk.specs.{Findings.StampPlan, Findings.Finding, Texts.octets_for, MachineStep.HasEffect, Viewers.viewer_in}
use Rattle.desk.proofs.journeys.Views.{unsealed_above, sealed_below, deposit_sealed}
use Rattle.desk.proofs.journeys.Readers.{IsOwn, owner_sees, seen_after_grant, seen_after_revocation}
use Rattle.desk.proofs.journeys.StepFacts.{right_seen, shows_none, tokens_none, answers_none}
use Rattle.desk.proofs.{journeys.Branches.unless_has, journeys.Branches.right_has, journeys.SameEffect.seen_same}
use Rattle.desk.proofs.{documents.Sighted.may_see, journeys.Branches.stamp_has, journeys.Branches.deposit_has}

differ_by : (m n : ℕ) (same : Bool) → (m == n) ≡ same → n < m → same ≡ false
differ_by m n true e h = let number : m ≡ n = eqb-true m n e in absurd (omega arith)
differ_by m n false e h = refl

-- where a number is below another they aren't the same
pub differ : (m n : ℕ) → n < m → (m == n) ≡ false
differ m n h = differ_by m n (m == n) refl h

-- a reservation under a new serial number is of no deposit that is seen
pub seen_beside : (viewer : Viewer) (n : ℕ) (b : History) (r : ReservationValue) → Along Fits b
    → greatest_serial b < r.serial
    → (seen : Option DepositRow) → seen_by viewer n b ≡ seen
    → option_map (seen_as n (Reserved r ∷ b)) seen ≡ option_map (seen_as n b) seen
seen_beside viewer n b r sound above None is = refl
seen_beside viewer n b r sound above (Some d) is =
    let fits = right_seen viewer n b d is in
    let token = deposit_sealed b n fits.deposit fits.deposited in
    let low = sealed_below b sound n token.0 token.1 in
    let other : (r.serial == n) ≡ false = differ r.serial n (omega arith) in
    ap (λ t. Some (record {
      deposit = d;
      gen_time = option_map (λ x. x.gen_time) (cond t (Some r)
          (reservation_at n b));
      token = token_of n b;
    })) other

agree_reserved : (viewer : Viewer) (b c : History) (r : ReservationValue) → Along Fits b → Along Fits c
    → Agree viewer b c → greatest_serial b < r.serial
    → Agree viewer (Reserved r ∷ b) (Reserved r ∷ c)
agree_reserved viewer b c r one other agree above =
    let number : greatest_serial b ≡ greatest_serial c = ap (λ x. x.greatest) agree.shared in
    let above_too : greatest_serial c < r.serial = rw (← number) above in
    let tokens : token_of r.serial b ≡ token_of r.serial c = unsealed_above b one r.serial above
    ∙ sym (unsealed_above c other r.serial above_too) in
    record {
      own_stamps =
          ap (λ t. cond (bytes_eq r.account viewer.name) (stamp_of t r
          ∷ filter (λ s. bytes_eq s.account viewer.name) (stamps b)) (filter (λ s. bytes_eq s.account viewer.name)
          (stamps b))) tokens
          ∙ ap (λ xs. cond (bytes_eq r.account viewer.name) (stamp_of (token_of r.serial c) r ∷ xs) xs) agree.own_stamps;
      own_deposits = agree.own_deposits;
      seen = λ n. seen_beside viewer n b r one above (seen_by viewer n b) refl
          ∙ (agree.seen n ∙ sym (seen_beside viewer n c r other above_too (seen_by viewer n c) refl));
      shared = ap (λ x. record {
        calibration = x.calibration;
        holding = x.holding;
        last = Some r.gen_time;
        greatest = max r.serial x.greatest;
        identity = x.identity;
      }) agree.shared;
    }

-- a token for a serial number
abbrev rows : (ℕ → Option (List ℕ)) → List ReservationValue → List StampRow
rows token rs = map (λ r. stamp_of (token r.serial) r) rs

abbrev with_token : ℕ → List ℕ → (ℕ → Option (List ℕ)) → ℕ → Option (List ℕ)
with_token n t token m = cond (n == m) (Some t) (token m)

abbrev seal : ℕ → List ℕ → StampRow → StampRow
seal n t s = record s { token = cond (n == s.serial) (Some t) s.token }

abbrev own : List ℕ → List StampRow → List StampRow
own account ss = filter (λ s. bytes_eq s.account account) ss

own_sealed_step : (account : List ℕ) (n : ℕ) (t : List ℕ) (token : ℕ
    → Option (List ℕ)) (r : ReservationValue) (rs : List ReservationValue) (mine : Bool)
    → own account (rows (with_token n t token) rs) ≡ map (seal n t) (own account (rows token rs))
    → cond mine (stamp_of (with_token n t token r.serial) r
    ∷ own account (rows (with_token n t token) rs)) (own account (rows (with_token n t token) rs))
    ≡ map (seal n t) (cond mine (stamp_of (token r.serial) r
    ∷ own account (rows token rs)) (own account (rows token rs)))
own_sealed_step account n t token r rs true e = ap (λ xs. stamp_of (with_token n t token r.serial) r ∷ xs) e
own_sealed_step account n t token r rs false e = e

own_sealed : (account : List ℕ) (n : ℕ) (t : List ℕ) (token : ℕ → Option (List ℕ)) (rs : List ReservationValue)
    → own account (rows (with_token n t token) rs) ≡ map (seal n t) (own account (rows token rs))
own_sealed account n t token [] = refl
own_sealed account n t token (r ∷ rs) = own_sealed_step account n t token r rs (bytes_eq r.account account)
    (own_sealed account n t token rs)

own_stamps_sealed : (viewer : Viewer) (n : ℕ) (t : List ℕ) (b c : History) → Agree viewer b c
    → own viewer.name (rows (with_token n t (λ m. token_of m b)) (reservations b))
    ≡ own viewer.name (rows (with_token n t (λ m. token_of m c)) (reservations c))
own_stamps_sealed viewer n t b c agree =
    own_sealed viewer.name n t (λ m. token_of m b) (reservations b)
    ∙ (ap (map (seal n t)) agree.own_stamps ∙ sym (own_sealed viewer.name n t (λ m. token_of m c) (reservations c)))

abbrev reseal : ℕ → List ℕ → ℕ → SeenValue → SeenValue
reseal n t m v = record v { token = cond (n == m) (Some t) v.token }

seen_sealed : (n : ℕ) (t : List ℕ) (m : ℕ) (b : History) (seen : Option DepositRow)
    → option_map (seen_as m (Sealed n t ∷ b)) seen ≡ option_map (reseal n t m) (option_map (seen_as m b) seen)
seen_sealed n t m b None = refl
seen_sealed n t m b (Some d) = refl

agree_sealed : (viewer : Viewer) (b c : History) (n : ℕ) (t : List ℕ) → Agree viewer b c
    → Agree viewer (Sealed n t ∷ b) (Sealed n t ∷ c)
agree_sealed viewer b c n t agree = record {
  own_stamps = own_stamps_sealed viewer n t b c agree;
  own_deposits = agree.own_deposits;
  seen = λ m. seen_sealed n t m b (seen_by viewer m b) ∙ (ap (option_map (reseal n t m)) (agree.seen m)
      ∙ sym (seen_sealed n t m c (seen_by viewer m c)));
  shared = agree.shared;
}

-- a new deposit of the viewer's own
abbrev seen_new : Viewer → ℕ → DepositRow → List ℕ → History → Bool → Option SeenValue
seen_new viewer m d t b same =
    option_map (λ x. record {
      deposit = x;
      gen_time = option_map (λ r. r.gen_time)
          (reservation_at m b);
      token = cond same (Some t) (token_of m b);
    })
    (option_and_then (shown_to viewer (may_read viewer m b)) (cond same (Some d) (deposit_at m b)))

seen_own : (viewer : Viewer) (m : ℕ) (d : DepositRow) (t : List ℕ) (b : History) → bytes_eq d.owner viewer.name ≡ true
    → seen_new viewer m d t b true ≡ Some (record {
      deposit = d;
      gen_time = option_map (λ r. r.gen_time)
          (reservation_at m b);
      token = Some t;
    })
seen_own viewer m d t b mine =
    ap (λ o. option_map (λ x. record {
      deposit = x;
      gen_time = option_map (λ r. r.gen_time)
          (reservation_at m b);
      token = Some t;
    })
    (cond (o || may_read viewer m b) (Some d) None)) mine

seen_deposited : (viewer : Viewer) (m : ℕ) (d : DepositRow) (t : List ℕ) (b c : History) → bytes_eq d.owner viewer.name
    ≡ true
    → reservation_at d.serial b ≡ reservation_at d.serial c → Agree viewer b c → (same : Bool) → (d.serial == m)
    ≡ same
    → seen_new viewer m d t b same ≡ seen_new viewer m d t c same
seen_deposited viewer m d t b c mine stamped agree true is =
    let number : d.serial ≡ m = eqb-true d.serial m is in
    let at : reservation_at m b ≡ reservation_at m c = subst (λ k. reservation_at k b
    ≡ reservation_at k c) number stamped in
    seen_own viewer m d t b mine
    ∙ (ap (λ r. Some (record { deposit = d; gen_time = option_map (λ x. x.gen_time) r; token = Some t })) at
    ∙ sym (seen_own viewer m d t c mine))
seen_deposited viewer m d t b c mine stamped agree false is = agree.seen m

agree_deposited : (viewer : Viewer) (b c : History) (d : DepositRow) (t : List ℕ) → bytes_eq d.owner viewer.name ≡ true
    → reservation_at d.serial b ≡ reservation_at d.serial c → Agree viewer b c → Agree viewer (Deposited d t
    ∷ b) (Deposited d t ∷ c)
agree_deposited viewer b c d t mine stamped agree = record {
  own_stamps = own_stamps_sealed viewer d.serial t b c agree;
  own_deposits = ap (λ xs. cond (bytes_eq d.owner viewer.name) (d ∷ xs) xs) agree.own_deposits;
  seen = λ m. seen_deposited viewer m d t b c mine stamped agree (d.serial == m) refl;
  shared = agree.shared;
}

-- a right to a deposit of its own
own_too : (viewer : Viewer) (n : ℕ) (b c : History) → Agree viewer b c → IsOwn viewer n b → IsOwn viewer n c
own_too viewer n b c agree own =
    let seen = sym (seen_same viewer n b c agree) ∙ owner_sees viewer n b own (may_read viewer n b) in
    record {
      deposit = own.deposit;
      deposited = (may_see viewer n c own.deposit seen).deposited;
      owns = own.owns;
    }

agree_granted : (viewer : Viewer) (b c : History) (n : ℕ) (x : Reader) → IsOwn viewer n b → Agree viewer b c
    → Agree viewer (Granted n x ∷ b) (Granted n x ∷ c)
agree_granted viewer b c n x own agree = record {
  own_stamps = agree.own_stamps;
  own_deposits = agree.own_deposits;
  seen = λ m. ap (option_map (seen_as m b)) (seen_after_grant viewer n x m b own)
      ∙ (agree.seen m
      ∙ sym (ap (option_map (seen_as m c)) (seen_after_grant viewer n x m c (own_too viewer n b c agree own))));
  shared = agree.shared;
}

agree_revoked : (viewer : Viewer) (b c : History) (n : ℕ) (x : Reader) → IsOwn viewer n b → Agree viewer b c
    → Agree viewer (Revoked n x ∷ b) (Revoked n x ∷ c)
agree_revoked viewer b c n x own agree = record {
  own_stamps = agree.own_stamps;
  own_deposits = agree.own_deposits;
  seen = λ m. ap (option_map (seen_as m b)) (seen_after_revocation viewer n x m b own)
      ∙ (agree.seen m
      ∙ sym (ap (option_map (seen_as m c)) (seen_after_revocation viewer n x m c (own_too viewer n b c agree own))));
  shared = agree.shared;
}

pub next_above : (s : Setting) (account : List ℕ) (plan : StampPlan) (octets : List ℕ) (b : History)
    → greatest_serial b < (next_reservation s account plan octets b).serial
next_above s account plan octets b = omega arith

just_reserved : (r : ReservationValue) (b c : History) → reservation_at r.serial (Reserved r ∷ b)
    ≡ reservation_at r.serial (Reserved r ∷ c)
just_reserved r b c = rw (eq-eqb r.serial r.serial refl)

-- a token is kept alike after its reservation
abbrev AgreesKept : Viewer → Purpose → History → History → Type 0
AgreesKept viewer u b c = (r : ReservationValue) (token : List ℕ) → Agree viewer (Reserved r ∷ b) (Reserved r ∷ c)
    → Agree viewer (u.keeping.adds r.serial token ∷ Reserved r ∷ b) (u.keeping.adds r.serial token ∷ Reserved r ∷ c)

stamp_agrees : (viewer : Viewer) (u : Purpose) (s : Setting) (name octets : List ℕ) (o : Outcome) (b c : History)
    → Along Fits b → Along Fits c → Agree viewer b c → AgreesKept viewer u b c → (f : Finding)
    → Agree viewer ((purpose_found u s name octets o b f).adds ++ b) ((purpose_found u s name octets o b f).adds ++ c)
stamp_agrees viewer u s name octets o b c one other agree kept f =
    stamp_has (λ e. Agree viewer (e.adds ++ b) (e.adds ++ c)) u s name octets o b (λ rule. agree) (λ cause. agree) f
    (λ plan is left.
    let r = next_reservation s name plan octets b in
    let reserved = agree_reserved viewer b c r one other agree (next_above s name plan octets b) in
    (λ cause. reserved, λ token. kept r token reserved))

none_agrees : (viewer : Viewer) (e : Effect) (b c : History) → Agree viewer b c → e.adds ≡ []
    → Agree viewer (e.adds ++ b) (e.adds ++ c)
none_agrees viewer e b c agree h = subst (λ es. Agree viewer (es ++ b) (es ++ c)) (sym h) agree

-- what a right's command adds: nothing, or the right to a deposit of its own
abbrev AddsRight : Viewer → ℕ → History → Entry → Effect → Type 0
AddsRight viewer n b entry e = (e.adds ≡ []) ⊎ ((e.adds ≡ entry ∷ []) × IsOwn viewer n b)

right_adds : (file : PolicyValue) (account : List ℕ) (reader : Reader) (n : ℕ) (b : History) (o : Outcome)
    (entry : Entry) → AddsRight (viewer_in file account) n b entry (unless (cause_of o.searching)
    (right_effect file account reader o entry (seen_by (viewer_in file account) n b)))
right_adds file account reader n b o entry =
    let viewer = viewer_in file account in
    let P : Effect → Type 0 = AddsRight viewer n b entry in
    let seen = seen_by viewer n b in
    unless_has P (λ f. inl refl) (cause_of o.searching) (right_effect file account reader o entry seen)
    (right_has P (λ f. inl refl) file account reader o entry seen
    (λ d is owns. inr (
      refl,
      record { deposit = d; deposited = (may_see viewer n b d is).deposited; owns = owns },
    )))

granted_agrees : (viewer : Viewer) (b c : History) (n : ℕ) (x : Reader) (e : Effect) → Agree viewer b c
    → AddsRight viewer n b (Granted n x) e → Agree viewer (e.adds ++ b) (e.adds ++ c)
granted_agrees viewer b c n x e agree (inl h) = none_agrees viewer e b c agree h
granted_agrees viewer b c n x e agree (inr h) = subst (λ es. Agree viewer (es ++ b) (es ++ c)) (sym h.0)
    (agree_granted viewer b c n x h.1 agree)

revoked_agrees : (viewer : Viewer) (b c : History) (n : ℕ) (x : Reader) (e : Effect) → Agree viewer b c
    → AddsRight viewer n b (Revoked n x) e → Agree viewer (e.adds ++ b) (e.adds ++ c)
revoked_agrees viewer b c n x e agree (inl h) = none_agrees viewer e b c agree h
revoked_agrees viewer b c n x e agree (inr h) = subst (λ es. Agree viewer (es ++ b) (es ++ c)) (sym h.0)
    (agree_revoked viewer b c n x h.1 agree)

abbrev righted : Setting → AccountValue → ℕ → Reader → Outcome → Entry → History → Effect
righted s a n reader o entry b =
    unless (cause_of o.searching) (right_effect s.file a.name reader o entry (seen_by (viewer_in s.file a.name) n b))

right_for : (file : PolicyValue) (name account : List ℕ) (n : ℕ) (b : History) (entry : Entry) (e d : Effect)
    → name ≡ account → e ≡ d → AddsRight (viewer_in file name) n b entry d
    → AddsRight (viewer_in file account) n b entry e
right_for file name account n b entry e d mine is h =
    subst (λ x. AddsRight (viewer_in file x) n b entry e) mine
    (subst (AddsRight (viewer_in file name) n b entry) (sym is) h)

-- after an account's command the histories agree for it again
pub step_agrees : (account : List ℕ) (s : Setting) (x : Command) (o : Outcome) (b c : History) (e : Effect)
    → Along Fits b → Along Fits c → Agree (viewer_in s.file account) b c
    → IsCommandOf account x → HasEffect s x o b e → Agree (viewer_in s.file account) (e.adds ++ b) (e.adds ++ c)
step_agrees account s (Stamp None reading octets) o b c e one other agree mine h = absurd mine
step_agrees account s (Stamp (Some a) reading octets) o b c e one other agree mine h =
    subst (λ x. Agree (viewer_in s.file account) (x.adds ++ b) (x.adds ++ c)) (sym h.2)
    (stamp_agrees (viewer_in s.file account) for_reply s a.name octets o b c one other agree
    (λ r token reserved. agree_sealed (viewer_in s.file account) (Reserved r ∷ b) (Reserved r ∷ c) r.serial token
    reserved) h.0)
step_agrees account s (Begin by reading octets) o b c e one other agree mine h = absurd mine
step_agrees account s (Finish p signature) o b c e one other agree mine h = absurd mine
step_agrees account s (Abandon p) o b c e one other agree mine h = absurd mine
step_agrees account s (Deposit a reading reference bytes) o b c e one other agree mine h =
    let viewer = viewer_in s.file account in
    deposit_has (λ x. Agree viewer (x.adds ++ b) (x.adds ++ c)) (λ f. agree) s a reading reference bytes o b
    (λ d is. agree)
    (λ unused spelled f found. stamp_agrees viewer (for_deposit a.name reference bytes) s a.name
    (octets_for s.file a bytes) o b c one other agree
    (λ r token reserved. agree_deposited viewer (Reserved r ∷ b) (Reserved r ∷ c)
    (deposit_of r.serial a.name reference bytes) token ((bytes_eq-Decides a.name viewer.name).1 mine)
    (just_reserved r b c) reserved) f) (nat_le (length bytes) 1_048_576) e h
step_agrees account s (Show a n) o b c e one other agree mine h =
    none_agrees (viewer_in s.file account) e b c agree (ap (λ x. x.adds) h
    ∙ shows_none (cause_of o.searching) (no_sight o) (seen_by (viewer_in s.file a.name) n b))
step_agrees account s (Token a n) o b c e one other agree mine h =
    none_agrees (viewer_in s.file account) e b c agree (ap (λ x. x.adds) h
    ∙ tokens_none (cause_of o.searching) (no_sight o) (token_of n b) (seen_by (viewer_in s.file a.name) n b))
step_agrees account s (ListAll a) o b c e one other agree mine h =
    none_agrees (viewer_in s.file account) e b c agree (ap (λ x. x.adds) h
    ∙ answers_none (cause_of o.looking) (Listed (listed (viewer_in s.file a.name) b)))
step_agrees account s (Grant a n reader) o b c e one other agree mine h =
    granted_agrees (viewer_in s.file account) b c n reader e agree
    (right_for s.file a.name account n b (Granted n reader) e (righted s a n reader o (Granted n reader) b) mine h
    (right_adds s.file a.name reader n b o (Granted n reader)))
step_agrees account s (Revoke a n reader) o b c e one other agree mine h =
    revoked_agrees (viewer_in s.file account) b c n reader e agree
    (right_for s.file a.name account n b (Revoked n reader) e (righted s a n reader o (Revoked n reader) b) mine h
    (right_adds s.file a.name reader n b o (Revoked n reader)))
step_agrees account s (Calibrate x) o b c e one other agree mine h = absurd mine
step_agrees account s (Hold x) o b c e one other agree mine h = absurd mine
step_agrees account s (Succeed next) o b c e one other agree mine h = absurd mine
