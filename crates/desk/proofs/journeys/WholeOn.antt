-- A history that is sound in full goes on so in a new book.
use Rattle.std.proofs.Common.{◌≡◌, ℕ, List, [], ◌∷◌, map, reverse, Option, Some, None, refl, sym, ap, ◌∙◌}
use Rattle.std.proofs.{Common.subst, lemmas.Bool.eq-eqb}
use Rattle.der.specs.{Node.Node, ObjectIdentifier.oid_content}
use Rattle.tsp.specs.{Request.RequestValue, Request.Spells, Tst.SpellsTst, Tst.TstValue, Tst.answer}
use Rattle.decide.specs.Clock.{Follows}
use Rattle.book.specs.Continuation.{Floor, entry_if, reserved_as, token_as, continued, last_reservation, identity_since}
use Rattle.book.specs.History.{Entry, Reserved, Sealed, Calibrated, Held, Installed, History}
use Rattle.book.specs.History.{HoldValue, CalibrationValue, InstalledValue, ReservationValue, latest_calibration}
use Rattle.book.specs.Identities.{latest_identity, identity_at_reservation}
use Rattle.book.specs.{Continuation.other_holds, Continuation.IsAboveIfAny, Entries.with_all, Sound.Along}
use Rattle.book.proofs.GoingOn.{clocked_as, goes_on, goes_on_unstamped, by_last, signer_before, none_before}
use Rattle.book.proofs.GoingOn.{continued_sound}
use Rattle.desk.specs.Content.{IsForRequest, IsNamedBy, IsTrueOf, IsNaming, IsSoundInFull}
use Rattle.desk.specs.Continuation.{Names, IsRestated, IsStated, IsStatedIfAny}
use Rattle.desk.specs.{MachineRuns.IsRising, Succession.NamesLatest}

-- ---- a fact of each entry, over entries of which it says nothing

module _ (P : Entry → History → Type 0) where
  along_if : {X : Type 0} (entry : X → Entry) → ((x : X) (b : History) → P (entry x) b) → (x : Option X) (b : History)
      → Along P b → Along P (with_all (entry_if entry x) b)
  along_if entry none None b along = along
  along_if entry none (Some x) b along = (none x b, along)

  along_held : ((h : HoldValue) (b : History) → P (Held h) b) → (hs : List HoldValue) (b : History)
      → Along P b → Along P (with_all (map Held hs) b)
  along_held none [] b along = along
  along_held none (h ∷ hs) b along = along_held none hs (Held h ∷ b) (none h b, along)

-- a fact that only reservations have
pub record IsOfStamps (P : Entry → History → Type 0) : Type 0 where
  pub calibrated : (c : CalibrationValue) (b : History) → P (Calibrated c) b
  pub held : (h : HoldValue) (b : History) → P (Held h) b
  pub installed : (i : InstalledValue) (b : History) → P (Installed i) b
  pub sealed : (n : _) (token : _) (b : History) → P (Sealed n token) b

module _ (P : Entry → History → Type 0) (none : IsOfStamps P) where
  along_clocked : (b : History) → Along P (clocked_as b)
  along_clocked b =
      along_held P none.held (reverse (other_holds b)) (with_all (entry_if Calibrated (latest_calibration b)) [])
      (along_if P Calibrated none.calibrated (latest_calibration b) [] tt)

  pub goes_along : (floor : Option Floor) (b : History)
      → ((r : ReservationValue) → last_reservation b ≡ Some r
      → P (Reserved (reserved_as floor r))
      (with_all (entry_if Installed (identity_at_reservation r.serial b)) (clocked_as b)))
      → Along P (continued floor b)
  goes_along floor b stamp = by_last b (Along P (continued floor b))
      (λ r last. subst (Along P) (sym (goes_on floor b r last))
      (along_if P Installed none.installed (identity_since b) _
      (along_if P (Sealed r.serial) (none.sealed r.serial) (token_as floor r b) _ (
        stamp r last,
        along_if P Installed none.installed (identity_at_reservation r.serial b) (clocked_as b) (along_clocked b),
      ))))
      (λ unstamped. subst (Along P) (sym (goes_on_unstamped floor b unstamped))
      (along_if P Installed none.installed (identity_since b) (clocked_as b) (along_clocked b)))

-- ---- the last stamp

-- what is known of it, and whom its TSTInfo names
record IsKnownStamp (r : ReservationValue) (identity : Option InstalledValue) : Type 0 where
  stamped : IsForRequest r
  named : Names stamped.tsa identity

-- a stamp whose TSTInfo names nobody
record IsStampOfNobody (r : ReservationValue) : Type 0 where
  stamped : IsForRequest r
  nobody : stamped.tsa ≡ None

names_latest : (tsa : Option Node) (b : History) (identity : Option InstalledValue) → latest_identity b ≡ identity
    → Names tsa identity → NamesLatest tsa b
names_latest None b identity is names = tt
names_latest (Some name) b identity is names = (names.0, is ∙ names.1, names.2)

latest_names : (tsa : Option Node) (b : History) → NamesLatest tsa b → Names tsa (latest_identity b)
latest_names None b names = tt
latest_names (Some name) b names = names

last_known : (b : History) (r : ReservationValue) → Along IsNaming b → last_reservation b ≡ Some r
    → IsKnownStamp r (identity_at_reservation r.serial b)
last_known [] r naming last = absurd cc
last_known (Reserved x ∷ b) r naming last =
    let same : x ≡ r = cc in
    let own : IsNamedBy x b = naming.0 in
    let here : identity_at_reservation x.serial (Reserved x ∷ b) ≡ latest_identity b =
    rw (eq-eqb x.serial x.serial refl) refl in
    subst (λ (y : ReservationValue). IsKnownStamp y (identity_at_reservation y.serial (Reserved x ∷ b))) same
    (record {
      stamped = own.stamped;
      named = subst (Names own.stamped.tsa) (sym here) (latest_names own.stamped.tsa b own.named);
    })
last_known (_ ∷ b) r naming last = last_known b r naming.1 last

stamp_known : (floor : Option Floor) (b : History) (r : ReservationValue) → Along IsNaming b → IsStatedIfAny floor b
    → last_reservation b ≡ Some r → IsKnownStamp (reserved_as floor r) (identity_at_reservation r.serial b)
stamp_known None b r naming stated last = last_known b r naming last
stamp_known (Some floor) b r naming stated last =
    let found : Some stated.last ≡ Some r = sym stated.reserved ∙ last in
    let same : stated.last ≡ r = cc in
    subst (λ (y : ReservationValue). IsKnownStamp (reserved_as (Some floor) y) (identity_at_reservation y.serial b))
    same
    (record { stamped = stated.stamped; named = stated.named })

-- a void stamp for the last one's request
restated_for : ((octets : List ℕ) (r s : RequestValue) → Spells octets r → Spells octets s → r ≡ s)
    → ((octets : List ℕ) (s t : TstValue) → SpellsTst octets s → SpellsTst octets t → s ≡ t)
    → (floor : Floor) (last : ReservationValue) → IsForRequest last → IsRestated floor last
    → IsStampOfNobody (reserved_as (Some floor) last)
restated_for one_request one_tst floor last own is =
    let request : is.request ≡ own.request = one_request last.request is.request own.request is.spelled own.spelled in
    let before : is.before
    ≡ answer own.request own.policy last.serial last.gen_time own.accuracy own.ordering own.tsa =
    one_tst last.tst is.before _ is.read own.tst in
    let policy : is.before.policy ≡ own.policy = ap (λ (t : TstValue). t.policy) before in
    record {
      stamped = record {
        request = is.request;
        spelled = is.spelled;
        algorithm = own.algorithm ∙ ap (λ (r : RequestValue). oid_content r.imprint.algorithm) (sym request);
        digest = own.digest ∙ ap (λ (r : RequestValue). r.imprint.hash) (sym request);
        policy = is.before.policy;
        accuracy = is.before.accuracy;
        ordering = is.before.ordering;
        tsa = None;
        content = own.content ∙ ap oid_content (sym policy);
        tst = is.restated;
      };
      nobody = refl;
    }

pub restated_is_stated : ((octets : List ℕ) (r s : RequestValue) → Spells octets r → Spells octets s → r ≡ s)
    → ((octets : List ℕ) (s t : TstValue) → SpellsTst octets s → SpellsTst octets t → s ≡ t)
    → (floor : Floor) (b : History) (last : ReservationValue) → IsSoundInFull b → last_reservation b ≡ Some last
    → IsRestated floor last → IsStated floor b
restated_is_stated one_request one_tst floor b last whole found is =
    let own = (last_known b last whole.naming found).stamped in
    let void = restated_for one_request one_tst floor last own is in
    record {
      last = last;
      reserved = found;
      stamped = void.stamped;
      named = subst (λ tsa. Names tsa (identity_at_reservation last.serial b)) (sym void.nobody) tt;
    }

-- ---- the laws

pub whole_on : (floor : Option Floor) (b : History) → IsSoundInFull b → IsAboveIfAny floor b → IsStatedIfAny floor b
    → IsSoundInFull (continued floor b)
whole_on floor b whole above stated = record {
  sound = continued_sound floor b whole.sound above;
  content = goes_along IsTrueOf (record {
    calibrated = λ c b. tt;
    held = λ h b. tt;
    installed = λ i b. tt;
    sealed = λ n token b. tt;
  }) floor b (λ r last. (stamp_known floor b r whole.naming stated last).stamped);
  naming = goes_along IsNaming (record {
    calibrated = λ c b. tt;
    held = λ h b. tt;
    installed = λ i b. tt;
    sealed = λ n token b. tt;
  }) floor b (λ r last. let known = stamp_known floor b r whole.naming stated last in
      record {
        stamped = known.stamped;
        named = names_latest known.stamped.tsa _ _ (signer_before (identity_at_reservation r.serial b) b) known.named;
      });
}

pub rising_on : (floor : Option Floor) (b : History) → IsSoundInFull b → IsStatedIfAny floor b
    → Along IsRising (continued floor b)
rising_on floor b whole stated = goes_along IsRising (record {
  calibrated = λ c b. tt;
  held = λ h b. tt;
  installed = λ i b. tt;
  sealed = λ n token b. tt;
}) floor b (λ r last. let known = stamp_known floor b r whole.naming stated last in
    record {
      stamped = known.stamped;
      follows = subst (λ before. Follows known.stamped.ordering before (reserved_as floor r).gen_time)
          (sym (none_before (identity_at_reservation r.serial b) b)) tt;
    })
