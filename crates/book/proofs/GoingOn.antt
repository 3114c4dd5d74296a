-- A history that goes on in a new book shows what the old one does of the clock, the holds, the identity and the last
-- stamp.
use Rattle.std.proofs.Common.{◌≡◌, ℕ, ℤ, ◌==◌, ◌<◌, ◌≤◌, ◌<ℤ◌, int_le, int_lt, Bool, true, false, not, ◌&&◌, ◌||◌, cond}
use Rattle.std.proofs.Common.{List, [], ◌∷◌, ◌++◌, map, filter, reverse, find, Option, Some, None, option_map}
use Rattle.std.proofs.Common.{option_and_then, pos, refl, sym, ap, ◌∙◌, subst, arith}
use Rattle.std.{specs.List.list_any, specs.List.AllByRecursion, specs.Option.option_or, proofs.Math.Nat.max-eq_left}
use Rattle.std.proofs.lemmas.{Bool.eq-eqb, Int.ints, Grind.reverse_onto, List.append-nil, List.reverse-reverse}
use Rattle.gentime.specs.GenTime.{last_moment}
use Rattle.book.specs.Continuation.{holds_all, is_closed, all_moments, closed, other_holds, last_reservation}
use Rattle.book.specs.Continuation.{identity_since, Floor, reserved_as, token_as, entry_if, last_stamp}
use Rattle.book.specs.Continuation.{stamp_with_identity, first_entries, continued, IsAbove, IsAboveIfAny}
use Rattle.book.specs.{Entries.with_all, Entries.FitInTurn, Sound.IsSound, Sound.greatest_number}
use Rattle.book.specs.History.{Entry, Reserved, Sealed, Calibrated, Held, Installed, History, HoldValue}
use Rattle.book.specs.History.{CalibrationValue, InstalledValue, ReservationValue, reservations, holds, first_of}
use Rattle.book.specs.History.{greatest_of, greatest_serial, last_gen_time, latest_calibration, is_held, token_of}
use Rattle.book.specs.History.{reservation_at, stamp_of, stamp_at}
use Rattle.book.{specs.Identities.latest_identity, specs.Identities.identity_at_reservation, proofs.Shown.sound_all}

-- ---- entries one list after the other

all_append : (xs ys : List Entry) (b : History) → with_all (xs ++ ys) b ≡ with_all ys (with_all xs b)
all_append [] ys b = refl
all_append (x ∷ xs) ys b = all_append xs ys (x ∷ b)

fit_append : (xs ys : List Entry) (b : History) → FitInTurn xs b → FitInTurn ys (with_all xs b)
    → FitInTurn (xs ++ ys) b
fit_append [] ys b first then = then
fit_append (x ∷ xs) ys b first then = (first.0, fit_append xs ys (x ∷ b) first.1 then)

-- an entry doesn't change what a history shows so
abbrev Skips : {X : Type 0} → (History → X) → Entry → Type 0
Skips V entry = (b : History) → V (entry ∷ b) ≡ V b

skips_all : {X : Type 0} (V : History → X) (es : List Entry) → AllByRecursion (Skips V) es → (b : History)
    → V (with_all es b) ≡ V b
skips_all V [] skips b = refl
skips_all V (e ∷ es) skips b = skips_all V es skips.1 (e ∷ b) ∙ skips.0 b

skips_if : {X Y : Type 0} (V : History → X) (entry : Y → Entry) → ((y : Y) → Skips V (entry y)) → (y : Option Y)
    → AllByRecursion (Skips V) (entry_if entry y)
skips_if V entry skips None = tt
skips_if V entry skips (Some y) = (skips y, tt)

skips_held : {X : Type 0} (V : History → X) → ((h : HoldValue) → Skips V (Held h)) → (hs : List HoldValue)
    → AllByRecursion (Skips V) (map Held hs)
skips_held V skips [] = tt
skips_held V skips (h ∷ hs) = (skips h, skips_held V skips hs)

-- ---- the parts of the new history

-- with a calibration, if any, and holds
abbrev pub clocked : Option CalibrationValue → List HoldValue → History
clocked c hs = with_all (map Held hs) (with_all (entry_if Calibrated c) [])

abbrev parts : Option CalibrationValue → List HoldValue → List Entry → Option InstalledValue → History
parts c hs stamp since = with_all (entry_if Installed since) (with_all stamp (clocked c hs))

pub in_parts : (floor : Option Floor) (b : History)
    → continued floor b
    ≡ parts (latest_calibration b) (reverse (other_holds b)) (stamp_with_identity floor (last_reservation b) b)
    (identity_since b)
in_parts floor b =
    let c = entry_if Calibrated (latest_calibration b) in
    let hs = map Held (reverse (other_holds b)) in
    let stamp = stamp_with_identity floor (last_reservation b) b in
    let since = entry_if Installed (identity_since b) in
    all_append c (hs ++ (stamp ++ since)) []
    ∙ all_append hs (stamp ++ since) (with_all c [])
    ∙ all_append stamp since (with_all hs (with_all c []))

-- what neither a calibration nor a hold changes
clocked_skips : {X : Type 0} (V : History → X) → ((c : CalibrationValue) → Skips V (Calibrated c))
    → ((h : HoldValue) → Skips V (Held h)) → (c : Option CalibrationValue) (hs : List HoldValue)
    → V (clocked c hs) ≡ V []
clocked_skips V calibrated held c hs =
    skips_all V (map Held hs) (skips_held V held hs) (with_all (entry_if Calibrated c) [])
    ∙ skips_all V (entry_if Calibrated c) (skips_if V Calibrated calibrated c) []

-- what neither identities nor stamps change
record IsUnstamped {X : Type 0} (V : History → X) : Type 0 where
  reserved : (r : ReservationValue) → Skips V (Reserved r)
  sealed : (n : ℕ) (token : List ℕ) → Skips V (Sealed n token)
  installed : (i : InstalledValue) → Skips V (Installed i)

skips_append : {X : Type 0} (V : History → X) (xs ys : List Entry) → AllByRecursion (Skips V) xs
    → AllByRecursion (Skips V) ys → AllByRecursion (Skips V) (xs ++ ys)
skips_append V [] ys first then = then
skips_append V (x ∷ xs) ys first then = (first.0, skips_append V xs ys first.1 then)

stamp_skips : {X : Type 0} (V : History → X) → IsUnstamped V → (floor : Option Floor) (last : Option ReservationValue)
    (b : History) → AllByRecursion (Skips V) (stamp_with_identity floor last b)
stamp_skips V un floor None b = tt
stamp_skips V un floor (Some r) b =
    skips_append V (entry_if Installed (identity_at_reservation r.serial b)) (last_stamp floor r b)
    (skips_if V Installed un.installed (identity_at_reservation r.serial b))
    (un.reserved (reserved_as floor r), skips_if V (Sealed r.serial) (un.sealed r.serial) (token_as floor r b))

unstamped : {X : Type 0} (V : History → X) → IsUnstamped V → (floor : Option Floor) (b : History)
    → V (continued floor b) ≡ V (clocked (latest_calibration b) (reverse (other_holds b)))
unstamped V un floor b =
    let c = clocked (latest_calibration b) (reverse (other_holds b)) in
    let stamp = stamp_with_identity floor (last_reservation b) b in
    ap V (in_parts floor b)
    ∙ skips_all V (entry_if Installed (identity_since b)) (skips_if V Installed un.installed (identity_since b))
    (with_all stamp c)
    ∙ skips_all V stamp (stamp_skips V un floor (last_reservation b) b) c

-- ---- the clock

first_calibration : (c : Option CalibrationValue) → latest_calibration (with_all (entry_if Calibrated c) []) ≡ c
first_calibration None = refl
first_calibration (Some c) = refl

pub calibration_goes_on : (floor : Option Floor) (b : History)
    → latest_calibration (continued floor b) ≡ latest_calibration b
calibration_goes_on floor b =
    unstamped latest_calibration
    (record { reserved = λ r b. refl; sealed = λ n token b. refl; installed = λ i b. refl }) floor b
    ∙ skips_all latest_calibration (map Held (reverse (other_holds b)))
    (skips_held latest_calibration (λ h b. refl) (reverse (other_holds b)))
    (with_all (entry_if Calibrated (latest_calibration b)) [])
    ∙ first_calibration (latest_calibration b)

-- ---- the holds

held_in_turn : (hs : List HoldValue) (b : History) → holds (with_all (map Held hs) b) ≡ reverse hs ++ holds b
held_in_turn [] b = refl
held_in_turn (h ∷ hs) b =
    held_in_turn hs (Held h ∷ b) ∙ sym (ap (λ front. front ++ holds b) (reverse_onto hs h []) ∙ moved (reverse hs))
  where
    moved : (front : List HoldValue) → (front ++ h ∷ []) ++ holds b ≡ front ++ h ∷ holds b
    moved [] = refl
    moved (x ∷ front) = ap (λ rest. x ∷ rest) (moved front)

pub holds_go_on : (floor : Option Floor) (b : History) → holds (continued floor b) ≡ other_holds b
holds_go_on floor b =
    let none : holds (with_all (entry_if Calibrated (latest_calibration b)) []) ≡ [] =
    skips_all holds (entry_if Calibrated (latest_calibration b))
    (skips_if holds Calibrated (λ c b. refl) (latest_calibration b)) [] in
    unstamped holds (record { reserved = λ r b. refl; sealed = λ n token b. refl; installed = λ i b. refl }) floor b
    ∙ held_in_turn (reverse (other_holds b)) (with_all (entry_if Calibrated (latest_calibration b)) [])
    ∙ ap (λ rest. reverse (reverse (other_holds b)) ++ rest) none
    ∙ append-nil (reverse (reverse (other_holds b))) ∙ reverse-reverse (other_holds b)

other_first : (v : Bool) (h : HoldValue) (hs : List HoldValue) → holds_all h ≡ v → (v || list_any holds_all hs) ≡ false
    → (list_any holds_all hs ≡ false → filter (λ h. not (holds_all h)) hs ≡ hs)
    → filter (λ h. not (holds_all h)) (h ∷ hs) ≡ h ∷ hs
other_first true h hs is none rest = absurd cc
other_first false h hs is none rest = rw is (ap (λ rest. h ∷ rest) (rest none))

all_other : (hs : List HoldValue) → list_any holds_all hs ≡ false → filter (λ h. not (holds_all h)) hs ≡ hs
all_other [] none = refl
all_other (h ∷ hs) none = other_first (holds_all h) h hs refl none (all_other hs)

pub held_as_before : (floor : Option Floor) (b : History) → is_closed b ≡ false → (now : ℤ)
    → is_held now (continued floor b) ≡ is_held now b
held_as_before floor b none now =
    ap (list_any (λ h. int_le h.from now && int_lt now h.to)) (holds_go_on floor b ∙ all_other (holds b) none)

-- ---- the last stamp and the identity, where a stamp is reserved

latest_if : (i : Option InstalledValue) (b : History)
    → latest_identity (with_all (entry_if Installed i) b) ≡ option_or i (latest_identity b)
latest_if None b = refl
latest_if (Some i) b = refl

token_if : (n : ℕ) (token : Option (List ℕ)) (b : History)
    → token_of n (with_all (entry_if (Sealed n) token) b) ≡ option_or token (token_of n b)
token_if n None b = refl
token_if n (Some token) b = rw (eq-eqb n n refl) refl

module _ (r : ReservationValue) (n : ℕ) (at since : Option InstalledValue) (token : Option (List ℕ)) (c : History) where
  -- a history that goes on with the stamp
  abbrev pub stamped : History
  stamped =
      with_all (entry_if Installed since) (with_all (entry_if (Sealed n) token)
      (Reserved r ∷ with_all (entry_if Installed at) c))

  module _ {X : Type 0} (V : History → X) (installed : (i : InstalledValue) → Skips V (Installed i)) where
    at_seal : V stamped ≡ V (with_all (entry_if (Sealed n) token) (Reserved r ∷ with_all (entry_if Installed at) c))
    at_seal = skips_all V (entry_if Installed since) (skips_if V Installed installed since) _

    before_all : V (with_all (entry_if Installed at) c) ≡ V c
    before_all = skips_all V (entry_if Installed at) (skips_if V Installed installed at) c

    at_reservation : ((token : List ℕ) → Skips V (Sealed n token))
        → V stamped ≡ V (Reserved r ∷ with_all (entry_if Installed at) c)
    at_reservation sealed = at_seal ∙ skips_all V (entry_if (Sealed n) token) (skips_if V (Sealed n) sealed token) _

  reserved_in : reservations stamped ≡ r ∷ reservations c
  reserved_in =
      at_reservation reservations (λ i b. refl) (λ token b. refl)
      ∙ ap (λ rs. r ∷ rs) (before_all reservations (λ i b. refl))

  signed_in : identity_at_reservation r.serial stamped ≡ option_or at (latest_identity c)
  signed_in =
      at_reservation (identity_at_reservation r.serial) (λ i b. refl) (λ token b. refl)
      ∙ rw (eq-eqb r.serial r.serial refl) (latest_if at c)

  in_force_in : latest_identity stamped ≡ option_or since (option_or at (latest_identity c))
  in_force_in =
      latest_if since (with_all (entry_if (Sealed n) token) (Reserved r ∷ with_all (entry_if Installed at) c))
      ∙ ap (option_or since) (skips_all latest_identity (entry_if (Sealed n) token)
      (skips_if latest_identity (Sealed n) (λ token b. refl) token) (Reserved r ∷ with_all (entry_if Installed at) c)
      ∙ latest_if at c)

  sealed_in : token_of n stamped ≡ option_or token (token_of n c)
  sealed_in =
      at_seal (token_of n) (λ i b. refl)
      ∙ token_if n token (Reserved r ∷ with_all (entry_if Installed at) c)
      ∙ ap (option_or token) (before_all (token_of n) (λ i b. refl))

-- ---- the new history, by whether a stamp is reserved

abbrev pub clocked_as : History → History
clocked_as b = clocked (latest_calibration b) (reverse (other_holds b))

abbrev pub stamped_as : Option Floor → ReservationValue → History → History
stamped_as floor r b =
    stamped (reserved_as floor r) r.serial (identity_at_reservation r.serial b) (identity_since b) (token_as floor r b)
    (clocked_as b)

pub goes_on : (floor : Option Floor) (b : History) (r : ReservationValue) → last_reservation b ≡ Some r
    → continued floor b ≡ stamped_as floor r b
goes_on floor b r last =
    in_parts floor b
    ∙ ap (λ (found : Option ReservationValue).
    parts (latest_calibration b) (reverse (other_holds b)) (stamp_with_identity floor found b) (identity_since b)) last
    ∙ ap (with_all (entry_if Installed (identity_since b)))
    (all_append (entry_if Installed (identity_at_reservation r.serial b)) (last_stamp floor r b) (clocked_as b))

pub goes_on_unstamped : (floor : Option Floor) (b : History) → last_reservation b ≡ None
    → continued floor b ≡ with_all (entry_if Installed (identity_since b)) (clocked_as b)
goes_on_unstamped floor b none =
    in_parts floor b
    ∙ ap (λ (found : Option ReservationValue).
    parts (latest_calibration b) (reverse (other_holds b)) (stamp_with_identity floor found b) (identity_since b)) none

pub unreserved : (b : History) → reservations (clocked_as b) ≡ []
unreserved b = clocked_skips reservations (λ c b. refl) (λ h b. refl) (latest_calibration b) (reverse (other_holds b))

uninstalled : (b : History) → latest_identity (clocked_as b) ≡ None
uninstalled b =
    clocked_skips latest_identity (λ c b. refl) (λ h b. refl) (latest_calibration b) (reverse (other_holds b))

unsealed : (n : ℕ) (b : History) → token_of n (clocked_as b) ≡ None
unsealed n b = clocked_skips (token_of n) (λ c b. refl) (λ h b. refl) (latest_calibration b) (reverse (other_holds b))

or_none : {X : Type 0} (x : Option X) → option_or x None ≡ x
or_none None = refl
or_none (Some x) = refl

-- by whether there is a last reservation
pub by_last : (b : History) (P : Type 0) → ((r : ReservationValue) → last_reservation b ≡ Some r → P)
    → (last_reservation b ≡ None → P) → P
by_last b P some none = go (last_reservation b) some none where
  go : (found : Option ReservationValue) → ((r : ReservationValue) → found ≡ Some r → P) → (found ≡ None → P) → P
  go None some none = none refl
  go (Some r) some none = some r refl

-- the identity in force where the stamp is reserved
pub signer_before : (i : Option InstalledValue) (b : History)
    → latest_identity (with_all (entry_if Installed i) (clocked_as b)) ≡ i
signer_before i b = latest_if i (clocked_as b) ∙ ap (option_or i) (uninstalled b) ∙ or_none i

-- and no genTime comes before it
pub none_before : (i : Option InstalledValue) (b : History)
    → last_gen_time (with_all (entry_if Installed i) (clocked_as b)) ≡ None
none_before i b =
    ap (λ (rs : List ReservationValue). option_map (λ (r : ReservationValue). r.gen_time) (first_of rs))
    (skips_all reservations (entry_if Installed i) (skips_if reservations Installed (λ i b. refl) i) (clocked_as b)
    ∙ unreserved b)

-- ---- what the old one says of its last stamp

greatest_is_last : (b : History) (r : ReservationValue) → IsSound b → last_reservation b ≡ Some r
    → greatest_serial b ≡ r.serial
greatest_is_last [] r sound last = absurd cc
greatest_is_last (Reserved x ∷ b) r sound last =
    let same : x ≡ r = cc in
    let rises : greatest_serial b < x.serial = sound.0.rises in
    max-eq_left (omega (arith, rises)) ∙ ap (λ (y : ReservationValue). y.serial) same
greatest_is_last (_ ∷ b) r sound last = greatest_is_last b r sound.1 last

none_is_reserved : (b : History) → last_reservation b ≡ None → reservations b ≡ []
none_is_reserved [] none = refl
none_is_reserved (Reserved x ∷ b) none = absurd cc
none_is_reserved (_ ∷ b) none = none_is_reserved b none

found_last : (b : History) (r : ReservationValue) → last_reservation b ≡ Some r → reservation_at r.serial b ≡ Some r
found_last [] r last = absurd cc
found_last (Reserved x ∷ b) r last =
    let same : x ≡ r = cc in
    subst (λ (y : ReservationValue). reservation_at y.serial (Reserved x ∷ b) ≡ Some y) same
    (rw (eq-eqb x.serial x.serial refl) refl)
found_last (_ ∷ b) r last = found_last b r last

in_force : (b : History) → option_or (identity_since b) (option_and_then
    (λ (r : ReservationValue). identity_at_reservation r.serial b)
    (last_reservation b)) ≡ latest_identity b
in_force [] = refl
in_force (Reserved x ∷ b) = rw (eq-eqb x.serial x.serial refl) refl
in_force (Installed x ∷ b) = refl
in_force (_ ∷ b) = in_force b

-- ---- the laws

pub identity_goes_on : (floor : Option Floor) (b : History)
    → latest_identity (continued floor b) ≡ latest_identity b
identity_goes_on floor b = by_last b (latest_identity (continued floor b) ≡ latest_identity b)
    (λ r last. ap latest_identity (goes_on floor b r last)
    ∙ in_force_in (reserved_as floor r) r.serial (identity_at_reservation r.serial b) (identity_since b)
    (token_as floor r b) (clocked_as b)
    ∙ ap (option_or (identity_since b)) (ap (option_or (identity_at_reservation r.serial b)) (uninstalled b)
    ∙ or_none (identity_at_reservation r.serial b))
    ∙ ap (λ (found : Option ReservationValue). option_or (identity_since b) (option_and_then
    (λ (r : ReservationValue). identity_at_reservation r.serial b) found)) (sym last)
    ∙ in_force b)
    (λ none. ap latest_identity (goes_on_unstamped floor b none)
    ∙ latest_if (identity_since b) (clocked_as b)
    ∙ ap (option_or (identity_since b)) (uninstalled b)
    ∙ ap (λ (found : Option ReservationValue). option_or (identity_since b) (option_and_then
    (λ (r : ReservationValue). identity_at_reservation r.serial b) found)) (sym none)
    ∙ in_force b)

-- the reservations of the new history
last_in : (floor : Option Floor) (b : History) (r : ReservationValue) → last_reservation b ≡ Some r
    → reservations (continued floor b) ≡ reserved_as floor r ∷ []
last_in floor b r last =
    ap reservations (goes_on floor b r last)
    ∙ reserved_in (reserved_as floor r) r.serial (identity_at_reservation r.serial b) (identity_since b)
    (token_as floor r b) (clocked_as b) ∙ ap (λ rs. reserved_as floor r ∷ rs) (unreserved b)

none_in : (floor : Option Floor) (b : History) → last_reservation b ≡ None → reservations (continued floor b) ≡ []
none_in floor b none =
    ap reservations (goes_on_unstamped floor b none)
    ∙ skips_all reservations (entry_if Installed (identity_since b))
    (skips_if reservations Installed (λ i b. refl) (identity_since b)) (clocked_as b) ∙ unreserved b

greatest_in : (floor : Option Floor) (b : History) (r : ReservationValue) → last_reservation b ≡ Some r
    → greatest_serial (continued floor b) ≡ (reserved_as floor r).serial
greatest_in floor b r last = ap greatest_of (last_in floor b r last) ∙ max-eq_left (omega arith)

pub greatest_goes_on : (b : History) → IsSound b → greatest_serial (continued None b) ≡ greatest_serial b
greatest_goes_on b sound = by_last b (greatest_serial (continued None b) ≡ greatest_serial b)
    (λ r last. greatest_in None b r last ∙ sym (greatest_is_last b r sound last))
    (λ none. ap greatest_of (none_in None b none ∙ sym (none_is_reserved b none)))

pub moment_goes_on : (b : History) → last_gen_time (continued None b) ≡ last_gen_time b
moment_goes_on b = by_last b (last_gen_time (continued None b) ≡ last_gen_time b)
    (λ r last. ap (λ (rs : List ReservationValue). option_map (λ (r : ReservationValue). r.gen_time) (first_of rs))
    (last_in None b r last)
    ∙ ap (option_map (λ (r : ReservationValue). r.gen_time)) (sym last))
    (λ none. ap (λ (rs : List ReservationValue). option_map (λ (r : ReservationValue). r.gen_time) (first_of rs))
    (none_in None b none ∙ sym (none_is_reserved b none)))

-- under the identity that was in force when the last stamp was reserved
unreserved_at : (n : ℕ) (b : History) → last_reservation b ≡ None → identity_at_reservation n b ≡ None
unreserved_at n [] none = refl
unreserved_at n (Reserved x ∷ b) none = absurd cc
unreserved_at n (_ ∷ b) none = unreserved_at n b none

pub signer_goes_on : (floor : Option Floor) (b : History) → IsSound b
    → identity_at_reservation (greatest_serial (continued floor b)) (continued floor b)
    ≡ identity_at_reservation (greatest_serial b) b
signer_goes_on floor b sound = by_last b
    (identity_at_reservation (greatest_serial (continued floor b)) (continued floor b)
    ≡ identity_at_reservation (greatest_serial b) b)
    (λ r last. ap (λ n. identity_at_reservation n (continued floor b)) (greatest_in floor b r last)
    ∙ ap (identity_at_reservation (reserved_as floor r).serial) (goes_on floor b r last)
    ∙ signed_in (reserved_as floor r) r.serial (identity_at_reservation r.serial b) (identity_since b)
    (token_as floor r b) (clocked_as b)
    ∙ ap (option_or (identity_at_reservation r.serial b)) (uninstalled b)
    ∙ or_none (identity_at_reservation r.serial b)
    ∙ ap (λ n. identity_at_reservation n b) (sym (greatest_is_last b r sound last)))
    (λ none. unreserved_at (greatest_serial (continued floor b)) (continued floor b)
    (ap first_of (none_in floor b none))
    ∙ sym (unreserved_at (greatest_serial b) b none))

-- the last stamp, as it stands
found_first : (n : ℕ) (r : ReservationValue) (b : History) → reservations b ≡ r ∷ [] → r.serial ≡ n
    → reservation_at n b ≡ Some r
found_first n r b only is =
    ap (find (λ (x : ReservationValue). x.serial == n)) only ∙ rw (eq-eqb r.serial n is) refl

stamp_stands : (b : History) (r : ReservationValue) → last_reservation b ≡ Some r
    → stamp_at r.serial (continued None b) ≡ stamp_at r.serial b
stamp_stands b r last =
    let here = found_first r.serial r (continued None b) (last_in None b r last) refl in
    let token : token_of r.serial (continued None b) ≡ token_of r.serial b =
    ap (token_of r.serial) (goes_on None b r last)
    ∙ sealed_in r r.serial (identity_at_reservation r.serial b) (identity_since b) (token_of r.serial b) (clocked_as b)
    ∙ ap (option_or (token_of r.serial b)) (unsealed r.serial b) ∙ or_none (token_of r.serial b) in
    ap (option_map (stamp_of (token_of r.serial (continued None b)))) here
    ∙ ap (λ token. Some (stamp_of token r)) token
    ∙ ap (option_map (stamp_of (token_of r.serial b))) (sym (found_last b r last))

pub stamp_goes_on : (b : History) → IsSound b
    → stamp_at (greatest_serial b) (continued None b) ≡ stamp_at (greatest_serial b) b
stamp_goes_on b sound = by_last b (stamp_at (greatest_serial b) (continued None b) ≡ stamp_at (greatest_serial b) b)
    (λ r last. subst (λ n. stamp_at n (continued None b) ≡ stamp_at n b) (sym (greatest_is_last b r sound last))
    (stamp_stands b r last))
    (λ none. let n = greatest_serial b in
    ap (λ (rs : List ReservationValue). option_map (stamp_of (token_of n (continued None b)))
    (find (λ (x : ReservationValue). x.serial == n) rs)) (none_in None b none)
    ∙ sym (ap (λ (rs : List ReservationValue). option_map (stamp_of (token_of n b))
    (find (λ (x : ReservationValue). x.serial == n) rs)) (none_is_reserved b none)))

-- with a floor the next serial number is above it, and no genTime before it
pub floor_goes_on : (floor : Floor) (b : History) → IsAbove floor b
    → (greatest_serial (continued (Some floor) b) ≡ floor.serial)
    × (last_gen_time (continued (Some floor) b) ≡ Some floor.gen_time)
    × (token_of floor.serial (continued (Some floor) b) ≡ None)
floor_goes_on floor b above =
    let r = above.last in
    let last = above.reserved in (
      greatest_in (Some floor) b r last,
      ap (λ (rs : List ReservationValue). option_map (λ (r : ReservationValue). r.gen_time) (first_of rs))
          (last_in (Some floor) b r last),
      ap (token_of floor.serial) (goes_on (Some floor) b r last)
          ∙ at_seal (reserved_as (Some floor) r) r.serial (identity_at_reservation r.serial b) (identity_since b) None
          (clocked_as b) (token_of floor.serial) (λ i b. refl)
          ∙ before_all (reserved_as (Some floor) r) r.serial (identity_at_reservation r.serial b) (identity_since b) None
          (clocked_as b) (token_of floor.serial) (λ i b. refl)
          ∙ unsealed floor.serial b,
    )

-- ---- a closed book goes on as it did before

stamp_again : (floor : Option Floor) (found : Option ReservationValue) (b : History)
    → stamp_with_identity floor found (Held all_moments ∷ b) ≡ stamp_with_identity floor found b
stamp_again floor None b = refl
stamp_again None (Some r) b = refl
stamp_again (Some floor) (Some r) b = refl

again : (floor : Option Floor) (b : History) (v : Bool)
    → first_entries floor (cond v b (Held all_moments ∷ b)) ≡ first_entries floor b
again floor b true = refl
again floor b false =
    ap (λ (stamp : List Entry). entry_if Calibrated (latest_calibration b) ++ (map Held (reverse (other_holds b))
    ++ (stamp ++ entry_if Installed (identity_since b)))) (stamp_again floor (last_reservation b) b)

pub goes_on_closed : (floor : Option Floor) (b : History) → first_entries floor (closed b) ≡ first_entries floor b
goes_on_closed floor b = again floor b (is_closed b)

pub closed_is : (b : History) → is_closed (closed b) ≡ true
closed_is b = go (is_closed b) refl where
  go : (v : Bool) → is_closed b ≡ v → is_closed (cond v b (Held all_moments ∷ b)) ≡ true
  go true is = is
  go false is = refl

pub closing_sound : (b : History) → IsSound b → IsSound (closed b)
closing_sound b sound = go (is_closed b) where
  go : (v : Bool) → IsSound (cond v b (Held all_moments ∷ b))
  go true = sound
  go false = (omega arith, sound)

-- ---- the entries fit in turn

abbrev IsRight : HoldValue → Type 0
IsRight h = h.from <ℤ h.to

holds_right : (b : History) → IsSound b → AllByRecursion IsRight (holds b)
holds_right [] sound = tt
holds_right (Held h ∷ b) sound = (sound.0, holds_right b sound.1)
holds_right (_ ∷ b) sound = holds_right b sound.1

kept_first : {X : Type 0} (P : X → Type 0) (v : Bool) (x : X) (xs : List X) → P x → AllByRecursion P xs
    → AllByRecursion P (cond v (x ∷ xs) xs)
kept_first P true x xs one rest = (one, rest)
kept_first P false x xs one rest = rest

kept_right : {X : Type 0} (P : X → Type 0) (p : X → Bool) (xs : List X) → AllByRecursion P xs
    → AllByRecursion P (filter p xs)
kept_right P p [] all = tt
kept_right P p (x ∷ xs) all = kept_first P (p x) x (filter p xs) all.0 (kept_right P p xs all.1)

pushed_right : {X : Type 0} (P : X → Type 0) (xs : List X) (x : X) → AllByRecursion P xs → P x
    → AllByRecursion P (xs ++ x ∷ [])
pushed_right P [] x all one = (one, tt)
pushed_right P (y ∷ xs) x all one = (all.0, pushed_right P xs x all.1 one)

turned_right : {X : Type 0} (P : X → Type 0) (xs : List X) → AllByRecursion P xs → AllByRecursion P (reverse xs)
turned_right P [] all = tt
turned_right P (x ∷ xs) all =
    subst (AllByRecursion P) (sym (reverse_onto xs x [])) (pushed_right P (reverse xs) x (turned_right P xs all.1) all.0)

fit_held : (hs : List HoldValue) (b : History) → AllByRecursion IsRight hs → FitInTurn (map Held hs) b
fit_held [] b all = tt
fit_held (h ∷ hs) b all = (all.0, fit_held hs (Held h ∷ b) all.1)

calibration_fits : (b : History) (c : CalibrationValue) → IsSound b → latest_calibration b ≡ Some c
    → c.uncertainty ≤ 1_000_000_000_000
calibration_fits [] c sound latest = absurd cc
calibration_fits (Calibrated x ∷ b) c sound latest =
    let same : x ≡ c = cc in
    subst (λ (y : CalibrationValue). y.uncertainty ≤ 1_000_000_000_000) same sound.0
calibration_fits (_ ∷ b) c sound latest = calibration_fits b c sound.1 latest

fit_calibrated : (found : Option CalibrationValue)
    → ((c : CalibrationValue) → found ≡ Some c → c.uncertainty ≤ 1_000_000_000_000)
    → FitInTurn (entry_if Calibrated found) []
fit_calibrated None fits = tt
fit_calibrated (Some c) fits = (fits c refl, tt)

fit_installed : (i : Option InstalledValue) (b : History) → FitInTurn (entry_if Installed i) b
fit_installed None b = tt
fit_installed (Some i) b = (tt, tt)

-- a reservation that fits a history without one
record FitsFirst (r : ReservationValue) : Type 0 where
  some : 0 < r.serial
  within : r.serial ≤ greatest_number
  moment : r.gen_time ≤ last_moment

last_fits : (b : History) (r : ReservationValue) → IsSound b → last_reservation b ≡ Some r → FitsFirst r
last_fits [] r sound last = absurd cc
last_fits (Reserved x ∷ b) r sound last =
    let same : x ≡ r = cc in
    let rises : greatest_serial b < x.serial = sound.0.rises in
    subst FitsFirst same (record { some = omega (arith, rises); within = sound.0.within; moment = sound.0.moment })
last_fits (_ ∷ b) r sound last = last_fits b r sound.1 last

raised_fits : (floor : Option Floor) (b : History) (r : ReservationValue) → IsSound b → IsAboveIfAny floor b
    → last_reservation b ≡ Some r → FitsFirst (reserved_as floor r)
raised_fits None b r sound above last = last_fits b r sound last
raised_fits (Some floor) b r sound above last =
    let rises = above.rises in
    record { some = omega (arith, rises); within = above.within; moment = above.moment }

fit_token : (floor : Option Floor) (r : ReservationValue) (b d : History) → token_of r.serial d ≡ None
    → FitInTurn (entry_if (Sealed r.serial) (token_as floor r b)) (Reserved (reserved_as floor r) ∷ d)
fit_token (Some floor) r b d none = tt
fit_token None r b d none = go (token_of r.serial b) where
  go : (token : Option (List ℕ)) → FitInTurn (entry_if (Sealed r.serial) token) (Reserved r ∷ d)
  go None = tt
  go (Some token) =
      (record { reservation = r; reserved = rw (eq-eqb r.serial r.serial refl) refl; open_yet = none }, tt)

fit_stamp : (floor : Option Floor) (b c : History) (found : Option ReservationValue)
    → ((r : ReservationValue) → found ≡ Some r → FitsFirst (reserved_as floor r))
    → greatest_serial c ≡ 0 → ((n : ℕ) → token_of n c ≡ None) → FitInTurn (stamp_with_identity floor found b) c
fit_stamp floor b c None fits zero none = tt
fit_stamp floor b c (Some r) fits zero none =
    let at = identity_at_reservation r.serial b in
    let d = with_all (entry_if Installed at) c in
    let first = fits r refl in
    let some = first.some in
    let least : greatest_serial d ≡ 0 =
    skips_all greatest_serial (entry_if Installed at) (skips_if greatest_serial Installed (λ i b. refl) at) c ∙ zero in
    let unsealed : token_of r.serial d ≡ None =
    skips_all (token_of r.serial) (entry_if Installed at) (skips_if (token_of r.serial) Installed (λ i b. refl) at) c
    ∙ none r.serial in
    fit_append (entry_if Installed at) (last_stamp floor r b) c (fit_installed at c) (
      record { rises = omega (arith, some, least); within = first.within; moment = first.moment },
      fit_token floor r b d unsealed,
    )

pub entries_fit : (floor : Option Floor) (b : History) → IsSound b → IsAboveIfAny floor b
    → FitInTurn (first_entries floor b) []
entries_fit floor b sound above =
    let c = entry_if Calibrated (latest_calibration b) in
    let hs = map Held (reverse (other_holds b)) in
    let stamp = stamp_with_identity floor (last_reservation b) b in
    let since = entry_if Installed (identity_since b) in
    fit_append c (hs ++ (stamp ++ since)) []
    (fit_calibrated (latest_calibration b) (λ x latest. calibration_fits b x sound latest))
    (fit_append hs (stamp ++ since) (with_all c [])
    (fit_held (reverse (other_holds b)) (with_all c [])
    (turned_right IsRight (other_holds b) (kept_right IsRight (λ h. not (holds_all h)) (holds b) (holds_right b sound))))
    (fit_append stamp since (clocked_as b)
    (fit_stamp floor b (clocked_as b) (last_reservation b) (λ r last. raised_fits floor b r sound above last)
    (ap greatest_of (unreserved b)) (λ n. unsealed n b))
    (fit_installed (identity_since b) (with_all stamp (clocked_as b)))))

pub continued_sound : (floor : Option Floor) (b : History) → IsSound b → IsAboveIfAny floor b
    → IsSound (continued floor b)
continued_sound floor b sound above = sound_all (first_entries floor b) [] tt (entries_fit floor b sound above)

-- ---- a closed book holds each moment

decided : (v : Bool) → (v ≡ false → ⊥) → v ≡ true
decided true fails = refl
decided false fails = absurd (fails refl)

both : (v w : Bool) → (v && w) ≡ true → (v ≡ true) × (w ≡ true)
both true w e = (refl, e)
both false w e = cc

or_right : (v : Bool) → (v || true) ≡ true
or_right true = refl
or_right false = refl

abbrev holds_moment : ℕ → HoldValue → Bool
holds_moment m h = int_le h.from (pos m) && int_lt (pos m) h.to

moment_held : (h : HoldValue) (m : ℕ) → holds_all h ≡ true → m < greatest_number → holds_moment m h ≡ true
moment_held h m all within =
    let parts = both (int_le h.from (pos 0)) (int_le (pos greatest_number) h.to) all in
    let first = parts.0 in
    let last = parts.1 in
    let from : int_le h.from (pos m) ≡ true =
    decided (int_le h.from (pos m)) (λ fails. omega (arith, ints, first, fails)) in
    let to : int_lt (pos m) h.to ≡ true =
    decided (int_lt (pos m) h.to) (λ fails. omega (arith, ints, last, within, fails)) in
    rw (from, to) refl

held_first : (v : Bool) (m : ℕ) (h : HoldValue) (hs : List HoldValue) → holds_all h ≡ v → m < greatest_number
    → (v || list_any holds_all hs) ≡ true
    → (list_any holds_all hs ≡ true → list_any (holds_moment m) hs ≡ true)
    → list_any (holds_moment m) (h ∷ hs) ≡ true
held_first true m h hs is within closed later = rw (moment_held h m is within) refl
held_first false m h hs is within closed later = rw (later closed) (or_right (holds_moment m h))

held_in : (m : ℕ) (hs : List HoldValue) → m < greatest_number → list_any holds_all hs ≡ true
    → list_any (holds_moment m) hs ≡ true
held_in m [] within closed = absurd cc
held_in m (h ∷ hs) within closed = held_first (holds_all h) m h hs refl within closed (held_in m hs within)

pub all_held : (b : History) (m : ℕ) → is_closed b ≡ true → m < greatest_number → is_held (pos m) b ≡ true
all_held b m closed within = held_in m (holds b) within closed
