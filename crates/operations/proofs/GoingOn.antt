-- How a history goes on in a new book.
use Rattle.std.proofs.Common.{◌≡◌, ℕ, ◌<◌, ◌≤◌, ◌==◌, max, Bool, true, false, not, List, []}
use Rattle.std.proofs.Common.{◌∷◌, ◌++◌, map, reverse, Option, None, Some, option_map, refl, sym, ap, ap₂}
use Rattle.std.proofs.Common.{◌∙◌, subst, inl, inr, arith, Result, Ok, Err, IfOk, IfErr, if◌then◌else◌, find, ◌+◌}
use Rattle.std.proofs.Math.Nat.{le-max_left, le-max_right, max-eq_left}
use Rattle.std.proofs.lemmas.Bool.{le-ltb, lt-ltb, eq-eqb}
use Rattle.std.proofs.lemmas.List.Sorted.{IsPermutation-reverse, list_any-IsPermutation}
use Rattle.std.proofs.{lemmas.List.reverse-append, lemmas.List.reverse-reverse, lemmas.List.Elements.filter-append}
use Rattle.std.specs.{Prelude.IsOk, Prelude.OnErr, Prelude.OnOk, List.filter, List.list_any}
use Rattle.gentime.specs.GenTime.{last_moment}
use Rattle.book.specs.Continuation.{Floor as Void, all_moments, closed, continued, entry_if, first_entries, holds_all}
use Rattle.book.specs.Continuation.{IsAbove, IsAboveIfAny, identity_since, is_closed, last_reservation, last_stamp}
use Rattle.book.specs.History.{Entry, Reserved, Installed, Calibrated, Held, History, HoldValue, CalibrationValue}
use Rattle.book.specs.History.{ReservationValue, first_of, greatest_of, greatest_serial, holds, last_gen_time}
use Rattle.book.specs.History.{latest_calibration, reservation_at, reservations, stamp_of, token_of}
use Rattle.book.specs.Identities.{identities, identity_at_reservation, identity_before, installed_as, installed_row}
use Rattle.book.specs.{Continuation.stamp_with_identity, Entries.Appends, Entries.FitInTurn, Entries.with_all}
use Rattle.book.specs.{Fault.IsOfStorage, Identities.installed_rows, Ranges.IsNextStamp, Rows.InstalledRow}
use Rattle.book.specs.{Rows.StampRow, Sound.IsSound, Sound.greatest_number, Stands.OnlyLooks, Stands.Stands}
use Rattle.book.specs.{Values.hold_view, Values.identity_view, Values.stamp_view, declared.fault.StoreFault.StoreFault}
use Rattle.book.specs.{declared.rows.Stamp.Stamp, declared.standing.Standing.Ghosts}
use Rattle.book.proofs.Stamps.{stamp_found}
use Rattle.desk.specs.Content.{IsSoundInFull}
use Rattle.desk.specs.Continuation.{IsRestated, IsStated, IsStatedIfAny}
use Rattle.operations.specs.Continuation.{Carries, Closes, IsCarried, Reaches, entries_of}
use Rattle.operations.specs.Continuation.{entries_of_holds, entries_of_identity, entries_of_last, entries_of_stamp}
use Rattle.operations.specs.Continuation.{identity_since_among, last_stamp_of, latest_of, void_in}
use Rattle.operations.specs.OverFiles.{IsContinuedOver, IsDoneOver, IsMadeOver, IsRefusedBy}
use Rattle.operations.specs.declared.fault.ContinuationFault.{ContinuationFault}
use Rattle.operations.specs.declared.fault.ContinuationFault.TheVariants.{Unopened, Unfinished}
use Rattle.operations.specs.{DatabaseFaults.IsOpeningFault, VoidStamp.IsVoidIfAny, VoidStamp.reserved_as}
use Rattle.operations.specs.{declared.carried.Carried.Carried, declared.void_stamp.Floor.Floor}
use Rattle.sqlite.specs.Files.{over_files}
use Rattle.sqlite_disk.specs.declared.Disk.{Ghosts as Disk}
use Rattle.sqlite_wal.specs.Recovery.{Image}
use Rattle.store.specs.Stands.{over_tables}

-- ---- lists

filter_turned : {X : Type 0} (p : X → Bool) (xs : List X) → filter p (reverse xs) ≡ reverse (filter p xs)
filter_turned p [] = refl
filter_turned {X} p (x ∷ xs) =
    ap (filter p) (reverse-append (x ∷ []) xs) ∙ filter-append p (reverse xs) (x ∷ [])
    ∙ ap (λ ys. ys ++ filter p (x ∷ [])) (filter_turned p xs)
    ∙ ap (λ ys. reverse (filter p xs) ++ ys) (sym (alone (p x)))
    ∙ sym (reverse-append (filter p (x ∷ [])) (filter p xs)) ∙ ap reverse (sym (filter-append p (x ∷ []) xs))
  where
    alone : (b : Bool) → reverse (if b then x ∷ [] else []) ≡ (if b then x ∷ [] else [])
    alone true = refl
    alone false = refl

any_turned : {X : Type 0} (p : X → Bool) (xs : List X) → list_any p (reverse xs) ≡ list_any p xs
any_turned p xs = sym (list_any-IsPermutation p xs (reverse xs) (IsPermutation-reverse xs))

-- holds that are known in their order tell whether the book is closed
pub known_closed : (b : History) (hs : List HoldValue) → hs ≡ reverse (holds b) → list_any holds_all hs ≡ is_closed b
known_closed b hs is = ap (list_any holds_all) is ∙ any_turned holds_all (holds b)

-- ---- the last stamp

abbrev Falls : List ReservationValue → Type 0
Falls [] = Unit {0}
Falls (r ∷ rs) = (greatest_of rs < r.serial) × Falls rs

falls : (b : History) → IsSound b → Falls (reservations b)
falls [] sound = tt
falls (Reserved r ∷ b) sound = (sound.0.rises, falls b sound.1)
falls (_ ∷ b) sound = falls b sound.1

-- the reservation with the greatest number is the last one
first_at : (token : ℕ → Option (List ℕ)) (rs : List ReservationValue) → Falls rs
    → option_map (stamp_of (token (greatest_of rs))) (find (λ r. r.serial == greatest_of rs) rs)
    ≡ option_map (λ r. stamp_of (token r.serial) r) (first_of rs)
first_at token [] fall = refl
first_at token (r ∷ rs) fall =
    let greatest : max r.serial (greatest_of rs) ≡ r.serial =
    max-eq_left (let rises = fall.0 in omega (arith, rises)) in
    rw (greatest, eq-eqb r.serial r.serial refl) refl

pub last_found : (b : History) (serial : ℕ) (found : Option Stamp) → IsSound b → serial ≡ greatest_serial b
    → IsNextStamp serial serial b found → option_map stamp_view found ≡ last_stamp_of b
last_found b serial found sound is next =
    stamp_found b (greatest_serial b) found sound (subst (λ n. IsNextStamp n n b found) is next)
    ∙ first_at (λ n. token_of n b) (reservations b) (falls b sound)

-- ---- its identity, and a later one

first_found : (rs : List ReservationValue) (r : ReservationValue) → first_of rs ≡ Some r
    → find (λ x. x.serial == r.serial) rs ≡ Some r
first_found [] r is = let apart = is in cc
first_found (x ∷ rs) r is =
    let same : x ≡ r = cc in
    rw (eq-eqb x.serial r.serial (ap (λ (v : ReservationValue). v.serial) same)) (ap Some same)

-- what tells who signed
abbrev pub TellsSigner : Type 0
TellsSigner =
    (b : History) (serial : ℕ) (r : ReservationValue) → IsSound b → reservation_at serial b ≡ Some r
    → option_map installed_as (identity_before serial (identities b)) ≡ identity_at_reservation serial b

stamp_is : (void : Option Void) (b : History) (r : ReservationValue)
    → entries_of_stamp void (stamp_of (token_of r.serial b) r) ≡ last_stamp void r b
stamp_is None b r = refl
stamp_is (Some void) b r = refl

last_is : (void : Option Void) (b : History) → IsSound b → TellsSigner
    → entries_of_last void (last_stamp_of b) (identities b) ≡ stamp_with_identity void (last_reservation b) b
last_is void b sound tells = go (last_reservation b) refl
  where
    go : (o : Option ReservationValue) → last_reservation b ≡ o
        → entries_of_last void (option_map (λ r. stamp_of (token_of r.serial b) r) o) (identities b)
        ≡ stamp_with_identity void o b
    go None e = refl
    go (Some r) e =
        ap₂ (λ i stamp. entry_if Installed i ++ stamp)
        (tells b r.serial r sound (first_found (reservations b) r e)) (stamp_is void b r)

after_below : (b : History) (row : InstalledRow) → first_of (installed_rows b) ≡ Some row
    → row.after_serial ≤ greatest_serial b
after_below [] row is = let apart = is in cc
after_below (Installed i ∷ b) row is =
    let same : installed_row i b ≡ row = cc in
    let after : greatest_serial b ≡ row.after_serial = ap (λ (r : InstalledRow). r.after_serial) same in
    omega (arith, after)
after_below (Reserved r ∷ b) row is =
    let right : greatest_serial b ≤ max r.serial (greatest_serial b) = le-max_right _ _ in
    let rest = after_below b row is in
    omega (arith, right, rest)
after_below (_ ∷ b) row is = after_below b row is

not_above : (rs : List ReservationValue) (r : ReservationValue) → first_of rs ≡ Some r → r.serial ≤ greatest_of rs
not_above [] r is = let apart = is in cc
not_above (x ∷ rs) r is =
    let same : x ≡ r = cc in
    let left : x.serial ≤ max x.serial (greatest_of rs) = le-max_left _ _ in
    let serial : x.serial ≡ r.serial = ap (λ (v : ReservationValue). v.serial) same in
    omega (arith, left, serial)

abbrev serial_in : Option StampRow → Option ℕ
serial_in o = option_map (λ s. s.serial) o

abbrev reserved_in : Option ReservationValue → Option ℕ
reserved_in o = option_map (λ r. r.serial) o

since_is : (b : History) (o : Option StampRow) → IsSound b → serial_in o ≡ reserved_in (last_reservation b)
    → option_map installed_as (identity_since_among o (first_of (installed_rows b))) ≡ identity_since b
since_is [] o sound same = refl
since_is (Reserved r ∷ b) None sound same = let apart = same in cc
since_is (Reserved r ∷ b) (Some s) sound same = go (first_of (installed_rows b)) refl
  where
    go : (row : Option InstalledRow) → first_of (installed_rows b) ≡ row
        → option_map installed_as (identity_since_among (Some s) row) ≡ None
    go None e = refl
    go (Some row) e =
        let below = after_below b row e in
        let rises : greatest_serial b < r.serial = sound.0.rises in
        let serial : s.serial ≡ r.serial = cc in
        rw (lt-ltb row.after_serial s.serial (omega (arith, below, rises, serial))) refl
since_is (Installed i ∷ b) None sound same = refl
since_is (Installed i ∷ b) (Some s) sound same = go (last_reservation b) refl same
  where
    go : (o : Option ReservationValue) → last_reservation b ≡ o → serial_in (Some s) ≡ reserved_in o
        → option_map installed_as (identity_since_among (Some s) (Some (installed_row i b))) ≡ Some i
    go None e none = let apart = none in cc
    go (Some r) e is =
        let serial : s.serial ≡ r.serial = cc in
        let above = not_above (reservations b) r e in
        rw (le-ltb (greatest_serial b) s.serial (omega (arith, serial, above))) refl
since_is (_ ∷ b) o sound same = since_is b o sound.1 same

serial_of_last : (b : History) → serial_in (last_stamp_of b) ≡ reserved_in (last_reservation b)
serial_of_last b = go (last_reservation b)
  where
    go : (o : Option ReservationValue)
        → serial_in (option_map (λ r. stamp_of (token_of r.serial b) r) o) ≡ reserved_in o
    go None = refl
    go (Some r) = refl

later_is : (b : History) → IsSound b
    → entries_of_identity (identity_since_among (last_stamp_of b) (latest_of (identities b)))
    ≡ entry_if Installed (identity_since b)
later_is b sound =
    ap (λ rows. entries_of_identity (identity_since_among (last_stamp_of b) (first_of rows)))
    (reverse-reverse (installed_rows b))
    ∙ ap (entry_if Installed) (since_is b (last_stamp_of b) sound (serial_of_last b))

-- ---- the first entries

abbrev entries_from : Option Void → Option CalibrationValue → List HoldValue → Option StampRow → List InstalledRow
    → List Entry
entries_from void calibration hs stamp rows =
    entry_if Calibrated calibration ++ (entries_of_holds hs
    ++ (entries_of_last void stamp rows ++ entries_of_identity (identity_since_among stamp (latest_of rows))))

pub entries_are : (c : Carried) (b : History) → IsSound b → TellsSigner → IsCarried c b
    → entries_of c ≡ first_entries (void_in c) b
entries_are c b sound tells carried =
    ap (λ x. entries_from (void_in c) x (map hold_view c.holds.items) (option_map stamp_view c.stamp)
    (map identity_view c.identities.items)) carried.calibration
    ∙ ap (λ x. entries_from (void_in c) (latest_calibration b) x (option_map stamp_view c.stamp)
    (map identity_view c.identities.items)) carried.holds
    ∙ ap (λ x. entries_from (void_in c) (latest_calibration b) (reverse (holds b)) x (map identity_view c.identities.items)) carried.stamp
    ∙ ap (λ x. entries_from (void_in c) (latest_calibration b) (reverse (holds b)) (last_stamp_of b) x) carried.identities
    ∙ ap₂ (λ hs rest. entry_if Calibrated (latest_calibration b) ++ (map Held hs ++ rest))
    (filter_turned (λ h. not (holds_all h)) (holds b))
    (ap₂ (λ xs ys. xs ++ ys) (last_is (void_in c) b sound tells) (later_is b sound))

-- ---- the old book

err_weaker : {A E : Type 0} {P Q : Type 0} (done : Result A E) → (P → Q) → OnErr done P → OnErr done Q
err_weaker (Ok a) more it = tt
err_weaker (Err e) more it = more it

-- nothing is done to it, since it is closed
pub closed_already : {X : Type 0} (g : Ghosts X) (Knows : History → Type 0) (book : X)
    → ((b : History) → Knows b → is_closed b ≡ true)
    → Closes {A = Unit {0}} {E = StoreFault} g Knows book book (Ok tt)
closed_already g Knows book tells = record {
  honest = λ h. h;
  closes = λ h b s k. rw (tells b k) s;
  kept = λ h b s k. tt;
  crash = λ h l leaves. inl leaves;
}

-- a hold of all moments is added
pub closed_now : {X : Type 0} (g : Ghosts X) (Knows : History → Type 0) (old new : X) (done : Result (Unit {0}) StoreFault)
    → ((b : History) → Knows b → is_closed b ≡ false) → FitInTurn (Held all_moments ∷ []) []
    → Appends g (Held all_moments ∷ []) old new done → Closes g Knows old new done
closed_now g Knows old new done tells fit appends = record {
  honest = appends.honest;
  closes = λ h b s k. rw (tells b k) (appends.ok b s (fit.0, tt));
  kept = λ h b s k. err_weaker done (λ stands. inl stands) (appends.err b s);
  crash = λ h l leaves. elim (appends.crash h l leaves) [
    | inl before ↦ inl before
    | inr adds ↦ inr (λ b s k. rw (tells b k) (adds b s (fit.0, tt)))
  ];
}

-- and then a stop leaves nothing else
pub settled_now : {X : Type 0} (g : Ghosts X) (old new : X) (done : Result (Unit {0}) StoreFault)
    → FitInTurn (Held all_moments ∷ []) [] → Appends g (Held all_moments ∷ []) old new done → g.honest new
    → (left : g.Left) → g.leaves new left → (b : History) → Stands g b old → is_closed b ≡ false
    → OnOk done (g.holds left (closed b))
settled_now g old new (Ok done) fit appends honest left leaves b s k =
    rw k ((appends.ok b s (fit.0, tt)).settled honest (appends.opened honest).1 left leaves)
settled_now g old new (Err fault) fit appends honest left leaves b s k = tt

-- what is said of histories that are known is said of others, where they are known
pub known_from : {X A E : Type 0} (g : Ghosts X) (Knows Knew : History → Type 0) (old mid new : X) (done : Result A E)
    → OnlyLooks g old mid → (g.honest mid → (b : History) → Stands g b old → Knew b → Knows b)
    → Closes g Knows mid new done → Closes g Knew old new done
known_from g Knows Knew old mid new done looks tells closes = record {
  honest = λ h. looks.honest (closes.honest h);
  closes = λ h b s k. closes.closes h b (looks.stands b s) (tells (closes.honest h) b s k);
  kept = λ h b s k. closes.kept h b (looks.stands b s) (tells (closes.honest h) b s k);
  crash = λ h l leaves. elim (closes.crash h l leaves) [
    | inl before ↦ inl (looks.leaves (closes.honest h) l before)
    | inr adds ↦ inr (λ b s k. adds b (looks.stands b s) (tells (closes.honest h) b s k))
  ];
}

-- the same closing, told of another answer
pub closes_as : {X A C : Type 0} (g : Ghosts X) (Knows : History → Type 0) (old new : X) (a : A) (c : C)
    → Closes {E = StoreFault} g Knows old new (Ok a) → Closes {E = StoreFault} g Knows old new (Ok c)
closes_as g Knows old new a c closes =
    record { honest = closes.honest; closes = closes.closes; kept = closes.kept; crash = closes.crash }

pub fails_as : {X A C E : Type 0} (g : Ghosts X) (Knows : History → Type 0) (old new : X) (fault : E)
    → Closes {A = A} g Knows old new (Err fault) → Closes {A = C} g Knows old new (Err fault)
fails_as g Knows old new fault closes =
    record { honest = closes.honest; closes = closes.closes; kept = closes.kept; crash = closes.crash }

pub storage_fault : (fault : StoreFault) → IsOfStorage fault → IsOpeningFault fault
storage_fault fault (inl is) = inl is
storage_fault fault (inr is) = inr (inl is)

-- ---- a void stamp in place of the last one

last_of_stamp : (b : History) (s : StampRow) → last_stamp_of b ≡ Some s
    → (r : ReservationValue) × (last_reservation b ≡ Some r) × (reserved_as s ≡ r)
last_of_stamp b s is = go (last_reservation b) refl is
  where
    go : (o : Option ReservationValue) → last_reservation b ≡ o
        → option_map (λ r. stamp_of (token_of r.serial b) r) o ≡ Some s
        → (r : ReservationValue) × (last_reservation b ≡ Some r) × (reserved_as s ≡ r)
    go None e is = let apart = is in cc
    go (Some r) e is =
        let same : stamp_of (token_of r.serial b) r ≡ s = cc in
        (r, e, subst (λ (x : StampRow). reserved_as x ≡ r) same refl)

greatest_first : (rs : List ReservationValue) (r : ReservationValue) → Falls rs → first_of rs ≡ Some r
    → greatest_of rs ≡ r.serial
greatest_first [] r fall is = let apart = is in cc
greatest_first (x ∷ rs) r fall is =
    let same : x ≡ r = cc in
    let rises : greatest_of rs < x.serial = fall.0 in
    max-eq_left (omega (arith, rises)) ∙ ap (λ (v : ReservationValue). v.serial) same

-- it comes after the history
above_from : (floor : Option Floor) (last : Option StampRow) (void : Option Void) (b : History) → IsSound b
    → last ≡ last_stamp_of b → IsVoidIfAny floor last void → IsAboveIfAny void b
above_from None last None b sound is asked = tt
above_from None last (Some void) b sound is asked = absurd asked
above_from (Some floor) last None b sound is asked = absurd asked
above_from (Some floor) None (Some void) b sound is asked = absurd asked
above_from (Some floor) (Some s) (Some void) b sound is asked =
    let found = last_of_stamp b s (sym is) in
    let r = found.0 in
    let serial : s.serial ≡ r.serial = ap (λ (v : ReservationValue). v.serial) found.2 in
    let gen_time : s.gen_time ≡ r.gen_time = ap (λ (v : ReservationValue). v.gen_time) found.2 in
    let greatest : greatest_serial b ≡ r.serial = greatest_first (reservations b) r (falls b sound) found.1 in
    let number : void.serial ≡ floor.serial = asked.serial in
    let moment : void.gen_time ≡ floor.gen_time = asked.gen_time in
    let rises : s.serial < floor.serial = asked.after.rises in
    let within : floor.serial ≤ greatest_number = asked.after.within in
    let follows : s.gen_time ≤ floor.gen_time = asked.after.follows in
    let statable : floor.gen_time ≤ last_moment = asked.after.moment in
    record {
      last = r;
      reserved = found.1;
      rises = rw (greatest, sym serial, number) rises;
      within = rw number within;
      follows = rw (sym gen_time, moment) follows;
      moment = rw moment statable;
    }

-- what tells that a void stamp states what it has to
abbrev pub StatesVoid : Type 0
StatesVoid =
    (void : Void) (b : History) (last : ReservationValue) → IsSoundInFull b → last_reservation b ≡ Some last
    → IsRestated void last → IsStated void b

stated_from : (floor : Option Floor) (last : Option StampRow) (void : Option Void) (b : History) → StatesVoid
    → IsSoundInFull b → last ≡ last_stamp_of b → IsVoidIfAny floor last void → IsStatedIfAny void b
stated_from None last None b states whole is asked = tt
stated_from None last (Some void) b states whole is asked = absurd asked
stated_from (Some floor) last None b states whole is asked = absurd asked
stated_from (Some floor) None (Some void) b states whole is asked = absurd asked
stated_from (Some floor) (Some s) (Some void) b states whole is asked =
    let found = last_of_stamp b s (sym is) in
    states void b found.0 whole found.1 (subst (IsRestated void) found.2 asked.restated)

-- what holds where there is room
pub where_ok : {Is : Type 0} (room : Result (Unit {0}) StoreFault) → IsOk room → OnOk room Is → Is
where_ok (Ok t) room is = is
where_ok (Err fault) room is = absurd (let apart = room in cc)

-- ---- both books

-- it is closed for tokens, or that is refused
abbrev IsClosedSo : {D : Type 0} → Disk D → Image → Option Floor → Result Carried ContinuationFault → Type 0
IsClosedSo disk held floor done = IsDoneOver disk held (λ g opened left. Carries g floor opened left done)

-- where there is room or a refusal of it is known
pub closed_so : {D : Type 0} (disk : Disk D) (held : Image) (floor : Option Floor) (room : Result (Unit {0}) StoreFault)
    (done : Result Carried ContinuationFault) → IfErr room IsOpeningFault
    → IsDoneOver disk held (λ g opened left. IfErr room IsOpeningFault → Carries g floor opened left done)
    → IsClosedSo disk held floor done
closed_so disk held floor room done known (opened, found, (left, closes, closed)) =
    (opened, found, (left, closes known, closed))

-- what is told of a closing where it is answered, and where it is refused
pub closed_in : {D : Type 0} (disk : Disk D) (held : Image) (floor : Option Floor)
    (done : Result Carried ContinuationFault) → IsClosedSo disk held floor done
    → IfOk done (λ carried. IsClosedSo disk held floor (Ok carried))
closed_in disk held floor (Ok carried) closes = closes
closed_in disk held floor (Err fault) closes = tt

pub unclosed_in : {D : Type 0} (disk : Disk D) (held : Image) (Refuses : StoreFault → Type 0) (floor : Option Floor)
    (done : Result Carried ContinuationFault) → IsClosedSo disk held floor done
    → IfErr done (IsRefusedBy disk held Refuses floor)
unclosed_in disk held Refuses floor (Ok carried) closes = tt
unclosed_in disk held Refuses floor (Err (Unopened fault)) (opened, found, (left, refused, closed)) = absurd refused
unclosed_in disk held Refuses floor _ closes = closes

-- closed, with no new one
pub unfinished_in : {D : Type 0} (disk : Disk D) (held : Image) (Refuses : StoreFault → Type 0) (floor : Option Floor)
    (c : Carried) (fault : StoreFault) → IsOpeningFault fault → IsClosedSo disk held floor (Ok c)
    → IsRefusedBy disk held Refuses floor (Unfinished fault)
unfinished_in disk held Refuses floor c fault is (opened, found, (left, closes, closed)) = (
  opened,
  found,
  (
    left,
    (
      is,
      record {
        honest = closes.0.honest;
        closes = λ h b s k. tt;
        kept = λ h b s k. inr (closes.0.closes h b s k);
        crash = closes.0.crash;
      },
    ),
    closed,
  ),
)

-- what is known of histories that go on
pub record Laws : Type 0 where
  pub tells : TellsSigner
  pub fit : (void : Option Void) (b : History) → IsSound b → IsAboveIfAny void b → FitInTurn (first_entries void b) []
  pub serial : (b : History) → IsSound b → greatest_serial (continued None b) ≡ greatest_serial b
  pub moment : (b : History) → last_gen_time (continued None b) ≡ last_gen_time b
  pub above : (void : Void) (b : History) → IsAbove void b
      → (greatest_serial (continued (Some void) b) ≡ void.serial)
      × (last_gen_time (continued (Some void) b) ≡ Some void.gen_time)
      × (token_of void.serial (continued (Some void) b) ≡ None)
  pub states : StatesVoid

reaches_from : Laws → (floor : Option Floor) (last : Option StampRow) (void : Option Void) (b : History) → IsSound b
    → IsVoidIfAny floor last void → IsAboveIfAny void b → Reaches floor b (continued void b)
reaches_from laws None last None b sound asked above = (laws.serial b sound, laws.moment b)
reaches_from laws None last (Some void) b sound asked above = absurd asked
reaches_from laws (Some floor) last None b sound asked above = absurd asked
reaches_from laws (Some floor) None (Some void) b sound asked above = absurd asked
reaches_from laws (Some floor) (Some s) (Some void) b sound asked above =
    let on = laws.above void b above in (
      on.0 ∙ asked.serial,
      on.1 ∙ ap Some asked.gen_time,
      subst (λ n. token_of n (continued (Some void) b) ≡ None) asked.serial on.2,
    )

pub continued_in : {D E : Type 0} (disk : Disk D) (held : Image) (other : Disk E) (floor : Option Floor) (c : Carried)
    → Laws → IsClosedSo disk held floor (Ok c) → IsMadeOver other (entries_of c)
    → IsContinuedOver disk held other floor
continued_in disk held other floor c laws (opened, found, (left, closes, closed)) (made, stands, is_open, shut) = (
  opened,
  found,
  (
    left,
    (
      made,
      record {
        honest = closes.0.honest;
        closes = λ o b s. closes.0.closes o b s tt;
        leaves = λ o l leaves b s. closes.3 o l leaves b s;
        opened = is_open;
        void = void_in c;
        goes_on = λ o b s.
            let carried = closes.2 o b s in
            let same = entries_are c b s.sound laws.tells carried in
            let above = above_from floor (option_map stamp_view c.stamp) (void_in c) b s.sound carried.stamp closes.1 in
            record {
              asked = subst (λ last. IsVoidIfAny floor last (void_in c)) carried.stamp closes.1;
              above = above;
              stands = subst (λ entries. Stands (over_tables over_files) (with_all entries []) made) same
                  (stands (rw same (laws.fit (void_in c) b s.sound above)));
              reaches = reaches_from laws floor (option_map stamp_view c.stamp) (void_in c) b s.sound closes.1 above;
              stated = λ whole. stated_from floor (option_map stamp_view c.stamp) (void_in c) b laws.states whole
                  carried.stamp closes.1;
            };
      },
      shut,
    ),
    closed,
  ),
)
