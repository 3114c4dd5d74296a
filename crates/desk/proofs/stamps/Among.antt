-- What is found of a request where reservations wait, added to what the store says.
use Rattle.std.proofs.Common.{◌≡◌, ℕ, ◌+◌, ◌-◌, ◌<◌, ◌≤◌, ◌^◌, ℤ, Bool, List, [], ◌∷◌, ◌++◌, map, length}
use Rattle.std.proofs.Common.{Option, Some, refl, sym, ap, ◌∙◌, subst, arith, take, count_by, cond}
use Rattle.std.proofs.lemmas.List.{take_all, take_more, map-append}
use Rattle.std.proofs.lemmas.List.Sums.{count_by-le-length, sum_by-cons}
use Rattle.std.proofs.lemmas.Option.{slice_get_within, get_or_from_slice_get}
use Rattle.std.specs.{Prelude.min, Prelude.max, Prelude.option_map, List.slice_get}
use Rattle.gentime.specs.GenTime.{last_moment}
use Rattle.book.specs.History.{Reserved, Sealed, Deposited, Calibrated, Held, Granted, Revoked, Installed}
use Rattle.book.specs.History.{History, ReservationValue, reservations, calibrations, holds, greatest_serial}
use Rattle.book.specs.History.{latest_calibration, is_of_day, count_of_day}
use Rattle.book.specs.Sound.{FitsReserved, IsSound, greatest_number}
use Rattle.desk.specs.{Batches.with_reserved, Calls.looked_at, Calls.moment_or_last, Facts.calibration_of}
use Rattle.desk.specs.{Facts.is_held_at, Facts.now_in, WaitingStamps.waiting_view, WaitingStamps.with_waiting}
use Rattle.desk.specs.{declared.clock_facts.Looked.Looked, declared.waiting_stamp.WaitingStamp.WaitingStamp}
use Rattle.decide.specs.declared.facts.Calibration.{Calibration}
use Rattle.desk.proofs.journeys.SameEffect.{held_same}

-- one more reservation is the newest entry
pub reserved_more : (rs : List ReservationValue) (r : ReservationValue) (b : History)
    → with_reserved (rs ++ (r ∷ [])) b ≡ Reserved r ∷ with_reserved rs b
reserved_more [] r b = refl
reserved_more (q ∷ rs) r b = reserved_more rs r (Reserved q ∷ b)

pub calibrations_stay : (rs : List ReservationValue) (b : History)
    → calibrations (with_reserved rs b) ≡ calibrations b
calibrations_stay [] b = refl
calibrations_stay (r ∷ rs) b = calibrations_stay rs (Reserved r ∷ b)

pub holds_stay : (rs : List ReservationValue) (b : History) → holds (with_reserved rs b) ≡ holds b
holds_stay [] b = refl
holds_stay (r ∷ rs) b = holds_stay rs (Reserved r ∷ b)

abbrev pub looked_by : ℤ → Option Calibration → Bool → Option ℕ → ℕ → Looked
looked_by reading calibration held last serial = record {
  clock = record { reading = reading; calibration = calibration; held = held; last_gen_time = last };
  serial = serial;
}

-- the newest reservation has the greatest serial number
top_serial : (r : ReservationValue) (n : ℕ) → n < r.serial → max r.serial n ≡ r.serial
top_serial r n above = omega arith

top_moment : (n : ℕ) → n ≤ last_moment → moment_or_last n ≡ n
top_moment n within = omega arith

-- what a look finds once one more is reserved
looked_next : (reading : ℤ) (rs : List ReservationValue) (r : ReservationValue) (b : History) (looked : Looked)
    → looked ≡ looked_at reading b → FitsReserved r (with_reserved rs b)
    → looked_by reading looked.clock.calibration looked.clock.held (Some (moment_or_last r.gen_time)) r.serial
    ≡ looked_at reading (Reserved r ∷ with_reserved rs b)
looked_next reading rs r b looked is fits =
    let d = Reserved r ∷ with_reserved rs b in
    let latest : latest_calibration b ≡ latest_calibration d = rw (calibrations_stay rs b) refl in
    let held : is_held_at (now_in reading (latest_calibration b)) b
    ≡ is_held_at (now_in reading (latest_calibration d)) d =
    ap (λ l. is_held_at (now_in reading l) b) latest
    ∙ held_same (now_in reading (latest_calibration d)) b d (sym (holds_stay rs b)) in
    ap (λ l. looked_by reading l.clock.calibration l.clock.held (Some (moment_or_last r.gen_time)) r.serial) is
    ∙ (ap (λ c. looked_by reading (option_map calibration_of c) (is_held_at (now_in reading (latest_calibration b)) b)
    (Some (moment_or_last r.gen_time)) r.serial) latest
    ∙ (ap (λ h. looked_by reading (option_map calibration_of (latest_calibration d)) h
    (Some (moment_or_last r.gen_time)) r.serial) held
    ∙ (ap (λ m. looked_by reading (option_map calibration_of (latest_calibration d))
    (is_held_at (now_in reading (latest_calibration d)) d) (Some m) r.serial) (top_moment r.gen_time fits.moment)
    ∙ ap (λ n. looked_by reading (option_map calibration_of (latest_calibration d))
    (is_held_at (now_in reading (latest_calibration d)) d) (Some r.gen_time) n)
    (sym (top_serial r (greatest_serial (with_reserved rs b)) fits.rises)))))

-- a list with its last element apart
last_apart : {X : Type 0} (xs : List X) (x : X) → slice_get xs (length xs - 1) ≡ Some x
    → take (length xs - 1) xs ++ (x ∷ []) ≡ xs
last_apart xs x is =
    let within = slice_get_within xs (length xs - 1) x is in
    let before = take (length xs - 1) xs in
    ap (λ y. before ++ (y ∷ [])) (sym (get_or_from_slice_get xs (length xs - 1) x x is))
    ∙ (sym (take_more xs (length xs - 1) x within)
    ∙ (ap (λ n. take n xs) (omega arith) ∙ take_all (length xs) xs (omega arith)))

-- what a look finds where some wait
pub looked_last : (reading : ℤ) (ws : List WaitingStamp) (w : WaitingStamp) (b : History) (looked : Looked)
    → slice_get ws (length ws - 1) ≡ Some w → looked ≡ looked_at reading b → IsSound (with_waiting ws b)
    → looked_by reading looked.clock.calibration looked.clock.held (Some (moment_or_last w.gen_time))
    w.unsigned.serial ≡ looked_at reading (with_waiting ws b)
looked_last reading ws w b looked last is sound =
    let before = map waiting_view (take (length ws - 1) ws) in
    let apart : with_waiting ws b ≡ Reserved (waiting_view w) ∷ with_reserved before b =
    ap (λ v. with_waiting v b) (sym (last_apart ws w last))
    ∙ (ap (λ rs. with_reserved rs b) (map-append waiting_view (take (length ws - 1) ws) (w ∷ []))
    ∙ reserved_more before (waiting_view w) b) in
    looked_next reading before (waiting_view w) b looked is (subst IsSound apart sound).0
    ∙ ap (looked_at reading) (sym apart)

-- what counts of those that wait counts besides what counts of the others
counted_one : {X : Type 0} (p : X → Bool) (x : X) (xs : List X)
    → count_by p (x ∷ xs) ≡ cond (p x) 1 0 + count_by p xs
counted_one p x xs = sum_by-cons (λ y. cond (p y) 1 0) x xs

count_reserved : (p : ReservationValue → Bool) (rs : List ReservationValue) (b : History)
    → count_by p (reservations (with_reserved rs b)) ≡ count_by p (reservations b) + count_by p rs
count_reserved p [] b = omega arith
count_reserved p (r ∷ rs) b =
    let rest = count_reserved p rs (Reserved r ∷ b) in
    let one = counted_one p r rs in
    let other = counted_one p r (reservations b) in
    omega (arith, rest, one, other)

-- serial numbers rise, so there are at most as many reservations as the greatest tells
fewer_than : (b : History) → IsSound b → length (reservations b) ≤ greatest_serial b
fewer_than [] sound = omega arith
fewer_than (Reserved r ∷ b) sound =
    let rest = fewer_than b sound.1 in
    let above = sound.0.rises in
    omega arith
fewer_than (Sealed n token ∷ b) sound = fewer_than b sound.1
fewer_than (Deposited d token ∷ b) sound = fewer_than b sound.1
fewer_than (Calibrated c ∷ b) sound = fewer_than b sound.1
fewer_than (Held h ∷ b) sound = fewer_than b sound.1
fewer_than (Granted n reader ∷ b) sound = fewer_than b sound.1
fewer_than (Revoked n reader ∷ b) sound = fewer_than b sound.1
fewer_than (Installed i ∷ b) sound = fewer_than b sound.1

greatest_within : (b : History) → IsSound b → greatest_serial b ≤ greatest_number
greatest_within [] sound = omega arith
greatest_within (Reserved r ∷ b) sound =
    let above = sound.0.rises in
    let within = sound.0.within in
    omega arith
greatest_within (Sealed n token ∷ b) sound = greatest_within b sound.1
greatest_within (Deposited d token ∷ b) sound = greatest_within b sound.1
greatest_within (Calibrated c ∷ b) sound = greatest_within b sound.1
greatest_within (Held h ∷ b) sound = greatest_within b sound.1
greatest_within (Granted n reader ∷ b) sound = greatest_within b sound.1
greatest_within (Revoked n reader ∷ b) sound = greatest_within b sound.1
greatest_within (Installed i ∷ b) sound = greatest_within b sound.1

-- an account's day, with those that wait
pub count_among : (name : List ℕ) (day : ℕ) (ws : List WaitingStamp) (b : History) (stored waiting : ℕ)
    → stored ≡ count_of_day name day b → waiting ≡ count_by (is_of_day name day) (map waiting_view ws)
    → IsSound (with_waiting ws b) → min (stored + waiting) (2 ^ 64 - 1) ≡ count_of_day name day (with_waiting ws b)
count_among name day ws b stored waiting is waits sound =
    let d = with_waiting ws b in
    let both : count_of_day name day d
    ≡ count_of_day name day b + count_by (is_of_day name day) (map waiting_view ws) =
    count_reserved (is_of_day name day) (map waiting_view ws) b in
    let few = count_by-le-length (is_of_day name day) (reservations d) in
    let fewer = fewer_than d sound in
    let within = greatest_within d sound in
    omega (arith, both, few, fewer, within, is, waits)
