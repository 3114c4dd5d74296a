-- What the store answers of the clock is what the history says.
use Rattle.std.proofs.Common.{◌≡◌, ℕ, ◌≤◌, ℤ, Bool, [], ◌∷◌, Option, Some, None, refl, ap, ◌∙◌, arith}
use Rattle.std.specs.Prelude.{option_map}
use Rattle.gentime.specs.GenTime.{last_moment}
use Rattle.book.specs.History.{Reserved, Sealed, Deposited, Calibrated, Held, Granted, Revoked, Installed, History}
use Rattle.book.specs.History.{CalibrationValue, latest_calibration, last_gen_time, greatest_serial}
use Rattle.book.specs.{Sound.IsSound, Values.last_of, declared.values.Last.Last}
use Rattle.decide.specs.declared.facts.Calibration.{Calibration}
use Rattle.desk.specs.Calls.{looked_at, calibrations_as, moment_or_last}
use Rattle.desk.specs.{Facts.now_in, Facts.now_with, Facts.is_held_at, declared.clock_facts.Looked.Looked}

within : (moment : ℕ) → moment ≤ last_moment → moment_or_last moment ≡ moment
within moment h = omega arith

-- a sound history's last genTime is a moment that a genTime can state
pub last_within : (b : History) → IsSound b → option_map moment_or_last (last_gen_time b) ≡ last_gen_time b
last_within [] s = refl
last_within (Reserved r ∷ b) s = ap Some (within r.gen_time s.0.moment)
last_within (Sealed n token ∷ b) s = last_within b s.1
last_within (Deposited d token ∷ b) s = last_within b s.1
last_within (Calibrated c ∷ b) s = last_within b s.1
last_within (Held h ∷ b) s = last_within b s.1
last_within (Granted n account ∷ b) s = last_within b s.1
last_within (Revoked n account ∷ b) s = last_within b s.1
last_within (Installed i ∷ b) s = last_within b s.1

pub now_same : (reading : ℤ) (latest : Option CalibrationValue)
    → now_with reading (calibrations_as latest) ≡ now_in reading latest
now_same reading None = refl
now_same reading (Some c) = refl

abbrev looked_from : ℤ → ℕ → Option Calibration → Bool → Option ℕ → Looked
looked_from reading serial calibration held last = record {
  clock = record { reading = reading; calibration = calibration; held = held; last_gen_time = last };
  serial = serial;
}

-- so the facts of the clock are the history's
pub looked_now : (seen reading : ℤ) (b : History) → IsSound b → (last : Last) (latest : Option CalibrationValue)
    (held : Bool) (calibration : Option Calibration) (moment : Option ℕ)
    → seen ≡ reading → last ≡ last_of b → latest ≡ latest_calibration b → calibration ≡ calibrations_as latest
    → held ≡ is_held_at (now_with seen calibration) b → moment ≡ option_map moment_or_last last.gen_time
    → looked_from seen last.serial calibration held moment ≡ looked_at reading b
looked_now seen reading b s last latest held calibration moment d e f g h k =
    let number : last.serial ≡ greatest_serial b = ap (λ l. l.serial) e in
    let same : calibration ≡ calibrations_as (latest_calibration b) = g ∙ ap calibrations_as f in
    let holds : held ≡ is_held_at (now_in reading (latest_calibration b)) b =
    h ∙ (ap (λ r. is_held_at (now_with r calibration) b) d
    ∙ (ap (λ c. is_held_at (now_with reading c) b) same
    ∙ ap (λ n. is_held_at n b) (now_same reading (latest_calibration b)))) in
    let after : moment ≡ last_gen_time b =
    k ∙ (ap (λ l. option_map moment_or_last l.gen_time) e ∙ last_within b s) in
    ap (λ r. looked_from r last.serial calibration held moment) d
    ∙ (ap (λ n. looked_from reading n calibration held moment) number
    ∙ (ap (λ c. looked_from reading (greatest_serial b) c held moment) same
    ∙ (ap (λ t. looked_from reading (greatest_serial b) (calibrations_as (latest_calibration b)) t moment) holds
    ∙ ap (λ m. looked_from reading (greatest_serial b) (calibrations_as (latest_calibration b))
    (is_held_at (now_in reading (latest_calibration b)) b) m) after)))
