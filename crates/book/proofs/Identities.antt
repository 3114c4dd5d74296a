-- The rows of identities tell which one was in force when a serial number was reserved.
use Rattle.std.proofs.Common.{◌≡◌, ℕ, ◌==◌, ◌<◌, ◌≤◌, max, false, List, [], ◌∷◌, find, nat_lt, Option, Some, option_map}
use Rattle.std.proofs.Common.{refl, sym, ap, ◌∙◌, inl, inr, arith}
use Rattle.std.proofs.lemmas.{Bool.lt-ltb, Bool.le-ltb, Bool.Decides.eqb_tells, List.reverse-reverse}
use Rattle.std.proofs.Math.Nat.{le-max_left, le-max_right}
use Rattle.book.specs.{Rows.InstalledRow, Sound.IsSound, Identities.installed_as}
use Rattle.book.specs.History.{Reserved, Installed, InstalledValue, ReservationValue, History, reservations}
use Rattle.book.specs.History.{reservation_at, greatest_of, greatest_serial}
use Rattle.book.specs.Identities.{latest_identity, identity_at_reservation, installed_rows, identities, identity_before}

-- of rows with the newest first
abbrev identity_among : ℕ → List InstalledRow → Option InstalledValue
identity_among serial rows = option_map installed_as (find (λ row. nat_lt row.after_serial serial) rows)

-- what is reserved isn't above the greatest
not_above : (rs : List ReservationValue) (serial : ℕ) (r : ReservationValue)
    → find (λ r. r.serial == serial) rs ≡ Some r → serial ≤ greatest_of rs
not_above [] serial r found = cc
not_above (x ∷ rs) serial r found =
    let left : x.serial ≤ max x.serial (greatest_of rs) = le-max_left _ _ in
    let right : greatest_of rs ≤ max x.serial (greatest_of rs) = le-max_right _ _ in
    elim (eqb_tells x.serial serial) [
      | inl t ↦ (let e = t.1 in omega (arith, left, e))
      | inr f ↦ (let rest = not_above rs serial r (sym (rw f.0 refl) ∙ found) in omega (arith, right, rest))
    ]

-- above all that is reserved, the newest is found
newest_found : (b : History) (serial : ℕ) → greatest_serial b < serial
    → identity_among serial (installed_rows b) ≡ latest_identity b
newest_found [] serial above = refl
newest_found (Installed i ∷ b) serial above = rw (lt-ltb (greatest_serial b) serial above) refl
newest_found (Reserved r ∷ b) serial above =
    let right : greatest_serial b ≤ max r.serial (greatest_serial b) = le-max_right _ _ in
    newest_found b serial (omega (arith, right, above))
newest_found (_ ∷ b) serial above = newest_found b serial above

found_among : (b : History) (serial : ℕ) (r : ReservationValue) → IsSound b → reservation_at serial b ≡ Some r
    → identity_among serial (installed_rows b) ≡ identity_at_reservation serial b
found_among [] serial r sound reserved = cc
found_among (Reserved x ∷ b) serial r sound reserved =
    let rises : greatest_serial b < x.serial = sound.0.rises in
    elim (eqb_tells x.serial serial) [
      | inl t ↦ (let e = t.1 in rw t.0 (newest_found b serial (omega (arith, rises, e))))
      | inr f ↦ rw f.0 (found_among b serial r sound.1 (sym (rw f.0 refl) ∙ reserved))
    ]
found_among (Installed i ∷ b) serial r sound reserved =
    let later : nat_lt (greatest_serial b) serial ≡ false =
    le-ltb (greatest_serial b) serial (not_above (reservations b) serial r reserved) in
    rw later (found_among b serial r sound.1 reserved)
found_among (_ ∷ b) serial r sound reserved = found_among b serial r sound.1 reserved

pub found_before : (b : History) (serial : ℕ) (r : ReservationValue) → IsSound b → reservation_at serial b ≡ Some r
    → option_map installed_as (identity_before serial (identities b)) ≡ identity_at_reservation serial b
found_before b serial r sound reserved =
    ap (identity_among serial) (reverse-reverse (installed_rows b)) ∙ found_among b serial r sound reserved
