-- A number above the greatest is no deposit's in any sound history.
use Rattle.std.proofs.Common.{◌≡◌, ℕ, ◌<◌, ◌≤◌, ◌==◌, Bool, true, false, cond, List, [], ◌∷◌, Option, Some, None, refl}
use Rattle.std.proofs.{Common.arith, lemmas.Bool.eqb-true, lemmas.Bool.ne_eqb}
use Rattle.book.specs.History.{Reserved, Deposited, History, ReservationValue, reservation_at, deposit_at}
use Rattle.book.specs.{Readers.Viewer, Sound.IsSound, Sound.greatest_number}
use Rattle.book.specs.Rights.{is_own, is_visible, deposit_with_stamp}

here_within : (n : ℕ) (x r : ReservationValue) (at : Option ReservationValue) (same : Bool) → (x.serial == n) ≡ same
    → x.serial ≤ greatest_number → (at ≡ Some r → n ≤ greatest_number) → cond same (Some x) at ≡ Some r
    → n ≤ greatest_number
here_within n x r at true same within later e = let number : x.serial ≡ n = eqb-true x.serial n same in omega arith
here_within n x r at false same within later e = later e

-- what is reserved is within it
reserved_within : (b : History) (n : ℕ) (r : ReservationValue) → IsSound b → reservation_at n b ≡ Some r
    → n ≤ greatest_number
reserved_within [] n r s e = cc
reserved_within (Reserved x ∷ b) n r s e =
    here_within n x r (reservation_at n b) (x.serial == n) refl s.0.within (reserved_within b n r s.1) e
reserved_within (_ ∷ b) n r s e = reserved_within b n r s.1 e

deposit_beyond : (b : History) (n : ℕ) → IsSound b → greatest_number < n → deposit_at n b ≡ None
deposit_beyond [] n s beyond = refl
deposit_beyond (Deposited d token ∷ b) n s beyond =
    let sealed = s.0.sealed in
    let within : d.serial ≤ greatest_number =
    reserved_within b d.serial sealed.reservation s.1 sealed.reserved in
    let differs : (d.serial == n) ≡ false = ne_eqb d.serial n (λ e. absurd (omega (arith, within, beyond, e))) in
    rw differs (deposit_beyond b n s.1 beyond)
deposit_beyond (_ ∷ b) n s beyond = deposit_beyond b n s.1 beyond

pub stamped_beyond : (b : History) (n : ℕ) → IsSound b → greatest_number < n → None ≡ deposit_with_stamp n b
stamped_beyond b n s beyond = rw (deposit_beyond b n s beyond) refl

pub unowned_beyond : (account : List ℕ) (b : History) (n : ℕ) → IsSound b → greatest_number < n
    → false ≡ is_own account n b
unowned_beyond account b n s beyond = rw (deposit_beyond b n s beyond) refl

pub unseen_beyond : (viewer : Viewer) (b : History) (n : ℕ) → IsSound b → greatest_number < n
    → false ≡ is_visible viewer n b
unseen_beyond viewer b n s beyond = rw (deposit_beyond b n s beyond) refl
