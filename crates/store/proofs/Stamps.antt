-- The stamps of the tables are the reservations with their tokens, newest first, by falling serial numbers.
use Rattle.store.proofs.Words.{Deposited, FitsReserved, FitsSealed, History, IsSound, List, None, Option}
use Rattle.store.proofs.Words.{ReservationValue, Reserved, Sealed, Some, [], ap, arith, cond, eq-eqb, eqb_tells, false}
use Rattle.store.proofs.Words.{find, greatest_of, inl, inr, le-max_left, le-max_right, map, max, ne_eqb, refl}
use Rattle.store.proofs.Words.{reservation_at, reservations, sealed_row, stamp_of, stamps, subst, sym, token_of, ℕ, ◌<◌}
use Rattle.store.proofs.Words.{◌==◌, ◌∙◌, ◌∷◌, ◌≡◌, ◌≤◌}
use Rattle.store.specs.auxiliary.Replay.{replayed}

-- a number above all isn't reserved
pub absent_above : (rs : List ReservationValue) (n : ℕ) → greatest_of rs < n → find (λ r. r.serial == n) rs ≡ None
absent_above [] n l = refl
absent_above (r ∷ rs) n l =
    let left : r.serial ≤ max r.serial (greatest_of rs) = le-max_left _ _ in
    let right : greatest_of rs ≤ max r.serial (greatest_of rs) = le-max_right _ _ in
    let differs : (r.serial == n) ≡ false = ne_eqb _ _ (λ e. absurd (omega (arith, left, l, e))) in
    rw differs (absent_above rs n (omega (arith, right, l)))

absent_before : (r : ReservationValue) (rs : List ReservationValue) (n : ℕ) → find (λ r. r.serial == n) (r ∷ rs) ≡ None
    → find (λ r. r.serial == n) rs ≡ None
absent_before r rs n e =
    elim (eqb_tells r.serial n) [
      | inl t ↦ (let here : Some r ≡ None = sym (rw t.0 refl) ∙ e in cc)
      | inr f ↦ sym (rw f.0 refl) ∙ e
    ]

-- what isn't reserved isn't sealed
sealed_absent : (b : History) (m n : ℕ) → FitsSealed m b → m ≡ n → reservation_at n b ≡ None → ⊥
sealed_absent b m n fits same e =
    let P : ℕ → Type 0 = λ k. reservation_at k b ≡ Some fits.reservation in
    let there : reservation_at n b ≡ Some fits.reservation = subst P same fits.reserved in cc

pub unreserved : (b : History) (n : ℕ) → IsSound b → reservation_at n b ≡ None → token_of n b ≡ None
unreserved [] n s e = refl
unreserved (Reserved r ∷ b) n s e = unreserved b n s.1 (absent_before r (reservations b) n e)
unreserved (Sealed m token ∷ b) n s e =
    elim (eqb_tells m n) [ inl t ↦ absurd (sealed_absent b m n s.0 t.1 e) | inr f ↦ rw f.0 (unreserved b n s.1 e) ]
unreserved (Deposited d token ∷ b) n s e =
    elim (eqb_tells d.serial n) [
      | inl t ↦ absurd (sealed_absent b d.serial n s.0.sealed t.1 e)
      | inr f ↦ rw f.0
          (unreserved b n s.1 e)
    ]
unreserved (_ ∷ b) n s e = unreserved b n s.1 e

-- a new serial number has no token
pub fresh : (b : History) (r : ReservationValue) → IsSound b → FitsReserved r b → token_of r.serial b ≡ None
fresh b r s fits = unreserved b r.serial s (absent_above (reservations b) r.serial fits.rises)

sealed_head : (token : List ℕ) (old : Option (List ℕ)) (n : ℕ) (r : ReservationValue)
    → sealed_row n token (stamp_of old r) ≡ stamp_of (cond (n == r.serial) (Some token) old) r
sealed_head token old n r =
    elim (eqb_tells r.serial n) [
      | inl t ↦ rw t.0 (rw (eq-eqb n r.serial (sym t.1)) refl)
      | inr f ↦ rw f.0 (rw (ne_eqb n r.serial (λ e. f.1 (sym e))) refl)
    ]

sealed_stamps : (b : History) (n : ℕ) (token : List ℕ) (rs : List ReservationValue)
    → map (sealed_row n token) (map (λ r. stamp_of (token_of r.serial b) r) rs)
    ≡ map (λ r. stamp_of (cond (n == r.serial) (Some token) (token_of r.serial b)) r) rs
sealed_stamps b n token [] = refl
sealed_stamps b n token (r ∷ rs) =
    let head = sealed_head token (token_of r.serial b) n r in
    let rest = sealed_stamps b n token rs in
    ap (λ x. x ∷ map (sealed_row n token) (map (λ r. stamp_of (token_of r.serial b) r) rs)) head
    ∙ ap (λ xs. stamp_of (cond (n == r.serial) (Some token) (token_of r.serial b)) r ∷ xs) rest

pub stamps_are : (b : History) → IsSound b → (replayed b).stamps ≡ stamps b
stamps_are [] s = refl
stamps_are (Reserved r ∷ b) s = rw (fresh b r s.1 s.0) (ap (λ xs. stamp_of None r ∷ xs) (stamps_are b s.1))
stamps_are (Sealed n token ∷ b) s =
    ap (map (sealed_row n token)) (stamps_are b s.1) ∙ sealed_stamps b n token (reservations b)
stamps_are (Deposited d token ∷ b) s =
    ap (map (sealed_row d.serial token)) (stamps_are b s.1) ∙ sealed_stamps b d.serial token (reservations b)
stamps_are (_ ∷ b) s = stamps_are b s.1
