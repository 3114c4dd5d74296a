-- What a history shows stays so when an entry fits it.
use Rattle.std.proofs.Common.{◌≡◌, ℕ, ◌<◌, ◌≤◌, ◌==◌, ◌&&◌, cond, Bool, true, false, List, [], ◌∷◌, Option, Some, None}
use Rattle.std.proofs.lemmas.Bool.{eqb-true, eq-eqb}
use Rattle.std.proofs.{Common.refl, Common.sym, Common.arith, lemmas.Slice.Eq.bytes_eq-Decides}
use Rattle.std.specs.{List.find, Str.bytes_eq}
use Rattle.book.specs.History.{Entry, Reserved, Sealed, Deposited, Calibrated, Held, Granted, Revoked, Installed}
use Rattle.book.specs.History.{ReservationValue, reservations, greatest_of, greatest_serial, token_of}
use Rattle.book.specs.History.{reservation_at, deposit_at, deposit_under}
use Rattle.book.specs.Identities.{latest_identity, identity_at_reservation}
use Rattle.book.specs.{History.History, Rows.DepositRow, Sound.Along, Sound.Fits, Sound.FitsReserved, Sound.FitsSealed}

abbrev search_serial : ℕ → List ReservationValue → Option ReservationValue
search_serial n rs = find (λ r. r.serial == n) rs

-- a reservation that is found has the serial number, which isn't above the greatest
record IsFound (n : ℕ) (rs : List ReservationValue) (r : ReservationValue) : Type 0 where
  serial : r.serial ≡ n
  below : n ≤ greatest_of rs

found_here : (n : ℕ) (x : ReservationValue) (rs : List ReservationValue) (r : ReservationValue) (t : Bool)
    → (x.serial == n) ≡ t
    → (search_serial n rs ≡ Some r → IsFound n rs r) → cond t (Some x) (search_serial n rs) ≡ Some r → IsFound n (x
    ∷ rs) r
found_here n x rs r true same later e =
    let here : x ≡ r = cc in
    let number : x.serial ≡ n = eqb-true x.serial n same in
    let own : r.serial ≡ n = cc in
    record { serial = own; below = omega arith }
found_here n x rs r false same later e =
    let f = later e in
    let b = f.below in
    record { serial = f.serial; below = omega arith }

found : (n : ℕ) (rs : List ReservationValue) (r : ReservationValue) → search_serial n rs ≡ Some r → IsFound n rs r
found n [] r e = cc
found n (x ∷ rs) r e = found_here n x rs r (x.serial == n) refl (found n rs r) e

pub reserved_below : (n : ℕ) (b : History) (r : ReservationValue) → reservation_at n b ≡ Some r
    → n ≤ greatest_serial b
reserved_below n b r e = (found n (reservations b) r e).below

-- what is sealed was reserved
sealed_here : (m n : ℕ) (b : History) (x t : List ℕ) (same : Bool) → (m == n) ≡ same → FitsSealed m b
    → (token_of n b ≡ Some t → n ≤ greatest_serial b) → cond same (Some x) (token_of n b) ≡ Some t
    → n ≤ greatest_serial b
sealed_here m n b x t true same fits later e =
    let number : m ≡ n = eqb-true m n same in
    let low = reserved_below m b fits.reservation fits.reserved in
    omega arith
sealed_here m n b x t false same fits later e = later e

pub sealed_below : (b : History) → Along Fits b → (n : ℕ) (t : List ℕ) → token_of n b ≡ Some t → n ≤ greatest_serial b
sealed_below [] sound n t e = cc
sealed_below (Reserved r ∷ b) sound n t e = let low = sealed_below b sound.1 n t e in omega arith
sealed_below (Sealed m x ∷ b) sound n t e = sealed_here m n b x t (m == n) refl sound.0 (sealed_below b sound.1 n t) e
sealed_below (Deposited d x ∷ b) sound n t e = sealed_here d.serial n b x t (d.serial == n) refl sound.0.sealed
    (sealed_below b sound.1 n t) e
sealed_below (Calibrated c ∷ b) sound n t e = sealed_below b sound.1 n t e
sealed_below (Held h ∷ b) sound n t e = sealed_below b sound.1 n t e
sealed_below (Granted m a ∷ b) sound n t e = sealed_below b sound.1 n t e
sealed_below (Revoked m a ∷ b) sound n t e = sealed_below b sound.1 n t e
sealed_below (Installed i ∷ b) sound n t e = sealed_below b sound.1 n t e

pub none_where : {A : Type 0} (o : Option A) → ((x : A) → o ≡ Some x → ⊥) → o ≡ None
none_where None h = refl
none_where (Some x) h = absurd (h x refl)

-- a serial number above all has no token yet
pub unsealed_above : (b : History) → Along Fits b → (n : ℕ) → greatest_serial b < n → token_of n b ≡ None
unsealed_above b sound n above = none_where (token_of n b)
    (λ t e. let low = sealed_below b sound n t e in omega arith)

-- a reservation that was just added is found, and isn't sealed
abbrev pub fits_seal : (r : ReservationValue) (b : History) → Along Fits b → greatest_serial b < r.serial
    → FitsSealed r.serial (Reserved r ∷ b)
fits_seal r b sound above = record {
  reservation = r;
  reserved = rw (eq-eqb r.serial r.serial refl);
  open_yet = unsealed_above b sound r.serial above;
}

-- a reservation stays
reservation_beside : (n : ℕ) (b : History) (x r : ReservationValue) (same : Bool) → (x.serial == n) ≡ same
    → FitsReserved x b
    → reservation_at n b ≡ Some r → cond same (Some x) (reservation_at n b) ≡ Some r
reservation_beside n b x r true same fits e =
    let number : x.serial ≡ n = eqb-true x.serial n same in
    let low = reserved_below n b r e in
    let high = fits.rises in
    absurd (omega arith)
reservation_beside n b x r false same fits e = e

pub reservation_stays : (e : Entry) (b : History) → Fits e b → (n : ℕ) (r : ReservationValue) → reservation_at n b
    ≡ Some r
    → reservation_at n (e ∷ b) ≡ Some r
reservation_stays (Reserved x) b fits n r e = reservation_beside n b x r (x.serial == n) refl fits e
reservation_stays (Sealed m x) b fits n r e = e
reservation_stays (Deposited d x) b fits n r e = e
reservation_stays (Calibrated c) b fits n r e = e
reservation_stays (Held h) b fits n r e = e
reservation_stays (Granted m a) b fits n r e = e
reservation_stays (Revoked m a) b fits n r e = e
reservation_stays (Installed i) b fits n r e = e

-- the identity of a serial number that is reserved stays
identity_beside : (n : ℕ) (b : History) (x r : ReservationValue) (same : Bool) → (x.serial == n) ≡ same
    → FitsReserved x b → reservation_at n b ≡ Some r
    → cond same (latest_identity b) (identity_at_reservation n b) ≡ identity_at_reservation n b
identity_beside n b x r true same fits e =
    let number : x.serial ≡ n = eqb-true x.serial n same in
    let low = reserved_below n b r e in
    let high = fits.rises in
    absurd (omega arith)
identity_beside n b x r false same fits e = refl

pub identity_stays : (e : Entry) (b : History) → Fits e b → (n : ℕ) (r : ReservationValue) → reservation_at n b
    ≡ Some r → identity_at_reservation n (e ∷ b) ≡ identity_at_reservation n b
identity_stays (Reserved x) b fits n r e = identity_beside n b x r (x.serial == n) refl fits e
identity_stays (Sealed m x) b fits n r e = refl
identity_stays (Deposited d x) b fits n r e = refl
identity_stays (Calibrated c) b fits n r e = refl
identity_stays (Held h) b fits n r e = refl
identity_stays (Granted m a) b fits n r e = refl
identity_stays (Revoked m a) b fits n r e = refl
identity_stays (Installed i) b fits n r e = refl

-- a token stays
token_beside : (m n : ℕ) (b : History) (x t : List ℕ) (same : Bool) → (m == n) ≡ same → FitsSealed m b
    → token_of n b ≡ Some t → cond same (Some x) (token_of n b) ≡ Some t
token_beside m n b x t true same fits e =
    let number : m ≡ n = eqb-true m n same in
    let nothing : token_of m b ≡ None = fits.open_yet in
    cc
token_beside m n b x t false same fits e = e

pub token_stays : (e : Entry) (b : History) → Fits e b → (n : ℕ) (t : List ℕ) → token_of n b ≡ Some t
    → token_of n (e ∷ b) ≡ Some t
token_stays (Reserved x) b fits n t e = e
token_stays (Sealed m x) b fits n t e = token_beside m n b x t (m == n) refl fits e
token_stays (Deposited d x) b fits n t e = token_beside d.serial n b x t (d.serial == n) refl fits.sealed e
token_stays (Calibrated c) b fits n t e = e
token_stays (Held h) b fits n t e = e
token_stays (Granted m a) b fits n t e = e
token_stays (Revoked m a) b fits n t e = e
token_stays (Installed i) b fits n t e = e

-- a deposit has its token
abbrev HasToken : ℕ → History → Type 0
HasToken n b = (token : List ℕ) × (token_of n b ≡ Some token)

has_token_here : (n : ℕ) (b : History) (x : List ℕ) (y d : DepositRow) (same : Bool)
    → (deposit_at n b ≡ Some d → HasToken n b) → cond same (Some y) (deposit_at n b) ≡ Some d
    → (t : List ℕ) × (cond same (Some x) (token_of n b) ≡ Some t)
has_token_here n b x y d true later e = (x, refl)
has_token_here n b x y d false later e = later e

has_token_beside : (n : ℕ) (b : History) (x : List ℕ) (same : Bool) → HasToken n b
    → (t : List ℕ) × (cond same (Some x) (token_of n b) ≡ Some t)
has_token_beside n b x true h = (x, refl)
has_token_beside n b x false h = h

pub deposit_sealed : (b : History) (n : ℕ) (d : DepositRow) → deposit_at n b ≡ Some d → HasToken n b
deposit_sealed [] n d e = cc
deposit_sealed (Reserved r ∷ b) n d e = deposit_sealed b n d e
deposit_sealed (Sealed m x ∷ b) n d e = has_token_beside n b x (m == n) (deposit_sealed b n d e)
deposit_sealed (Deposited y x ∷ b) n d e =
    has_token_here n b x y d (y.serial == n) (deposit_sealed b n d) e
deposit_sealed (Calibrated c ∷ b) n d e = deposit_sealed b n d e
deposit_sealed (Held h ∷ b) n d e = deposit_sealed b n d e
deposit_sealed (Granted m a ∷ b) n d e = deposit_sealed b n d e
deposit_sealed (Revoked m a ∷ b) n d e = deposit_sealed b n d e
deposit_sealed (Installed i ∷ b) n d e = deposit_sealed b n d e

-- a deposit stays
deposit_beside : (y : DepositRow) (n : ℕ) (b : History) (d : DepositRow) (same : Bool) → (y.serial == n) ≡ same
    → FitsSealed y.serial b
    → deposit_at n b ≡ Some d → cond same (Some y) (deposit_at n b) ≡ Some d
deposit_beside y n b d true same fits e =
    let number : y.serial ≡ n = eqb-true y.serial n same in
    let h = deposit_sealed b n d e in
    let sealed : token_of n b ≡ Some h.0 = h.1 in
    let nothing : token_of y.serial b ≡ None = fits.open_yet in
    cc
deposit_beside y n b d false same fits e = e

pub deposit_stays : (e : Entry) (b : History) → Fits e b → (n : ℕ) (d : DepositRow) → deposit_at n b ≡ Some d
    → deposit_at n (e ∷ b) ≡ Some d
deposit_stays (Reserved x) b fits n d e = e
deposit_stays (Sealed m x) b fits n d e = e
deposit_stays (Deposited y x) b fits n d e = deposit_beside y n b d (y.serial == n) refl fits.sealed e
deposit_stays (Calibrated c) b fits n d e = e
deposit_stays (Held h) b fits n d e = e
deposit_stays (Granted m a) b fits n d e = e
deposit_stays (Revoked m a) b fits n d e = e
deposit_stays (Installed i) b fits n d e = e

-- a deposit that is found by its owner and reference is found by its number
abbrev pub IsUnder : List ℕ → List ℕ → History → DepositRow → Type 0
IsUnder owner reference b d = (d.owner ≡ owner) × (d.reference ≡ reference) × (deposit_at d.serial b ≡ Some d)

pub both_true : (x y : Bool) → (x && y) ≡ true → (x ≡ true) × (y ≡ true)
both_true true true e = (refl, refl)
both_true true false e = cc
both_true false y e = cc

pub same_octets : (x y : List ℕ) → bytes_eq x y ≡ true → x ≡ y
same_octets x y e = (bytes_eq-Decides x y).0 e

under_here : (owner reference : List ℕ) (x : List ℕ) (y : DepositRow) (b : History) (d : DepositRow) (same : Bool)
    → (bytes_eq y.owner owner && bytes_eq y.reference reference) ≡ same → Fits (Deposited y x) b
    → (deposit_under owner reference b ≡ Some d → IsUnder owner reference b d)
    → cond same (Some y) (deposit_under owner reference b) ≡ Some d → IsUnder owner reference (Deposited y x ∷ b) d
under_here owner reference x y b d true same fits later e =
    let here : y ≡ d = cc in
    let both = both_true (bytes_eq y.owner owner) (bytes_eq y.reference reference) same in
    let o : y.owner ≡ owner = same_octets y.owner owner both.0 in
    let f : y.reference ≡ reference = same_octets y.reference reference both.1 in
    let p : d.owner ≡ owner = cc in
    let q : d.reference ≡ reference = cc in
    let number : d.serial ≡ y.serial = cc in
    (p, q, rw (eq-eqb y.serial d.serial (sym number)) e)
under_here owner reference x y b d false same fits later e =
    let u = later e in (u.0, u.1, deposit_stays (Deposited y x) b fits d.serial d u.2)

pub found_under : (b : History) → Along Fits b → (owner reference : List ℕ) (d : DepositRow)
    → deposit_under owner reference b ≡ Some d
    → IsUnder owner reference b d
found_under [] sound owner reference d e = cc
found_under (Reserved r ∷ b) sound owner reference d e = found_under b sound.1 owner reference d e
found_under (Sealed m x ∷ b) sound owner reference d e = found_under b sound.1 owner reference d e
found_under (Deposited y x ∷ b) sound owner reference d e =
    under_here owner reference x y b d (bytes_eq y.owner owner && bytes_eq y.reference reference) refl sound.0
    (found_under b sound.1 owner reference d) e
found_under (Calibrated c ∷ b) sound owner reference d e = found_under b sound.1 owner reference d e
found_under (Held h ∷ b) sound owner reference d e = found_under b sound.1 owner reference d e
found_under (Granted m a ∷ b) sound owner reference d e = found_under b sound.1 owner reference d e
found_under (Revoked m a ∷ b) sound owner reference d e = found_under b sound.1 owner reference d e
found_under (Installed i ∷ b) sound owner reference d e = found_under b sound.1 owner reference d e
