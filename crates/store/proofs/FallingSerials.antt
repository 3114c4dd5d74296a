-- Serial numbers fall along a history, newest entry first: look-ups of stamps in the tables are the history's.
use Rattle.book.specs.Rows.{StampRow}
use Rattle.store.proofs.Words.{AllByRecursion, History, IsGreatestAs, IsSound, List, None, Option, ReservationValue}
use Rattle.store.proofs.Words.{Reserved, ShowsLast, Some, [], ap, arith, first_of, greatest_of, last_of, le-max_left}
use Rattle.store.proofs.Words.{le-max_right, map, max, option_map, refl, reservations, stamp_of, stamps, subst}
use Rattle.store.proofs.Members.{IsFalling, IsFirstAs, falling_map, greatest_is_first}
use Rattle.store.proofs.{Words.token_of, Words.ℕ, Words.◌<◌, Words.◌∷◌, Words.◌≡◌, Words.◌≤◌, Stamps.stamps_are}
use Rattle.tables.specs.declared.rows.LastStamp.{LastStamp}
use Rattle.store.specs.{auxiliary.Replay.replayed, auxiliary.Steps.last_from}

-- none has a serial number above the greatest
pub none_above : (rs : List ReservationValue) (n : ℕ) → greatest_of rs < n → AllByRecursion (λ r. r.serial < n) rs
none_above [] n l = tt
none_above (r ∷ rs) n l =
    let left : r.serial ≤ max r.serial (greatest_of rs) = le-max_left _ _ in
    let right : greatest_of rs ≤ max r.serial (greatest_of rs) = le-max_right _ _ in
    (omega (arith, left, l), none_above rs n (omega (arith, right, l)))

pub reservations_fall : (b : History) → IsSound b → IsFalling (λ r. r.serial) (reservations b)
reservations_fall [] s = tt
reservations_fall (Reserved r ∷ b) s = (none_above (reservations b) r.serial s.0.rises, reservations_fall b s.1)
reservations_fall (_ ∷ b) s = reservations_fall b s.1

pub stamps_fall : (b : History) → IsSound b → IsFalling (λ s. s.serial) (stamps b)
stamps_fall b s = falling_map (λ s. s.serial) (λ r. stamp_of (token_of r.serial b) r) (reservations b)
    (reservations_fall b s)

-- the newest has the greatest serial number
greatest_below : (rs : List ReservationValue) (n : ℕ) → AllByRecursion (λ r. r.serial < n) rs → greatest_of rs ≤ n
greatest_below [] n all = omega arith
greatest_below (r ∷ rs) n all = let rest = greatest_below rs n all.1 in omega (arith, all.0, rest)

pub newest_greatest : (rs : List ReservationValue) (r : ReservationValue) → IsFalling (λ r. r.serial) rs
    → first_of rs ≡ Some r → greatest_of rs ≡ r.serial
newest_greatest [] r fall e = cc
newest_greatest (x ∷ rs) r fall e =
    let rest = greatest_below rs x.serial fall.0 in
    let same : x ≡ r = cc in
    let serial : x.serial ≡ r.serial = ap (λ (v : ReservationValue). v.serial) same in omega (arith, rest, serial)

last_of_first : (b : History) (rs : List ReservationValue) (answer : Option LastStamp) → IsFalling (λ r. r.serial) rs
    → IsFirstAs ShowsLast (map (λ r. stamp_of (token_of r.serial b) r) rs) answer
    → last_from answer ≡ record { serial = greatest_of rs; gen_time = option_map (λ r. r.gen_time) (first_of rs) }
last_of_first b [] None fall first = refl
last_of_first b [] (Some last) fall (row, is, shows) = cc
last_of_first b (r ∷ rs) None fall first = cc
last_of_first b (r ∷ rs) (Some last) fall (row, is, shows) =
    let greatest : greatest_of (r ∷ rs) ≡ r.serial = newest_greatest (r ∷ rs) r fall refl in
    let row_is : stamp_of (token_of r.serial b) r ≡ row = cc in
    let serial : r.serial ≡ row.serial = ap (λ (v : StampRow). v.serial) row_is in
    let gen_time : r.gen_time ≡ row.gen_time = ap (λ (v : StampRow). v.gen_time) row_is in
    rw greatest (rw shows (rw serial (rw gen_time refl)))

pub last_view : (b : History) (answer : Option LastStamp) → IsSound b
    → IsGreatestAs ShowsLast (λ row. row.serial) (replayed b).stamps answer
    → last_from answer ≡ last_of b
last_view b answer s found =
    let P : List StampRow → Type 0 = λ rows. IsGreatestAs ShowsLast (λ row. row.serial) rows answer in
    let here : IsGreatestAs ShowsLast (λ row. row.serial) (stamps b) answer = subst P (stamps_are b s) found in
    last_of_first b (reservations b) answer (reservations_fall b s)
    (greatest_is_first ShowsLast (λ row. row.serial) (stamps b) answer (stamps_fall b s) here)
