-- Calibrations and holds are numbered in the order of their entries, so the greatest number is the newest's.
use Rattle.store.proofs.Words.{AllByRecursion, Bool, Calibrated, CalibrationRow, CalibrationValue, Held, History}
use Rattle.store.proofs.Words.{HoldRow, HoldValue, IsGreatestAs, List, None, NumberedCalibration, Option}
use Rattle.store.proofs.Words.{ShowsCalibration, ShowsNumber, Some, [], ap, arith, calibration_row, calibrations}
use Rattle.store.proofs.Words.{first_of, greatest_by, hold_row, holds, holds_at, is_held, latest_calibration, length}
use Rattle.store.proofs.Words.{list_any, map, max, max-eq_left, next_by, option_map, refl, subst, suc, sym, ℕ, ℤ, ◌+◌}
use Rattle.store.proofs.Words.{◌<◌, ◌||◌, ◌∙◌, ◌∷◌, ◌≡◌}
use Rattle.store.proofs.Members.{IsFalling, IsFirstAs, greatest_is_first}
use Rattle.store.specs.auxiliary.Steps.{calibration_from, count_of}
use Rattle.store.specs.{TablesOf.numbered, auxiliary.Replay.replayed}

pub max_more : (n : ℕ) → max (n + 1) n ≡ suc n
max_more n = let one : n + 1 ≡ suc n = omega arith in max-eq_left (omega arith) ∙ one

numbers_below : {X Y : Type 0} (row : X → ℕ → Y) (key : Y → ℕ) → ((x : X) (n : ℕ) → key (row x n) ≡ n)
    → (xs : List X) (n : ℕ) → length xs < n
    → AllByRecursion (λ y. key y < n) (numbered row xs)
numbers_below row key is [] n l = tt
numbers_below row key is (x ∷ xs) n l =
    let here = is x (length xs + 1) in
    (omega (arith, here, l), numbers_below row key is xs n (omega (arith, l)))

pub numbers_fall : {X Y : Type 0} (row : X → ℕ → Y) (key : Y → ℕ) → ((x : X) (n : ℕ) → key (row x n) ≡ n)
    → (xs : List X) → IsFalling key (numbered row xs)
numbers_fall row key is [] = tt
numbers_fall {X} {Y} row key is (x ∷ xs) =
    let P : ℕ → Type 0 = λ n. AllByRecursion (λ y. key y < n) (numbered row xs) in (
      subst P (sym (is x (length xs + 1))) (numbers_below row key is xs (length xs + 1) (omega arith)),
      numbers_fall row key is xs,
    )

-- so the greatest of the numbers is how many there are
greatest_numbered : {X Y : Type 0} (row : X → ℕ → Y) (key : Y → ℕ) → ((x : X) (n : ℕ) → key (row x n) ≡ n)
    → (xs : List X) → greatest_by key (numbered row xs) ≡ length xs
greatest_numbered row key is [] = refl
greatest_numbered row key is (x ∷ xs) =
    ap (λ n. max n (greatest_by key (numbered row xs))) (is x (length xs + 1))
    ∙ ap (max (length xs + 1)) (greatest_numbered row key is xs) ∙ max_more (length xs)

next_numbered : {X Y : Type 0} (row : X → ℕ → Y) (key : Y → ℕ) → ((x : X) (n : ℕ) → key (row x n) ≡ n) → (xs : List X)
    (rows : List Y) → rows ≡ numbered row xs → next_by key rows ≡ length xs + 1
next_numbered row key is xs rows same =
    ap (λ (rows : _). greatest_by key rows + 1) same ∙ ap (λ n. n + 1) (greatest_numbered row key is xs)

-- what the rows say besides their numbers
pub unnumbered : {X Y : Type 0} (row : X → ℕ → Y) (from : Y → X) → ((x : X) (n : ℕ) → from (row x n) ≡ x) → (xs : List X)
    → map from (numbered row xs) ≡ xs
unnumbered row from is [] = refl
unnumbered row from is (x ∷ xs) =
    ap (λ z. z ∷ map from (numbered row xs)) (is x _) ∙ ap (λ zs. x ∷ zs) (unnumbered row from is xs)

pub calibrations_are : (b : History) → (replayed b).calibrations ≡ numbered calibration_row (calibrations b)
calibrations_are [] = refl
calibrations_are (Calibrated c ∷ b) =
    let rest = calibrations_are b in
    ap (λ n. calibration_row c n ∷ (replayed b).calibrations)
    (next_numbered calibration_row (λ (row : CalibrationRow). row.n) (λ x n. refl) (calibrations b) _ rest)
    ∙ ap (λ rows. calibration_row c (length (calibrations b) + 1) ∷ rows) rest
calibrations_are (_ ∷ b) = calibrations_are b

pub holds_are : (b : History) → (replayed b).holds ≡ numbered hold_row (holds b)
holds_are [] = refl
holds_are (Held h ∷ b) =
    let rest = holds_are b in
    ap (λ n. hold_row h n ∷ (replayed b).holds)
    (next_numbered hold_row (λ (row : HoldRow). row.n) (λ x n. refl) (holds b) _ rest)
    ∙ ap (λ rows. hold_row h (length (holds b) + 1) ∷ rows) rest
holds_are (_ ∷ b) = holds_are b

calibration_of_first : (cs : List CalibrationValue) (answer : Option NumberedCalibration)
    → IsFirstAs ShowsCalibration (numbered calibration_row cs) answer
    → (option_map calibration_from answer ≡ first_of cs) × (count_of (option_map (λ c. c.n) answer) ≡ length cs)
calibration_of_first [] None first = (refl, refl)
calibration_of_first [] (Some c) (row, is, shows) = cc
calibration_of_first (x ∷ cs) None first = cc
calibration_of_first (x ∷ cs) (Some c) (row, is, shows) =
    let row_is : calibration_row x (length cs + 1) ≡ row = cc in
    let n : length cs + 1 ≡ row.n = ap (λ (v : CalibrationRow). v.n) row_is in
    let reading : x.reading ≡ row.reading = ap (λ (v : CalibrationRow). v.reading) row_is in
    let offset : x.offset ≡ row.offset = ap (λ (v : CalibrationRow). v.offset) row_is in
    let uncertainty : x.uncertainty ≡ row.uncertainty = ap (λ (v : CalibrationRow). v.uncertainty) row_is in
    (rw (shows.1, shows.2, shows.3, ← reading, ← offset, ← uncertainty) refl, omega (arith, shows.0, n))

-- the latest calibration, and how many there are
pub calibration_view_of : (b : History) (answer : Option NumberedCalibration)
    → IsGreatestAs ShowsCalibration (λ row. row.n) (replayed b).calibrations answer
    → (option_map calibration_from answer ≡ latest_calibration b)
    × (count_of (option_map (λ c. c.n) answer) ≡ length (calibrations b))
calibration_view_of b answer found =
    let P : List CalibrationRow → Type 0 = λ rows. IsGreatestAs ShowsCalibration (λ row. row.n) rows answer in
    let here : IsGreatestAs ShowsCalibration (λ row. row.n) (numbered calibration_row (calibrations b)) answer =
    subst P (calibrations_are b) found in
    let fall = numbers_fall calibration_row (λ row. row.n) (λ x n. refl) (calibrations b) in
    calibration_of_first (calibrations b) answer
    (greatest_is_first ShowsCalibration (λ row. row.n) _ answer fall here)

hold_of_first : (hs : List HoldValue) (answer : Option ℕ) → IsFirstAs ShowsNumber (numbered hold_row hs) answer
    → count_of answer ≡ length hs
hold_of_first [] None first = refl
hold_of_first [] (Some n) (row, is, shows) = cc
hold_of_first (x ∷ hs) None first = cc
hold_of_first (x ∷ hs) (Some m) (row, is, shows) =
    let row_is : hold_row x (length hs + 1) ≡ row = cc in
    let n : length hs + 1 ≡ row.n = ap (λ (v : HoldRow). v.n) row_is in omega (arith, shows, n)

-- how many holds there are
pub hold_count : (b : History) (answer : Option ℕ) → IsGreatestAs ShowsNumber (λ row. row.n) (replayed b).holds answer
    → count_of answer ≡ length (holds b)
hold_count b answer found =
    let P : List HoldRow → Type 0 = λ rows. IsGreatestAs ShowsNumber (λ row. row.n) rows answer in
    let here : IsGreatestAs ShowsNumber (λ row. row.n) (numbered hold_row (holds b)) answer =
    subst P (holds_are b) found in
    let fall = numbers_fall hold_row (λ row. row.n) (λ x n. refl) (holds b) in
    hold_of_first (holds b) answer (greatest_is_first ShowsNumber (λ row. row.n) _ answer fall here)

-- the moment is held by the rows as by the entries
held_by_rows : (now : ℤ) (hs : List HoldValue)
    → list_any (holds_at now) (numbered hold_row hs) ≡ list_any (λ h. holds_at now (hold_row h 0)) hs
held_by_rows now [] = refl
held_by_rows now (h ∷ hs) = ap (λ (v : Bool). holds_at now (hold_row h 0) || v) (held_by_rows now hs)

pub held_view : (b : History) (now : ℤ) → list_any (holds_at now) (replayed b).holds ≡ is_held now b
held_view b now = ap (list_any (holds_at now)) (holds_are b) ∙ held_by_rows now (holds b)
