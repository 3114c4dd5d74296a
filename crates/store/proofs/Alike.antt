-- Equal tables, up to the order of their rows, come from histories with equal views.
use Rattle.store.proofs.Words.{Account, AllByRecursion, Bool, CalibrationRow, Contains, Contains-permutation}
use Rattle.store.proofs.Words.{DepositRow, Group, History, HoldRow, InstalledRow, IsPermutation, IsPermutation-sym}
use Rattle.store.proofs.Words.{IsSound, List, None, Option, Reader, ReservationValue, Some, StampRow, Viewer, [], ap}
use Rattle.store.proofs.Words.{arith, calibration_row, calibrations, cases_Bool, cons_option, deposit_at, deposit_under}
use Rattle.store.proofs.Words.{deposits, false, filter_map, find, first_of, greatest_of, greatest_serial, hold_row}
use Rattle.store.proofs.Words.{holds, inl, inr, installed_rows, is_deposit, is_deposit_of, is_reader, is_reader_row}
use Rattle.store.proofs.Words.{is_stamp, le-max_left, le-max_right, list_any, listed, listed_at, map, max, may_read}
use Rattle.store.proofs.Words.{option_map, range_with_len, readers_as, refl, reservations, reverse, seen_by, stamp_at}
use Rattle.store.proofs.Words.{stamp_of, stamps, subst₂, sym, token_of, ℕ, ◌<◌, ◌∙◌, ◌∷◌, ◌≡◌, ◌≤◌}
use Rattle.store.proofs.DepositRows.{deposits_are, find_stamp, single_number, single_reference}
use Rattle.store.proofs.Members.{IsFalling, IsSingle, all_of, fails_each, find_none, find_single, found_member}
use Rattle.store.proofs.Members.{member_after, member_cases, member_here, no_member, none_pass, some_pass}
use Rattle.store.proofs.Numbered.{calibrations_are, holds_are, numbers_fall, unnumbered}
use Rattle.store.proofs.Readers.{group_readers_are, readers_are}
use Rattle.store.proofs.{FallingSerials.stamps_fall, Installed.identities_are, Installed.rows_fall, Stamps.stamps_are}
use Rattle.store.specs.{Alike.AreAlike, Alike.HaveSameRows, TablesOf.numbered, auxiliary.Replay.replayed}

-- the members of each are those of the other
abbrev Within : {X : Type 0} → List X → List X → Type 0
Within {X} xs ys = (x : X) → Contains xs x → Contains ys x

within : {X : Type 0} (xs ys : List X) → IsPermutation xs ys → Within xs ys
within xs ys p x m = Contains-permutation xs ys x p m

back : {X : Type 0} (xs ys : List X) → IsPermutation xs ys → Within ys xs
back xs ys p x m = Contains-permutation ys xs x (IsPermutation-sym xs ys p) m

-- lists whose keys fall are the same where their members are
falling_heads : {X : Type 0} (key : X → ℕ) (x y : X) (xs ys : List X) → IsFalling key (x ∷ xs) → IsFalling key (y ∷ ys)
    → Within (x ∷ xs) (y ∷ ys) → Within (y ∷ ys) (x ∷ xs) → x ≡ y
falling_heads key x y xs ys f h w v =
    elim (member_cases y x ys (w x (member_here x xs))) [
      | inl same ↦ sym same
      | inr m ↦ elim (member_cases x y xs (v y (member_here y ys))) [
        | inl same ↦ same
        | inr k ↦ absurd (let l = all_of (λ z. key z < key y) ys x h.0 m in
            let r = all_of (λ z. key z < key x) xs y f.0 k in omega (arith, l, r))
      ]
    ]

falling_tails : {X : Type 0} (key : X → ℕ) (x y : X) (xs ys : List X) → x ≡ y → AllByRecursion (λ z. key z < key x) xs
    → Within (x ∷ xs) (y ∷ ys) → Within xs ys
falling_tails key x y xs ys same below w z m =
    elim (member_cases y z ys (w z (member_after x z xs m))) [
      | inl is ↦ absurd (let l = all_of (λ v. key v < key x) xs z below m in let e = ap key same in let f = ap key is in
          omega (arith, l, e, f))
      | inr k ↦ k
    ]

falling_same : {X : Type 0} (key : X → ℕ) (xs ys : List X) → IsFalling key xs → IsFalling key ys → Within xs ys
    → Within ys xs → xs ≡ ys
falling_same key [] [] f h w v = refl
falling_same key [] (y ∷ ys) f h w v = absurd (no_member y (v y (member_here y ys)))
falling_same key (x ∷ xs) [] f h w v = absurd (no_member x (w x (member_here x xs)))
falling_same key (x ∷ xs) (y ∷ ys) f h w v =
    let same : x ≡ y = falling_heads key x y xs ys f h w v in
    let rest : xs ≡ ys =
    falling_same key xs ys f.1 h.1 (falling_tails key x y xs ys same f.0 w)
    (falling_tails key y x ys xs (sym same) h.0 v) in
    ap (λ z. z ∷ xs) same ∙ ap (λ zs. y ∷ zs) rest

permuted_same : {X : Type 0} (key : X → ℕ) (xs ys : List X) → IsFalling key xs → IsFalling key ys → IsPermutation xs ys
    → xs ≡ ys
permuted_same key xs ys f h p = falling_same key xs ys f h (within xs ys p) (back xs ys p)

-- a test is passed in both or in neither
any_same : {X : Type 0} (p : X → Bool) (xs ys : List X) → IsPermutation xs ys → list_any p xs ≡ list_any p ys
any_same p xs ys perm =
    elim (cases_Bool (list_any p ys)) [
      | inl some ↦ elim (cases_Bool (list_any p xs)) [
        | inl there ↦ there ∙ sym some
        | inr none ↦ absurd (let e : list_any p ys
            ≡ false = none_pass p ys (λ y m. fails_each p xs y none (back xs ys perm y m)) in cc)
      ]
      | inr none ↦ none_pass p xs (λ x m. fails_each p ys x none (within xs ys perm x m)) ∙ sym none
    ]

-- a search for what is there once finds the same
find_same : {X : Type 0} (p : X → Bool) (xs ys : List X) → IsSingle p ys → IsPermutation xs ys → find p xs ≡ find p ys
find_same {X} p xs ys single perm = go (find p xs) refl where
  go : (found : Option X) → find p xs ≡ found → find p xs ≡ find p ys
  go None e =
      let none : list_any p ys ≡ false = none_pass p ys (λ y m. elim (cases_Bool (p y)) [
        | inl t ↦ absurd (let some = some_pass p xs y (back xs ys perm y m) t in let e' = any_of_find p xs e in cc)
        | inr f ↦ f
      ]) in e ∙ sym (find_none p ys none)
    where
      any_of_find : (p : X → Bool) (xs : List X) → find p xs ≡ None → list_any p xs ≡ false
      any_of_find p [] e = refl
      any_of_find p (x ∷ xs) e = elim (cases_Bool (p x)) [
        | inl t ↦ absurd (let some : Some x ≡ None = sym (rw t refl) ∙ e in cc)
        | inr f ↦ rw f (any_of_find p xs (sym (rw f refl) ∙ e))
      ]
  go (Some x) e = let there = found_member p xs x e in
      e ∙ sym (find_single p ys x single (within xs ys perm x there.0) there.1)

-- a reservation without its token and day
unsealed : StampRow → ReservationValue
unsealed s = record {
  serial = s.serial;
  account = s.account;
  gen_time = s.gen_time;
  policy = s.policy;
  algorithm = s.algorithm;
  digest = s.digest;
  request = s.request;
  tst = s.tst;
}

reserved_of : (b : History) (rs : List ReservationValue) → map unsealed (map (λ r. stamp_of (token_of r.serial b) r) rs)
    ≡ rs
unfolding unsealed
reserved_of b [] = refl
reserved_of b (r ∷ rs) = ap (λ zs. r ∷ zs) (reserved_of b rs)

numbered_same : {X Y : Type 0} (row : X → ℕ → Y) (key : Y → ℕ) (from : Y → X) → ((x : X) (n : ℕ) → key (row x n) ≡ n)
    → ((x : X) (n : ℕ) → from (row x n) ≡ x)
    → (xs ys : List X) → IsPermutation (numbered row xs) (numbered row ys) → xs ≡ ys
numbered_same row key from keyed is xs ys p =
    let rows = permuted_same key (numbered row xs) (numbered row ys) (numbers_fall row key keyed xs)
    (numbers_fall row key keyed ys) p in
    sym (unnumbered row from is xs) ∙ ap (map from) rows ∙ unnumbered row from is ys

filter_map_same : {X Y : Type 0} (f h : X → Option Y) → ((x : X) → f x ≡ h x) → (xs : List X)
    → filter_map f xs ≡ filter_map h xs
filter_map_same f h same [] = refl
filter_map_same {X} {Y} f h same (x ∷ xs) =
    ap (λ (o : Option Y). cons_option o (filter_map f xs)) (same x)
    ∙ ap (cons_option (h x)) (filter_map_same f h same xs)

module _ (b d : History) (sound : IsSound b) (other : IsSound d) (rows : HaveSameRows (replayed b) (replayed d)) where
  stamps_same : stamps b ≡ stamps d
  stamps_same =
      permuted_same (λ s. s.serial) (stamps b) (stamps d) (stamps_fall b sound) (stamps_fall d other)
      (subst₂ (λ (xs ys : List StampRow). IsPermutation xs ys) (stamps_are b sound) (stamps_are d other) rows.stamps)

  reservations_same : reservations b ≡ reservations d
  reservations_same = sym (reserved_of b (reservations b)) ∙ ap (map unsealed) stamps_same
      ∙ reserved_of d (reservations d)

  calibrations_same : calibrations b ≡ calibrations d
  calibrations_same =
      numbered_same calibration_row (λ row. row.n)
      (λ row. record { reading = row.reading; offset = row.offset; uncertainty = row.uncertainty }) (λ x n. refl)
      (λ x n. refl)
      (calibrations b) (calibrations d)
      (subst₂ (λ (xs ys : List CalibrationRow). IsPermutation xs ys) (calibrations_are b) (calibrations_are d)
      rows.calibrations)

  holds_same : holds b ≡ holds d
  holds_same =
      numbered_same hold_row (λ row. row.n) (λ row. record { from = row.from; to = row.to }) (λ x n. refl) (λ x n. refl)
      (holds b) (holds d)
      (subst₂ (λ (xs ys : List HoldRow). IsPermutation xs ys) (holds_are b) (holds_are d) rows.holds)

  identities_same : installed_rows b ≡ installed_rows d
  identities_same =
      permuted_same (λ row. row.number) (installed_rows b) (installed_rows d) (rows_fall b) (rows_fall d)
      (subst₂ (λ (xs ys : List InstalledRow). IsPermutation xs ys) (identities_are b sound) (identities_are d other)
      rows.identities)

  deposits_permuted : IsPermutation (deposits b) (deposits d)
  deposits_permuted = subst₂ (λ (xs ys : List DepositRow). IsPermutation xs ys) (deposits_are b) (deposits_are d)
      rows.deposits

  stamp_same : (n : ℕ) → stamp_at n b ≡ stamp_at n d
  stamp_same n = sym (find_stamp b n (reservations b)) ∙ ap (find (is_stamp n)) stamps_same
      ∙ find_stamp d n (reservations d)

  deposit_same : (n : ℕ) → deposit_at n b ≡ deposit_at n d
  deposit_same n = find_same (is_deposit n) (deposits b) (deposits d) (single_number d n other) deposits_permuted

  under_same : (owner reference : List ℕ) → deposit_under owner reference b ≡ deposit_under owner reference d
  under_same owner reference =
      find_same (is_deposit_of owner reference) (deposits b) (deposits d) (single_reference d owner reference other)
      deposits_permuted

  reader_same : (n : ℕ) (reader : Reader) → is_reader n reader b ≡ is_reader n reader d
  reader_same n (Account a) =
      sym (readers_are b n a) ∙ any_same (is_reader_row n a) _ _ rows.readers ∙ readers_are d n a
  reader_same n (Group a) =
      sym (group_readers_are b n a) ∙ any_same (is_reader_row n a) _ _ rows.group_readers ∙ group_readers_are d n a

  any_reads_same : (n : ℕ) (readers : List Reader)
      → list_any (λ reader. is_reader n reader b) readers ≡ list_any (λ reader. is_reader n reader d) readers
  any_reads_same n [] = refl
  any_reads_same n (reader ∷ readers) = rw (reader_same n reader, any_reads_same n readers) refl

  reads_same : (viewer : Viewer) (n : ℕ) → may_read viewer n b ≡ may_read viewer n d
  reads_same viewer n = any_reads_same n (readers_as viewer)

  seen_same : (viewer : Viewer) (n : ℕ) → seen_by viewer n b ≡ seen_by viewer n d
  seen_same viewer n = rw (deposit_same n, reads_same viewer n) refl

  listed_at_same : (viewer : Viewer) (n : ℕ) → listed_at viewer b n ≡ listed_at viewer d n
  listed_at_same viewer n = rw (seen_same viewer n, reservations_same) refl

  listed_same : (viewer : Viewer) → listed viewer b ≡ listed viewer d
  listed_same viewer =
      ap (λ rs. filter_map (listed_at viewer b) (range_with_len 1 (greatest_of rs))) reservations_same
      ∙ filter_map_same (listed_at viewer b) (listed_at viewer d) (listed_at_same viewer)
      (range_with_len 1 (greatest_serial d))

  pub alike : AreAlike b d
  alike = record {
    greatest = ap greatest_of reservations_same;
    last = ap (λ rs. option_map (λ (r : ReservationValue). r.gen_time) (first_of rs)) reservations_same;
    counts = λ account day. rw reservations_same refl;
    calibration = ap first_of calibrations_same;
    held = λ now. rw holds_same refl;
    stamp = stamp_same;
    between = λ from to. rw stamps_same refl;
    deposit = deposit_same;
    under = under_same;
    stamped = λ n. rw (deposit_same n, stamp_same n) refl;
    reader = reader_same;
    seen = seen_same;
    list = listed_same;
    identities = ap reverse identities_same;
  }

-- the greatest serial number
pub not_above : (rs : List ReservationValue) (r : ReservationValue) → Contains rs r → r.serial ≤ greatest_of rs
not_above [] r m = absurd (no_member r m)
not_above (x ∷ rs) r m =
    let left : x.serial ≤ max x.serial (greatest_of rs) = le-max_left _ _ in
    let right : greatest_of rs ≤ max x.serial (greatest_of rs) = le-max_right _ _ in
    elim (member_cases x r rs m) [
      | inl same ↦ (let e : x.serial ≡ r.serial = ap (λ (v : ReservationValue). v.serial) same in
          omega (arith, left, e))
      | inr k ↦ (let rest = not_above rs r k in omega (arith, right, rest))
    ]
