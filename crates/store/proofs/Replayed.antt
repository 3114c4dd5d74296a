-- The tables after each entry in turn are those of the history.
use Rattle.store.proofs.Words.{Account, Bool, Granted, Group, History, IsSound, List, Reader, ReaderRow}
use Rattle.store.proofs.Words.{ReservationValue, Reserved, Revoked, TallyRow, [], ap, arith, bytes_eq, cases_Bool, cond}
use Rattle.store.proofs.Words.{count_of_day, day_of, false, filter, filter_map, inl, inr, is_of_day, is_reader}
use Rattle.store.proofs.Words.{is_reader_row, is_tally_of, list_any, map, not, or_parts, raised_row, reader_after_grant}
use Rattle.store.proofs.Words.{reader_after_revocation, refl, reservations, subst, sum_by-cons, sym, true, zero, ℕ}
use Rattle.store.proofs.Words.{◌&&◌, ◌+◌, ◌==◌, ◌||◌, ◌∙◌, ◌∷◌, ◌≡◌}
use Rattle.store.proofs.Numbered.{calibrations_are, holds_are}
use Rattle.store.proofs.Readers.{key_is, key_passes, other_kind}
use Rattle.store.proofs.{DepositRows.deposits_are, Installed.identities_are, Stamps.stamps_are, Tallies.tallies_count}
use Rattle.store.specs.TablesOf.{firsts, granted_in, group_granted_in, group_readers_of, once, readers_of, tables_of}
use Rattle.store.specs.{TablesOf.tally_of, auxiliary.Replay.replayed}
use Rattle.store.proofs.Tallies as tally

-- ---- readers

-- of what passes one test, those that pass another, or the other way round where it says the same
filter_swap : {X : Type 0} (p p' q : X → Bool) → ((x : X) → q x ≡ true → p' x ≡ p x) → (xs : List X)
    → filter q (filter p xs) ≡ filter p' (filter q xs)
filter_swap p p' q same [] = refl
filter_swap p p' q same (x ∷ xs) =
    let rest = filter_swap p p' q same xs in
    elim (cases_Bool (q x)) [
      | inl kept ↦ elim (cases_Bool (p x)) [
        | inl passes ↦ rw (passes, kept, same x kept, passes) (ap (λ l. x ∷ l) rest)
        | inr fails ↦ rw (fails, kept, same x kept, fails) rest
      ]
      | inr dropped ↦ elim (cases_Bool (p x)) [
        | inl passes ↦ rw (passes, dropped) rest
        | inr fails ↦ rw (fails, dropped) rest
      ]
    ]

-- both tests as one
filter_both : {X : Type 0} (p p' q : X → Bool) → ((x : X) → p' x ≡ (q x && p x)) → (xs : List X)
    → filter q (filter p xs) ≡ filter p' xs
filter_both p p' q same [] = refl
filter_both p p' q same (x ∷ xs) =
    let rest = filter_both p p' q same xs in
    let here = same x in
    elim (cases_Bool (q x)) [
      | inl kept ↦ elim (cases_Bool (p x)) [
        | inl passes ↦ (let both : p' x ≡ true = here ∙ rw (kept, passes) refl in
            rw (passes, kept, both) (ap (λ l. x ∷ l) rest))
        | inr fails ↦ (let both : p' x ≡ false = here ∙ rw (kept, fails) refl in rw (fails, both) rest)
      ]
      | inr dropped ↦ (let both : p' x ≡ false = here ∙ rw dropped refl in
          elim (cases_Bool (p x)) [
            | inl passes ↦ rw (passes, dropped, both) rest
            | inr fails ↦ rw (fails, both) rest
          ])
    ]

-- the test of a right and that of its row are one
same_right : (m : ℕ) (x : List ℕ) (row : ReaderRow)
    → ((m == row.serial) && bytes_eq x row.name) ≡ is_reader_row m x row
same_right m x row =
    elim (cases_Bool (is_reader_row m x row)) [
      | inl t ↦ (let k = key_is m x row.serial row.name t in
          key_passes row.serial row.name m x (sym k.0) (sym k.1) ∙ sym t)
      | inr f ↦ elim (cases_Bool ((m == row.serial) && bytes_eq x row.name)) [
        | inl t ↦ (let k = key_is row.serial row.name m x t in
            let there = key_passes m x row.serial row.name (sym k.0) (sym k.1) in cc)
        | inr g ↦ g ∙ sym f
      ]
    ]

abbrev reads : (List ℕ → Reader) → History → ReaderRow → Bool
reads whom b row = is_reader row.serial (whom row.name) b

unturned : (v : Bool) → not v ≡ true → v ≡ false
unturned true e = cc
unturned false e = refl

-- one reader more, among rows of which some stand
given_row : (m : ℕ) (x : List ℕ) (before after : ReaderRow → Bool) (rows : List ReaderRow)
    → ((row : ReaderRow) → after row ≡ cond (is_reader_row m x row) true (before row))
    → (let row : ReaderRow = record { serial = m; name = x } in row)
    ∷ filter (λ other. not (is_reader_row m x other)) (filter before rows)
    ≡ filter after ((let row : ReaderRow = record { serial = m; name = x } in row)
    ∷ filter (λ other. not (is_reader_row m x other)) rows)
given_row m x before after rows same =
    let row : ReaderRow = record { serial = m; name = x } in
    let others : ReaderRow → Bool = λ other. not (is_reader_row m x other) in
    let here : after row ≡ true = same row ∙ rw (key_passes m x m x refl refl) refl in
    let rest : filter others (filter before rows) ≡ filter after (filter others rows) =
    filter_swap before after others
    (λ other kept. same other ∙ rw (unturned (is_reader_row m x other) kept) refl) rows in
    rw here (ap (λ rows. row ∷ rows) rest)

-- and one less
taken_row : (m : ℕ) (x : List ℕ) (before after : ReaderRow → Bool) (rows : List ReaderRow)
    → ((row : ReaderRow) → after row ≡ cond (is_reader_row m x row) false (before row))
    → filter (λ other. not (is_reader_row m x other)) (filter before rows) ≡ filter after rows
taken_row m x before after rows same =
    filter_both before after (λ other. not (is_reader_row m x other))
    (λ other. same other ∙ elim (cases_Bool (is_reader_row m x other)) [
      | inl t ↦ rw t refl
      | inr f ↦ rw f refl
    ]) rows

-- tests that say the same
filter_same : {X : Type 0} (p q : X → Bool) → ((x : X) → p x ≡ q x) → (xs : List X) → filter p xs ≡ filter q xs
filter_same p q same [] = refl
filter_same {X} p q same (x ∷ xs) =
    ap (λ (v : Bool). cond v (x ∷ filter p xs) (filter p xs)) (same x)
    ∙ ap (λ (rest : List X). cond (q x) (x ∷ rest) rest) (filter_same p q same xs)

readers_replayed : (b : History) → (replayed b).readers ≡ readers_of b
readers_replayed [] = refl
readers_replayed (Granted m (Account x) ∷ b) =
    let entry = Granted m (Account x) in
    ap (λ rows. record { serial = m; name = x } ∷ filter (λ other. not (is_reader_row m x other)) rows)
    (readers_replayed b)
    ∙ given_row m x (reads Account b) (reads Account (entry ∷ b)) (once (filter_map granted_in b))
    (λ row. reader_after_grant row.serial (Account row.name) m (Account x) b
    ∙ ap (λ v. cond v true (reads Account b row)) (same_right m x row))
readers_replayed (Granted m (Group x) ∷ b) =
    let entry = Granted m (Group x) in
    readers_replayed b
    ∙ filter_same (reads Account b) (reads Account (entry ∷ b))
    (λ row. sym (reader_after_grant row.serial (Account row.name) m (Group x) b
    ∙ other_kind m row.serial true (reads Account b row))) (once (filter_map granted_in b))
readers_replayed (Revoked m (Account x) ∷ b) =
    let entry = Revoked m (Account x) in
    ap (filter (λ other. not (is_reader_row m x other))) (readers_replayed b)
    ∙ taken_row m x (reads Account b) (reads Account (entry ∷ b)) (once (filter_map granted_in b))
    (λ row. reader_after_revocation row.serial (Account row.name) m (Account x) b
    ∙ ap (λ v. cond v false (reads Account b row)) (same_right m x row))
readers_replayed (Revoked m (Group x) ∷ b) =
    let entry = Revoked m (Group x) in
    readers_replayed b
    ∙ filter_same (reads Account b) (reads Account (entry ∷ b))
    (λ row. sym (reader_after_revocation row.serial (Account row.name) m (Group x) b
    ∙ other_kind m row.serial false (reads Account b row))) (once (filter_map granted_in b))
readers_replayed (_ ∷ b) = readers_replayed b

group_readers_replayed : (b : History) → (replayed b).group_readers ≡ group_readers_of b
group_readers_replayed [] = refl
group_readers_replayed (Granted m (Group x) ∷ b) =
    let entry = Granted m (Group x) in
    ap (λ rows. record { serial = m; name = x } ∷ filter (λ other. not (is_reader_row m x other)) rows)
    (group_readers_replayed b)
    ∙ given_row m x (reads Group b) (reads Group (entry ∷ b)) (once (filter_map group_granted_in b))
    (λ row. reader_after_grant row.serial (Group row.name) m (Group x) b
    ∙ ap (λ v. cond v true (reads Group b row)) (same_right m x row))
group_readers_replayed (Granted m (Account x) ∷ b) =
    let entry = Granted m (Account x) in
    group_readers_replayed b
    ∙ filter_same (reads Group b) (reads Group (entry ∷ b))
    (λ row. sym (reader_after_grant row.serial (Group row.name) m (Account x) b
    ∙ other_kind m row.serial true (reads Group b row))) (once (filter_map group_granted_in b))
group_readers_replayed (Revoked m (Group x) ∷ b) =
    let entry = Revoked m (Group x) in
    ap (filter (λ other. not (is_reader_row m x other))) (group_readers_replayed b)
    ∙ taken_row m x (reads Group b) (reads Group (entry ∷ b)) (once (filter_map group_granted_in b))
    (λ row. reader_after_revocation row.serial (Group row.name) m (Group x) b
    ∙ ap (λ v. cond v false (reads Group b row)) (same_right m x row))
group_readers_replayed (Revoked m (Account x) ∷ b) =
    let entry = Revoked m (Account x) in
    group_readers_replayed b
    ∙ filter_same (reads Group b) (reads Group (entry ∷ b))
    (λ row. sym (reader_after_revocation row.serial (Group row.name) m (Account x) b
    ∙ other_kind m row.serial false (reads Group b row))) (once (filter_map group_granted_in b))
group_readers_replayed (_ ∷ b) = group_readers_replayed b

-- ---- tallies

mapped_twice : {X Y : Type 0} (f : Y → Y) (g h : X → Y) → ((x : X) → f (g x) ≡ h x) → (xs : List X)
    → map f (map g xs) ≡ map h xs
mapped_twice f g h same [] = refl
mapped_twice f g h same (x ∷ xs) =
    ap (λ y. y ∷ map f (map g xs)) (same x) ∙ ap (λ ys. h x ∷ ys) (mapped_twice f g h same xs)

any_mapped : {X Y : Type 0} (p : Y → Bool) (g : X → Y) (xs : List X) → list_any p (map g xs)
    ≡ list_any (λ x. p (g x)) xs
any_mapped p g [] = refl
any_mapped p g (x ∷ xs) = ap (λ (v : Bool). p (g x) || v) (any_mapped p g xs)

none_raised : (a : List ℕ) (d : ℕ) (rows : List TallyRow) → list_any (is_tally_of a d) rows ≡ false
    → map (raised_row a d) rows ≡ rows
none_raised a d [] none = refl
none_raised a d (row ∷ rows) none =
    let parts = or_parts (is_tally_of a d row) (list_any (is_tally_of a d) rows) none in
    rw parts.0 (ap (λ l. row ∷ l) (none_raised a d rows parts.1))

-- an account and a day have a first reservation where they have any
firsts_any : (a : List ℕ) (d : ℕ) (rs : List ReservationValue)
    → list_any (is_of_day a d) (firsts rs) ≡ list_any (is_of_day a d) rs
firsts_any a d [] = refl
firsts_any a d (r ∷ rs) =
    elim (cases_Bool (list_any (is_of_day r.account (day_of r.gen_time)) rs)) [
      | inl before ↦ rw before (firsts_any a d rs ∙ elim (cases_Bool (is_of_day a d r)) [
        | inl t ↦ (let k = tally.key_is a d r.account (day_of r.gen_time) t in
            let there : list_any (is_of_day a d) rs ≡ true =
            subst (λ day. list_any (is_of_day a day) rs ≡ true) k.1
            (subst (λ account. list_any (is_of_day account (day_of r.gen_time)) rs ≡ true) k.0 before) in
            rw (t, there) refl)
        | inr f ↦ rw f refl
      ])
      | inr first ↦ rw first (ap (λ (v : Bool). is_of_day a d r || v) (firsts_any a d rs))
    ]

-- one more reservation raises the rows of its account and day
row_raised : (r : ReservationValue) (b : History) (x : ReservationValue)
    → raised_row r.account (day_of r.gen_time) (tally_of b x) ≡ tally_of (Reserved r ∷ b) x
row_raised r b x =
    let more = sum_by-cons (λ y. cond (is_of_day x.account (day_of x.gen_time) y) 1 0) r (reservations b) in
    let swap = tally.key_swap r.account (day_of r.gen_time) x.account (day_of x.gen_time) in
    elim (cases_Bool (is_tally_of r.account (day_of r.gen_time) (tally_of b x))) [
      | inl t ↦ (let other : is_of_day x.account (day_of x.gen_time) r ≡ true = sym swap ∙ t in
          let count : count_of_day x.account (day_of x.gen_time) (Reserved r ∷ b)
          ≡ count_of_day x.account (day_of x.gen_time) b + 1 =
          more ∙ rw other (omega arith) in
          rw (t, count) refl)
      | inr f ↦ (let other : is_of_day x.account (day_of x.gen_time) r ≡ false = sym swap ∙ f in
          let count : count_of_day x.account (day_of x.gen_time) (Reserved r ∷ b)
          ≡ count_of_day x.account (day_of x.gen_time) b =
          more ∙ rw other (omega arith) in
          rw (f, count) refl)
    ]

tallies_replayed : (b : History) → (replayed b).tallies ≡ map (tally_of b) (firsts (reservations b))
tallies_replayed [] = refl
tallies_replayed (Reserved r ∷ b) =
    let a = r.account in
    let d = day_of r.gen_time in
    let rows = tallies_replayed b in
    let known : list_any (is_tally_of a d) (replayed b).tallies ≡ list_any (is_of_day a d) (reservations b) =
    ap (list_any (is_tally_of a d)) rows ∙ any_mapped (is_tally_of a d) (tally_of b) (firsts (reservations b))
    ∙ firsts_any a d (reservations b) in
    let raised : map (raised_row a d) (replayed b).tallies
    ≡ map (tally_of (Reserved r ∷ b)) (firsts (reservations b)) =
    ap (map (raised_row a d)) rows
    ∙ mapped_twice (raised_row a d) (tally_of b) (tally_of (Reserved r ∷ b)) (row_raised r b)
    (firsts (reservations b)) in
    elim (cases_Bool (list_any (is_of_day a d) (reservations b))) [
      | inl before ↦ rw (known ∙ before, before) raised
      | inr first ↦
          (let absent = known ∙ first in
          let zero : count_of_day a d b ≡ 0 = (tallies_count b).none a d absent in
          let own : is_of_day a d r ≡ true = tally.key_passes a d a d refl refl in
          let one : count_of_day a d (Reserved r ∷ b) ≡ 1 =
          sum_by-cons (λ y. cond (is_of_day a d y) 1 0) r (reservations b) ∙ rw own (omega (arith, zero)) in
          rw (absent, first) (rw one (ap (λ l. record { account = a; day = d; count = 1 } ∷ l)
          (sym (none_raised a d (replayed b).tallies absent) ∙ raised))))
    ]
tallies_replayed (_ ∷ b) = tallies_replayed b

-- ---- all

pub replayed_is : (b : History) → IsSound b → replayed b ≡ tables_of b
replayed_is b sound =
    let whole : replayed b ≡ record {
      stamps = (replayed b).stamps;
      calibrations = (replayed b).calibrations;
      holds = (replayed b).holds;
      deposits = (replayed b).deposits;
      readers = (replayed b).readers;
      tallies = (replayed b).tallies;
      group_readers = (replayed b).group_readers;
      identities = (replayed b).identities;
    } = refl in
    whole ∙ rw (
      stamps_are b sound,
      calibrations_are b,
      holds_are b,
      deposits_are b,
      readers_replayed b,
      tallies_replayed b,
      group_readers_replayed b,
      identities_are b sound,
    ) refl
