-- Which reader rows and tally rows stand in the tables of a history.
use Rattle.store.proofs.Words.{Account, Bool, Contains, Group, History, IsSound, List, ReaderRow, Reserved, TallyRow}
use Rattle.store.proofs.Words.{[], arith, cases_Bool, count_of_day, day_of, inl, inr, is_reader, is_reader_row}
use Rattle.store.proofs.Words.{is_tally_of, list_any, map, raised_row, refl, subst, sym, true, with_one_more, zero, ℕ}
use Rattle.store.proofs.Words.{◌<◌, ◌↔◌, ◌∙◌, ◌∷◌, ◌≡◌}
use Rattle.store.proofs.Members.{member_after, member_cases, member_here, no_member, some_pass}
use Rattle.store.proofs.Readers.{group_readers_are, key_passes, readers_are, row_is}
use Rattle.store.proofs.{Replayed.replayed_is, Tallies.tallies_count}
use Rattle.store.specs.{TablesOf.tables_of, auxiliary.Replay.replayed}
use Rattle.store.proofs.Tallies as tally

passing : {X : Type 0} (p : X → Bool) (xs : List X) → list_any p xs ≡ true
    → (x : X) × Contains xs x × (p x ≡ true)
passing p [] e = cc
passing p (x ∷ xs) e =
    elim (cases_Bool (p x)) [
      | inl t ↦ (x, member_here x xs, t)
      | inr f ↦ (let there : list_any p xs ≡ true = sym (rw f refl) ∙ e in
          let rest = passing p xs there in (rest.0, member_after x rest.0 xs rest.1, rest.2))
    ]

-- a row stands among rows of which one has its key where this says so
exactly : (rows : List ReaderRow) (row : ReaderRow) (reads : Bool)
    → list_any (is_reader_row row.serial row.name) rows ≡ reads → Contains rows row ↔ (reads ≡ true)
exactly rows row reads are = (
  λ m. sym are
      ∙ some_pass (is_reader_row row.serial row.name) rows row m
      (key_passes row.serial row.name row.serial row.name refl refl),
  λ yes.
      let found = passing (is_reader_row row.serial row.name) rows (are ∙ yes) in
      subst (λ (r : ReaderRow). Contains rows r) (row_is row.serial row.name found.0 found.2) found.1,
)

pub reader_rows : (b : History) → IsSound b → (row : ReaderRow)
    → Contains (tables_of b).readers row ↔ (is_reader row.serial (Account row.name) b ≡ true)
reader_rows b sound row =
    subst (λ t. Contains t.readers row ↔ (is_reader row.serial (Account row.name) b ≡ true)) (replayed_is b sound)
    (exactly (replayed b).readers row _ (readers_are b row.serial row.name))

pub group_reader_rows : (b : History) → IsSound b → (row : ReaderRow)
    → Contains (tables_of b).group_readers row ↔ (is_reader row.serial (Group row.name) b ≡ true)
group_reader_rows b sound row =
    subst (λ t. Contains t.group_readers row ↔ (is_reader row.serial (Group row.name) b ≡ true)) (replayed_is b sound)
    (exactly (replayed b).group_readers row _ (group_readers_are b row.serial row.name))

raised_positive : (a : List ℕ) (d : ℕ) (rows : List TallyRow)
    → ((row : TallyRow) → Contains rows row → 0 < row.count)
    → (row : TallyRow) → Contains (map (raised_row a d) rows) row → 0 < row.count
raised_positive a d [] each row m = absurd (no_member row m)
raised_positive a d (x ∷ rows) each row m =
    elim (member_cases (raised_row a d x) row (map (raised_row a d) rows) m) [
      | inl same ↦ (let before = each x (member_here x rows) in
          subst (λ (r : TallyRow). 0 < r.count) same (elim (cases_Bool (is_tally_of a d x)) [
            | inl t ↦ rw t (omega arith)
            | inr f ↦ rw f before
          ]))
      | inr m ↦ raised_positive a d rows (λ y n. each y (member_after x y rows n)) row m
    ]

more_positive : (a : List ℕ) (d : ℕ) (rows : List TallyRow)
    → ((row : TallyRow) → Contains rows row → 0 < row.count)
    → (row : TallyRow) → Contains (with_one_more a d rows) row → 0 < row.count
more_positive a d rows each row m =
    elim (cases_Bool (list_any (is_tally_of a d) rows)) [
      | inl there ↦ raised_positive a d rows each row (rw there at m)
      | inr absent ↦ (let m' : Contains (record { account = a; day = d; count = 1 } ∷ rows) row = rw absent at m in
          elim (member_cases (record { account = a; day = d; count = 1 }) row rows m') [
            | inl same ↦ subst (λ (r : TallyRow). 0 < r.count) same (omega arith)
            | inr n ↦ each row n
          ])
    ]

positive : (b : History) (row : TallyRow) → Contains (replayed b).tallies row → 0 < row.count
positive [] row m = absurd (no_member row m)
positive (Reserved r ∷ b) row m =
    more_positive r.account (day_of r.gen_time) (replayed b).tallies (positive b) row m
positive (_ ∷ b) row m = positive b row m

same_row : (x y : TallyRow) → x.account ≡ y.account → x.day ≡ y.day → x.count ≡ y.count → x ≡ y
same_row x y account day count =
    let same : x ≡ record { account = y.account; day = y.day; count = y.count } =
    rw (← account, ← day, ← count) refl in
    same

pub tally_rows : (b : History) → IsSound b → (row : TallyRow)
    → Contains (tables_of b).tallies row ↔ ((row.count ≡ count_of_day row.account row.day b) × (0 < row.count))
tally_rows b sound row =
    subst (λ t. Contains t.tallies row ↔ ((row.count ≡ count_of_day row.account row.day b) × (0 < row.count)))
    (replayed_is b sound) (
      λ m. ((tallies_count b).each row m, positive b row m),
      λ counted. elim (cases_Bool (list_any (is_tally_of row.account row.day) (replayed b).tallies)) [
        | inl there ↦
            (let found = passing (is_tally_of row.account row.day) (replayed b).tallies there in
            let key = tally.key_is row.account row.day found.0.account found.0.day found.2 in
            let count : found.0.count ≡ row.count =
            (tallies_count b).each found.0 found.1 ∙ rw (key.0, key.1) (sym counted.0) in
            let same = same_row found.0 row key.0 key.1 count in
            subst (λ (r : TallyRow). Contains (replayed b).tallies r) same found.1)
        | inr absent ↦
            (let zero = (tallies_count b).none row.account row.day absent in
            absurd (omega (arith, counted.0, counted.1, zero)))
      ],
    )
