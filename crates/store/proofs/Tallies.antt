-- The tallies count the reservations of an account on a day.
use Rattle.store.proofs.Words.{Bool, Contains, History, IsFoundAs, IsSound, List, None, Option, Reserved, ShowsCount}
use Rattle.store.proofs.Words.{Some, TallyRow, [], and_parts, ap, arith, bytes_eq, bytes_eq-Decides, cases_Bool, cond}
use Rattle.store.proofs.Words.{count_of_day, day_of, eq-eqb, eqb-true, false, greatest_number, inl, inr, is_of_day}
use Rattle.store.proofs.Words.{is_tally_of, leb_tells, list_any, map, min, or_parts, raised_row, refl, reservations}
use Rattle.store.proofs.Words.{subst, sum_by-cons, sym, true, unwrap_or, with_one_more, ℕ, ◌&&◌, ◌+◌, ◌/◌, ◌==◌, ◌||◌}
use Rattle.store.proofs.Words.{◌∙◌, ◌∷◌, ◌≡◌, ◌≤◌}
use Rattle.store.proofs.Members.{fails_each, member_after, member_cases, member_here, none_pass}
use Rattle.store.specs.auxiliary.Replay.{replayed}

-- a test of a key is passed by that key alone
pub key_is : (a : List ℕ) (d : ℕ) (x : List ℕ) (n : ℕ) → (bytes_eq x a && (n == d)) ≡ true → (x ≡ a) × (n ≡ d)
key_is a d x n e =
    let parts = and_parts (bytes_eq x a) (n == d) e in
    ((bytes_eq-Decides x a).0 parts.0, eqb-true n d parts.1)

pub key_passes : (a : List ℕ) (d : ℕ) (x : List ℕ) (n : ℕ) → x ≡ a → n ≡ d → (bytes_eq x a && (n == d)) ≡ true
key_passes a d x n e f = rw ((bytes_eq-Decides x a).1 e) (eq-eqb n d f)

-- each row's count is the history's, and a key without a row was never counted
pub record AreCounted (count : List ℕ → ℕ → ℕ) (rows : List TallyRow) : Type 0 where
  pub each : (row : TallyRow) → Contains rows row → row.count ≡ count row.account row.day
  pub none : (account : List ℕ) (day : ℕ) → list_any (is_tally_of account day) rows ≡ false → count account day ≡ 0

abbrev one_more : List ℕ → ℕ → (List ℕ → ℕ → ℕ) → List ℕ → ℕ → ℕ
one_more a d count account day = cond (bytes_eq a account && (d == day)) 1 0 + count account day

raised_member : (a : List ℕ) (d : ℕ) (rows : List TallyRow) (row : TallyRow) → Contains (map (raised_row a d) rows) row
    → (old : TallyRow) × Contains rows old × (row ≡ raised_row a d old)
raised_member a d [] row m = absurd (no row m) where
  no : (row : TallyRow) → Contains [] row → ⊥
  no row (k, below, is) = absurd (omega arith)
raised_member a d (x ∷ rows) row m =
    elim (member_cases (raised_row a d x) row (map (raised_row a d) rows) m) [
      | inl same ↦ (x, member_here x rows, sym same)
      | inr m ↦ (let rest = raised_member a d rows row m in (rest.0, member_after x rest.0 rows rest.1, rest.2))
    ]

raised_key : (a : List ℕ) (d : ℕ) (row : TallyRow)
    → ((raised_row a d row).account ≡ row.account) × ((raised_row a d row).day ≡ row.day)
raised_key a d row =
    elim (cases_Bool (is_tally_of a d row)) [ inl t ↦ rw t (refl, refl) | inr f ↦ rw f (refl, refl) ]

raised_count : (a : List ℕ) (d : ℕ) (row : TallyRow)
    → (raised_row a d row).count ≡ cond (is_tally_of a d row) 1 0 + row.count
raised_count a d row =
    elim (cases_Bool (is_tally_of a d row)) [ inl t ↦ rw t (omega arith) | inr f ↦ rw f (omega arith) ]

-- tests of keys are symmetric
pub key_swap : (a : List ℕ) (d : ℕ) (x : List ℕ) (n : ℕ) → (bytes_eq x a && (n == d)) ≡ (bytes_eq a x && (d == n))
key_swap a d x n =
    elim (cases_Bool (bytes_eq x a && (n == d))) [
      | inl t ↦ (let k = key_is a d x n t in t ∙ sym (key_passes x n a d (sym k.0) (sym k.1)))
      | inr f ↦ elim (cases_Bool (bytes_eq a x && (d == n))) [
        | inl t ↦ (let k = key_is x n a d t in let back = key_passes a d x n (sym k.0) (sym k.1) in cc)
        | inr g ↦ f ∙ sym g
      ]
    ]

raised_any : (a : List ℕ) (d : ℕ) (account : List ℕ) (day : ℕ) (rows : List TallyRow)
    → list_any (is_tally_of account day) (map (raised_row a d) rows) ≡ list_any (is_tally_of account day) rows
raised_any a d account day [] = refl
raised_any a d account day (row ∷ rows) =
    let k = raised_key a d row in
    rw (k.0, k.1) (ap (λ (v : Bool). is_tally_of account day row || v) (raised_any a d account day rows))

counted_more : (a : List ℕ) (d : ℕ) (count : List ℕ → ℕ → ℕ) (rows : List TallyRow) → AreCounted count rows
    → AreCounted (one_more a d count) (with_one_more a d rows)
counted_more a d count rows counted =
    elim (cases_Bool (list_any (is_tally_of a d) rows)) [
      | inl there ↦ rw there (record {
        each = λ row m. each_there row m;
        none = λ account day e. none_there there account day e;
      })
      | inr absent ↦ rw absent (record {
        each = λ row m. each_absent absent row m;
        none = λ account day e. none_absent account day e;
      })
    ] where
      each_there : (row : TallyRow) → Contains (map (raised_row a d) rows) row
          → row.count ≡ one_more a d count row.account row.day
      each_there row m =
          let old = raised_member a d rows row m in
          let k = raised_key a d old.0 in
          let raised = raised_count a d old.0 in
          let before = counted.each old.0 old.1 in
          let swapped = key_swap a d old.0.account old.0.day in
          rw old.2 (rw (k.0, k.1) (raised ∙ rw (before, swapped) refl))

      none_there : list_any (is_tally_of a d) rows ≡ true → (account : List ℕ) (day : ℕ)
          → list_any (is_tally_of account day) (map (raised_row a d) rows) ≡ false
          → one_more a d count account day ≡ 0
      none_there there account day e =
          let before : list_any (is_tally_of account day) rows ≡ false = sym (raised_any a d account day rows) ∙ e in
          elim (cases_Bool (bytes_eq a account && (d == day))) [
            | inl t ↦ (let k = key_is account day a d t in
                let same : list_any (is_tally_of a d) rows ≡ list_any (is_tally_of account day) rows =
                rw (k.0, k.1) refl in cc)
            | inr f ↦ rw (f, counted.none account day before) refl
          ]

      each_absent : list_any (is_tally_of a d) rows ≡ false → (row : TallyRow)
          → Contains (record { account = a; day = d; count = 1 } ∷ rows) row
          → row.count ≡ one_more a d count row.account row.day
      each_absent absent row m =
          elim (member_cases (record { account = a; day = d; count = 1 }) row rows m) [
            | inl same ↦ (let P : TallyRow → Type 0 = λ r. r.count ≡ one_more a d count r.account r.day in
                subst P same (rw (key_passes a d a d refl refl, counted.none a d absent) refl))
            | inr m ↦ (let fails : is_tally_of a d row ≡ false = fails_each (is_tally_of a d) rows row absent m in
                let swapped = key_swap a d row.account row.day in
                let other : (bytes_eq a row.account && (d == row.day)) ≡ false = sym swapped ∙ fails in
                rw other (counted.each row m ∙ omega arith))
          ]

      none_absent : (account : List ℕ) (day : ℕ)
          → list_any (is_tally_of account day) (record { account = a; day = d; count = 1 } ∷ rows) ≡ false
          → one_more a d count account day ≡ 0
      none_absent account day e =
          let parts = or_parts (bytes_eq a account && (d == day)) (list_any (is_tally_of account day) rows) e in
          rw (parts.0, counted.none account day parts.1) refl

counted_same : (count other : List ℕ → ℕ → ℕ) (rows : List TallyRow) → ((a : List ℕ) (d : ℕ) → count a d ≡ other a d)
    → AreCounted count rows
    → AreCounted other rows
counted_same count other rows same counted = record {
  each = λ row m. counted.each row m ∙ same row.account row.day;
  none = λ account day e. sym (same account day) ∙ counted.none account day e;
}

pub tallies_count : (b : History) → AreCounted (λ a d. count_of_day a d b) (replayed b).tallies
tallies_count [] = record { each = λ row m. absurd (no row m); none = λ account day e. refl } where
  no : (row : TallyRow) → Contains [] row → ⊥
  no row (k, below, is) = absurd (omega arith)
tallies_count (Reserved r ∷ b) =
    counted_same (one_more r.account (day_of r.gen_time) (λ a d. count_of_day a d b))
    (λ a d. count_of_day a d (Reserved r ∷ b)) _
    (λ a d. sym (sum_by-cons (λ x. cond (is_of_day a d x) 1 0) r (reservations b)))
    (counted_more r.account (day_of r.gen_time) (λ a d. count_of_day a d b) (replayed b).tallies (tallies_count b))
tallies_count (_ ∷ b) = tallies_count b

pub count_view : (b : History) (account : List ℕ) (day : ℕ) (answer : Option ℕ)
    → IsFoundAs ShowsCount (is_tally_of account day) (replayed b).tallies answer
    → unwrap_or answer 0 ≡ count_of_day account day b
count_view b account day None found =
    sym ((tallies_count b).none account day (none_pass (is_tally_of account day) (replayed b).tallies found))
count_view b account day (Some count) (row, m, passes, shows) =
    let k = key_is account day row.account row.day passes in
    shows ∙ (tallies_count b).each row m ∙ rw (k.0, k.1) refl

-- no reservation is of so late a day
none_late : (b : History) (account : List ℕ) (day : ℕ) → IsSound b → greatest_number ≤ day
    → count_of_day account day b ≡ 0
none_late [] account day sound late = refl
none_late (Reserved r ∷ b) account day sound late =
    elim (cases_Bool (is_of_day account day r)) [
      | inl t ↦ (let k = key_is account day r.account (day_of r.gen_time) t in
          let moment = sound.0.moment in
          let day_is : r.gen_time / 86_400_000_000 ≡ day = k.1 in
          absurd (omega (arith, day_is, moment, late)))
      | inr f ↦ sum_by-cons (λ x. cond (is_of_day account day x) 1 0) r (reservations b)
          ∙ rw (f, none_late b account day sound.1 late) refl
    ]
none_late (_ ∷ b) account day sound late = none_late b account day sound.1 late

-- so the last day that a column can have may be asked for in the place of any later one
pub asked_day : (b : History) (account : List ℕ) (day asked : ℕ) → IsSound b → asked ≡ min day greatest_number
    → count_of_day account asked b ≡ count_of_day account day b
asked_day b account day asked sound is =
    elim (leb_tells day greatest_number) [
      | inl early ↦ (let same : asked ≡ day = omega (arith, is, early.1) in rw same refl)
      | inr late ↦ none_late b account asked sound (omega (arith, is, late.1))
          ∙ sym (none_late b account day sound (omega (arith, late.1)))
    ]
