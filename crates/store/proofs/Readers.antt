-- The reader rows of the tables are the current readers, each once.
use Rattle.std.proofs.lemmas.Map.Views.{any-filter_same}
use Rattle.store.proofs.Words.{Account, AllByRecursion, Bool, Granted, Group, History, Holds, IsPermutation}
use Rattle.store.proofs.Words.{IsPermutation-append_comm, IsPermutation-append_left, IsPermutation-cons}
use Rattle.store.proofs.Words.{IsPermutation-map, IsPermutation-refl, IsPermutation-trans, List, Name, Reader}
use Rattle.store.proofs.Words.{ReaderRow, Revoked, StandsFor, State, Tables, Trees, [], and_parts, ap, bytes_eq}
use Rattle.store.proofs.Words.{bytes_eq-Decides, cases_Bool, cells_of, cond, eq-eqb, eqb-true, false, filter, inl, inr}
use Rattle.store.proofs.Words.{is_reader, is_reader_row, list_any, name_of, not, or_parts, reader_after_grant}
use Rattle.store.proofs.Words.{reader_after_revocation, refl, rights_of, rows_of, subst, sym, the_version, true, ℕ}
use Rattle.store.proofs.Words.{◌&&◌, ◌<◌, ◌==◌, ◌^◌, ◌∙◌, ◌∷◌, ◌≡◌}
use Rattle.store.specs.auxiliary.Replay.{replayed}

-- a test of a key is passed by that key alone
pub key_is : (n : ℕ) (a : List ℕ) (m : ℕ) (x : List ℕ) → ((m == n) && bytes_eq x a) ≡ true → (m ≡ n) × (x ≡ a)
key_is n a m x e =
    let parts = and_parts (m == n) (bytes_eq x a) e in
    (eqb-true m n parts.0, (bytes_eq-Decides x a).0 parts.1)

pub key_passes : (n : ℕ) (a : List ℕ) (m : ℕ) (x : List ℕ) → m ≡ n → x ≡ a → ((m == n) && bytes_eq x a) ≡ true
key_passes n a m x e f = rw (eq-eqb m n e, (bytes_eq-Decides x a).1 f) refl

pub row_is : (n : ℕ) (a : List ℕ) (row : ReaderRow) → is_reader_row n a row ≡ true
    → row ≡ record { serial = n; name = a }
row_is n a row e = let k = key_is n a row.serial row.name e in rw (k.0, k.1) refl

-- whether rows have a key, after the rows of one were taken
taken_same : (n : ℕ) (a : List ℕ) (m : ℕ) (x : List ℕ) (rows : List ReaderRow) → ((m == n) && bytes_eq x a) ≡ true
    → list_any (is_reader_row n a) (filter (λ row. not (is_reader_row m x row)) rows) ≡ false
taken_same n a m x rows e =
    any-filter_same (is_reader_row n a) (λ row. not (is_reader_row m x row)) false
    (λ row passes.
    (let k = key_is n a row.serial row.name passes in
    let l = key_is n a m x e in
    let there : is_reader_row m x row ≡ true = key_passes m x row.serial row.name (k.0 ∙ sym l.0) (k.1 ∙ sym l.1) in
    rw there refl)) rows

taken_other : (n : ℕ) (a : List ℕ) (m : ℕ) (x : List ℕ) (rows : List ReaderRow) → ((m == n) && bytes_eq x a) ≡ false
    → list_any (is_reader_row n a) (filter (λ row. not (is_reader_row m x row)) rows)
    ≡ list_any (is_reader_row n a) rows
taken_other n a m x rows e =
    any-filter_same (is_reader_row n a) (λ row. not (is_reader_row m x row)) true
    (λ row passes.
    (let k = key_is n a row.serial row.name passes in
    elim (cases_Bool (is_reader_row m x row)) [
      | inl t ↦ (let l = key_is m x row.serial row.name t in
          let same : ((m == n) && bytes_eq x a) ≡ true = key_passes n a m x (sym l.0 ∙ k.0) (sym l.1 ∙ k.1) in cc)
      | inr f ↦ rw f refl
    ])) rows

-- rows of one reader more, and of one less
given_rows : (m n : ℕ) (x a : List ℕ) (rows : List ReaderRow) (v : Bool) → list_any (is_reader_row n a) rows ≡ v
    → list_any (is_reader_row n a)
    (record { serial = m; name = x } ∷ filter (λ row. not (is_reader_row m x row)) rows)
    ≡ cond ((m == n) && bytes_eq x a) true v
given_rows m n x a rows v are =
    elim (cases_Bool ((m == n) && bytes_eq x a)) [
      | inl t ↦ rw t refl
      | inr f ↦ rw f (taken_other n a m x rows f ∙ are)
    ]

taken_rows : (m n : ℕ) (x a : List ℕ) (rows : List ReaderRow) (v : Bool) → list_any (is_reader_row n a) rows ≡ v
    → list_any (is_reader_row n a) (filter (λ row. not (is_reader_row m x row)) rows)
    ≡ cond ((m == n) && bytes_eq x a) false v
taken_rows m n x a rows v are =
    elim (cases_Bool ((m == n) && bytes_eq x a)) [
      | inl t ↦ rw t (taken_same n a m x rows t)
      | inr f ↦ rw f (taken_other n a m x rows f ∙ are)
    ]

and_false : (v : Bool) → (v && false) ≡ false
and_false true = refl
and_false false = refl

-- a right of another kind says nothing
pub other_kind : (m n : ℕ) (w v : Bool) → cond ((m == n) && false) w v ≡ v
other_kind m n w v = rw (and_false (m == n)) refl

-- a row is there where the right is
pub readers_are : (b : History) (n : ℕ) (a : List ℕ)
    → list_any (is_reader_row n a) (replayed b).readers ≡ is_reader n (Account a) b
readers_are [] n a = refl
readers_are (Granted m (Account x) ∷ b) n a =
    given_rows m n x a (replayed b).readers (is_reader n (Account a) b) (readers_are b n a)
    ∙ sym (reader_after_grant n (Account a) m (Account x) b)
readers_are (Granted m (Group x) ∷ b) n a =
    readers_are b n a ∙ sym (other_kind m n true (is_reader n (Account a) b))
    ∙ sym (reader_after_grant n (Account a) m (Group x) b)
readers_are (Revoked m (Account x) ∷ b) n a =
    taken_rows m n x a (replayed b).readers (is_reader n (Account a) b) (readers_are b n a)
    ∙ sym (reader_after_revocation n (Account a) m (Account x) b)
readers_are (Revoked m (Group x) ∷ b) n a =
    readers_are b n a ∙ sym (other_kind m n false (is_reader n (Account a) b))
    ∙ sym (reader_after_revocation n (Account a) m (Group x) b)
readers_are (_ ∷ b) n a = readers_are b n a

pub group_readers_are : (b : History) (n : ℕ) (a : List ℕ)
    → list_any (is_reader_row n a) (replayed b).group_readers ≡ is_reader n (Group a) b
group_readers_are [] n a = refl
group_readers_are (Granted m (Group x) ∷ b) n a =
    given_rows m n x a (replayed b).group_readers (is_reader n (Group a) b) (group_readers_are b n a)
    ∙ sym (reader_after_grant n (Group a) m (Group x) b)
group_readers_are (Granted m (Account x) ∷ b) n a =
    group_readers_are b n a ∙ sym (other_kind m n true (is_reader n (Group a) b))
    ∙ sym (reader_after_grant n (Group a) m (Account x) b)
group_readers_are (Revoked m (Group x) ∷ b) n a =
    taken_rows m n x a (replayed b).group_readers (is_reader n (Group a) b) (group_readers_are b n a)
    ∙ sym (reader_after_revocation n (Group a) m (Group x) b)
group_readers_are (Revoked m (Account x) ∷ b) n a =
    group_readers_are b n a ∙ sym (other_kind m n false (is_reader n (Group a) b))
    ∙ sym (reader_after_revocation n (Group a) m (Account x) b)
group_readers_are (_ ∷ b) n a = group_readers_are b n a

pub rights_are : (reader : Reader) (b : History) (n : ℕ)
    → list_any (is_reader_row n (name_of reader)) (rights_of reader (replayed b)) ≡ is_reader n reader b
rights_are (Account name) b n = readers_are b n name
rights_are (Group name) b n = group_readers_are b n name

-- no key stands twice
abbrev pub AreOnce : List ReaderRow → Type 0
AreOnce [] = Unit {0}
AreOnce (row ∷ rows) = (list_any (is_reader_row row.serial row.name) rows ≡ false) × AreOnce rows

none_left : (p q : ReaderRow → Bool) (rows : List ReaderRow) → list_any p rows ≡ false
    → list_any p (filter q rows) ≡ false
none_left p q [] e = refl
none_left p q (row ∷ rows) e =
    let parts = or_parts (p row) (list_any p rows) e in
    elim (cases_Bool (q row)) [
      | inl t ↦ rw (t, parts.0) (none_left p q rows parts.1)
      | inr f ↦ rw f (none_left p q rows parts.1)
    ]

left_once : (q : ReaderRow → Bool) (rows : List ReaderRow) → AreOnce rows → AreOnce (filter q rows)
left_once q [] once = tt
left_once q (row ∷ rows) once =
    elim (cases_Bool (q row)) [
      | inl t ↦ rw t (none_left (is_reader_row row.serial row.name) q rows once.0, left_once q rows once.1)
      | inr f ↦ rw f (left_once q rows once.1)
    ]

given_once : (m : ℕ) (x : List ℕ) (rows : List ReaderRow) → AreOnce rows
    → AreOnce (record { serial = m; name = x } ∷ filter (λ row. not (is_reader_row m x row)) rows)
given_once m x rows once =
    let none = taken_same m x m x rows (key_passes m x m x refl refl) in
    (none, left_once (λ row. not (is_reader_row m x row)) rows once)

pub readers_once : (b : History) → AreOnce (replayed b).readers
readers_once [] = tt
readers_once (Granted m (Account x) ∷ b) = given_once m x (replayed b).readers (readers_once b)
readers_once (Granted m (Group x) ∷ b) = readers_once b
readers_once (Revoked m (Account x) ∷ b) =
    left_once (λ row. not (is_reader_row m x row)) (replayed b).readers (readers_once b)
readers_once (Revoked m (Group x) ∷ b) = readers_once b
readers_once (_ ∷ b) = readers_once b

pub group_readers_once : (b : History) → AreOnce (replayed b).group_readers
group_readers_once [] = tt
group_readers_once (Granted m (Group x) ∷ b) = given_once m x (replayed b).group_readers (group_readers_once b)
group_readers_once (Granted m (Account x) ∷ b) = group_readers_once b
group_readers_once (Revoked m (Group x) ∷ b) =
    left_once (λ row. not (is_reader_row m x row)) (replayed b).group_readers (group_readers_once b)
group_readers_once (Revoked m (Account x) ∷ b) = group_readers_once b
group_readers_once (_ ∷ b) = group_readers_once b

-- taking what isn't there takes nothing
none_taken : (p : ReaderRow → Bool) (rows : List ReaderRow) → list_any p rows ≡ false
    → filter (λ row. not (p row)) rows ≡ rows
none_taken p [] e = refl
none_taken p (row ∷ rows) e =
    let parts = or_parts (p row) (list_any p rows) e in rw parts.0 (ap (λ l. row ∷ l) (none_taken p rows parts.1))

swapped : {X : Type 0} (x y : X) (xs : List X) → IsPermutation (x ∷ y ∷ xs) (y ∷ x ∷ xs)
swapped x y xs = IsPermutation-append_left xs (x ∷ y ∷ []) (y ∷ x ∷ []) (IsPermutation-append_comm (x ∷ []) (y ∷ []))

-- taking a row and adding it again leaves the rows, up to their order
pub put_again : (n : ℕ) (a : List ℕ) (rows : List ReaderRow) → AreOnce rows → list_any (is_reader_row n a) rows ≡ true
    → IsPermutation (record { serial = n; name = a } ∷ filter (λ row. not (is_reader_row n a row)) rows) rows
put_again n a [] once e = cc
put_again n a (row ∷ rows) once e =
    elim (cases_Bool (is_reader_row n a row)) [
      | inl t ↦ (let is = row_is n a row t in
          let P : ReaderRow → Type 0 = λ r. list_any (is_reader_row r.serial r.name) rows ≡ false in
          let none : list_any (is_reader_row n a) rows ≡ false = subst P is once.0 in
          let same : (record { serial = n; name = a } ∷ filter (λ row. not (is_reader_row n a row)) (row ∷ rows))
          ≡ row ∷ rows =
          rw (t, is) (ap (λ (l : List ReaderRow). record {
            serial = n;
            name = a;
          } ∷ l) (none_taken (is_reader_row n a) rows none)) in
          subst (λ l. IsPermutation l (row ∷ rows)) (sym same) (IsPermutation-refl (row ∷ rows)))
      | inr f ↦ (let there : list_any (is_reader_row n a) rows ≡ true = sym (rw f refl) ∙ e in
          let rest = put_again n a rows once.1 there in
          rw f (IsPermutation-trans _ _ _ (swapped _ row _) (IsPermutation-cons row _ _ rest)))
    ]

-- a database that holds the rows holds them in another order too
reordered : (t others : Tables) (db : Trees)
    → ((n : Name) → IsPermutation (rows_of the_version n t) (rows_of the_version n others)) → others.tallies ≡ t.tallies
    → Holds others db → Holds t db
reordered t others db same tallies h = record {
  rows = λ n since. record {
    shaped = (h.rows n since).shaped;
    same = IsPermutation-trans _ _ _ (IsPermutation-map (cells_of n) _ _ (same n)) (h.rows n since).same;
  };
  counts = subst (AllByRecursion (λ row. row.count < 2 ^ 63)) tallies h.counts;
}

pub stands_reordered : (t others : Tables) (s : State)
    → ((n : Name) → IsPermutation (rows_of the_version n t) (rows_of the_version n others)) → others.tallies ≡ t.tallies
    → StandsFor others s → StandsFor t s
stands_reordered t others s same tallies stands = record {
  database = record {
    schema = stands.database.schema;
    holds = reordered t others s.now.trees same tallies stands.database.holds;
  };
  sound = stands.sound;
  settled = stands.settled;
  autocommit = stands.autocommit;
  leaves = λ db may.
      let left = stands.leaves db may in
      record { holds = reordered t others db same tallies left.holds; listed = left.listed };
}

-- rows that stand once are the same, up to their order, where the same keys stand
pub once_same : (xs ys : List ReaderRow) → AreOnce xs → AreOnce ys
    → ((n : ℕ) (a : List ℕ) → list_any (is_reader_row n a) xs ≡ list_any (is_reader_row n a) ys) → IsPermutation xs ys
once_same [] [] once twice same = IsPermutation-refl []
once_same [] (y ∷ ys) once twice same =
    let here : is_reader_row y.serial y.name y ≡ true = key_passes y.serial y.name y.serial y.name refl refl in
    let none : false ≡ true = same y.serial y.name ∙ rw here refl in absurd cc
once_same (x ∷ xs) ys once twice same =
    let here : is_reader_row x.serial x.name x ≡ true = key_passes x.serial x.name x.serial x.name refl refl in
    let there : list_any (is_reader_row x.serial x.name) ys ≡ true = sym (same x.serial x.name) ∙ rw here refl in
    let others : ReaderRow → Bool = λ row. not (is_reader_row x.serial x.name row) in
    let rest : IsPermutation xs (filter others ys) =
    once_same xs (filter others ys) once.1 (left_once others ys twice)
    (λ n a. elim (cases_Bool (is_reader_row n a x)) [
      | inl t ↦ (let k = key_is n a x.serial x.name t in
          let P : ℕ → List ℕ → Type 0 = λ m name. list_any (is_reader_row m name) xs ≡ false in
          let none : list_any (is_reader_row n a) xs ≡ false =
          subst (λ name. P n name) k.1 (subst (λ m. P m x.name) k.0 once.0) in
          none ∙ sym (taken_same n a x.serial x.name ys t))
      | inr f ↦ (let left : list_any (is_reader_row n a) (x ∷ xs) ≡ list_any (is_reader_row n a) xs = rw f refl in
          sym left ∙ same n a ∙ sym (taken_other n a x.serial x.name ys f))
    ]) in
    IsPermutation-trans _ _ _ (IsPermutation-cons x xs (filter others ys) rest)
    (put_again x.serial x.name ys twice there)
