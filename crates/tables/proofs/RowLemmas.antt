-- Rows of a table: each has its own rowid, and what is put in and taken out.
use Rattle.std.proofs.lemmas.Cmp.{tied_itself}
use Rattle.sqlite_trees.specs.declared.store.Shape.TheVariants.{Table}
use Rattle.tables.proofs.Words.{Blob, Bool, Equal, Greater, Has, Int, IsPermutation, IsPermutation-append_right}
use Rattle.tables.proofs.Words.{IsPermutation-cons, IsPermutation-middle, IsPermutation-refl, IsPermutation-sym}
use Rattle.tables.proofs.Words.{IsPermutation-trans, IsShaped, IsTable, IsTrue, Less, List, Null, Ordering, Real, Row}
use Rattle.tables.proofs.Words.{Text, Value, [], all_from, all_has, and_parts, ap, are_fresh, false, filter}
use Rattle.tables.proofs.Words.{filter_same, has_filtered, has_kept, has_rowid, id_in, ids_of, inl, inr, is_eq, is_int}
use Rattle.tables.proofs.Words.{is_taken, list_any, match_ordering, not, put_all, put_row, refl, rowid, some_from}
use Rattle.tables.proofs.Words.{some_has, sym, true, value_cmp, value_cmp_total, without_all, without_rowid, ℤ, ◌++◌}
use Rattle.tables.proofs.Words.{◌||◌, ◌∙◌, ◌∷◌, ◌≡◌}
use Rattle.tables.proofs.ListLemmas.{filter_neither, filter_true, has_image, has_permutation, image_has, same_truth}

pub put_row_is : (new : Row) (rows : List Row) → is_taken rows new ≡ false
    → IsPermutation (new ∷ rows) (put_row new rows)
put_row_is new [] free = IsPermutation-refl _
put_row_is new (r ∷ rows) free = go (value_cmp (rowid r) (rowid new)) free (put_row_is new rows)
  where
    go : (o : Ordering) → (is_eq o || is_taken rows new) ≡ false
        → (is_taken rows new ≡ false → IsPermutation (new ∷ rows) (put_row new rows))
        → IsPermutation (new ∷ r ∷ rows) (match_ordering o (r ∷ put_row new rows) (new ∷ rows) (new ∷ r ∷ rows))
    go Less h later = IsPermutation-trans _ _ _ (IsPermutation-middle (new ∷ []) r rows)
        (IsPermutation-cons r _ _ (later h))
    go Equal h later = absurd (cc)
    go Greater h later = IsPermutation-refl _

pub put_all_is : (news rows : List Row) → are_fresh rows news ≡ true → IsPermutation (news ++ rows) (put_all rows news)
put_all_is [] rows fresh = IsPermutation-refl rows
put_all_is (r ∷ news) rows fresh =
    let parts = and_parts _ _ fresh in
    let free : is_taken rows r ≡ false =
    elim (is_taken rows r) as (λ b. not b ≡ true → b ≡ false) [ true ↦ λ e. cc | false ↦ λ e. refl ] parts.0 in
    IsPermutation-trans _ _ _ (IsPermutation-sym _ _ (IsPermutation-middle news r rows))
    (IsPermutation-trans _ _ _ (IsPermutation-append_right news _ _ (put_row_is r rows free))
    (put_all_is news (put_row r rows) parts.1))

pub without_all_is : (ids : List ℤ) (rows : List Row)
    → without_all rows ids ≡ filter (λ r. not (list_any (λ id. has_rowid id r) ids)) rows
without_all_is [] rows = sym (filter_true rows)
without_all_is (id ∷ ids) rows =
    without_all_is ids (without_rowid id rows)
    ∙ filter_neither (λ r. has_rowid id r) (λ r. list_any (λ i. has_rowid i r) ids) rows

-- two rows with one rowid are one
pub same_row : (rows : List Row) (a b : Row) → IsTable rows → Has rows a → Has rows b
    → is_eq (value_cmp (rowid a) (rowid b)) ≡ true → a ≡ b
same_row [] a b table h k same = absurd h
same_row (r ∷ rows) a b table (inl p) (inl q) same = p ∙ sym q
same_row (r ∷ rows) a b table (inl p) (inr q) same = absurd (let below = all_has _ rows b table.0 q in
    let e = rw (p, below) at same in cc)
same_row (r ∷ rows) a b table (inr p) (inl q) same =
    absurd (let below = all_has _ rows a table.0 p in let up = value_cmp_total.antisymm (rowid a) (rowid r) in
    let e = rw (q, up, below) at same in cc)
same_row (r ∷ rows) a b table (inr p) (inr q) same = same_row rows a b table.1 p q same

pub int_rowid : (v : Value) → IsTrue (is_int v) → v ≡ Int (id_in v)
int_rowid Null h = absurd (cc)
int_rowid (Int n) h = refl
int_rowid (Real x) h = absurd (cc)
int_rowid (Text t) h = absurd (cc)
int_rowid (Blob b) h = absurd (cc)

pub has_own : (v : Value) → is_eq (value_cmp v v) ≡ true
has_own v = ap is_eq (tied_itself value_cmp_total v)

-- the rows whose rowids are taken out are those that pass
module _ (rows : List Row) (passes : Row → Bool) (ids : List ℤ) (shaped : IsShaped Table rows)
    (are : IsPermutation (ids_of (filter passes rows)) ids) where
  taken_passes : (r : Row) → Has rows r → list_any (λ id. has_rowid id r) ids ≡ true → passes r ≡ true
  taken_passes r there any =
      let found = some_has _ ids any in
      let source = image_has (λ x. id_in (rowid x)) (filter passes rows) found.0
      (has_permutation _ _ found.0 (IsPermutation-sym _ _ are) found.1) in
      let kept = has_filtered passes rows source.0 source.1 in
      let keyed = int_rowid (rowid source.0) (all_has _ rows source.0 shaped.1 kept.0) in
      let same : is_eq (value_cmp (rowid r) (rowid source.0)) ≡ true = rw (keyed, ← source.2) found.2 in
      ap passes (same_row rows r source.0 shaped.0 there kept.0 same) ∙ kept.1

  passes_taken : (r : Row) → Has rows r → passes r ≡ true → list_any (λ id. has_rowid id r) ids ≡ true
  passes_taken r there ok =
      let listed = has_permutation _ ids (id_in (rowid r)) are
      (has_image (λ x. id_in (rowid x)) (filter passes rows) r (has_kept passes rows r there ok)) in
      let keyed = int_rowid (rowid r) (all_has _ rows r shaped.1 there) in
      some_from _ ids (id_in (rowid r)) listed (ap (λ v. is_eq (value_cmp (rowid r) v)) (sym keyed) ∙ has_own (rowid r))

  pub left_is : without_all rows ids ≡ filter (λ r. not (passes r)) rows
  left_is = without_all_is ids rows
      ∙ filter_same _ (λ r. not (passes r)) rows
      (all_from _ rows (λ r there. ap not (same_truth _ _ (taken_passes r there) (passes_taken r there))))
