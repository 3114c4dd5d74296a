-- What an edit makes of the rows of a table, in terms of what they say.
use Rattle.sqlite_trees.proofs.TreeLemmas.{IsShaped-filter, IsShaped-put_row}
use Rattle.sqlite_trees.specs.declared.store.Shape.TheVariants.{Table}
use Rattle.tables.proofs.Words.{Bool, Given, Has, IsPermutation, IsPermutation-append_left, IsPermutation-cons}
use Rattle.tables.proofs.Words.{IsPermutation-filter, IsPermutation-map, IsPermutation-sym, IsPermutation-trans}
use Rattle.tables.proofs.Words.{IsShaped, List, Null, Row, Value, [], and_parts, ap, are_fresh, cond, drop, false}
use Rattle.tables.proofs.Words.{filter, filter-map, has_filtered, has_kept, have_rowids, ids_of, map, map-append}
use Rattle.tables.proofs.Words.{map-map, not, numbered, pull_back, put_all, put_row, refl, subst, sym, true}
use Rattle.tables.proofs.Words.{without_all, ℤ, ◌++◌, ◌∙◌, ◌∷◌, ◌≡◌, ◌≢◌}
use Rattle.tables.proofs.ListLemmas.{filter_equal, has_image, has_permutation, image_has, map_same_in, split_changed}
use Rattle.tables.proofs.RowLemmas.{left_is, put_all_is}
use Rattle.tables.specs.Layout.{AreRows, said}

pub numbered_given : (rows news : List Row) → numbered Given rows news ≡ news
numbered_given rows [] = refl
numbered_given rows (r ∷ news) = ap (λ l. r ∷ l) (numbered_given (put_row r rows) news)

put_all_shaped : (news rows : List Row) → have_rowids news ≡ true → IsShaped Table rows
    → IsShaped Table (put_all rows news)
put_all_shaped [] rows keyed h = h
put_all_shaped (r ∷ news) rows keyed h =
    let parts = and_parts _ _ keyed in
    put_all_shaped news (put_row r rows) parts.1 (IsShaped-put_row r rows (sym (sym parts.0)) h)

map_itself : {X : Type 0} (xs : List X) → map (λ x. x) xs ≡ xs
map_itself [] = refl
map_itself (x ∷ xs) = ap (λ l. x ∷ l) (map_itself xs)

module _ {X : Type 0} (cells : X → Row) (some : (x : X) → cells x ≢ []) where
  -- a row that says this, with a rowid that may be its own
  abbrev pub raw : Bool → Value × X → Row
  raw true y = cells y.1
  raw false y = y.0 ∷ cells y.1

  pub raw_says : (keyed : Bool) (y : Value × X) → said keyed (raw keyed y) ≡ cells y.1
  raw_says true y = refl
  raw_says false y = refl

  numbered_rows : (rows : List Row) (xs : List X) → map (drop 1) rows ≡ map cells xs
      → (ys : List (Value × X)) × (rows ≡ map (raw false) ys) × (map (λ y. y.1) ys ≡ xs)
  numbered_rows [] [] e = ([], refl, refl)
  numbered_rows [] (x ∷ xs) e = cc
  numbered_rows (r ∷ rows) [] e = cc
  numbered_rows ([] ∷ rows) (x ∷ xs) e = absurd (some x (let h : cells x ≡ [] = cc in h))
  numbered_rows ((v ∷ row) ∷ rows) (x ∷ xs) e =
      let head : row ≡ cells x = cc in
      let later = numbered_rows rows xs (let t : map (drop 1) rows ≡ map cells xs = cc in t) in
      ((v, x) ∷ later.0, rw (head, later.1), ap (λ l. x ∷ l) later.2)

  -- the rows one by one, each with what it says
  pub paired : (keyed : Bool) (xs : List X) (rows : List Row) → AreRows keyed cells xs rows
      → (ys : List (Value × X)) × (rows ≡ map (raw keyed) ys) × IsPermutation xs (map (λ y. y.1) ys)
  paired true xs rows h =
      let back = pull_back cells (map cells xs) (map (said true) rows) h.same xs refl in (
        map (λ x. (Null, x)) back.0,
        sym (map_itself rows) ∙ back.2 ∙ sym (map-map (raw true) (λ x. (Null, x)) back.0),
        subst (IsPermutation xs) (sym (map-map (λ (y : Value × X). y.1) (λ x. (Null, x)) back.0 ∙ map_itself back.0))
            back.1,
      )
  paired false xs rows h =
      let back = pull_back cells (map cells xs) (map (said false) rows) h.same xs refl in
      let ys = numbered_rows rows back.0 back.2 in
      (ys.0, ys.1, subst (IsPermutation xs) (sym ys.2) back.1)

  -- a row more
  pub inserted : (keyed : Bool) (xs : List X) (x : X) (rows next news : List Row) (new : Row)
      → AreRows keyed cells xs rows → have_rowids news ≡ true → are_fresh rows news ≡ true → next ≡ put_all rows news
      → news ≡ new ∷ [] → said keyed new ≡ cells x → AreRows keyed cells (x ∷ xs) next
  inserted keyed xs x rows next news new h rowids fresh is one says = record {
    shaped = subst (IsShaped Table) (sym is) (put_all_shaped news rows rowids h.shaped);
    same =
        let put : IsPermutation (new ∷ rows) next =
        subst (λ all. IsPermutation (all ++ rows) next) one
        (subst (IsPermutation (news ++ rows)) (sym is) (put_all_is news rows fresh)) in
        let images : IsPermutation (said keyed new ∷ map (said keyed) rows) (map (said keyed) next) =
        IsPermutation-map (said keyed) (new ∷ rows) next put in
        IsPermutation-trans _ _ _ (IsPermutation-cons (cells x) _ _ h.same)
        (subst (λ c. IsPermutation (c ∷ map (said keyed) rows) (map (said keyed) next)) says images);
  }

  module _ (keyed : Bool) (xs : List X) (rows : List Row) (h : AreRows keyed cells xs rows) (passes : Row → Bool)
      (test : X → Bool) (agree : (y : Value × X) → passes (raw keyed y) ≡ test y.1) where
    abbrev its : List (Value × X)
    its = (paired keyed xs rows h).0

    abbrev its_xs : List X
    its_xs = map (λ y. y.1) its

    chosen : (p : Row → Bool) (q : X → Bool) → ((y : Value × X) → p (raw keyed y) ≡ q y.1)
        → filter p rows ≡ map (raw keyed) (filter (λ y. q y.1) its)
    chosen p q same = ap (filter p) (paired keyed xs rows h).1 ∙ filter-map p (raw keyed) its
        ∙ ap (map (raw keyed)) (filter_equal _ _ same its)

    firsts : (q : X → Bool) → map (λ y. y.1) (filter (λ y. q y.1) its) ≡ filter q its_xs
    firsts q = sym (filter-map q (λ y. y.1) its)

    images : {Y : Type 0} (q : X → Bool) (image : X → Y)
        → map (λ y. image y.1) (filter (λ y. q y.1) its) ≡ map image (filter q its_xs)
    images q image = sym (map-map image (λ y. y.1) (filter (λ y. q y.1) its)) ∙ ap (map image) (firsts q)

    same_images : {Y : Type 0} (p : Row → Bool) (q : X → Bool) → ((y : Value × X) → p (raw keyed y) ≡ q y.1)
        → (show : Row → Y) (image : X → Y)
        → ((y : Value × X) → Has (filter (λ z. q z.1) its) y → show (raw keyed y) ≡ image y.1)
        → map show (filter p rows) ≡ map image (filter q its_xs)
    same_images p q same show image each =
        ap (map show) (chosen p q same) ∙ map-map show (raw keyed) (filter (λ y. q y.1) its) ∙ map_same_in _ _ _ each
        ∙ images q image

    -- what a query shows of them
    pub found_are : {Y : Type 0} (show : Row → Y) (image : X → Y) → ((y : Value × X) → show (raw keyed y) ≡ image y.1)
        → (found : List Y) → IsPermutation (map show (filter passes rows)) found
        → IsPermutation (map image (filter test xs)) found
    found_are show image each found are =
        IsPermutation-trans _ _ _
        (IsPermutation-map image _ _ (IsPermutation-filter test xs its_xs (paired keyed xs rows h).2))
        (subst (λ l. IsPermutation l found) (same_images passes test agree show image (λ y _. each y)) are)

    left_said : map (said keyed) (filter (λ r. not (passes r)) rows) ≡ map cells (filter (λ x. not (test x)) its_xs)
    left_said = same_images (λ r. not (passes r)) (λ x. not (test x)) (λ y. ap not (agree y)) (said keyed) cells
        (λ y _. raw_says keyed y)

    module _ (ids : List ℤ) (are_ids : IsPermutation (ids_of (filter passes rows)) ids) where
      -- those that pass are gone
      pub deleted : (next : List Row) → next ≡ without_all rows ids
          → AreRows keyed cells (filter (λ x. not (test x)) xs) next
      deleted next is =
          let left : next ≡ filter (λ r. not (passes r)) rows = is ∙ left_is rows passes ids h.shaped are_ids in
          record {
            shaped = subst (IsShaped Table) (sym left) (IsShaped-filter Table _ rows h.shaped);
            same = subst (λ l. IsPermutation (map cells (filter (λ x. not (test x)) xs)) l)
                (sym (ap (map (said keyed)) left ∙ left_said))
                (IsPermutation-map cells _ _ (IsPermutation-filter _ xs its_xs (paired keyed xs rows h).2));
          }

      -- each that passes is among the new rows
      pub changed_there : (upd : Row → Row) (news : List Row) → IsPermutation (map upd (filter passes rows)) news
          → (x : X) → Has xs x → test x ≡ true
          → (y : Value × X) × (x ≡ y.1) × Has news (upd (raw keyed y))
      changed_there upd news are_news x known ok =
          let own = image_has (λ (z : Value × X). z.1) its x
          (has_permutation xs its_xs x (paired keyed xs rows h).2 known) in
          let kept = has_kept (λ z. test z.1) its own.0 own.1 (ap test (sym own.2) ∙ ok) in (
            own.0,
            own.2,
            has_permutation _ news _ are_news (has_image upd (filter passes rows) (raw keyed own.0)
                (subst (λ l. Has l (raw keyed own.0)) (sym (chosen passes test agree))
                (has_image (raw keyed) (filter (λ z. test z.1) its) own.0 kept))),
          )

      -- those that pass are changed
      pub updated : (upd : Row → Row) (change : X → X) (news next : List Row)
          → IsPermutation (map upd (filter passes rows)) news → have_rowids news ≡ true
          → are_fresh (without_all rows ids) news ≡ true → next ≡ put_all (without_all rows ids) news
          → ((y : Value × X) → Has xs y.1 → test y.1 ≡ true → Has news (upd (raw keyed y))
          → said keyed (upd (raw keyed y)) ≡ cells (change y.1))
          → AreRows keyed cells (map (λ x. cond (test x) (change x) x) xs) next
      updated upd change news next are_news rowids fresh is each =
          let left = left_is rows passes ids h.shaped are_ids in
          let left_rows = filter (λ r. not (passes r)) rows in
          let fresh' : are_fresh left_rows news ≡ true = subst (λ l. are_fresh l news ≡ true) left fresh in
          let is' : next ≡ put_all left_rows news = subst (λ l. next ≡ put_all l news) left is in
          let there : (y : Value × X) → Has (filter (λ z. test z.1) its) y → Has news (upd (raw keyed y)) =
          λ y known. has_permutation _ news _ are_news (has_image upd (filter passes rows) (raw keyed y)
          (subst (λ l. Has l (raw keyed y)) (sym (chosen passes test agree))
          (has_image (raw keyed) (filter (λ z. test z.1) its) y known))) in
          let its_own : (y : Value × X) → Has its y → Has xs y.1 =
          λ y known. has_permutation its_xs xs y.1 (IsPermutation-sym _ _ (paired keyed xs rows h).2)
          (has_image (λ (z : Value × X). z.1) its y known) in
          let new_said : map (λ r. said keyed (upd r)) (filter passes rows)
          ≡ map (λ x. cells (change x)) (filter test its_xs) =
          same_images passes test agree (λ r. said keyed (upd r)) (λ x. cells (change x))
          (λ y known. each y (its_own y (has_filtered (λ z. test z.1) its y known).0)
          (has_filtered (λ z. test z.1) its y known).1 (there y known)) in
          let news_said : IsPermutation (map cells (map change (filter test its_xs))) (map (said keyed) news) =
          subst (λ l. IsPermutation l (map (said keyed) news)) (map-map (said keyed) upd (filter passes rows) ∙ new_said
          ∙ sym (map-map cells change (filter test its_xs)))
          (IsPermutation-map (said keyed) _ _ are_news) in
          let next_said : IsPermutation (map (said keyed) news ++ map (said keyed) left_rows) (map (said keyed) next) =
          subst (λ l. IsPermutation l (map (said keyed) next)) (map-append (said keyed) news left_rows)
          (IsPermutation-map (said keyed) (news ++ left_rows) next
          (subst (IsPermutation (news ++ left_rows)) (sym is') (put_all_is news left_rows fresh'))) in
          let step = λ (x : X). cond (test x) (change x) x in
          let parts : IsPermutation (map cells (map step xs)) (map cells (map change (filter test its_xs))
          ++ map cells (filter (λ x. not (test x)) its_xs)) =
          IsPermutation-trans _ _ _
          (IsPermutation-map cells _ _ (IsPermutation-map step _ _ (paired keyed xs rows h).2))
          (subst (IsPermutation (map cells (map step its_xs)))
          (map-append cells (map change (filter test its_xs)) (filter (λ x. not (test x)) its_xs))
          (IsPermutation-map cells _ _ (split_changed test change its_xs))) in
          record {
            shaped = subst (IsShaped Table) (sym is')
                (put_all_shaped news left_rows rowids (IsShaped-filter Table _ rows h.shaped));
            same = IsPermutation-trans _ _ _ parts
                (IsPermutation-trans _ _ _ (IsPermutation-append_left _ _ _ news_said)
                (subst (λ l. IsPermutation (map (said keyed) news ++ l) (map (said keyed) next)) left_said next_said));
          }
