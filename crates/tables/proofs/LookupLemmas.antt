-- What a query tells of one table: a row that passes its tests, or of these the first in the order of a key.
use Rattle.std.specs.{List.slice_get, List.Sorted.IsNonDecreasingBy}
use Rattle.std.proofs.lemmas.List.MinMax.{ranks_by}
use Rattle.sqlite_sql.proofs.QueryLemmas.{output_cmp_total}
use Rattle.tables.proofs.Words.{Binary, Bool, Compare, Contains, Eq, Equal, Greater, Int}
use Rattle.tables.proofs.Words.{IsNonDecreasingBy-from_default, IsPermutation, IsPermutation-map, IsPermutation-sym}
use Rattle.tables.proofs.Words.{IsSorted, Key, Less, List, None, Option, Ordering, Output, Query, Reads, Row, Select}
use Rattle.tables.proofs.Words.{Some, Term, Trees, Value, [], ap, ap₂, arith, cases_Bool, col, command_of, contains_had}
use Rattle.tables.proofs.Words.{eval_all, false, filter, get_or, get_or-map, has_contained, has_filtered, has_kept, inl}
use Rattle.tables.proofs.Words.{inr, int_cmp, is_lt, length, length-map, lit, map, map-map, op2, ordering_then, output}
use Rattle.tables.proofs.Words.{output_cmp, page, pos, refl, sorted_far, subst, subst₂, sym, true, understood}
use Rattle.tables.proofs.Words.{value_cmp, value_cmp-Int, ℕ, ◌&&◌, ◌<◌, ◌∙◌, ◌∷◌, ◌≡◌, ◌≤◌}
use Rattle.tables.proofs.ListLemmas.{any_default, has_image, has_permutation, image_has, map_same}
use Rattle.tables.proofs.ReadLemmas.{answered, no_limit, ordered_by, passes, program_of, query_of, shows}
use Rattle.tables.proofs.{ChangeLemmas.found_are, ChangeLemmas.raw, FrameLemmas.cells_some, FrameLemmas.is_current}
use Rattle.tables.specs.Found.{AreFoundAs, IsFoundAs, IsGreatestAs, IsLeastAs}
use Rattle.tables.specs.Layout.{Holds, RowOf, cells_of, is_keyed, rows_of, tree_of}
use Rattle.tables.specs.QueryAnswers.{IsQueryText, TellsFirst, TellsRows}
use Rattle.tables.specs.{Names.Name, Schema.the_schema, Schema.the_version, Tables.Tables}

-- a query over one table, as our schema has its text, with the names of what it shows
pub record Asks (sql : List ℕ) (n : Name) (tests project : List Term) (names : List (List ℕ))
    (order : List (Term × Key)) (limit : Term) : Type 0 where
  pub is : command_of (understood the_schema sql) ≡ Select (program_of (tree_of n) tests project order limit) names
  pub text : IsQueryText sql

-- what the first row of its answer shows of the rows of a table
module _ {X : Type 0} (sql : List ℕ) (params : Row) (rows : Tables → List X) (image : X → Row) where
  pub record Finds (test : X → Bool) : Type 0 where
    pub text : IsQueryText sql
    pub found : (t : Tables) (db : Trees) (row : Option Row) → Holds t db → TellsFirst sql params db row
        → IsFoundAs (λ x r. r ≡ image x) test (rows t) row

  pub record FindsLeast (test : X → Bool) (key : X → ℕ) : Type 0 where
    pub text : IsQueryText sql
    pub found : (t : Tables) (db : Trees) (row : Option Row) → Holds t db → TellsFirst sql params db row
        → IsLeastAs (λ x r. r ≡ image x) key test (rows t) row

  pub record FindsGreatest (key : X → ℕ) : Type 0 where
    pub text : IsQueryText sql
    pub found : (t : Tables) (db : Trees) (row : Option Row) → Holds t db → TellsFirst sql params db row
        → IsGreatestAs (λ x r. r ≡ image x) key (rows t) row

  -- what all its rows show
  pub record FindsAll {Y : Type 0} (shown : X → Y) (number : Y → ℕ) (read : Row → Y) (test : X → Bool) : Type 0 where
    pub text : IsQueryText sql
    pub found : (t : Tables) (db : Trees) (shows : List Row) → Holds t db → TellsRows sql params db shows
        → AreFoundAs shown number test (rows t) (map read shows)

pub and_true : (b : Bool) → (b && true) ≡ b
and_true true = refl
and_true false = refl

-- the rows that pass, in some order: the first is one of them, and where there is none no row passes
first_found : {X : Type 0} (image : X → Row) (test : X → Bool) (xs : List X) (rows : List Row)
    → IsPermutation (map image (filter test xs)) rows
    → IsFoundAs (λ x r. r ≡ image x) test xs (slice_get rows 0)
first_found image test xs [] same = λ x m.
    elim (cases_Bool (test x)) [
      | inl t ↦ absurd (has_permutation _ [] (image x) same
          (has_image image (filter test xs) x (has_kept test xs x (has_contained xs x m) t)))
      | inr f ↦ f
    ]
first_found image test xs (r ∷ rows) same =
    let found = image_has image (filter test xs) r (has_permutation _ _ r (IsPermutation-sym _ _ same) (inl refl)) in
    let kept = has_filtered test xs found.0 found.1 in
    (found.0, contains_had xs found.0 kept.0, kept.1, found.2)

-- a column is what a parameter is
abbrev pub equals : ℕ → ℕ → Term
equals column parameter = op2 (Compare Eq Binary) (col 1 column) (col 0 parameter)

abbrev pub one : Term
one = lit (Int (pos 1))

abbrev pub rising : Key
rising = record { collation = Binary; descending = false }

abbrev pub falling : Key
falling = record { collation = Binary; descending = true }

lt_then : (o : Ordering) → is_lt (ordering_then o Equal) ≡ is_lt o
lt_then Less = refl
lt_then Equal = refl
lt_then Greater = refl

not_less : (m n : ℕ) → is_lt (ordering_then (value_cmp (Int (pos m)) (Int (pos n))) Equal) ≡ false → n ≤ m
not_less m n e =
    let least : is_lt (int_cmp (pos m) (pos n)) ≡ false =
    sym (ap is_lt (value_cmp-Int (pos m) (pos n))) ∙ sym (lt_then _) ∙ e in
    grind (arith)

-- a table, the tests and what is shown
module _ (n : Name) (params : Row) (tests project : List Term) (test : RowOf n → Bool) (image : RowOf n → Row)
    (agree : (y : Value × RowOf n) → passes tests params (raw (cells_of n) (cells_some n) (is_keyed n) y) ≡ test y.1)
    (each : (y : Value × RowOf n) → shows project params (raw (cells_of n) (cells_some n) (is_keyed n) y) ≡ image y.1)
  where
    pub finds : {sql : List ℕ} {names : List (List ℕ)} → Asks sql n tests project names [] no_limit
        → Finds sql params (rows_of the_version n) image test
    finds asks = record {
      text = asks.text;
      found = λ t db row h told.
          let reads = subst (λ k. Reads k (record { schema = the_schema; trees = db }) params told.0) asks.is told.1 in
          let typed = found_are (cells_of n) (cells_some n) (is_keyed n) (rows_of the_version n t) (db (tree_of n))
          (h.rows n (is_current n)) (passes tests params) test agree (shows project params) image each told.0
          (answered the_schema db params (tree_of n) tests project told.0 reads) in
          subst (IsFoundAs (λ x r. r ≡ image x) test (rows_of the_version n t)) told.2
          (first_found image test (rows_of the_version n t) told.0 typed);
    }

    -- the rows in the order of a key
    module _ (place : Term) (key : RowOf n → ℕ) (keys : (y : Value × RowOf n)
        → eval_all (place ∷ []) (params ∷ raw (cells_of n) (cells_some n) (is_keyed n) y ∷ []) ≡ Int (pos (key y.1)) ∷ [])
      where
        abbrev its_query : Key → Query
        its_query order = query_of (tree_of n) tests project ((place, order) ∷ []) one

        abbrev out_of : RowOf n → Output
        out_of x = (Int (pos (key x)) ∷ [], image x)

        module _ (order : Key) (Before : ℕ → ℕ → Type 0)
            (not_before : (x y : RowOf n) → is_lt (output_cmp (its_query order) (out_of y) (out_of x)) ≡ false
            → Before (key x) (key y)) where
          -- none passes, or this is what the first that does shows
          abbrev IsFirst : List (RowOf n) → Option Row → Type 0
          IsFirst xs None = (x : RowOf n) → Contains xs x → test x ≡ false
          IsFirst xs (Some r) =
              (x : RowOf n) × Contains xs x × (test x ≡ true)
              × ((other : RowOf n) → Contains xs other → test other ≡ true → Before (key x) (key other)) × (r ≡ image x)

          shown_of : (y : Value × RowOf n)
              → output (its_query order) (params ∷ raw (cells_of n) (cells_some n) (is_keyed n) y ∷ []) ≡ out_of y.1
          shown_of y = ap₂ (λ k r. (k, r)) (keys y) (each y)

          go : (xs : List (RowOf n)) (ordered : List Output) → IsPermutation (map out_of (filter test xs)) ordered
              → IsSorted (output_cmp (its_query order)) ordered
              → IsFirst xs (slice_get (page (its_query order) params (map (λ o. o.1) ordered)) 0)
          go xs [] same sorted = λ x m.
              elim (cases_Bool (test x)) [
                | inl t ↦ absurd (has_permutation _ [] (out_of x) same
                    (has_image out_of (filter test xs) x (has_kept test xs x (has_contained xs x m) t)))
                | inr f ↦ f
              ]
          go xs (p ∷ ps) same sorted =
              let found = image_has out_of (filter test xs) p
              (has_permutation _ _ p (IsPermutation-sym _ _ same) (inl refl)) in
              let kept = has_filtered test xs found.0 found.1 in (
                found.0,
                contains_had xs found.0 kept.0,
                kept.1,
                λ other m passes.
                    let there = contains_had (p ∷ ps) (out_of other) (has_permutation _ _ (out_of other) same
                    (has_image out_of (filter test xs) other (has_kept test xs other (has_contained xs other m) passes))) in
                    let far = sorted_far (λ a b. is_lt (output_cmp (its_query order) a b))
                    (ranks_by (output_cmp_total (its_query order)) (λ o. o)) (p ∷ ps) sorted 0 there.0 (out_of other)
                    (omega arith) there.1 in
                    not_before found.0 other
                    (subst₂ (λ a b. is_lt (output_cmp (its_query order) a b) ≡ false) there.2 found.2 far),
                ap (λ o. o.1) found.2,
              )

          first : {sql : List ℕ} {names : List (List ℕ)} → Asks sql n tests project names ((place, order) ∷ []) one
              → (t : Tables) (db : Trees) (row : Option Row) → Holds t db → TellsFirst sql params db row
              → IsFirst (rows_of the_version n t) row
          first asks t db row h told =
              let xs = rows_of the_version n t in
              let reads = subst (λ k. Reads k (record { schema = the_schema; trees = db }) params told.0) asks.is told.1 in
              let by = ordered_by the_schema db params (tree_of n) tests project ((place, order) ∷ []) one told.0 reads in
              let typed = found_are (cells_of n) (cells_some n) (is_keyed n) xs (db (tree_of n)) (h.rows n (is_current n))
              (passes tests params) test agree (λ r. output (its_query order) (params ∷ r ∷ [])) out_of shown_of by.ordered
              by.same in
              subst (IsFirst xs) told.2
              (subst (λ rs. IsFirst xs (slice_get rs 0)) (sym by.shown) (go xs by.ordered typed by.sorted))

        pub least : {sql : List ℕ} {names : List (List ℕ)} → Asks sql n tests project names ((place, rising) ∷ []) one
            → FindsLeast sql params (rows_of the_version n) image test key
        least asks = record {
          text = asks.text;
          found = λ t db row h told. as_least _ row
              (first rising (λ a b. a ≤ b) (λ x y e. not_less (key y) (key x) e) asks t db row h told);
        }
          where
            as_least : (xs : List (RowOf n)) (row : Option Row) → IsFirst rising (λ a b. a ≤ b)
                (λ x y e. not_less (key y) (key x) e) xs row → IsLeastAs (λ x r. r ≡ image x) key test xs row
            as_least xs None h = h
            as_least xs (Some r) h = h

        pub greatest : {sql : List ℕ} {names : List (List ℕ)} → ((x : RowOf n) → test x ≡ true)
            → Asks sql n tests project names ((place, falling) ∷ []) one
            → FindsGreatest sql params (rows_of the_version n) image key
        greatest all asks = record {
          text = asks.text;
          found = λ t db row h told. as_greatest _ row
              (first falling (λ a b. b ≤ a) (λ x y e. not_less (key x) (key y) e) asks t db row h told);
        }
          where
            as_greatest : (xs : List (RowOf n)) (row : Option Row) → IsFirst falling (λ a b. b ≤ a)
                (λ x y e. not_less (key x) (key y) e) xs row → IsGreatestAs (λ x r. r ≡ image x) key xs row
            as_greatest xs None h = λ x there. absurd (let no = h x there in let yes = all x in cc)
            as_greatest xs (Some r) h = (h.0, h.1, λ other there. h.3 other there (all other), h.4)

        -- all that pass, as something else that their rows show
        module _ {Y : Type 0} (shown : RowOf n → Y) (number : Y → ℕ) (read : Row → Y)
            (reads : (x : RowOf n) → read (image x) ≡ shown x)
            (numbers : (x : RowOf n) → number (shown x) ≡ key x) where
          abbrev whole_query : Query
          whole_query = query_of (tree_of n) tests project ((place, rising) ∷ []) no_limit

          abbrev read_out : Output → Y
          read_out o = read o.1

          each_of : (xs : List (RowOf n)) (ordered : List Output) → IsPermutation (map out_of (filter test xs)) ordered
              → (p : Output) (i : ℕ) → i < length ordered → (x : RowOf n) × (get_or ordered i p ≡ out_of x)
          each_of xs ordered same p i within =
              let here = has_contained ordered (get_or ordered i p)
              (i, within, any_default ordered i (get_or ordered i p) p within) in
              let found = image_has out_of (filter test xs) (get_or ordered i p)
              (has_permutation _ _ (get_or ordered i p) (IsPermutation-sym _ _ same) here) in
              (found.0, found.2)

          rises : (xs : List (RowOf n)) (ordered : List Output) → IsPermutation (map out_of (filter test xs)) ordered
              → IsSorted (output_cmp whole_query) ordered → IsNonDecreasingBy number (map read_out ordered)
          rises xs [] same sorted = λ i j d below within. absurd (omega (arith, within))
          rises xs (p ∷ ps) same sorted =
              IsNonDecreasingBy-from_default number (map read_out (p ∷ ps)) (read_out p) up where
                up : (i j : ℕ) → i ≤ j → j < length (map read_out (p ∷ ps))
                    → number (get_or (map read_out (p ∷ ps)) i (read_out p))
                    ≤ number (get_or (map read_out (p ∷ ps)) j (read_out p))
                up i j below within =
                    let inside : j < length (p ∷ ps) = subst (λ k. j < k) (length-map (p ∷ ps) read_out) within in
                    let a = each_of xs (p ∷ ps) same p i (omega (arith, below, inside)) in
                    let b = each_of xs (p ∷ ps) same p j inside in
                    let far = sorted_far (λ o q. is_lt (output_cmp whole_query o q))
                    (ranks_by (output_cmp_total whole_query) (λ o. o)) (p ∷ ps) sorted i j p below inside in
                    let less = not_less (key b.0) (key a.0)
                    (subst₂ (λ o q. is_lt (output_cmp whole_query o q) ≡ false) b.1 a.1 far) in
                    let first = value_at i a (omega (arith, below, inside)) in
                    let second = value_at j b inside in
                    subst₂ (λ m k. m ≤ k) (sym first) (sym second) less
                  where
                    value_at : (k : ℕ) (x : (x : RowOf n) × (get_or (p ∷ ps) k p ≡ out_of x)) → k < length (p ∷ ps)
                        → number (get_or (map read_out (p ∷ ps)) k (read_out p)) ≡ key x.0
                    value_at k x inside =
                        ap number (get_or-map read_out (p ∷ ps) k p (read_out p) inside ∙ ap read_out x.1
                        ∙ reads x.0) ∙ numbers x.0

          pub all : {sql : List ℕ} {names : List (List ℕ)}
              → Asks sql n tests project names ((place, rising) ∷ []) no_limit
              → FindsAll sql params (rows_of the_version n) image shown number read test
          all asks = record {
            text = asks.text;
            found = λ t db rows h told.
                let xs = rows_of the_version n t in
                let reads_so = subst (λ k. Reads k (record { schema = the_schema; trees = db }) params rows) asks.is
                told in
                let by = ordered_by the_schema db params (tree_of n) tests project ((place, rising) ∷ []) no_limit rows
                reads_so in
                let typed = found_are (cells_of n) (cells_some n) (is_keyed n) xs (db (tree_of n))
                (h.rows n (is_current n)) (passes tests params) test agree
                (λ r. output whole_query (params ∷ r ∷ [])) out_of (λ y. ap₂ (λ k r. (k, r)) (keys y) (each y))
                by.ordered by.same in
                let images = map-map read_out out_of (filter test xs) ∙ map_same _ shown reads (filter test xs) in
                let told_so : map read_out by.ordered ≡ map read rows =
                sym (ap (map read) by.shown ∙ map-map read (λ o. o.1) by.ordered) in
                record {
                  same = subst₂ IsPermutation images told_so (IsPermutation-map read_out _ _ typed);
                  rising = subst (IsNonDecreasingBy number) told_so (rises xs by.ordered typed by.sorted);
                };
          }
