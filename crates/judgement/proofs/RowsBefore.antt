-- What rows say of a stamp, once one more is added.
use Rattle.std.proofs.Common.{◌≡◌, ℕ, ◌+◌, ◌==◌, ◌&&◌, min, Bool, true, false, List, [], ◌∷◌, ◌++◌, Some, String, refl}
use Rattle.std.proofs.Common.{ap, ◌∙◌, subst, arith, if◌then◌else◌, option_map, cond, Result, Ok, Err}
use Rattle.std.proofs.{lemmas.Bool.eqb-true, lemmas.List.reverse-append, lemmas.List.Sums.sum_by_push}
use Rattle.std.specs.BTreeMap.{BTreeMap, get_by_text}
use Rattle.std.specs.{Prelude.MatchResult, Map.update, Cmp.Lexicographic.bytes_decides, Str.bytes_eq}
use Rattle.gentime.specs.GenTime.{day_of, last_moment}
use Rattle.book.specs.{History.first_of, Rows.StampRow}
use Rattle.judgement.specs.Past.{count_in, count_of, count_on, last_gen_time}

pub last_added : (rows : List StampRow) (s : StampRow)
    → last_gen_time (rows ++ s ∷ []) ≡ Some (min s.gen_time last_moment)
last_added rows s =
    ap (λ turned. option_map (λ (row : StampRow). min row.gen_time last_moment) (first_of turned))
    (reverse-append rows (s ∷ []))

module _ {Y : Type 0} (rows : List StampRow) (s : StampRow) (old new : BTreeMap (String Y) (BTreeMap ℕ ℕ)) (count : ℕ)
    (known : (account : List ℕ) (day : ℕ) → count_in old account day ≡ count_of account day rows)
    (next : count ≡ count_in old s.account (day_of s.gen_time) + 1)
    (sets : (account : List ℕ) (day : ℕ) → count_in new account day
    ≡ (if bytes_eq s.account account && (day_of s.gen_time == day) then count else count_in old account day)) where
  pub count_added : (account : List ℕ) (day : ℕ) → count_in new account day ≡ count_of account day (rows ++ s ∷ [])
  count_added account day =
      sets account day ∙ go (bytes_eq s.account account) refl (day_of s.gen_time == day) refl
    where
      here : ℕ
      here = if bytes_eq s.account account && (day_of s.gen_time == day) then 1 else 0

      added : count_of account day (rows ++ s ∷ []) ≡ count_of account day rows + here
      added = sum_by_push _ rows s

      go : (t : Bool) → bytes_eq s.account account ≡ t → (u : Bool) → (day_of s.gen_time == day) ≡ u
          → (if t && u then count else count_in old account day) ≡ count_of account day (rows ++ s ∷ [])
      go true same true on =
          let who : s.account ≡ account = (bytes_decides s.account account).0 same in
          let when : day_of s.gen_time ≡ day = eqb-true (day_of s.gen_time) day on in
          let one : here ≡ 1 = rw (same, on) refl in
          let before : count_in old s.account (day_of s.gen_time) ≡ count_in old account day =
          ap (λ a. count_in old a (day_of s.gen_time)) who ∙ ap (count_in old account) when in
          omega (arith, next, before, one, added, known account day)
      go true same false off =
          let none : here ≡ 0 = rw (same, off) refl in omega (arith, none, added, known account day)
      go false differs u on =
          let none : here ≡ 0 = rw differs refl in omega (arith, none, added, known account day)

-- ---- one number is set

pub match_more : {A E : Type 0} (r : Result A E) (P P' : A → Type 0) (Q Q' : E → Type 0) → ((x : A) → P x → P' x)
    → ((e : E) → Q e → Q' e) → MatchResult r P Q → MatchResult r P' Q'
match_more (Ok x) P P' Q Q' more others h = more x h
match_more (Err e) P P' Q Q' more others h = others e h

module _ {Y : Type 0} (old new : BTreeMap (String Y) (BTreeMap ℕ ℕ)) (name : List ℕ) (days : BTreeMap ℕ ℕ)
    (updates : (other : List ℕ)
    → get_by_text new other ≡ update bytes_eq (get_by_text old) name (Some days) other) where
  -- of an account's days, in what there is of the others
  pub set_in : (day count : ℕ)
      → ((d : ℕ) → count_on (Some days) d ≡ (if day == d then count else count_on (get_by_text old name) d))
      → (account : List ℕ) (d : ℕ)
      → count_in new account d ≡ (if bytes_eq name account && (day == d) then count else count_in old account d)
  set_in day count on account d =
      ap (λ o. count_on o d) (updates account) ∙ go (bytes_eq name account) refl (day == d) refl
    where
      go : (t : Bool) → bytes_eq name account ≡ t → (u : Bool) → (day == d) ≡ u
          → count_on (cond t (Some days) (get_by_text old account)) d
          ≡ (if t && u then count else count_in old account d)
      go true same u is =
          let who : name ≡ account = (bytes_decides name account).0 same in
          let here : count_on (Some days) d ≡ (if u then count else count_on (get_by_text old name) d) =
          subst (λ v. count_on (Some days) d ≡ (if v then count else count_on (get_by_text old name) d)) is (on d) in
          here ∙ ap (λ a. if u then count else count_on (get_by_text old a) d) who
      go false differs u is = refl

  pub kept_in : ((d : ℕ) → count_on (Some days) d ≡ count_on (get_by_text old name) d) → (account : List ℕ) (d : ℕ)
      → count_in new account d ≡ count_in old account d
  kept_in on account d = ap (λ o. count_on o d) (updates account) ∙ go (bytes_eq name account) refl
    where
      go : (t : Bool) → bytes_eq name account ≡ t
          → count_on (cond t (Some days) (get_by_text old account)) d ≡ count_in old account d
      go true same = on d ∙ ap (λ a. count_on (get_by_text old a) d) ((bytes_decides name account).0 same)
      go false differs = refl
