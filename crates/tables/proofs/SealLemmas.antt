-- The statements that change rows, over the schema.
use Rattle.sqlite_sql.specs.declared.ops.ArithOp.TheVariants.{Add}
use Rattle.tables.proofs.Words.{AllByRecursion, Arith, Blob, Bool, Command, Database, Does, Err, Error, ExecutesInside}
use Rattle.tables.proofs.Words.{Has, IfOk, Int, Integer, List, None, Null, Ok, Option, Result, Row, Some, State, Tally}
use Rattle.tables.proofs.Words.{Term, Text, Trees, Update, Value, [], all_has, and_parts, ap, ap₂, are_typed, arith}
use Rattle.tables.proofs.Words.{binary, cases_lt, cast, cast_row, col, cond, drop, everything, false, filter, inl, inr}
use Rattle.tables.proofs.Words.{is_of, length, lit, lt-ltb, map, op2, pos, refl, subst, sym, true, unary, understood}
use Rattle.tables.proofs.Words.{unwrap_or, value_cmp, ℕ, ◌&&◌, ◌+◌, ◌<◌, ◌^◌, ◌∙◌, ◌∷◌, ◌≡◌}
use Rattle.tables.proofs.CarryLemmas.{Makes, Says, Steps, carried, did}
use Rattle.tables.proofs.InsertLemmas.{cast_int, cast_null, idle}
use Rattle.tables.proofs.ReadLemmas.{no_limit, passes, program_of, shows}
use Rattle.tables.proofs.UpdateLemmas.{updates_count, updates_rows, updates_typed}
use Rattle.tables.proofs.{ChangeLemmas.raw, FrameLemmas.changed, FrameLemmas.placed_table, LookupLemmas.and_true}
use Rattle.tables.proofs.{LookupLemmas.equals, TestLemmas.test_number, TestLemmas.test_text, WriteLemmas.plain_mode}
use Rattle.tables.specs.Layout.{Holds, IsDatabaseOf, place_of, stamp_cells, tally_cells, tree_of}
use Rattle.tables.specs.Tables.{StampRow, Tables, TallyRow, is_stamp, is_tally_of, raised_row, with_token}
use Rattle.tables.specs.{Schema.tally, Schema.the_schema, auxiliary.Steps.with_raised}
use Rattle.tables.specs.{declared.stamps.TheConstants.SET_TOKEN, declared.tallies.TheConstants.RAISE_TALLY}
use Rattle.std.specs.Float.Ieee
use Rattle.tables.specs.Names as name

-- ---- a token

abbrev seal_params : ℕ → List ℕ → Row
seal_params serial token = Int (pos serial) ∷ Blob token ∷ []

abbrev seal_rest : List Term
seal_rest = col 1 0 ∷ lit Null ∷ col 1 2 ∷ col 1 3 ∷ col 1 4 ∷ col 1 5 ∷ col 1 6 ∷ col 1 7 ∷ col 1 8 ∷ col 1 9 ∷ col 0 1
    ∷ []

abbrev seal_update : Command
seal_update = Update (place_of name.Stamp)
    (program_of (tree_of name.Stamp) (equals 0 0 ∷ []) (col 1 0 ∷ seal_rest) [] no_limit)

seal_makes : (serial : ℕ) (token : List ℕ) → Makes seal_update (seal_params serial token) (with_token serial token)
seal_makes serial token limit text t db out h does =
    let agree = λ (y : Value × StampRow). and_true _ ∙ test_number y.1.serial serial in
    let it = updates_rows stamp_cells (λ x e. cc) limit (seal_params serial token) the_schema db text
    (place_of name.Stamp) idle _ _ _ _ _ _ _ (tree_of name.Stamp) refl out true t.stamps (h.rows name.Stamp refl)
    (equals 0 0 ∷ []) (is_stamp serial) agree seal_rest does (λ row. record row { token = Some token })
    (λ y own ok typed. simp (cast_int, cast_null)) in
    record { schema = it.1.1; holds = changed name.Stamp db out.1.trees t h _ refl it.1.0 it.0 h.counts }

says_seal : Says SET_TOKEN.now seal_update
unfolding understood everything
says_seal = record { is = refl; plain = (refl, refl) }

pub seals : (serial : ℕ) (token : List ℕ) → Steps SET_TOKEN.now (seal_params serial token) (with_token serial token)
seals serial token =
    carried says_seal (seal_params serial token) (λ old new text count w. w) (with_token serial token)
    (seal_makes serial token)

-- ---- a count raised

abbrev raise_params : List ℕ → ℕ → Row
raise_params account day = Text account ∷ Int (pos day) ∷ []

abbrev raise_rest : List Term
raise_rest = col 1 0 ∷ col 1 1 ∷ col 1 2 ∷ op2 (Arith Add) (col 1 3) (lit (Int (pos 1))) ∷ []

abbrev raise_tests : List Term
raise_tests = equals 1 0 ∷ equals 2 1 ∷ []

abbrev raise_update : Command
raise_update = Update (place_of name.Tally)
    (program_of (tree_of name.Tally) raise_tests (col 1 0 ∷ raise_rest) [] no_limit)

abbrev plus_one : ℕ → Value
plus_one n = binary (Arith Add) (Int (pos n)) (Int (pos 1))

-- the greatest number and one is no number that the column takes
past_greatest : is_of Integer (cast Integer (plus_one 9223372036854775807)) ≡ false
unfolding binary unary value_cmp Ieee.lt Ieee.is_nan Ieee.add Ieee.of_int Ieee.eq Ieee.to_signed
past_greatest = refl

below_greatest : (n : ℕ) → n + 1 < 2 ^ 63 → plus_one n ≡ Int (pos (n + 1))
unfolding binary
below_greatest n low = rw (lt-ltb (n + 1) (2 ^ 63) low)

next_count : (n : ℕ) → n < 2 ^ 63 → is_of Integer (cast Integer (plus_one n)) ≡ true
    → (cast Integer (plus_one n) ≡ Int (pos (n + 1))) × (n + 1 < 2 ^ 63)
next_count n low typed = elim (cases_lt (n + 1) (2 ^ 63)) [
  | inl fits ↦ (ap (cast Integer) (below_greatest n fits) ∙ cast_int (pos (n + 1)), fits)
  | inr high ↦ absurd (let greatest : n ≡ 9223372036854775807 = omega arith in
      let e = sym (subst (λ k. is_of Integer (cast Integer (plus_one k)) ≡ true) greatest typed) ∙ past_greatest in cc)
]

tally_test : (account : List ℕ) (day : ℕ) (y : Value × TallyRow)
    → passes raise_tests (raise_params account day) (raw tally_cells (λ x e. cc) false y) ≡ is_tally_of account day y.1
tally_test account day y = ap₂ ◌&&◌ (test_text y.1.account account) (and_true _ ∙ test_number y.1.day day)

abbrev one_more : TallyRow → TallyRow
one_more row = record row { count = row.count + 1 }

abbrev raised_cells : List ℕ → ℕ → Value × TallyRow → Row
raised_cells account day y =
    cast_row (placed_table name.Tally)
    (shows raise_rest (raise_params account day) (raw tally_cells (λ x e. cc) false y))

last_typed : (b c : Bool) → (b && (c && true)) ≡ true → c ≡ true
last_typed b c h = (and_parts _ _ (and_parts b _ h).1).0

raise_each : (account : List ℕ) (day : ℕ) (y : Value × TallyRow) → y.1.count < 2 ^ 63
    → are_typed None 0 tally.columns (drop 1 (raised_cells account day y)) ≡ true
    → (drop 1 (raised_cells account day y) ≡ tally_cells (one_more y.1)) × (y.1.count + 1 < 2 ^ 63)
raise_each account day y low typed =
    let next = next_count y.1.count low
    (last_typed (is_of Integer (cast Integer (Int (pos y.1.day))))
    (is_of Integer (cast Integer (plus_one y.1.count))) typed) in
    (rw (cast_int (pos y.1.day), next.0), next.1)

counts_raised : (account : List ℕ) (day : ℕ) (xs : List TallyRow) → ((x : TallyRow) → Has xs x → x.count < 2 ^ 63)
    → ((x : TallyRow) → Has xs x → is_tally_of account day x ≡ true → x.count + 1 < 2 ^ 63)
    → AllByRecursion (λ row. row.count < 2 ^ 63) (map (raised_row account day) xs)
counts_raised account day [] low next = tt
counts_raised account day (x ∷ xs) low next = (
  go (is_tally_of account day x) refl,
  counts_raised account day xs (λ y known. low y (inr known))
      (λ y known. next y (inr known)),
)
  where
    go : (b : Bool) → is_tally_of account day x ≡ b → (cond b (one_more x) x).count < 2 ^ 63
    go true is = next x (inl refl) is
    go false is = low x (inl refl)

module _ (account : List ℕ) (day : ℕ) (limit : Option ℕ) (text : List ℕ) (t : Tables) (db : Trees) (out : Tally
    × Database) (h : Holds t db)
    (does : Does limit plain_mode (raise_params account day) (record { schema = the_schema; trees = db }) text None
    raise_update (Ok out)) where
  raise_does : IsDatabaseOf (with_raised account day t) out.1
  raise_does =
      let low : (x : TallyRow) → Has t.tallies x → x.count < 2 ^ 63 = λ x known. all_has _ t.tallies x h.counts known in
      let it = updates_rows tally_cells (λ x e. cc) limit (raise_params account day) the_schema db text
      (place_of name.Tally) idle _ _ _ _ _ _ _ (tree_of name.Tally) refl out false t.tallies (h.rows name.Tally refl)
      raise_tests (is_tally_of account day) (tally_test account day) raise_rest does one_more
      (λ y own ok typed. (raise_each account day y (low y.1 own) typed).0) in
      let next : (x : TallyRow) → Has t.tallies x → is_tally_of account day x ≡ true → x.count + 1 < 2 ^ 63 =
      λ x known ok.
      let there = updates_typed tally_cells (λ x e. cc) limit (raise_params account day) the_schema db text
      (place_of name.Tally) idle _ _ _ _ _ _ _ (tree_of name.Tally) refl out false t.tallies (h.rows name.Tally refl)
      raise_tests (is_tally_of account day) (tally_test account day) raise_rest does x known ok in
      subst (λ (z : TallyRow). z.count + 1 < 2 ^ 63) (sym there.1)
      (raise_each account day there.0 (subst (λ (z : TallyRow). z.count < 2 ^ 63) there.1 (low x known))
      there.2).1 in
      record {
        schema = it.1.1;
        holds = changed name.Tally db out.1.trees t h _ refl it.1.0 it.0 (counts_raised account day t.tallies low next);
      }

  raise_count : out.0.rows ≡ Some (length (filter (is_tally_of account day) t.tallies))
  raise_count = updates_count tally_cells (λ x e. cc) limit (raise_params account day) the_schema db text
      (place_of name.Tally) idle _ _ _ _ _ _ _ (tree_of name.Tally) refl out false t.tallies (h.rows name.Tally refl)
      raise_tests (is_tally_of account day) (tally_test account day) raise_rest does

says_raise : Says RAISE_TALLY.now raise_update
unfolding understood everything
says_raise = record { is = refl; plain = (refl, refl) }

pub raises : (account : List ℕ) (day : ℕ)
    → Steps RAISE_TALLY.now (raise_params account day) (with_raised account day)
raises account day =
    carried says_raise (raise_params account day) (λ old new text count w. w) (with_raised account day)
    (raise_does account day)

-- and how many rows it finds
pub raise_counts : (account : List ℕ) (day : ℕ) (old new : State) (result : Result ℕ Error) (given : Row)
    → given ≡ raise_params account day → ExecutesInside 0 RAISE_TALLY.now given old new result
    → IfOk result (λ count. (t : Tables) → IsDatabaseOf t old.now → count
    ≡ length (filter (is_tally_of account day) t.tallies))
raise_counts account day old new (Err e) given same ran = tt
raise_counts account day old new (Ok count) given same ran = λ t d.
    let it = did says_raise (raise_params account day) (λ old new text count w. w) old new count d.schema
    (subst (λ ps. ExecutesInside 0 RAISE_TALLY.now ps old new (Ok count)) same ran) in
    it.3 ∙ ap (λ o. unwrap_or o 0) (raise_count account day old.step_limit it.1 t old.now.trees (it.0, new.now)
    d.holds it.2)
