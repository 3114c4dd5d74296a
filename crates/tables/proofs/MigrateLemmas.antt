-- Tables of an earlier version, taken to that of now.
use Rattle.tables.proofs.Words.{AllByRecursion, CreateTable, Database, Does, Err, Error, ExecutesInside, HasCleanDisk}
use Rattle.tables.proofs.Words.{IfErr, Index, Int, IsDatabase, IsTrue, List, None, Ok, OnOk, Program, Result, Schema}
use Rattle.tables.proofs.Words.{Some, State, Survives, Trees, Update, [], all_has, ap, arith, automatics, col, created}
use Rattle.tables.proofs.Words.{everything, false, inl, inr, is_used, lacks_sequence, lit, mode_of, nat_le, next_tree}
use Rattle.tables.proofs.Words.{pos, refl, runs_as, statement_of, subst, survives_then, sym, true, understood, ℕ, ◌∙◌}
use Rattle.tables.proofs.CarryLemmas.{Says, did, kept_inside}
use Rattle.tables.proofs.CreateLemmas.{MakesIn, empty_rows, table_made}
use Rattle.tables.proofs.InsertLemmas.{cast_int, cast_null, idle}
use Rattle.tables.proofs.RefusalLemmas.{created_never, failed_as, plain_known, updated_never}
use Rattle.tables.proofs.{Words.◌∷◌, Words.◌≡◌, Words.◌≢◌, Words.◌⊎◌, CountLemmas.keeps_then, FrameLemmas.at_name}
use Rattle.tables.proofs.{FrameLemmas.framed, ReadLemmas.no_limit, ReadLemmas.program_of, UpdateLemmas.updates_rows}
use Rattle.tables.proofs.{UsableLemmas.usable_in_turn, WriteLemmas.plain_mode}
use Rattle.tables.specs.Layout.{AreRows, HoldsAt, HoldsNoLater, IsDatabaseIn, IsDatabaseOf, IsOnTheWay, IsStored}
use Rattle.tables.specs.Layout.{cells_of, is_keyed, place_of, rows_of, tree_of, version_cells}
use Rattle.tables.specs.Schema.{first_version, schema_of, table_for, the_schema, the_version}
use Rattle.tables.specs.Transaction.{CarriesFrom, CommitsFrom, GoesFrom}
use Rattle.tables.specs.Versions.{IsFound, IsFoundIn, number_of, tells_taken}
use Rattle.tables.specs.auxiliary.Creation.{set_version, text_for}
use Rattle.tables.specs.{Migration.Migrates, Names.Name, QueryAnswers.Looks, QueryAnswers.StaysUsable, Tables.Tables}
use Rattle.tables.specs.{auxiliary.Steps.IsLed, auxiliary.Steps.LeadsOn, declared.version.Version.Version}
use Rattle.tables.specs.Names as name
use Rattle.tables.specs.declared.version.Version.TheVariants as version

-- ---- a table of the next version is made

-- what the next version has
pub record IsNext (before after : Version) (n : Name) : Type 0 where
  pub makes : MakesIn (schema_of (number_of before)) (text_for n) (table_for n)
  pub grows : created (schema_of (number_of before)) (table_for n) ≡ schema_of (number_of after)
  pub uncounted : lacks_sequence (created (schema_of (number_of before)) (table_for n)) ≡ false
  -- nothing is in its way
  pub name_free : is_used (schema_of (number_of before)) (table_for n).name ≡ false
  pub indexes_free : AllByRecursion (λ (i : Index). is_used (schema_of (number_of before)) i.name ≡ false)
      (automatics (table_for n) 0 0 (table_for n).uniques)
  pub tree : next_tree (schema_of (number_of before)) ≡ tree_of n
  -- the tables that were there, and no other than the new one
  pub all : (k : Name) → IsTrue (nat_le (first_version k) (number_of after))
      → IsTrue (nat_le (first_version k) (number_of before)) ⊎ (k ≡ n)
  pub none : (says : ℕ) (t : Tables) → HoldsNoLater (number_of before) t → rows_of says n t ≡ []
  pub later : (t : Tables) → HoldsNoLater (number_of before) t → HoldsNoLater (number_of after) t

abbrev pub OnTheWay : Version → Tables → Database → Type 0
OnTheWay v = IsOnTheWay (number_of v)

module _ {before after : Version} {n : Name} (next : IsNext before after n) (old new : State) where
  next_made : (count : ℕ) (t : Tables) → OnTheWay before t old.now → ExecutesInside 0 (text_for n) [] old new (Ok count)
      → OnTheWay after t new.now × IsDatabase new.now
  next_made count t is ran =
      let w = runs_as (text_for n) [] old new (schema_of (number_of before)) is.schema CreateTable next.makes.0
      next.makes.2 count ran.0 in
      let made = table_made old new (schema_of (number_of before)) _ (table_for n) count is.schema next.makes.1
      next.uncounted w in
      let empty : new.now.trees (tree_of n) ≡ [] = subst (λ tree. new.now.trees tree ≡ []) next.tree made.1 in (
        record {
          schema = made.0 ∙ next.grows;
          says = is.says;
          rows = λ k since. elim (next.all k since) [
            | inl older ↦
                subst (AreRows (is_keyed k) (cells_of k) (rows_of is.says k t))
                (sym (at_name before (λ at. new.now.trees at ≡ old.now.trees at) made.2 k older)) (is.rows k older)
            | inr new_one ↦ subst (λ j. HoldsAt is.says j t new.now.trees) (sym new_one)
                (subst (λ xs. AreRows (is_keyed n) (cells_of n) xs (new.now.trees (tree_of n)))
                (sym (next.none is.says t is.later))
                (empty_rows (is_keyed n) (cells_of n) (new.now.trees (tree_of n)) empty))
          ];
          later = next.later t is.later;
          counts = is.counts;
        },
        w.sound,
      )

  -- it isn't refused for a name
  next_never : (e : Error) → ExecutesInside 0 (text_for n) [] old new (Err e) → (t : Tables)
      → OnTheWay before t old.now → tells_taken e ≡ false
  next_never e (inr ends) t is = ap tells_taken ends.1
  next_never e (inl (ran, left)) t is =
      failed_as (text_for n) old new (schema_of (number_of before)) is.schema CreateTable next.makes.0 next.makes.2
      (plain_known (understood (schema_of (number_of before)) (text_for n)) next.makes.2) false e
      (λ does. created_never old.now (schema_of (number_of before))
      (statement_of (text_for n) (understood (schema_of (number_of before)) (text_for n))) (table_for n) is.schema
      next.makes.1 next.name_free
      (λ index there. all_has (λ (i : Index). is_used (schema_of (number_of before)) i.name ≡ false)
      (automatics (table_for n) 0 0 (table_for n).uniques) index next.indexes_free there) next.uncounted
      old.step_limit (mode_of old) e does) ran

-- ---- the version is set

abbrev set_program : Program
set_program = program_of (tree_of name.Meta) [] (col 1 0 ∷ col 1 0 ∷ lit (Int (pos the_version)) ∷ []) [] no_limit

says_set : Says set_version (Update (place_of name.Meta) set_program)
unfolding understood everything
says_set = record { is = refl; plain = (refl, refl) }

finished : (old new : State) (count : ℕ) (t : Tables) → IsOnTheWay the_version t old.now
    → ExecutesInside 0 set_version [] old new (Ok count) → IsDatabaseOf t new.now × IsDatabase new.now
finished old new count t is ran =
    let it = did says_set [] (λ old new text count w. w) old new count is.schema ran in
    let rows = updates_rows version_cells (λ x e. cc) old.step_limit [] the_schema old.now.trees it.1
    (place_of name.Meta) idle _ _ _ _ _ _ _ (tree_of name.Meta) refl (it.0, new.now) false (is.says ∷ [])
    (is.rows name.Meta refl) [] (λ _. true) (λ y. refl) (col 1 0 ∷ lit (Int (pos the_version)) ∷ []) it.2 (λ _. the_version)
    (λ y own ok typed. simp (cast_int, cast_null)) in (
      record {
        schema = rows.1.1;
        holds = framed old.now.trees new.now.trees t name.Meta rows.1.0 others rows.0 is.counts;
      },
      it.4,
    )
  where
    others : (m : Name) → tree_of m ≢ 0 → HoldsAt the_version m t old.now.trees
    others name.Meta apart = absurd (apart refl)
    others m apart = is.rows m refl

set_never : (old new : State) (e : Error) → ExecutesInside 0 set_version [] old new (Err e) → (t : Tables)
    → IsOnTheWay the_version t old.now → tells_taken e ≡ false
set_never old new e (inr ends) t is = ap tells_taken ends.1
set_never old new e (inl (ran, left)) t is =
    let text = statement_of set_version (understood the_schema set_version) in
    let at = place_of name.Meta in
    failed_as set_version old new the_schema is.schema (Update at set_program) says_set.is says_set.plain
    (plain_known (understood the_schema set_version) says_set.plain) false e
    (λ does. updated_never old.step_limit old.now.trees text the_schema (tree_of name.Meta) at set_program refl e
    (subst (λ (s : Schema). Does old.step_limit plain_mode [] (record { schema = s; trees = old.now.trees }) text None
    (Update at set_program) (Err (Some e))) is.schema does)) ran

-- ---- the versions

pub second_next : IsNext version.First version.Second name.GroupReader
unfolding understood everything
second_next = record {
  makes = (refl, refl, (refl, refl));
  grows = refl;
  uncounted = refl;
  name_free = refl;
  indexes_free = (refl, tt);
  tree = refl;
  all = all;
  none = λ says t held. held name.GroupReader refl;
  later = later;
}
  where
    all : (k : Name) → IsTrue (nat_le (first_version k) 2)
        → IsTrue (nat_le (first_version k) 1) ⊎ (k ≡ name.GroupReader)
    all name.GroupReader since = inr refl
    all name.Identity since = absurd (let apart = since in cc)
    all k since = inl refl

    later : (t : Tables) → HoldsNoLater 1 t → HoldsNoLater 2 t
    later t held name.Identity since = held name.Identity refl
    later t held k since = absurd (let apart = since in cc)

pub third_next : IsNext version.Second version.Current name.Identity
unfolding understood everything
third_next = record {
  makes = (refl, refl, (refl, refl));
  grows = refl;
  uncounted = refl;
  name_free = refl;
  indexes_free = tt;
  tree = refl;
  all = all;
  none = λ says t held. held name.Identity refl;
  later = later;
}
  where
    all : (k : Name) → IsTrue (nat_le (first_version k) 3)
        → IsTrue (nat_le (first_version k) 2) ⊎ (k ≡ name.Identity)
    all name.Identity since = inr refl
    all k since = inl refl

    later : (t : Tables) → HoldsNoLater 2 t → HoldsNoLater 3 t
    later t held name.Identity since = absurd (let apart = since in cc)
    later t held k since = absurd (let apart = since in cc)

-- ---- each statement, inside a transaction

module _ (Before After : Tables → Database → Type 0) (sql : List ℕ)
    (goes : (old new : State) (count : ℕ) (t : Tables) → Before t old.now
    → ExecutesInside 0 sql [] old new (Ok count) → After t new.now × IsDatabase new.now)
    (never : (old new : State) (e : Error) → ExecutesInside 0 sql [] old new (Err e) → (t : Tables)
    → Before t old.now → tells_taken e ≡ false) (old new : State) (result : Result ℕ Error)
    (survives : Survives old new (λ _. ⊥))
    (runs : HasCleanDisk new → IsTrue old.in_transaction → ExecutesInside 0 sql [] old new result) where
  led : (r : Result ℕ Error) → ExecutesInside 0 sql [] old new r → OnOk r (IsLed Before After old new)
  led (Err e) ran = tt
  led (Ok count) ran = record {
    was_open = ran.1.was_open;
    inside = ran.1.mode;
    goes = λ t is. (goes old new count t is ran).0;
    sound = λ t is. (goes old new count t is ran).1;
  }

  untaken : (r : Result ℕ Error) → ExecutesInside 0 sql [] old new r
      → IfErr r (λ e. (t : Tables) → Before t old.now → tells_taken e ≡ false)
  untaken (Ok count) ran = tt
  untaken (Err e) ran = never old new e ran

  leads : LeadsOn Before After old new result
  leads = record {
    survives = survives;
    kept = λ clean inside. kept_inside sql [] old new result (runs clean inside);
    ok = λ clean inside. led result (runs clean inside);
    untaken = λ clean inside. untaken result (runs clean inside);
  }

pub next_leads : {before after : Version} {n : Name} → IsNext before after n → (old new : State)
    (result : Result ℕ Error)
    → Survives old new (λ _. ⊥)
    → (HasCleanDisk new → IsTrue old.in_transaction → ExecutesInside 0 (text_for n) [] old new result)
    → LeadsOn (OnTheWay before) (OnTheWay after) old new result
next_leads {before} {after} {n} next =
    leads (OnTheWay before) (OnTheWay after) (text_for n) (λ old new. next_made next old new)
    (λ old new. next_never next old new)

pub set_leads : (old new : State) (result : Result ℕ Error) → Survives old new (λ _. ⊥)
    → (HasCleanDisk new → IsTrue old.in_transaction → ExecutesInside 0 set_version [] old new result)
    → LeadsOn (IsOnTheWay the_version) IsDatabaseOf old new result
set_leads = leads (IsOnTheWay the_version) IsDatabaseOf set_version finished set_never

-- ---- one after the other

module _ (Before Middle After : Tables → Database → Type 0) (a b c : State) (count : ℕ)
    (first : LeadsOn Before Middle a b (Ok count)) (result : Result ℕ Error)
    (second : LeadsOn Middle After b c result) where
  early : HasCleanDisk c → HasCleanDisk b
  early clean = omega (arith, second.survives.clean)

  both : IsLed Before Middle a b → (r : Result ℕ Error) → OnOk r (IsLed Middle After b c)
      → OnOk r (IsLed Before After a c)
  both one (Err e) two = tt
  both one (Ok n) two = record {
    was_open = one.was_open;
    inside = two.inside;
    goes = λ t is. two.goes t (one.goes t is);
    sound = λ t is. two.sound t (one.goes t is);
  }

  reached : IsLed Before Middle a b → (r : Result ℕ Error)
      → IfErr r (λ e. (t : Tables) → Middle t b.now → tells_taken e ≡ false)
      → IfErr r (λ e. (t : Tables) → Before t a.now → tells_taken e ≡ false)
  reached one (Ok n) none = tt
  reached one (Err e) none = λ t is. none t (one.goes t is)

  pub leads_then : LeadsOn Before After a c result
  leads_then = record {
    survives = survives_then a b c (λ _. ⊥) (λ _. ⊥) (λ _. ⊥) (λ _ db none. none) (λ _ db none. none) first.survives
        second.survives;
    kept = λ clean inside.
        let one = first.ok (early clean) inside in
        keeps_then a b c (first.kept (early clean) inside) (second.kept clean one.inside);
    ok = λ clean inside. let one = first.ok (early clean) inside in both one result (second.ok clean one.inside);
    untaken = λ clean inside.
        let one = first.ok (early clean) inside in reached one result (second.untaken clean one.inside);
  }

-- a refusal, whatever was to follow
pub leads_nowhere : (Before Middle After : Tables → Database → Type 0) (a b : State) (e : Error)
    → LeadsOn Before Middle {X = ℕ} a b (Err e) → LeadsOn Before After {X = ℕ} a b (Err e)
leads_nowhere Before Middle After a b e it =
    record { survives = it.survives; kept = it.kept; ok = λ clean inside. tt; untaken = it.untaken }

-- ---- from what was found

pub begins : (before : ℕ) (t : Tables) (d : Database) → IsDatabaseIn before t d → IsOnTheWay before t d
begins before t d is = record {
  schema = is.schema;
  says = before;
  rows = is.holds.rows;
  later = is.later;
  counts = is.holds.counts;
}

pub carried_on : (before : ℕ) (a b : State) (result : Result ℕ Error)
    → LeadsOn (IsOnTheWay before) IsDatabaseOf a b result
    → CarriesFrom (IsDatabaseIn before) (Unit {0}) (λ t. t) a b result
carried_on before a b result it = record {
  survives = it.survives;
  kept = it.kept;
  ok = λ clean inside. went result (it.ok clean inside);
}
  where
    went : (r : Result ℕ Error) → OnOk r (IsLed (IsOnTheWay before) IsDatabaseOf a b)
        → OnOk r (GoesFrom (IsDatabaseIn before) (Unit {0}) (λ t. t) a b)
    went (Err e) one = tt
    went (Ok n) one = record {
      was_open = λ _. one.was_open;
      inside = one.inside;
      goes = λ t is. one.goes t (begins before t a.now is);
      sound = λ t is. one.sound t (begins before t a.now is);
    }

-- tables of now are those of their version, and the other way round
pub in_now : (t : Tables) (d : Database) → IsDatabaseOf t d → IsDatabaseIn the_version t d
in_now t d is = record { schema = is.schema; holds = is.holds; later = none }
  where
    none : HoldsNoLater the_version t
    none name.Meta since = absurd (let apart = since in cc)
    none n since = absurd (let apart = since in cc)

pub of_now : (t : Tables) (d : Database) → IsDatabaseIn the_version t d → IsDatabaseOf t d
of_now t d is = record { schema = is.schema; holds = is.holds }

-- ---- the whole migration

still_found : (t : Tables) (old new : State) → Looks old new → HasCleanDisk new → IsTrue new.is_open → IsFound t old
    → IsFound t new
still_found t old new looks clean is_open found =
    let same = looks.kept clean is_open found.1 in
    (subst (IsDatabaseOf t) (sym same.0) found.0, same.1, subst IsDatabase (sym same.0) found.2)

found_now : (t : Tables) (s : State) → IsFoundIn the_version t s → IsFound t s
found_now t s found = (of_now t s.now found.0, found.1, found.2)

-- tables of now
pub current_migrates : {E : Type 0} (old new : State) → Looks old new → (HasCleanDisk new → IsTrue old.is_open)
    → (HasCleanDisk new → (v : Version) (t : Tables) → IsDatabaseIn (number_of v) t old.now → v ≡ version.Current)
    → Migrates {E = E} old new (Ok tt)
current_migrates old new looks opened only = record {
  clean = looks.clean;
  reopens = looks.reopens;
  opened = opened;
  ok = λ clean is_open v t found. still_found t old new looks clean is_open
      (found_now t old (subst (λ w. IsFoundIn (number_of w) t old) (only clean v t found.0) found));
  done = λ clean v t found. inr (found_now t old
      (subst (λ w. IsFoundIn (number_of w) t old) (only clean v t found.0) found));
  err = λ clean is_open settled. tt;
  crash = λ clean db may. inl (looks.leaves clean db may);
  same = λ clean t found. looks;
  usable = looks.usable;
}

-- a refusal
pub refused_migrates : {E : Type 0} (e : E) (old new : State) → Looks old new → Migrates old new (Err e)
refused_migrates e old new looks = record {
  clean = looks.clean;
  reopens = looks.reopens;
  opened = λ clean. tt;
  ok = λ clean is_open v t found. tt;
  done = λ clean v t found. tt;
  err = looks.kept;
  crash = λ clean db may. inl (looks.leaves clean db may);
  same = λ clean t found. looks;
  usable = looks.usable;
}

-- tables of one version that isn't that of now
module _ (from : Version) (other : from ≢ version.Current) (old mid new : State) (looks : Looks old mid)
    (opened : HasCleanDisk mid → IsTrue old.is_open)
    (only : HasCleanDisk mid → (v : Version) (t : Tables) → IsDatabaseIn (number_of v) t old.now → v ≡ from)
    (r : Result (Unit {0}) Error)
    (commits : CommitsFrom (IsDatabaseIn (number_of from)) (Unit {0}) (λ t. t) mid new r) where
  seen : HasCleanDisk new → IsTrue mid.is_open → (v : Version) (t : Tables) → IsFoundIn (number_of v) t old
      → IsDatabaseIn (number_of from) t mid.now
  seen clean is_open v t found =
      let here : IsFoundIn (number_of from) t old =
      subst (λ w. IsFoundIn (number_of w) t old) (only (commits.clean clean) v t found.0) found in
      subst (IsDatabaseIn (number_of from) t) (sym (looks.kept (commits.clean clean) is_open here.1).0) here.0

  not_now : HasCleanDisk new → (t : Tables) → ¬ IsFound t old
  not_now clean t found =
      other (sym (only (commits.clean clean) version.Current t (in_now t old.now found.0)))

  crashed : HasCleanDisk new → (db : Trees) → new.may_leave db
      → old.may_leave db ⊎ ((v : Version) (t : Tables) → IsFoundIn (number_of v) t old → IsStored t db)
  crashed clean db may = elim (commits.crash clean db may) [
    | inl before ↦ inl (looks.leaves (commits.clean clean) db before)
    | inr now ↦ inr (λ v t found. now.1 t (seen clean (now.0 tt) v t found))
  ]

  usable : StaysUsable old new
  usable = usable_in_turn old mid new commits.clean looks.usable commits.usable

  reopened : HasCleanDisk new → IsTrue new.is_open → IsTrue old.is_open
  reopened clean is_open = looks.reopens (commits.clean clean) (commits.reopens clean is_open)

  pub earlier_migrates : {E : Type 0} → r ≡ Ok tt → Migrates {E = E} old new (Ok tt)
  earlier_migrates is = record {
    clean = λ clean. looks.clean (commits.clean clean);
    reopens = reopened;
    opened = λ clean. opened (commits.clean clean);
    ok = λ clean is_open v t found.
        let was : IsTrue mid.is_open = commits.reopens clean is_open in
        rw is at commits.ok clean t (seen clean was v t found);
    done = λ clean v t found.
        let both : IsTrue mid.is_open × IsTrue new.is_open = rw is at commits.opened clean in inl both.1;
    err = λ clean is_open settled. tt;
    crash = crashed;
    same = λ clean t found. absurd (not_now clean t found);
    usable = usable;
  }

  pub earlier_refused : {E : Type 0} (e : E) (error : Error) → r ≡ Err error → Migrates old new (Err e)
  earlier_refused e error is = record {
    clean = λ clean. looks.clean (commits.clean clean);
    reopens = reopened;
    opened = λ clean. tt;
    ok = λ clean is_open v t found. tt;
    done = λ clean v t found. tt;
    err = λ clean is_open settled.
        let before = looks.kept (commits.clean clean) (commits.reopens clean is_open) settled in
        let after : (new.now ≡ mid.now) × (new.now ≡ new.committed) = rw is at commits.err clean is_open before.1 in
        (after.0 ∙ before.0, after.1);
    crash = crashed;
    same = λ clean t found. absurd (not_now clean t found);
    usable = usable;
  }

  -- no name is in the way of what was found
  pub earlier_ours : (error : Error) → r ≡ Err error
      → (HasCleanDisk new → IfErr r (λ e. (t : Tables) → IsDatabaseIn (number_of from) t mid.now
      → tells_taken e ≡ false))
      → tells_taken error ≡ true → HasCleanDisk new → IsTrue new.is_open → (v : Version) (t : Tables)
      → ¬ IsFoundIn (number_of v) t old
  earlier_ours error is never taken clean is_open v t found =
      let none : (t : Tables) → IsDatabaseIn (number_of from) t mid.now → tells_taken error ≡ false =
      rw is at never clean in
      let apart = none t (seen clean (commits.reopens clean is_open) v t found) in
      cc
