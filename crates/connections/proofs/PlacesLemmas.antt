-- Places: connections that are added, read on, and taken out.
use Rattle.std.proofs.Common.{◌≡◌, ◌∙◌, ◌⊎◌, ℕ, ◌+◌, ◌<◌, ◌≤◌, Bool, true, false, List, [], ◌∷◌, ◌++◌, length, map}
use Rattle.std.proofs.Common.{zero, suc, take, drop, set, get_or, Option, Some, None, arith}
use Rattle.std.proofs.Common.{MatchOption, OnSome, refl, sym, ap, subst, inl, inr}
use Rattle.std.proofs.Math.Seq.{get_or-append_seam, map-set_same, split_at}
use Rattle.std.proofs.lemmas.List.{append-nil, append_assoc, length-append, length-map, length-take-le, map-append}
use Rattle.std.proofs.{KnownBytes.Consumes-nil, KnownBytes.Consumes-trans, lemmas.List.take_all, lemmas.List.get_or-map}
use Rattle.std.proofs.{lemmas.List.map-set, lemmas.List.Elements.length_all_zip, lemmas.Bool.false≢true}
use Rattle.std.specs.{List.AllByRecursion, Time.instant_nanos, Io.KnownBytes.Consumes, Io.KnownBytes.IsAtEnd}
use Rattle.connections.specs.Places.{Place, Intake, IsReadOn, AreReadOn, IsAt, IsNew, IsTakenOut, AreAdded}
use Rattle.connections.specs.Places.{AreAllUnfinished, AreRounds, AreWaitedFor, FailsOne, GivesOne, GivesWay}
use Rattle.connections.specs.Places.{IsFailure, IsGivenUp, IsUnfinished, LosesOne, MayGiveWay, TakesOne}
use Rattle.connections.specs.Places.{most_places, most_rounds, refused, lost, crowded, short, unheard}
use Rattle.connections.specs.declared.acceptor.Accepted.TheVariants.{One, Nothing, Short, Failed}
use Rattle.connections.specs.{Acceptor.came, Acceptor.AreTold, Acceptor.IsFine, Acceptor.WasShort}
use Rattle.connections.specs.{WaitingConnection.place_of}
use Rattle.connections.specs.{WaitingConnection.ComesOf, declared.acceptor.Accepted.Accepted}
use Rattle.connections.specs.{declared.waiting_connection.WaitingConnection.WaitingConnection}

pub all_then : {A : Type 0} (P : A → Type 0) (xs ys : List A) → AllByRecursion P xs → AllByRecursion P ys
    → AllByRecursion P (xs ++ ys)
all_then P [] ys all more = more
all_then P (x ∷ xs) ys all more = (all.0, all_then P xs ys all.1 more)

-- what was told, one after the other
came_then : {S : Type 0} (told more : List (Accepted S)) → came (told ++ more) ≡ came told ++ came more
came_then [] more = refl
came_then (One stream ∷ told) more = ap (λ all. stream ∷ all) (came_then told more)
came_then (Nothing ∷ told) more = came_then told more
came_then (Short ∷ told) more = came_then told more
came_then (Failed ∷ told) more = came_then told more

short_then : {S : Type 0} (told more : List (Accepted S)) → WasShort more → WasShort (told ++ more)
short_then [] more was = was
short_then (One stream ∷ told) more was = short_then told more was
short_then (Nothing ∷ told) more was = short_then told more was
short_then (Short ∷ told) more was = tt
short_then (Failed ∷ told) more was = short_then told more was

pub told_then : {A S : Type 0} (tells : A → Accepted S → A → Type 0) (old mid new : A) (told more : List (Accepted S))
    → AreTold tells old told mid → AreTold tells mid more new → AreTold tells old (told ++ more) new
told_then tells old mid new [] more same rest = subst (λ a. AreTold tells a more new) same rest
told_then tells old mid new (one ∷ told) more first rest =
    (first.0, (first.1.0, told_then tells first.0 mid new told more first.1.1 rest))

-- those that get places
module _ {A S : Type 0} (tells : A → Accepted S → A → Type 0) (shows : ℕ → Type 0) (most : ℕ) where
  abbrev Added : Intake A S → Intake A S → Type 0
  Added = AreAdded tells shows most

  pub none_added : (old : Intake A S) → Added old old
  none_added old = record {
    told = [];
    asked = refl;
    fine = tt;
    taken = [];
    unread = tt;
    are = refl;
    behind = sym (append-nil old.places);
    few = inl refl;
  }

  few_then : (first second : List (Place S)) (between mid last : List (Place S)) → length between ≡ length mid
      → last ≡ mid ++ second → ((first ≡ []) ⊎ ((length between ≤ most) × (length between ≤ most_places)))
      → ((second ≡ []) ⊎ ((length last ≤ most) × (length last ≤ most_places)))
      → ((first ++ second ≡ []) ⊎ ((length (between ++ second) ≤ most) × (length (between ++ second) ≤ most_places)))
  few_then first second between mid last long is (inl none) (inl nothing) =
      inl (ap (λ xs. xs ++ second) none ∙ nothing)
  few_then first second between mid last long is (inr few) (inl nothing) =
      inr (
        omega (arith, few.0, length-append between second, ap length nothing),
        omega (arith, few.1, length-append between second, ap length nothing),
      )
  few_then first second between mid last long is start (inr few) =
      inr (
        omega (arith, few.0, long, ap length is, length-append between second, length-append mid second),
        omega (arith, few.1, long, ap length is, length-append between second, length-append mid second),
      )

  -- more of them, behind those that were read on
  added_behind : (old first mid second : Intake A S) → Added old first → length first.places ≡ length mid.places
      → mid.acceptor ≡ first.acceptor → (more : Added mid second)
      → Added old (record { acceptor = second.acceptor; places = first.places ++ more.taken })
  added_behind old first mid second added long same more = record {
    told = added.told ++ more.told;
    asked = told_then tells old.acceptor first.acceptor second.acceptor added.told more.told added.asked
        (subst (λ a. AreTold tells a more.told second.acceptor) same more.asked);
    fine = all_then IsFine added.told more.told added.fine more.fine;
    taken = added.taken ++ more.taken;
    unread = all_then (IsNew shows) added.taken more.taken added.unread more.unread;
    are = map-append (λ p. p.stream) added.taken more.taken
        ∙ (ap (λ xs. xs ++ map (λ p. p.stream) more.taken) added.are
        ∙ (ap (λ xs. came added.told ++ xs) more.are ∙ sym (came_then added.told more.told)));
    behind = ap (λ xs. xs ++ more.taken) added.behind ∙ append_assoc old.places added.taken more.taken;
    few = few_then added.taken more.taken first.places mid.places second.places long more.behind added.few more.few;
  }

  pub added_then : (old mid new : Intake A S) → Added old mid → Added mid new → Added old new
  added_then old mid new first second =
      subst (λ all. Added old (record { acceptor = new.acceptor; places = all })) (sym second.behind)
      (added_behind old mid mid new first refl refl second)

  -- none came
  pub none_came : (old new : Intake A S) → tells old.acceptor Nothing new.acceptor → new.places ≡ old.places
      → Added old new
  none_came old new told same = record {
    told = Nothing ∷ [];
    asked = (new.acceptor, (told, refl));
    fine = (tt, tt);
    taken = [];
    unread = tt;
    are = refl;
    behind = same ∙ sym (append-nil old.places);
    few = inl refl;
  }

  -- nothing was to spare for one
  pub short_behind : (old mid new : Intake A S) → Added old mid → tells mid.acceptor Short new.acceptor
      → new.places ≡ mid.places → (added : Added old new) × WasShort added.told
  short_behind old mid new first told same = (
    record {
      told = first.told ++ (Short ∷ []);
      asked = told_then tells old.acceptor mid.acceptor new.acceptor first.told (Short ∷ []) first.asked
          (new.acceptor, (told, refl));
      fine = all_then IsFine first.told (Short ∷ []) first.fine (tt, tt);
      taken = first.taken;
      unread = first.unread;
      are = first.are ∙ sym (came_then first.told (Short ∷ []) ∙ append-nil (came first.told));
      behind = same ∙ first.behind;
      few = subst (λ all. (first.taken ≡ []) ⊎ ((length all ≤ most) × (length all ≤ most_places))) (sym same)
          first.few;
    },
    short_then first.told (Short ∷ []) tt,
  )

  -- one came
  pub one_came : (old new : Intake A S) (one : Place S) → tells old.acceptor (One one.stream) new.acceptor
      → IsNew shows one → new.places ≡ old.places ++ (one ∷ []) → length old.places < most
      → length old.places < most_places → Added old new
  one_came old new one told unread behind fewer few = record {
    told = One one.stream ∷ [];
    asked = (new.acceptor, (told, refl));
    fine = (tt, tt);
    taken = one ∷ [];
    unread = (unread, tt);
    are = refl;
    behind = behind;
    few = inr (
      omega (arith, fewer, ap length behind, length-append old.places (one ∷ [])),
      omega (arith, few, ap length behind, length-append old.places (one ∷ [])),
    );
  }

-- nothing comes behind the end
end_then : (a b c : Option (List ℕ)) (bs cs : List ℕ) → Consumes a b bs → Consumes b c cs → OnSome a (IsAtEnd b)
    → OnSome a (IsAtEnd c)
end_then None b c bs cs first second end = tt
end_then (Some x) None c bs cs first second end = absurd first
end_then (Some x) (Some y) None bs cs first second end = absurd second
end_then (Some x) (Some y) (Some z) [] [] first second end = sym second ∙ end
end_then (Some x) (Some y) (Some z) (b ∷ bs) [] first second end = sym second ∙ end
end_then (Some x) (Some y) (Some z) bs (d ∷ cs) first second end =
    absurd (omega (arith, ap length second, ap length end))

-- what a stream tells that told its octets before
end_of_told : (a b c : Option (List ℕ)) (bs : List ℕ) → Consumes a b bs → OnSome b (IsAtEnd c) → OnSome a (IsAtEnd c)
end_of_told None b c bs first end = tt
end_of_told (Some x) None c bs first end = absurd first
end_of_told (Some x) (Some y) c bs first end = end

-- the input ended by the first of two reads, or by the second
ends_then : (a b c : Option (List ℕ)) (bs cs : List ℕ) → Consumes a b bs → Consumes b c cs → (was between is : Bool)
    → (was ≡ false → between ≡ true → OnSome a (IsAtEnd b)) → (between ≡ false → is ≡ true → OnSome b (IsAtEnd c))
    → was ≡ false → is ≡ true → OnSome a (IsAtEnd c)
ends_then a b c bs cs first second was true is ended later fresh end =
    end_then a b c bs cs first second (ended fresh refl)
ends_then a b c bs cs first second was false is ended later fresh end =
    end_of_told a b c bs first (later refl end)

module _ {S : Type 0} (remaining : S → Option (List ℕ)) (fails : S → Type 0) where
  pub still_read : (one : Place S) → IsReadOn remaining fails one one
  still_read one = record {
    got = [];
    octets = sym (append-nil one.received.octets);
    consumed = Consumes-nil (remaining one.stream);
    ended = λ fresh end. absurd (false≢true (sym fresh ∙ end));
    taken = refl;
    failed = λ fine failed. absurd (false≢true (sym fine ∙ failed));
    kept = λ failed. refl;
  }

  -- it failed by the first of two reads, or by the second
  failed_then : (old mid new : Place S) (is : Bool) → mid.has_failed ≡ is → IsReadOn remaining fails old mid
      → IsReadOn remaining fails mid new → old.has_failed ≡ false → new.has_failed ≡ true → fails new.stream
  failed_then old mid new true is first second fine failed =
      subst (λ p. fails p.stream) (sym (second.kept is)) (first.failed fine is)
  failed_then old mid new false is first second fine failed = second.failed is failed

  pub read_then : (old mid new : Place S) → IsReadOn remaining fails old mid → IsReadOn remaining fails mid new
      → IsReadOn remaining fails old new
  read_then old mid new first second = record {
    got = first.got ++ second.got;
    octets = second.octets
        ∙ (ap (λ xs. xs ++ second.got) first.octets ∙ append_assoc old.received.octets first.got second.got);
    consumed = Consumes-trans (remaining old.stream) (remaining mid.stream) (remaining new.stream) first.got second.got
        first.consumed second.consumed;
    ended = ends_then (remaining old.stream) (remaining mid.stream) (remaining new.stream) first.got second.got
        first.consumed second.consumed old.received.is_ended mid.received.is_ended new.received.is_ended first.ended
        second.ended;
    taken = second.taken ∙ first.taken;
    failed = failed_then old mid new mid.has_failed refl first second;
    kept = λ failed. second.kept (ap (λ p. p.has_failed) (first.kept failed) ∙ failed) ∙ first.kept failed;
  }

  abbrev Read : List (Place S) → List (Place S) → Type 0
  Read = AreReadOn remaining fails

  pub all_still : (all : List (Place S)) → Read all all
  all_still [] = tt
  all_still (one ∷ all) = (still_read one, all_still all)

  pub all_then_read : (old mid new : List (Place S)) → Read old mid → Read mid new → Read old new
  all_then_read [] [] [] first second = tt
  all_then_read (x ∷ xs) (y ∷ ys) (z ∷ zs) first second =
      (read_then x y z first.0 second.0, all_then_read xs ys zs first.1 second.1)
  all_then_read [] [] (z ∷ zs) first second = absurd second
  all_then_read [] (y ∷ ys) new first second = absurd first
  all_then_read (x ∷ xs) [] new first second = absurd first
  all_then_read (x ∷ xs) (y ∷ ys) [] first second = absurd second

  all_behind : (old new more : List (Place S)) → Read old new → Read (old ++ more) (new ++ more)
  all_behind [] [] more read = all_still more
  all_behind (x ∷ xs) (y ∷ ys) more read = (read.0, all_behind xs ys more read.1)
  all_behind [] (y ∷ ys) more read = absurd read
  all_behind (x ∷ xs) [] more read = absurd read

  -- one of them is read on
  read_at : (old mid : List (Place S)) (place : ℕ) (one other : Place S) → place < length mid → Read old mid
      → IsReadOn remaining fails (get_or mid place other) one → Read old (set mid place one)
  read_at [] [] place one other within read next = absurd (omega (arith, within))
  read_at (x ∷ xs) (y ∷ ys) zero one other within read next = (read_then x y one read.0 next, read.1)
  read_at (x ∷ xs) (y ∷ ys) (suc i) one other within read next =
      (read.0, read_at xs ys i one other (omega (arith, within)) read.1 next)
  read_at [] (y ∷ ys) place one other within read next = absurd read
  read_at (x ∷ xs) [] place one other within read next = absurd read

  pub read_one : {W : Type 0} (place_of : W → Place S) (old : List (Place S)) (mid : List W) (place : ℕ) (one other : W)
      → place < length mid → Read old (map place_of mid)
      → IsReadOn remaining fails (place_of (get_or mid place other)) (place_of one)
      → Read old (map place_of (set mid place one))
  read_one place_of old mid place one other within read next =
      subst (λ all. Read old all) (sym (map-set place_of mid place one))
      (read_at old (map place_of mid) place (place_of one) (place_of other)
      (omega (arith, within, length-map mid place_of)) read
      (subst (λ p. IsReadOn remaining fails p (place_of one))
      (sym (get_or-map place_of mid place other (place_of other) within)) next))

module _ {A S : Type 0} (tells : A → Accepted S → A → Type 0) (shows : ℕ → Type 0)
    (remaining : S → Option (List ℕ)) (fails : S → Type 0) (most : ℕ) where
  abbrev Waits : Intake A S → Intake A S → Type 0
  Waits = AreWaitedFor tells shows remaining fails most

  abbrev Fails : Intake A S → Intake A S → Type 0
  Fails = FailsOne tells shows remaining fails most

  pub waits_added : (old new : Intake A S) → AreAdded tells shows most old new → Waits old new
  waits_added old new added = record {
    between = new;
    added = added;
    read = all_still remaining fails new.places;
    same = refl;
  }

  pub waits_none : (old : Intake A S) → Waits old old
  waits_none old = waits_added old old (none_added tells shows most old)

  -- nothing else changes behind them
  pub waits_same : (old mid new : Intake A S) → Waits old mid → new.acceptor ≡ mid.acceptor
      → new.places ≡ mid.places → Waits old new
  waits_same old mid new waits same places = record {
    between = waits.between;
    added = waits.added;
    read = rw places waits.read;
    same = same ∙ waits.same;
  }

  pub waits_then : (old mid new : Intake A S) → Waits old mid → Waits mid new → Waits old new
  waits_then old mid new first second =
      let start = first.between in
      let more = second.added.taken in
      let read : AreReadOn remaining fails (start.places ++ more) second.between.places =
      rw second.added.behind (all_behind remaining fails start.places mid.places more first.read) in
      record {
        between = record { acceptor = second.between.acceptor; places = start.places ++ more };
        added = added_behind tells shows most old start mid second.between first.added
            (length_all_zip (IsReadOn remaining fails) start.places mid.places first.read) first.same second.added;
        read = all_then_read remaining fails (start.places ++ more) second.between.places new.places read second.read;
        same = second.same;
      }

  abbrev Rounds : ℕ → Intake A S → Intake A S → Type 0
  Rounds rounds = AreRounds tells shows remaining fails rounds most

  pub rounds_none : (old : Intake A S) → Rounds 0 old old
  rounds_none old = (waits_none old, omega arith)

  told_all : (old mid new : Intake A S) (first : Waits old mid) (second : Waits mid new)
      → (waits_then old mid new first second).added.told ≡ first.added.told ++ second.added.told
  unfolding waits_then added_behind
  told_all old mid new first second = refl

  pub rounds_then : (n : ℕ) (old mid new : Intake A S) → Rounds n old mid → Rounds 1 mid new → Rounds (n + 1) old new
  rounds_then n old mid new first second = (
    waits_then old mid new first.0 second.0,
    omega (
      arith,
      first.1,
      second.1,
      ap length (told_all old mid new first.0 second.0),
      length-append first.0.added.told second.0.added.told,
    ),
  )

  pub round_told : (old mid new : Intake A S) → Waits old mid → tells mid.acceptor Nothing new.acceptor
      → new.places ≡ mid.places → Rounds 1 old new
  unfolding waits_added none_came
  round_told old mid new waits told same =
      let more : Waits mid new = waits_added mid new (none_came tells shows most mid new told same) in
      let once : length more.added.told ≡ 1 = refl in (
        waits_then old mid new waits more,
        omega (
          arith,
          once,
          ap length (told_all old mid new waits more),
          length-append waits.added.told more.added.told,
        ),
      )

  -- one fails
  pub fails_refused : (old last new : Intake A S) → Waits old last → tells last.acceptor Failed new.acceptor
      → new.places ≡ last.places → Fails old new
  fails_refused old last new waits is same = record { last = last; heard = waits; cause = refused is same }

  pub fails_unheard : (n : ℕ) (old new : Intake A S) → Rounds n old new → most_rounds ≤ n → Fails old new
  fails_unheard n old new rounds all = record {
    last = new;
    heard = rounds.0;
    cause = unheard (omega (arith, all, rounds.1)) refl;
  }

  failure_later : (told more : List (Accepted S)) (old new : Intake A S)
      → IsFailure tells shows remaining fails most more old new
      → IsFailure tells shows remaining fails most (told ++ more) old new
  failure_later told more old new (refused is same) = refused is same
  failure_later told more old new (lost now shown one loses same) = lost now shown one loses same
  failure_later told more old new (crowded now shown full rest gives added some) =
      crowded now shown full rest gives added some
  failure_later told more old new (short now shown was gives same) =
      short now shown (short_then told more was) gives same
  failure_later told more old new (unheard all same) =
      unheard (omega (arith, all, length-append told more)) same

  -- what comes behind
  pub comes_later : (old mid new : Intake A S) → Waits old mid → (done : Option (WaitingConnection S))
      → ComesOf tells shows remaining fails most mid done new
      → ComesOf tells shows remaining fails most old done new
  comes_later old mid new waits None later = record {
    last = later.last;
    heard = waits_then old mid later.last waits later.heard;
    cause = subst (λ told. IsFailure tells shows remaining fails most told later.last new)
        (sym (told_all old mid later.last waits later.heard))
        (failure_later waits.added.told later.heard.added.told later.last new later.cause);
  }
  comes_later old mid new waits (Some one) later = record {
    last = later.last;
    heard = waits_then old mid later.last waits later.heard;
    one = later.one;
    given = later.given;
    same = later.same;
    came = later.came;
    through = later.through;
  }

  -- what comes of those that have places
  pub comes_done : (now : ℕ) → shows now → (old mid new : Intake A S) → Waits old mid → new.acceptor ≡ mid.acceptor
      → (done : Option (WaitingConnection S))
      → MatchOption done ((one : Place S) × LosesOne remaining fails now mid.places one new.places)
      (λ one. GivesOne remaining fails mid.places (place_of one) new.places)
      → ComesOf tells shows remaining fails most old done new
  comes_done now shown old mid new waits same None loses =
      record { last = mid; heard = waits; cause = lost now shown loses.0 loses.1 same }
  comes_done now shown old mid new waits same (Some one) gives = record {
    last = mid;
    heard = waits;
    one = place_of one;
    given = gives;
    same = same;
    came = refl;
    through = refl;
  }

-- one that is taken out of a list
pub taken_out : {W S : Type 0} (place_of : W → Place S) (old new : List W) (place : ℕ) (one : W) → place < length old
    → one ≡ get_or old place one → new ≡ take place old ++ drop (place + 1) old
    → IsTakenOut place (place_of one) (map place_of old) (map place_of new)
taken_out place_of old new place one within is rest =
    let next : suc place ≡ place + 1 = omega arith in
    let split : old ≡ take place old ++ (one ∷ drop (place + 1) old) =
    split_at old place one within
    ∙ (ap (λ w. take place old ++ (w ∷ drop (suc place) old)) (sym is)
    ∙ ap (λ n. take place old ++ (one ∷ drop n old)) next) in
    record {
      before = map place_of (take place old);
      behind = map place_of (drop (place + 1) old);
      stood = ap (map place_of) split ∙ map-append place_of (take place old) (one ∷ drop (place + 1) old);
      there = length-map (take place old) place_of ∙ length-take-le place old (omega (arith, within));
      stay = ap (map place_of) rest ∙ map-append place_of (take place old) (drop (place + 1) old);
    }

-- what holds of the one that has that place
pub holds_of_taken : {S : Type 0} (Holds : Place S → Type 0) (place : ℕ) (one : Place S) (all new : List (Place S))
    → IsTakenOut place one all new → IsAt place Holds all → Holds one
holds_of_taken Holds place one all new out at =
    let taken_is : get_or all place one ≡ one =
    ap (λ xs. get_or xs place one) out.stood
    ∙ (ap (λ n. get_or (out.before ++ (one ∷ out.behind)) n one) (sym out.there)
    ∙ get_or-append_seam out.before one out.behind one) in
    subst Holds taken_is (at.holds one)

-- those before this place aren't whole
abbrev pub AreBefore : {S : Type 0} → ℕ → List (Place S) → Type 0
AreBefore place all = AllByRecursion (λ one. IsUnfinished one.received) (take place all)

pub none_before : {S : Type 0} (place : ℕ) (all : List (Place S)) → length all ≤ place → AreBefore place all
    → AllByRecursion (λ one. IsUnfinished one.received) all
none_before place all end before =
    subst (AllByRecursion (λ one. IsUnfinished one.received)) (take_all place all end) before

-- nor is the next, which is read
next_before : {S : Type 0} (all : List (WaitingConnection S)) (place : ℕ) (one : WaitingConnection S) → place < length all
    → IsUnfinished one.request → AreBefore place (map place_of all)
    → AreBefore (suc place) (map place_of (set all place one))
next_before [] place one within is before = absurd (omega (arith, within))
next_before (x ∷ xs) zero one within is before = (is, tt)
next_before (x ∷ xs) (suc i) one within is before =
    (before.0, next_before xs i one (omega (arith, within)) is before.1)

pub one_more_before : {S : Type 0} (all : List (WaitingConnection S)) (place : ℕ) (one : WaitingConnection S) → place < length all
    → IsUnfinished one.request → AreBefore place (map place_of all)
    → AreBefore (place + 1) (map place_of (set all place one))
one_more_before all place one within is before =
    let next : suc place ≡ place + 1 = omega arith in
    subst (λ n. AreBefore n (map place_of (set all place one))) next (next_before all place one within is before)

-- one of them is read once more
pub read_once_more : {S : Type 0} (remaining : S → Option (List ℕ)) (fails : S → Type 0) (old : List (Place S))
    (mid : List (WaitingConnection S)) (place : ℕ) (was one : WaitingConnection S) → place < length mid → was ≡ get_or mid place was
    → AreReadOn remaining fails old (map place_of mid) → IsReadOn remaining fails (place_of was) (place_of one)
    → AreReadOn remaining fails old (map place_of (set mid place one))
read_once_more remaining fails old mid place was one within is read next =
    read_one remaining fails place_of old mid place one was within read
    (subst (λ w. IsReadOn remaining fails (place_of w) (place_of one)) is next)

-- one of them is heard of
pub heard_same : {S : Type 0} (items : List (WaitingConnection S)) (i : ℕ) (one was : WaitingConnection S)
    → one.request ≡ (get_or items i was).request → one.peer.stream ≡ (get_or items i was).peer.stream
    → one.taken ≡ (get_or items i was).taken → one.has_failed ≡ (get_or items i was).has_failed
    → map place_of (set items i one) ≡ map place_of items
heard_same items i one was received stream taken failed =
    map-set_same place_of items i one was
    (λ j. record { received = received j; stream = stream j; taken = instant_nanos (taken j); has_failed = failed j })

-- one is taken out of its place of which this holds
pub takes_one : {S : Type 0} (remaining : S → Option (List ℕ)) (fails : S → Type 0) (Holds : Place S → Type 0)
    (old mid new : List (Place S)) → AreReadOn remaining fails old mid → (place : ℕ) (one : Place S)
    → IsTakenOut place one mid new → IsAt place Holds mid → TakesOne remaining fails Holds old one new
takes_one remaining fails Holds old mid new read place one out at = record {
  last = mid;
  read = read;
  place = place;
  out = out;
  holds = holds_of_taken Holds place one mid new out at;
}

-- the first gives way
pub given_up : {S : Type 0} (now : ℕ) (old new : List (Place S)) (first : Place S) → IsTakenOut 0 first old new
    → IsAt 0 (MayGiveWay now) old → IsGivenUp now old new
given_up now old new first out at =
    record { first = first; out = out; may = holds_of_taken (MayGiveWay now) 0 first old new out at }

pub gives_way : {W S : Type 0} (place_of : W → Place S) (items : List W) (one : W) → 0 < length items
    → GivesWay (place_of one) (map place_of items)
    (map place_of (drop 1 (set items 0 one) ++ take 1 (set items 0 one)))
gives_way place_of [] one within = absurd (omega (arith, within))
gives_way place_of (first ∷ items) one within = (
  place_of first,
  map place_of items,
  record { before = []; behind = map place_of items; stood = refl; there = refl; stay = refl },
  map-append place_of items (one ∷ []),
)

-- the acceptor gave the one that gets the first's place
pub given_way : {A S : Type 0} (tells : A → Accepted S → A → Type 0) (shows : ℕ → Type 0) (most : ℕ)
    (old new : Intake A S) (one : Place S) → (way : GivesWay one old.places new.places)
    → tells old.acceptor (One one.stream) new.acceptor → IsNew shows one → length old.places ≡ most_places
    → length old.places < most → AreAdded tells shows most (record { acceptor = old.acceptor; places = way.1 }) new
given_way tells shows most old new one way told unread full few =
    let out = way.2 in
    let fewer : length way.1 + 1 ≡ length old.places =
    omega (
      arith,
      ap length out.stood,
      length-append out.before (way.0 ∷ out.behind),
      ap length out.stay,
      length-append out.before out.behind,
    ) in
    one_came tells shows most (record { acceptor = old.acceptor; places = way.1 }) new one told unread way.3
    (omega (arith, fewer, few)) (omega (arith, fewer, full))

-- those that are read on before one is given
pub given_behind : {S : Type 0} (remaining : S → Option (List ℕ)) (fails : S → Type 0) (old mid new : List (Place S))
    → AreReadOn remaining fails old mid → (taken : Option (WaitingConnection S))
    → MatchOption taken (AreAllUnfinished remaining fails mid new)
    (λ one. GivesOne remaining fails mid (place_of one) new)
    → MatchOption taken (AreAllUnfinished remaining fails old new)
    (λ one. GivesOne remaining fails old (place_of one) new)
given_behind remaining fails old mid new read None more = record {
  read = all_then_read remaining fails old mid new read more.read;
  unfinished = more.unfinished;
}
given_behind remaining fails old mid new read (Some one) gives = record {
  last = gives.last;
  read = all_then_read remaining fails old mid gives.last read gives.read;
  place = gives.place;
  out = gives.out;
  holds = gives.holds;
}
