-- A batch of texts that make tables, with one more text at its end, in turn.
use Rattle.tables.proofs.Words.{Command, Err, Error, ExecutesIn, Ghosts, Held, IsPlain, List, None, Ok, Result}
use Rattle.tables.proofs.Words.{RunInTurn, Runs, Schema, Some, State, Stops, [], ap, cases_Bool, command_of, drop}
use Rattle.tables.proofs.Words.{everything, first_len, inl, inr, list_any, refl, shows_rows, state, statement_of, subst}
use Rattle.tables.proofs.Words.{subst₂, suc, sym, take, text_of, timed, true, understood, zero, ℕ, ◌∙◌, ◌∷◌, ◌≡◌, ◌⊎◌}
use Rattle.tables.specs.Names.{Name, names}
use Rattle.tables.specs.auxiliary.Creation.{insert_version, joined, text_for}

-- as `runs_as` of `sqlite`, in a batch
module _ (sql : List ℕ) (old new : State) (schema : Schema) (has : old.now.schema ≡ schema) (command : Command)
    (is : command_of (understood schema sql) ≡ command) (plain : IsPlain (understood schema sql)) where
  pub ran_as : (count : ℕ) → ExecutesIn true sql [] old new (Ok count)
      → Runs old new None command (statement_of sql (understood schema sql)) [] count
  unfolding ExecutesIn
  ran_as count h =
      let known = sym h.1.is ∙ ap (λ s. understood s sql) has in
      let bare = subst IsPlain (sym known) plain in
      let ran : Runs old new h.0.returning h.0.command (text_of sql h.0) (timed [] h.0.formats h.1.now) count =
      elim (cases_Bool (shows_rows true h.0)) [
        | inl shows ↦ absurd (let e = (rw shows at h.2).0 in cc)
        | inr runs ↦ rw runs at h.2
      ] in
      subst₂ (λ k t. Runs old new None k t [] count) (ap command_of known ∙ is) (ap (statement_of sql) known)
      (rw (bare.0, bare.1) at ran)

on : {B E R : Type 0} {b : B} {Stops : E → Type 0}
    → ((stop : E) × (◌≡◌ {A = Result B E} (Ok b) (Err stop)) × Stops stop) ⊎ R → R
on (inl stopped) = absurd (let e = stopped.1 in cc)
on (inr rest) = rest

-- the first statement of a text, and the others
abbrev pub IsCut : List ℕ → List ℕ → List ℕ → Type 0
IsCut text piece rest =
    (take (first_len text) text ≡ piece) × (drop (first_len text) text ≡ rest) × (list_any (λ _. true) text ≡ true)

abbrev pub AreCut : List Name → List ℕ → Type 0
AreCut [] last = IsCut last last []
AreCut (m ∷ more) last = IsCut (joined (m ∷ more) last) (text_for m) (joined more last) × AreCut more last

pub are_cut : AreCut names insert_version
unfolding everything
are_cut = assumption

pub cut_last : (ns : List Name) (last : List ℕ) → AreCut ns last → IsCut last last []
cut_last [] last cut = cut
cut_last (m ∷ more) last cut = cut_last more last cut.1

module _ {S : Type 0} (g : Ghosts S) where
  abbrev pub Ran : List ℕ → Held S → Held S → Type 0
  Ran sql a b = (count : ℕ) × ExecutesIn true sql [] (state g a) (state g b) (Ok count)

  -- a text of however many statements is run
  abbrev pub Goes : List ℕ → Held S → Held S → Result (Unit {0}) Error → Type 0
  Goes text old new r = (most : ℕ) × RunInTurn g (Some 0) most text old new r

  -- its first statement: it stops there, or the others run after it
  abbrev pub Turns : List ℕ → List ℕ → Held S → Held S → Result (Unit {0}) Error → Type 0
  Turns piece rest old new r =
      ((e : Error) × (r ≡ Err e) × Stops g (Some 0) piece old new e) ⊎ ((mid : Held S) × Ran piece old mid × Goes rest mid new r)

  pub turn : (text piece rest : List ℕ) → IsCut text piece rest → (old new : Held S) (r : Result (Unit {0}) Error)
      → Goes text old new r → Turns piece rest old new r
  turn [] piece rest cut old new r ran = absurd (let none = cut.2 in cc)
  turn (b ∷ more) piece rest cut old new r (zero, ran) = absurd ran
  turn (b ∷ more) piece rest cut old new r (suc most, inl stopped) =
      inl (stopped.0, stopped.1, subst (λ sql. Stops g (Some 0) sql old new stopped.0) cut.0 stopped.2)
  turn (b ∷ more) piece rest cut old new r (suc most, inr on) =
      inr (
        on.0,
        (on.1, subst (λ sql. ExecutesIn true sql [] (state g old) (state g on.0) (Ok on.1)) cut.0 on.2.runs),
        (most, subst (λ text. RunInTurn g (Some 0) most text on.0 new r) cut.1 on.3),
      )

  pub ended : (old new : Held S) (r : Result (Unit {0}) Error) → Goes [] old new r → (r ≡ Ok tt) × (new ≡ old)
  ended old new r (zero, ran) = ran
  ended old new r (suc most, ran) = ran

  -- each was run, and the last text after them
  abbrev pub InTurn : List Name → List ℕ → Held S → Held S → Type 0
  InTurn [] last old new = Ran last old new
  InTurn (m ∷ more) last old new = (mid : Held S) × Ran (text_for m) old mid × InTurn more last mid new

  pub in_turn : (ns : List Name) (last : List ℕ) → AreCut ns last → (old new : Held S)
      → Goes (joined ns last) old new (Ok tt) → InTurn ns last old new
  in_turn [] last cut old new ran =
      let it = on (turn last last [] cut old new (Ok tt) ran) in
      subst (Ran last old) (sym (ended it.0 new (Ok tt) it.2).1) it.1
  in_turn (m ∷ more) last cut old new ran =
      let it = on (turn (joined (m ∷ more) last) (text_for m) (joined more last) cut.0 old new (Ok tt) ran) in
      (it.0, it.1, in_turn more last cut.1 it.0 new it.2)
