-- Runs: journeys go on by them, and an account's run is one from each history that agrees.
use Rattle.std.proofs.Common.{◌≡◌, ℕ, ◌⊎◌, List, [], ◌∷◌, Option, Some, None, Result, drop, refl, sym, subst, inl}
use Rattle.std.proofs.Common.{inr}
use Rattle.cms.specs.declared.signer.SignerFault.{SignerFault}
use Rattle.book.specs.{History.History, Sound.IsSound}
use Rattle.desk.specs.Command.{Setting, Command, Stamp, Begin, Finish, Abandon, Deposit, Show, Token, ListAll, Grant}
use Rattle.desk.specs.Command.{Revoke, Calibrate, Hold, Succeed, Answer, setting_after}
use Rattle.desk.specs.MachineRuns.{IsProper, Told, Journey, goes, stops, after, cut, Runs, HasProperties}
use Rattle.desk.specs.Laws.{Continues, AreMet, AreCommandsOf, RunsAlike}
use Rattle.desk.specs.{Agreement.Agree, Agreement.IsCommandOf, Content.IsSoundInFull, Outcome.Outcome, Effects.Effect}
use Rattle.desk.specs.{MachineStep.HasEffect, MachineStep.IsMet, Names.IsNameableFor, Viewers.viewer_in}
use Rattle.desk.proofs.journeys.StepFacts.{step_adds, adds_fit, adds_true, adds_names, adds_cut}
use Rattle.desk.proofs.journeys.KeptPromises.{journeys_have_properties, proper_after}
use Rattle.desk.proofs.{journeys.Sound.TextLaws, journeys.SameEffect.effect_same, journeys.Agreement.step_agrees}

pub step_sound : TextLaws → (s : Setting) (c : Command) (o : Outcome) (e : Effect) (b : History) → IsProper s
    → IsNameableFor s c b → IsSoundInFull b → IsMet c b → HasEffect s c o b e
    → IsSoundInFull (after e b)
step_sound laws s c o e b proper nameable sound met h =
    let P = IsNameableFor s c b in
    let adds = step_adds laws s proper c o b e sound.sound met h in
    record {
      sound = adds_fit P e.adds b adds sound.sound;
      content = adds_true P e.adds b adds sound.content;
      naming = adds_names P nameable e.adds b adds sound.naming;
    }

pub cut_sound : TextLaws → (s : Setting) (c : Command) (o : Outcome) (e : Effect) (b : History) (k : ℕ) → IsProper s
    → IsNameableFor s c b → IsSoundInFull b → IsMet c b → HasEffect s c o b e
    → IsSoundInFull (cut k e b)
cut_sound laws s c o e b k proper nameable sound met h =
    let P = IsNameableFor s c b in
    let adds = adds_cut P k e.adds b (step_adds laws s proper c o b e sound.sound met h) in
    record {
      sound = adds_fit P (drop k e.adds) b adds sound.sound;
      content = adds_true P (drop k e.adds) b adds sound.content;
      naming = adds_names P nameable (drop k e.adds) b adds sound.naming;
    }

-- the step that comes next: it goes on, or is cut
continued_by : (s : Setting) (c : Command) (cs : List Command) (o : Outcome) (os : List Outcome) (b : History)
    (w : List Told) (b' : History) (x' : Option Setting) (w' : List Told) (e : Effect)
    → IsMet c b → Journey b (Some s) w → HasEffect s c o b e
    → (Journey (after e b) (Some (setting_after s c e.says)) (record { command = c; answer = e.says } ∷ w)
    → Continues (setting_after s c e.says) cs os (after e b) (record { command = c; answer = e.says } ∷ w) b' x' w'
    → Journey b' x' w')
    → ((k : ℕ) × (b' ≡ cut k e b) × (x' ≡ None) × (w' ≡ w))
    ⊎ Continues (setting_after s c e.says) cs os (after e b) (record { command = c; answer = e.says } ∷ w) b' x' w'
    → Journey b' x' w'
continued_by s c cs o os b w b' x' w' e met j h others (inl stop) =
    subst (λ y. Journey y x' w') (sym stop.1)
    (subst (λ y. Journey (cut stop.0 e b) y w') (sym stop.2)
    (subst (λ y. Journey (cut stop.0 e b) None y) (sym stop.3) (stops s c o e stop.0 met h j)))
continued_by s c cs o os b w b' x' w' e met j h others (inr more) = others (goes s c o e met h j) more

pub continued : (s : Setting) (cs : List Command) (os : List Outcome) (b : History) (w : List Told) (b' : History)
    (x' : Option Setting) (w' : List Told) → AreMet s cs os b
    → Journey b (Some s) w → Continues s cs os b w b' x' w' → Journey b' x' w'
continued s [] [] b w b' x' w' met j h =
    subst (λ y. Journey y x' w') (sym h.0)
    (subst (λ y. Journey b y w') (sym h.1) (subst (λ y. Journey b (Some s) y) (sym h.2) j))
continued s (c ∷ cs) [] b w b' x' w' met j h = absurd h
continued s [] (o ∷ os) b w b' x' w' met j h = absurd h
continued s (c ∷ cs) (o ∷ os) b w b' x' w' met j h =
    continued_by s c cs o os b w b' x' w' h.0 met.0 j h.1
    (λ j2 more. continued (setting_after s c h.0.says) cs os (after h.0 b)
    (record { command = c; answer = h.0.says } ∷ w) b' x' w' (met.1 h.0 h.1) j2 more) h.2

pub continued_properties : TextLaws → (s : Setting) (cs : List Command) (os : List Outcome) (b : History)
    (w : List Told) (b' : History) (x' : Option Setting) (w' : List Told) → AreMet s cs os b
    → Journey b (Some s) w → Continues s cs os b w b' x' w' → HasProperties b' w'
continued_properties laws s cs os b w b' x' w' met j h = journeys_have_properties laws b' x' w'
    (continued s cs os b w b' x' w' met j h)

-- what an account's caller has to see to, of no command of these
own_met : (account : List ℕ) (c : Command) (b : History) → IsCommandOf account c → IsMet c b
own_met account (Stamp by reading octets) b own = tt
own_met account (Begin by reading octets) b own = tt
own_met account (Finish p signature) b own = absurd own
own_met account (Abandon p) b own = absurd own
own_met account (Deposit a reading reference bytes) b own = tt
own_met account (Show a n) b own = tt
own_met account (Token a n) b own = tt
own_met account (ListAll a) b own = tt
own_met account (Grant a n reader) b own = tt
own_met account (Revoke a n reader) b own = tt
own_met account (Calibrate x) b own = absurd own
own_met account (Hold h) b own = absurd own
own_met account (Succeed next) b own = absurd own

pub runs_alike : {S : Type 0} (signs : S → List ℕ → Result (List ℕ) SignerFault → S → Type 0) → TextLaws
    → (account : List ℕ) (s : Setting) (cs : List Command) (os : List Outcome)
    (b c : History) (x : S) (answers : List Answer) (b' : History) (x' : S) → IsProper s → AreCommandsOf account cs
    → IsSound b → IsSound c → Agree (viewer_in s.file account) b c
    → Runs signs s cs os b x answers b' x' → RunsAlike signs account s cs os c x answers b' x'
runs_alike signs laws account s [] [] b c x [] b' x' proper own one other agree h =
    record { left = c; runs = (refl, h.1); agree = subst (λ y. Agree (viewer_in s.file account) y c) (sym h.0) agree }
runs_alike signs laws account s (d ∷ ds) (o ∷ os) b c x (answer ∷ answers) b' x' proper own one other agree h =
    let e = h.0 in
    let same = effect_same account s d o b c e agree own.0 h.2.0 in
    let one_after = adds_fit (IsNameableFor s d b) e.adds b (step_adds laws s proper d o b e one (own_met account d b own.0) h.2.0) one in
    let other_after = adds_fit (IsNameableFor s d c) e.adds c (step_adds laws s proper d o c e other
    (own_met account d c own.0) same) other in
    let again = step_agrees account s d o b c e one other agree own.0 h.2.0 in
    let rest = runs_alike signs laws account (setting_after s d e.says) ds os (after e b)
    (after e c) h.1 answers b' x' (proper_after s d b e.says (own_met account d b own.0) proper) own.1 one_after other_after again h.2.3 in
    record { left = rest.left; runs = (e, h.1, (same, h.2.1, h.2.2, rest.runs)); agree = rest.agree }
runs_alike signs laws account s [] [] b c x (answer ∷ answers) b' x' proper own one other agree h = absurd h
runs_alike signs laws account s [] (o ∷ os) b c x answers b' x' proper own one other agree h = absurd h
runs_alike signs laws account s (d ∷ ds) [] b c x answers b' x' proper own one other agree h = absurd h
runs_alike signs laws account s (d ∷ ds) (o ∷ os) b c x [] b' x' proper own one other agree h = absurd h
