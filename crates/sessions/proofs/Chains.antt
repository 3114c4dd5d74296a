-- Texts that are handed over and asked for one after the other, by sessions that are renewed.
use Rattle.std.proofs.Common.{◌≡◌, ℕ, ◌+◌, ◌==◌, ◌<◌, true, false, List, [], ◌∷◌, ◌++◌, length, Option, Some}
use Rattle.std.proofs.Common.{None, Result, Ok, Err, refl, sym, ap, ◌∙◌, subst, inl, inr, arith, append_assoc, map}
use Rattle.std.proofs.{lemmas.Bool.Decides.nat_tests, lemmas.List.append-nil, lemmas.List.length-map}
use Rattle.cms.specs.declared.signer.SignerFault.TheVariants.{Failed}
use Rattle.cms.specs.{Ahead.FailsFirst, Ahead.ReceivesAhead, declared.signer.SignerFault.SignerFault}
use Rattle.cms.proofs.SignedEach.{signs_then}
use Rattle.sessions.specs.ReconnectingSigner.{AwaitsRenewed, asks, refused, abandoned, nothing, hands, told, lost, both}
use Rattle.sessions.specs.{ReconnectingSigner.ReconnectingState, ReconnectingSigner.AsksSession}
use Rattle.sessions.specs.{ReconnectingSigner.IsTaken, ReconnectingSigner.SignsRenewed, ReconnectingSigner.SendsRenewed}
use Rattle.sessions.specs.{ReconnectingSigner.Stands, ReconnectingSigner.still, ReconnectingSigner.taken}
use Rattle.sessions.specs.{ReconnectingSigner.sent, ReconnectingSigner.gone, auxiliary.RenewedLaws.all_signed}

-- a session that was taken and put back is asked as if it had just been taken
pub asked_once : {S O : Type 0} (signs : S → List ℕ → Result (List ℕ) SignerFault → S → Type 0) (fresh : S → Type 0)
    (before between : ReconnectingState S O) (session : S) (text : List ℕ) (answer : Result (List ℕ) SignerFault)
    (after : ReconnectingState S O) → IsTaken fresh before.session session → between.session ≡ Some session
    → between.ahead ≡ 0 → SignsRenewed signs fresh between text answer after
    → SignsRenewed signs fresh before text answer after
asked_once signs fresh before between session text answer after is kept none (asks other (inl same) step) =
    let one : other ≡ session = cc in
    asks session is (subst (λ s. AsksSession signs s text answer after.session) one step)
asked_once signs fresh before between session text answer after is kept none (asks other (inr new) step) =
    let apart : None ≡ Some session = sym new.0 ∙ kept in cc
asked_once signs fresh before between session text answer after is kept none (refused missing left failed) =
    let apart : None ≡ Some session = sym missing ∙ kept in cc
asked_once signs fresh before between session text answer after is kept none (abandoned some left failed) =
    absurd (omega (arith, some, none))

-- a session is asked, and fails
pub asks_failed : {S O : Type 0} (signs : S → List ℕ → Result (List ℕ) SignerFault → S → Type 0) (fresh : S → Type 0)
    (x z : ReconnectingState S O) (session now : S) (text : List ℕ) (fault other : SignerFault) → fault ≡ Failed
    → other ≡ Failed → IsTaken fresh x.session session → signs session text (Err fault) now → z.session ≡ None
    → SignsRenewed signs fresh x text (Err other) z
asks_failed signs fresh x z session now text fault other is same taking one none =
    subst (λ f. SignsRenewed signs fresh x text (Err f) z) (sym same) (asks session taking (record {
      after = now;
      signs_it = subst (λ f. signs session text (Err f) now) is one;
      left_so = none;
    }))

-- a failure leaves no session
pub fails_as : {S O : Type 0} (signs : S → List ℕ → Result (List ℕ) SignerFault → S → Type 0) (fresh : S → Type 0)
    (x y z : ReconnectingState S O) (text : List ℕ) → z.session ≡ None → SignsRenewed signs fresh x text (Err Failed) y
    → SignsRenewed signs fresh x text (Err Failed) z
fails_as signs fresh x y z text none (asks session is step) =
    asks session is (record { after = step.after; signs_it = step.signs_it; left_so = none })
fails_as signs fresh x y z text none (refused missing left failed) = refused missing none failed
fails_as signs fresh x y z text none (abandoned some left failed) = abandoned some none failed

module _ {S O : Type 0} (goes : S → List (List ℕ) → S → Type 0) (fresh : S → Type 0)
    (opens : O → Option S → O → Type 0) (signed : O → O → Type 0) (loses : O → S → O → Type 0) where
  -- nothing goes out before, and after
  pub sends_on : (x y z : ReconnectingState S O) (texts : List (List ℕ))
      → SendsRenewed goes fresh opens signed loses x [] y → SendsRenewed goes fresh opens signed loses y texts z
      → SendsRenewed goes fresh opens signed loses x texts z
  sends_on x y z texts first second = both x y z [] texts first second

  pub sends_off : (x y z : ReconnectingState S O) (texts : List (List ℕ))
      → SendsRenewed goes fresh opens signed loses x texts y → SendsRenewed goes fresh opens signed loses y [] z
      → SendsRenewed goes fresh opens signed loses x texts z
  sends_off x y z texts first second =
      subst (λ ts. SendsRenewed goes fresh opens signed loses x ts z) (append-nil texts)
      (both x y z texts [] first second)

  -- a session is asked and gives a signature
  pub hands_told : (x z : ReconnectingState S O) (texts : List (List ℕ)) (before after : S) → x.session ≡ Some before
      → goes before texts after → z.session ≡ Some after → signed x.sessions z.sessions
      → SendsRenewed goes fresh opens signed loses x texts z
  hands_told x z texts before after kept one left tells =
      let y = record x { session = Some after } in
      sends_off x y z texts (hands x texts y before after kept one refl refl) (told y z left tells)

  -- and is lost
  pub hands_lost : (x z : ReconnectingState S O) (texts : List (List ℕ)) (before after : S) → x.session ≡ Some before
      → goes before texts after → z.session ≡ None → loses x.sessions after z.sessions
      → SendsRenewed goes fresh opens signed loses x texts z
  hands_lost x z texts before after kept one none gives =
      let y = record x { session = Some after } in
      sends_off x y z texts (hands x texts y before after kept one refl refl) (lost y z after refl gives none)

  sends_next : (x y z : ReconnectingState S O) (texts : List (List ℕ)) (text : List ℕ) (outstanding : List (List ℕ))
      → SendsRenewed goes fresh opens signed loses x (texts ++ (text ∷ outstanding)) y
      → SendsRenewed goes fresh opens signed loses y [] z
      → SendsRenewed goes fresh opens signed loses x ((texts ++ (text ∷ [])) ++ outstanding) z
  sends_next x y z texts text outstanding first second =
      subst (λ ts. SendsRenewed goes fresh opens signed loses x ts z)
      (sym (append_assoc texts (text ∷ []) outstanding))
      (sends_off x y z (texts ++ (text ∷ outstanding)) first second)

  none_left : (x z : ReconnectingState S O) (texts outstanding : List (List ℕ)) → length outstanding ≡ 0
      → SendsRenewed goes fresh opens signed loses x (texts ++ outstanding) z
      → SendsRenewed goes fresh opens signed loses x texts z
  none_left x z texts [] none all =
      subst (λ ts. SendsRenewed goes fresh opens signed loses x ts z) (append-nil texts) all
  none_left x z texts (text ∷ outstanding) none all = absurd (omega (arith, none))

  module _ (signs : S → List ℕ → Result (List ℕ) SignerFault → S → Type 0) (is_ahead : S → List (List ℕ) → S → Type 0) where
    -- the next text fails where the session is gone
    fails_next : (m y z : ReconnectingState S O) (text : List ℕ) (outstanding : List (List ℕ)) → y.is_lost ≡ true
        → z.session ≡ y.session → Stands signs is_ahead fresh m (text ∷ outstanding) y
        → SignsRenewed signs fresh m text (Err Failed) z × (y.ahead ≡ 0) × (y.session ≡ None)
    fails_next m y z text outstanding is left (still same none leaves) =
        let empty = leaves (omega arith) is in
        (refused (ap (λ s. s.session) (sym same) ∙ empty) (left ∙ empty) refl, none (omega arith), empty)
    fails_next m y z text outstanding is left (taken session taking kept none fine some) =
        let apart : true ≡ false = sym is ∙ fine in cc
    fails_next m y z text outstanding is left (sent before after taking ahead kept many fine some) =
        let apart : true ≡ false = sym is ∙ fine in cc
    fails_next m y z text outstanding is left (gone first empty none fine some) =
        (fails_as signs fresh m first.0 z text (left ∙ empty) first.1, none, empty)

    pub lost_next : (y z : ReconnectingState S O) (text : List ℕ) (fault : SignerFault) → fault ≡ Failed
        → y.is_lost ≡ true → z.session ≡ y.session
        → z.sessions ≡ y.sessions → z.ahead ≡ y.ahead → z.is_lost ≡ true → (x : ReconnectingState S O)
        (texts : List (List ℕ)) (answers : List (Result (List ℕ) SignerFault)) (outstanding : List (List ℕ))
        → AwaitsRenewed signs is_ahead fresh (SendsRenewed goes fresh opens signed loses) x texts answers
        (text ∷ outstanding) y
        → AwaitsRenewed signs is_ahead fresh (SendsRenewed goes fresh opens signed loses) x (texts ++ (text ∷ []))
        (answers ++ (Err fault ∷ [])) outstanding z
    lost_next y z text fault failed is left alike many still_lost x texts answers outstanding a =
        let next = fails_next a.as_if y z text outstanding is left a.stands in
        record {
          as_if = z;
          signed = signs_then (SignsRenewed signs fresh) x texts answers a.as_if text (Err fault) z a.signed
              (subst (λ f. SignsRenewed signs fresh a.as_if text (Err f) z) (sym failed) next.0);
          stands = still refl (λ some. many ∙ next.1) (λ some fails. left ∙ next.2);
          went_out = sends_next x y z texts text outstanding a.went_out (nothing y [] z left alike);
          not_yet = λ none fine. let apart : true ≡ false = sym still_lost ∙ fine in cc;
        }

    -- the next text is asked for by itself
    asks_next : (m y z : ReconnectingState S O) (text : List ℕ) (answer : Result (List ℕ) SignerFault)
        (outstanding : List (List ℕ)) → y.is_lost ≡ false → y.ahead ≡ 0 → SignsRenewed signs fresh y text answer z
        → Stands signs is_ahead fresh m (text ∷ outstanding) y → SignsRenewed signs fresh m text answer z
    asks_next m y z text answer outstanding fine none one (still same idle leaves) =
        subst (λ s. SignsRenewed signs fresh s text answer z) same one
    asks_next m y z text answer outstanding fine none one (taken session taking kept idle open_still some) =
        asked_once signs fresh m y session text answer z taking kept none one
    asks_next m y z text answer outstanding fine none one (sent before after taking ahead kept many open_still some) =
        absurd (omega (arith, none, many, some))
    asks_next m y z text answer outstanding fine none one (gone first empty idle fails some) =
        let apart : true ≡ false = sym fails ∙ fine in cc

    pub asked_next : (w y z : ReconnectingState S O) (text : List ℕ) (answer : Result (List ℕ) SignerFault) → w ≡ y
        → y.is_lost ≡ false → y.ahead ≡ 0 → SignsRenewed signs fresh w text answer z
        → SendsRenewed goes fresh opens signed loses w (text ∷ []) z → z.ahead ≡ 0
        → (z.is_lost ≡ true → z.session ≡ None) → (x : ReconnectingState S O)
        (texts : List (List ℕ)) (answers : List (Result (List ℕ) SignerFault)) (outstanding : List (List ℕ))
        → AwaitsRenewed signs is_ahead fresh (SendsRenewed goes fresh opens signed loses) x texts answers
        (text ∷ outstanding) y
        → AwaitsRenewed signs is_ahead fresh (SendsRenewed goes fresh opens signed loses) x (texts ++ (text ∷ []))
        (answers ++ (answer ∷ [])) outstanding z
    asked_next w y z text answer same fine none one goes_out idle empty x texts answers outstanding a =
        let far = both x y z texts (text ∷ []) (a.not_yet none fine)
        (subst (λ s. SendsRenewed goes fresh opens signed loses s (text ∷ []) z) same goes_out) in
        record {
          as_if = z;
          signed = signs_then (SignsRenewed signs fresh) x texts answers a.as_if text answer z a.signed
              (asks_next a.as_if y z text answer outstanding fine none
              (subst (λ s. SignsRenewed signs fresh s text answer z) same one) a.stands);
          stands = still refl (λ some. idle) (λ some. empty);
          went_out = both x z z (texts ++ (text ∷ [])) outstanding far (nothing z outstanding z refl refl);
          not_yet = λ many open_still. far;
        }

    -- the session that the texts were sent to
    pub record WasSent (m : ReconnectingState S O) (outstanding : List (List ℕ)) (y : ReconnectingState S O) (session : S)
        : Type 0 where
      pub before : S
      pub taking : IsTaken fresh m.session before
      pub ahead : is_ahead before outstanding session
      pub many : y.ahead ≡ length outstanding

    was_sent : (m y : ReconnectingState S O) (session : S) (text : List ℕ) (outstanding : List (List ℕ)) → 0 < y.ahead
        → y.session ≡ Some session → Stands signs is_ahead fresh m (text ∷ outstanding) y
        → WasSent m (text ∷ outstanding) y session
    was_sent m y session text outstanding some kept (still same none leaves) =
        let idle = none (omega arith) in absurd (omega (arith, some, idle))
    was_sent m y session text outstanding some kept (taken other taking left none fine one) =
        absurd (omega (arith, some, none))
    was_sent m y session text outstanding some kept (sent before after taking ahead left many fine one) =
        let same : after ≡ session = let both_are : Some after ≡ Some session = sym left ∙ kept in cc in
        record {
          before = before;
          taking = taking;
          ahead = subst (λ s. is_ahead before (text ∷ outstanding) s) same ahead;
          many = many;
        }
    was_sent m y session text outstanding some kept (gone first empty none fails one) =
        absurd (omega (arith, some, none))

    no_session : (m y : ReconnectingState S O) (text : List ℕ) (outstanding : List (List ℕ)) → 0 < y.ahead
        → y.session ≡ None → Stands signs is_ahead fresh m (text ∷ outstanding) y → ⊥
    no_session m y text outstanding some missing (still same none leaves) =
        let idle = none (omega arith) in absurd (omega (arith, some, idle))
    no_session m y text outstanding some missing (taken other taking left none fine one) =
        absurd (omega (arith, some, none))
    no_session m y text outstanding some missing (sent before after taking ahead left many fine one) =
        let apart : None ≡ Some after = sym missing ∙ left in cc
    no_session m y text outstanding some missing (gone first empty none fails one) = absurd (omega (arith, some, none))

    -- a session is there as long as answers are to come
    pub none_missing : (y z : ReconnectingState S O) (text : List ℕ) (answer : Result (List ℕ) SignerFault) → 0 < y.ahead
        → y.session ≡ None → (x : ReconnectingState S O)
        (texts : List (List ℕ)) (answers : List (Result (List ℕ) SignerFault)) (outstanding : List (List ℕ))
        → AwaitsRenewed signs is_ahead fresh (SendsRenewed goes fresh opens signed loses) x texts answers
        (text ∷ outstanding) y
        → AwaitsRenewed signs is_ahead fresh (SendsRenewed goes fresh opens signed loses) x (texts ++ (text ∷ []))
        (answers ++ (answer ∷ [])) outstanding z
    none_missing y z text answer some missing x texts answers outstanding a =
        absurd (no_session a.as_if y text outstanding some missing a.stands)

    -- an answer comes of the session
    after_answer : (z : ReconnectingState S O) (next now : S) (outstanding : List (List ℕ))
        → ((x y : S) → is_ahead x [] y → y ≡ x) → is_ahead next outstanding now → z.session ≡ Some now
        → z.ahead ≡ length outstanding → z.is_lost ≡ false
        → (m : ReconnectingState S O) × (m.session ≡ Some next) × Stands signs is_ahead fresh m outstanding z
    after_answer z next now [] received ahead left many fine = (
      z,
      left ∙ ap Some (received next now ahead),
      still refl (λ some. absurd (omega (arith, some))) (λ some. absurd (omega (arith, some))),
    )
    after_answer z next now (text ∷ outstanding) received ahead left many fine = (
      record z { session = Some next },
      refl,
      sent next now (inl refl) ahead left many fine (omega arith),
    )

    pub answered_next : (y z : ReconnectingState S O) (session now : S) (text signature : List ℕ)
        → ((x y : S) → is_ahead x [] y → y ≡ x) → 0 < y.ahead → y.session ≡ Some session
        → ((x : S) (first : List ℕ) (others : List (List ℕ)) → is_ahead x (first ∷ others) session
        → ReceivesAhead signs is_ahead x first others (Ok signature) now)
        → goes session [] now → z.session ≡ Some now → signed y.sessions z.sessions → z.ahead + 1 ≡ y.ahead
        → z.is_lost ≡ false → (x : ReconnectingState S O)
        (texts : List (List ℕ)) (answers : List (Result (List ℕ) SignerFault)) (outstanding : List (List ℕ))
        → AwaitsRenewed signs is_ahead fresh (SendsRenewed goes fresh opens signed loses) x texts answers
        (text ∷ outstanding) y
        → AwaitsRenewed signs is_ahead fresh (SendsRenewed goes fresh opens signed loses) x (texts ++ (text ∷ []))
        (answers ++ (Ok signature ∷ [])) outstanding z
    answered_next y z session now text signature received some kept comes quiet left tells fewer fine x texts answers outstanding a =
        let was = was_sent a.as_if y session text outstanding some kept a.stands in
        let one = comes was.before text outstanding was.ahead in
        let all = was.many in
        let many : z.ahead ≡ length outstanding = omega (arith, fewer, all) in
        let after = after_answer z one.0 now outstanding received one.1.1 left many fine in
        let far = sends_next x y z texts text outstanding a.went_out
        (hands_told y z [] session now kept quiet left tells) in
        record {
          as_if = after.0;
          signed = signs_then (SignsRenewed signs fresh) x texts answers a.as_if text (Ok signature) after.0 a.signed
              (asks was.before was.taking (record { after = one.0; signs_it = one.1.0; left_so = after.1 }));
          stands = after.2;
          went_out = far;
          not_yet = λ none open_still. none_left x z (texts ++ (text ∷ [])) outstanding (sym many ∙ none) far;
        }

    -- or none does
    pub failed_next : (y z : ReconnectingState S O) (session now : S) (text : List ℕ) (fault : SignerFault)
        → fault ≡ Failed → 0 < y.ahead
        → y.session ≡ Some session
        → ((x : S) (first : List ℕ) (others : List (List ℕ)) → is_ahead x (first ∷ others) session
        → FailsFirst signs x (first ∷ others))
        → goes session [] now → z.session ≡ None → loses y.sessions now z.sessions → z.ahead ≡ 0
        → z.is_lost ≡ true → (x : ReconnectingState S O)
        (texts : List (List ℕ)) (answers : List (Result (List ℕ) SignerFault)) (outstanding : List (List ℕ))
        → AwaitsRenewed signs is_ahead fresh (SendsRenewed goes fresh opens signed loses) x texts answers
        (text ∷ outstanding) y
        → AwaitsRenewed signs is_ahead fresh (SendsRenewed goes fresh opens signed loses) x (texts ++ (text ∷ []))
        (answers ++ (Err fault ∷ [])) outstanding z
    failed_next y z session now text fault failed some kept fails quiet empty gives none is x texts answers outstanding a =
        let was = was_sent a.as_if y session text outstanding some kept a.stands in
        let one = fails was.before text outstanding was.ahead in
        record {
          as_if = z;
          signed = signs_then (SignsRenewed signs fresh) x texts answers a.as_if text (Err fault) z a.signed
              (asks_failed signs fresh a.as_if z was.before one.0 text Failed fault refl failed was.taking one.1 empty);
          stands = still refl (λ one_more. none) (λ one_more fine. empty);
          went_out = sends_next x y z texts text outstanding a.went_out
              (hands_lost y z [] session now kept quiet empty gives);
          not_yet = λ idle fine. let apart : true ≡ false = sym is ∙ fine in cc;
        }

    -- Texts are handed over. There are none;
    pub hands_none : (x : ReconnectingState S O) (texts : List (List ℕ)) → length texts ≡ 0
        → AwaitsRenewed signs is_ahead fresh (SendsRenewed goes fresh opens signed loses) x [] [] texts x
    hands_none x texts none = record {
      as_if = x;
      signed = refl;
      stands = still refl (λ some. absurd (omega (arith, some, none))) (λ some. absurd (omega (arith, some, none)));
      went_out = nothing x texts x refl refl;
      not_yet = λ idle fine. nothing x [] x refl refl;
    }

    -- or the session is gone;
    pub hands_gone : (x y : ReconnectingState S O) (texts : List (List ℕ)) → 0 < length texts
        → FailsFirst (SignsRenewed signs fresh) x texts → y.session ≡ None → y.ahead ≡ 0 → y.is_lost ≡ true
        → SendsRenewed goes fresh opens signed loses x texts y
        → AwaitsRenewed signs is_ahead fresh (SendsRenewed goes fresh opens signed loses) x [] [] texts y
    hands_gone x y texts some fails empty none is far = record {
      as_if = x;
      signed = refl;
      stands = gone fails empty none is (omega (arith, some));
      went_out = far;
      not_yet = λ idle fine. let apart : true ≡ false = sym is ∙ fine in cc;
    }

    fails_refused : (x y : ReconnectingState S O) (texts : List (List ℕ)) → x.session ≡ None → y.session ≡ None
        → FailsFirst (SignsRenewed signs fresh) x texts
    fails_refused x y [] missing empty = tt
    fails_refused x y (text ∷ texts) missing empty = (y, refused missing empty refl)

    fails_abandoned : (x y : ReconnectingState S O) (texts : List (List ℕ)) → 0 < x.ahead → y.session ≡ None
        → FailsFirst (SignsRenewed signs fresh) x texts
    fails_abandoned x y [] some empty = tt
    fails_abandoned x y (text ∷ texts) some empty = (y, abandoned some empty refl)

    fails_asked : (x y : ReconnectingState S O) (session : S) (texts : List (List ℕ))
        → IsTaken fresh x.session session → FailsFirst signs session texts → y.session ≡ None
        → FailsFirst (SignsRenewed signs fresh) x texts
    fails_asked x y session [] taking fails empty = tt
    fails_asked x y session (text ∷ texts) taking fails empty =
        (y, asks session taking (record { after = fails.0; signs_it = fails.1; left_so = empty }))

    -- as no other could be opened
    pub hands_refused : (x y : ReconnectingState S O) (texts : List (List ℕ)) → 0 < length texts → x.session ≡ None
        → y.session ≡ None → y.ahead ≡ 0 → y.is_lost ≡ true → SendsRenewed goes fresh opens signed loses x [] y
        → AwaitsRenewed signs is_ahead fresh (SendsRenewed goes fresh opens signed loses) x [] [] texts y
    hands_refused x y texts some missing empty none is far =
        hands_gone x y texts some (fails_refused x y texts missing empty) empty none is
        (sends_on x y y texts far (nothing y texts y refl refl))

    -- as answers to others were to come
    pub hands_abandoned : (x y : ReconnectingState S O) (texts : List (List ℕ)) → 0 < length texts → 0 < x.ahead
        → y.session ≡ None → y.ahead ≡ 0 → y.is_lost ≡ true → SendsRenewed goes fresh opens signed loses x [] y
        → AwaitsRenewed signs is_ahead fresh (SendsRenewed goes fresh opens signed loses) x [] [] texts y
    hands_abandoned x y texts some owed empty none is far =
        hands_gone x y texts some (fails_abandoned x y texts owed empty) empty none is
        (sends_on x y y texts far (nothing y texts y refl refl))

    -- as it failed
    pub hands_failed : (x t y : ReconnectingState S O) (session now : S) (texts : List (List ℕ)) → 0 < length texts
        → IsTaken fresh x.session session → FailsFirst signs session texts
        → SendsRenewed goes fresh opens signed loses x [] t → t.session ≡ Some session → goes session texts now
        → loses t.sessions now y.sessions → y.session ≡ None → y.ahead ≡ 0 → y.is_lost ≡ true
        → AwaitsRenewed signs is_ahead fresh (SendsRenewed goes fresh opens signed loses) x [] [] texts y
    hands_failed x t y session now texts some taking fails far kept one gives empty none is =
        hands_gone x y texts some (fails_asked x y session texts taking fails empty) empty none is
        (sends_on x t y texts far (hands_lost t y texts session now kept one empty gives))

    -- or all are sent;
    pub hands_all : (x t y : ReconnectingState S O) (session now : S) (texts : List (List ℕ)) → 0 < length texts
        → IsTaken fresh x.session session → is_ahead session texts now
        → SendsRenewed goes fresh opens signed loses x [] t → t.session ≡ Some session → goes session texts now
        → y.session ≡ Some now → y.sessions ≡ t.sessions → y.ahead ≡ length texts → y.is_lost ≡ false
        → AwaitsRenewed signs is_ahead fresh (SendsRenewed goes fresh opens signed loses) x [] [] texts y
    hands_all x t y session now texts some taking ahead far kept one left alike many fine = record {
      as_if = x;
      signed = refl;
      stands = sent session now taking ahead left many fine (omega (arith, some));
      went_out = sends_on x t y texts far (hands t texts y session now kept one left alike);
      not_yet = λ none open_still. absurd (omega (arith, none, many, some));
    }

    -- or each is asked for by itself.
    pub hands_singly : (x t y : ReconnectingState S O) (session : S) (texts : List (List ℕ)) → 0 < length texts
        → IsTaken fresh x.session session → SendsRenewed goes fresh opens signed loses x [] t
        → t.session ≡ Some session → y.session ≡ Some session → y.sessions ≡ t.sessions → y.ahead ≡ 0
        → y.is_lost ≡ false
        → AwaitsRenewed signs is_ahead fresh (SendsRenewed goes fresh opens signed loses) x [] [] texts y
    hands_singly x t y session texts some taking far kept left alike none fine =
        let so_far = sends_off x t y [] far (nothing t [] y (left ∙ sym kept) alike) in
        record {
          as_if = x;
          signed = refl;
          stands = taken session taking left none fine (omega (arith, some));
          went_out = sends_on x y y texts so_far (nothing y texts y refl refl);
          not_yet = λ idle open_still. so_far;
        }

    -- one text that was handed over and answered
    pub signs_one : (x y : ReconnectingState S O) (text : List ℕ) (answer : Result (List ℕ) SignerFault)
        → AwaitsRenewed signs is_ahead fresh (SendsRenewed goes fresh opens signed loses) x (text ∷ []) (answer ∷ []) [] y
        → SignsRenewed signs fresh x text answer y
    signs_one x y text answer a =
        let each = all_signed signs is_ahead fresh (SendsRenewed goes fresh opens signed loses) x y (text ∷ [])
        (answer ∷ []) a in
        subst (λ z. SignsRenewed signs fresh x text answer z) (sym each.1.1) each.1.0

pub none_owed : (n : ℕ) → (n == 0) ≡ true → n ≡ 0
none_owed n none = grind (arith, nat_tests)

pub some_owed : (n : ℕ) → (n == 0) ≡ false → 0 < n
some_owed n some = grind (arith, nat_tests)

pub none_texts : {T : Type 0} (f : T → List ℕ) (texts : List T) → (length texts == 0) ≡ true → length (map f texts) ≡ 0
none_texts f texts none = length-map texts f ∙ none_owed (length texts) none

pub some_texts : {T : Type 0} (f : T → List ℕ) (texts : List T) → (length texts == 0) ≡ false → 0 < length (map f texts)
some_texts f texts some = subst (λ n. 0 < n) (sym (length-map texts f)) (some_owed (length texts) some)
