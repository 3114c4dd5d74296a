-- What goes out of a session, by what was written.
use Rattle.std.proofs.Common.{◌≡◌, ℕ, ◌<◌, true, false, List, [], ◌∷◌, ◌++◌, Result, Ok, Err, Option, None, Some, refl}
use Rattle.std.proofs.Common.{sym, ◌∙◌, subst, inl, inr, append_assoc, length, arith}
use Rattle.std.proofs.{lemmas.List.append-nil, KnownBytes.Appends-nil}
use Rattle.std.specs.{Io.KnownBytes.Appends, Io.KnownBytes.Consumes, Io.KnownBytes.append_known, List.AllByRecursion}
use Rattle.cms.specs.Ahead.{AreOutstanding, IsAhead, FailsFirst, SendsAhead, ReceivesAhead}
use Rattle.cms.specs.Framed.{frame, frames, FramedState, Asks, closes, SendsBeginning, ReceivesNoAnswer, SignsByFrame}
use Rattle.cms.specs.{Framed.IsShort, Sent.ArePartOf, Sent.SendsFrames}
use Rattle.cms.specs.declared.signer.SignerFault.{SignerFault, TheVariants.Failed, TheVariants.Memory}

all_of : {X : Type 0} (list : List X) → ArePartOf list list
all_of [] = tt
all_of (x ∷ list) = inl (refl, all_of list)

-- nothing
pub writes_nothing : {R W : Type 0} (x y : FramedState R W) (texts : List (List ℕ)) → y.written ≡ x.written
    → (x.is_closed ≡ true → y.is_closed ≡ true) → SendsFrames x texts y
writes_nothing x y texts same still = record {
  chosen = [];
  in_order = tt;
  sent = [];
  unsent = [];
  split = refl;
  grown = subst (λ w. Appends x.written w []) (sym same) (Appends-nil x.written);
  whole = λ opened. refl;
  silent = λ closed. refl;
  still_closed = still;
}

-- all of the frames
pub writes_all : {R W : Type 0} (x y : FramedState R W) (texts : List (List ℕ)) → x.is_closed ≡ false
    → Appends x.written y.written (frames texts) → SendsFrames x texts y
writes_all x y texts opened grown = record {
  chosen = texts;
  in_order = all_of texts;
  sent = frames texts;
  unsent = [];
  split = sym (append-nil (frames texts));
  grown = grown;
  whole = λ is. refl;
  silent = λ closed. let apart : true ≡ false = sym closed ∙ opened in cc;
  still_closed = λ closed. let apart : true ≡ false = sym closed ∙ opened in cc;
}

-- a beginning
pub writes_some : {R W : Type 0} (x y : FramedState R W) (texts : List (List ℕ)) → x.is_closed ≡ false
    → y.is_closed ≡ true → SendsBeginning x.written y.written (frames texts) → SendsFrames x texts y
writes_some x y texts opened closed s = record {
  chosen = texts;
  in_order = all_of texts;
  sent = s.sent;
  unsent = s.unsent;
  split = s.split;
  grown = s.grown;
  whole = λ is. let apart : true ≡ false = sym closed ∙ is in cc;
  silent = λ is. let apart : true ≡ false = sym is ∙ opened in cc;
  still_closed = λ is. closed;
}

one_frame : (text : List ℕ) → frame text ≡ frames (text ∷ [])
one_frame text = sym (append-nil (frame text))

pub appends_alike : (u v w z : Option (List ℕ)) (octets : List ℕ) → u ≡ w → v ≡ z → Appends u v octets → Appends w z octets
appends_alike u v w z octets first second grown =
    subst (λ o. Appends o z octets) first (subst (λ o. Appends u o octets) second grown)

pub begins_alike : (u v w z : Option (List ℕ)) (octets : List ℕ) → u ≡ w → v ≡ z → SendsBeginning u v octets
    → SendsBeginning w z octets
begins_alike u v w z octets first second s = record {
  sent = s.sent;
  unsent = s.unsent;
  split = s.split;
  grown = appends_alike u v w z s.sent first second s.grown;
}

-- a text that is asked for over an open session
pub asks_once : {R W : Type 0} (a b x y : FramedState R W) (text : List ℕ) (answer : Result (List ℕ) SignerFault)
    → a.written ≡ x.written → b.written ≡ y.written → x.is_closed ≡ false → y.is_closed ≡ closes answer
    → Asks a text answer b → SendsFrames x (text ∷ []) y
asks_once a b x y text (Ok answer) first second opened closed asks =
    writes_all x y (text ∷ []) opened (appends_alike a.written b.written x.written y.written (frames (text ∷ []))
    first second (subst (λ (octets : List ℕ). Appends a.written b.written octets) (one_frame text) asks.sent))
asks_once a b x y text (Err Memory) first second opened closed asks =
    writes_nothing x y (text ∷ []) (sym second ∙ asks.same_written ∙ first)
    (λ is. let apart : true ≡ false = sym is ∙ opened in cc)
asks_once a b x y text (Err Failed) first second opened closed (inl long) =
    writes_nothing x y (text ∷ []) (sym second ∙ long.untouched.same_written ∙ first) (λ is. closed)
asks_once a b x y text (Err Failed) first second opened closed (inr (inl stops)) =
    writes_some x y (text ∷ []) opened closed (begins_alike a.written b.written x.written y.written
    (frames (text ∷ [])) first second (subst (SendsBeginning a.written b.written) (one_frame text) stops.sent))
asks_once a b x y text (Err Failed) first second opened closed (inr (inr stops)) =
    writes_all x y (text ∷ []) opened (appends_alike a.written b.written x.written y.written (frames (text ∷ []))
    first second (subst (λ (octets : List ℕ). Appends a.written b.written octets) (one_frame text) stops.sent))

pub fails_closed : {R W : Type 0} (x : FramedState R W) (texts : List (List ℕ)) → x.is_closed ≡ true
    → FailsFirst SignsByFrame x texts
fails_closed x [] closed = tt
fails_closed x (text ∷ texts) closed = (
  x,
  (
    λ is. record {
      failed = refl;
      untouched = record { same_reader = refl; same_writer = refl; same_unread = refl; same_written = refl };
      closed = closed;
    },
    λ opened. let apart : true ≡ false = sym closed ∙ opened in cc,
  ),
)

-- the frames of an open session stop on their way
pub fails_open : {R W : Type 0} (x : FramedState R W) (texts : List (List ℕ)) → x.is_closed ≡ false
    → AllByRecursion IsShort texts → FailsFirst SignsByFrame x texts
fails_open x [] opened short = tt
fails_open x (text ∷ texts) opened short = (
  record x { is_closed = true },
  (
    λ closed. let apart : true ≡ false = sym closed ∙ opened in cc,
    λ is. record {
      asks = inr (inl (record {
        short = short.0;
        sent = record { sent = []; unsent = frame text; split = refl; grown = Appends-nil x.written };
        same_reader = refl;
        same_unread = refl;
      }));
      closed = refl;
    },
  ),
)

pub fails_to_send : {R W : Type 0} (X A : Type 0) (x y : FramedState R W) (texts : List (List ℕ)) (fault : SignerFault)
    → fault ≡ Failed → FailsFirst SignsByFrame x texts → y.is_closed ≡ true
    → SendsAhead {X = X} {A = A} SignsByFrame IsAhead (λ s. s.is_closed ≡ true) x texts (Err fault) y
fails_to_send X A x y texts fault failed first closed =
    subst (λ f. SendsAhead {X = X} {A = A} SignsByFrame IsAhead (λ s. s.is_closed ≡ true) x texts (Err f) y)
    (sym failed) (first, closed)

-- texts are outstanding once their frames are gone
pub are_ahead : {R W : Type 0} (x y : FramedState R W) (texts : List (List ℕ)) → 0 < length texts
    → x.is_closed ≡ false → y.is_closed ≡ false → AllByRecursion IsShort texts → y.unread ≡ x.unread
    → Appends x.written y.written (frames texts) → IsAhead x texts y
are_ahead x y [] some opened still short same sent = absurd (omega (arith, some))
are_ahead x y (text ∷ texts) some opened still short same sent =
    record { opened = opened; still_open = still; short = short; same_unread = same; sent = sent }

appends_known : (w : Option (List ℕ)) (octets : List ℕ) → Appends w (append_known w octets) octets
appends_known None octets = tt
appends_known (Some xs) octets = refl

appends_rest : (w v : Option (List ℕ)) (octets rest : List ℕ) → Appends w v (octets ++ rest)
    → Appends (append_known w octets) v rest
appends_rest None v octets rest all = tt
appends_rest (Some xs) None octets rest all = absurd all
appends_rest (Some xs) (Some ys) octets rest all = all ∙ sym (append_assoc xs octets rest)

-- an answer comes in
pub receives_one : {R W : Type 0} (o y : FramedState R W) (unread : Option (List ℕ)) (answer : List ℕ)
    → unread ≡ o.unread → Consumes unread y.unread (frame answer) → y.written ≡ o.written → y.is_closed ≡ false
    → (x : FramedState R W) (text : List ℕ) (texts : List (List ℕ)) → AreOutstanding x (text ∷ texts) o
    → ReceivesAhead SignsByFrame IsAhead x text texts (Ok answer) y
receives_one o y unread answer is comes same still x text [] a =
    let all : Appends x.written y.written (frame text) =
    subst (λ w. Appends x.written w (frame text)) (sym same)
    (subst (λ (octets : List ℕ). Appends x.written o.written octets) (append-nil (frame text)) a.sent) in (
      y,
      (
        (
          λ closed. let apart : true ≡ false = sym closed ∙ a.opened in cc,
          λ opened. record {
            asks = record {
              short = a.short.0;
              sent = all;
              received = subst (λ u. Consumes u y.unread (frame answer)) (is ∙ a.same_unread) comes;
            };
            closed = still;
          },
        ),
        refl,
      ),
    )
receives_one o y unread answer is comes same still x text (other ∷ texts) a = (
  record x { unread = y.unread; written = append_known x.written (frame text) },
  (
    (
      λ closed. let apart : true ≡ false = sym closed ∙ a.opened in cc,
      λ opened. record {
        asks = record {
          short = a.short.0;
          sent = appends_known x.written (frame text);
          received = subst (λ u. Consumes u y.unread (frame answer)) (is ∙ a.same_unread) comes;
        };
        closed = opened;
      },
    ),
    record {
      opened = a.opened;
      still_open = still;
      short = a.short.1;
      same_unread = refl;
      sent = appends_rest x.written y.written (frame text) (frames (other ∷ texts))
          (subst (λ w. Appends x.written w (frame text ++ frames (other ∷ texts))) (sym same)
          a.sent);
    },
  ),
)

-- none does
pub receives_none : {R W : Type 0} (o : FramedState R W) (unread after : Option (List ℕ)) → unread ≡ o.unread
    → ReceivesNoAnswer unread after → (x : FramedState R W) (text : List ℕ) (texts : List (List ℕ))
    → AreOutstanding x (text ∷ texts) o → FailsFirst SignsByFrame x (text ∷ texts)
receives_none o unread after is stops x text texts a = (
  record x { unread = after; written = append_known x.written (frame text); is_closed = true },
  (
    λ closed. let apart : true ≡ false = sym closed ∙ a.opened in cc,
    λ opened. record {
      asks = inr (inr (record {
        short = a.short.0;
        sent = appends_known x.written (frame text);
        received = subst (λ u. ReceivesNoAnswer u after) (is ∙ a.same_unread) stops;
      }));
      closed = refl;
    },
  ),
)

pub ruleset sending_laws =
    (writes_nothing, writes_some, writes_all, fails_closed, fails_open, fails_to_send, appends_alike, begins_alike)
