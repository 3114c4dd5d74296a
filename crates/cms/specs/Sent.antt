-- What goes out to a key holder, whatever fails.
use Rattle.std.specs.Prelude.{◌≡◌, ◌⊎◌, ℕ, true, false, List, [], ◌∷◌, ◌++◌}
use Rattle.std.specs.Io.KnownBytes.{Appends}
use Rattle.cms.specs.Framed.{frames, FramedState}

-- some items of a list, in its order, each as often as there at most
abbrev pub ArePartOf : {X : Type 0} → List X → List X → Type 0
ArePartOf [] whole = Unit {0}
ArePartOf (x ∷ part) [] = ⊥
ArePartOf (x ∷ part) (y ∷ whole) = ((x ≡ y) × ArePartOf part whole) ⊎ ArePartOf (x ∷ part) whole

-- Of these texts some go out in their order, in frames, and nothing else does. Where not all of these frames do, only
-- a beginning, the session is closed. Over a session that is closed nothing goes out any more.
pub record SendsFrames {R W : Type 0} (before : FramedState R W) (texts : List (List ℕ)) (after : FramedState R W)
    : Type 0 where
  pub chosen : List (List ℕ)
  pub in_order : ArePartOf chosen texts
  pub sent : List ℕ
  pub unsent : List ℕ
  pub split : frames chosen ≡ sent ++ unsent
  pub grown : Appends before.written after.written sent
  pub whole : after.is_closed ≡ false → unsent ≡ []
  pub silent : before.is_closed ≡ true → sent ≡ []
  pub still_closed : before.is_closed ≡ true → after.is_closed ≡ true
