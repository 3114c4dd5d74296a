-- What goes out over a session: nothing, one thing after another, a text. Proofs of what the trait of signers asks for.
use Rattle.std.proofs.Common.{◌≡◌, ◌⊎◌, ℕ, Bool, true, false, List, [], ◌∷◌, ◌++◌, refl, sym, ap, ◌∙◌, subst, inl, inr}
use Rattle.std.proofs.{Common.append_assoc, lemmas.List.append-nil, KnownBytes.Appends-nil, KnownBytes.Appends-trans}
use Rattle.std.specs.Io.KnownBytes.{Appends}
use Rattle.cms.specs.{Framed.frame, Framed.frames, Framed.FramedState, Sent.ArePartOf, Sent.SendsFrames}

pub sends_nothing : {R W : Type 0} (x : FramedState R W) (texts : List (List ℕ)) → SendsFrames x texts x
sends_nothing x texts = record {
  chosen = [];
  in_order = tt;
  sent = [];
  unsent = [];
  split = refl;
  grown = Appends-nil x.written;
  whole = λ opened. refl;
  silent = λ closed. refl;
  still_closed = λ closed. closed;
}

frames-append : (texts others : List (List ℕ)) → frames (texts ++ others) ≡ frames texts ++ frames others
frames-append [] others = refl
frames-append (text ∷ texts) others =
    ap (λ rest. frame text ++ rest) (frames-append texts others)
    ∙ sym (append_assoc (frame text) (frames texts) (frames others))

-- a part of a list is one of a longer list
part_of_more : {X : Type 0} (part whole more : List X) → ArePartOf part whole → ArePartOf part (whole ++ more)
part_of_more [] whole more is = tt
part_of_more (x ∷ part) [] more is = absurd is
part_of_more (x ∷ part) (y ∷ whole) more (inl is) = inl (is.0, part_of_more part whole more is.1)
part_of_more (x ∷ part) (y ∷ whole) more (inr is) = inr (part_of_more (x ∷ part) whole more is)

-- and of a list that begins with others
part_behind : {X : Type 0} (part others whole : List X) → ArePartOf part whole → ArePartOf part (others ++ whole)
part_behind [] others whole is = tt
part_behind (x ∷ part) [] whole is = is
part_behind (x ∷ part) (y ∷ others) whole is = inr (part_behind (x ∷ part) others whole is)

parts_of_both : {X : Type 0} (part whole others more : List X) → ArePartOf part whole → ArePartOf others more
    → ArePartOf (part ++ others) (whole ++ more)
parts_of_both [] whole others more is other = part_behind others whole more other
parts_of_both (x ∷ part) [] others more is other = absurd is
parts_of_both (x ∷ part) (y ∷ whole) others more (inl is) other =
    inl (is.0, parts_of_both part whole others more is.1 other)
parts_of_both (x ∷ part) (y ∷ whole) others more (inr is) other =
    inr (parts_of_both (x ∷ part) whole others more is other)

closed_or_not : (b : Bool) → (b ≡ true) ⊎ (b ≡ false)
closed_or_not true = inl refl
closed_or_not false = inr refl

-- a session that is closed by then sends nothing more
sends_once : {R W : Type 0} (x y z : FramedState R W) (texts others : List (List ℕ)) → SendsFrames x texts y
    → SendsFrames y others z → y.is_closed ≡ true → SendsFrames x (texts ++ others) z
sends_once x y z texts others one other closed =
    let none = other.silent closed in
    let shut = other.still_closed closed in
    let P : List ℕ → Type 0 = λ sent. Appends x.written z.written sent in
    record {
      chosen = one.chosen;
      in_order = part_of_more one.chosen texts others one.in_order;
      sent = one.sent;
      unsent = one.unsent;
      split = one.split;
      grown = subst P (ap (λ more. one.sent ++ more) none ∙ append-nil one.sent)
          (Appends-trans x.written y.written z.written one.sent other.sent one.grown other.grown);
      whole = λ opened. let apart : true ≡ false = sym shut ∙ opened in cc;
      silent = one.silent;
      still_closed = λ is. shut;
    }

sends_twice : {R W : Type 0} (x y z : FramedState R W) (texts others : List (List ℕ)) → SendsFrames x texts y
    → SendsFrames y others z → y.is_closed ≡ false → SendsFrames x (texts ++ others) z
sends_twice x y z texts others one other opened =
    let all : frames one.chosen ≡ one.sent =
    one.split ∙ (ap (λ more. one.sent ++ more) (one.whole opened) ∙ append-nil one.sent) in
    record {
      chosen = one.chosen ++ other.chosen;
      in_order = parts_of_both one.chosen texts other.chosen others one.in_order other.in_order;
      sent = one.sent ++ other.sent;
      unsent = other.unsent;
      split = frames-append one.chosen other.chosen
          ∙ (ap (λ front. front ++ frames other.chosen) all
          ∙ (ap (λ rest. one.sent ++ rest) other.split ∙ sym (append_assoc one.sent other.sent other.unsent)));
      grown = Appends-trans x.written y.written z.written one.sent other.sent one.grown other.grown;
      whole = other.whole;
      silent = λ closed. let apart : true ≡ false = sym (one.still_closed closed) ∙ opened in cc;
      still_closed = λ closed. let apart : true ≡ false = sym (one.still_closed closed) ∙ opened in cc;
    }

pub sends_after : {R W : Type 0} (x y z : FramedState R W) (texts others : List (List ℕ)) → SendsFrames x texts y
    → SendsFrames y others z → SendsFrames x (texts ++ others) z
sends_after x y z texts others one other = elim (closed_or_not y.is_closed) [
  | inl closed ↦ sends_once x y z texts others one other closed
  | inr opened ↦ sends_twice x y z texts others one other opened
]

pub sends_others : {R W : Type 0} (x : FramedState R W) (texts others : List (List ℕ)) (y : FramedState R W)
    → SendsFrames x texts y → SendsFrames x (texts ++ others) y
sends_others x texts others y one = sends_after x y y texts others one (sends_nothing y others)

pub sends_no_more : {R W : Type 0} (x y : FramedState R W) (texts : List (List ℕ)) → x.is_closed ≡ true
    → SendsFrames x texts y → SendsFrames x [] y
sends_no_more x y texts closed one = record {
  chosen = [];
  in_order = tt;
  sent = [];
  unsent = [];
  split = refl;
  grown = let P : List ℕ → Type 0 = λ sent. Appends x.written y.written sent in subst P (one.silent closed) one.grown;
  whole = λ opened. refl;
  silent = λ is. refl;
  still_closed = one.still_closed;
}
