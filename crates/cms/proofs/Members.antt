-- What is written member after member is what the definitions join.
use Rattle.std.proofs.Common.{◌≡◌, ℕ, List, [], ◌∷◌, ◌++◌, ap, sym, ◌∙◌, append_assoc}
use Rattle.std.proofs.lemmas.List.{append-nil}
use Rattle.der.specs.{Node.element, ObjectIdentifier.oid_content}
use Rattle.cms.specs.Grammar.{joined, object_identifier}

pub joined_one : (a x : List ℕ) → a ≡ x → a ≡ joined (x ∷ [])
joined_one a x e = e ∙ sym (append-nil x)

-- one value under a tag
pub under : (tag : ℕ) (a x : List ℕ) → a ≡ x → element tag a ≡ element tag (joined (x ∷ []))
under tag a x e = ap (element tag) (joined_one a x e)

pub identified : (content subidentifiers : List ℕ) → oid_content subidentifiers ≡ content
    → element 6 content ≡ object_identifier subidentifiers
identified content subidentifiers e = ap (element 6) (sym e)

plain_two : (x y : List ℕ) → ([] ++ x) ++ y ≡ joined (x ∷ y ∷ [])
plain_two x y = simp append-nil

pub joined_two : (a b x y : List ℕ) → a ≡ x → b ≡ y → ([] ++ a) ++ b ≡ joined (x ∷ y ∷ [])
joined_two a b x y e f = let plain = plain_two x y in cc

plain_three : (x y z : List ℕ) → (([] ++ x) ++ y) ++ z ≡ joined (x ∷ y ∷ z ∷ [])
plain_three x y z = simp (append_assoc, append-nil)

pub joined_three : (a b c x y z : List ℕ) → a ≡ x → b ≡ y → c ≡ z → (([] ++ a) ++ b) ++ c ≡ joined (x ∷ y ∷ z ∷ [])
joined_three a b c x y z e f g = let plain = plain_three x y z in cc

plain_six : (x y z u v w : List ℕ) → ((((([] ++ x) ++ y) ++ z) ++ u) ++ v) ++ w ≡ joined (x ∷ y ∷ z ∷ u ∷ v ∷ w ∷ [])
plain_six x y z u v w = simp (append_assoc, append-nil)

pub joined_six : (a b c d f g x y z u v w : List ℕ) → a ≡ x → b ≡ y → c ≡ z → d ≡ u → f ≡ v → g ≡ w
    → ((((([] ++ a) ++ b) ++ c) ++ d) ++ f) ++ g ≡ joined (x ∷ y ∷ z ∷ u ∷ v ∷ w ∷ [])
joined_six a b c d f g x y z u v w e1 e2 e3 e4 e5 e6 = let plain = plain_six x y z u v w in cc

-- ---- octets that grow step by step

pub grown_two : (w0 w1 w2 a b : List ℕ) → w0 ≡ [] → w1 ≡ w0 ++ a → w2 ≡ w1 ++ b → w2 ≡ ([] ++ a) ++ b
grown_two w0 w1 w2 a b e0 e1 e2 = e2 ∙ ap (λ w. w ++ b) (e1 ∙ ap (λ w. w ++ a) e0)

pub grown_three : (w0 w1 w2 w3 a b c : List ℕ) → w0 ≡ [] → w1 ≡ w0 ++ a → w2 ≡ w1 ++ b → w3 ≡ w2 ++ c
    → w3 ≡ (([] ++ a) ++ b) ++ c
grown_three w0 w1 w2 w3 a b c e0 e1 e2 e3 = e3 ∙ ap (λ w. w ++ c) (grown_two w0 w1 w2 a b e0 e1 e2)

pub grown_four : (w0 w1 w2 w3 w4 a b c d : List ℕ) → w0 ≡ [] → w1 ≡ w0 ++ a → w2 ≡ w1 ++ b → w3 ≡ w2 ++ c → w4 ≡ w3 ++ d
    → w4 ≡ ((([] ++ a) ++ b) ++ c) ++ d
grown_four w0 w1 w2 w3 w4 a b c d e0 e1 e2 e3 e4 = e4 ∙ ap (λ w. w ++ d) (grown_three w0 w1 w2 w3 a b c e0 e1 e2 e3)

pub grown_six : (w0 w1 w2 w3 w4 w5 w6 a b c d f g : List ℕ) → w0 ≡ [] → w1 ≡ w0 ++ a → w2 ≡ w1 ++ b → w3 ≡ w2 ++ c
    → w4 ≡ w3 ++ d
    → w5 ≡ w4 ++ f → w6 ≡ w5 ++ g → w6 ≡ ((((([] ++ a) ++ b) ++ c) ++ d) ++ f) ++ g
grown_six w0 w1 w2 w3 w4 w5 w6 a b c d f g e0 e1 e2 e3 e4 e5 e6 =
    e6 ∙ ap (λ w. w ++ g) (e5 ∙ ap (λ w. w ++ f) (grown_four w0 w1 w2 w3 w4 a b c d e0 e1 e2 e3 e4))

pub grown_five : (w0 w1 w2 w3 w4 w5 a b c d f : List ℕ) → w0 ≡ [] → w1 ≡ w0 ++ a → w2 ≡ w1 ++ b → w3 ≡ w2 ++ c
    → w4 ≡ w3 ++ d
    → w5 ≡ w4 ++ f → w5 ≡ (((([] ++ a) ++ b) ++ c) ++ d) ++ f
grown_five w0 w1 w2 w3 w4 w5 a b c d f e0 e1 e2 e3 e4 e5 =
    e5 ∙ ap (λ w. w ++ f) (grown_four w0 w1 w2 w3 w4 a b c d e0 e1 e2 e3 e4)
