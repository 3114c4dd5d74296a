-- What a reading that succeeds tells of each of its steps.
use Rattle.std.proofs.Common.{◌≡◌, if◌then◌else◌, Bool, true, false, Result, Ok, Err, refl}
use Rattle.der.specs.{FirstFault.◌>>=◌, declared.fault.DerFault.DerFault}

pub ok_is : {A : Type 0} (x y : A) → ◌≡◌ {A = Result A DerFault} (Ok x) (Ok y) → x ≡ y
ok_is x y e = cc

pub err_is_not : {A : Type 0} (e : DerFault) (y : A) → ◌≡◌ {A = Result A DerFault} (Err e) (Ok y) → ⊥
err_is_not e y h = cc

-- a test that refuses was not met
pub else_ok : {A : Type 0} (b : Bool) (e : DerFault) (r : Result A DerFault) (y : A) → (if b then Err e else r) ≡ Ok y
    → (b ≡ false) × (r ≡ Ok y)
else_ok true e r y h = absurd (err_is_not e y h)
else_ok false e r y h = (refl, h)

-- a test that answers was met
pub then_ok : {A : Type 0} (b : Bool) (e : DerFault) (x y : A) → (if b then Ok x else Err e) ≡ Ok y → (b ≡ true)
    × (x ≡ y)
then_ok true e x y h = (refl, ok_is x y h)
then_ok false e x y h = absurd (err_is_not e y h)

-- both steps succeeded
pub bind_ok : {A B : Type 0} (r : Result A DerFault) (f : A → Result B DerFault) (y : B) → (r >>= f) ≡ Ok y → (x : A)
    × (r ≡ Ok x) × (f x ≡ Ok y)
bind_ok (Ok x) f y h = (x, refl, h)
bind_ok (Err e) f y h = absurd (err_is_not e y h)
