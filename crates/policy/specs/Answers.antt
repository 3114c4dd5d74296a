-- What a reader that may want memory answers.
use Rattle.std.specs.Prelude.{◌≡◌, Result, Ok, Err}
use Rattle.policy.specs.declared.fault.PolicyFault.{PolicyFault, TheVariants.TooMany, TheVariants.Memory}
use Rattle.policy.specs.declared.fault.PolicyFault.TheVariants.{Toml, Missing, BadValue, Duplicate, UnknownName}

-- a refusal is the meaning's first fault, or memory ran out
abbrev pub IsFirstFault : {Y : Type 0} → PolicyFault → Result Y PolicyFault → Type 0
IsFirstFault Toml meaning = meaning ≡ Err Toml
IsFirstFault (Missing field) meaning = meaning ≡ Err (Missing field)
IsFirstFault (BadValue field) meaning = meaning ≡ Err (BadValue field)
IsFirstFault (Duplicate field) meaning = meaning ≡ Err (Duplicate field)
IsFirstFault (UnknownName field) meaning = meaning ≡ Err (UnknownName field)
IsFirstFault (TooMany field) meaning = meaning ≡ Err (TooMany field)
IsFirstFault Memory meaning = Unit {0}

-- What a function returned, seen by view, is what the meaning says, unless memory ran out.
abbrev pub AnswersMeaning : {X Y : Type 0} → (X → Y) → Result X PolicyFault → Result Y PolicyFault → Type 0
AnswersMeaning view (Ok x) meaning = meaning ≡ Ok (view x)
AnswersMeaning view (Err fault) meaning = IsFirstFault fault meaning
