-- What a parse found, as the values that the words state.
use Rattle.std.proofs.Common.{◌≡◌, ◌∙◌, ◌<◌, ◌^◌, ℕ, List, Bor, Result, Option, Ok, Err, Some, None, ap, sym, refl}
use Rattle.std.specs.Prelude.{option_map, unwrap_or}
use Rattle.std.specs.Str.Parse.{ParsesUnsigned, digits_value, without_leading_plus}
use Rattle.clap.specs.Words.{ReadsOne, Row, Text, first_of, first_value, one_text, rows_of}
use Rattle.clap.specs.declared.parser.matches.Found.{Found}
use Rattle.clap.proofs.WalkLemmas.{first_value-rows, one_text-rows}
use Rattle.command_line.specs.Words.{StatesNumber}

pub reads_number : {E : Type 0} (G : List ℕ → Result ℕ E → Type 0) (f : Found) (name : Text) (result : Option ℕ)
    (number : ℕ)
    → (one_text f name ≡ None → result ≡ None) → ((t : List ℕ) → one_text f name ≡ Some t → ReadsOne G t result)
    → ((t : List ℕ) (r : Result ℕ E) → G t r → ParsesUnsigned 64 10 t r) → result ≡ Some number
    → StatesNumber (rows_of f) name number
reads_number {E} G f name result number none value only is = go (one_text f name) refl
  where
    go : (o : Option Text) → one_text f name ≡ o → StatesNumber (rows_of f) name number
    go None e =
        let missing : result ≡ None = none e in
        cc
    go (Some t) e =
        let read : ReadsOne G t (Some number) = rw is at value t e in
        let parsed = only t (Ok number) read in
        record {
          text = t;
          given = sym (one_text-rows f name) ∙ e;
          numeral = parsed.0.0;
          value = parsed.1;
        }

pub unread_number : {E : Type 0} (G : List ℕ → Result ℕ E → Type 0) (f : Found) (name : Text) (result : Option ℕ)
    (number : ℕ)
    → ((t : List ℕ) → one_text f name ≡ Some t → ReadsOne G t result)
    → ((t : List ℕ) (r : Result ℕ E) → G t r → ParsesUnsigned 64 10 t r) → result ≡ None
    → StatesNumber (rows_of f) name number → number < 2 ^ 64 → ⊥
unread_number {E} G f name result number value only is states small =
    let read : ReadsOne G states.text None = rw is at value states.text (one_text-rows f name ∙ states.given) in
    only states.text (Err read.0) read.1 (states.numeral, rw states.value at small)

pub reads_some_text : (f : Found) (name : Text) (result : Option (Bor Text)) → option_map (λ s. s.now) result ≡
    first_value f name
    → first_of name (rows_of f) ≡ option_map (λ s. s.now) result
reads_some_text f name result same = sym (first_value-rows f name) ∙ sym same

pub one_number : (rows : List Row) (name : Text) (a b : ℕ) → StatesNumber rows name a → StatesNumber rows name b → a ≡ b
one_number rows name a b first second =
    let same : first.text ≡ second.text =
    ap (λ (o : Option Text). unwrap_or o first.text) (sym first.given ∙ second.given) in
    first.value ∙ ap (λ t. digits_value 10 (without_leading_plus t)) same ∙ sym second.value
