-- What becomes of an error of `clap`.
use Rattle.std.proofs.Common.{◌≡◌, ◌⊎◌, ◌∙◌, List, inl, inr, sym, subst}
use Rattle.clap.specs.Words.{HasKind, IsAmong, Text, fault_of, kind_of}
use Rattle.clap.specs.declared.error.kind.ErrorKind.TheVariants.{ArgumentConflict, DisplayHelp, DisplayVersion}
use Rattle.clap.specs.declared.error.kind.ErrorKind.TheVariants.{MissingRequiredArgument, OutOfMemory}
use Rattle.clap.specs.{declared.error.Error.Error, declared.error.kind.ErrorKind.ErrorKind}
use Rattle.command_line.specs.Words.{AskNothing, AsksHelp, IsOwnKind, IsRefusal, IsShown, MixSigners}
use Rattle.command_line.specs.declared.refusal.WordsRefusal.TheVariants.{Help, Mistake, Memory}
use Rattle.command_line.specs.{Options.counter_command, declared.refusal.WordsRefusal.WordsRefusal}

asks_help : (texts : List Text) (kind : ErrorKind) → IsAmong kind (fault_of counter_command texts)
    → (kind ≡ DisplayHelp) ⊎ (kind ≡ DisplayVersion) → AsksHelp texts
asks_help texts kind among (inl is) = inl (subst
    (λ (k : ErrorKind). IsAmong k (fault_of counter_command texts)) is among)
asks_help texts kind among (inr is) = inr (subst
    (λ (k : ErrorKind). IsAmong k (fault_of counter_command texts)) is among)

no_help : (texts : List Text) (kind other : ErrorKind) → kind ≡ other → (other ≡ DisplayHelp → ⊥)
    → (other ≡ DisplayVersion → ⊥)
    → (kind ≡ DisplayHelp) ⊎ (kind ≡ DisplayVersion) → AsksHelp texts
no_help texts kind other is help version (inl shown) = absurd (help (sym is ∙ shown))
no_help texts kind other is help version (inr shown) = absurd (version (sym is ∙ shown))

own_is_no_help : (texts : List Text) (kind : ErrorKind) → IsOwnKind kind → (kind ≡ DisplayHelp) ⊎
    (kind ≡ DisplayVersion)
    → AsksHelp texts
own_is_no_help texts kind (inl missing) shown =
    no_help texts kind MissingRequiredArgument missing (λ h. cc) (λ h. cc) shown
own_is_no_help texts kind (inr conflict) shown =
    no_help texts kind ArgumentConflict conflict (λ h. cc) (λ h. cc) shown

pub refusal_of : (texts : List Text) (error : Error) (refusal : WordsRefusal)
    → HasKind (fault_of counter_command texts) error
    ⊎ (IsOwnKind (kind_of error) × (MixSigners texts ⊎ AskNothing texts))
    → IsShown (kind_of error) refusal → IsRefusal texts refusal
refusal_of texts error (Help text) (inl (inl memory)) shown =
    no_help texts (kind_of error) OutOfMemory memory (λ h. cc) (λ h. cc) shown
refusal_of texts error (Help text) (inl (inr among)) shown = asks_help texts (kind_of error) among shown
refusal_of texts error (Help text) (inr own) shown = own_is_no_help texts (kind_of error) own.0 shown
refusal_of texts error (Mistake text) (inl (inl memory)) shown = absurd (shown.2 memory)
refusal_of texts error (Mistake text) (inl (inr among)) shown = inl (kind_of error, among, shown.0, shown.1)
refusal_of texts error (Mistake text) (inr own) shown = inr own.1
refusal_of texts error Memory why shown = tt
