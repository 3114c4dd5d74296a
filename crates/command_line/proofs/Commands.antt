-- A command with one more option or subcommand.
use Rattle.std.proofs.Common.{◌≡◌, ◌∙◌, ◌&&◌, ◌+◌, ◌<◌, ℕ, List, [], ◌∷◌, ◌++◌, Bool, true, false, not, refl, sym, ap}
use Rattle.std.proofs.Common.{get_or, length, map, take}
use Rattle.std.proofs.lemmas.List.{map-append, take_more}
use Rattle.clap.specs.Words.{AddsSubcommand, App, Text, app_of, new_app, with_rule, with_subcommand}
use Rattle.clap.specs.declared.builder.command.Command.{Command}
use Rattle.command_line.specs.Options.{with_rules, with_subcommands}
use Rattle.command_line.specs.auxiliary.Table.{app_in, rule_in}
use Rattle.command_line.specs.{declared.options.OptionRow.OptionRow, declared.table.SubcommandRow.SubcommandRow}

-- the values of one row more
map-more : {X Y : Type 0} (f : X → Y) (xs : List X) (i : ℕ) (d : X) → i < length xs
    → map f (take i xs) ++ f (get_or xs i d) ∷ [] ≡ map f (take (i + 1) xs)
map-more f xs i d inside =
    sym (map-append f (take i xs) (get_or xs i d ∷ [])) ∙ ap (map f) (sym (take_more xs i d inside))

pub adds_option : (name : Text) (rows : List OptionRow) (i : ℕ) (d : OptionRow) (old new : Command)
    → i < length rows → app_of old ≡ with_rules (map rule_in (take i rows)) (new_app name)
    → app_of new ≡ with_rule (app_of old) (rule_in (get_or rows i d))
    → app_of new ≡ with_rules (map rule_in (take (i + 1) rows)) (new_app name)
adds_option name rows i d old new inside is more =
    more
    ∙ ap (λ app. with_rule app (rule_in (get_or rows i d))) is
    ∙ ap (λ rules. with_rules rules (new_app name)) (map-more rule_in rows i d inside)

third_is_false : (a b c d : Bool) → (a && (b && (not c && d))) ≡ true → c ≡ false
third_is_false true true false d h = refl
third_is_false _ _ _ d h = cc

-- a plain command has no option that is its subcommands' too
adds_plain : (below : App) (old new sub : Command) → app_of sub ≡ below → below.top.is_plain ≡ true
    → AddsSubcommand old sub new → app_of new ≡ with_subcommand (app_of old) below.top
adds_plain below old new sub is plain adds =
    adds.shape (third_is_false _ _ _ _ (ap (λ (a : App). a.top.is_plain) is ∙ plain))
    ∙ ap (λ (a : App). with_subcommand (app_of old) a.top) is

pub adds_row : (row : SubcommandRow) (old new sub : Command) → app_of sub ≡ app_in row → AddsSubcommand old sub new
    → app_of new ≡ with_subcommand (app_of old) (app_in row).top
adds_row row old new sub is adds = adds_plain (app_in row) old new sub is refl adds

with_one_more : (subs : List App) (sub app : App)
    → with_subcommand (with_subcommands subs app) sub.top ≡ with_subcommands (subs ++ sub ∷ []) app
with_one_more [] sub app = refl
with_one_more (first ∷ rest) sub app = with_one_more rest sub (with_subcommand app first.top)

pub adds_subcommand : (bare : App) (rows : List SubcommandRow) (i : ℕ) (d : SubcommandRow) (old new : Command)
    → i < length rows → app_of old ≡ with_subcommands (map app_in (take i rows)) bare
    → app_of new ≡ with_subcommand (app_of old) (app_in (get_or rows i d)).top
    → app_of new ≡ with_subcommands (map app_in (take (i + 1) rows)) bare
adds_subcommand bare rows i d old new inside is more =
    more
    ∙ ap (λ app. with_subcommand app (app_in (get_or rows i d)).top) is
    ∙ with_one_more (map app_in (take i rows)) (app_in (get_or rows i d)) bare
    ∙ ap (λ subs. with_subcommands subs bare) (map-more app_in rows i d inside)
