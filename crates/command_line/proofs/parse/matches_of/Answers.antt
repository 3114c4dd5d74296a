use Rattle.std.proofs.Common.{◌≡◌, ◌∙◌, true, refl, ap, subst, map}
use Rattle.std.proofs.lemmas.Result.{IfOk-weaker}
use Rattle.std.specs.Prelude.{string_bytes}
use Rattle.clap.specs.Words.{App, FailsBy, fault_of, is_simple, is_simple_and_free, subcommand_of, subcommand_rows_of}
use Rattle.clap.proofs.OnLiterals.{clap_on_literals}
use Rattle.command_line.specs.Options.{counter_command}
use Rattle.command_line.proofs.parse.matches_of.Goals as goal

counter_is_simple_and_free : is_simple_and_free counter_command ≡ true
unfolding clap_on_literals
counter_is_simple_and_free = refl

counter_is_simple : is_simple counter_command ≡ true
unfolding clap_on_literals
counter_is_simple = refl

pub returns-clause-kinds : goal.returns-clause-kinds
returns-clause-kinds c =
    let is = c.in_ok-command.ensures in
    let texts = map (λ word. string_bytes word) c.args.words.now in
    subst (λ (app : App). FailsBy (fault_of app texts) c.try_get_matches_from_mut.result) is
    (c.try_get_matches_from_mut.ensures.kinds (ap is_simple_and_free is ∙ counter_is_simple_and_free))

pub returns-clause-found : goal.returns-clause-found
returns-clause-found c =
    let is = c.in_ok-command.ensures in
    let texts = map (λ word. string_bytes word) c.args.words.now in
    IfOk-weaker c.try_get_matches_from_mut.result _ _
    (λ matches ok. subst (λ (app : App). subcommand_rows_of matches ≡ subcommand_of app texts) is
    (ok.2 (ap is_simple is ∙ counter_is_simple)).1)
    c.try_get_matches_from_mut.ensures.ok
