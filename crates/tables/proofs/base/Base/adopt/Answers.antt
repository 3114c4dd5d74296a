use Rattle.tables.proofs.Words.{None, Option, Some, ap, state, subst, sym, ◌∙◌, ◌≡◌, ◌≢◌}
use Rattle.tables.proofs.{BaseLemmas.adopted_keeps, MigrateLemmas.in_now}
use Rattle.tables.specs.{Versions.TellsVersion, declared.version.Version.Version}
use Rattle.tables.specs.declared.version.Version.TheVariants as version
use Rattle.tables.proofs.base.Base.adopt.Goals as goal

-- what was found to be of the version of now is of no other
never_now : (found : Option Version) (v : Version) → found ≡ Some version.Current → v ≢ version.Current
    → found ≡ Some v → ⊥
never_now found v now other is = other (let both : Some v ≡ Some version.Current = sym is ∙ now in cc)

none_now : (found : Option Version) → found ≡ Some version.Current → found ≡ None → ⊥
none_now found now none = let both : Some version.Current ≡ None = sym now ∙ none in cc

pub returns-in-Ok-Some-Current-clause-keeps : goal.returns-in-Ok-Some-Current-clause-keeps
returns-in-Ok-Some-Current-clause-keeps g c t found =
    adopted_keeps g.S.Store g.met.S.Store.settled c.args.conn c.found_version.new.conn c.found_version.ensures.closed
    c.found_version.ensures.looks t found

pub returns-in-Ok-Some-First-clause-not_ours : goal.returns-in-Ok-Some-First-clause-not_ours
returns-in-Ok-Some-First-clause-not_ours g c told clean t found =
    never_now c.in-Ok-Some-First.field-0 version.First
    (c.in-Ok-Some-First.ensures.found clean version.Current t (in_now t _ found.0)) (λ e. cc)
    (c.in-Ok-Some-First.field-0-is ∙ ap Some c.in-Ok-Some-First.field-0-0-is)

pub returns-in-Ok-Some-Second-clause-not_ours : goal.returns-in-Ok-Some-Second-clause-not_ours
returns-in-Ok-Some-Second-clause-not_ours g c told clean t found =
    never_now c.in-Ok-Some-Second.field-0 version.Second
    (c.in-Ok-Some-Second.ensures.found clean version.Current t (in_now t _ found.0)) (λ e. cc)
    (c.in-Ok-Some-Second.field-0-is ∙ ap Some c.in-Ok-Some-Second.field-0-0-is)

pub returns-in-Ok-None-clause-not_ours : goal.returns-in-Ok-None-clause-not_ours
returns-in-Ok-None-clause-not_ours g c told clean t found =
    none_now c.in-Ok-None.field-0 (c.in-Ok-None.ensures.found clean version.Current t (in_now t _ found.0))
    c.in-Ok-None.field-0-is

pub returns-in-Ok-None-clause-foreign : goal.returns-in-Ok-None-clause-foreign
returns-in-Ok-None-clause-foreign g c told clean =
    subst (λ found. TellsVersion found (state g.S.Store c.args.conn)) c.in-Ok-None.field-0-is
    (c.in-Ok-None.ensures.shown clean)

pub returns-in-Err-clause-untold : goal.returns-in-Err-clause-untold
returns-in-Err-clause-untold g c told clean = c.in-Err.ensures.untold clean (c.of.ensures.memory told)
