use Rattle.tables.proofs.AnswerLemmas.{no_answer, read_carries, refused_carries}
use Rattle.tables.proofs.{Words.◌∙◌, NumberLemmas.nothing_told, NumberLemmas.number_told}
use Rattle.tables.proofs.queries.number_in.Goals as goal

pub returns-in-Some-clause-carries : goal.returns-in-Some-clause-carries
returns-in-Some-clause-carries g c = read_carries _ _ _ _ _ (c.in_ok-rows.ensures.carries c.requires)

pub returns-in-Some-clause-told : goal.returns-in-Some-clause-told
returns-in-Some-clause-told g c honest has =
    number_told _ _ _ _ _ (c.in_ok-rows.ensures.told c.requires honest has) (c.first_of.ensures ∙ c.in-Some.is)
    c.number.ensures.read

pub returns-in-None-clause-carries : goal.returns-in-None-clause-carries
returns-in-None-clause-carries g c = read_carries _ _ _ _ _ (c.in_ok-rows.ensures.carries c.requires)

pub returns-in-None-clause-told : goal.returns-in-None-clause-told
returns-in-None-clause-told g c honest has =
    nothing_told _ _ _ (c.in_ok-rows.ensures.told c.requires honest has) (c.first_of.ensures ∙ c.in-None.is)

pub returns-in_err-rows-clause-carries : goal.returns-in_err-rows-clause-carries
returns-in_err-rows-clause-carries g c =
    refused_carries _ _ _ _ _ _ (c.in_err-rows.ensures.carries c.requires) c.from_residual.ensures.0

pub returns-in_err-rows-clause-told : goal.returns-in_err-rows-clause-told
returns-in_err-rows-clause-told g c honest has = no_answer _ _ c.from_residual.ensures.0
