use Rattle.tables.proofs.Words.{bound}
use Rattle.tables.proofs.AskLemmas.{asked_answered, asked_carries, asked_inside, asked_told, asked_unanswered}
use Rattle.tables.proofs.queries.rows_in.Goals as goal

pub returns-clause-asks : goal.returns-clause-asks
returns-clause-asks g c =
    asked_inside (λ rows. rows.items) c.args.sql.now (bound c.args.params.now) _ _ c.query_all.result
    c.query_all.ensures.ok c.query_all.ensures.err c.query_all.ensures.survives

pub returns-clause-carries : goal.returns-clause-carries
returns-clause-carries g c =
    asked_carries (λ rows. rows.items) c.args.sql.now (bound c.args.params.now) _ _ c.query_all.result
    c.query_all.ensures.ok c.query_all.ensures.err c.query_all.ensures.survives

pub returns-clause-told : goal.returns-clause-told
returns-clause-told g c =
    asked_told (λ rows. rows.items) c.args.sql.now (bound c.args.params.now) _ _ c.query_all.result
    c.query_all.ensures.ok c.query_all.ensures.err

pub returns-clause-answered : goal.returns-clause-answered
returns-clause-answered g c =
    asked_answered (λ rows. rows.items) c.args.sql.now (bound c.args.params.now) _ _ c.query_all.result
    c.query_all.ensures.ok c.query_all.ensures.err

pub returns-clause-unanswered : goal.returns-clause-unanswered
returns-clause-unanswered g c =
    asked_unanswered (λ rows. rows.items) c.args.sql.now (bound c.args.params.now) _ _ c.query_all.result
    c.query_all.ensures.ok c.query_all.ensures.err
