use Rattle.store.proofs.{Words.reader_view, Words.◌∙◌, Calls.kept_seen, Calls.looks_now, Readers.rights_are}
use Rattle.store.proofs.store.Store.is_reader.Goals as goal

pub returns-in_err-reads-clause-looks : goal.returns-in_err-reads-clause-looks
returns-in_err-reads-clause-looks g c = looks_now g.S.Store _ _ _ c.self.view_is c.in_err-reads.ensures.reads

pub returns-clause-looks : goal.returns-clause-looks
returns-clause-looks g c = looks_now g.S.Store _ _ _ c.self.view_is c.in_ok-reads.ensures.reads

pub returns-clause-value : goal.returns-clause-value
returns-clause-value g c honest b s =
    c.in_ok-reads.ensures.value honest _ (kept_seen g.S.Store _ _ b c.self.view_is s) ∙ rights_are (reader_view c.args.reader) b _
