use Rattle.store.proofs.{Words.over_files, Creation.made_of_none}
use Rattle.store.proofs.path.Store+FileStore+FileFrom+T.make.Goals as goal

pub returns-clause-made : goal.returns-clause-made
returns-clause-made g c = made_of_none over_files c.make_with.result c.make_with.ensures.made
