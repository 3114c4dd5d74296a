use Rattle.tables.proofs.OpenLemmas.{outlined, prepare_looks, read_told, read_unprepared}
use Rattle.tables.proofs.{Words.[], Words.refl, version.understands.Goals.in-Err, version.understands.Goals.in-Ok}
use Rattle.tables.proofs.version.understands.Goals as goal

pub returns-clause-looks : goal.returns-clause-looks
returns-clause-looks g c =
    let e = c.prepare.ensures in
    prepare_looks _ _ _ _ c.prepare.result e.survives (λ clean. e.ok clean) (λ clean. e.err clean)

pub returns-clause-told : goal.returns-clause-told
returns-clause-told g c clean = elim c.match-prepare.branch [
  | in-Ok w ↦ let it = (w.in-Ok.ensures.ok clean).1.0 in
      rw w.result-is (it.was_open, it.now_is, ((λ _. outlined _ _ (w.in-Ok.ensures.shape clean)), (λ _. refl)))
  | in-Err w ↦ rw w.result-is (read_told _ _ _ _ (w.in-Err.ensures.err clean []) _ w.not_understood.ensures.known)
]

pub returns-clause-unprepared : goal.returns-clause-unprepared
returns-clause-unprepared g c clean = elim c.match-prepare.branch [
  | in-Ok w ↦ rw w.result-is tt
  | in-Err w ↦ rw w.result-is (read_unprepared _ _ _ _ (w.in-Err.ensures.err clean []) _
      w.not_understood.ensures.other)
]
