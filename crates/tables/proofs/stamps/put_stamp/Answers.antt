use Rattle.std.specs.Prelude.{pos}
use Rattle.tables.proofs.Words.{Int, ap, refl, reservation_view, ◌∙◌}
use Rattle.tables.proofs.{CellLemmas.text_more, CellLemmas.value_more, InsertLemmas.adds_stamp}
use Rattle.tables.proofs.stamps.put_stamp.Goals as goal

pub returns-clause-carries : goal.returns-clause-carries
returns-clause-carries g c =
    adds_stamp (reservation_view c.args.reservation.now) _ _ _ c.execute.ensures.survives _
    (value_more _ _ c.in_ok-serial.ensures.value
    (text_more c.as_bytes.ensures.value
    (value_more _ _ (c.in_ok-day.ensures.value ∙ ap (λ day. Int (pos day)) c.day_of.ensures)
    (value_more _ _ c.in_ok-gen_time.ensures.value refl))))
    c.execute.ensures.runs
