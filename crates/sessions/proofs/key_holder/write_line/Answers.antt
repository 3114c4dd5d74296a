use Rattle.std.proofs.Common.{◌++◌, take, ap, ◌∙◌, sym, append_assoc}
use Rattle.std.proofs.{lemmas.List.take-append-drop, KnownBytes.Appends-trans}
use Rattle.sessions.proofs.key_holder.write_line.Goals as goal

-- what was taken goes from the rest to what was appended
pub loop-rest-preserved : goal.loop-rest-preserved
loop-rest-preserved g c =
    let (done, split, appended) = c.loop-rest.invariant in
    let rest = c.loop-rest.rest.now in
    let n = c.in-Ok.taken in (
      done ++ take n rest,
      split ∙ ap (λ l. done ++ l) (sym (take-append-drop n rest)) ∙ sym (append_assoc done (take n rest) _)
          ∙ ap (λ l. (done ++ take n rest) ++ l) (sym c.split_at.ensures.back),
      Appends-trans _ _ _ _ _ appended c.in-Ok.ensures.bytes,
    )
