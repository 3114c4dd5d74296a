-- How a judgement is told.
use Rattle.std.specs.{Prelude.ℕ, Prelude.List, Prelude.◌++◌, Prelude.codes, Fmt.decimal}
use Rattle.tsp.specs.Rejection.{number_of}
use Rattle.judgement.specs.declared.judgement.Judgement.{Judgement}
use Rattle.judgement.specs.declared.judgement.Judgement.TheVariants.{Given, MayHaveBeenHeld, Fails, Differs}

abbrev pub judgement_text : Judgement → List ℕ
judgement_text Given = codes "given"
judgement_text MayHaveBeenHeld = codes "may have been held"
judgement_text (Fails rule) = codes "isn't given by these rules: rule " ++ decimal (number_of rule)
judgement_text Differs = codes "isn't given by these rules: text"
