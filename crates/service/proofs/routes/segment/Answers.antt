use Rattle.std.proofs.Common.{◌≡◌, ◌∙◌, ℕ, List, [], Option, Some, None, Bor, ap, arith, sym}
use Rattle.std.proofs.{lemmas.Iterator.Consumers.nth_from_yields_List, lemmas.Iterator.Splits.YieldsList-from_str_split}
use Rattle.std.specs.Prelude.{option_map, slice_get, unwrap_or}
use Rattle.service.specs.Routes.{segment, segments}
use Rattle.service.proofs.routes.segment.Goals as goal

-- the segment that is found, or none
segment_is : (place : ℕ) (target : List ℕ) (found : Option (Bor (List ℕ)))
    → option_map (λ text. text.now) found ≡ slice_get (segments target) place
    → unwrap_or (option_map (λ text. text.now) found) [] ≡ segment place target
segment_is place target found is = ap (λ part. unwrap_or part []) is

pub returns-in-Some : goal.returns-in-Some
returns-in-Some c =
    segment_is c.args.place c.args.target.now (Some c.in-Some.segment)
    (ap (option_map (λ text. text.now)) (sym c.in-Some.is)
    ∙ nth_from_yields_List c.nth.result c.nth.new.self c.args.place c.nth.ensures.ran (YieldsList-from_str_split 47
    c.args.target.now (omega arith) c.split.ensures.text c.split.ensures.has_more c.split.ensures.pattern))

pub returns-in-None : goal.returns-in-None
returns-in-None c =
    segment_is c.args.place c.args.target.now None
    (ap (option_map (λ text. text.now)) (sym c.in-None.is)
    ∙ nth_from_yields_List c.nth.result c.nth.new.self c.args.place c.nth.ensures.ran (YieldsList-from_str_split 47
    c.args.target.now (omega arith) c.split.ensures.text c.split.ensures.has_more c.split.ensures.pattern))
