use Rattle.std.proofs.Common.{◌≡◌, ◌∙◌, ℕ, ℤ, List, ◌++◌, Option, Some, None, ap, append_assoc, sym}
use Rattle.std.specs.Option.{OnSome}
use Rattle.service.specs.Status.{calibration_lines}
use Rattle.service.proofs.status.append_clock.Goals as goal

on_some_weaker : {T P Q : Type 0} (o : Option T) → (P → Q) → OnSome o P → OnSome o Q
on_some_weaker None follows holds = tt
on_some_weaker (Some x) follows holds = follows holds

-- three parts behind the lines
joined : (old one three a b c : List ℕ) (age age' : Option ℤ) (left left' : Option ℕ) → a ≡ old ++ one
    → b ≡ a ++ calibration_lines age left → c ≡ b ++ three → age ≡ age' → left ≡ left'
    → c ≡ old ++ (one ++ calibration_lines age' left' ++ three)
joined old one three a b c age age' left left' first second third same_age same_left =
    let lines : calibration_lines age left ≡ calibration_lines age' left' =
    ap (λ x. calibration_lines x left) same_age ∙ ap (λ x. calibration_lines age' x) same_left in
    third ∙ ap (λ l. l ++ three) (second ∙ ap (λ l. l ++ calibration_lines age left) first
    ∙ ap (λ l. (old ++ one) ++ l) lines)
    ∙ append_assoc (old ++ one) (calibration_lines age' left') three
    ∙ append_assoc old one (calibration_lines age' left' ++ three)
    ∙ ap (λ l. old ++ l) (sym (append_assoc one (calibration_lines age' left') three))

pub returns : goal.returns
returns c =
    on_some_weaker c.append_giving.result
    (λ last. joined _ _ _ _ _ _ _ _ _ _ c.in_ok-append_moment.ensures c.in_ok-append_calibration.ensures last
    c.latest_age-age.ensures c.latest_left-left.ensures) c.append_giving.ensures
