use Rattle.std.proofs.Common.{◌≡◌, ◌∙◌, ℕ, List, [], ◌++◌, ap, append_assoc, option_map}
use Rattle.std.specs.Prelude.{codes}
use Rattle.service.specs.Answers.{allow_line, content_lines, crlf, head_text, status_line}
use Rattle.service.specs.Routes.{names_of}
use Rattle.service.proofs.answer.head_text.Goals as goal

-- four pieces, one after the other
in_turn : (t u v w x a b d k l m : List ℕ) → t ≡ [] → u ≡ t ++ a → v ≡ u ++ b → w ≡ v ++ d → x ≡ w ++ (k ++ l ++ m)
    → x ≡ a ++ b ++ d ++ k ++ l ++ m
in_turn t u v w x a b d k l m none first second third fourth =
    fourth
    ∙ ap (λ y. y ++ (k ++ l ++ m))
    (third ∙ ap (λ y. y ++ d) (second ∙ ap (λ y. y ++ b) (first ∙ ap (λ y. y ++ a) none)))
    ∙ simp append_assoc

pub returns-clause-value : goal.returns-clause-value
unfolding head_text
returns-clause-value c =
    in_turn _ _ _ _ _ (status_line c.args.heading.status) (content_lines c.args.heading.media c.args.count)
    (allow_line (option_map names_of c.args.heading.allow)) (codes "Connection: close") crlf crlf
    c.new-text.ensures c.push_status.ensures.bytes c.push_content.ensures.bytes c.push_allow.ensures.bytes
    c.push_str.ensures.bytes
