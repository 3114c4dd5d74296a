-- The definitions, computed on rows.
use Rattle.std.proofs.Common.{◌≡◌, ℕ, ◌+◌, ◌==◌, Bool, false, pos, List, [], ◌∷◌, ◌++◌, Some, None, Ok, Err, refl}
use Rattle.std.specs.{List.flat_map, Fmt.digits, Prelude.codes, Prelude.if◌then◌else◌}
use Rattle.httparse.specs.Grammar.{trim_ows}
use Rattle.matchit.proofs.OnLiterals.{matchit_on_literals}
use Rattle.tsp.specs.declared.rule.Rule.TheVariants as rule
use Rattle.service.specs.Answers.{answer_text, refusal_answer, crlf, line_feed, head_text}
use Rattle.service.specs.Numbers.{is_digits, length_in, number_in}
use Rattle.service.specs.Routes.{methods_at, names_of, nothing, on_right, routes, segment, segments, table}
use Rattle.service.specs.{Checks.wanted_by, Checks.wanted_at, Checks.type_in, Heads.HeadValue}
use Rattle.service.specs.declared.refusal.Refusal.TheVariants as refusal
use Rattle.service.specs.declared.routes.Action.TheVariants as action
use Rattle.service.specs.declared.routes.DepositAction.TheVariants as deposit
use Rattle.service.specs.declared.routes.ReaderKind.TheVariants as kind

-- an answer in text: its status, the length of its body, the line that tells methods, and the body
abbrev told_in_text : List ℕ → List ℕ → List ℕ → List ℕ → List ℕ
told_in_text status count methods body =
    codes "HTTP/1.1 " ++ status ++ crlf ++ codes "Content-Type: text/plain" ++ crlf ++ codes "Content-Length: " ++ count
    ++ crlf
    ++ methods ++ codes "Connection: close" ++ crlf ++ crlf ++ body

-- the answer to a deposit that isn't there
not_here : answer_text (pos 0) (refusal_answer refusal.NotHere)
    ≡ told_in_text (codes "404 Not Found") (codes "12") [] (codes "404 NotHere" ++ line_feed)
unfolding head_text digits
not_here = refl

-- the answer to a method that does nothing at `/tsp`
no_method : answer_text (pos 0) (refusal_answer (refusal.Method (record nothing { post = Some action.Stamp })))
    ≡ told_in_text (codes "405 Method Not Allowed") (codes "11") (codes "Allow: POST" ++ crlf)
    (codes "405 Method" ++ line_feed)
unfolding head_text digits
no_method = refl

-- each method that does something
methods : names_of (record nothing { get = Some action.List; post = Some action.Keep }) ≡ codes "GET, POST"
methods = refl

other_methods : names_of (on_right kind.Account) ≡ codes "PUT, DELETE"
other_methods = refl

-- a deposit that the clock's state refuses
no_clock : answer_text (pos 0) (refusal_answer (refusal.Rule rule.Clock))
    ≡ told_in_text (codes "503 Service Unavailable") (codes "12") [] (codes "503 rule 10" ++ line_feed)
unfolding head_text digits
no_clock = refl

-- targets
at_tsp : methods_at (codes "/tsp") ≡ Some (record nothing { post = Some action.Stamp })
unfolding routes matchit_on_literals
at_tsp = refl

at_account : methods_at (codes "/account") ≡ Some (record nothing { get = Some action.Account })
unfolding routes matchit_on_literals
at_account = refl

at_query : methods_at (codes "/tsp?x=1") ≡ None
unfolding routes matchit_on_literals
at_query = refl

at_readers : methods_at (codes "/deposits/1/readers") ≡ Some (record nothing { get = Some (action.Deposit deposit.Readers) })
unfolding routes matchit_on_literals
at_readers = refl

at_reader : methods_at (codes "/deposits/1/readers/bob") ≡ Some (on_right kind.Account)
unfolding routes matchit_on_literals
at_reader = refl

at_group : methods_at (codes "/deposits/1/groups/staff") ≡ Some (on_right kind.Group)
unfolding routes matchit_on_literals
at_group = refl

at_deposits : methods_at (codes "/deposits") ≡ Some (record nothing { get = Some action.List; post = Some action.Keep })
unfolding routes matchit_on_literals
at_deposits = refl

at_token : methods_at (codes "/deposits/1/token") ≡ Some (record nothing { get = Some (action.Deposit deposit.Token) })
unfolding routes matchit_on_literals
at_token = refl

no_number_before_token : methods_at (codes "/deposits//token") ≡ None
unfolding routes matchit_on_literals
no_number_before_token = refl

at_empty_number : methods_at (codes "/deposits/") ≡ None
unfolding routes matchit_on_literals
at_empty_number = refl

at_odd_number : methods_at (codes "/deposits/1?x") ≡ Some (record nothing { get = Some (action.Deposit deposit.Show) })
unfolding routes matchit_on_literals
at_odd_number = refl

at_nothing : methods_at (codes "/deposits/1/") ≡ None
unfolding routes matchit_on_literals
at_nothing = refl

at_audit : methods_at (codes "/audit/1/2") ≡ Some (record nothing { get = Some action.Extract })
unfolding routes matchit_on_literals
at_audit = refl

-- the names in braces, each with its place among the segments of its text
abbrev is_name : List ℕ → Bool
is_name [] = false
is_name (octet ∷ rest) = octet == 0x7B

abbrev names_from : ℕ → List (List ℕ) → List (ℕ × List ℕ)
names_from place [] = []
names_from place (part ∷ rest) =
    if is_name part then (place, part) ∷ names_from (place + 1) rest else names_from (place + 1) rest

abbrev number_at : ℕ × List ℕ
number_at = (2, codes "{number}")

named_places : flat_map (λ line. names_from 0 (segments line.0)) table
    ≡ number_at ∷ number_at ∷ number_at ∷ number_at ∷ (4, codes "{name}") ∷ number_at ∷ (4, codes "{name}")
    ∷ (2, codes "{from}") ∷ (3, codes "{to}") ∷ []
named_places = refl

-- segments
segments_between : segments (codes "/deposits/12/groups/staff")
    ≡ [] ∷ codes "deposits" ∷ codes "12" ∷ codes "groups" ∷ codes "staff" ∷ []
segments_between = refl

last_part : segment 3 (codes "/audit/12/34") ≡ codes "34"
last_part = refl

no_part : segment 4 (codes "/audit/12/34") ≡ []
no_part = refl

-- numbers
shown_number : number_in (codes "9223372036854775807") ≡ Some 9223372036854775807
unfolding is_digits
shown_number = refl

above_all : number_in (codes "9223372036854775808") ≡ None
unfolding is_digits
above_all = refl

leading_zero : number_in (codes "01") ≡ None
unfolding is_digits
leading_zero = refl

leading_zeros : length_in (codes "000000000000000059") ≡ Some 59
unfolding is_digits
leading_zeros = refl

too_many_digits : length_in (codes "0000000000000000059") ≡ None
unfolding is_digits
too_many_digits = refl

-- a media type with a parameter
with_parameter : type_in (codes "Application/Timestamp-Query ; x=1") ≡ codes "Application/Timestamp-Query"
unfolding trim_ows
with_parameter = refl

-- heads
abbrev head_of : List ℕ → List ℕ → List (List ℕ × List ℕ) → HeadValue
head_of method target fields = record { method = method; target = target; fields = fields }

query : wanted_by (head_of (codes "POST") (codes "/tsp")
    ((codes "Host", codes "localhost") ∷ (codes "CONTENT-type", codes "application/timestamp-query")
    ∷ (codes "Content-Length", codes "59") ∷ []))
    ≡ Ok (record { action = action.Stamp; count = 59 })
unfolding wanted_at is_digits routes matchit_on_literals trim_ows
query = refl

-- a deposit is shown, and nothing is read behind the head
a_deposit : wanted_by (head_of (codes "GET") (codes "/deposits/1") []) ≡ Ok (record { action = action.Deposit deposit.Show; count = 0 })
unfolding wanted_at routes matchit_on_literals
a_deposit = refl

-- a coding before a target that names nothing, a method before a length, a length before a type
coding_first : wanted_by (head_of (codes "POST") (codes "/") ((codes "Transfer-Encoding", codes "chunked") ∷ []))
    ≡ Err refusal.TransferEncoding
unfolding wanted_at is_digits routes matchit_on_literals
coding_first = refl

method_first : wanted_by (head_of (codes "PUT") (codes "/tsp") [])
    ≡ Err (refusal.Method (record nothing { post = Some action.Stamp }))
unfolding wanted_at is_digits routes matchit_on_literals
method_first = refl

route_first : wanted_by (head_of (codes "PUT") (codes "/x") []) ≡ Err refusal.NoRoute
unfolding wanted_at is_digits routes matchit_on_literals
route_first = refl

length_first : wanted_by (head_of (codes "POST") (codes "/tsp") []) ≡ Err refusal.Length
unfolding wanted_at is_digits routes matchit_on_literals
length_first = refl

large_first : wanted_by (head_of (codes "POST") (codes "/tsp") ((codes "content-length", codes "1048577") ∷ []))
    ≡ Err refusal.TooLarge
unfolding wanted_at is_digits routes matchit_on_literals
large_first = refl
