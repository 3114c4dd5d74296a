-- Answers, and their texts (RFC 9112 4 and 6).
use Rattle.std.specs.Prelude.{ℕ, ℤ, true, false, List, [], ◌∷◌, ◌++◌, length, codes, Option, Some, None}
use Rattle.std.specs.{Fmt.decimal, List.flat_map}
use Rattle.http.specs.StatusCode.{reason_phrase}
use Rattle.gentime.specs.GenTime.{text_of}
use Rattle.der.specs.Node.{encoding}
use Rattle.tsp.specs.Rejection.{rejection}
use Rattle.book.specs.{History.History, Rights.ListedValue}
use Rattle.audit.specs.Extract.{extract_text}
use Rattle.desk.specs.Command.{Command, Show}
use Rattle.desk.specs.Command.{Answer, Stamped, Rejected, Begun, Kept, Numbered, Shown, Listed, Done, Refused}
use Rattle.service.specs.Refusals.{status_of, word_of, refusal_of}
use Rattle.service.specs.{Routes.names_of, declared.answer.Media.Media, declared.refusal.Refusal.Refusal}
use Rattle.service.specs.declared.answer.Media.TheVariants as media
use Rattle.service.specs.declared.refusal.Refusal.TheVariants as refusal

-- the media types (RFC 3161 3.4, RFC 2046 4, RFC 4180 3)
abbrev pub media_type : Media → List ℕ
media_type media.Reply = codes "application/timestamp-reply"
media_type media.Octets = codes "application/octet-stream"
media_type media.Text = codes "text/plain"
media_type media.Csv = codes "text/csv"

-- an answer: its status, the type of its body, the methods that `Allow` tells where it does, and the body
pub record AnswerValue : Type 0 where
  pub status : ℕ
  pub media : Media
  pub allow : Option (List ℕ)
  pub body : List ℕ

-- the end of a line
abbrev pub crlf : List ℕ
crlf = 0x0D ∷ 0x0A ∷ []

abbrev pub phrase_of : Option (List ℕ) → List ℕ
phrase_of None = []
phrase_of (Some phrase) = phrase

abbrev pub status_line : ℕ → List ℕ
status_line status = codes "HTTP/1.1 " ++ decimal status ++ codes " " ++ phrase_of (reason_phrase status) ++ crlf

abbrev pub content_lines : Media → ℕ → List ℕ
content_lines m count =
    codes "Content-Type: " ++ media_type m ++ crlf ++ codes "Content-Length: " ++ decimal count ++ crlf

abbrev pub allow_line : Option (List ℕ) → List ℕ
allow_line None = []
allow_line (Some methods) = codes "Allow: " ++ methods ++ crlf

-- All that stands before the body of an answer that is given at a reading of the clock, in microseconds: the connection
-- ends with it. No line tells the reading.
unfoldable pub head_text : ℤ → ℕ → Media → Option (List ℕ) → ℕ → List ℕ
head_text reading status m allow count =
    status_line status ++ content_lines m count ++ allow_line allow ++ codes "Connection: close" ++ crlf ++ crlf

abbrev pub answer_text : ℤ → AnswerValue → List ℕ
answer_text reading a = head_text reading a.status a.media a.allow (length a.body) ++ a.body

abbrev pub line_feed : List ℕ
line_feed = 0x0A ∷ []

abbrev pub allowed_by : Refusal → Option (List ℕ)
allowed_by (refusal.Method methods) = Some (names_of methods)
allowed_by other = None

-- a refusal's status and word, on a line
abbrev pub refusal_body : Refusal → List ℕ
refusal_body r = decimal (status_of r) ++ codes " " ++ word_of r ++ line_feed

abbrev pub refusal_answer : Refusal → AnswerValue
refusal_answer r = record {
  status = status_of r;
  media = media.Text;
  allow = allowed_by r;
  body = refusal_body r;
}

-- the counter can't answer now
abbrev pub unavailable : AnswerValue
unavailable = refusal_answer refusal.Unavailable

-- an answer of status 200, or of another that tells success
abbrev pub success : ℕ → Media → List ℕ → AnswerValue
success status m body = record { status = status; media = m; allow = None; body = body }

-- a deposit on a line: number, owner, reference and genTime
abbrev pub listed_line : ListedValue → List ℕ
listed_line row =
    decimal row.number ++ codes " " ++ row.owner ++ codes " " ++ row.reference ++ codes " "
    ++ text_of 6 row.gen_time ++ line_feed

-- the type of what a command shows: the octets of a deposit, or the reply with its token
abbrev pub media_shown : Command → Media
media_shown (Show a n) = media.Octets
media_shown other = media.Reply

-- what is created under a number, which stands on a line (RFC 9110 15.3.2)
abbrev pub created : ℕ → AnswerValue
created number = success 201 media.Text (decimal number ++ line_feed)

-- the answer to a command for a desk's answer
abbrev pub answer_to : Command → Answer → AnswerValue
answer_to c (Stamped serial octets) = success 200 media.Reply octets
answer_to c (Rejected rule) = success 200 media.Reply (encoding (rejection rule))
answer_to c (Kept number true) = created number
answer_to c (Kept number false) = success 200 media.Text (decimal number ++ line_feed)
answer_to c (Shown octets) = success 200 (media_shown c) octets
answer_to c (Listed rows) = success 200 media.Text (flat_map listed_line rows)
answer_to c (Numbered number) = created number
answer_to c Done = success 200 media.Text []
answer_to c (Refused fault) = refusal_answer (refusal_of fault)
-- no request asks for what begins a stamp alone
answer_to c (Begun p) = refusal_answer refusal.Unavailable

-- the answer with the extract of a history: its stamps with serial numbers from the first on and up to the second
abbrev pub extract_answer : ℕ → ℕ → History → AnswerValue
extract_answer from to b = success 200 media.Csv (extract_text from to b)
