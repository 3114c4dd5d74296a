-- A signer at the other end of a connection: what goes out and what comes in, in frames.
use Rattle.std.specs.Prelude.{◌≡◌, ◌⊎◌, ℕ, ◌^◌, ◌<◌, ◌≤◌, Bool, true, false, List, [], ◌∷◌, ◌++◌, length, Option}
use Rattle.std.specs.{Prelude.Result, Prelude.Ok, Prelude.Err, Int.to_be_bytes, Int.w32}
use Rattle.std.specs.Io.KnownBytes.{Appends, Consumes}
use Rattle.cms.specs.declared.signer.SignerFault.{SignerFault, TheVariants.Failed, TheVariants.Memory}

-- octets with their number in front, in four octets, most significant first
unfoldable pub frame : List ℕ → List ℕ
frame octets = to_be_bytes w32 (length octets) ++ octets

-- the frames of texts, one after the other
abbrev pub frames : List (List ℕ) → List ℕ
frames [] = []
frames (text ∷ texts) = frame text ++ frames texts

-- a text that has a frame
abbrev pub IsShort : List ℕ → Type 0
IsShort text = length text < 2 ^ 32

-- what may come back as a signature
pub record IsAnswer (octets : List ℕ) : Type 0 where
  pub some : 1 ≤ length octets
  pub few : length octets ≤ 4096

-- The state of a signer behind a connection: its two ends, and the octets that they tell, what the reader still gives
-- and what the writer took. Faults are counted modulo 2 ^ 64.
pub record FramedState (R W : Type 0) : Type 0 where
  pub reader : R
  pub writer : W
  pub unread : Option (List ℕ)
  pub written : Option (List ℕ)
  pub algorithm : List ℕ
  pub faults : ℕ
  pub is_closed : Bool

-- an open session over two ends, with no fault
abbrev pub over_ends : {R W : Type 0} → (R → Option (List ℕ)) → (W → Option (List ℕ)) → R → W → List ℕ
    → FramedState R W
over_ends remaining contents reader writer algorithm = record {
  reader = reader;
  writer = writer;
  unread = remaining reader;
  written = contents writer;
  algorithm = algorithm;
  faults = 0;
  is_closed = false;
}

-- A writer's known octets grow by a beginning of these octets.
pub record SendsBeginning (old new : Option (List ℕ)) (octets : List ℕ) : Type 0 where
  pub sent : List ℕ
  pub unsent : List ℕ
  pub split : octets ≡ sent ++ unsent
  pub grown : Appends old new sent

-- What is read of a reader's known octets begins with no frame of an answer.
pub record ReceivesNoAnswer (old new : Option (List ℕ)) : Type 0 where
  pub received : List ℕ
  pub few : length received ≤ 4100
  pub no_answer : (answer rest : List ℕ) → IsAnswer answer → received ≡ frame answer ++ rest → ⊥
  pub taken : Consumes old new received

-- Neither end is touched.
pub record AreUntouched {R W : Type 0} (before after : FramedState R W) : Type 0 where
  pub same_reader : after.reader ≡ before.reader
  pub same_writer : after.writer ≡ before.writer
  pub same_unread : after.unread ≡ before.unread
  pub same_written : after.written ≡ before.written

-- The text's frame goes out, and the answer's frame comes in, and no octet more.
pub record Exchanges {R W : Type 0} (before after : FramedState R W) (text answer : List ℕ) : Type 0 where
  pub short : IsShort text
  pub sent : Appends before.written after.written (frame text)
  pub received : Consumes before.unread after.unread (frame answer)

-- The text is too long, and neither end is touched.
pub record IsTooLong {R W : Type 0} (before after : FramedState R W) (text : List ℕ) : Type 0 where
  pub long : 2 ^ 32 ≤ length text
  pub untouched : AreUntouched before after

-- A beginning of the text's frame goes out, and nothing is read.
pub record StopsSending {R W : Type 0} (before after : FramedState R W) (text : List ℕ) : Type 0 where
  pub short : IsShort text
  pub sent : SendsBeginning before.written after.written (frame text)
  pub same_reader : after.reader ≡ before.reader
  pub same_unread : after.unread ≡ before.unread

-- The text's frame goes out, and no answer's frame comes in.
pub record StopsReceiving {R W : Type 0} (before after : FramedState R W) (text : List ℕ) : Type 0 where
  pub short : IsShort text
  pub sent : Appends before.written after.written (frame text)
  pub received : ReceivesNoAnswer before.unread after.unread

-- What asking for a signature over an open session does to its ends: nothing where memory is wanting.
abbrev pub Asks : {R W : Type 0} → FramedState R W → List ℕ → Result (List ℕ) SignerFault → FramedState R W → Type 0
Asks before text (Ok answer) after = Exchanges before after text answer
Asks before text (Err Memory) after = AreUntouched before after
Asks before text (Err Failed) after =
    IsTooLong before after text ⊎ StopsSending before after text ⊎ StopsReceiving before after text

-- whether a session is closed by what it answered
abbrev pub closes : Result (List ℕ) SignerFault → Bool
closes (Ok answer) = false
closes (Err Memory) = false
closes (Err Failed) = true

-- A call while the session is open: it asks, and is closed by a failure.
pub record SignsOpen {R W : Type 0} (before : FramedState R W) (text : List ℕ) (answer : Result (List ℕ) SignerFault)
    (after : FramedState R W) : Type 0 where
  pub asks : Asks before text answer after
  pub closed : after.is_closed ≡ closes answer

-- A call once the session is closed: it fails, and touches neither end.
pub record SignsClosed {R W : Type 0} (before : FramedState R W) (answer : Result (List ℕ) SignerFault)
    (after : FramedState R W) : Type 0 where
  pub failed : answer ≡ Err Failed
  pub untouched : AreUntouched before after
  pub closed : after.is_closed ≡ true

-- What a call does: before it the signer, then the text, what is answered, and after it the signer.
abbrev pub SignsByFrame : {R W : Type 0} → FramedState R W → List ℕ → Result (List ℕ) SignerFault → FramedState R W
    → Type 0
SignsByFrame before text answer after =
    (before.is_closed ≡ true → SignsClosed before answer after)
    × (before.is_closed ≡ false → SignsOpen before text answer after)
