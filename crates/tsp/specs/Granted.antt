-- The reply to a request that is granted: TimeStampResp with status and timeStampToken (RFC 3161 2.4.2).
use Rattle.std.specs.Prelude.{pos, List, [], ◌∷◌, ◌++◌, ℕ}
use Rattle.der.specs.Node.{element, encoding}
use Rattle.tsp.specs.Grammar.{sequence, integer}

-- status 0 (granted), and the token, whose octets are given
abbrev pub granted_octets : List ℕ → List ℕ
granted_octets token = element 0x30 (encoding (sequence (integer (pos 0) ∷ [])) ++ token)
