use Rattle.policy.proofs.KindsRead.{hash_in-refused, refused-decode}
use Rattle.policy.proofs.parser.hash.Goals as goal

-- the text isn't 64 digits
pub returns-in-Err : goal.returns-in-Err
returns-in-Err c = hash_in-refused _ _ _ c.in-Some.ensures
    (refused-decode _ _ _ _ _ c.in-Err.is c.decode_to_slice.ensures.value)
