use Rattle.std.proofs.Common.{append_assoc}
use Rattle.service.proofs.answer.push_content.Goals as goal

pub returns-clause-bytes : goal.returns-clause-bytes
returns-clause-bytes c =
    rw (
      c.push_str-5.ensures.bytes,
      c.push_number.ensures.bytes,
      c.push_str-4.ensures.bytes,
      c.push_str-3.ensures.bytes,
      c.push_str-2.ensures.bytes,
      c.push_str.ensures.bytes,
      c.name.ensures.value,
    )
    (simp append_assoc)
