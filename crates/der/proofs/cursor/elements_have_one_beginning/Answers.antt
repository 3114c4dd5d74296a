use Rattle.der.proofs.Elements.{one_beginning}
use Rattle.der.proofs.cursor.elements_have_one_beginning.Goals as goal

pub returns : goal.returns
returns c = λ i j contents others x y p q. one_beginning i j contents others x y p.1 q.1
