-- A store's words as a book's, and as those of its tables.
use Rattle.book.specs.Stands.{OnlyLooks as BookLooks, Stands as BookStands}
use Rattle.store.proofs.{Words.BaseValue, Words.Ghosts, Words.History, Words.◌↔◌, Calls.stands_for}
use Rattle.store.specs.Stands.{OnlyLooks, Stands, over_tables}

book_of : {S : Type 0} (g : Ghosts S) (b : History) (store : BaseValue S) → Stands g b store
    → BookStands (over_tables g) b store
book_of g b store s = stands_for g b store s.sound s.kept

tables_of_book : {S : Type 0} (g : Ghosts S) (b : History) (store : BaseValue S) → BookStands (over_tables g) b store
    → Stands g b store
tables_of_book g b store s = record { sound = s.sound; kept = s.kept }

pub stands_tables : {S : Type 0} (g : Ghosts S) (b : History) (store : BaseValue S)
    → BookStands (over_tables g) b store ↔ Stands g b store
stands_tables g b store = (tables_of_book g b store, book_of g b store)

pub looks_tables : {S : Type 0} (g : Ghosts S) (old new : BaseValue S)
    → BookLooks (over_tables g) old new ↔ OnlyLooks g old new
looks_tables g old new = (
  λ looks. record {
    honest = looks.honest;
    stands = λ b s. tables_of_book g b new (looks.stands b (book_of g b old s));
    leaves = looks.leaves;
  },
  λ looks. record {
    honest = looks.honest;
    stands = λ b s. book_of g b new (looks.stands b (tables_of_book g b old s));
    leaves = looks.leaves;
  },
)
