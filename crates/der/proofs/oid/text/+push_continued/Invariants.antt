use Rattle.der.proofs.oid.text.+push_continued.Given as goal

abbrev pub decreases-push_continued : goal.decreases-push_continued
decreases-push_continued l = l.number
