use Rattle.desk.proofs.laws.plans_keep_their_moment.Goals as goal

pub returns : goal.returns
returns c file account reading octets b plan allowed =
    c.good_clocks_keep_the_accuracy.ensures file.counter _ plan.gen_time allowed.good
