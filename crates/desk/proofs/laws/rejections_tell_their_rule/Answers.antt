use Rattle.desk.proofs.journeys.Headline.{rejections_differ}
use Rattle.desk.proofs.laws.rejections_tell_their_rule.Goals as goal

pub returns : goal.returns
returns c = rejections_differ
