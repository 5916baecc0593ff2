-- `accept::verdict::say` is safe: what the checker found lies within the plan.
use Rattle.accept.proofs.Within.{at_within}
use Rattle.accept.proofs.verdict.say.Goals as goal

pub verdict_of-verdict-requires : goal.verdict_of-verdict-requires
verdict_of-verdict-requires c = at_within c.find.ensures
