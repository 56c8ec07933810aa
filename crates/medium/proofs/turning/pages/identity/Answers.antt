use Rattle.std.proofs.Common.{rules}
use Rattle.medium.proofs.turning.pages.identity.Goals as goal

pub returns-clause-places : goal.returns-clause-places
returns-clause-places c b h = let e = c.from_fn.ensures.items.at b 0 h in search rules
