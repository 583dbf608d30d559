-- What `crossing` cites.
use Rattle.collab.proofs.Crossings.{over-is, before-is}

pub ruleset crossed = (over-is, before-is)
