-- A pool has at most ten members.
use Rattle.std.proofs.Common.{◌≤◌, arith}
use Rattle.base.specs.Pools.{members}
use Rattle.base.specs.declared.pools.Pool.{Pool}
use Rattle.base.specs.declared.pools.Pool.TheVariants.{Four, Seven, Ten}

pub few : (pool : Pool) → members pool ≤ 10
few Four = omega arith
few Seven = omega arith
few Ten = omega arith
