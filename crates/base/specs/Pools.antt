-- The pool's arithmetic: sizes, the number of members that may lie, quorums, leaders; the ranges of the counters.
use Rattle.std.specs.Prelude.{ℕ, ◌+◌, ◌*◌, ◌%◌, Bool, cond, ◌&&◌, Some, None, Option, ◌==◌, nat_le}
use Rattle.base.specs.declared.counters.Height.{Height}
use Rattle.base.specs.declared.counters.Round.{Round}
use Rattle.base.specs.declared.pools.Pool.{Pool}
use Rattle.base.specs.declared.pools.Pool.TheVariants.{Four, Seven, Ten}

-- the last height and the last round there are
abbrev pub last_height : ℕ
last_height = 4000000000

abbrev pub last_round : ℕ
last_round = 65535

-- heights run from 1 to the last, rounds from 0 to the last
abbrev pub height_in_range : Height → Bool
height_in_range h = nat_le 1 h.0 && nat_le h.0 last_height

abbrev pub round_in_range : Round → Bool
round_in_range r = nat_le r.0 last_round

-- a pool has 4, 7 or 10 members
abbrev pub pool_of : ℕ → Option Pool
pool_of n = cond (n == 4) (Some Four) (cond (n == 7) (Some Seven) (cond (n == 10) (Some Ten) None))

-- t, how many of the members may lie
abbrev pub tolerance : Pool → ℕ
tolerance Four = 1
tolerance Seven = 2
tolerance Ten = 3

-- n = 3t + 1 members
abbrev pub members : Pool → ℕ
members p = 3 * tolerance p + 1

-- q = 2t + 1 members are a quorum
abbrev pub quorum : Pool → ℕ
quorum p = 2 * tolerance p + 1

-- the leader of a height and a round
abbrev pub leader_of : Pool → Height → Round → ℕ
leader_of p h r = (h.0 + r.0) % members p
