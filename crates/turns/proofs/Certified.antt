-- A certificate over the votes that were filled in is one over the votes of the lowest members.
use Rattle.std.proofs.Common.{◌≡◌, ℕ, ◌≤◌, true, List, map, length, take, ap, ◌∙◌, arith, lt-ltb}
use Rattle.base.specs.Pools.{quorum}
use Rattle.base.specs.declared.pools.Pool.{Pool}
use Rattle.base.specs.declared.pools.Pool.TheVariants.{Four, Seven, Ten}
use Rattle.base.specs.declared.seals.Vote.{Vote}
use Rattle.message.specs.Contents.{Signed}
use Rattle.outbox.specs.Written.{signed_by, countable}

pub quorum_few : (pool : Pool) → quorum pool ≤ 10
quorum_few Four = omega arith
quorum_few Seven = omega arith
quorum_few Ten = omega arith

-- at most ten votes can be laid out
pub few_votes : (votes : List Vote) → length votes ≤ 10 → countable votes ≡ true
few_votes votes within = lt-ltb (length votes) 254 (omega arith)

-- the votes that are sent are those of the lowest members
pub lowest_votes : (sent votes : List Vote) → sent ≡ votes → (q q' : ℕ) (vs : List (Signed (List ℕ))) → q ≡ q' → map signed_by votes ≡ take q vs → map signed_by sent ≡ take q' vs
lowest_votes sent votes same q q' vs e is = ap (map signed_by) same ∙ is ∙ ap (λ n. take n vs) e
