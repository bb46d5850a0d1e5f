use Rattle.std.proofs.Common.{◌≡◌, ◌-◌, ◌≤◌, length, take}
use Rattle.std.specs.Slice.Iter.{iter_rest}
use Rattle.base.specs.Bounded.{items}
use Rattle.protocol.specs.Turns.{votes_from}
use Rattle.ballots.proofs.Counting.{left_of, whole}
use Rattle.ballots.proofs.tallies.lowest.Given as goal

-- the votes that are there and those still to come make the whole; as many members are left as records, or more
abbrev pub invariant-loop-record : goal.invariant-loop-record
invariant-loop-record g l =
    (l.record-iterator.b.end ≡ 255)
    × (left_of l.record-iterator.b ≤ 256)
    × (length l.records ≤ 256 → length (iter_rest l.record-iterator.a) ≤ left_of l.record-iterator.b)
    × (l.quorum ≤ g.row.N
    → whole (λ b. g.B.Ballot.backed b l.asked) (λ b. g.B.Ballot.given b l.asked) l.quorum (256 - left_of l.record-iterator.b) (iter_rest l.record-iterator.a) (items l.votes)
    ≡ take l.quorum (votes_from (λ b. g.B.Ballot.backed b l.asked) (λ b. g.B.Ballot.given b l.asked) 0 l.records))
