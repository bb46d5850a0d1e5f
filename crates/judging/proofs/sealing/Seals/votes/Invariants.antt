use Rattle.std.proofs.Common.{◌≡◌, ◌+◌, ◌≤◌, length}
use Rattle.message.specs.Layout.{left, whole}
use Rattle.message.specs.Views.{place_of}
use Rattle.protocol.specs.Judging.{bad_seal, vote_checks}
use Rattle.judging.specs.Views.{votes_at}
use Rattle.judging.proofs.sealing.Seals.votes.Given as goal

-- what is left decides, and its places fit a byte
abbrev pub invariant-loop-vote : goal.invariant-loop-vote
invariant-loop-vote g l =
    (goal.iterator-loop-vote g).can_next l.vote-iterator
    × (goal.iterator-loop-vote g).is_finite l.vote-iterator
    × (whole (place_of l.vote-iterator.a) ≡ whole (place_of l.fn.votes))
    × (length (left (place_of l.fn.votes)) ≤ 7
    → (l.vote-iterator.b.start + length (left (place_of l.vote-iterator.a)) ≤ 9)
    × (bad_seal (g.C.Checker.recognised l.self.checker.now) (vote_checks l.vote-iterator.b.start l.self.inside l.statement (votes_at (place_of l.vote-iterator.a)))
    ≡ bad_seal (g.C.Checker.recognised l.self.checker.now) (vote_checks 2 l.self.inside l.statement (votes_at (place_of l.fn.votes)))))
