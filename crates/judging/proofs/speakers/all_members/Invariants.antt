use Rattle.std.proofs.Common.{◌≡◌}
use Rattle.message.specs.Layout.{whole}
use Rattle.message.specs.Views.{place_of}
use Rattle.protocol.specs.Judging.{all_members}
use Rattle.judging.specs.Views.{votes_at}
use Rattle.judging.proofs.speakers.all_members.Given as goal

-- what is left decides
abbrev pub invariant-loop-vote : goal.invariant-loop-vote
invariant-loop-vote l =
    (goal.iterator-loop-vote).can_next l.vote-iterator
    × (goal.iterator-loop-vote).is_finite l.vote-iterator
    × (all_members l.pool (votes_at (place_of l.vote-iterator)) ≡ all_members l.pool (votes_at (place_of l.fn.votes)))
    × (whole (place_of l.vote-iterator) ≡ whole (place_of l.fn.votes))
