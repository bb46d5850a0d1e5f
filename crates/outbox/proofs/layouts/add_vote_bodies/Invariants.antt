use Rattle.std.proofs.Common.{ℕ, take}
use Rattle.message.specs.Encoding.{bodies}
use Rattle.outbox.specs.Appending.{Adds}
use Rattle.outbox.specs.Written.{vote_blocks}
use Rattle.outbox.proofs.layouts.add_vote_bodies.Given as goal

-- the votes so far stand after the fill
abbrev pub invariant-loop-vote : goal.invariant-loop-vote
invariant-loop-vote l = (sort : ℕ) → Adds l.initial.fill.len l.fill.len (bodies (vote_blocks sort (take l.vote-index l.votes))) l.initial.out l.out
