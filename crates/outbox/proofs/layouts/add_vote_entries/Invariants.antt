use Rattle.std.proofs.Common.{take}
use Rattle.message.specs.Encoding.{table}
use Rattle.outbox.specs.Appending.{Adds}
use Rattle.outbox.specs.Written.{vote_blocks}
use Rattle.outbox.proofs.layouts.add_vote_entries.Given as goal

-- the votes so far stand after the fill
abbrev pub invariant-loop-vote : goal.invariant-loop-vote
invariant-loop-vote l = Adds l.initial.fill.len l.fill.len (table (vote_blocks l.sort (take l.vote-index l.votes))) l.initial.out l.out
