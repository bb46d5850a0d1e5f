use Rattle.std.proofs.Common.{◌≡◌, ◌++◌, map, take, drop}
use Rattle.protocol.specs.Rounds.{locked_at}
use Rattle.shelf.specs.Views.{candidate_view}
use Rattle.shelf.proofs.marks.lock_at.Given as goal

-- nothing is changed yet, and the slip is not before `c`
abbrev pub invariant-loop-c : goal.invariant-loop-c
invariant-loop-c l =
    (l.candidates ≡ l.initial.candidates)
    × (map candidate_view (take l.c-index l.candidates) ++ locked_at l.slip l.round.0 (map candidate_view (drop l.c-index l.candidates))
    ≡ locked_at l.slip l.round.0 (map candidate_view l.candidates))
