use Rattle.std.proofs.Common.{◌≡◌, map, take, drop}
use Rattle.protocol.specs.Rounds.{keep_only}
use Rattle.shelf.specs.Locks.{lock_view}
use Rattle.shelf.specs.Views.{candidate_view}
use Rattle.std.specs.Option.{option_map}
use Rattle.shelf.proofs.marks.keep_only.Given as goal

-- those before `c` are done, the others as they were
abbrev pub invariant-loop-c : goal.invariant-loop-c
invariant-loop-c l =
    (map candidate_view (take l.c-index l.candidates) ≡ keep_only (option_map lock_view l.only) (map candidate_view (take l.c-index l.initial.candidates)))
    × (drop l.c-index l.candidates ≡ drop l.c-index l.initial.candidates)
