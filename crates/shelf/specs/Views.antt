-- What the values of the program stand for.
use Rattle.std.specs.Prelude.{ℕ, List, map}
use Rattle.base.specs.Bounded.{items}
use Rattle.base.specs.declared.counters.Round.{Round}
use Rattle.protocol.specs.State.{Candidate as Known-slip, Held as Held-lock}
use Rattle.shelf.specs.declared.candidates.Candidate.{Candidate}
use Rattle.shelf.specs.declared.candidates.Candidates.{Candidates}
use Rattle.shelf.specs.declared.held.Held.{Held}
use Rattle.std.specs.Option.{option_map}

abbrev pub round_view : Round → ℕ
round_view r = r.0

abbrev pub candidate_view : Candidate → Known-slip
candidate_view c = record { slip = c.slip; lock = option_map round_view c.lock }

abbrev pub shelf_view : Candidates → List Known-slip
shelf_view c = map candidate_view (items c.known)

abbrev pub held_view : Held → Held-lock
held_view h = record { slip = h.slip; round = h.round.0; bytes = items h.bytes }
