-- A replica that locks a slip.
use Rattle.std.specs.Prelude.{ℕ, List, Option}
use Rattle.base.specs.declared.slips.Slip.{Slip}
use Rattle.protocol.specs.Rounds.{shelved, locked_at, with_candidates, with_held}
use Rattle.protocol.specs.State.{Candidate, Held, View}

-- the slip goes among some candidates and is locked, and a message is held
abbrev pub locked_with : View → Slip → ℕ → List Candidate → Option Held → View
locked_with v s r cs held = with_held (with_candidates v (locked_at s r (shelved s cs))) held
