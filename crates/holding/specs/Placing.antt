-- Places for slips, and statements that repeat.
use Rattle.std.specs.Prelude.{Bool, Option}
use Rattle.base.specs.declared.slips.Slip.{Slip}
use Rattle.holding.specs.declared.states.State.{State}
use Rattle.message.specs.declared.shapes.Head.{Head}
use Rattle.protocol.specs.Judging.{latest_of, of_slip, repeats, round_in, sender_in}
use Rattle.protocol.specs.Rounds.{has_place}
use Rattle.protocol.specs.State.{View}
use Rattle.shelf.specs.Views.{shelf_view}

-- the slip is among the candidates or there is room for it
abbrev pub place_for : State → Slip → Bool
place_for state s = has_place s (shelf_view state.candidates)

-- the same of the slip of a page, if any
abbrev pub place_for_page : State → Option Slip → Bool
place_for_page state page = of_slip (λ s. has_place s (shelf_view state.candidates)) page

-- a change under that head, with that page, repeats its sender's latest statement
abbrev pub repeats_in : View → Head → Option Slip → Bool
repeats_in v head page = repeats (round_in head) page (latest_of v (sender_in head))
