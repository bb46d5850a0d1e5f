-- Which refusal a call meets first, if any, by the tests in their order.
use Rattle.std.specs.Prelude.{ℕ, Bool, cond, ◌&&◌, Some, None, Option, nat_le, nat_lt}
use Rattle.base.specs.Pools.{members}
use Rattle.base.specs.declared.refusals.Refusal.{Refusal}
use Rattle.base.specs.declared.refusals.Refusal.TheVariants.{Stranger, OutOfStage, OffChain, NotAdmitted, CandidatesFull, Unlawful}
use Rattle.base.specs.declared.slips.Slip.{Slip}
use Rattle.protocol.specs.Judging.{on_chain}
use Rattle.protocol.specs.Rounds.{is_resting, has_place}
use Rattle.protocol.specs.State.{Box}

-- refused unless the test holds; else the next test decides
abbrev pub firstly : Bool → Refusal → Option Refusal → Option Refusal
firstly test why rest = cond test rest (Some why)

-- a replica whose sealer is no member of the pool
abbrev pub is_member : Box → Bool
is_member b = nat_lt b.sealer.number (members b.settings.pool)

abbrev pub offer_refused : Box → Slip → Option Refusal
offer_refused b s =
    firstly (is_member b) Stranger
    (firstly (on_chain b.view.last s) OffChain
    (firstly (b.rules.admits b.view.height s) NotAdmitted
    (firstly (has_place s b.view.candidates) CandidatesFull None)))

abbrev pub begin_refused : Box → Option Refusal
begin_refused b = firstly (is_member b) Stranger (firstly (is_resting b.view.stage) OutOfStage None)

abbrev pub tick_refused : Box → ℕ → Option Refusal
tick_refused b k = firstly (is_member b) Stranger (firstly (nat_le 1 k && nat_le k 60000) Unlawful None)
