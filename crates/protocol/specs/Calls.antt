-- Offer, begin and tick.
use Rattle.std.specs.Prelude.{ℕ, ◌+◌, cond, ◌&&◌, Some, None, Ok, Option, Result, nat_le, nat_lt}
use Rattle.base.specs.Pools.{last_round}
use Rattle.base.specs.declared.refusals.Refusal.{Refusal}
use Rattle.base.specs.declared.refusals.Refusal.TheVariants.{OutOfStage, OffChain, NotAdmitted, CandidatesFull, Unlawful, BooksEnd}
use Rattle.base.specs.declared.slips.Slip.{Slip}
use Rattle.base.specs.declared.stages.Stage.{Stage}
use Rattle.base.specs.declared.stages.Stage.TheVariants.{Resting, Changing, Locking, Committing, Releasing}
use Rattle.protocol.specs.Judging.{on_chain, latest_of}
use Rattle.protocol.specs.Messages.{Answer, taken, of_member}
use Rattle.protocol.specs.Plans.{Draft, Plan, unless}
use Rattle.protocol.specs.Rounds.{is_resting, has_place, shelved, change_draft, moved, with_candidates, with_ticks, stating, plainly, releasing}
use Rattle.protocol.specs.State.{Settings, Latest, Box, grown}

-- offer: an admitted slip on the chain is shelved
abbrev pub judge_offer : Box → Slip → Result (Plan Answer) Refusal
judge_offer b s =
    of_member b
    (unless (on_chain b.view.last s) OffChain
    (unless (b.rules.admits b.view.height s) NotAdmitted
    (unless (has_place s b.view.candidates) CandidatesFull
    (Ok (plainly taken (with_candidates b.view (shelved s b.view.candidates)))))))

-- begin: in resting, states round 0
abbrev pub judge_begin : Box → Result (Plan Answer) Refusal
judge_begin b = of_member b (unless (is_resting b.view.stage) OutOfStage (Ok (stating b taken b.view 0)))

-- changing: the recorded change is written and sealed again
abbrev pub again : Box → Option Latest → Option Draft
again b None = None
again b (Some l) = Some (change_draft b.sealer.number b.view.height l.round l.page)

abbrev pub resending : Box → Plan Answer
resending b = record { answer = taken; next = λ seals. with_ticks b.view 0; draft = again b (latest_of b.view b.sealer.number) }

-- the time of a stage in the replica's round; resting has none
abbrev pub time_of : Settings → Stage → ℕ → ℕ
time_of s Resting round = 0
time_of s Changing round = s.d0
time_of s Locking round = grown s.d1 round
time_of s Committing round = grown s.d2 round
time_of s Releasing round = grown s.d3 round

-- what a stage does when its time has come
abbrev pub timed_out : Box → Stage → Result (Plan Answer) Refusal
timed_out b Resting = Ok (plainly taken b.view)
timed_out b Changing = Ok (resending b)
timed_out b Locking = Ok (plainly taken (moved b.view b.view.round Committing))
timed_out b Committing = Ok (releasing b taken b.view)
timed_out b Releasing = unless (nat_lt b.view.round last_round) BooksEnd (Ok (stating b taken b.view (b.view.round + 1)))

-- tick: adds 1 to 60,000 ticks and moves at most once; resting counts none
abbrev pub judge_tick : Box → ℕ → Result (Plan Answer) Refusal
judge_tick b k =
    of_member b
    (unless (nat_le 1 k && nat_le k 60000) Unlawful
    (cond (is_resting b.view.stage) (Ok (plainly taken b.view))
    (cond (nat_le (time_of b.settings b.view.stage b.view.round) (b.view.ticks + k))
    (timed_out b b.view.stage)
    (Ok (plainly taken (with_ticks b.view (b.view.ticks + k)))))))
