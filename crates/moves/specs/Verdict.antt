-- What is said of a message that is well laid out: refused, by the first test that it fails, or not.
use Rattle.std.specs.Prelude.{◌≡◌, ℕ, Bool, not, List, Some, None, Ok, Err, Option, Result, nat_le, nat_lt}
use Rattle.base.specs.declared.pools.Pool.{Pool}
use Rattle.base.specs.declared.refusals.Refusal.{Refusal}
use Rattle.base.specs.declared.refusals.Refusal.TheVariants.{Stranger, PastHeight, LaterHeight, WrongRound, OutOfStage, OffChain, NotAdmitted, Contradiction, CandidatesFull, BooksEnd}
use Rattle.base.specs.declared.slips.Mark.{Mark}
use Rattle.base.specs.declared.slips.Slip.{Slip}
use Rattle.base.specs.declared.stages.Stage.{Stage}
use Rattle.holding.specs.declared.states.State.{State}
use Rattle.judging.specs.Table.{stage_after}
use Rattle.message.specs.Contents.{Sent}
use Rattle.message.specs.Encoding.{kind_in}
use Rattle.moves.specs.Refusing.{firstly}
use Rattle.protocol.specs.Judging.{height_in, round_in, familiar, checks_of, bad_seal, round_taken, stage_takes, slip_in, on_chain, of_slip, contradicts, placed, goes_on}
use Rattle.protocol.specs.State.{View, Box}

-- refused; else what is said next
abbrev pub or_next : Option Refusal → Option Refusal → Option Refusal
or_next None next = next
or_next (Some why) next = Some why

-- where it comes: its height, who speaks, its round, and whether the stage takes it
abbrev pub arrival : Pool → View → Sent (List ℕ) → Option Refusal
arrival pool v s =
    firstly (nat_le v.height (height_in s.head)) PastHeight
    (firstly (nat_le (height_in s.head) v.height) LaterHeight
    (firstly (familiar pool s) Stranger
    (firstly (round_taken v s.head s.content) WrongRound
    (firstly (stage_takes v s.head s.content) OutOfStage None))))

-- the slip that comes in, if any: it is on the chain, and the rulebook admits it
abbrev pub slip_verdict : (Slip → Bool) → Mark → Option Slip → Option Refusal
slip_verdict admits last page = firstly (of_slip (on_chain last) page) OffChain (firstly (of_slip admits page) NotAdmitted None)

-- what it meets: it is no contradiction, there is a place for its slip, and the book goes on
abbrev pub standing : ℕ → View → Sent (List ℕ) → Option Refusal
standing own v s =
    firstly (not (contradicts own v s.head s.content)) Contradiction
    (firstly (placed v s.head s.content) CandidatesFull
    (firstly (goes_on v s.content) BooksEnd None))

-- all of it, in the one order of refusals
abbrev pub verdict : Box → Sent (List ℕ) → Option Refusal
verdict b s =
    or_next (arrival b.settings.pool b.view s)
    (or_next (bad_seal b.sealer.knows (checks_of s.head s.content))
    (or_next (slip_verdict (b.rules.admits b.view.height) b.view.last (slip_in s.content))
    (standing b.sealer.number b.view s)))

-- the refusal in an answer
abbrev pub judged_as : {X : Type 0} → Result X Refusal → Option Refusal
judged_as (Ok _) = None
judged_as (Err why) = Some why

-- an answer that is no refusal is that stage
abbrev pub Leads : Result Stage Refusal → Stage → Type 0
Leads (Ok stage) to = stage ≡ to
Leads (Err why) to = Unit {0}

-- the stage that a message leads a replica to, whether or not it is taken
abbrev pub stage_led_to : State → Sent (List ℕ) → Stage
stage_led_to state s = stage_after state.stage (kind_in s.content) (nat_lt state.round.0 (round_in s.head))
