-- Each call of the program is a step of a run, so that what is promised of every run is promised of the program's calls.
use Rattle.std.specs.Prelude.{◌≡◌, ℕ, Bool, List, length, is_ok, Result}
use Rattle.base.specs.declared.refusals.Refusal.{Refusal}
use Rattle.base.specs.declared.slips.Slip.{Slip}
use Rattle.holding.specs.Outcome.{Outcome, appended}
use Rattle.protocol.specs.Calls.{judge_offer, judge_begin, judge_tick}
use Rattle.protocol.specs.Messages.{judge_message}
use Rattle.protocol.specs.Plans.{Plan}
use Rattle.protocol.specs.Runs.{Call, Call.offers, Call.begins, Call.ticks, Call.takes, Call.turns, Call.forwards, Call.counts, Call.closes, Act, step_by, settings_by}
use Rattle.protocol.specs.Witness.{written_by}
use Rattle.protocol.specs.State.{Box}
use Rattle.protocol.specs.Turns.{Gathering, Counting, Records, judge_opening, judge_forward, judge_commit, judge_closing}
use Rattle.sending.specs.Sending.{Good}

-- a call on the member's replica, with the fill and the size of the outbox lent to it and the seals that were made
abbrev pub acting : Box → Call → ℕ → List ℕ → List (List ℕ) → Act
acting b call fill out seals = record { who = b.sealer.number; call = call; fill = fill; size = length out; seals = seals }

-- the step of a run at some good seals: it accepts or refuses as the call did, leaves the replica as the call left it, and
-- writes what the call wrote
pub record Stepped (b after : Box) (fill : ℕ) (out out' : List ℕ) (call : Call) (accepted : Bool) : Type 0 where
  pub seals : List (List ℕ)
  pub good : Good b.sealer (step_by b (acting b call fill out seals) call).sealed seals
  pub accepts : (step_by b (acting b call fill out seals) call).accepted ≡ accepted
  pub sets : settings_by b.settings call ≡ after.settings
  pub holds : (step_by b (acting b call fill out seals) call).view ≡ after.view
  pub leaves : (step_by b (acting b call fill out seals) call).left ≡ after.sealer.left
  pub writes : out' ≡ appended fill (written_by b (acting b call fill out seals) call) out

-- what a call's contract says makes it that step
abbrev pub IsStep : {X : Type 0} → (Box → Result (Plan X) Refusal) → Call → Type 0
IsStep {X} judge call =
    (b after : Box) (fill fill' : ℕ) (out out' : List ℕ) (r : Result X Refusal) → Outcome b after fill fill' out out' (judge b) r → Stepped b after fill out out' call (is_ok r)

pub record CallsAreSteps : Type 0 where
  pub offer_steps : (s : Slip) → IsStep (λ b. judge_offer b s) (offers s)
  pub begin_steps : IsStep judge_begin begins
  pub tick_steps : (k : ℕ) → IsStep (λ b. judge_tick b k) (ticks k)
  pub take_steps : (m : List ℕ) → IsStep (λ b. judge_message b m) (takes m)
  pub open_turn_steps : IsStep judge_opening turns
  pub put_forward_steps : (t : Gathering) (rs : Records) → IsStep (λ b. judge_forward b t rs) (forwards t rs)
  pub take_commit_steps : (t : Counting) (rs : Records) (m : List ℕ) → IsStep (λ b. judge_commit b t rs m) (counts t rs m)
  pub close_steps : (t : Counting) (rs : Records) → IsStep (λ b. judge_closing b t rs) (closes t rs)
