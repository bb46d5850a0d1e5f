-- A call's judgement, by the refusal that it meets first.
use Rattle.std.proofs.Common.{◌≡◌, ℕ, ◌+◌, Bool, true, false, cond, ◌&&◌, ltb, leb, List, Some, None, Ok, Err, Option, Result, sym, refl, ap, ◌∙◌, arith}
use Rattle.base.specs.Refusals.{passing}
use Rattle.base.specs.declared.refusals.Refusal.{Refusal}
use Rattle.base.specs.declared.refusals.Refusal.TheVariants.{Stranger, OutOfStage, OffChain, NotAdmitted, CandidatesFull, Unlawful}
use Rattle.base.specs.declared.slips.Slip.{Slip}
use Rattle.base.specs.declared.stages.Stage.{Stage}
use Rattle.base.specs.declared.stages.Stage.TheVariants.{Resting, Changing, Locking, Committing, Releasing}
use Rattle.holding.specs.Outcome.{Outcome}
use Rattle.holding.proofs.Endings.{outcome_as, ends_refused}
use Rattle.holding.proofs.Passing.{passed_as, refused_as}
use Rattle.protocol.specs.Calls.{judge_offer, judge_begin, judge_tick, time_of, timed_out}
use Rattle.protocol.specs.Judging.{on_chain}
use Rattle.protocol.specs.Messages.{Answer, taken, unless_bad}
use Rattle.protocol.specs.Plans.{Plan, unless}
use Rattle.protocol.specs.Rounds.{is_resting, has_place, shelved, with_candidates, with_ticks, plainly, stating}
use Rattle.protocol.specs.State.{Box}
use Rattle.std.proofs.lemmas.Bool.Decides.{nat_tests}
use Rattle.moves.specs.Refusing.{firstly, is_member, offer_refused, begin_refused, tick_refused}

-- one test more
pub tested : {X : Type 0} (test : Bool) (why : Refusal) (o : Option Refusal) (j rest : Result X Refusal) → j ≡ unless_bad o rest → unless test why j ≡ unless_bad (firstly test why o) rest
tested true why o j rest same = same
tested false why o j rest same = refl

-- a test that was passed, and one that was not
pub goes : (test : Bool) (why : Refusal) (x rest : Option Refusal) → true ≡ test → x ≡ rest → x ≡ firstly test why rest
goes test why x rest e same = same ∙ ap (λ t. firstly t why rest) e

pub stops : (test : Bool) (why : Refusal) (rest : Option Refusal) → false ≡ test → Some why ≡ firstly test why rest
stops test why rest e = ap (λ t. firstly t why rest) e

pub offer_judged : (b : Box) (s : Slip) → judge_offer b s ≡ unless_bad (offer_refused b s) (Ok (plainly taken (with_candidates b.view (shelved s b.view.candidates))))
offer_judged b s =
    tested (is_member b) Stranger _ _ _
    (tested (on_chain b.view.last s) OffChain _ _ _
    (tested (b.rules.admits b.view.height s) NotAdmitted _ _ _
    (tested (has_place s b.view.candidates) CandidatesFull None _ _ refl)))

-- what is not refused has a place
pub offer_placed : (b : Box) (s : Slip) → Ok tt ≡ passing (offer_refused b s) → has_place s b.view.candidates ≡ true
offer_placed b s e = grind (arith, nat_tests)

pub begin_judged : (b : Box) → judge_begin b ≡ unless_bad (begin_refused b) (Ok (stating b taken b.view 0))
begin_judged b = tested (is_member b) Stranger _ _ _ (tested (is_resting b.view.stage) OutOfStage None _ _ refl)

-- a tick that is not refused
abbrev pub ticked : Box → ℕ → Result (Plan Answer) Refusal
ticked b k =
    cond (is_resting b.view.stage) (Ok (plainly taken b.view))
    (cond (leb (time_of b.settings b.view.stage b.view.round) (b.view.ticks + k)) (timed_out b b.view.stage) (Ok (plainly taken (with_ticks b.view (b.view.ticks + k)))))

pub tick_judged : (b : Box) (k : ℕ) → judge_tick b k ≡ unless_bad (tick_refused b k) (ticked b k)
tick_judged b k = tested (is_member b) Stranger _ _ _ (tested (leb 1 k && leb k 60000) Unlawful None _ _ refl)

not_resting : (s : Stage) → (s ≡ Resting → ⊥) → is_resting s ≡ false
not_resting Resting busy = absurd (busy refl)
not_resting Changing busy = refl
not_resting Locking busy = refl
not_resting Committing busy = refl
not_resting Releasing busy = refl

module _ (b : Box) (k : ℕ) where
  -- resting counts no ticks
  pub tick_rests : b.view.stage ≡ Resting → Ok (plainly taken b.view) ≡ ticked b k
  tick_rests rests =
      sym (ap (λ s. cond (is_resting s) (Ok (plainly taken b.view)) (cond (leb (time_of b.settings b.view.stage b.view.round) (b.view.ticks + k)) (timed_out b b.view.stage) (Ok (plainly taken (with_ticks b.view (b.view.ticks + k)))))) rests)

  module _ (time : ℕ) (is : time ≡ time_of b.settings b.view.stage b.view.round) (busy : b.view.stage ≡ Resting → ⊥) where
    goes_by : (t : Bool) → leb (time_of b.settings b.view.stage b.view.round) (b.view.ticks + k) ≡ t → cond t (timed_out b b.view.stage) (Ok (plainly taken (with_ticks b.view (b.view.ticks + k)))) ≡ ticked b k
    goes_by t e =
        sym (ap (λ r. cond r (Ok (plainly taken b.view)) (cond (leb (time_of b.settings b.view.stage b.view.round) (b.view.ticks + k)) (timed_out b b.view.stage) (Ok (plainly taken (with_ticks b.view (b.view.ticks + k)))))) (not_resting b.view.stage busy)
        ∙ ap (λ r. cond r (timed_out b b.view.stage) (Ok (plainly taken (with_ticks b.view (b.view.ticks + k))))) e)

    -- too early, and in time
    pub tick_counts : true ≡ ltb (b.view.ticks + k) time → Ok (plainly taken (with_ticks b.view (b.view.ticks + k))) ≡ ticked b k
    tick_counts early = goes_by false (grind (arith, nat_tests))

    pub tick_moves : false ≡ ltb (b.view.ticks + k) time → timed_out b b.view.stage ≡ ticked b k
    tick_moves due = goes_by true (grind (arith, nat_tests))

-- refused by the first test that fails, or judged on
module _ {X : Type 0} (b : Box) (f : ℕ) (out : List ℕ) (o : Option Refusal) (j rest : Result (Plan X) Refusal) (judged : j ≡ unless_bad o rest) where
  pub is_refused : (why : Refusal) → Err why ≡ passing o → Outcome b b f f out out j (Err why)
  is_refused why e = outcome_as b b f f out out (Err why) j (Err why) (sym (judged ∙ ap (λ x. unless_bad x rest) (sym (refused_as o why e)))) (ends_refused b b f f out out refl refl why refl)

  pub is_judged : Ok tt ≡ passing o → rest ≡ j
  is_judged e = sym (judged ∙ ap (λ x. unless_bad x rest) (sym (passed_as o e)))
