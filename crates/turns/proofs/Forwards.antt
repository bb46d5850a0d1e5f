-- How putting forward ends.
use Rattle.std.proofs.Common.{◌≡◌, ℕ, ◌≤◌, Bool, true, false, not, ◌&&◌, ltb, List, ◌++◌, length, drop, replicate, Some, None, Ok, Err, Result, sym, refl, ap, ◌∙◌, subst, leb-true}
use denote.Enum.Bare.{sameb}
use Rattle.base.specs.Pools.{members, quorum}
use Rattle.base.specs.contracts.stages.Stage.{the_type}
use Rattle.base.specs.declared.stages.Stage.{Stage}
use Rattle.base.specs.declared.stages.Stage.TheVariants.{Resting, Changing, Locking, Committing, Releasing}
use Rattle.base.specs.declared.refusals.Refusal.{Refusal}
use Rattle.base.specs.declared.refusals.Refusal.TheVariants.{Stranger, FewRecords, TurnPast, NotYourTurn}
use Rattle.base.specs.declared.slips.Slip.{Slip}
use Rattle.protocol.specs.Messages.{of_member}
use Rattle.protocol.specs.Plans.{Plan, unless}
use Rattle.protocol.specs.Rounds.{is_locking}
use Rattle.protocol.specs.State.{Box}
use Rattle.protocol.specs.Turns.{Gathering, Records, Forwarded, leads, enough, still_in, agreed_of, forward_by, judge_forward}
use Rattle.seal.specs.Meaning.{Meaning}
use Rattle.sending.specs.Sending.{Sending}
use Rattle.holding.specs.Outcome.{Outcome}
use Rattle.holding.proofs.Endings.{with_sealer}
use Rattle.std.specs.Result.{result_and}
use Rattle.turns.specs.Plans.{forward_plan, proposed_draft}
use Rattle.turns.specs.declared.proposing.Proposal.{Proposal}
use Rattle.turns.specs.declared.proposing.Proposal.TheVariants.{Lock, Select}
use Rattle.turns.proofs.Ending.{certified, uncertified}
use Rattle.turns.proofs.Judged.{passed, three_asked}

-- the program's test for locking
locking_as : (stage : Stage) → false ≡ not (sameb the_type stage Locking) → true ≡ is_locking stage
locking_as Resting e = sym e
locking_as Changing e = sym e
locking_as Locking e = refl
locking_as Committing e = sym e
locking_as Releasing e = sym e

module _ (b : Box) (turn : Gathering) (records : Records) where
  abbrev pub found : Result (Plan Forwarded) Refusal
  found = forward_by b records (agreed_of (quorum b.settings.pool) b.view.round b.view.latest b.view.latest)

  -- one test for two refusals of one kind
  both : {X : Type 0} (t u : Bool) (why : Refusal) (rest : Result X Refusal) → unless t why (unless u why rest) ≡ unless (t && u) why rest
  both true u why rest = refl
  both false u why rest = refl

  -- what is asked of any turn, then the stage and the leader: what is due decides
  pub forward_asked : (r : Result Unit Refusal) → r ≡ of_member b (unless (enough b records) FewRecords (unless (still_in b turn.height turn.round) TurnPast (Ok tt))) → result_and r (unless (is_locking b.view.stage) TurnPast (unless (leads b) NotYourTurn found)) ≡ judge_forward b turn records
  forward_asked r is =
      three_asked r (ltb b.sealer.number (members b.settings.pool)) (enough b records) (still_in b turn.height turn.round) Stranger FewRecords TurnPast (unless (is_locking b.view.stage) TurnPast (unless (leads b) NotYourTurn found)) is
      ∙ ap (λ x. of_member b (unless (enough b records) FewRecords x)) (both (still_in b turn.height turn.round) (is_locking b.view.stage) TurnPast (unless (leads b) NotYourTurn found))

  pub forward_due : (x : Result (Plan Forwarded) Refusal) → ◌≡◌ {A = Result (Unit {0}) Refusal} (Ok tt) (of_member b (unless (enough b records) FewRecords (unless (still_in b turn.height turn.round) TurnPast (Ok tt)))) → false ≡ not (sameb the_type b.view.stage Locking) → true ≡ leads b → x ≡ found → x ≡ judge_forward b turn records
  forward_due x asked here led is =
      is ∙ (λ i. unless (locking_as b.view.stage here i) TurnPast (unless (led i) NotYourTurn found)) ∙ forward_asked (Ok tt) asked

  -- what was not refused has a record for each member
  pub forward_enough : (p : Plan Forwarded) → Ok p ≡ judge_forward b turn records → members b.settings.pool ≤ length records
  forward_enough p is = leb-true (members b.settings.pool) (length records) (passed _ FewRecords p _ (passed _ Stranger p _ is).1).0

module _ (b : Box) (records : Records) where
  drafts : (p : Proposal) → (forward_plan b records p).draft ≡ Some (proposed_draft b.sealer.number b.settings.pool b.view p)
  drafts (Lock s) = refl
  drafts (Select s) = refl

  stays : (p : Proposal) (seals : List (List ℕ)) → (forward_plan b records p).next seals ≡ b.view
  stays (Lock s) seals = refl
  stays (Select s) seals = refl

module _ (b after : Box) (f f' : ℕ) (o o' : List ℕ) (j : Result (Plan Forwarded) Refusal) (records : Records) (p : Proposal) (is : Ok (forward_plan b records p) ≡ j) (m : Meaning) (left : after ≡ with_sealer b m b.view) where
  pub forwards : (x : Forwarded) (s : List (List ℕ)) → (forward_plan b records p).answer ≡ x → Sending b.sealer m (proposed_draft b.sealer.number b.settings.pool b.view p) f f' o o' (Ok s) → Outcome b after f f' o o' j (Ok x)
  forwards x s answer sent =
      subst (λ y. Outcome b after f f' o o' j (Ok y)) answer
      (certified b after f f' o o' j (forward_plan b records p) is _ _ (drafts b records p) refl m left s (stays b records p s) sent)

  pub forwards_not : (why : Refusal) → Sending b.sealer m (proposed_draft b.sealer.number b.settings.pool b.view p) f f' o o' (Err why) → Outcome b after f f' o o' j (Err why)
  forwards_not why unsent = uncertified b after f f' o o' j (forward_plan b records p) is _ _ (drafts b records p) refl m left why unsent

-- the answer of a lock, with the records that were blanked; and that of a select
pub lock_answers : (b : Box) (records after : Records) (p : Proposal) (s : Slip) (n : ℕ) → p ≡ Lock s → n ≡ members b.settings.pool → after ≡ replicate n None ++ drop n records → (forward_plan b records p).answer ≡ record { turn = Some (record { height = b.view.height; round = b.view.round; page = s }); records = after }
lock_answers b records after p s n is size blank =
    ap (λ q. (forward_plan b records q).answer) is
    ∙ (λ i. record { turn = Some (record { height = b.view.height; round = b.view.round; page = s }); records = sym (blank ∙ (λ k. replicate (size k) None ++ drop (size k) records)) i })

pub select_answers : (b : Box) (records : Records) (p : Proposal) (s : Slip) → p ≡ Select s → (forward_plan b records p).answer ≡ record { turn = None; records = records }
select_answers b records p s is = ap (λ q. (forward_plan b records q).answer) is
