-- Every plan that a call can come to: what holds of each of them holds of what is judged.
use Rattle.std.proofs.Common.{◌≡◌, ℕ, ◌+◌, ◌<◌, true, cond, not, ◌&&◌, eqb, ltb, leb, List, take, Some, None, Ok, Option, refl}
use Rattle.base.specs.Pools.{members, quorum, last_round}
use Rattle.base.specs.declared.slips.Slip.{Slip}
use Rattle.base.specs.declared.stages.Stage.{Stage}
use Rattle.base.specs.declared.stages.Stage.TheVariants.{Resting, Changing, Locking, Committing, Releasing}
use Rattle.message.specs.Contents.{commit, Sent}
use Rattle.message.specs.RoundTrip.{fields}
use Rattle.message.specs.declared.shapes.Head.{Head}
use Rattle.protocol.specs.Calls.{judge_offer, judge_begin, judge_tick, resending, timed_out, time_of}
use Rattle.protocol.specs.Judging.{height_in, round_in, familiar, checks_of, bad_seal, on_chain}
use Rattle.protocol.specs.Messages.{Answer, taken, plan_of, judged_fields, judge_message}
use Rattle.protocol.specs.Plans.{Plan}
use Rattle.protocol.specs.Rounds.{is_resting, is_locking, top_of, has_place, shelved, moved, with_candidates, with_ticks, with_turned, stating, plainly, releasing}
use Rattle.protocol.specs.State.{View, Box, tally, one_page}
use Rattle.protocol.specs.Turns.{Gathering, Counting, Committed, Records, Forwarded, leads, still_in, enough, select_due, forward_lock, forward_select, forward_top, forward_by, agreed_of, commits_to, commit_in, judged_commit, judged_turn, decide_draft, judge_opening, judge_forward, judge_commit, judge_closing}
use Rattle.protocol.proofs.Judged.{Passed, judged}
use Rattle.protocol.proofs.Settling.{Passing, passes, refuses, passing}
use Rattle.protocol.proofs.Turning.{gathered, passing_seals}
use Rattle.std.proofs.lemmas.Bool.{cond_both, ltb-true}

module _ (b : Box) (Q : (X : Type 0) → Plan X → Type 0) where
  pub offer_walk : (s : Slip) → (on_chain b.view.last s ≡ true → Q Answer (plainly taken (with_candidates b.view (shelved s b.view.candidates)))) → Passing (Q Answer) (judge_offer b s)
  offer_walk s f =
      passing (Q Answer) (ltb b.sealer.number (members b.settings.pool)) _ _ (λ member.
      passing (Q Answer) (on_chain b.view.last s) _ _ (λ chain.
      passing (Q Answer) (b.rules.admits b.view.height s) _ _ (λ admitted.
      passing (Q Answer) (has_place s b.view.candidates) _ _ (λ place.
      passes (f chain)))))

  pub begin_walk : (is_resting b.view.stage ≡ true → Q Answer (stating b taken b.view 0)) → Passing (Q Answer) (judge_begin b)
  begin_walk f =
      passing (Q Answer) (ltb b.sealer.number (members b.settings.pool)) _ _ (λ member.
      passing (Q Answer) (is_resting b.view.stage) _ _ (λ rests.
      passes (f rests)))

  -- what a stage does when its time has come
  pub record Timed : Type 0 where
    pub resting : Q Answer (plainly taken b.view)
    pub changing : b.view.stage ≡ Changing → Q Answer (resending b)
    pub locking : Q Answer (plainly taken (moved b.view b.view.round Committing))
    pub committing : b.view.stage ≡ Committing → Q Answer (releasing b taken b.view)
    pub releases : b.view.stage ≡ Releasing → b.view.round < last_round → Q Answer (stating b taken b.view (b.view.round + 1))
    pub counted : (k : ℕ) → Q Answer (plainly taken (with_ticks b.view k))

  timed_walk : Timed → (g : Stage) → b.view.stage ≡ g → Passing (Q Answer) (timed_out b g)
  timed_walk t Resting is = passes t.resting
  timed_walk t Changing is = passes (t.changing is)
  timed_walk t Locking is = passes t.locking
  timed_walk t Committing is = passes (t.committing is)
  timed_walk t Releasing is =
      passing (Q Answer) (ltb b.view.round last_round) _ _ (λ more. passes (t.releases is (ltb-true b.view.round last_round more)))

  pub tick_walk : (k : ℕ) → Timed → Passing (Q Answer) (judge_tick b k)
  tick_walk k t =
      let v : View = b.view in
      let due = leb (time_of b.settings v.stage v.round) (v.ticks + k) in
      passing (Q Answer) (ltb b.sealer.number (members b.settings.pool)) _ _ (λ member.
      passing (Q Answer) (leb 1 k && leb k 60000) _ _ (λ lawful.
      cond_both (is_resting v.stage) (Ok (plainly taken v)) (cond due (timed_out b v.stage) (Ok (plainly taken (with_ticks v (v.ticks + k))))) (Passing (Q Answer))
      (λ rests. passes t.resting)
      (λ busy. cond_both due (timed_out b v.stage) (Ok (plainly taken (with_ticks v (v.ticks + k)))) (Passing (Q Answer)) (λ e. timed_walk t v.stage refl) (λ e. passes (t.counted (v.ticks + k))))))

  pub message_walk : (m : List ℕ) → ((s : Sent (List ℕ)) → fields b.settings.pool b.sealer.long m ≡ Some s → Passed b s → Q Answer (plan_of b m s.head s.content)) → Passing (Q Answer) (judge_message b m)
  message_walk m f =
      passing (Q Answer) (ltb b.sealer.number (members b.settings.pool)) _ _ (λ member. by (fields b.settings.pool b.sealer.long m) refl)
    where
      by : (o : Option (Sent (List ℕ))) → fields b.settings.pool b.sealer.long m ≡ o → Passing (Q Answer) (judged_fields b m o)
      by None is = refuses
      by (Some s) is = judged b m s (Q Answer) (f s is)

  -- the leader's turn
  pub opening_walk : Q Gathering (plainly (gathered b.view) (with_turned b.view)) → Passing (Q Gathering) (judge_opening b)
  opening_walk f =
      passing (Q Gathering) (ltb b.sealer.number (members b.settings.pool)) _ _ (λ member.
      passing (Q Gathering) (leads b && (is_locking b.view.stage && not b.view.turned)) _ _ (λ led. passes f))

  module _ (records : Records) where
    top_walk : (o : Option Slip) → ((s : Slip) → o ≡ Some s → select_due b ≡ true → Q Forwarded (forward_select b records s)) → Passing (Q Forwarded) (forward_top b records o)
    top_walk None f = refuses
    top_walk (Some s) f = passing (Q Forwarded) (select_due b) _ _ (λ due. passes (f s refl due))

    by_walk : (o : Option Slip) → ((s : Slip) → o ≡ Some s → Q Forwarded (forward_lock b records s))
        → ((s : Slip) → top_of b.rules.above b.view.candidates ≡ Some s → select_due b ≡ true → Q Forwarded (forward_select b records s))
        → Passing (Q Forwarded) (forward_by b records o)
    by_walk (Some s) f g = passes (f s refl)
    by_walk None f g = top_walk (top_of b.rules.above b.view.candidates) g

    pub forward_walk : (turn : Gathering)
        → ((s : Slip) → agreed_of (quorum b.settings.pool) b.view.round b.view.latest b.view.latest ≡ Some s → Q Forwarded (forward_lock b records s))
        → ((s : Slip) → top_of b.rules.above b.view.candidates ≡ Some s → select_due b ≡ true → Q Forwarded (forward_select b records s))
        → Passing (Q Forwarded) (judge_forward b turn records)
    forward_walk turn f g =
        passing (Q Forwarded) (ltb b.sealer.number (members b.settings.pool)) _ _ (λ member.
        passing (Q Forwarded) (enough b records) _ _ (λ many.
        passing (Q Forwarded) (still_in b turn.height turn.round && is_locking b.view.stage) _ _ (λ still.
        passing (Q Forwarded) (leads b) _ _ (λ leading.
        by_walk (agreed_of (quorum b.settings.pool) b.view.round b.view.latest b.view.latest) f g))))

  module _ (turn : Counting) (records : Records) where
    module _ (f : (rs : Records) → Q Records (plainly rs b.view)) where
      counted_walk : (h : Head) (o : Option Committed) → Passing (Q Records) (judged_commit b turn records h o)
      counted_walk h None = refuses
      counted_walk h (Some c) =
          passing_seals (Q Records) (bad_seal b.sealer.knows (checks_of h (commit c.page c.seal))) _ (λ good.
          passing (Q Records) (on_chain b.view.last c.page) _ _ (λ chain.
          passing (Q Records) (b.rules.admits b.view.height c.page) _ _ (λ admitted.
          passing (Q Records) (one_page c.page turn.page) _ _ (λ one.
          passes (f _)))))

      turn_walk : (o : Option (Sent (List ℕ))) → Passing (Q Records) (judged_turn b turn records o)
      turn_walk None = refuses
      turn_walk (Some s) =
          passing (Q Records) (leb b.view.height (height_in s.head)) _ _ (λ past.
          passing (Q Records) (leb (height_in s.head) b.view.height) _ _ (λ later.
          passing (Q Records) (familiar b.settings.pool s) _ _ (λ known.
          passing (Q Records) (still_in b turn.height turn.round) _ _ (λ still.
          passing (Q Records) (eqb (round_in s.head) turn.round) _ _ (λ round.
          counted_walk s.head (commit_in s.content))))))

      pub commit_walk : (m : List ℕ) → Passing (Q Records) (judge_commit b turn records m)
      commit_walk m =
          passing (Q Records) (ltb b.sealer.number (members b.settings.pool)) _ _ (λ member.
          passing (Q Records) (enough b records) _ _ (λ many. turn_walk (fields b.settings.pool b.sealer.long m)))

    pub closing_walk : (leb (quorum b.settings.pool) (tally (commits_to turn.page) (take (members b.settings.pool) records)) ≡ true → Q Answer (record { answer = taken; next = λ seals. b.view; draft = Some (decide_draft b turn records) }))
        → Passing (Q Answer) (judge_closing b turn records)
    closing_walk f =
        passing (Q Answer) (ltb b.sealer.number (members b.settings.pool)) _ _ (λ member.
        passing (Q Answer) (enough b records) _ _ (λ many.
        passing (Q Answer) (still_in b turn.height turn.round) _ _ (λ still.
        passing (Q Answer) (leads b) _ _ (λ leading.
        passing (Q Answer) (leb (quorum b.settings.pool) (tally (commits_to turn.page) (take (members b.settings.pool) records))) _ _ (λ quorate.
        passes (f quorate))))))
