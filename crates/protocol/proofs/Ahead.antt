-- Height and round never go back: each call, then each call of a run.
use Rattle.std.proofs.Common.{◌≡◌, ℕ, ◌+◌, ◌<◌, ◌≤◌, max, Bool, true, false, cond, not, ◌&&◌, eqb, ltb, leb, ◌⊎◌, List, [], ◌∷◌, length, take, Some, None, Ok, Err, Option, Result, sym, refl, ap, ◌∙◌, subst, inl, inr, arith}
use Rattle.std.proofs.lemmas.Bool.{and_parts, both_ways, cond_both, cond-true, eq-eqb, leb-true, leb-false, ltb-true}
use Rattle.base.specs.Pools.{members, quorum, last_round}
use Rattle.base.specs.declared.refusals.Refusal.{Refusal}
use Rattle.base.specs.declared.refusals.Refusal.TheVariants.{OutboxShort}
use Rattle.base.specs.declared.slips.Slip.{Slip}
use Rattle.base.specs.declared.stages.Stage.{Stage}
use Rattle.base.specs.declared.stages.Stage.TheVariants.{Resting, Changing, Locking, Committing, Releasing}
use Rattle.message.specs.Contents.{Content, change, lock, select, commit, decide, release, Sent}
use Rattle.message.specs.RoundTrip.{fields}
use Rattle.message.specs.declared.shapes.Head.{Head}
use Rattle.protocol.specs.Calls.{judge_offer, judge_begin, judge_tick, timed_out, time_of}
use Rattle.protocol.specs.Judging.{height_in, round_in, sender_in, familiar, checks_of, bad_seal, latest_of, repeats, on_chain, outranks}
use Rattle.protocol.specs.Messages.{Answer, taken, plan_of, on_change, judged_fields, judge_message, shelved_page}
use Rattle.protocol.specs.Plans.{Draft, Plan, Done, draft_size, refusing, goes, wears, settled, carried}
use Rattle.protocol.specs.Rounds.{is_resting, is_changing, is_locking, top_of, has_place, is_ahead, called_for, higher_round, highest_round, quorate, onward, moved, stated, recorded_by, with_latest, with_candidates, with_ticks, plainly}
use Rattle.protocol.specs.Runs.{Call, opens, offers, begins, ticks, takes, turns, forwards, counts, closes, Act, Station, World, box_of, step_by, station_after, Fitting, played}
use Rattle.protocol.specs.State.{Settings, Latest, View, Box, one_page, tally}
use Rattle.protocol.specs.Subject.{Onward, NeverBack}
use Rattle.protocol.specs.Turns.{Gathering, Counting, Committed, Records, leads, still_in, enough, select_due, forward_top, forward_by, agreed_of, commits_to, commit_in, judged_commit, judged_turn, judge_opening, judge_forward, judge_commit, judge_closing}
use Rattle.protocol.proofs.Turning.{passing_seals}
use Rattle.protocol.proofs.Whole.{good_run}
use Rattle.protocol.proofs.Judged.{Passed, judged}
use Rattle.protocol.proofs.Settling.{Passing, passes, refuses, passing}

abbrev same : (v : View) → Onward v v
same v = inr (refl, omega arith)

-- every state that a plan may come to is onward
abbrev GoesOn : {X : Type 0} → View → Plan X → Type 0
GoesOn v p = (ss : List (List ℕ)) → Onward v (p.next ss)

module _ {X : Type 0} (b : Box) (fill size : ℕ) (seals : List (List ℕ)) where
  carried_on : (p : Plan X) (o : Option Draft) → GoesOn b.view p → Onward b.view (carried b fill size p o seals).view
  carried_on p None f = f []
  carried_on p (Some d) f =
      cond_both (leb (fill + draft_size d b.sealer.long) size) (cond (leb (length d.wants) b.sealer.left) (goes b p d seals) (wears b d)) (refusing {X = X} b OutboxShort)
      (λ (x : Done X). Onward b.view x.view)
      (λ room. cond_both (leb (length d.wants) b.sealer.left) (goes b p d seals) (wears b d) (λ (x : Done X). Onward b.view x.view) (λ enough. f seals) (λ few. same b.view))
      (λ short. same b.view)

  settled_on : (judged : Result (Plan X) Refusal) → Passing (GoesOn b.view) judged → Onward b.view (settled b fill size judged seals).view
  settled_on (Err why) refuses = same b.view
  settled_on (Ok p) (passes f) = carried_on p p.draft f

-- a round that is stated is not below
ahead_up : (u : View) (r : ℕ) → is_ahead u r ≡ true → u.round ≤ r
ahead_up u r e =
    cond_both (is_resting u.stage) (leb u.round r) (ltb u.round r) (λ t. t ≡ true → u.round ≤ r)
    (λ rests le. leb-true u.round r le)
    (λ busy lt. let h = ltb-true u.round r lt in omega arith)
    e

onward_on : (s : Settings) (v u : View) → Onward v u → Onward v (onward s u)
onward_on s v u o = cond_both (quorate s u.round u) (moved u u.round Locking) u (Onward v) (λ q. o) (λ q. o)

le_or : (a c : ℕ) → (a ≤ c) ⊎ (c < a)
le_or a c = cond_both (leb a c) true false (λ t. (a ≤ c) ⊎ (c < a)) (λ e. inl (leb-true a c e)) (λ e. inr (leb-false a c e))

max_cases : (a c : ℕ) → (max a c ≡ a) ⊎ (max a c ≡ c)
max_cases a c = elim (le_or a c) [ inl h ↦ inr (omega arith) | inr h ↦ inl (omega arith) ]

-- the highest round that passes a test passes it
higher_passes : (test : ℕ → Bool) (r : ℕ) (o : Option ℕ) → test r ≡ true → ((k : ℕ) → o ≡ Some k → test k ≡ true) → test (higher_round r o) ≡ true
higher_passes test r None t f = t
higher_passes test r (Some k) t f = elim (max_cases r k) [ inl e ↦ ap test e ∙ t | inr e ↦ ap test e ∙ f k refl ]

highest_passes : (test : ℕ → Bool) (ls : List (Option Latest)) (r : ℕ) → highest_round test ls ≡ Some r → test r ≡ true
highest_passes test [] r e = absurd (let z : ◌≡◌ {A = ℕ} 0 1 = cc in omega arith)
highest_passes test (None ∷ ls) r e = highest_passes test ls r e
highest_passes test (Some l ∷ ls) r e =
    cond_both (test l.round) (Some (higher_round l.round (highest_round test ls))) (highest_round test ls) (λ o. o ≡ Some r → test r ≡ true)
    (λ t is. let same-round : higher_round l.round (highest_round test ls) ≡ r = cc in subst (λ k. test k ≡ true) same-round (higher_passes test l.round (highest_round test ls) t (λ k h. highest_passes test ls k h)))
    (λ t is. highest_passes test ls r is)
    e

module _ (b : Box) where
  -- stating a round that is not below
  stated_on : (v u : View) (r : ℕ) (page : Option Slip) (ss : List (List ℕ)) → v.height ≡ u.height → v.round ≤ r → Onward v (stated b.settings b.sealer.number u r page ss)
  stated_on v u r page ss high up = onward_on b.settings v _ (inr (high, up))

  recorded_on : (v u : View) → v.height ≡ u.height → v.round ≡ u.round → (o : Option ℕ) → highest_round (called_for b.settings u) u.latest ≡ o → GoesOn v (recorded_by b taken u o)
  recorded_on v u high round (Some r) is ss =
      let called = highest_passes (called_for b.settings u) u.latest r is in
      let up = ahead_up u r (and_parts (is_ahead u r) _ called).0 in
      stated_on v u r _ ss high (omega arith)
  recorded_on v u high round None is ss =
      cond_both (is_changing u.stage) (onward b.settings u) u (Onward v) (λ e. onward_on b.settings v u (inr (high, omega arith))) (λ e. inr (high, omega arith))

  on_change_lem : (h : Head) (page : Option Slip) (x y : List ℕ) → GoesOn b.view (on_change b h page x y)
  on_change_lem h page x y =
      let v : View = b.view in
      let u : View = with_latest (with_candidates v (shelved_page page v.candidates)) (sender_in h) (record { round = round_in h; page = page; rchg = x; cand = y }) in
      cond_both (repeats (round_in h) page (latest_of v (sender_in h))) (plainly taken v) (recorded_by b taken u (highest_round (called_for b.settings u) u.latest)) (GoesOn v)
      (λ old ss. same v)
      (λ new. recorded_on v u refl refl (highest_round (called_for b.settings u) u.latest) refl)

  -- what each kind of message does
  content_on : (m : List ℕ) (h : Head) (c : Content (List ℕ)) → Passed b (record { head = h; content = c }) → GoesOn b.view (plan_of b m h c)
  content_on m h (change page x y) passed ss = on_change_lem h page x y ss
  content_on m h (lock c) passed ss = inr (refl, leb-true b.view.round (round_in h) passed.round_taken_lem)
  content_on m h (select c) passed ss = inr (refl, leb-true b.view.round (round_in h) passed.round_taken_lem)
  content_on m h (commit s x) passed ss = same b.view
  content_on m h (decide c) passed ss = inl (omega arith)
  content_on m h (release l inner x) passed ss =
      cond_both (outranks b.view inner) _ b.view (Onward b.view) (λ e. inr (refl, omega arith)) (λ e. same b.view)

  fields_on : (m : List ℕ) (o : Option (Sent (List ℕ))) → Passing (GoesOn b.view) (judged_fields b m o)
  fields_on m None = refuses
  fields_on m (Some s) = judged b m s (GoesOn b.view) (content_on m s.head s.content)

  message_on : (m : List ℕ) → Passing (GoesOn b.view) (judge_message b m)
  message_on m = passing (GoesOn b.view) (ltb b.sealer.number (members b.settings.pool)) _ _ (λ member. fields_on m (fields b.settings.pool b.sealer.long m))

  -- offer, begin, tick; a replica at rest is in round 0
  offer_on : (s : Slip) → Passing (GoesOn b.view) (judge_offer b s)
  offer_on s =
      let Q : Plan Answer → Type 0 = GoesOn b.view in
      passing Q (ltb b.sealer.number (members b.settings.pool)) _ _ (λ member.
      passing Q (on_chain b.view.last s) _ _ (λ chain.
      passing Q (b.rules.admits b.view.height s) _ _ (λ admitted.
      passing Q (has_place s b.view.candidates) _ _ (λ place.
      passes (λ ss. same b.view)))))

  module _ (rest : is_resting b.view.stage ≡ true → b.view.round ≡ 0) where
    begin_on : Passing (GoesOn b.view) (judge_begin b)
    begin_on =
        passing (GoesOn b.view) (ltb b.sealer.number (members b.settings.pool)) _ _ (λ member.
        passing (GoesOn b.view) (is_resting b.view.stage) _ _ (λ rests.
        passes (λ ss. let none = rest rests in stated_on b.view b.view 0 _ ss refl (omega arith))))

  timed_on : (g : Stage) → Passing (GoesOn b.view) (timed_out b g)
  timed_on Resting = passes (λ ss. same b.view)
  timed_on Changing = passes (λ ss. same b.view)
  timed_on Locking = passes (λ ss. same b.view)
  timed_on Committing = passes (λ ss. same b.view)
  timed_on Releasing =
      passing (GoesOn b.view) (ltb b.view.round last_round) _ _ (λ more. passes (λ ss. stated_on b.view b.view (b.view.round + 1) _ ss refl (omega arith)))

  tick_on : (k : ℕ) → Passing (GoesOn b.view) (judge_tick b k)
  tick_on k =
      let v : View = b.view in
      let due = leb (time_of b.settings v.stage v.round) (v.ticks + k) in
      passing (GoesOn v) (ltb b.sealer.number (members b.settings.pool)) _ _ (λ member.
      passing (GoesOn v) (leb 1 k && leb k 60000) _ _ (λ lawful.
      cond_both (is_resting v.stage) (Ok (plainly taken v)) (cond due (timed_out b v.stage) (Ok (plainly taken (with_ticks v (v.ticks + k))))) (Passing (GoesOn v))
      (λ rests. passes (λ ss. same v))
      (λ busy. cond_both due (timed_out b v.stage) (Ok (plainly taken (with_ticks v (v.ticks + k)))) (Passing (GoesOn v)) (λ e. timed_on v.stage) (λ e. passes (λ ss. same v)))))

  -- the leader's turn leaves height and round alone
  opening_on : Passing (GoesOn b.view) (judge_opening b)
  opening_on =
      passing (GoesOn b.view) (ltb b.sealer.number (members b.settings.pool)) _ _ (λ member.
      passing (GoesOn b.view) (leads b && (is_locking b.view.stage && not b.view.turned)) _ _ (λ led. passes (λ ss. same b.view)))

  top_on : (records : Records) (o : Option Slip) → Passing (GoesOn b.view) (forward_top b records o)
  top_on records None = refuses
  top_on records (Some s) = passing (GoesOn b.view) (select_due b) _ _ (λ due. passes (λ ss. same b.view))

  forwarded_on : (records : Records) (o : Option Slip) → Passing (GoesOn b.view) (forward_by b records o)
  forwarded_on records (Some s) = passes (λ ss. same b.view)
  forwarded_on records None = top_on records (top_of b.rules.above b.view.candidates)

  forward_on : (turn : Gathering) (records : Records) → Passing (GoesOn b.view) (judge_forward b turn records)
  forward_on turn records =
      let v : View = b.view in
      passing (GoesOn v) (ltb b.sealer.number (members b.settings.pool)) _ _ (λ member.
      passing (GoesOn v) (enough b records) _ _ (λ many.
      passing (GoesOn v) (still_in b turn.height turn.round && is_locking v.stage) _ _ (λ still.
      passing (GoesOn v) (leads b) _ _ (λ leading.
      forwarded_on records (agreed_of (quorum b.settings.pool) v.round v.latest v.latest)))))

  committed_on : (turn : Counting) (records : Records) (h : Head) (o : Option Committed) → Passing (GoesOn b.view) (judged_commit b turn records h o)
  committed_on turn records h None = refuses
  committed_on turn records h (Some c) =
      let v : View = b.view in
      passing_seals (GoesOn v) (bad_seal b.sealer.knows (checks_of h (commit c.page c.seal))) _ (λ good.
      passing (GoesOn v) (on_chain v.last c.page) _ _ (λ chain.
      passing (GoesOn v) (b.rules.admits v.height c.page) _ _ (λ admitted.
      passing (GoesOn v) (one_page c.page turn.page) _ _ (λ one.
      passes (λ ss. same v)))))

  turned_on : (turn : Counting) (records : Records) (o : Option (Sent (List ℕ))) → Passing (GoesOn b.view) (judged_turn b turn records o)
  turned_on turn records None = refuses
  turned_on turn records (Some s) =
      let v : View = b.view in
      passing (GoesOn v) (leb v.height (height_in s.head)) _ _ (λ past.
      passing (GoesOn v) (leb (height_in s.head) v.height) _ _ (λ later.
      passing (GoesOn v) (familiar b.settings.pool s) _ _ (λ known.
      passing (GoesOn v) (still_in b turn.height turn.round) _ _ (λ still.
      passing (GoesOn v) (eqb (round_in s.head) turn.round) _ _ (λ round.
      committed_on turn records s.head (commit_in s.content))))))

  commit_on : (turn : Counting) (records : Records) (m : List ℕ) → Passing (GoesOn b.view) (judge_commit b turn records m)
  commit_on turn records m =
      passing (GoesOn b.view) (ltb b.sealer.number (members b.settings.pool)) _ _ (λ member.
      passing (GoesOn b.view) (enough b records) _ _ (λ many. turned_on turn records (fields b.settings.pool b.sealer.long m)))

  closing_on : (turn : Counting) (records : Records) → Passing (GoesOn b.view) (judge_closing b turn records)
  closing_on turn records =
      let v : View = b.view in
      passing (GoesOn v) (ltb b.sealer.number (members b.settings.pool)) _ _ (λ member.
      passing (GoesOn v) (enough b records) _ _ (λ many.
      passing (GoesOn v) (still_in b turn.height turn.round) _ _ (λ still.
      passing (GoesOn v) (leads b) _ _ (λ leading.
      passing (GoesOn v) (leb (quorum b.settings.pool) (tally (commits_to turn.page) (take (members b.settings.pool) records))) _ _ (λ quorate.
      passes (λ ss. same v))))))

-- every call on an open replica
call_on : (b : Box) (act : Act) (c : Call) → (is_resting b.view.stage ≡ true → b.view.round ≡ 0) → ((s : Settings) → c ≡ opens s → ⊥) → Onward b.view (step_by b act c).view
call_on b act (opens s) rest open' = absurd (open' s refl)
call_on b act (offers s) rest open' = settled_on b act.fill act.size act.seals (judge_offer b s) (offer_on b s)
call_on b act begins rest open' = settled_on b act.fill act.size act.seals (judge_begin b) (begin_on b rest)
call_on b act (ticks k) rest open' = settled_on b act.fill act.size act.seals (judge_tick b k) (tick_on b k)
call_on b act (takes m) rest open' = settled_on b act.fill act.size act.seals (judge_message b m) (message_on b m)
call_on b act turns rest open' = settled_on b act.fill act.size act.seals (judge_opening b) (opening_on b)
call_on b act (forwards t rs) rest open' = settled_on b act.fill act.size act.seals (judge_forward b t rs) (forward_on b t rs)
call_on b act (counts t rs m) rest open' = settled_on b act.fill act.size act.seals (judge_commit b t rs m) (commit_on b t rs m)
call_on b act (closes t rs) rest open' = settled_on b act.fill act.size act.seals (judge_closing b t rs) (closing_on b t rs)

pub never_back : NeverBack
never_back a start run act lawful live =
    let w : World = played a start run in
    let i : ℕ = act.who in
    let fair = (good_run a start run lawful.0).fair i live in
    let shut : (s : Settings) → act.call ≡ opens s → ⊥ = λ s is. both_ways (w.stations i).live (subst (Fitting a w act) is lawful.1.1.1).0 live in
    subst (λ (x : Station). Onward (w.stations i).view x.view)
    (sym (cond-true (eqb i i) (station_after a w act) (w.stations i) (eq-eqb i i refl)))
    (call_on (box_of a i (w.stations i)) act act.call fair.rest shut)
