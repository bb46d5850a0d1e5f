-- Taking a message: judged in the one order of refusals, then the plan of its kind.
use Rattle.std.specs.Prelude.{ℕ, ◌+◌, cond, not, List, [], ◌∷◌, Some, None, Ok, Err, Option, Result, nat_le, nat_lt}
use Rattle.base.specs.Pools.{members}
use Rattle.base.specs.declared.refusals.Refusal.{Refusal}
use Rattle.base.specs.declared.refusals.Refusal.TheVariants.{Misshapen, Stranger, PastHeight, LaterHeight, WrongRound, OutOfStage, OffChain, NotAdmitted, Contradiction, CandidatesFull, BooksEnd}
use Rattle.base.specs.declared.slips.Slip.{Slip}
use Rattle.base.specs.declared.stages.Kind.TheVariants.{Commit}
use Rattle.base.specs.declared.stages.Stage.TheVariants.{Committing}
use Rattle.base.specs.declared.statements.Word.TheVariants.{Cmit}
use Rattle.message.specs.Contents.{Cert, Locked, Content, change, lock, select, commit, decide, release, Sent}
use Rattle.message.specs.Encoding.{blocks}
use Rattle.message.specs.RoundTrip.{fields}
use Rattle.message.specs.declared.shapes.Head.{Head}
use Rattle.protocol.specs.Judging.{height_in, round_in, sender_in, familiar, checks_of, bad_seal, round_taken, stage_takes, slip_in, on_chain, of_slip, repeats, contradicts, latest_of, placed, outranks, above_all, goes_on}
use Rattle.protocol.specs.Plans.{Draft, Plan, unless}
use Rattle.protocol.specs.Rounds.{shelved, locked_at, unlocked, locks_of, says, head_for, seal_at, moved, with_candidates, with_held, with_latest, plainly, recorded, releasing}
use Rattle.protocol.specs.State.{Candidate, Held, View, Box, fresh}

-- what a replica answers: taken, or the height and the page that it entered
pub data Answer : Type 0 where
  taken : Answer
  entered : ℕ → Slip → Answer

-- the slip of a page goes among the candidates
abbrev pub shelved_page : Option Slip → List Candidate → List Candidate
shelved_page None cs = cs
shelved_page (Some s) cs = shelved s cs

-- change: the slip is shelved and the statement recorded; a repeat does nothing
abbrev pub on_change : Box → Head → Option Slip → List ℕ → List ℕ → Plan Answer
on_change b h page rchg cand =
    cond (repeats (round_in h) page (latest_of b.view (sender_in h)))
    (plainly taken b.view)
    (recorded b taken (with_latest (with_candidates b.view (shelved_page page b.view.candidates)) (sender_in h) (record { round = round_in h; page = page; rchg = rchg; cand = cand })))

-- a commit to a slip in a round
abbrev pub commit_draft : ℕ → ℕ → ℕ → Slip → Draft
commit_draft own height round s =
    record {
      kind = Commit;
      head = head_for own height round;
      wants = says Cmit height round (Some s) ∷ [];
      made = λ seals. blocks (head_for own height round) (commit s (seal_at seals 0));
    }

-- the held message is replaced only by that of a lock of a higher round
abbrev pub holding : View → Slip → ℕ → List ℕ → Option Held
holding v s r m = cond (above_all r (locks_of v.candidates)) (Some (record { slip = s; round = r; bytes = m })) v.held

-- lock: the round is taken over, the slip shelved and locked, other locks stay; on to committing, with a commit
abbrev pub on_lock : Box → List ℕ → Head → Cert (List ℕ) → Plan Answer
on_lock b m h c =
    record {
      answer = taken;
      next = λ seals.
          moved
          (with_held (with_candidates b.view (locked_at c.slip (round_in h) (shelved c.slip b.view.candidates))) (holding b.view c.slip (round_in h) m))
          (round_in h) Committing;
      draft = Some (commit_draft b.sealer.number b.view.height (round_in h) c.slip);
    }

-- a view that has come to a round
abbrev pub in_round_of : View → ℕ → View
in_round_of v r = moved v r v.stage

-- select: the round is taken over, the slip shelved; enters releasing
abbrev pub on_select : Box → Head → Cert (List ℕ) → Plan Answer
on_select b h c = releasing b taken (in_round_of (with_candidates b.view (shelved c.slip b.view.candidates)) (round_in h))

-- decide: the page is entered; the replica rests at the next height with nothing held
abbrev pub on_decide : Box → Cert (List ℕ) → Plan Answer
on_decide b c = plainly (entered b.view.height c.slip) (fresh b.settings.pool (b.view.height + 1) c.slip.own)

-- release: if its lock is above every lock held, all locks go, and this one is shelved and held
abbrev pub on_release : Box → List ℕ → Locked (List ℕ) → Plan Answer
on_release b l inner =
    plainly taken
    (cond (outranks b.view inner)
    (with_held
    (with_candidates b.view (locked_at inner.cert.slip (round_in inner.head) (shelved inner.cert.slip (unlocked b.view.candidates))))
    (Some (record { slip = inner.cert.slip; round = round_in inner.head; bytes = l })))
    b.view)

abbrev pub plan_of : Box → List ℕ → Head → Content (List ℕ) → Plan Answer
plan_of b m h (change page rchg cand) = on_change b h page rchg cand
plan_of b m h (lock c) = on_lock b m h c
plan_of b m h (select c) = on_select b h c
plan_of b m h (commit s a) = plainly taken b.view
plan_of b m h (decide c) = on_decide b c
plan_of b m h (release l inner own) = on_release b l inner

-- refused by the first seal that is not recognised
abbrev pub unless_bad : {X : Type 0} → Option Refusal → Result X Refusal → Result X Refusal
unless_bad None rest = rest
unless_bad (Some why) rest = Err why

-- the refusals of a message that is well laid out, in their order
abbrev pub judged_sent : Box → List ℕ → Sent (List ℕ) → Result (Plan Answer) Refusal
judged_sent b m s =
    unless (nat_le b.view.height (height_in s.head)) PastHeight
    (unless (nat_le (height_in s.head) b.view.height) LaterHeight
    (unless (familiar b.settings.pool s) Stranger
    (unless (round_taken b.view s.head s.content) WrongRound
    (unless (stage_takes b.view s.head s.content) OutOfStage
    (unless_bad (bad_seal b.sealer.knows (checks_of s.head s.content))
    (unless (of_slip (on_chain b.view.last) (slip_in s.content)) OffChain
    (unless (of_slip (b.rules.admits b.view.height) (slip_in s.content)) NotAdmitted
    (unless (not (contradicts b.sealer.number b.view s.head s.content)) Contradiction
    (unless (placed b.view s.head s.content) CandidatesFull
    (unless (goes_on b.view s.content) BooksEnd
    (Ok (plan_of b m s.head s.content))))))))))))

abbrev pub judged_fields : Box → List ℕ → Option (Sent (List ℕ)) → Result (Plan Answer) Refusal
judged_fields b m None = Err Misshapen
judged_fields b m (Some s) = judged_sent b m s

-- a replica whose sealer is no member of the pool answers 2 before all else
abbrev pub of_member : {X : Type 0} → Box → Result X Refusal → Result X Refusal
of_member b rest = unless (nat_lt b.sealer.number (members b.settings.pool)) Stranger rest

-- taking a message
abbrev pub judge_message : Box → List ℕ → Result (Plan Answer) Refusal
judge_message b m = of_member b (judged_fields b m (fields b.settings.pool b.sealer.long m))
