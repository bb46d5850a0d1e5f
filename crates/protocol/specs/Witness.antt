-- A run that meets every premise, so that the theorem on runs speaks of something.
-- Four members, of whom member 3 is not sound. It says one thing to one member and another to the next.
use Rattle.std.specs.Prelude.{◌≡◌, ℕ, ◌≤◌, Bool, true, false, not, ◌&&◌, ◌||◌, List, [], ◌∷◌, length, replicate, Some, None, Option, ◌==◌, nat_lt, slice_index}
use Rattle.agree.specs.Lists.{In, count}
use Rattle.agree.specs.Pool.{Lock, Event, Event.stated, Event.took, Event.committed, Event.entered}
use Rattle.base.specs.Pools.{members, tolerance}
use Rattle.base.specs.declared.pools.Pool.TheVariants.{Four}
use Rattle.base.specs.declared.slips.Mark.{Mark}
use Rattle.base.specs.declared.slips.Slip.{Slip}
use Rattle.message.specs.Contents.{Signed, Cert, Locked, change, lock, commit, decide, release}
use Rattle.message.specs.Encoding.{encoded, encoded_lock}
use Rattle.rules.specs.Pages.{page, receipts_admits, receipts_above}
use Rattle.protocol.specs.Calls.{judge_offer, judge_begin, judge_tick}
use Rattle.protocol.specs.Messages.{judge_message}
use Rattle.protocol.specs.Plans.{settled}
use Rattle.protocol.specs.Rounds.{head_for, locks_of}
use Rattle.protocol.specs.Runs.{Assembly, Call, opens, offers, begins, ticks, takes, turns, forwards, counts, closes, Act, Station, Step, box_of, step_at, played, LawfulRun}
use Rattle.protocol.specs.State.{Settings, Box, first_view}
use Rattle.protocol.specs.Turns.{Gathering, Counting, Committed, Records, judge_opening, judge_forward, judge_commit, judge_closing}
use Rattle.std.specs.Str.{bytes_eq}

-- the pool --------------------------------------------------------------------------------------------------------------

-- a seal is one byte, the number of the member in whose name it stands
abbrev pub seal_of : ℕ → List ℕ
seal_of i = i ∷ []

abbrev pub sound : ℕ → Bool
sound = λ i. nat_lt i 3

-- no more of them are not sound than a pool of four bears
abbrev pub FewUnsound : Type 0
FewUnsound = count (λ i. not (sound i)) (members Four) ≤ tolerance Four

-- page A stands on the start mark, page B on page A
abbrev pub A : Slip
A = page 0 1 7 0

abbrev pub B : Slip
B = page 1 2 6 1

-- a book that begins at height 1 with a mark of zeros
abbrev pub settings : Settings
settings = record { pool = Four; start_height = 1; start_mark = record { 0 = replicate 32 0 }; d0 = 1; d1 = 2; d2 = 1; d3 = 1; g = 1 }

abbrev pub unopened : ℕ → Station
unopened i = record { live = false; settings = settings; view = first_view settings; left = 100 }

-- messages, by sender, height and round ---------------------------------------------------------------------------------

abbrev pub change_by : ℕ → ℕ → ℕ → Option Slip → List ℕ
change_by i h r named = encoded (record { head = head_for i h r; content = change named (seal_of i) (seal_of i) })

abbrev pub commit_by : ℕ → ℕ → ℕ → Slip → List ℕ
commit_by i h r s = encoded (record { head = head_for i h r; content = commit s (seal_of i) })

abbrev pub vote : ℕ → Signed (List ℕ)
vote i = record { signer = i; seal = seal_of i }

-- a page under a leader's seal, with the seals of three members
abbrev pub cert_by : ℕ → Slip → ℕ → ℕ → ℕ → Cert (List ℕ)
cert_by leader s i j k = record { slip = s; own = seal_of leader; votes = vote i ∷ vote j ∷ vote k ∷ [] }

abbrev pub locked_by : ℕ → ℕ → ℕ → Slip → ℕ → ℕ → ℕ → Locked (List ℕ)
locked_by leader h r s i j k = record { head = head_for leader h r; cert = cert_by leader s i j k }

abbrev pub lock_by : ℕ → ℕ → ℕ → Slip → ℕ → ℕ → ℕ → List ℕ
lock_by leader h r s i j k = encoded (record { head = head_for leader h r; content = lock (cert_by leader s i j k) })

abbrev pub decide_by : ℕ → ℕ → ℕ → Slip → ℕ → ℕ → ℕ → List ℕ
decide_by leader h r s i j k = encoded (record { head = head_for leader h r; content = decide (cert_by leader s i j k) })

abbrev pub release_by : ℕ → ℕ → ℕ → Locked (List ℕ) → List ℕ
release_by i h r l = encoded (record { head = head_for i h r; content = release (encoded_lock l) l (seal_of i) })

-- calls -----------------------------------------------------------------------------------------------------------------

-- a call on a member's replica for which so many seals are made, with an empty outbox of 200 bytes
abbrev pub by : ℕ → ℕ → Call → Act
by i sealed call = record { who = i; call = call; fill = 0; size = 200; seals = replicate sealed (seal_of i) }

abbrev pub gathering : ℕ → ℕ → Gathering
gathering h r = record { height = h; round = r }

abbrev pub counting : ℕ → ℕ → Slip → Counting
counting h r s = record { height = h; round = r; page = s }

-- a leader's records: none, and of the first one, two or three members
abbrev pub record_of : Slip → ℕ → Option Committed
record_of s i = Some (record { page = s; seal = seal_of i })

abbrev pub no_records : Records
no_records = None ∷ None ∷ None ∷ None ∷ []

abbrev pub one_record : Slip → Records
one_record s = record_of s 0 ∷ None ∷ None ∷ None ∷ []

abbrev pub two_records : Slip → Records
two_records s = record_of s 0 ∷ record_of s 1 ∷ None ∷ None ∷ []

abbrev pub three_records : Slip → Records
three_records s = record_of s 0 ∷ record_of s 1 ∷ record_of s 2 ∷ None ∷ []

-- the run. Each part goes on from the one above it; within a part the latest call stands first --------------------------

abbrev pub opening : List Act
opening = by 2 0 (opens settings) ∷ by 1 0 (opens settings) ∷ by 0 0 (opens settings) ∷ []

-- Height 1, round 0: members 0 and 1 state page A, member 2 states none. Member 3 states A to the leader, member 1, and
-- none to the others. So the leader has a lock on A.
abbrev pub stating : List Act
stating =
    by 1 1 (forwards (gathering 1 0) no_records)
    ∷ by 1 0 turns
    ∷ by 1 0 (takes (change_by 3 1 0 (Some A)))
    ∷ by 2 2 begins
    ∷ by 1 2 begins
    ∷ by 1 0 (takes (change_by 0 1 0 (Some A)))
    ∷ by 0 2 begins
    ∷ by 0 0 (offers A)
    ∷ opening

-- It reaches member 0 alone, which commits.
abbrev pub locking : List Act
locking =
    by 0 1 (takes (lock_by 1 1 0 A 0 1 3))
    ∷ by 0 0 (takes (change_by 3 1 0 None))
    ∷ by 0 0 (takes (change_by 1 1 0 (Some A)))
    ∷ stating

-- The time runs out for members 0 and 2. Member 0 releases its lock, and member 2 takes it.
abbrev pub releasing : List Act
releasing =
    by 2 0 (takes (release_by 0 1 0 (locked_by 1 1 0 A 0 1 3)))
    ∷ by 0 1 (ticks 1)
    ∷ by 2 0 (ticks 1)
    ∷ by 2 0 (ticks 2)
    ∷ by 2 0 (takes (change_by 3 1 0 None))
    ∷ by 2 0 (takes (change_by 1 1 0 (Some A)))
    ∷ locking

-- Round 1: both state the page on which they are locked. Member 3 says A to the leader, member 2, and none to member 0.
abbrev pub restating : List Act
restating =
    by 0 0 (takes (change_by 3 1 1 None))
    ∷ by 0 0 (takes (change_by 2 1 1 (Some A)))
    ∷ by 2 1 (forwards (gathering 1 1) no_records)
    ∷ by 2 0 turns
    ∷ by 2 0 (takes (change_by 3 1 1 (Some A)))
    ∷ by 2 0 (takes (change_by 0 1 1 (Some A)))
    ∷ by 2 2 (ticks 1)
    ∷ by 0 2 (ticks 1)
    ∷ releasing

-- All three take the new lock, two of them over the old one, and commit; member 1 comes to round 1 by it.
abbrev pub committing : List Act
committing =
    by 2 1 (takes (lock_by 2 1 1 A 0 2 3))
    ∷ by 1 1 (takes (lock_by 2 1 1 A 0 2 3))
    ∷ by 0 1 (takes (lock_by 2 1 1 A 0 2 3))
    ∷ restating

-- The leader counts the commits and decides; all three enter page A.
abbrev pub deciding : List Act
deciding =
    by 2 0 (takes (decide_by 2 1 1 A 0 1 2))
    ∷ by 1 0 (takes (decide_by 2 1 1 A 0 1 2))
    ∷ by 0 0 (takes (decide_by 2 1 1 A 0 1 2))
    ∷ by 2 1 (closes (counting 1 1 A) (three_records A))
    ∷ by 2 0 (counts (counting 1 1 A) (two_records A) (commit_by 2 1 1 A))
    ∷ by 2 0 (counts (counting 1 1 A) (one_record A) (commit_by 1 1 1 A))
    ∷ by 2 0 (counts (counting 1 1 A) no_records (commit_by 0 1 1 A))
    ∷ committing

-- Height 2, in one round: all three state page B, and the leader, member 2 again, has a lock on it.
abbrev pub second : List Act
second =
    by 2 1 (forwards (gathering 2 0) no_records)
    ∷ by 2 0 turns
    ∷ by 2 0 (takes (change_by 1 2 0 (Some B)))
    ∷ by 2 2 begins
    ∷ by 2 0 (takes (change_by 0 2 0 (Some B)))
    ∷ by 1 2 begins
    ∷ by 1 0 (takes (change_by 0 2 0 (Some B)))
    ∷ by 0 2 begins
    ∷ by 0 0 (offers B)
    ∷ deciding

-- They take it and commit.
abbrev pub second_committing : List Act
second_committing =
    by 2 1 (takes (lock_by 2 2 0 B 0 1 2))
    ∷ by 1 1 (takes (lock_by 2 2 0 B 0 1 2))
    ∷ by 0 1 (takes (lock_by 2 2 0 B 0 1 2))
    ∷ by 1 0 (takes (change_by 2 2 0 (Some B)))
    ∷ by 0 0 (takes (change_by 2 2 0 (Some B)))
    ∷ by 0 0 (takes (change_by 1 2 0 (Some B)))
    ∷ second

-- The leader decides, and members 0 and 1 enter page B.
abbrev pub whole : List Act
whole =
    by 1 0 (takes (decide_by 2 2 0 B 0 1 2))
    ∷ by 0 0 (takes (decide_by 2 2 0 B 0 1 2))
    ∷ by 2 1 (closes (counting 2 0 B) (three_records B))
    ∷ by 2 0 (counts (counting 2 0 B) (two_records B) (commit_by 2 2 0 B))
    ∷ by 2 0 (counts (counting 2 0 B) (one_record B) (commit_by 1 2 0 B))
    ∷ by 2 0 (counts (counting 2 0 B) no_records (commit_by 0 2 0 B))
    ∷ second_committing

-- a lock
abbrev pub on : Slip → ℕ → Lock Slip
on s r = record { page = s; round = r }

-- the message that a call writes, if any
abbrev pub written_by : Box → Act → Call → Option (List ℕ)
written_by b act (opens s) = None
written_by b act (offers s) = (settled b act.fill act.size (judge_offer b s) act.seals).wrote
written_by b act begins = (settled b act.fill act.size (judge_begin b) act.seals).wrote
written_by b act (ticks k) = (settled b act.fill act.size (judge_tick b k) act.seals).wrote
written_by b act (takes m) = (settled b act.fill act.size (judge_message b m) act.seals).wrote
written_by b act turns = (settled b act.fill act.size (judge_opening b) act.seals).wrote
written_by b act (forwards t rs) = (settled b act.fill act.size (judge_forward b t rs) act.seals).wrote
written_by b act (counts t rs m) = (settled b act.fill act.size (judge_commit b t rs m) act.seals).wrote
written_by b act (closes t rs) = (settled b act.fill act.size (judge_closing b t rs) act.seals).wrote

abbrev pub with_new : Option (List ℕ) → List (List ℕ) → List (List ℕ)
with_new None ms = ms
with_new (Some m) ms = m ∷ ms

abbrev pub stands : List ℕ → List (List ℕ) → Bool
stands m [] = false
stands m (x ∷ xs) = bytes_eq m x || stands m xs

-- what the run does in the pool, and that its calls go well ---------------------------------------------------------------

-- from the fact that few of its members are not sound
module _ (few : FewUnsound) where
  -- the pool
  abbrev pub four : Assembly
  four =
      record {
        pool = Four;
        sound = sound;
        few = few;
        knows = λ own signer statement seal. bytes_eq seal (seal_of signer);
        long = λ i. 1;
        rules = λ i. record { admits = λ height s. receipts_admits s; above = receipts_above };
      }

  abbrev pub log : List (Event Slip Mark)
  log = (played four unopened whole).events

  -- the locks that a member's replica holds after a part of the run
  abbrev pub locks_after : List Act → ℕ → List (Lock Slip)
  locks_after run i = locks_of ((played four unopened run).stations i).view.candidates

  -- all that the sound members' calls wrote
  abbrev pub written_in : List Act → List (List ℕ)
  written_in [] = []
  written_in (act ∷ run) = with_new (written_by (box_of four act.who ((played four unopened run).stations act.who)) act act.call) (written_in run)

  -- a message was written by a call before, or is sent by member 3
  abbrev pub sent_in : List Act → List ℕ → Bool
  sent_in run m = slice_index m 1 == 3 || stands m (written_in run)

  abbrev pub hands_on : List Act → Call → Bool
  hands_on run (opens s) = true
  hands_on run (offers s) = true
  hands_on run begins = true
  hands_on run (ticks k) = true
  hands_on run (takes m) = sent_in run m
  hands_on run turns = true
  hands_on run (forwards t rs) = true
  hands_on run (counts t rs m) = sent_in run m
  hands_on run (closes t rs) = true

  -- a call that is accepted, for which just as many seals are made as it asks for, and that is handed no other message
  abbrev pub well_at : List Act → Act → Step → Bool
  well_at run act step = step.accepted && (length act.seals == length step.sealed && hands_on run act.call)

  abbrev pub goes_well : List Act → Bool
  goes_well [] = true
  goes_well (act ∷ run) = goes_well run && well_at run act (step_at four (played four unopened run) act)

pub record RunsHappen : Type 0 where
  pub few : FewUnsound
  pub lawful : LawfulRun (four few) unopened whole
  -- no call is refused, and each message is one that a call wrote, or is member 3's
  pub going_well : goes_well few whole ≡ true
  -- height 1, round 0: a lock that one member takes, and another out of a release
  pub disputed : In (stated 2 1 0 None) (log few)
  pub committed_early : In (committed 0 1 0 A) (log few)
  pub released : In (took 2 1 0 A) (log few)
  -- round 1: both of them state the page, and the new lock comes upon the old one
  pub restated : In (stated 2 1 1 (Some A)) (log few)
  pub old_locks : (locks_after few restating 0 ≡ on A 0 ∷ []) × (locks_after few restating 2 ≡ on A 0 ∷ [])
  pub relocked : In (took 2 1 1 A) (log few)
  pub new_locks : (locks_after few committing 0 ≡ on A 1 ∷ []) × (locks_after few committing 2 ≡ on A 1 ∷ [])
  -- both heights end with a page
  pub entered_first_0 : In (entered 0 1 A) (log few)
  pub entered_first_1 : In (entered 1 1 A) (log few)
  pub entered_first_2 : In (entered 2 1 A) (log few)
  pub entered_second_0 : In (entered 0 2 B) (log few)
  pub entered_second_1 : In (entered 1 2 B) (log few)
