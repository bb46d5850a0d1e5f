-- Laws of the lock message that is held, of releases, and of what is written.
use Rattle.std.specs.Prelude.{◌≡◌, ℕ, ◌+◌, ◌<◌, ◌≤◌, true, List, [], ◌∷◌, length, take, is_ok, Some, None, Option}
use Rattle.std.specs.List.{AllByRecursion}
use Rattle.agree.specs.Lists.{In}
use Rattle.agree.specs.Pool.{Lock}
use Rattle.base.specs.Pools.{members, quorum}
use Rattle.base.specs.Statements.{PageFits}
use Rattle.base.specs.declared.slips.Slip.{Slip}
use Rattle.base.specs.declared.stages.Stage.TheVariants.{Changing, Committing, Releasing}
use Rattle.message.specs.Contents.{Cert, Locked, Content, change, lock, select, commit, decide, release, Sent}
use Rattle.message.specs.Encoding.{encoded}
use Rattle.message.specs.RoundTrip.{fields}
use Rattle.message.specs.declared.shapes.Head.{Head}
use Rattle.protocol.specs.Judging.{height_in, round_in, sender_in, latest_of}
use Rattle.protocol.specs.Messages.{shelved_page, judge_message}
use Rattle.protocol.specs.Plans.{settled}
use Rattle.protocol.specs.Rounds.{locks_of, top_of, candidate_of, of_round, called_for, highest_round, head_for, seal_at, with_candidates, with_latest}
use Rattle.protocol.specs.Runs.{Assembly, Call, begins, ticks, takes, forwards, closes, Station, Act, box_of, step_at, played, LawfulRun}
use Rattle.protocol.specs.State.{Latest, Held, View, Box}
use Rattle.protocol.specs.Turns.{Gathering, Counting, Committed, Records, names_in, commits_to, lowest, cand_of, rchg_of, commit_of, agreed_of}
use Rattle.protocol.specs.Witness.{written_by}

-- the lock message that is held goes with the locks: none is held where no slip is locked; else the held one's slip is
-- locked in its round, and no lock is of a higher round
abbrev pub HighestHeld : Option Held → List (Lock Slip) → Type 0
HighestHeld None locks = locks ≡ []
HighestHeld (Some h) locks = In (record { page = h.slip; round = h.round }) locks × AllByRecursion (λ (l : Lock Slip). l.round ≤ h.round) locks

-- in every state that a replica comes to
abbrev pub HeldIsHighest : Type 0
HeldIsHighest =
    (a : Assembly) (start : ℕ → Station) (run : List Act) → LawfulRun a start run
    → (i : ℕ) → ((played a start run).stations i).live ≡ true
    → HighestHeld ((played a start run).stations i).view.held (locks_of ((played a start run).stations i).view.candidates)

-- a release that is taken changes nothing if a lock held is of its lock's round or a higher one; if every lock held is of
-- a lower round, the lock message in it is held, and its lock is the only one
abbrev pub ReleaseNeedsHigher : Type 0
ReleaseNeedsHigher =
    (b : Box) (fill size : ℕ) (seals : List (List ℕ)) (m : List ℕ) (h : Head) (l : List ℕ) (inner : Locked (List ℕ)) (own : List ℕ)
    → fields b.settings.pool b.sealer.long m ≡ Some (record { head = h; content = release l inner own })
    → is_ok (settled b fill size (judge_message b m) seals).answer ≡ true
    → ((k : Lock Slip) → In k (locks_of b.view.candidates) → round_in inner.head ≤ k.round → (settled b fill size (judge_message b m) seals).view ≡ b.view)
    × (AllByRecursion (λ (k : Lock Slip). k.round < round_in inner.head) (locks_of b.view.candidates)
    → ((settled b fill size (judge_message b m) seals).view.held ≡ Some (record { slip = inner.cert.slip; round = round_in inner.head; bytes = l }))
    × (locks_of (settled b fill size (judge_message b m) seals).view.candidates ≡ record { page = inner.cert.slip; round = round_in inner.head } ∷ []))

-- what is written ------------------------------------------------------------------------------------------------------

-- a message in the replica's own name, at its height, for a round
abbrev pub from : Box → ℕ → Content (List ℕ) → Sent (List ℕ)
from b round c = record { head = head_for b.sealer.number b.view.height round; content = c }

-- the bytes that a call is handed read as these fields
abbrev pub Reads : Box → List ℕ → Head → Content (List ℕ) → Type 0
Reads b m h c = fields b.settings.pool b.sealer.long m ≡ Some (record { head = h; content = c })

-- the view with a change recorded
abbrev pub noticed : View → Head → Option Slip → List ℕ → List ℕ → View
noticed v h page x y = with_latest (with_candidates v (shelved_page page v.candidates)) (sender_in h) (record { round = round_in h; page = page; rchg = x; cand = y })

-- what the lock message that is held says
pub record HeldSays (b : Box) (h : Held) (inner : Locked (List ℕ)) : Type 0 where
  pub is_held : b.view.held ≡ Some h
  pub of_slip : inner.cert.slip ≡ h.slip
  pub of_round : round_in inner.head ≡ h.round
  pub of_height : height_in inner.head ≡ b.view.height

-- what the rules have a call say, under the seals that are made for it, in their order
pub data Says (b : Box) (seals : List (List ℕ)) : Call → Sent (List ℕ) → Type 0 where
  -- begin states round 0 with the candidate
  states_first : Says b seals begins (from b 0 (change (candidate_of b.rules b.view.candidates) (seal_at seals 0) (seal_at seals 1)))
  -- a tick in changing repeats the replica's latest statement
  states_again : {k : ℕ} (l : Latest) → b.view.stage ≡ Changing → latest_of b.view b.sealer.number ≡ Some l → Says b seals (ticks k) (from b l.round (change l.page (seal_at seals 0) (seal_at seals 1)))
  -- a tick in releasing states the next round with the candidate
  states_next : {k : ℕ} → b.view.stage ≡ Releasing → Says b seals (ticks k) (from b (b.view.round + 1) (change (candidate_of b.rules b.view.candidates) (seal_at seals 0) (seal_at seals 1)))
  -- a tick in committing releases the lock message that is held
  releases : {k : ℕ} (h : Held) (inner : Locked (List ℕ)) → b.view.stage ≡ Committing → HeldSays b h inner → Says b seals (ticks k) (from b b.view.round (release h.bytes inner (seal_at seals 0)))
  -- a change after which t + 2 members call for a round: the highest such round is stated, with the candidate
  states_called : {m : List ℕ} (h : Head) (page : Option Slip) (x y : List ℕ) (r : ℕ) → Reads b m h (change page x y)
      → highest_round (called_for b.settings (noticed b.view h page x y)) (noticed b.view h page x y).latest ≡ Some r
      → Says b seals (takes m) (from b r (change (candidate_of b.rules (shelved_page page b.view.candidates)) (seal_at seals 0) (seal_at seals 1)))
  -- a lock: a commit to its slip in its round
  commits : {m : List ℕ} (h : Head) (c : Cert (List ℕ)) → Reads b m h (lock c) → Says b seals (takes m) (from b (round_in h) (commit c.slip (seal_at seals 0)))
  -- a select: the lock message that is held is released in the select's round
  releases_selected : {m : List ℕ} (x : Head) (c : Cert (List ℕ)) (h : Held) (inner : Locked (List ℕ)) → Reads b m x (select c) → HeldSays b h inner
      → Says b seals (takes m) (from b (round_in x) (release h.bytes inner (seal_at seals 0)))
  -- putting forward: a lock on the slip that a quorum names, over the candidate seals of the q lowest members that name it
  locks : {t : Gathering} {rs : Records} (s : Slip) → agreed_of (quorum b.settings.pool) b.view.round b.view.latest b.view.latest ≡ Some s
      → Says b seals (forwards t rs) (from b b.view.round (lock (record { slip = s; own = seal_at seals 0; votes = lowest b (names_in b.view.round s) cand_of b.view.latest })))
  -- or a select of the top, over the round change seals of the q lowest members of the round
  selects : {t : Gathering} {rs : Records} (s : Slip) → top_of b.rules.above b.view.candidates ≡ Some s
      → Says b seals (forwards t rs) (from b b.view.round (select (record { slip = s; own = seal_at seals 0; votes = lowest b (of_round b.view.round) rchg_of b.view.latest })))
  -- closing: a decide on the turn's page, over the commit seals of the q lowest records that read as it
  decides : {t : Counting} {rs : Records}
      → Says b seals (closes t rs) (from b b.view.round (decide (record { slip = t.page; own = seal_at seals 0; votes = lowest b (commits_to t.page) commit_of (take (members b.settings.pool) rs) })))

-- all along a run each call's sealer makes seals of its own length, at least as many as statements are sealed
abbrev pub WellSealed : Assembly → (ℕ → Station) → List Act → Type 0
WellSealed a start [] = Unit {0}
WellSealed a start (act ∷ run) =
    WellSealed a start run
    × (AllByRecursion (λ (s : List ℕ). length s ≡ a.long act.who) act.seals × (length (step_at a (played a start run) act).sealed ≤ length act.seals))

-- a record's seal has that length
abbrev pub RecordFits : ℕ → Option Committed → Type 0
RecordFits n None = Unit {0}
RecordFits n (Some c) = length c.seal ≡ n

-- a turn that is closed is of a page of the program, and the records hold seals of the length
abbrev pub TurnFits : ℕ → Call → Type 0
TurnFits n c = (t : Counting) (rs : Records) → c ≡ closes t rs → PageFits (Some t.page) × AllByRecursion (RecordFits n) rs

-- what a call writes are the bytes of the fields that the rules name, and reads back as them
abbrev pub WritesReadBack : Type 0
WritesReadBack =
    (a : Assembly) (start : ℕ → Station) (run : List Act) (act : Act) → LawfulRun a start (act ∷ run) → WellSealed a start (act ∷ run)
    → a.long act.who ≤ 80 → TurnFits (a.long act.who) act.call
    → (m : List ℕ) → written_by (box_of a act.who ((played a start run).stations act.who)) act act.call ≡ Some m
    → (s : Sent (List ℕ)) × Says (box_of a act.who ((played a start run).stations act.who)) act.seals act.call s
    × (m ≡ encoded s) × (fields a.pool (a.long act.who) m ≡ Some s)
