-- The leader's turn: opening it, putting forward, taking commits, closing.
use Rattle.std.specs.Prelude.{ℕ, ◌+◌, Bool, false, cond, not, ◌&&◌, ◌||◌, List, [], ◌∷◌, ◌++◌, length, take, drop, replicate, Some, None, Ok, Err, Option, Result, ◌==◌, nat_le, slice_index_or, slice_set}
use Rattle.base.specs.Pools.{members, quorum, leader_of}
use Rattle.base.specs.declared.refusals.Refusal.{Refusal}
use Rattle.base.specs.declared.refusals.Refusal.TheVariants.{Misshapen, Stranger, PastHeight, LaterHeight, WrongRound, OutOfStage, OffChain, NotAdmitted, Contradiction, NotYourTurn, NotYet, TurnPast, FewRecords}
use Rattle.base.specs.declared.slips.Slip.{Slip}
use Rattle.base.specs.declared.stages.Kind.{Kind}
use Rattle.base.specs.declared.stages.Kind.TheVariants.{Lock, Select, Decide}
use Rattle.base.specs.declared.statements.Word.{Word}
use Rattle.base.specs.declared.statements.Word.TheVariants.{Slct, Dcid}
use Rattle.base.specs.declared.statements.Word.TheVariants as words
use Rattle.message.specs.Contents.{Signed, Content, change, lock, select, commit, decide, release, Sent}
use Rattle.message.specs.Encoding.{cert_blocks}
use Rattle.message.specs.RoundTrip.{fields}
use Rattle.message.specs.declared.shapes.Head.{Head}
use Rattle.protocol.specs.Judging.{height_in, round_in, sender_in, familiar, checks_of, bad_seal, on_chain}
use Rattle.protocol.specs.Messages.{Answer, taken, of_member, unless_bad}
use Rattle.protocol.specs.Plans.{Draft, Plan, unless}
use Rattle.protocol.specs.Rounds.{is_locking, top_of, of_round, in_round, quorate, says, head_for, seal_at, with_turned, plainly}
use Rattle.protocol.specs.State.{Latest, Box, one_page, tally}

-- a gathering turn is of a height and a round; a counting turn is of a page, too
pub record Gathering : Type 0 where
  pub height : ℕ
  pub round : ℕ

pub record Counting : Type 0 where
  pub height : ℕ
  pub round : ℕ
  pub page : Slip

-- a commit record: a page and the seal on the commit to it; or blank
pub record Committed : Type 0 where
  pub page : Slip
  pub seal : List ℕ

abbrev pub Records : Type 0
Records = List (Option Committed)

-- the replica leads its height and round
abbrev pub leads : Box → Bool
leads b = b.sealer.number == leader_of b.settings.pool (record { 0 = b.view.height }) (record { 0 = b.view.round })

-- a leader in locking opens a gathering turn, once a round
abbrev pub judge_opening : Box → Result (Plan Gathering) Refusal
judge_opening b =
    of_member b
    (unless (leads b && (is_locking b.view.stage && not b.view.turned)) NotYourTurn
    (Ok (plainly (record { height = b.view.height; round = b.view.round }) (with_turned b.view))))

-- the replica is still in the turn's height and round
abbrev pub still_in : Box → ℕ → ℕ → Bool
still_in b height round = b.view.height == height && b.view.round == round

-- there is a record for each member
abbrev pub enough : Box → Records → Bool
enough b records = nat_le (members b.settings.pool) (length records)

-- counting ----------------------------------------------------------------------------------------------------------

-- a page that is the slip
abbrev pub is_slip : Slip → Option Slip → Bool
is_slip s None = false
is_slip s (Some p) = one_page p s

-- the latest statement is of the round and names the slip
abbrev pub names_in : ℕ → Slip → Option Latest → Bool
names_in r s None = false
names_in r s (Some l) = l.round == r && is_slip s l.page

-- the commit record reads as the slip
abbrev pub commits_to : Slip → Option Committed → Bool
commits_to s None = false
commits_to s (Some c) = one_page c.page s

-- the votes of the members that pass a test, the lowest first; member i has place i
abbrev pub votes_from : {X : Type 0} → (X → Bool) → (X → List ℕ) → ℕ → List X → List (Signed (List ℕ))
votes_from test seal i [] = []
votes_from test seal i (x ∷ xs) = cond (test x) (record { signer = i; seal = seal x } ∷ votes_from test seal (i + 1) xs) (votes_from test seal (i + 1) xs)

-- the q lowest of them
abbrev pub lowest : {X : Type 0} → Box → (X → Bool) → (X → List ℕ) → List X → List (Signed (List ℕ))
lowest b test seal xs = take (quorum b.settings.pool) (votes_from test seal 0 xs)

abbrev pub cand_of : Option Latest → List ℕ
cand_of None = []
cand_of (Some l) = l.cand

abbrev pub rchg_of : Option Latest → List ℕ
rchg_of None = []
rchg_of (Some l) = l.rchg

abbrev pub commit_of : Option Committed → List ℕ
commit_of None = []
commit_of (Some c) = c.seal

-- a slip that a quorum of latest statements of the round names
abbrev pub agreed_slip : ℕ → ℕ → List (Option Latest) → Slip → Bool
agreed_slip q r all s = nat_le q (tally (names_in r s) all)

abbrev pub agreed_in : ℕ → ℕ → List (Option Latest) → Option Slip → Option Slip → Option Slip
agreed_in q r all None rest = rest
agreed_in q r all (Some s) rest = cond (agreed_slip q r all s) (Some s) rest

abbrev pub page_of : Option Latest → Option Slip
page_of None = None
page_of (Some l) = l.page

abbrev pub agreed_of : ℕ → ℕ → List (Option Latest) → List (Option Latest) → Option Slip
agreed_of q r all [] = None
agreed_of q r all (l ∷ ls) = agreed_in q r all (page_of l) (agreed_of q r all ls)

-- putting forward ---------------------------------------------------------------------------------------------------

-- a lock, select or decide by the replica over some votes
abbrev pub cert_draft : Box → Kind → ℕ → Word → Slip → List (Signed (List ℕ)) → Draft
cert_draft b kind sort word s votes =
    record {
      kind = kind;
      head = head_for b.sealer.number b.view.height b.view.round;
      wants = says word b.view.height b.view.round (Some s) ∷ [];
      made = λ seals. cert_blocks sort (head_for b.sealer.number b.view.height b.view.round) (record { slip = s; own = seal_at seals 0; votes = votes });
    }

-- what putting forward gives: the counting turn, if any, and the records
pub record Forwarded : Type 0 where
  pub turn : Option Counting
  pub records : Records

-- the first n records are blanked
abbrev pub blanked : Box → Records → Records
blanked b records = replicate (members b.settings.pool) None ++ drop (members b.settings.pool) records

-- a lock, with the q lowest members' seals; the replica itself does not move
abbrev pub forward_lock : Box → Records → Slip → Plan Forwarded
forward_lock b records s =
    record {
      answer = record { turn = Some (record { height = b.view.height; round = b.view.round; page = s }); records = blanked b records };
      next = λ seals. b.view;
      draft = Some (cert_draft b Lock 3 words.Lock s (lowest b (names_in b.view.round s) cand_of b.view.latest));
    }

-- a select of the top, with the seals of the q lowest members of the round; the turn ends
abbrev pub forward_select : Box → Records → Slip → Plan Forwarded
forward_select b records s =
    record {
      answer = record { turn = None; records = records };
      next = λ seals. b.view;
      draft = Some (cert_draft b Select 2 Slct s (lowest b (of_round b.view.round) rchg_of b.view.latest));
    }

-- a select is due with a quorum in the round, and either all of the pool in it or G ticks passed
abbrev pub select_due : Box → Bool
select_due b =
    quorate b.settings b.view.round b.view
    && (in_round b.view.round b.view == members b.settings.pool || nat_le b.settings.g b.view.ticks)

abbrev pub forward_top : Box → Records → Option Slip → Result (Plan Forwarded) Refusal
forward_top b records None = Err NotYet
forward_top b records (Some s) = unless (select_due b) NotYet (Ok (forward_select b records s))

abbrev pub forward_by : Box → Records → Option Slip → Result (Plan Forwarded) Refusal
forward_by b records (Some s) = Ok (forward_lock b records s)
forward_by b records None = forward_top b records (top_of b.rules.above b.view.candidates)

abbrev pub judge_forward : Box → Gathering → Records → Result (Plan Forwarded) Refusal
judge_forward b turn records =
    of_member b
    (unless (enough b records) FewRecords
    (unless (still_in b turn.height turn.round && is_locking b.view.stage) TurnPast
    (unless (leads b) NotYourTurn
    (forward_by b records (agreed_of (quorum b.settings.pool) b.view.round b.view.latest b.view.latest)))))

-- taking a commit ---------------------------------------------------------------------------------------------------

-- the turn takes nothing but commits
abbrev pub commit_in : Content (List ℕ) → Option Committed
commit_in (change page a b) = None
commit_in (lock c) = None
commit_in (select c) = None
commit_in (commit s a) = Some (record { page = s; seal = a })
commit_in (decide c) = None
commit_in (release l inner b) = None

-- a good commit goes to the record of its member; a repeated one does nothing
abbrev pub noted : Slip → ℕ → Committed → Records → Records
noted page i c records = cond (commits_to page (slice_index_or records i None)) records (slice_set records i (Some c))

abbrev pub judged_commit : Box → Counting → Records → Head → Option Committed → Result (Plan Records) Refusal
judged_commit b turn records h None = Err OutOfStage
judged_commit b turn records h (Some c) =
    unless_bad (bad_seal b.sealer.knows (checks_of h (commit c.page c.seal)))
    (unless (on_chain b.view.last c.page) OffChain
    (unless (b.rules.admits b.view.height c.page) NotAdmitted
    (unless (one_page c.page turn.page) Contradiction
    (Ok (plainly (noted turn.page (sender_in h) c records) b.view)))))

abbrev pub judged_turn : Box → Counting → Records → Option (Sent (List ℕ)) → Result (Plan Records) Refusal
judged_turn b turn records None = Err Misshapen
judged_turn b turn records (Some s) =
    unless (nat_le b.view.height (height_in s.head)) PastHeight
    (unless (nat_le (height_in s.head) b.view.height) LaterHeight
    (unless (familiar b.settings.pool s) Stranger
    (unless (still_in b turn.height turn.round) TurnPast
    (unless (round_in s.head == turn.round) WrongRound
    (judged_commit b turn records s.head (commit_in s.content))))))

abbrev pub judge_commit : Box → Counting → Records → List ℕ → Result (Plan Records) Refusal
judge_commit b turn records m =
    of_member b (unless (enough b records) FewRecords (judged_turn b turn records (fields b.settings.pool b.sealer.long m)))

-- closing -----------------------------------------------------------------------------------------------------------

-- a decide from the q lowest members whose records read as the turn's page
abbrev pub decide_draft : Box → Counting → Records → Draft
decide_draft b turn records =
    cert_draft b Decide 4 Dcid turn.page (lowest b (commits_to turn.page) commit_of (take (members b.settings.pool) records))

abbrev pub judge_closing : Box → Counting → Records → Result (Plan Answer) Refusal
judge_closing b turn records =
    of_member b
    (unless (enough b records) FewRecords
    (unless (still_in b turn.height turn.round) TurnPast
    (unless (leads b) NotYourTurn
    (unless (nat_le (quorum b.settings.pool) (tally (commits_to turn.page) (take (members b.settings.pool) records))) NotYet
    (Ok (record { answer = taken; next = λ seals. b.view; draft = Some (decide_draft b turn records) }))))))
