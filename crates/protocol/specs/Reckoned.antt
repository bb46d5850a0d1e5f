-- The definitions at examples that can be reckoned by hand.
use Rattle.std.specs.Prelude.{◌≡◌, ℕ, true, false, List, [], ◌∷◌, replicate, Some, None, Ok, Err, Option, Result}
use Rattle.base.specs.Pools.{leader_of}
use Rattle.base.specs.declared.pools.Pool.{Pool}
use Rattle.base.specs.declared.pools.Pool.TheVariants.{Four, Seven, Ten}
use Rattle.base.specs.declared.refusals.Refusal.{Refusal}
use Rattle.base.specs.declared.slips.Slip.{Slip}
use Rattle.base.specs.declared.stages.Kind.{Kind}
use Rattle.base.specs.declared.stages.Kind.TheVariants as kinds
use Rattle.base.specs.declared.stages.Stage.{Stage}
use Rattle.base.specs.declared.stages.Stage.TheVariants.{Changing, Locking}
use Rattle.base.specs.declared.statements.Statement.{Statement}
use Rattle.base.specs.declared.statements.Word.TheVariants as words
use Rattle.message.specs.Contents.{Signed, change}
use Rattle.message.specs.Encoding.{encoded}
use Rattle.message.specs.Sizes.{size_of}
use Rattle.rules.specs.Pages.{page, receipts_admits, receipts_above}
use Rattle.protocol.specs.Messages.{Answer, taken, commit_draft, judge_message}
use Rattle.protocol.specs.Plans.{Draft, Plan, draft_bytes, draft_size}
use Rattle.protocol.specs.Rounds.{says, head_for, change_draft, release_draft, recorded}
use Rattle.protocol.specs.State.{Settings, Candidate, Latest, View, Box}
use Rattle.protocol.specs.Turns.{Forwarded, cert_draft, judge_forward}

-- two pages on the mark of 32 zeros; receipts ranks the first, of more lots, above the second
abbrev pub page_a : Slip
page_a = page 0 1 7 0

abbrev pub page_b : Slip
page_b = page 0 2 6 1

-- a seal of so many zeros, and what a member stated under such seals
abbrev pub blank : ℕ → List ℕ
blank n = replicate n 0

abbrev pub statement : ℕ → ℕ → Option Slip → Option Latest
statement n round named = Some (record { round = round; page = named; rchg = blank n; cand = blank n })

-- a replica at height 5 on that mark, under receipts, with seals of n bytes that are all recognised
module _ (pool : Pool) (n : ℕ) where
  abbrev pub settings : Settings
  settings = record { pool = pool; start_height = 5; start_mark = record { 0 = replicate 32 0 }; d0 = 20; d1 = 20; d2 = 20; d3 = 20; g = 10 }

  abbrev pub box_of : ℕ → View → Box
  box_of own v =
      record {
        settings = settings;
        sealer = record { number = own; left = 100; knows = λ member bytes seal. true; long = n };
        rules = record { admits = λ height s. receipts_admits s; above = receipts_above };
        view = v;
      }

abbrev pub view_of : ℕ → Stage → List Candidate → List (Option Latest) → View
view_of round stage candidates latest =
    record {
      height = 5;
      last = record { 0 = replicate 32 0 };
      round = round;
      stage = stage;
      ticks = 0;
      candidates = candidates;
      held = None;
      latest = latest;
      turned = true;
    }

-- sizes -------------------------------------------------------------------------------------------------------------

-- a lock on the first page by the leader of height 5 and round 0 over the votes of these members, and its release
module _ (pool : Pool) (n : ℕ) (leader : ℕ) (votes : List (Signed (List ℕ))) where
  abbrev pub lock_draft : Draft
  lock_draft = cert_draft (box_of pool n leader (view_of 0 Locking [] [])) kinds.Lock 3 words.Lock page_a votes

  abbrev pub lock_release : Draft
  lock_release = release_draft 0 (view_of 0 Locking [] []) (record { slip = page_a; round = 0; bytes = draft_bytes lock_draft (blank n ∷ []) })

abbrev pub vote : ℕ → ℕ → Signed (List ℕ)
vote n i = record { signer = i; seal = blank n }

abbrev pub three_votes : List (Signed (List ℕ))
three_votes = vote 8 0 ∷ vote 8 1 ∷ vote 8 2 ∷ []

abbrev pub seven_votes : List (Signed (List ℕ))
seven_votes = vote 80 0 ∷ vote 80 1 ∷ vote 80 2 ∷ vote 80 3 ∷ vote 80 4 ∷ vote 80 5 ∷ vote 80 6 ∷ []

-- called to a later round ---------------------------------------------------------------------------------------------

-- seven members; the replica is member 0, in round 2, which it has stated, and knows of no page; members 1 to 3 have
-- stated round 5, and in the first view member 4 has, too
abbrev pub behind_four : View
behind_four = view_of 2 Changing [] (statement 8 2 None ∷ statement 8 5 None ∷ statement 8 5 None ∷ statement 8 5 None ∷ statement 8 5 None ∷ None ∷ None ∷ [])

abbrev pub behind_three : View
behind_three = view_of 2 Changing [] (statement 8 2 None ∷ statement 8 5 None ∷ statement 8 5 None ∷ statement 8 5 None ∷ None ∷ None ∷ None ∷ [])

abbrev pub called : View → Plan Answer
called v = recorded (box_of Seven 8 0 v) taken v

-- a change of member 4 for round 5 without a page, and where a message leads
abbrev pub fourth : List ℕ
fourth = encoded (record { head = head_for 4 5 5; content = change None (blank 8) (blank 8) })

abbrev pub ends_in : Result (Plan Answer) Refusal → List (List ℕ) → Option (ℕ × Stage)
ends_in (Err why) seals = None
ends_in (Ok p) seals = Some ((p.next seals).round, (p.next seals).stage)

-- the statements that are sealed for the plan's message, and its kind
abbrev pub sealing : {X : Type 0} → Plan X → Option (Kind × List Statement)
sealing p = elim p.draft [ None ↦ None | Some d ↦ Some (d.kind, d.wants) ]

-- putting forward -----------------------------------------------------------------------------------------------------

-- four members; the replica is member 1, which leads height 5 and round 0
abbrev pub leading : List (Option Latest) → Box
leading latest = box_of Four 8 1 (view_of 0 Locking (record { slip = page_b; lock = None } ∷ record { slip = page_a; lock = None } ∷ []) latest)

abbrev pub put_forward : List (Option Latest) → Result (Plan Forwarded) Refusal
put_forward latest = judge_forward (leading latest) (record { height = 5; round = 0 }) (replicate 4 None)

-- what is written, or nothing where the call is refused
abbrev pub written : {X : Type 0} → Result (Plan X) Refusal → Option (Kind × List Statement)
written (Err why) = None
written (Ok p) = sealing p

abbrev pub all_for_a : List (Option Latest)
all_for_a = statement 8 0 (Some page_a) ∷ statement 8 0 (Some page_a) ∷ statement 8 0 (Some page_a) ∷ None ∷ []

abbrev pub divided : List (Option Latest)
divided = statement 8 0 (Some page_a) ∷ statement 8 0 (Some page_a) ∷ statement 8 0 (Some page_b) ∷ statement 8 0 None ∷ []

pub record Reckoned : Type 0 where
  -- leaders
  pub leader_of_four : leader_of Four (record { 0 = 5 }) (record { 0 = 0 }) ≡ 1
  pub leader_of_seven : leader_of Seven (record { 0 = 5 }) (record { 0 = 3 }) ≡ 1
  -- sizes, by the rule and of the messages that the definitions write: four members with seals of 8 bytes
  pub change_112 : (size_of kinds.Change true Four 8 ≡ 112) × (draft_size (change_draft 0 5 0 (Some page_a)) 8 ≡ 112)
  pub change_36 : (size_of kinds.Change false Four 8 ≡ 36) × (draft_size (change_draft 0 5 0 None) 8 ≡ 36)
  pub commit_100 : (size_of kinds.Commit true Four 8 ≡ 100) × (draft_size (commit_draft 0 5 0 page_a) 8 ≡ 100)
  pub lock_136 : (size_of kinds.Lock true Four 8 ≡ 136) × (draft_size (lock_draft Four 8 1 three_votes) 8 ≡ 136)
  pub release_164 : (size_of kinds.Release true Four 8 ≡ 164) × (draft_size (lock_release Four 8 1 three_votes) 8 ≡ 164)
  -- ten members with seals of 80 bytes
  pub lock_760 : (size_of kinds.Lock true Ten 80 ≡ 760) × (draft_size (lock_draft Ten 80 5 seven_votes) 80 ≡ 760)
  pub release_860 : (size_of kinds.Release true Ten 80 ≡ 860) × (draft_size (lock_release Ten 80 5 seven_votes) 80 ≡ 860)
  -- four others bring the replica to round 5, and on to locking there
  pub four_bring_it : (seals : List (List ℕ)) → (((called behind_four).next seals).round ≡ 5) × (((called behind_four).next seals).stage ≡ Locking)
  -- so does the message of the fourth, where three are in round 5 already
  pub fourth_brings_it : (seals : List (List ℕ)) → ends_in (judge_message (box_of Seven 8 0 behind_three) fourth) seals ≡ Some (5, Locking)
  -- it states that round
  pub stating_it : sealing (called behind_four) ≡ Some (kinds.Change, says words.Rchg 5 5 None ∷ (says words.Cand 5 5 None ∷ []))
  -- three do not: it stays as it is, and writes nothing
  pub three_do_not : (seals : List (List ℕ)) → (called behind_three).next seals ≡ behind_three
  pub saying_nothing : (called behind_three).draft ≡ None
  -- a quorum for the first page: a lock on it
  pub a_lock : written (put_forward all_for_a) ≡ Some (kinds.Lock, says words.Lock 5 0 (Some page_a) ∷ [])
  -- no quorum for a page, and all of the pool in the round: a select of the top
  pub a_select : written (put_forward divided) ≡ Some (kinds.Select, says words.Slct 5 0 (Some page_a) ∷ [])
  -- receipts admits 1 to 200 lots
  pub two_hundred_lots : receipts_admits (page 0 1 200 0) ≡ true
  pub no_lots : receipts_admits (page 0 1 0 0) ≡ false
  pub too_many_lots : receipts_admits (page 0 1 201 0) ≡ false
