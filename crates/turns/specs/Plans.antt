-- What is judged of a turn, with what is to be done then.
use Rattle.std.specs.Prelude.{◌≡◌, ℕ, take, Some, None, Ok, Err, Option, Result}
use Rattle.base.specs.Pools.{quorum}
use Rattle.base.specs.Seals.{kept}
use Rattle.base.specs.declared.pools.Pool.{Pool}
use Rattle.base.specs.declared.refusals.Refusal.{Refusal}
use Rattle.base.specs.declared.slips.Slip.{Slip}
use Rattle.base.specs.declared.stages.Kind.TheVariants as kinds
use Rattle.base.specs.declared.statements.Word.TheVariants as words
use Rattle.protocol.specs.Messages.{Answer, taken}
use Rattle.protocol.specs.Plans.{Draft, Plan}
use Rattle.protocol.specs.Rounds.{of_round, head_for, plainly}
use Rattle.protocol.specs.State.{View, Box}
use Rattle.protocol.specs.Turns.{Counting, Records, Forwarded, Committed, noted, names_in, votes_from, cand_of, rchg_of, forward_lock, forward_select, decide_draft}
use Rattle.sending.specs.Drafts.{cert_for}
use Rattle.turns.specs.declared.proposing.Proposal.{Proposal}
use Rattle.turns.specs.declared.proposing.Proposal.TheVariants.{Lock, Select}

-- a refusal, or what is to be done about what was found
abbrev pub judged_as : {X Y : Type 0} → (X → Y) → Result X Refusal → Result Y Refusal
judged_as plan (Ok x) = Ok (plan x)
judged_as plan (Err why) = Err why

-- the turn is put forward by a lock or a select
abbrev pub forward_plan : Box → Records → Proposal → Plan Forwarded
forward_plan b records (Lock s) = forward_lock b records s
forward_plan b records (Select s) = forward_select b records s

-- the message of a proposal, by a member of the pool
abbrev pub proposed_draft : ℕ → Pool → View → Proposal → Draft
proposed_draft own pool v (Lock s) =
    cert_for (head_for own v.height v.round) kinds.Lock 3 words.Lock s (take (quorum pool) (votes_from (names_in v.round s) cand_of 0 v.latest))
proposed_draft own pool v (Select s) =
    cert_for (head_for own v.height v.round) kinds.Select 2 words.Slct s (take (quorum pool) (votes_from (of_round v.round) rchg_of 0 v.latest))

-- the turn is closed by a decide
abbrev pub closing_plan : Box → Counting → Records → Plan Answer
closing_plan b turn records = record { answer = taken; next = λ seals. b.view; draft = Some (decide_draft b turn records) }

-- a commit is noted; the replica does not move
abbrev pub noting_plan : Box → Slip → Records → ℕ → Committed → Plan Records
noting_plan b page records member c = plainly (noted page member c records) b.view

-- a commit, if any, has a seal that can be kept
abbrev pub Keepable : Option Committed → Type 0
Keepable None = Unit {0}
Keepable (Some c) = kept c.seal ≡ Some c.seal
