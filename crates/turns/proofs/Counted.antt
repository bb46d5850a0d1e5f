-- The records of the pool's members, and the votes in them.
use Rattle.std.proofs.Common.{◌≡◌, ℕ, ◌≤◌, List, length, take, Result, sym, ap, ◌∙◌, arith}
use Rattle.ballots.proofs.Viewed.{tally_commits, votes_commits}
use Rattle.ballots.specs.Views.{commit_view, records_view}
use Rattle.ballots.specs.declared.commits.CommitRecord.{CommitRecord}
use Rattle.base.specs.Pools.{members, quorum}
use Rattle.base.specs.declared.pools.Pool.{Pool}
use Rattle.base.specs.declared.refusals.Refusal.{Refusal}
use Rattle.base.specs.declared.slips.Slip.{Slip}
use Rattle.base.specs.declared.stages.Kind.TheVariants.{Decide}
use Rattle.base.specs.declared.statements.Word.TheVariants.{Dcid}
use Rattle.holding.proofs.Endings.{sending_as}
use Rattle.holding.proofs.Sizes.{few}
use Rattle.protocol.specs.Rounds.{head_for}
use Rattle.protocol.specs.State.{Box, tally}
use Rattle.protocol.specs.Turns.{Counting, commits_to, commit_of, votes_from, decide_draft}
use Rattle.seal.specs.Meaning.{Meaning}
use Rattle.sending.specs.Drafts.{cert_for}
use Rattle.sending.specs.Sending.{Sending}
use Rattle.turns.proofs.Ending.{cert_as}
use Rattle.std.proofs.lemmas.List.{take-map, length-take}

module _ (pool : Pool) (all these : List CommitRecord) (are : these ≡ take (members pool) all) where
  viewed : records_view these ≡ take (members pool) (records_view all)
  viewed = ap (λ xs. records_view xs) are ∙ sym (take-map commit_view (members pool) all)

  pub few_records : length these ≤ 256
  few_records = let e = ap length are ∙ length-take (members pool) all in let f = few pool in omega arith

  pub tally_members : (s : Slip) → tally (λ c. commits_to s (commit_view c)) these ≡ tally (commits_to s) (take (members pool) (records_view all))
  tally_members s = tally_commits s these ∙ ap (λ xs. tally (commits_to s) xs) viewed

  pub votes_members : (q : ℕ) (s : Slip) → take q (votes_from (λ c. commits_to s (commit_view c)) (λ c. commit_of (commit_view c)) 0 these) ≡ take q (votes_from (commits_to s) commit_of 0 (take (members pool) (records_view all)))
  votes_members q s = ap (λ vs. take q vs) (votes_commits s 0 these ∙ ap (λ xs. votes_from (commits_to s) commit_of 0 xs) viewed)

-- a decide over the records of the pool's members is the one of the protocol
pub decided : (b : Box) (turn : Counting) (all : List CommitRecord) (m : Meaning) (own f f' : ℕ) (o o' : List ℕ) (r : Result (List (List ℕ)) Refusal) (these : List CommitRecord) → (length these ≤ 256 → Sending b.sealer m (cert_for (head_for own b.view.height b.view.round) Decide 4 Dcid turn.page (take (quorum b.settings.pool) (votes_from (λ c. commits_to turn.page (commit_view c)) (λ c. commit_of (commit_view c)) 0 these))) f f' o o' r) → own ≡ b.sealer.number → these ≡ take (members b.settings.pool) all → Sending b.sealer m (decide_draft b turn (records_view all)) f f' o o' r
decided b turn all m own f f' o o' r these sends mine are =
    sending_as b.sealer m _ _ f f' o o' r
    (cert_as b own Decide 4 Dcid turn.page _ _ mine (votes_members b.settings.pool all these are (quorum b.settings.pool) turn.page))
    (sends (few_records b.settings.pool all these are))
