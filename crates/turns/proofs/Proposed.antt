-- A lock or select over the statements of the program, in the protocol's words.
use Rattle.std.proofs.Common.{◌≡◌, ℕ, ◌≤◌, List, length, take, Option, sym, ap, ◌∙◌, arith}
use Rattle.ballots.proofs.Viewed.{votes_of_round, votes_naming}
use Rattle.ballots.specs.Asking.{backing, sealing}
use Rattle.ballots.specs.Views.{latest_list, statements_view}
use Rattle.ballots.specs.declared.latest.Asked.{Asked}
use Rattle.ballots.specs.declared.latest.Asked.TheVariants.{OfRound, Naming}
use Rattle.ballots.specs.declared.latest.Latest.{Latest}
use Rattle.base.specs.Pools.{members, quorum}
use Rattle.base.specs.declared.pools.Pool.{Pool}
use Rattle.base.specs.declared.slips.Slip.{Slip}
use Rattle.base.specs.declared.stages.Kind.TheVariants as kinds
use Rattle.base.specs.declared.statements.Word.TheVariants as words
use Rattle.holding.proofs.Sizes.{few}
use Rattle.holding.specs.Views.{view_of}
use Rattle.holding.specs.declared.states.State.{State}
use Rattle.protocol.specs.Plans.{Draft}
use Rattle.protocol.specs.Rounds.{of_round, head_for}
use Rattle.protocol.specs.Turns.{names_in, cand_of, rchg_of, votes_from}
use Rattle.base.specs.Certified.{kind_of, sort_of, word_of}
use Rattle.sending.specs.Drafts.{cert_for}
use Rattle.base.specs.declared.certified.Certified.{Certified}
use Rattle.base.specs.declared.certified.Certified.TheVariants as certified
use Rattle.turns.specs.Plans.{proposed_draft}
use Rattle.turns.specs.declared.proposing.Proposal.{Proposal}
use Rattle.turns.specs.declared.proposing.Proposal.TheVariants.{Lock, Select}

pub few_statements : (pool : Pool) (xs : List (Option Latest)) → length xs ≡ members pool → length xs ≤ 256
few_statements pool xs e = let f = few pool in omega arith

module _ (pool : Pool) (state : State) (own number : ℕ) (mine : own ≡ number) (xs : List (Option Latest)) (are : latest_list xs ≡ statements_view (members pool) state.statements) where
  -- what is sent
  abbrev pub sent_over : Certified × Slip × Asked → Draft
  sent_over x =
      cert_for (head_for own state.height.0 state.round.0) (kind_of x.0) (sort_of x.0) (word_of x.0) x.1
      (take (quorum pool) (votes_from (λ l. backing l x.2) (λ l. sealing l x.2) 0 xs))

  pub lock_as : (x : Certified × Slip × Asked) (p : Proposal) (s : Slip) → x ≡ (certified.Lock, s, Naming state.round s) → p ≡ Lock s → sent_over x ≡ proposed_draft number pool (view_of pool state) p
  lock_as x p s is due =
      ap sent_over is
      ∙ (λ i. cert_for (head_for (mine i) state.height.0 state.round.0) kinds.Lock 3 words.Lock s (take (quorum pool) ((votes_naming state.round s 0 xs ∙ ap (λ ys. votes_from (names_in state.round.0 s) cand_of 0 ys) are) i)))
      ∙ ap (proposed_draft number pool (view_of pool state)) (sym due)

  pub select_as : (x : Certified × Slip × Asked) (p : Proposal) (s : Slip) → x ≡ (certified.Select, s, OfRound state.round) → p ≡ Select s → sent_over x ≡ proposed_draft number pool (view_of pool state) p
  select_as x p s is due =
      ap sent_over is
      ∙ (λ i. cert_for (head_for (mine i) state.height.0 state.round.0) kinds.Select 2 words.Slct s (take (quorum pool) ((votes_of_round state.round 0 xs ∙ ap (λ ys. votes_from (of_round state.round.0) rchg_of 0 ys) are) i)))
      ∙ ap (proposed_draft number pool (view_of pool state)) (sym due)
