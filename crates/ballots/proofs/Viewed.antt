-- What the code counts, in the protocol's words.
use Rattle.std.proofs.Common.{◌≡◌, ℕ, List, Option, sym}
use Rattle.std.specs.Option.{option_map}
use Rattle.base.specs.declared.counters.Round.{Round}
use Rattle.base.specs.declared.slips.Slip.{Slip}
use Rattle.protocol.specs.Rounds.{of_round}
use Rattle.protocol.specs.State.{tally}
use Rattle.protocol.specs.Turns.{names_in, commits_to, votes_from, rchg_of, cand_of, commit_of}
use Rattle.ballots.specs.Asking.{backing, sealing}
use Rattle.ballots.specs.Views.{latest_view, latest_list, commit_view, records_view}
use Rattle.ballots.specs.declared.commits.CommitRecord.{CommitRecord}
use Rattle.ballots.specs.declared.latest.Asked.TheVariants.{OfRound, Naming}
use Rattle.ballots.specs.declared.latest.Latest.{Latest}
use Rattle.ballots.proofs.Counting.{tally_map, votes_map}

pub tally_of_round : (r : Round) (xs : List (Option Latest)) → tally (λ l. backing l (OfRound r)) xs ≡ tally (of_round r.0) (latest_list xs)
tally_of_round r xs = sym (tally_map (option_map latest_view) (of_round r.0) xs)

pub tally_naming : (r : Round) (s : Slip) (xs : List (Option Latest)) → tally (λ l. backing l (Naming r s)) xs ≡ tally (names_in r.0 s) (latest_list xs)
tally_naming r s xs = sym (tally_map (option_map latest_view) (names_in r.0 s) xs)

pub tally_commits : (s : Slip) (xs : List CommitRecord) → tally (λ c. commits_to s (commit_view c)) xs ≡ tally (commits_to s) (records_view xs)
tally_commits s xs = sym (tally_map commit_view (commits_to s) xs)

pub votes_of_round : (r : Round) (i : ℕ) (xs : List (Option Latest)) → votes_from (λ l. backing l (OfRound r)) (λ l. sealing l (OfRound r)) i xs ≡ votes_from (of_round r.0) rchg_of i (latest_list xs)
votes_of_round r i xs = sym (votes_map (option_map latest_view) (of_round r.0) rchg_of i xs)

pub votes_naming : (r : Round) (s : Slip) (i : ℕ) (xs : List (Option Latest)) → votes_from (λ l. backing l (Naming r s)) (λ l. sealing l (Naming r s)) i xs ≡ votes_from (names_in r.0 s) cand_of i (latest_list xs)
votes_naming r s i xs = sym (votes_map (option_map latest_view) (names_in r.0 s) cand_of i xs)

pub votes_commits : (s : Slip) (i : ℕ) (xs : List CommitRecord) → votes_from (λ c. commits_to s (commit_view c)) (λ c. commit_of (commit_view c)) i xs ≡ votes_from (commits_to s) commit_of i (records_view xs)
votes_commits s i xs = sym (votes_map commit_view (commits_to s) commit_of i xs)
