-- What is asked of latest statements, in the protocol's words.
use Rattle.std.specs.Prelude.{ℕ, ◌+◌, Bool, cond, ◌&&◌, List, Option, nat_le, nat_lt}
use Rattle.protocol.specs.Rounds.{of_round}
use Rattle.protocol.specs.State.{Latest as Stated, tally}
use Rattle.protocol.specs.Turns.{names_in, rchg_of, cand_of}
use Rattle.ballots.specs.Views.{latest_view}
use Rattle.ballots.specs.declared.latest.Asked.{Asked}
use Rattle.ballots.specs.declared.latest.Asked.TheVariants.{OfRound, Naming}
use Rattle.ballots.specs.declared.latest.Latest.{Latest}
use Rattle.std.specs.Option.{option_map}

-- whether a statement is what is asked
abbrev pub passes : Asked → Option Stated → Bool
passes (OfRound r) l = of_round r.0 l
passes (Naming r s) l = names_in r.0 s l

-- the seal that is wanted of it
abbrev pub wanted : Asked → Option Stated → List ℕ
wanted (OfRound r) l = rchg_of l
wanted (Naming r s) l = cand_of l

abbrev pub backing : Option Latest → Asked → Bool
backing l q = passes q (option_map latest_view l)

abbrev pub sealing : Option Latest → Asked → List ℕ
sealing l q = wanted q (option_map latest_view l)

-- the round is ahead of a replica's own, which when resting counts too, and t + 2 latest statements are of it
abbrev pub calls_for : ℕ → Bool → ℕ → List (Option Stated) → ℕ → Bool
calls_for own resting t all r = cond resting (nat_le own r) (nat_lt own r) && nat_le (t + 2) (tally (of_round r) all)
