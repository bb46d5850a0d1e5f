-- How the code's statements and records stand for those of the protocol.
use Rattle.std.specs.Prelude.{ℕ, List, map, take, Option}
use Rattle.base.specs.Seals.{seal_bytes}
use Rattle.base.specs.declared.counters.Round.{Round}
use Rattle.protocol.specs.State.{Latest as Stated}
use Rattle.protocol.specs.Turns.{Committed, Records}
use Rattle.ballots.specs.declared.commits.Commit.{Commit}
use Rattle.ballots.specs.declared.commits.CommitRecord.{CommitRecord}
use Rattle.ballots.specs.declared.latest.Latest.{Latest}
use Rattle.ballots.specs.declared.latest.Statements.{Statements}
use Rattle.std.specs.Option.{option_map}

abbrev pub round_number : Round → ℕ
round_number r = r.0

abbrev pub round_in : Latest → Round
round_in l = l.round

-- a latest statement, by the bytes of its seals
abbrev pub latest_view : Latest → Stated
latest_view l = record { round = l.round.0; page = l.page; rchg = seal_bytes l.rchg; cand = seal_bytes l.cand }

abbrev pub latest_list : List (Option Latest) → List (Option Stated)
latest_list = map (option_map latest_view)

-- the places of the first n members
abbrev pub statements_view : ℕ → Statements → List (Option Stated)
statements_view n s = latest_list (take n s.0)

-- a commit, by the bytes of its seal
abbrev pub committed : Commit → Committed
committed c = record { page = c.page; seal = seal_bytes c.seal }

abbrev pub commit_view : CommitRecord → Option Committed
commit_view r = option_map committed r.commit

abbrev pub records_view : List CommitRecord → Records
records_view = map commit_view
