-- The sorts of bodies and the byte that stands for each in a table of contents.
use Rattle.std.specs.Prelude.{ℕ}
use Rattle.base.specs.declared.stages.Sort.{Sort}
use Rattle.base.specs.declared.stages.Sort.TheVariants.{Slip, RoundChange, Candidate, Commit, Own, Lock}

abbrev pub sort_number : Sort → ℕ
sort_number Slip = 1
sort_number RoundChange = 2
sort_number Candidate = 3
sort_number Commit = 4
sort_number Own = 5
sort_number Lock = 6
