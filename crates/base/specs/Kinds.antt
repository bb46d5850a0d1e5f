-- The six kinds of messages and the byte that stands for each.
use Rattle.std.specs.Prelude.{ℕ, cond, Some, None, Option, ◌==◌}
use Rattle.base.specs.declared.stages.Kind.{Kind}
use Rattle.base.specs.declared.stages.Kind.TheVariants.{Change, Lock, Select, Commit, Decide, Release}

abbrev pub kind_number : Kind → ℕ
kind_number Change = 1
kind_number Lock = 2
kind_number Select = 3
kind_number Commit = 4
kind_number Decide = 5
kind_number Release = 6

abbrev pub kind_of : ℕ → Option Kind
kind_of n =
    cond (n == 1) (Some Change)
    (cond (n == 2) (Some Lock)
    (cond (n == 3) (Some Select)
    (cond (n == 4) (Some Commit)
    (cond (n == 5) (Some Decide)
    (cond (n == 6) (Some Release) None)))))
