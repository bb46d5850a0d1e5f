-- Locks as they are gathered candidate by candidate, from the last to the first.
use Rattle.std.specs.Prelude.{ℕ, cond, List, [], ◌∷◌, Some, None, Option}
use Rattle.agree.specs.Pool.{Lock as Kept-lock}
use Rattle.base.specs.Slips.{one_page}
use Rattle.base.specs.declared.slips.Slip.{Slip}
use Rattle.protocol.specs.Rounds.{best_of}
use Rattle.protocol.specs.State.{Held as Held-lock}
use Rattle.shelf.specs.declared.scans.Lock.{Lock}
use Rattle.shelf.specs.declared.scans.Locks.{Locks}
use Rattle.shelf.specs.declared.scans.Locks.TheVariants.{Free, One, Several}

abbrev pub lock_view : Lock → Kept-lock Slip
lock_view l = record { page = l.slip; round = l.round.0 }

-- the round in which a slip stays locked where only that lock stays
abbrev pub kept_in : Slip → Option (Kept-lock Slip) → Option ℕ
kept_in s None = None
kept_in s (Some l) = cond (one_page s l.page) (Some l.round) None

-- the higher of a candidate's lock and the best of those behind it
abbrev pub higher_of : Option Held-lock → Slip → Option ℕ → Option (Kept-lock Slip) → Option (Kept-lock Slip)
higher_of h s None best = best
higher_of h s (Some r) best = Some (best_of h (record { page = s; round = r }) best)

-- none, one, or more
abbrev pub in_locks : List (Kept-lock Slip) → Locks
in_locks [] = Free
in_locks (l ∷ []) = One l.page
in_locks (l ∷ k ∷ ls) = Several

-- one candidate more
abbrev pub more_locks : Slip → Option ℕ → Locks → Locks
more_locks s None ls = ls
more_locks s (Some r) Free = One s
more_locks s (Some r) (One p) = Several
more_locks s (Some r) Several = Several
