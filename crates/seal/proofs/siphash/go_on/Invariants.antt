use Rattle.std.proofs.Common.{◌≡◌, ◌-◌, ◌*◌, ◌/◌, length, drop}
use Rattle.seal.specs.Sip.{absorb}
use Rattle.seal.proofs.siphash.go_on.Given as goal

-- what is left to take in leads where the whole leads
abbrev pub invariant-loop-bytes : goal.invariant-loop-bytes
invariant-loop-bytes l = absorb (length l.rest / 8 - l.bytes-index) l.s (drop (8 * l.bytes-index) l.rest) ≡ absorb (length l.rest / 8) l.initial.s l.rest
