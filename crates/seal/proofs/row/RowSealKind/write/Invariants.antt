use Rattle.std.proofs.Common.{◌≡◌, ◌≤◌, length}
use Rattle.base.specs.Writing.{wrote}
use Rattle.seal.specs.Tags.{tags_below}
use Rattle.seal.proofs.row.RowSealKind.write.Given as goal

abbrev pub invariant-loop-i : goal.invariant-loop-i
invariant-loop-i l = 80 ≤ length l.initial.out → l.out ≡ wrote 0 (tags_below l.i l.ring.keys l.ring.own.0 l.statement) l.initial.out
