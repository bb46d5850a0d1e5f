-- Seals as they are kept.
use Rattle.std.specs.Prelude.{ℕ, cond, ◌&&◌, List, length, Some, None, Option, nat_le}
use Rattle.base.specs.Bounded.{items}
use Rattle.base.specs.declared.seals.Seal.{Seal}

-- the bytes of a kept seal
abbrev pub seal_bytes : Seal → List ℕ
seal_bytes s = items s.bytes

-- a seal has 1 to 80 bytes
abbrev pub kept : List ℕ → Option (List ℕ)
kept b = cond (nat_le 1 (length b) && nat_le (length b) 80) (Some b) None
