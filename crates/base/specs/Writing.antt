-- Writing bytes over a part of a buffer.
use Rattle.std.specs.Prelude.{ℕ, ◌+◌, List, ◌++◌, length, take, drop}

-- the buffer with these bytes from a place on, and everything else as it was
abbrev pub wrote : ℕ → List ℕ → List ℕ → List ℕ
wrote at bytes out = take at out ++ (bytes ++ drop (at + length bytes) out)
