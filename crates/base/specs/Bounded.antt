-- What a bounded list holds.
use Rattle.std.specs.Prelude.{ℕ, List, take}
use Rattle.base.specs.declared.bounded.Bounded.{Bounded}

-- the values, in order
abbrev pub items : {T : Type 0} {N : ℕ} → Bounded T N → List T
items b = take b.len b.slots
