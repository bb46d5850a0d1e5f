-- Sealing into a buffer with room enough.
use Rattle.std.proofs.Common.{ℕ, ◌≤◌, List, length, arith}
use Rattle.base.specs.declared.refusals.Refusal.{Refusal}
use Rattle.std.proofs.lemmas.Bool.Decides.{nat_tests}
use Rattle.seal.specs.Meaning.{Meaning, Unmade, Unstated}

pub unstated : (before after : Meaning) (out written : List ℕ) (why : Refusal) → before.long ≤ length out → Unmade before out why after written → Unstated before why after
unstated before after out written why room h =
    let e = h.because
    in record { none = grind (arith, nat_tests); because = grind (arith, nat_tests); unworn = h.unworn }
