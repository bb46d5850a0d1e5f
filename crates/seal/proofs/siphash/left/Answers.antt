use Rattle.std.proofs.Common.{◌≡◌, ◌-◌, ◌*◌, ◌/◌, ◌%◌, ◌^◌, ◌∙◌, arith}
use lib.Bits.{bit_or}
use Rattle.seal.specs.Sip.{turn}
use Rattle.seal.proofs.siphash.left.Goals as goal

pub returns : goal.returns
unfolding turn
returns c =
    let x = c.args.x
    in let k = c.args.k
    in let e : k % 64 ≡ k = omega arith
    in let f : (64 - k % 64) % 64 ≡ 64 - k = omega arith
    in c.rotate_left.ensures ∙ (λ i. bit_or ((x * 2 ^ e i) % 2 ^ 64) (x / 2 ^ f i))
