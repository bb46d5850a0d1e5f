use Rattle.std.proofs.Common.{◌≡◌, ◌∙◌, ◌+◌, length, drop, ap, refl, replicate, arith}
use Rattle.seal.specs.Sip.{little}
use Rattle.seal.proofs.Little.{little_padded, little_drop, little_small}
use Rattle.seal.proofs.siphash.tail.Goals as goal

pub returns : goal.returns
returns c =
    let bs = c.args.bytes.now
    in let said : c.word.result ≡ little bs
    = c.word.ensures ∙ ap little (c.put.ensures.written (omega arith)) ∙ little_padded bs (drop (0 + length bs) (replicate 8 0)) (little_drop (0 + length bs) (replicate 8 0) refl)
    in record { said = said; small = rw said (little_small bs (λ i. omega (arith, c.type_inv.bytes i))) }
