use Rattle.std.proofs.Common.{◌≡◌, ◌/◌, length, get_or, take, drop, [], ap, ◌∙◌, arith, rules}
use Rattle.seal.specs.Sip.{little, start}
use Rattle.seal.proofs.Absorbing.{chunk}
use Rattle.seal.proofs.siphash.begin.Goals as goal

pub returns : goal.returns
unfolding start
returns c =
    let key = c.args.key.now
    in let long : length key ≡ 16 = search rules
    in let w0 : c.word-k0.result ≡ little (take 8 key) = c.word-k0.ensures ∙ ap little (ap (λ w. get_or w 0 []) c.as_chunks.ensures.front ∙ chunk (length key / 8) 0 key (omega arith))
    in let w1 : c.word-k1.result ≡ little (take 8 (drop 8 key)) = c.word-k1.ensures ∙ ap little (ap (λ w. get_or w 1 []) c.as_chunks.ensures.front ∙ chunk (length key / 8) 1 key (omega arith))
    in cc
