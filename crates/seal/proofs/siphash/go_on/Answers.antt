use Rattle.std.proofs.Common.{◌≡◌, ◌+◌, ◌-◌, ◌*◌, ◌/◌, ◌%◌, ◌^◌, ◌<◌, length, get_or, take, drop, [], sym, ap, ◌∙◌, arith}
use Rattle.seal.specs.Sip.{little, compress, absorb, finish, onward, last_word}
use Rattle.seal.proofs.Little.{below_bytes}
use Rattle.seal.proofs.Absorbing.{chunk, absorb_more}
use Rattle.seal.proofs.siphash.go_on.Goals as goal

pub overflow_add-last : goal.overflow_add-last
overflow_add-last c =
    let small = below_bytes c.tail.result _ 7 c.tail.ensures.small (omega (arith, c.as_chunks.ensures.back_len)) in omega arith

pub loop-bytes-preserved : goal.loop-bytes-preserved
loop-bytes-preserved c =
    let m = c.args.rest.now
    in let n = length m / 8
    in let i = c.loop-bytes.bytes-index
    in let s = c.loop-bytes.s
    in let more : i < n = omega (arith, c.as_chunks.ensures.front_len)
    in let word : c.word.result ≡ little (take 8 (drop (8 * i) m)) = c.word.ensures ∙ ap little (ap (λ w. get_or w i []) c.as_chunks.ensures.front ∙ chunk n i m more)
    in ap (λ t. absorb (n - (i + 1)) t (drop (8 * (i + 1)) m)) (c.take_in-s.ensures ∙ ap (compress s) word)
    ∙ sym (absorb_more n i s m more) ∙ c.loop-bytes.invariant

pub returns : goal.returns
unfolding onward
returns c =
    let m = c.args.rest.now
    in let n = length m / 8
    in let i = c.loop-bytes.bytes-index
    in let s = c.loop-bytes.s
    in let none : n - i ≡ 0 = omega (arith, c.as_chunks.ensures.front_len)
    in let all : s ≡ absorb n c.args.state m = sym (ap (λ k. absorb k s (drop (8 * i) m)) none) ∙ c.loop-bytes.invariant
    in let place : n * 8 ≡ 8 * n = omega arith
    in let last : c.tail.result + c.args.total % 256 * 2 ^ 56 ≡ last_word m c.args.total = ap (λ x. x + c.args.total % 256 * 2 ^ 56) (c.tail.ensures.said ∙ ap little (c.as_chunks.ensures.back ∙ ap (λ k. drop k m) place))
    in c.close.ensures ∙ ap finish c.take_in.ensures ∙ (λ j. finish (compress (all j) (last j)))
