use Rattle.std.proofs.Common.{◌≡◌, suc, ◌+◌, ◌*◌, ◌%◌, ◌^◌, ◌∷◌, length, take, drop, sym, ap, ◌∙◌, add-one, arith}
use Rattle.std.proofs.lemmas.Slice.{between_to_end}
use Rattle.seal.specs.Sip.{little, compress, finish, onward}
use Rattle.seal.proofs.Absorbing.{onward_word, onward_short}
use Rattle.seal.proofs.Little.{eight, below_bytes}
use Rattle.seal.proofs.siphash.go_on_after.Goals as goal

pub overflow_mul-last : goal.overflow_mul-last
overflow_mul-last c =
    let small = below_bytes c.tail.result _ 6 c.tail.ensures.small (omega arith) in omega arith

pub overflow_add-last : goal.overflow_add-last
overflow_add-last c =
    let small = below_bytes c.tail.result _ 6 c.tail.ensures.small (omega arith) in omega arith

pub overflow_add-last-then-rest-lt7 : goal.overflow_add-last-then-rest-lt7
overflow_add-last-then-rest-lt7 c =
    let small = below_bytes c.tail.result _ 6 c.tail.ensures.small (omega arith) in omega arith

pub returns : goal.returns
returns c =
    let f = c.args.first
    in let r = c.args.rest.now
    in let s = c.args.state
    in let word : c.from_le_bytes-word.result ≡ little (f ∷ take 7 r) = c.from_le_bytes-word.ensures ∙ sym (eight (f ∷ r) 0 (omega arith))
    in let state : c.take_in-2.result ≡ compress s (little (f ∷ take 7 r)) = c.take_in-2.ensures ∙ ap (compress s) word
    in let rest : take _ (drop 7 r) ≡ drop 7 r = between_to_end r 7 (length r) (omega arith)
    in c.go_on.ensures ∙ (λ i. onward (state i) (rest i) (add-one (length r) i)) ∙ sym (onward_word s f r (suc (length r)) (omega arith))

pub returns-then-rest-lt7 : goal.returns-then-rest-lt7
returns-then-rest-lt7 c =
    let f = c.args.first
    in let r = c.args.rest.now
    in let s = c.args.state
    in let n = length r + 1
    in let last : c.tail.result * 256 + f + n * 2 ^ 56 ≡ f + 256 * little r + suc (length r) % 256 * 2 ^ 56 = omega (arith, c.tail.ensures.said)
    in c.close.ensures ∙ ap finish (c.take_in.ensures ∙ ap (compress s) last)
    ∙ sym (onward_short s f r (suc (length r)) (omega arith))
