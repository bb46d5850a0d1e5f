-- A message taken in word by word.
use Rattle.std.proofs.Common.{◌≡◌, ℕ, zero, suc, ◌+◌, ◌-◌, ◌*◌, ◌/◌, ◌%◌, ◌^◌, ◌<◌, ◌≤◌, List, [], ◌∷◌, length, get_or, refl, take, drop, sym, ap, ◌∙◌, arith, length-drop}
use Rattle.std.proofs.lemmas.List.{drop-drop}
use Rattle.std.specs.Simd.{first_chunks}
use Rattle.seal.specs.Sip.{little, compress, absorb, finish, onward}
use Rattle.seal.specs.declared.siphash.State.{State}

-- the words, as chunks of eight bytes
pub chunk : (n i : ℕ) (m : List ℕ) → i < n → get_or (first_chunks 8 n m) i [] ≡ take 8 (drop (8 * i) m)
chunk zero i m h = absurd (omega arith)
chunk (suc n) zero m h = refl
chunk (suc n) (suc i) m h =
    let next : 8 + 8 * i ≡ 8 * suc i = omega arith
    in chunk n i (drop 8 m) (omega arith) ∙ ap (take 8) (drop-drop (8 * i) 8 m ∙ ap (λ k. drop k m) next)

-- one word of n
pub absorb_more : (n i : ℕ) (s : State) (m : List ℕ) → i < n
    → absorb (n - i) s (drop (8 * i) m) ≡ absorb (n - (i + 1)) (compress s (little (take 8 (drop (8 * i) m)))) (drop (8 * (i + 1)) m)
absorb_more n i s m h =
    let more : n - i ≡ suc (n - (i + 1)) = omega arith
    in let next : 8 * i + 8 ≡ 8 * (i + 1) = omega arith
    in ap (λ k. absorb k s (drop (8 * i) m)) more
    ∙ ap (absorb (n - (i + 1)) (compress s (little (take 8 (drop (8 * i) m))))) (drop-drop 8 (8 * i) m ∙ ap (λ k. drop k m) next)

-- a first byte and seven more make a word
pub onward_word : (s : State) (f : ℕ) (r : List ℕ) (n : ℕ) → 7 ≤ length r → onward s (f ∷ r) n ≡ onward (compress s (little (f ∷ take 7 r))) (drop 7 r) n
unfolding onward
onward_word s f r n h =
    let k = length (drop 7 r) / 8
    in let more : suc (length r) / 8 ≡ suc k = omega (arith, length-drop 7 r)
    in let place : 8 * suc k ≡ 8 + 8 * k = omega arith
    in let rest : drop (8 * suc k) (f ∷ r) ≡ drop (8 * k) (drop 7 r) = ap (λ j. drop j (f ∷ r)) place ∙ sym (drop-drop (8 * k) 8 (f ∷ r))
    in ap (λ j. finish (compress (absorb j s (f ∷ r)) (little (drop (8 * j) (f ∷ r)) + n % 256 * 2 ^ 56))) more
    ∙ ap (λ d. finish (compress (absorb (suc k) s (f ∷ r)) (little d + n % 256 * 2 ^ 56))) rest

-- a first byte and fewer than seven more are the last word
pub onward_short : (s : State) (f : ℕ) (r : List ℕ) (n : ℕ) → length r < 7 → onward s (f ∷ r) n ≡ finish (compress s (f + 256 * little r + n % 256 * 2 ^ 56))
unfolding onward
onward_short s f r n h =
    let none : suc (length r) / 8 ≡ 0 = omega arith
    in ap (λ j. finish (compress (absorb j s (f ∷ r)) (little (drop (8 * j) (f ∷ r)) + n % 256 * 2 ^ 56))) none
