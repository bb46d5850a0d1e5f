-- Numbers from bytes, the least significant first.
use Rattle.std.proofs.Common.{◌≡◌, ℕ, zero, suc, ◌+◌, ◌*◌, ◌^◌, ◌<◌, ◌≤◌, List, [], ◌∷◌, ◌++◌, length, get_or, take, drop, sym, refl, ap, ◌∙◌, add-one, arith, drop-cons, pow_mono}
use Rattle.std.proofs.lemmas.Nat.{pow-add}
use Rattle.std.proofs.lemmas.List.{take_all}
use Rattle.std.specs.Int.{w64, from_le_bytes}
use Rattle.seal.specs.Sip.{little}

-- the front of what stands from a place on
front : (bs : List ℕ) (i j k : ℕ) → j ≡ i + 1 → i < length bs → take (suc k) (drop i bs) ≡ get_or bs i 0 ∷ take k (drop j bs)
front bs i j k is h = ap (take (suc k)) (drop-cons bs i 0 h) ∙ ap (λ d. get_or bs i 0 ∷ take k (drop d bs)) (sym (add-one i) ∙ sym is)

-- eight bytes, each with its weight
pub eight : (bs : List ℕ) (i : ℕ) → i + 8 ≤ length bs
    → little (take 8 (drop i bs)) ≡ get_or bs i 0 + get_or bs (i + 1) 0 * 256 + get_or bs (i + 2) 0 * 65536 + get_or bs (i + 3) 0 * 16777216 + get_or bs (i + 4) 0 * 4294967296 + get_or bs (i + 5) 0 * 1099511627776 + get_or bs (i + 6) 0 * 281474976710656 + get_or bs (i + 7) 0 * 72057594037927936
eight bs i h =
    let e0 : take 8 (drop i bs) ≡ get_or bs i 0 ∷ take 7 (drop (i + 1) bs) = front bs i (i + 1) 7 refl (omega arith)
    in let e1 : take 7 (drop (i + 1) bs) ≡ get_or bs (i + 1) 0 ∷ take 6 (drop (i + 2) bs) = front bs (i + 1) (i + 2) 6 (omega arith) (omega arith)
    in let e2 : take 6 (drop (i + 2) bs) ≡ get_or bs (i + 2) 0 ∷ take 5 (drop (i + 3) bs) = front bs (i + 2) (i + 3) 5 (omega arith) (omega arith)
    in let e3 : take 5 (drop (i + 3) bs) ≡ get_or bs (i + 3) 0 ∷ take 4 (drop (i + 4) bs) = front bs (i + 3) (i + 4) 4 (omega arith) (omega arith)
    in let e4 : take 4 (drop (i + 4) bs) ≡ get_or bs (i + 4) 0 ∷ take 3 (drop (i + 5) bs) = front bs (i + 4) (i + 5) 3 (omega arith) (omega arith)
    in let e5 : take 3 (drop (i + 5) bs) ≡ get_or bs (i + 5) 0 ∷ take 2 (drop (i + 6) bs) = front bs (i + 5) (i + 6) 2 (omega arith) (omega arith)
    in let e6 : take 2 (drop (i + 6) bs) ≡ get_or bs (i + 6) 0 ∷ take 1 (drop (i + 7) bs) = front bs (i + 6) (i + 7) 1 (omega arith) (omega arith)
    in let e7 : take 1 (drop (i + 7) bs) ≡ get_or bs (i + 7) 0 ∷ [] = front bs (i + 7) (i + 8) 0 (omega arith) (omega arith)
    in omega (arith, ap little e0, ap little e1, ap little e2, ap little e3, ap little e4, ap little e5, ap little e6, ap little e7)

-- eight bytes, all of them
pub eight_all : (bs : List ℕ) → length bs ≡ 8 → little bs ≡ from_le_bytes w64 bs
eight_all bs long = sym (ap little (take_all 8 bs (omega arith))) ∙ eight bs 0 (omega arith)

-- zeros behind say nothing
pub little_padded : (bs zs : List ℕ) → little zs ≡ 0 → little (bs ++ zs) ≡ little bs
little_padded [] zs none = none
little_padded (b ∷ bs) zs none = ap (λ x. b + 256 * x) (little_padded bs zs none)

pub little_drop : (k : ℕ) (zs : List ℕ) → little zs ≡ 0 → little (drop k zs) ≡ 0
little_drop zero zs none = none
little_drop (suc k) [] none = refl
little_drop (suc k) (z ∷ zs) none = little_drop k zs (omega arith)

below_more : (b x k : ℕ) → b < 256 → x < 2 ^ (8 * k) → b + 256 * x < 2 ^ (8 * suc k)
below_more b x k small h =
    let is : 8 * suc k ≡ 8 * k + 8 = omega arith
    in let e : 2 ^ (8 * suc k) ≡ 2 ^ (8 * k) * 256 = ap (λ n. 2 ^ n) is ∙ pow-add 2 (8 * k) 8
    in omega (arith, e)

-- how large it can be
pub little_small : (bs : List ℕ) → ((i : ℕ) → get_or bs i 0 < 256) → little bs < 2 ^ (8 * length bs)
little_small [] small = omega arith
little_small (b ∷ bs) small = below_more b (little bs) (length bs) (small 0) (little_small bs (λ i. small (suc i)))

pub below_bytes : (x k m : ℕ) → x < 2 ^ (8 * k) → k ≤ m → x < 2 ^ (8 * m)
below_bytes x k m h few =
    let le : 8 * k ≤ 8 * m = omega arith
    in let wide : 2 ^ (8 * k) ≤ 2 ^ (8 * m) = pow_mono le
    in omega (arith, wide)
