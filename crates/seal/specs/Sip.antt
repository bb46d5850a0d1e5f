-- SipHash-2-4, as its authors published it: a keyed hash of any bytes to a word of 64 bits.
use Rattle.std.specs.Prelude.{ℕ, zero, suc, ◌+◌, ◌-◌, ◌*◌, ◌/◌, ◌%◌, ◌^◌, List, [], ◌∷◌, length, take, drop, bit_or, bit_xor}
use Rattle.seal.specs.declared.siphash.State.{State}

-- the number that bytes say, the least significant first
abbrev pub little : List ℕ → ℕ
little [] = 0
little (b ∷ bs) = b + 256 * little bs

-- words of 64 bits are added without the carry, and turned to the left
unfoldable pub add : ℕ → ℕ → ℕ
add a b = (a + b) % 2 ^ 64

unfoldable pub turn : ℕ → ℕ → ℕ
turn k x = bit_or (x * 2 ^ k % 2 ^ 64) (x / 2 ^ (64 - k))

-- one round over the four words
unfoldable pub sip_round : State → State
sip_round s =
    let a0 = add s.v0 s.v1
    in let a1 = bit_xor (turn 13 s.v1) a0
    in let a2 = add s.v2 s.v3
    in let a3 = bit_xor (turn 16 s.v3) a2
    in let b0 = add (turn 32 a0) a3
    in let b3 = bit_xor (turn 21 a3) b0
    in let b2 = add a2 a1
    in let b1 = bit_xor (turn 17 a1) b2
    in record { v0 = b0; v1 = b1; v2 = turn 32 b2; v3 = b3 }

-- the key's two words go into the state at the start
unfoldable pub start : List ℕ → State
start key =
    let k0 = little (take 8 key)
    in let k1 = little (take 8 (drop 8 key))
    in record {
      v0 = bit_xor k0 0x736f6d6570736575;
      v1 = bit_xor k1 0x646f72616e646f6d;
      v2 = bit_xor k0 0x6c7967656e657261;
      v3 = bit_xor k1 0x7465646279746573;
    }

-- one word of the message: two rounds
unfoldable pub compress : State → ℕ → State
compress s m =
    let t = sip_round (sip_round record { v0 = s.v0; v1 = s.v1; v2 = s.v2; v3 = bit_xor s.v3 m })
    in record { v0 = bit_xor t.v0 m; v1 = t.v1; v2 = t.v2; v3 = t.v3 }

-- so many words, of eight bytes each
abbrev pub absorb : ℕ → State → List ℕ → State
absorb zero s m = s
absorb (suc k) s m = absorb k (compress s (little (take 8 m))) (drop 8 m)

-- the end: four rounds
unfoldable pub finish : State → ℕ
finish s =
    let t = sip_round (sip_round (sip_round (sip_round record { v0 = s.v0; v1 = s.v1; v2 = bit_xor s.v2 0xff; v3 = s.v3 })))
    in bit_xor (bit_xor t.v0 t.v1) (bit_xor t.v2 t.v3)

-- the last word: the bytes that fill no word, and the message's length as its highest byte
abbrev pub last_word : List ℕ → ℕ → ℕ
last_word m n = little (drop (8 * (length m / 8)) m) + n % 256 * 2 ^ 56

-- the bytes m that are still to come, of a message of n bytes
unfoldable pub onward : State → List ℕ → ℕ → ℕ
onward s m n = finish (compress (absorb (length m / 8) s m) (last_word m n))

-- the hash of a message under a key of 16 bytes
abbrev pub sip : List ℕ → List ℕ → ℕ
sip key m = onward (start key) m (length m)
