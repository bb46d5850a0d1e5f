-- Bytes read back: numbers and slips from the bytes that are written of them, and those bytes from the numbers and slips.
use Rattle.std.proofs.Common.{◌≡◌, ℕ, zero, suc, ◌+◌, ◌*◌, ◌/◌, ◌%◌, ◌^◌, ◌<◌, ◌≤◌, Bool, true, false, cond, not, ◌&&◌, eqb, List, [], ◌∷◌, ◌++◌, length, get_or, take, drop, Some, None, Option, sym, refl, ap, ◌∙◌, subst, arith}
use Rattle.std.proofs.lemmas.List.{append-nil, take_at, drop_at, drop-drop, drop_more, drop_all, take-append-drop, length-take-le, length-drop, get_or-drop}
use Rattle.std.proofs.lemmas.Bool.{and_from, and_parts, eq-eqb, eqb-true, not-true, not_from_false}
use Rattle.base.specs.Numbers.{be2, be4, four, all_zero, Bytes}
use Rattle.base.specs.Slips.{slip_bytes, slip_from, slip_of, SlipFits}
use Rattle.base.specs.Statements.{PageFits}
use Rattle.base.specs.declared.slips.Slip.{Slip}
use Rattle.base.proofs.Distinct.{slip_long}

-- what a test lets through, it lets through because it holds
pub passed : {X : Type 0} (b : Bool) (o : Option X) (x : X) → cond b o None ≡ Some x → (b ≡ true) × (o ≡ Some x)
passed true o x is = (refl, is)
passed false o x is = absurd (let z : ◌≡◌ {A = ℕ} 0 1 = cc in omega arith)

pub some_one : {X : Type 0} (x y : X) → Some x ≡ Some y → x ≡ y
some_one x y is = cc

-- every place of bytes holds a byte, and past their end stands 0
pub byte : (m : List ℕ) (i : ℕ) → Bytes m → get_or m i 0 < 256
byte [] i h = omega arith
byte (b ∷ bs) zero h = h.0
byte (b ∷ bs) (suc i) h = byte bs i h.1

-- what stands at a place, from what stands from an earlier place on
pub read : (m : List ℕ) (i j k : ℕ) (x : List ℕ) → drop i m ≡ x → k ≡ i + j → get_or m k 0 ≡ get_or x j 0
read m i j k x is at = ap (λ z. get_or m z 0) at ∙ sym (get_or-drop i m j 0) ∙ ap (λ z. get_or z j 0) is

-- four bytes and what follows them
pub more_four : (m : List ℕ) (i : ℕ) → i + 4 ≤ length m → drop i m ≡ get_or m i 0 ∷ get_or m (i + 1) 0 ∷ get_or m (i + 2) 0 ∷ get_or m (i + 3) 0 ∷ drop (i + 4) m
more_four m i h =
    let step : (j k : ℕ) → j + 1 ≡ k → j < length m → drop j m ≡ get_or m j 0 ∷ drop k m
    = λ j k next in'. drop_more m j 0 in' ∙ ap (λ z. get_or m j 0 ∷ drop z m) next
    in step i (i + 1) refl (omega arith)
    ∙ ap (λ z. get_or m i 0 ∷ z) (step (i + 1) (i + 2) (omega arith) (omega arith))
    ∙ ap (λ z. get_or m i 0 ∷ get_or m (i + 1) 0 ∷ z) (step (i + 2) (i + 3) (omega arith) (omega arith))
    ∙ ap (λ z. get_or m i 0 ∷ get_or m (i + 1) 0 ∷ get_or m (i + 2) 0 ∷ z) (step (i + 3) (i + 4) (omega arith) (omega arith))

-- the two bytes of a number say it
pub two_back : (n : ℕ) → n < 65536 → n / 256 % 256 * 256 + n % 256 ≡ n
two_back n h = omega arith

-- the number that two bytes say has these bytes
pub be2_back : (a b : ℕ) → a < 256 → b < 256 → be2 (a * 256 + b) ≡ a ∷ b ∷ []
be2_back a b ha hb =
    let p : (a * 256 + b) / 256 % 256 ≡ a = omega arith
    in let q : (a * 256 + b) % 256 ≡ b = omega arith
    in λ i. p i ∷ q i ∷ []

-- the four bytes of a number say it
digits : (n : ℕ) → n < 2 ^ 32 → n / 16777216 % 256 * 16777216 + n / 65536 % 256 * 65536 + n / 256 % 256 * 256 + n % 256 ≡ n
digits n h =
    let p : n / 65536 ≡ n / 256 / 256 = omega arith
    in let q : n / 16777216 ≡ n / 65536 / 256 = omega arith
    in let top : n / 16777216 < 256 = omega arith
    in let a : n / 16777216 % 256 ≡ n / 16777216 = omega arith
    in let b : n / 16777216 * 256 + n / 65536 % 256 ≡ n / 65536 = omega arith
    in let c : n / 65536 * 256 + n / 256 % 256 ≡ n / 256 = omega arith
    in let d : n / 256 * 256 + n % 256 ≡ n = omega arith
    in omega (arith, a, b, c, d)

-- a number stands where its four bytes stand
pub four_back : (m : List ℕ) (i n : ℕ) (x : List ℕ) → drop i m ≡ be4 n ++ x → n < 2 ^ 32 → four m i ≡ n
four_back m i n x is h =
    let a : get_or m i 0 ≡ n / 16777216 % 256 = read m i 0 i (be4 n ++ x) is (omega arith)
    in let b : get_or m (i + 1) 0 ≡ n / 65536 % 256 = read m i 1 (i + 1) (be4 n ++ x) is refl
    in let c : get_or m (i + 2) 0 ≡ n / 256 % 256 = read m i 2 (i + 2) (be4 n ++ x) is refl
    in let d : get_or m (i + 3) 0 ≡ n % 256 = read m i 3 (i + 3) (be4 n ++ x) is refl
    in (λ t. a t * 16777216 + b t * 65536 + c t * 256 + d t) ∙ digits n h

-- the number that four bytes say has these bytes
pub be4_back : (a b c d : ℕ) → a < 256 → b < 256 → c < 256 → d < 256 → be4 (a * 16777216 + b * 65536 + c * 256 + d) ≡ a ∷ b ∷ c ∷ d ∷ []
be4_back a b c d ha hb hc hd =
    let n = a * 16777216 + b * 65536 + c * 256 + d
    in let p : n / 16777216 % 256 ≡ a = omega arith
    in let q : n / 65536 % 256 ≡ b = omega arith
    in let r : n / 256 % 256 ≡ c = omega arith
    in let s : n % 256 ≡ d = omega arith
    in λ i. p i ∷ q i ∷ r i ∷ s i ∷ []

pub be4_four : (m : List ℕ) (i : ℕ) → Bytes m → be4 (four m i) ≡ get_or m i 0 ∷ get_or m (i + 1) 0 ∷ get_or m (i + 2) 0 ∷ get_or m (i + 3) 0 ∷ []
be4_four m i h = be4_back _ _ _ _ (byte m i h) (byte m (i + 1) h) (byte m (i + 2) h) (byte m (i + 3) h)

pub four_small : (m : List ℕ) (i : ℕ) → Bytes m → four m i < 2 ^ 32
four_small m i h =
    let a = byte m i h
    in let b = byte m (i + 1) h
    in let c = byte m (i + 2) h
    in let d = byte m (i + 3) h
    in omega arith

-- the bytes of a slip say it
from_back : (s : Slip) → SlipFits s → slip_from (slip_bytes s) ≡ s
from_back s f =
    let b : List ℕ = slip_bytes s
    in let n : List ℕ = be4 s.lots ++ be4 s.maker
    in let past-parent : drop 32 b ≡ s.own.0 ++ n = drop_at s.parent.0 _ 32 f.parent_fits
    in let past-own : drop 64 b ≡ n = sym (drop-drop 32 32 b) ∙ ap (drop 32) past-parent ∙ drop_at s.own.0 n 32 f.own_fits
    in let past-lots : drop 68 b ≡ be4 s.maker = sym (drop-drop 4 64 b) ∙ ap (drop 4) past-own
    in let p : take 32 b ≡ s.parent.0 = take_at s.parent.0 _ 32 f.parent_fits
    in let o : take 32 (drop 32 b) ≡ s.own.0 = ap (take 32) past-parent ∙ take_at s.own.0 n 32 f.own_fits
    in let l : four b 64 ≡ s.lots = four_back b 64 s.lots (be4 s.maker) past-own f.lots_fits
    in let m : four b 68 ≡ s.maker = four_back b 68 s.maker [] (past-lots ∙ sym (append-nil (be4 s.maker))) f.maker_fits
    in λ i. record { parent = record { 0 = p i }; own = record { 0 = o i }; lots = l i; maker = m i }

pub slip_back : (s : Slip) → PageFits (Some s) → slip_of (slip_bytes s) ≡ Some s
slip_back s f =
    let b : List ℕ = slip_bytes s
    in let test : (eqb (length b) 72 && not (all_zero b)) ≡ true = and_from _ _ (eq-eqb _ _ (slip_long s f.0)) (not_from_false _ f.1)
    in ap (λ t. cond t (Some (slip_from b)) None) test ∙ ap Some (from_back s f.0)

-- the slip that 72 bytes say has these bytes
module _ (b : List ℕ) (bytes : Bytes b) (long : length b ≡ 72) where
  back_from : slip_bytes (slip_from b) ≡ b
  back_from =
      let maker : be4 (four b 68) ≡ drop 68 b
      = be4_four b 68 bytes ∙ sym (more_four b 68 (omega arith) ∙ ap (λ z. get_or b 68 0 ∷ get_or b 69 0 ∷ get_or b 70 0 ∷ get_or b 71 0 ∷ z) (drop_all 72 b (omega arith)))
      in let lots : be4 (four b 64) ++ drop 68 b ≡ drop 64 b = ap (λ z. z ++ drop 68 b) (be4_four b 64 bytes) ∙ sym (more_four b 64 (omega arith))
      in ap (λ z. take 32 b ++ (take 32 (drop 32 b) ++ (be4 (four b 64) ++ z))) maker
      ∙ ap (λ z. take 32 b ++ (take 32 (drop 32 b) ++ z)) (lots ∙ sym (drop-drop 32 32 b))
      ∙ ap (λ z. take 32 b ++ z) (take-append-drop 32 (drop 32 b))
      ∙ take-append-drop 32 b

  fits_from : SlipFits (slip_from b)
  fits_from =
      record {
        parent_fits = length-take-le 32 b (omega arith);
        own_fits = length-take-le 32 (drop 32 b) (simp length-drop (omega arith));
        lots_fits = four_small b 64 bytes;
        maker_fits = four_small b 68 bytes;
      }

pub slip_only : (b : List ℕ) (s : Slip) → Bytes b → slip_of b ≡ Some s → (slip_bytes s ≡ b) × PageFits (Some s)
slip_only b s bytes is =
    let p = passed _ _ _ is
    in let t = and_parts (eqb (length b) 72) (not (all_zero b)) p.0
    in let long : length b ≡ 72 = eqb-true _ _ t.0
    in let same : slip_from b ≡ s = some_one _ _ p.1
    in let back = back_from b bytes long
    in let P : Slip → Type 0 = λ x. (slip_bytes x ≡ b) × PageFits (Some x)
    in subst P same (back, (fits_from b bytes long, ap all_zero back ∙ not-true _ t.1))
