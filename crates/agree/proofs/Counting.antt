-- Counting the numbers below n that pass a test. Assumes nothing.
use Rattle.std.proofs.Common.{◌≡◌, ℕ, zero, suc, ◌+◌, ◌<◌, ◌≤◌, Bool, true, false, cond, not, ◌&&◌, ◌||◌, eqb, ◌≢◌, List, [], ◌∷◌, length, sym, refl, ap, ◌∙◌, subst, inl, inr, arith}
use Rattle.std.specs.List.{AllByRecursion as All}
use Rattle.std.proofs.ByRecursion.{All-weaker}
use Rattle.std.proofs.lemmas.Bool.{eqb-true, ne_eqb, eq-eqb, cases_eq, both_ways, or_cases, cases_Bool}
use Rattle.agree.specs.Lists.{Distinct, count}

-- one number's share of a count
abbrev share : Bool → ℕ
share b = cond b 1 0

both_one : (a b : Bool) → cond a 1 0 + cond b 1 0 ≤ cond (a && b) 1 0 + 1
both_one true true = omega arith
both_one true false = omega arith
both_one false true = omega arith
both_one false false = omega arith

pub count_both : (p q : ℕ → Bool) (n : ℕ) → count p n + count q n ≤ count (λ i. p i && q i) n + n
count_both p q zero = omega arith
count_both p q (suc n) = omega (arith, count_both p q n, both_one (p n) (q n))

not_one : (a : Bool) → cond a 1 0 + cond (not a) 1 0 ≡ 1
not_one true = refl
not_one false = refl

pub count_not : (p : ℕ → Bool) (n : ℕ) → count p n + count (λ i. not (p i)) n ≡ n
count_not p zero = refl
count_not p (suc n) = omega (arith, count_not p n, not_one (p n))

-- where some are counted, there is one
pub count_some : (p : ℕ → Bool) (n : ℕ) → 0 < count p n → (i : ℕ) × (i < n) × (p i ≡ true)
count_some p zero h = absurd (omega arith)
count_some p (suc n) h =
    elim (cases_Bool (p n)) [
      | inl e ↦ (n, omega arith, e)
      | inr e ↦
          let z : share (p n) ≡ 0 = ap share e in
          let r : (i : ℕ) × (i < n) × (p i ≡ true) = count_some p n (omega arith) in
          (r.0, omega (arith, r.1), r.2)
    ]

count_same : (p q : ℕ → Bool) (n : ℕ) → ((i : ℕ) → i < n → p i ≡ q i) → count p n ≡ count q n
count_same p q zero h = refl
count_same p q (suc n) h =
    omega (arith, count_same p q n (λ i l. h i (omega arith)), ap share (h n (omega arith)))

-- one more number that passes
count_more : (p : ℕ → Bool) (m n : ℕ) → m < n → p m ≡ false → count (λ i. eqb m i || p i) n ≡ suc (count p n)
count_more p m zero l e = absurd (omega arith)
count_more p m (suc n) l e =
    elim (cases_eq m n) [
      | inl s ↦
          let rest : count (λ i. eqb m i || p i) n ≡ count p n = count_same (λ i. eqb m i || p i) p n (λ i k. ap (λ b. b || p i) (ne_eqb m i (λ z. omega arith))) in
          let here : share (eqb m n || p n) ≡ 1 = ap (λ b. share (b || p n)) (eq-eqb m n s) in
          let there : share (p n) ≡ 0 = ap share (subst (λ k. p k ≡ false) s e) in
          omega arith
      | inr s ↦
          let rest : count (λ i. eqb m i || p i) n ≡ suc (count p n) = count_more p m n (omega arith) e in
          let here : share (eqb m n || p n) ≡ share (p n) = ap (λ b. share (b || p n)) (ne_eqb m n s) in
          omega arith
    ]

-- the test "is in this list"
abbrev pub mem : List ℕ → ℕ → Bool
mem [] i = false
mem (m ∷ ms) i = eqb m i || mem ms i

pub mem_all : (Q : ℕ → Type 0) (ms : List ℕ) (i : ℕ) → All Q ms → mem ms i ≡ true → Q i
mem_all Q [] i a e = absurd (both_ways false refl e)
mem_all Q (m ∷ ms) i a e =
    elim (or_cases (eqb m i) (mem ms i) e) [
      | inl s ↦ subst Q (eqb-true m i s) a.0
      | inr s ↦ mem_all Q ms i a.1 s
    ]

not_mem : (x : ℕ) (ms : List ℕ) → All (λ y. x ≢ y) ms → mem ms x ≡ false
not_mem x [] a = refl
not_mem x (m ∷ ms) a = ap (λ b. b || mem ms x) (ne_eqb m x (λ e. a.0 (sym e))) ∙ not_mem x ms a.1

-- different numbers below n are counted each
pub count_mem : (ms : List ℕ) (n : ℕ) → Distinct ms → All (λ i. i < n) ms → length ms ≤ count (mem ms) n
count_mem [] n d a = omega arith
count_mem (m ∷ ms) n d a =
    omega (arith, count_more (mem ms) m n a.0 (not_mem m ms d.0), count_mem ms n d.1 a.1)

-- the numbers below n that pass, as a list
abbrev pub listed : (ℕ → Bool) → ℕ → List ℕ
listed p zero = []
listed p (suc n) = cond (p n) (n ∷ listed p n) (listed p n)

-- a fact of both ways of a `cond` of lists
either_list : (P : List ℕ → Type 0) (b : Bool) (xs ys : List ℕ) → (b ≡ true → P xs) → (b ≡ false → P ys) → P (cond b xs ys)
either_list P true xs ys f g = f refl
either_list P false xs ys f g = g refl

one_listed : (p : ℕ → Bool) (n : ℕ) (b : Bool) → length (listed p n) ≡ count p n → length (cond b (n ∷ listed p n) (listed p n)) ≡ share b + count p n
one_listed p n true h = omega arith
one_listed p n false h = omega arith

pub listed_length : (p : ℕ → Bool) (n : ℕ) → length (listed p n) ≡ count p n
listed_length p zero = refl
listed_length p (suc n) = one_listed p n (p n) (listed_length p n)

pub listed_all : (p : ℕ → Bool) (n : ℕ) → All (λ i. (i < n) × (p i ≡ true)) (listed p n)
listed_all p zero = tt
listed_all p (suc n) =
    let Q : ℕ → Type 0 = λ i. (i < suc n) × (p i ≡ true) in
    let rest : All Q (listed p n) = All-weaker (λ i. (i < n) × (p i ≡ true)) Q (λ i h. (omega arith, h.1)) (listed p n) (listed_all p n) in
    either_list (All Q) (p n) (n ∷ listed p n) (listed p n) (λ e. ((omega arith, e), rest)) (λ e. rest)

pub listed_distinct : (p : ℕ → Bool) (n : ℕ) → Distinct (listed p n)
listed_distinct p zero = tt
listed_distinct p (suc n) =
    let apart : All (λ y. n ≢ y) (listed p n) = All-weaker (λ i. (i < n) × (p i ≡ true)) (λ y. n ≢ y) (λ i h e. omega arith) (listed p n) (listed_all p n) in
    either_list Distinct (p n) (n ∷ listed p n) (listed p n) (λ e. (apart, listed_distinct p n)) (λ e. listed_distinct p n)
