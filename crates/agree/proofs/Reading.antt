-- Certificates of the witness run, found by reading its log. Assumes nothing.
use Rattle.std.proofs.Common.{◌≡◌, ℕ, zero, suc, ◌≤◌, Bool, true, false, not, ◌&&◌, ◌||◌, eqb, List, [], ◌∷◌, Some, None, refl, inl, inr, lit≤}
use Rattle.std.proofs.lemmas.Bool.{both_ways, or_cases, and_parts, eqb-true, not-true}
use Rattle.agree.specs.Lists.{In, count}
use Rattle.agree.specs.Pool.{Few, Pool, Event, Event.opened, Event.stated, Event.took, Event.committed, Event.entered, Certified, Decided}
use Rattle.agree.specs.Witness.{sound, four}
use Rattle.agree.proofs.Quorums.{several}

pub few_faulty : Few 1 sound
few_faulty = lit≤ tt

abbrev pub witness_pool : Pool ℕ ℕ
witness_pool = four few_faulty

abbrev pub Log : Type 0
Log = List (Event ℕ ℕ)

-- tests for one event
abbrev pub is_stated : ℕ → ℕ → ℕ → ℕ → Event ℕ ℕ → Bool
is_stated i h r p (opened j k m) = false
is_stated i h r p (stated j k s (Some q)) = eqb i j && (eqb h k && (eqb r s && eqb p q))
is_stated i h r p (stated j k s None) = false
is_stated i h r p (took j k s q) = false
is_stated i h r p (committed j k s q) = false
is_stated i h r p (entered j k q) = false

abbrev pub is_committed : ℕ → ℕ → ℕ → ℕ → Event ℕ ℕ → Bool
is_committed i h r p (opened j k m) = false
is_committed i h r p (stated j k s c) = false
is_committed i h r p (took j k s q) = false
is_committed i h r p (committed j k s q) = eqb i j && (eqb h k && (eqb r s && eqb p q))
is_committed i h r p (entered j k q) = false

four_parts : (i j h k r s p q : ℕ) → (eqb i j && (eqb h k && (eqb r s && eqb p q))) ≡ true → (i ≡ j) × (h ≡ k) × (r ≡ s) × (p ≡ q)
four_parts i j h k r s p q e =
    let a : (eqb i j ≡ true) × ((eqb h k && (eqb r s && eqb p q)) ≡ true) = and_parts (eqb i j) (eqb h k && (eqb r s && eqb p q)) e in
    let b : (eqb h k ≡ true) × ((eqb r s && eqb p q) ≡ true) = and_parts (eqb h k) (eqb r s && eqb p q) a.1 in
    let c : (eqb r s ≡ true) × (eqb p q ≡ true) = and_parts (eqb r s) (eqb p q) b.1 in
    (eqb-true i j a.0, eqb-true h k b.0, eqb-true r s c.0, eqb-true p q c.1)

stated_is : (i h r p : ℕ) (e : Event ℕ ℕ) → is_stated i h r p e ≡ true → stated i h r (Some p) ≡ e
stated_is i h r p (opened j k m) t = absurd (both_ways false refl t)
stated_is i h r p (stated j k s (Some q)) t = let x : (i ≡ j) × (h ≡ k) × (r ≡ s) × (p ≡ q) = four_parts i j h k r s p q t in cc
stated_is i h r p (stated j k s None) t = absurd (both_ways false refl t)
stated_is i h r p (took j k s q) t = absurd (both_ways false refl t)
stated_is i h r p (committed j k s q) t = absurd (both_ways false refl t)
stated_is i h r p (entered j k q) t = absurd (both_ways false refl t)

committed_is : (i h r p : ℕ) (e : Event ℕ ℕ) → is_committed i h r p e ≡ true → committed i h r p ≡ e
committed_is i h r p (opened j k m) t = absurd (both_ways false refl t)
committed_is i h r p (stated j k s c) t = absurd (both_ways false refl t)
committed_is i h r p (took j k s q) t = absurd (both_ways false refl t)
committed_is i h r p (committed j k s q) t = let x : (i ≡ j) × (h ≡ k) × (r ≡ s) × (p ≡ q) = four_parts i j h k r s p q t in cc
committed_is i h r p (entered j k q) t = absurd (both_ways false refl t)

-- a test for some event of the log
abbrev pub some : (Event ℕ ℕ → Bool) → Log → Bool
some f [] = false
some f (e ∷ log) = f e || some f log

some_in : (f : Event ℕ ℕ → Bool) (x : Event ℕ ℕ) → ((e : Event ℕ ℕ) → f e ≡ true → x ≡ e) → (log : Log) → some f log ≡ true → In x log
some_in f x is [] t = absurd (both_ways false refl t)
some_in f x is (e ∷ log) t = elim (or_cases (f e) (some f log) t) [ inl y ↦ inl (is e y) | inr n ↦ inr (some_in f x is log n) ]

-- members who are not sound, or of whom the log has it
abbrev pub stating : Log → ℕ → ℕ → ℕ → ℕ → Bool
stating log h r p i = not (sound i) || some (is_stated i h r p) log

abbrev pub committing : Log → ℕ → ℕ → ℕ → ℕ → Bool
committing log h r p i = not (sound i) || some (is_committed i h r p) log

pub cert : (log : Log) (h r p : ℕ) → 3 ≤ count (stating log h r p) 4 → Certified witness_pool log h r p
cert log h r p many =
    several witness_pool 3 (stating log h r p) (λ i. sound i ≡ true → In (stated i h r (Some p)) log) many
    (λ i t s. elim (or_cases (not (sound i)) (some (is_stated i h r p) log) t) [
      | inl n ↦ absurd (both_ways (sound i) (not-true (sound i) n) s)
      | inr y ↦ some_in (is_stated i h r p) (stated i h r (Some p)) (stated_is i h r p) log y
    ])

pub decision : (log : Log) (h r p : ℕ) → 3 ≤ count (committing log h r p) 4 → Decided witness_pool log h r p
decision log h r p many =
    several witness_pool 3 (committing log h r p) (λ i. sound i ≡ true → In (committed i h r p) log) many
    (λ i t s. elim (or_cases (not (sound i)) (some (is_committed i h r p) log) t) [
      | inl n ↦ absurd (both_ways (sound i) (not-true (sound i) n) s)
      | inr y ↦ some_in (is_committed i h r p) (committed i h r p) (committed_is i h r p) log y
    ])

-- an element by its place
abbrev pub At : {X : Type 0} → ℕ → X → List X → Type 0
At k x [] = ⊥
At zero x (y ∷ ys) = x ≡ y
At (suc k) x (y ∷ ys) = At k x ys

pub in_at : {X : Type 0} (k : ℕ) (x : X) (xs : List X) → At k x xs → In x xs
in_at k x [] h = h
in_at zero x (y ∷ ys) h = inl h
in_at (suc k) x (y ∷ ys) h = inr (in_at k x ys h)
