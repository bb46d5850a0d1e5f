-- Reading a log that has grown. Assumes nothing.
use Rattle.std.proofs.Common.{◌≡◌, ℕ, List, [], ◌∷◌, ◌++◌, Some, None, Option, sym, refl, ap, subst, inl, inr, arith}
use Rattle.std.specs.List.{AllByRecursion as All}
use Rattle.agree.specs.Lists.{In}
use Rattle.agree.specs.Pool.{Statement, Event, Event.opened, Event.stated, Event.took, Event.committed, Event.entered}

module _ {X : Type 0} where
  -- what stands in a list stands in a longer one
  pub in_old : (new old : List X) (x : X) → In x old → In x (new ++ old)
  in_old [] old x h = h
  in_old (y ∷ new) old x h = inr (in_old new old x h)

  pub all_in : (P : X → Type 0) (xs : List X) (x : X) → All P xs → In x xs → P x
  all_in P [] x a h = absurd h
  all_in P (y ∷ xs) x a h = elim h [ inl e ↦ subst P (sym e) a.0 | inr k ↦ all_in P xs x a.1 k ]

  pub all_from_in : (P : X → Type 0) (xs : List X) → ((x : X) → In x xs → P x) → All P xs
  all_from_in P [] f = tt
  all_from_in P (y ∷ xs) f = (f y (inl refl), all_from_in P xs (λ x h. f x (inr h)))

module _ {P M : Type 0} {i j h k r s : ℕ} where
  -- events of one kind that are one
  pub stated_same : {c d : Option P} → ◌≡◌ {A = Event P M} (stated i h r c) (stated j k s d) → (i ≡ j) × (h ≡ k) × (r ≡ s) × (c ≡ d)
  stated_same e = (cc, cc, cc, cc)

  pub committed_same : {p q : P} → ◌≡◌ {A = Event P M} (committed i h r p) (committed j k s q) → (i ≡ j) × (h ≡ k) × (r ≡ s) × (p ≡ q)
  committed_same e = (cc, cc, cc, cc)

  pub took_same : {p q : P} → ◌≡◌ {A = Event P M} (took i h r p) (took j k s q) → (i ≡ j) × (h ≡ k) × (r ≡ s) × (p ≡ q)
  took_same e = (cc, cc, cc, cc)

module _ {P M : Type 0} {i j h k : ℕ} where
  pub entered_same : {p q : P} → ◌≡◌ {A = Event P M} (entered i h p) (entered j k q) → (i ≡ j) × (h ≡ k) × (p ≡ q)
  entered_same e = (cc, cc, cc)

-- Events of different kinds are not one.
abbrev pub kind : {P M : Type 0} → Event P M → ℕ
kind (opened i h m) = 0
kind (stated i h r c) = 1
kind (took i h r p) = 2
kind (committed i h r p) = 3
kind (entered i h p) = 4

pub skip : {P M : Type 0} (x y : Event P M) (log : List (Event P M)) → (kind x ≡ kind y → ⊥) → In x (y ∷ log) → In x log
skip x y log apart h = elim h [ inl e ↦ absurd (apart (ap kind e)) | inr k ↦ k ]

pub some_same : {P : Type 0} {p q : P} → Some p ≡ Some q → p ≡ q
some_same e = cc

pub none_some : {P : Type 0} {p : P} → None ≡ Some p → ⊥
none_some e = let z : ◌≡◌ {A = ℕ} 0 1 = cc in omega arith

-- one statement is one event
pub same_statement : {P M : Type 0} (i h r : ℕ) (c : Option P) (k : ℕ) (d : Option P) → ◌≡◌ {A = Statement P} (record { round = k; page = d }) (record { round = r; page = c }) → ◌≡◌ {A = Event P M} (stated i h r c) (stated i h k d)
same_statement {P} i h r c k d e =
    let round : k ≡ r = ap (λ (x : Statement P). x.round) e in
    let page : d ≡ c = ap (λ (x : Statement P). x.page) e in
    cc
