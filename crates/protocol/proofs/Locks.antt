-- What is left of the locks held when one is taken, and when one comes that is above all others; and the page that is
-- stated under them.
use Rattle.std.proofs.Common.{◌≡◌, ℕ, ◌<◌, ◌≤◌, max, true, false, ltb, ◌⊎◌, List, [], ◌∷◌, ◌++◌, Some, None, Option, refl, ap, ◌∙◌, subst, inl, inr, arith}
use native.Mathlib.Decide.{dec_le}
use Rattle.std.specs.List.{AllByRecursion as All}
use Rattle.std.proofs.lemmas.Bool.{cond_both, or_cases, and_parts, ltb-true, both_ways}
use Rattle.agree.specs.Lists.{In}
use Rattle.agree.specs.Pool.{Lock}
use Rattle.agree.specs.Moves.{Kept, Candidate as Free}
use Rattle.agree.proofs.Log.{in_old, all_in}
use Rattle.agree.proofs.Handy.{kept_from}
use Rattle.base.specs.declared.slips.Slip.{Slip}
use Rattle.protocol.specs.Judging.{above_all}
use Rattle.protocol.specs.Rounds.{known, shelved, raised, locked_at, unlocked, lock_in, locks_of, by_locks, candidate_of, top_of}
use Rattle.protocol.specs.State.{Candidate, Rules, one_page}
use Rattle.protocol.proofs.Slips.{slip_same}
use Rattle.protocol.proofs.Shelf.{in_new, in_either, locks_shelved, locks_unlocked, known_shelved}

-- every lock held is on the page that is stated
pub candidate_free : (rules : Rules) (cs : List Candidate) → Free (locks_of cs) (candidate_of rules cs)
candidate_free rules cs = by (locks_of cs) (top_of rules.above cs)
  where
    bare : (o : Option Slip) → Free [] o
    bare None = tt
    bare (Some s) = tt

    by : (ls : List (Lock Slip)) (top : Option Slip) → Free ls (by_locks ls top)
    by [] top = bare top
    by (l ∷ []) top = (refl, tt)
    by (l ∷ k ∷ ls) top = tt

abbrev pub on : Slip → ℕ → Lock Slip
on s r = record { page = s; round = r }

-- a lock is taken ---------------------------------------------------------------------------------------------------

-- a raised lock is the new one or the old one
raised_from : (s : Slip) (r : ℕ) (o : Option ℕ) (l : Lock Slip) → In l (lock_in s (raised o r)) → (l ≡ on s r) ⊎ In l (lock_in s o)
raised_from s r None l h = elim h [ inl e ↦ inl e | inr n ↦ absurd n ]
raised_from s r (Some k) l h =
    elim h [
      | inl e ↦
          elim (dec_le r k) [
            | yes le ↦ inr (inl (e ∙ ap (on s) (let m : max k r ≡ k = omega arith in m)))
            | no gt ↦ inl (e ∙ ap (on s) (let m : max k r ≡ r = omega arith in m))
          ]
      | inr n ↦ absurd n
    ]

-- it is no lower than either
raised_over : (s : Slip) (r : ℕ) (o : Option ℕ) (l : Lock Slip) → In l (lock_in s o) → (k : Lock Slip) × In k (lock_in s (raised o r)) × (l.round ≤ k.round)
raised_over s r None l h = absurd h
raised_over s r (Some k) l h =
    elim h [
      | inl e ↦ (on s (max k r), inl refl, let m : l.round ≡ k = ap (λ (x : Lock Slip). x.round) e in omega arith)
      | inr n ↦ absurd n
    ]

raised_there : (s : Slip) (r : ℕ) (o : Option ℕ) → (k : Lock Slip) × In k (lock_in s (raised o r)) × (r ≤ k.round)
raised_there s r None = (on s r, inl refl, omega arith)
raised_there s r (Some k) = (on s (max k r), inl refl, omega arith)

module _ (s : Slip) (r : ℕ) where
  pub locked_from : (cs : List Candidate) (l : Lock Slip) → In l (locks_of (locked_at s r cs)) → (l ≡ on s r) ⊎ In l (locks_of cs)
  locked_from [] l h = absurd h
  locked_from (c ∷ cs) l was =
      cond_both (one_page c.slip s) (record { slip = c.slip; lock = raised c.lock r } ∷ cs) (c ∷ locked_at s r cs) (λ ds. In l (locks_of ds) → (l ≡ on s r) ⊎ In l (locks_of (c ∷ cs)))
      (λ e h.
      elim (in_either (lock_in c.slip (raised c.lock r)) (locks_of cs) l h) [
        | inl n ↦
            elim (raised_from c.slip r c.lock l n) [
              | inl is ↦ inl (is ∙ ap (λ x. on x r) (slip_same c.slip s e))
              | inr old ↦ inr (in_new (lock_in c.slip c.lock) (locks_of cs) l old)
            ]
        | inr o ↦ inr (in_old (lock_in c.slip c.lock) (locks_of cs) l o)
      ])
      (λ e h.
      elim (in_either (lock_in c.slip c.lock) (locks_of (locked_at s r cs)) l h) [
        | inl n ↦ inr (in_new (lock_in c.slip c.lock) (locks_of cs) l n)
        | inr o ↦ elim (locked_from cs l o) [ inl is ↦ inl is | inr old ↦ inr (in_old (lock_in c.slip c.lock) (locks_of cs) l old) ]
      ])
      was

  -- a lock of a list that is as high
  abbrev pub Over : ℕ → List (Lock Slip) → Type 0
  Over n ls = (k : Lock Slip) × In k ls × (n ≤ k.round)

  over_new : (n : ℕ) (new old : List (Lock Slip)) → Over n new → Over n (new ++ old)
  over_new n new old o = (o.0, in_new new old o.0 o.1, o.2)

  over_old : (n : ℕ) (new old : List (Lock Slip)) → Over n old → Over n (new ++ old)
  over_old n new old o = (o.0, in_old new old o.0 o.1, o.2)

  locked_over : (cs : List Candidate) (l : Lock Slip) → In l (locks_of cs) → Over l.round (locks_of (locked_at s r cs))
  locked_over [] l h = absurd h
  locked_over (c ∷ cs) l h =
      cond_both (one_page c.slip s) (record { slip = c.slip; lock = raised c.lock r } ∷ cs) (c ∷ locked_at s r cs) (λ ds. Over l.round (locks_of ds))
      (λ e.
      elim (in_either (lock_in c.slip c.lock) (locks_of cs) l h) [
        | inl n ↦ over_new l.round (lock_in c.slip (raised c.lock r)) (locks_of cs) (raised_over c.slip r c.lock l n)
        | inr o ↦ over_old l.round (lock_in c.slip (raised c.lock r)) (locks_of cs) (l, o, omega arith)
      ])
      (λ e.
      elim (in_either (lock_in c.slip c.lock) (locks_of cs) l h) [
        | inl n ↦ over_new l.round (lock_in c.slip c.lock) (locks_of (locked_at s r cs)) (l, n, omega arith)
        | inr o ↦ over_old l.round (lock_in c.slip c.lock) (locks_of (locked_at s r cs)) (locked_over cs l o)
      ])

  pub locked_there : (cs : List Candidate) → known s cs ≡ true → Over r (locks_of (locked_at s r cs))
  locked_there [] e = absurd (both_ways false refl e)
  locked_there (c ∷ cs) e =
      cond_both (one_page c.slip s) (record { slip = c.slip; lock = raised c.lock r } ∷ cs) (c ∷ locked_at s r cs) (λ ds. Over r (locks_of ds))
      (λ hit. over_new r (lock_in c.slip (raised c.lock r)) (locks_of cs) (raised_there c.slip r c.lock))
      (λ miss.
      elim (or_cases (one_page c.slip s) (known s cs) e) [
        | inl hit ↦ absurd (both_ways (one_page c.slip s) miss hit)
        | inr k ↦ over_old r (lock_in c.slip c.lock) (locks_of (locked_at s r cs)) (locked_there cs k)
      ])

  -- the new lock and the old ones: none is lost that is higher than all that are left
  pub kept_locked : (cs : List Candidate) → Kept (on s r ∷ locks_of cs) (locks_of (locked_at s r (shelved s cs)))
  kept_locked cs =
      subst (λ old. Kept (on s r ∷ old) (locks_of (locked_at s r (shelved s cs)))) (locks_shelved s cs)
      (kept_from (on s r ∷ locks_of (shelved s cs)) (locks_of (locked_at s r (shelved s cs)))
      (locked_from (shelved s cs))
      (λ o h.
      elim h [
        | inl e ↦ (let k = locked_there (shelved s cs) (known_shelved s cs) in (k.0, k.1, let m : o.round ≡ r = ap (λ (x : Lock Slip). x.round) e in omega (arith, k.2)))
        | inr old ↦ locked_over (shelved s cs) o old
      ]))

  -- a lock above all others, which go
  pub above_each : (ls : List (Lock Slip)) → above_all r ls ≡ true → All (λ (l : Lock Slip). l.round < r) ls
  above_each [] e = tt
  above_each (l ∷ ls) e = let p = and_parts (ltb l.round r) (above_all r ls) e in (ltb-true l.round r p.0, above_each ls p.1)

  pub kept_alone : (cs : List Candidate) → above_all r (locks_of cs) ≡ true → Kept (on s r ∷ locks_of cs) (locks_of (locked_at s r (shelved s (unlocked cs))))
  kept_alone cs top =
      let none : locks_of (shelved s (unlocked cs)) ≡ [] = locks_shelved s (unlocked cs) ∙ locks_unlocked cs in
      let there = locked_there (shelved s (unlocked cs)) (known_shelved s (unlocked cs)) in
      kept_from (on s r ∷ locks_of cs) (locks_of (locked_at s r (shelved s (unlocked cs))))
      (λ l h. elim (locked_from (shelved s (unlocked cs)) l h) [ inl e ↦ inl e | inr n ↦ absurd (subst (In l) none n) ])
      (λ o h.
      elim h [
        | inl e ↦ (there.0, there.1, let m : o.round ≡ r = ap (λ (x : Lock Slip). x.round) e in omega (arith, there.2))
        | inr old ↦ (there.0, there.1, omega (arith, there.2, all_in (λ (l : Lock Slip). l.round < r) (locks_of cs) o (above_each (locks_of cs) top) old))
      ])
