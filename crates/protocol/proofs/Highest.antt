-- What is left of the locks held when only the highest is kept.
use Rattle.std.proofs.Common.{◌≡◌, ℕ, ◌≤◌, true, cond, eqb, ltb, List, [], ◌∷◌, ◌++◌, Some, None, Option, sym, refl, ap, ◌∙◌, subst, inl, inr, arith}
use Rattle.std.specs.List.{AllByRecursion as All}
use Rattle.std.proofs.ByRecursion.{All-weaker}
use Rattle.std.proofs.lemmas.Bool.{cond_both, or_cases, or_parts, and_parts, ltb-true, ltb-false, eqb-true, both_ways}
use Rattle.agree.specs.Lists.{In}
use Rattle.agree.specs.Pool.{Lock}
use Rattle.agree.specs.Moves.{Kept}
use Rattle.agree.proofs.Log.{in_old, all_in}
use Rattle.agree.proofs.Handy.{kept_from}
use Rattle.base.specs.declared.slips.Slip.{Slip}
use Rattle.protocol.specs.Rounds.{unlocked, lock_in, locks_of, is_held, beats, best_of, highest_lock, keep_only}
use Rattle.protocol.specs.State.{Candidate, Held, one_page}
use Rattle.protocol.proofs.Slips.{slip_same, slip_itself}
use Rattle.protocol.proofs.Shelf.{in_either, locks_unlocked}
use Rattle.protocol.proofs.Locks.{on}

-- the option is a highest lock of the list, or the list has none
abbrev Topped : Option (Lock Slip) → List (Lock Slip) → Type 0
Topped None ls = ls ≡ []
Topped (Some l) ls = In l ls × All (λ (o : Lock Slip). o.round ≤ l.round) ls

best_topped : (h : Option Held) (l : Lock Slip) (o : Option (Lock Slip)) (ls : List (Lock Slip)) → Topped o ls → Topped (Some (best_of h l o)) (l ∷ ls)
best_topped h l None ls t = (inl refl, (omega arith, subst (All (λ (o : Lock Slip). o.round ≤ l.round)) (sym t) tt))
best_topped h l (Some k) ls t =
    cond_both (beats h l k) l k (λ x. Topped (Some x) (l ∷ ls))
    (λ e.
    let le : k.round ≤ l.round = elim (or_cases (ltb k.round l.round) _ e) [
      | inl lt ↦ omega (arith, ltb-true k.round l.round lt)
      | inr eq ↦ omega (arith, eqb-true k.round l.round (and_parts (eqb k.round l.round) (is_held h l.page) eq).0)
    ] in
    (inl refl, (omega arith, All-weaker (λ (o : Lock Slip). o.round ≤ k.round) (λ (o : Lock Slip). o.round ≤ l.round) (λ o m. omega arith) ls t.1)))
    (λ e. (inr t.0, (ltb-false k.round l.round (or_parts (ltb k.round l.round) _ e).0, t.1)))

topped : (h : Option Held) (ls : List (Lock Slip)) → Topped (highest_lock h ls) ls
topped h [] = refl
topped h (l ∷ ls) = best_topped h l (highest_lock h ls) ls (topped h ls)

pub kept_is : (l : Lock Slip) (cs : List Candidate) (k : Lock Slip) → In k (locks_of (keep_only (Some l) cs)) → k ≡ l
kept_is l [] k h = absurd h
kept_is l (c ∷ cs) k was =
    cond_both (one_page c.slip l.page) (Some l.round) None (λ o. In k (lock_in c.slip o ++ locks_of (keep_only (Some l) cs)) → k ≡ l)
    (λ e h. elim h [ inl is ↦ is ∙ ap (λ x. on x l.round) (slip_same c.slip l.page e) | inr old ↦ kept_is l cs k old ])
    (λ e h. kept_is l cs k h)
    was

lock_page : (s : Slip) (o : Option ℕ) (l : Lock Slip) → In l (lock_in s o) → s ≡ l.page
lock_page s None l h = absurd h
lock_page s (Some r) l h = elim h [ inl e ↦ sym (ap (λ (x : Lock Slip). x.page) e) | inr n ↦ absurd n ]

pub kept_there : (l : Lock Slip) (cs : List Candidate) → In l (locks_of cs) → In l (locks_of (keep_only (Some l) cs))
kept_there l [] h = absurd h
kept_there l (c ∷ cs) h =
    elim (in_either (lock_in c.slip c.lock) (locks_of cs) l h) [
      | inl n ↦
          (let page : c.slip ≡ l.page = lock_page c.slip c.lock l n in
          cond_both (one_page c.slip l.page) (Some l.round) None (λ o. In l (lock_in c.slip o ++ locks_of (keep_only (Some l) cs)))
          (λ e. inl (λ i. on (sym page i) l.round))
          (λ e. absurd (both_ways (one_page c.slip l.page) e (subst (λ p. one_page c.slip p ≡ true) page (slip_itself c.slip)))))
      | inr o ↦ in_old (lock_in c.slip (cond (one_page c.slip l.page) (Some l.round) None)) (locks_of (keep_only (Some l) cs)) l (kept_there l cs o)
    ]

pub kept_highest : (h : Option Held) (cs : List Candidate) → Kept (locks_of cs) (locks_of (keep_only (highest_lock h (locks_of cs)) cs))
kept_highest h cs = by (highest_lock h (locks_of cs)) (topped h (locks_of cs))
  where
    by : (o : Option (Lock Slip)) → Topped o (locks_of cs) → Kept (locks_of cs) (locks_of (keep_only o cs))
    by None none =
        kept_from (locks_of cs) (locks_of (unlocked cs))
        (λ l h. absurd (subst (In l) (locks_unlocked cs) h))
        (λ o h. absurd (subst (In o) none h))
    by (Some l) t =
        kept_from (locks_of cs) (locks_of (keep_only (Some l) cs))
        (λ k h. subst (λ x. In x (locks_of cs)) (sym (kept_is l cs k h)) t.0)
        (λ o h. (l, kept_there l cs t.0, all_in (λ (x : Lock Slip). x.round ≤ l.round) (locks_of cs) o t.1 h))
