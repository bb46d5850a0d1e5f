-- Candidates: which slips are among them, and which locks, after each change of them.
use Rattle.std.proofs.Common.{◌≡◌, ℕ, Bool, true, false, ◌⊎◌, List, [], ◌∷◌, ◌++◌, map, Some, None, Option, sym, refl, ap, ◌∙◌, subst, inl, inr}
use Rattle.std.specs.List.{AllByRecursion as All}
use Rattle.std.proofs.lemmas.List.{append-nil, append_assoc}
use Rattle.std.proofs.ByRecursion.{All-push, All-map, All-weaker}
use Rattle.std.proofs.lemmas.Bool.{cond_both, or_right, or_left}
use Rattle.agree.specs.Lists.{In}
use Rattle.agree.specs.Pool.{Lock}
use Rattle.base.specs.Statements.{PageFits}
use Rattle.base.specs.declared.slips.Slip.{Slip}
use Rattle.protocol.specs.Rounds.{known, shelved, raised, locked_at, unlocked, lock_in, locks_of, top_of, better_of, by_locks, candidate_of}
use Rattle.protocol.specs.State.{Candidate, Rules, one_page}
use Rattle.protocol.proofs.Slips.{slip_itself}

module _ {X : Type 0} where
  pub in_new : (new old : List X) (x : X) → In x new → In x (new ++ old)
  in_new [] old x h = absurd h
  in_new (y ∷ new) old x h = elim h [ inl e ↦ inl e | inr k ↦ inr (in_new new old x k) ]

  pub in_either : (new old : List X) (x : X) → In x (new ++ old) → In x new ⊎ In x old
  in_either [] old x h = inr h
  in_either (y ∷ new) old x h =
      elim h [ inl e ↦ inl (inl e) | inr k ↦ elim (in_either new old x k) [ inl n ↦ inl (inr n) | inr o ↦ inr o ] ]

-- shelving brings no lock
locks_append : (cs ds : List Candidate) → locks_of (cs ++ ds) ≡ locks_of cs ++ locks_of ds
locks_append [] ds = refl
locks_append (c ∷ cs) ds = ap (λ l. lock_in c.slip c.lock ++ l) (locks_append cs ds) ∙ sym (append_assoc (lock_in c.slip c.lock) (locks_of cs) (locks_of ds))

pub locks_shelved : (s : Slip) (cs : List Candidate) → locks_of (shelved s cs) ≡ locks_of cs
locks_shelved s cs =
    cond_both (known s cs) cs (cs ++ record { slip = s; lock = None } ∷ []) (λ ds. locks_of ds ≡ locks_of cs)
    (λ e. refl)
    (λ e. locks_append cs (record { slip = s; lock = None } ∷ []) ∙ append-nil (locks_of cs))

pub locks_unlocked : (cs : List Candidate) → locks_of (unlocked cs) ≡ []
locks_unlocked [] = refl
locks_unlocked (c ∷ cs) = locks_unlocked cs

-- a shelved slip is among the candidates
known_push : (s : Slip) (cs : List Candidate) (c : Candidate) → one_page c.slip s ≡ true → known s (cs ++ c ∷ []) ≡ true
known_push s [] c e = or_left (one_page c.slip s) false e
known_push s (d ∷ cs) c e = or_right (one_page d.slip s) (known s (cs ++ c ∷ [])) (known_push s cs c e)

pub known_shelved : (s : Slip) (cs : List Candidate) → known s (shelved s cs) ≡ true
known_shelved s cs =
    cond_both (known s cs) cs (cs ++ record { slip = s; lock = None } ∷ []) (λ ds. known s ds ≡ true)
    (λ e. e)
    (λ e. known_push s cs (record { slip = s; lock = None }) (slip_itself s))

-- every candidate is a page of the program
abbrev pub Fit : Candidate → Type 0
Fit c = PageFits (Some c.slip)

pub fit_shelved : (s : Slip) (cs : List Candidate) → PageFits (Some s) → All Fit cs → All Fit (shelved s cs)
fit_shelved s cs f all =
    cond_both (known s cs) cs (cs ++ record { slip = s; lock = None } ∷ []) (All Fit) (λ e. all) (λ e. All-push Fit cs (record { slip = s; lock = None }) all f)

pub fit_locked : (s : Slip) (r : ℕ) (cs : List Candidate) → All Fit cs → All Fit (locked_at s r cs)
fit_locked s r [] all = tt
fit_locked s r (c ∷ cs) all =
    cond_both (one_page c.slip s) (record { slip = c.slip; lock = raised c.lock r } ∷ cs) (c ∷ locked_at s r cs) (All Fit)
    (λ e. (all.0, all.1))
    (λ e. (all.0, fit_locked s r cs all.1))

-- a lock is changed and the slip stays
pub fit_map : (f : Candidate → Candidate) → ((c : Candidate) → (f c).slip ≡ c.slip) → (cs : List Candidate) → All Fit cs → All Fit (map f cs)
fit_map f same cs all =
    All-map Fit f cs (All-weaker Fit (λ c. Fit (f c)) (λ c h. subst (λ s. PageFits (Some s)) (sym (same c)) h) cs all)

-- the candidate that is stated is a page of the program
pub top_fits : (above : Slip → Slip → Bool) (cs : List Candidate) → All Fit cs → PageFits (top_of above cs)
top_fits above [] all = tt
top_fits above (c ∷ cs) all = better (top_of above cs) (top_fits above cs all.1)
  where
    better : (o : Option Slip) → PageFits o → PageFits (Some (better_of above c.slip o))
    better None f = all.0
    better (Some b) f = cond_both (above b c.slip) b c.slip (λ s. PageFits (Some s)) (λ e. f) (λ e. all.0)

locks_fit : (cs : List Candidate) → All Fit cs → All (λ (l : Lock Slip). PageFits (Some l.page)) (locks_of cs)
locks_fit [] all = tt
locks_fit (c ∷ cs) all = here c.lock (locks_of cs) (locks_fit cs all.1)
  where
    here : (o : Option ℕ) (ls : List (Lock Slip)) → All (λ (l : Lock Slip). PageFits (Some l.page)) ls → All (λ (l : Lock Slip). PageFits (Some l.page)) (lock_in c.slip o ++ ls)
    here None ls rest = rest
    here (Some r) ls rest = (all.0, rest)

chosen_fits : (ls : List (Lock Slip)) (top : Option Slip) → All (λ (l : Lock Slip). PageFits (Some l.page)) ls → PageFits top → PageFits (by_locks ls top)
chosen_fits [] top all f = f
chosen_fits (l ∷ []) top all f = all.0
chosen_fits (l ∷ k ∷ ls) top all f = tt

pub candidate_fits : (rules : Rules) (cs : List Candidate) → All Fit cs → PageFits (candidate_of rules cs)
candidate_fits rules cs all = chosen_fits (locks_of cs) (top_of rules.above cs) (locks_fit cs all) (top_fits rules.above cs all)
