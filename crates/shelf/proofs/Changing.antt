-- Candidates whose locks are changed, one after the other.
use Rattle.std.proofs.Common.{◌≡◌, ℕ, ◌+◌, ◌<◌, ◌≤◌, true, false, cond, List, [], ◌∷◌, ◌++◌, length, get_or, take, drop, set, Some, None, Option, sym, ap, ◌∙◌, subst, add-one, arith}
use Rattle.std.proofs.lemmas.List.{append-nil, append_assoc, map-append, set-get_or, set_split, take_all, drop_all, take_more, take_more_set, drop_more, drop-set-lt, at_drop_more}
use Rattle.std.specs.Option.{option_map}
use Rattle.agree.specs.Pool.{Lock as Kept-lock}
use Rattle.base.specs.Slips.{one_page}
use Rattle.base.specs.declared.counters.Round.{Round}
use Rattle.base.specs.declared.slips.Slip.{Slip}
use Rattle.protocol.specs.Rounds.{raised, locked_at, keep_only}
use Rattle.protocol.specs.State.{Candidate as Known-slip}
use Rattle.shelf.specs.Locks.{kept_in}
use Rattle.shelf.specs.Views.{round_view, candidate_view}
use Rattle.shelf.specs.declared.candidates.Candidate.{Candidate}
use Rattle.shelf.proofs.Gathering.{blank, views, lock_at}

-- the candidate at a place under another lock
abbrev pub under : List Candidate → ℕ → Option Round → Candidate
under cs i lock = record { slip = (get_or cs i blank).slip; lock = lock }

-- locking one slip: nothing is changed before its place
module _ (s : Slip) (r : ℕ) (xs ys : List Candidate) (i : ℕ) where
  abbrev pub Searched : Type 0
  Searched = (ys ≡ xs) × (views (take i ys) ++ locked_at s r (views (drop i ys)) ≡ locked_at s r (views ys))

module _ (s : Slip) (r : ℕ) (xs ys : List Candidate) (i : ℕ) (inv : Searched s r xs ys i) where
  here : i < length ys → locked_at s r (views (drop i ys)) ≡ cond (one_page (get_or ys i blank).slip s) (record { slip = (get_or ys i blank).slip; lock = raised (lock_at ys i) r } ∷ views (drop (i + 1) ys)) (candidate_view (get_or ys i blank) ∷ locked_at s r (views (drop (i + 1) ys)))
  here more = at_drop_more (λ (cs : List Candidate). locked_at s r (views cs)) ys i blank more

  pub locked_here : (new : Round) → i < length ys → true ≡ one_page (get_or ys i blank).slip s → Some new.0 ≡ raised (lock_at ys i) r → views (set ys i (under ys i (Some new))) ≡ locked_at s r (views xs)
  locked_here new more is high =
      let v = under ys i (Some new) in
      ap views (set_split ys i v more ∙ ap (λ k. take i ys ++ v ∷ drop k ys) (sym (add-one i)))
      ∙ map-append candidate_view (take i ys) (v ∷ drop (i + 1) ys)
      ∙ ap (λ (o : Option ℕ). views (take i ys) ++ record { slip = (get_or ys i blank).slip; lock = o } ∷ views (drop (i + 1) ys)) high
      ∙ ap (λ b. views (take i ys) ++ cond b (record { slip = (get_or ys i blank).slip; lock = raised (lock_at ys i) r } ∷ views (drop (i + 1) ys)) (candidate_view (get_or ys i blank) ∷ locked_at s r (views (drop (i + 1) ys)))) is
      ∙ ap (λ (l : List Known-slip). views (take i ys) ++ l) (sym (here more))
      ∙ inv.1
      ∙ ap (λ (cs : List Candidate). locked_at s r (views cs)) inv.0

  further : i < length ys → false ≡ one_page (get_or ys i blank).slip s → Searched s r xs ys (i + 1)
  further more not =
      let c = candidate_view (get_or ys i blank) in
      let rest = locked_at s r (views (drop (i + 1) ys)) in (
        inv.0,
        ap (λ (cs : List Candidate). views cs ++ rest) (take_more ys i blank more)
            ∙ ap (λ (l : List Known-slip). l ++ rest) (map-append candidate_view (take i ys) (get_or ys i blank ∷ []))
            ∙ append_assoc (views (take i ys)) (c ∷ []) rest
            ∙ ap (λ b. views (take i ys) ++ cond b (record { slip = (get_or ys i blank).slip; lock = raised (lock_at ys i) r } ∷ views (drop (i + 1) ys)) (c ∷ rest)) not
            ∙ ap (λ (l : List Known-slip). views (take i ys) ++ l) (sym (here more))
            ∙ inv.1,
      )

  pub locked_further : i < length ys → false ≡ one_page (get_or ys i blank).slip s → Searched s r xs (set ys i (get_or ys i blank)) (i + 1)
  locked_further more not = subst (λ (zs : List Candidate). Searched s r xs zs (i + 1)) (sym (set-get_or ys i blank)) (further more not)

  pub locked_nowhere : length ys ≤ i → views ys ≡ locked_at s r (views xs)
  locked_nowhere end =
      sym (append-nil (views ys))
      ∙ (λ j. views (sym (take_all i ys end) j) ++ locked_at s r (views (sym (drop_all i ys end) j)))
      ∙ inv.1
      ∙ ap (λ (cs : List Candidate). locked_at s r (views cs)) inv.0

-- keeping one lock: what is before the place is done, the rest is as it was
module _ (only : Option (Kept-lock Slip)) (xs ys : List Candidate) (i : ℕ) where
  abbrev pub KeptBefore : Type 0
  KeptBefore = (views (take i ys) ≡ keep_only only (views (take i xs))) × (drop i ys ≡ drop i xs)

keep_push : (only : Option (Kept-lock Slip)) (cs : List Known-slip) (c : Known-slip) → keep_only only (cs ++ c ∷ []) ≡ keep_only only cs ++ record { slip = c.slip; lock = kept_in c.slip only } ∷ []
keep_push None cs c = map-append _ cs (c ∷ [])
keep_push (Some l) cs c = map-append _ cs (c ∷ [])

module _ (only : Option (Kept-lock Slip)) (xs ys : List Candidate) (i : ℕ) (inv : KeptBefore only xs ys i) where
  pub kept_further : (new : Option Round) → i < length xs → length ys ≡ length xs → option_map round_view new ≡ kept_in (get_or ys i blank).slip only → KeptBefore only xs (set ys i (under ys i new)) (i + 1)
  kept_further new more long is =
      let v = under ys i new in
      let less : i < length ys = omega arith in
      let dy = drop_more ys i blank less in
      let dx = drop_more xs i blank more in
      let dr = inv.1 in
      let same : get_or ys i blank ≡ get_or xs i blank = cc in
      let rest : drop (i + 1) ys ≡ drop (i + 1) xs = cc in (
        ap views (take_more_set ys i v less)
            ∙ map-append candidate_view (take i ys) (v ∷ [])
            ∙ (λ j. inv.0 j ++ record { slip = (same j).slip; lock = is j } ∷ [])
            ∙ ap (λ (c : Candidate). keep_only only (views (take i xs)) ++ record { slip = (get_or xs i blank).slip; lock = kept_in c.slip only } ∷ []) same
            ∙ sym (keep_push only (views (take i xs)) (candidate_view (get_or xs i blank)))
            ∙ ap (keep_only only) (sym (map-append candidate_view (take i xs) (get_or xs i blank ∷ [])))
            ∙ ap (λ (cs : List Candidate). keep_only only (views cs)) (sym (take_more xs i blank more)),
        drop-set-lt (i + 1) ys i v (omega arith) ∙ rest,
      )

  pub kept_all : length xs ≤ i → length ys ≡ length xs → views ys ≡ keep_only only (views xs)
  kept_all end long =
      ap views (sym (take_all i ys (omega arith))) ∙ inv.0 ∙ ap (λ (cs : List Candidate). keep_only only (views cs)) (take_all i xs end)
