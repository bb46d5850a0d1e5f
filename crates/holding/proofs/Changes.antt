-- What a replica holds after a message.
use Rattle.std.proofs.Common.{◌≡◌, ℕ, ◌≤◌, Bool, true, false, cond, ◌||◌, ltb, List, [], ◌∷◌, length, take, Some, None, refl, ap, ◌∙◌}
use denote.Enum.Bare.{sameb}
use Rattle.agree.specs.Pool.{Lock}
use Rattle.base.specs.Slips.{one_page}
use Rattle.base.specs.declared.slips.Slip.{Slip}
use Rattle.base.specs.contracts.stages.Stage.{the_type}
use Rattle.base.specs.declared.stages.Stage.{Stage}
use Rattle.base.specs.declared.stages.Stage.TheVariants.{Resting, Changing, Locking, Committing, Releasing}
use Rattle.protocol.specs.Judging.{above_all}
use Rattle.protocol.specs.Messages.{holding}
use Rattle.holding.specs.Locking.{locked_with}
use Rattle.protocol.specs.Rounds.{is_resting, known, has_place, shelved, locked_at, unlocked, locks_of, with_candidates, with_held}
use Rattle.protocol.specs.State.{View, Candidate}
use Rattle.protocol.specs.State as protocol
use Rattle.std.proofs.lemmas.List.{take_all, length-map}

-- the program's test for resting
pub resting_as : (b : Bool) (stage : Stage) → b ≡ sameb the_type stage Resting → b ≡ is_resting stage
resting_as b Resting is = is
resting_as b Changing is = is
resting_as b Locking is = is
resting_as b Committing is = is
resting_as b Releasing is = is

-- a slip for which there is a place is shelved
pub shelves_as : (s : Slip) (cs ds : List Candidate) → has_place s cs ≡ true → ds ≡ cond (has_place s cs) (shelved s cs) cs → ds ≡ shelved s cs
shelves_as s cs ds place is = is ∙ ap (λ b. cond b (shelved s cs) cs) place

-- a slip is shelved and locked, and its message is held if the lock is the highest
module _ (v : View) (s : Slip) (r : ℕ) (m : List ℕ) (mid last : List Candidate) (place : has_place s v.candidates ≡ true) (shelves : mid ≡ cond (has_place s v.candidates) (shelved s v.candidates) v.candidates) (locks : last ≡ locked_at s r mid) where
  candidates_as : last ≡ locked_at s r (shelved s v.candidates)
  candidates_as = locks ∙ ap (locked_at s r) (shelves_as s v.candidates mid place shelves)

  pub locks_held : (h : protocol.Held) → length m ≤ 760 → h ≡ record { slip = s; round = r; bytes = take 760 m } → true ≡ above_all r (locks_of v.candidates) → with_held (with_candidates v last) (Some h) ≡ locked_with v s r v.candidates (holding v s r m)
  locks_held h small is above =
      (λ i. with_held (with_candidates v (candidates_as i)) (Some ((is ∙ ap (λ (b : List ℕ). record { slip = s; round = r; bytes = b }) (take_all 760 m small)) i)))
      ∙ ap (λ b. locked_with v s r v.candidates (cond b (Some (record { slip = s; round = r; bytes = m })) v.held)) above

  pub locks_kept : false ≡ above_all r (locks_of v.candidates) → with_candidates v last ≡ locked_with v s r v.candidates (holding v s r m)
  locks_kept below =
      (λ i. with_candidates v (candidates_as i))
      ∙ ap (λ b. locked_with v s r v.candidates (cond b (Some (record { slip = s; round = r; bytes = m })) v.held)) below

-- no locks are left, and every slip has its place
none_locked : (cs : List Candidate) → locks_of (unlocked cs) ≡ []
none_locked [] = refl
none_locked (c ∷ cs) = none_locked cs

known_unlocked : (s : Slip) (cs : List Candidate) → known s (unlocked cs) ≡ known s cs
known_unlocked s [] = refl
known_unlocked s (c ∷ cs) = ap (λ b. one_page c.slip s || b) (known_unlocked s cs)

place_unlocked : (s : Slip) (cs : List Candidate) → has_place s (unlocked cs) ≡ has_place s cs
place_unlocked s cs = let long = length-map cs (λ (c : Candidate). record { slip = c.slip; lock = None }) in λ i. known_unlocked s cs i || ltb (long i) 16

-- all locks go, and the slip is locked
module _ (v : View) (s : Slip) (r : ℕ) (m : List ℕ) (free : List Candidate) (place : has_place s v.candidates ≡ true) (frees : free ≡ unlocked v.candidates) where
  pub place_free : has_place s free ≡ true
  place_free = ap (has_place s) frees ∙ place_unlocked s v.candidates ∙ place

  pub locks_free : locked_with (with_candidates v free) s r free (holding (with_candidates v free) s r m) ≡ locked_with v s r (unlocked v.candidates) (Some (record { slip = s; round = r; bytes = m }))
  locks_free =
      (λ i. locked_with v s r (frees i) (holding (with_candidates v (frees i)) s r m))
      ∙ ap (λ (ls : List (Lock Slip)). locked_with v s r (unlocked v.candidates) (cond (above_all r ls) (Some (record { slip = s; round = r; bytes = m })) v.held)) (none_locked v.candidates)
