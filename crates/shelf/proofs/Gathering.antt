-- What is found among candidates, one after the other.
use Rattle.std.proofs.Common.{◌≡◌, ℕ, Bool, true, false, ◌&&◌, ◌||◌, ltb, List, [], ◌∷◌, ◌++◌, map, reverse, get_or, Some, None, Option, sym, refl, ap, ◌∙◌}
use Rattle.std.proofs.lemmas.List.{reverse-append}
use Rattle.std.specs.List.{list_any, list_all}
use Rattle.std.specs.Option.{option_map}
use Rattle.agree.specs.Pool.{Lock as Kept-lock}
use Rattle.base.specs.Slips.{one_page}
use Rattle.base.specs.declared.slips.Slip.{Slip}
use Rattle.protocol.specs.Judging.{above_all}
use Rattle.protocol.specs.Rounds.{known, lock_in, locks_of, highest_lock}
use Rattle.protocol.specs.State.{Candidate as Known-slip, Held as Held-lock}
use Rattle.shelf.specs.Locks.{higher_of, in_locks, more_locks}
use Rattle.shelf.specs.Views.{round_view, candidate_view}
use Rattle.shelf.specs.declared.candidates.Candidate.{Candidate}

abbrev pub blank : Candidate
blank = record { slip = record { parent = record { 0 = [] }; own = record { 0 = [] }; lots = 0; maker = 0 }; lock = None }

abbrev pub views : List Candidate → List Known-slip
views cs = map candidate_view cs

-- the lock of the candidate at a place
abbrev pub lock_at : List Candidate → ℕ → Option ℕ
lock_at cs i = option_map round_view (get_or cs i blank).lock

and_assoc : (a b c : Bool) → (a && (b && c)) ≡ (a && b && c)
and_assoc true b c = refl
and_assoc false b c = refl

-- whether the slip is among them
pub known_any : (s : Slip) (cs : List Candidate) → list_any (λ (c : Candidate). one_page c.slip s) cs ≡ known s (views cs)
known_any s [] = refl
known_any s (c ∷ cs) = ap (λ b. one_page c.slip s || b) (known_any s cs)

-- whether a round is above every lock
above_append : (r : ℕ) (ls ks : List (Kept-lock Slip)) → above_all r (ls ++ ks) ≡ (above_all r ls && above_all r ks)
above_append r [] ks = refl
above_append r (l ∷ ls) ks = ap (λ b. ltb l.round r && b) (above_append r ls ks) ∙ and_assoc (ltb l.round r) (above_all r ls) (above_all r ks)

pub above_every : (r : ℕ) (cs : List Candidate) → list_all (λ (c : Candidate). above_all r (lock_in c.slip (option_map round_view c.lock))) cs ≡ above_all r (locks_of (views cs))
above_every r [] = refl
above_every r (c ∷ cs) =
    ap (λ b. above_all r (lock_in c.slip (option_map round_view c.lock)) && b) (above_every r cs)
    ∙ sym (above_append r (lock_in c.slip (option_map round_view c.lock)) (locks_of (views cs)))

pub higher_first : (h : Option Held-lock) (s : Slip) (o : Option ℕ) (ls : List (Kept-lock Slip)) → highest_lock h (lock_in s o ++ ls) ≡ higher_of h s o (highest_lock h ls)
higher_first h s None ls = refl
higher_first h s (Some r) ls = refl

pub more_first : (s : Slip) (o : Option ℕ) (ls : List (Kept-lock Slip)) → in_locks (lock_in s o ++ ls) ≡ more_locks s o (in_locks ls)
more_first s None ls = refl
more_first s (Some r) [] = refl
more_first s (Some r) (l ∷ []) = refl
more_first s (Some r) (l ∷ k ∷ ls) = refl

-- from the last to the first: one more candidate comes in front of those behind it
pub one_more : {Y : Type 0} (F : List Candidate → Y) (cs : List Candidate) (c : Candidate) (y : Y) → y ≡ F (c ∷ reverse cs) → y ≡ F (reverse (cs ++ c ∷ []))
one_more F cs c y is = is ∙ sym (ap F (reverse-append cs (c ∷ [])))
