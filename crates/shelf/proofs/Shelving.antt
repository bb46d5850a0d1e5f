-- The candidates in use, a place for one more; the front of a message.
use Rattle.std.proofs.Common.{◌≡◌, ℕ, ◌+◌, ◌<◌, ◌≤◌, min, Bool, true, false, cond, not, ◌||◌, leb, ltb, List, [], ◌∷◌, ◌++◌, length, take, None, sym, refl, ap, ◌∙◌, ⊎_elim, arith}
use Rattle.std.proofs.lemmas.List.{length-map, length-take, map-append, take_all}
use Rattle.std.proofs.lemmas.Bool.{lt-ltb, le-ltb, le-leb, lt-leb, cases_lt}
use Rattle.base.specs.declared.slips.Slip.{Slip}
use Rattle.protocol.specs.Rounds.{known, has_place, shelved}
use Rattle.shelf.specs.Views.{candidate_view}
use Rattle.shelf.specs.declared.candidates.Candidate.{Candidate}
use Rattle.shelf.proofs.Gathering.{views}

-- there is room, or not
room : (n : ℕ) → not (leb 16 n) ≡ ltb n 16
room n =
    ⊎_elim
    (λ (lt : n < 16). ap not (lt-leb 16 n lt) ∙ sym (lt-ltb n 16 lt))
    (λ (ge : 16 ≤ n). ap not (le-leb 16 n ge) ∙ sym (le-ltb n 16 ge))
    (cases_lt n 16)

-- where the slip is not among them, the room decides
pub place_by_room : (s : Slip) (cs : List Candidate) → false ≡ known s (views cs) → not (leb 16 (length cs)) ≡ has_place s (views cs)
place_by_room s cs unknown =
    room (length cs) ∙ ap (λ n. ltb n 16) (sym (length-map cs candidate_view)) ∙ ap (λ b. b || ltb (length (views cs)) 16) unknown

-- a new slip comes last, where there is room
pushed : (fits : Bool) (cs : List Candidate) (c : Candidate) → views (cond fits (cs ++ c ∷ []) cs) ≡ cond fits (views cs ++ candidate_view c ∷ []) (views cs)
pushed true cs c = map-append candidate_view cs (c ∷ [])
pushed false cs c = refl

pub shelved_last : (s : Slip) (cs new : List Candidate) (fits : Bool) → false ≡ known s (views cs) → fits ≡ ltb (length cs) 16 → new ≡ cond fits (cs ++ record { slip = s; lock = None } ∷ []) cs → views new ≡ cond (has_place s (views cs)) (shelved s (views cs)) (views cs)
shelved_last s cs new fits unknown room is =
    let S = views cs in
    let free : fits ≡ ltb (length S) 16 = room ∙ ap (λ n. ltb n 16) (sym (length-map cs candidate_view)) in
    ap views is ∙ pushed fits cs (record { slip = s; lock = None })
    ∙ (λ i. cond (unknown i || free i) (cond (unknown i) S (S ++ record { slip = s; lock = None } ∷ [])) S)

-- a slip that is there stays
pub shelved_known : (s : Slip) (cs : List Candidate) → true ≡ known s (views cs) → views cs ≡ cond (has_place s (views cs)) (shelved s (views cs)) (views cs)
shelved_known s cs there =
    let S = views cs in
    λ i. cond (there i || ltb (length S) 16) (cond (there i) S (S ++ record { slip = s; lock = None } ∷ [])) S

-- the front of a message
take_most : (most : ℕ) (m : List ℕ) → take (min (length m) most) m ≡ take most m
take_most most m =
    ⊎_elim
    (λ (lt : length m < most). take_all (min (length m) most) m (omega arith) ∙ sym (take_all most m (omega arith)))
    (λ (ge : most ≤ length m). let e : min (length m) most ≡ most = omega arith in ap (λ k. take k m) e)
    (cases_lt (length m) most)

pub front_kept : (m old new : List ℕ) (n most : ℕ) (fits : Bool) → n ≡ min (length m) most → old ≡ [] → fits ≡ leb (length old + length (take n m)) most → new ≡ cond fits (old ++ take n m) old → new ≡ take most m
front_kept m old new n most fits is blank room kept =
    let none : length old ≡ 0 = ap length blank in
    let long = length-take n m in
    let le : length old + length (take n m) ≤ most = omega arith in
    kept ∙ ap (λ b. cond b (old ++ take n m) old) (room ∙ le-leb (length old + length (take n m)) most le)
    ∙ ap (λ o. o ++ take n m) blank ∙ ap (λ k. take k m) is ∙ take_most most m
