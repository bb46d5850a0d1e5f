-- The witness run is lawful, and pages are entered in it. Assumes nothing.
use Rattle.std.proofs.Common.{ℕ, ◌≤◌, true, List, [], ◌∷◌, Some, refl, inl, inr, arith, lit<, lit≤}
use Rattle.agree.specs.Pool.{Event.stated, Event.took, Event.committed, Event.entered}
use Rattle.agree.specs.Moves.{Kept, Move.states, Move.repeats, Move.locks, Move.passes, Move.enters}
use Rattle.agree.specs.Runs.{Act, played, Lawful}
use Rattle.agree.specs.Witness.{unopened, by, on, opening, dispute, release, second, whole, Happens}
use Rattle.agree.proofs.Reading.{few_faulty, witness_pool, Log, cert, decision, in_at}

-- locks left: the first one taken, the same page in a later round, the one held
first_lock : (p r : ℕ) → Kept (on p r ∷ []) (on p r ∷ [])
first_lock p r = ((inl refl, tt), ((on p r, inl refl, omega arith), tt))

later_lock : (p r s : ℕ) → s ≤ r → Kept (on p r ∷ on p s ∷ []) (on p r ∷ [])
later_lock p r s le = ((inl refl, tt), ((on p r, inl refl, omega arith), ((on p r, inl refl, le), tt)))

opening_law : Lawful witness_pool unopened opening
opening_law = ((((λ i. refl), lit< tt, refl, refl), lit< tt, refl, refl), lit< tt, refl, refl)

dispute_law : Lawful witness_pool unopened dispute
dispute_law =
    let stated-all : List (Act ℕ ℕ) = by 1 (repeats 0 (Some 18)) ∷ by 2 (states 0 (Some 17)) ∷ by 1 (states 0 (Some 18)) ∷ by 0 (states 0 (Some 17)) ∷ opening in (
      (
        (
          (
            (
              opening_law,
              lit< tt,
              refl,
              (refl, inl (refl, lit≤ tt), tt),
            ),
            lit< tt,
            refl,
            (refl, inl (refl, lit≤ tt), tt),
          ),
          lit< tt,
          refl,
          (refl, inl (refl, lit≤ tt), tt),
        ),
        lit< tt,
        refl,
        (refl, refl),
      ),
      lit< tt,
      refl,
      (refl, lit≤ tt, cert (played witness_pool unopened stated-all).log 1 0 17 (lit≤ tt), first_lock 17 0, λ _. refl),
    )

release_law : Lawful witness_pool unopened release
release_law = (
  (
    (
      dispute_law,
      lit< tt,
      refl,
      (refl, lit≤ tt, first_lock 17 0),
    ),
    lit< tt,
    refl,
    (refl, cert (played witness_pool unopened (by 0 (passes 0 (on 17 0 ∷ [])) ∷ dispute)).log 1 0 17 (lit≤ tt), first_lock 17 0),
  ),
  lit< tt,
  refl,
  (refl, lit≤ tt, (tt, tt)),
)

second_law : Lawful witness_pool unopened second
second_law =
    let stated-two : List (Act ℕ ℕ) = by 1 (states 1 (Some 17)) ∷ by 0 (states 1 (Some 17)) ∷ release in
    let one : List (Act ℕ ℕ) = by 0 (locks 1 17 true (on 17 1 ∷ [])) ∷ stated-two in
    let two : List (Act ℕ ℕ) = by 1 (locks 1 17 true (on 17 1 ∷ [])) ∷ one in (
      (
        (
          (
            (
              release_law,
              lit< tt,
              refl,
              (refl, inr (lit< tt), (refl, tt)),
            ),
            lit< tt,
            refl,
            (refl, inr (lit< tt), (refl, tt)),
          ),
          lit< tt,
          refl,
          (refl, lit≤ tt, cert (played witness_pool unopened stated-two).log 1 1 17 (lit≤ tt), later_lock 17 1 0 (lit≤ tt), λ _. refl),
        ),
        lit< tt,
        refl,
        (refl, lit≤ tt, cert (played witness_pool unopened one).log 1 1 17 (lit≤ tt), later_lock 17 1 0 (lit≤ tt), λ _. refl),
      ),
      lit< tt,
      refl,
      (refl, lit≤ tt, cert (played witness_pool unopened two).log 1 1 17 (lit≤ tt), first_lock 17 1, λ _. refl),
    )

whole_law : Lawful witness_pool unopened whole
whole_law =
    let in_one : List (Act ℕ ℕ) = by 0 (enters 1 17) ∷ second in
    let in_two : List (Act ℕ ℕ) = by 1 (enters 1 17) ∷ in_one in
    let stated-three : List (Act ℕ ℕ) = by 2 (states 0 (Some 172)) ∷ by 1 (states 0 (Some 172)) ∷ by 0 (states 0 (Some 172)) ∷ by 2 (enters 1 17) ∷ in_two in
    let one : List (Act ℕ ℕ) = by 0 (locks 0 172 true (on 172 0 ∷ [])) ∷ stated-three in
    let two : List (Act ℕ ℕ) = by 1 (locks 0 172 true (on 172 0 ∷ [])) ∷ one in
    let three : List (Act ℕ ℕ) = by 2 (locks 0 172 true (on 172 0 ∷ [])) ∷ two in (
      (
        (
          (
            (
              (
                (
                  (
                    (
                      (
                        (
                          second_law,
                          lit< tt,
                          refl,
                          (refl, decision (played witness_pool unopened second).log 1 1 17 (lit≤ tt), refl),
                        ),
                        lit< tt,
                        refl,
                        (refl, decision (played witness_pool unopened in_one).log 1 1 17 (lit≤ tt), refl),
                      ),
                      lit< tt,
                      refl,
                      (refl, decision (played witness_pool unopened in_two).log 1 1 17 (lit≤ tt), refl),
                    ),
                    lit< tt,
                    refl,
                    (refl, inl (refl, lit≤ tt), tt),
                  ),
                  lit< tt,
                  refl,
                  (refl, inl (refl, lit≤ tt), tt),
                ),
                lit< tt,
                refl,
                (refl, inl (refl, lit≤ tt), tt),
              ),
              lit< tt,
              refl,
              (refl, lit≤ tt, cert (played witness_pool unopened stated-three).log 2 0 172 (lit≤ tt), first_lock 172 0, λ _. refl),
            ),
            lit< tt,
            refl,
            (refl, lit≤ tt, cert (played witness_pool unopened one).log 2 0 172 (lit≤ tt), first_lock 172 0, λ _. refl),
          ),
          lit< tt,
          refl,
          (refl, lit≤ tt, cert (played witness_pool unopened two).log 2 0 172 (lit≤ tt), first_lock 172 0, λ _. refl),
        ),
        lit< tt,
        refl,
        (refl, decision (played witness_pool unopened three).log 2 0 172 (lit≤ tt), refl),
      ),
      lit< tt,
      refl,
      (refl, decision (played witness_pool unopened (by 0 (enters 0 172) ∷ three)).log 2 0 172 (lit≤ tt), refl),
    )

pub happens : Happens
happens =
    let log : Log = (played witness_pool unopened whole).log in
    record {
      few = few_faulty;
      lawful = whole_law;
      disputed = in_at 25 (stated 1 1 0 (Some 18)) log refl;
      committed_early = in_at 23 (committed 0 1 0 17) log refl;
      released = in_at 22 (took 1 1 0 17) log refl;
      entered_first = in_at 11 (entered 2 1 17) log refl;
      entered_second = in_at 0 (entered 1 2 172) log refl;
    }
