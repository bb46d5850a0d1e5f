-- The witness run passes the tests, and its log has the events that are named.
use Rattle.std.proofs.Common.{Some, None, refl, lit≤}
use Rattle.agree.specs.Pool.{Event.stated, Event.took, Event.committed, Event.entered}
use Rattle.protocol.specs.Laws.{WellSealed}
use Rattle.protocol.specs.Witness.{FewUnsound, four, unopened, whole, log, A, B, RunsHappen}
use Rattle.protocol.proofs.Tested.{lawful_hold, well_sealed_hold, in_at}

pub few_unsound : FewUnsound
few_unsound = lit≤ tt

pub happen : RunsHappen
happen =
    record {
      few = few_unsound;
      lawful = lawful_hold (four few_unsound) unopened (λ i. refl) whole refl;
      going_well = refl;
      disputed = in_at 25 (stated 2 1 0 None) (log few_unsound) refl;
      committed_early = in_at 23 (committed 0 1 0 A) (log few_unsound) refl;
      released = in_at 22 (took 2 1 0 A) (log few_unsound) refl;
      restated = in_at 20 (stated 2 1 1 (Some A)) (log few_unsound) refl;
      old_locks = (refl, refl);
      relocked = in_at 15 (took 2 1 1 A) (log few_unsound) refl;
      new_locks = (refl, refl);
      entered_first_0 = in_at 13 (entered 0 1 A) (log few_unsound) refl;
      entered_first_1 = in_at 12 (entered 1 1 A) (log few_unsound) refl;
      entered_first_2 = in_at 11 (entered 2 1 A) (log few_unsound) refl;
      entered_second_0 = in_at 1 (entered 0 2 B) (log few_unsound) refl;
      entered_second_1 = in_at 0 (entered 1 2 B) (log few_unsound) refl;
    }

pub sealed_well : (few : FewUnsound) → WellSealed (four few) unopened whole
sealed_well few = well_sealed_hold (four few) unopened whole refl
