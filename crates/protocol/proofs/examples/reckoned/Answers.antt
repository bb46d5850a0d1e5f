-- All of it computes.
use Rattle.std.proofs.Common.{refl}
use Rattle.protocol.proofs.examples.reckoned.Goals as goal

pub returns : goal.returns
returns c =
    record {
      leader_of_four = refl;
      leader_of_seven = refl;
      change_112 = (refl, refl);
      change_36 = (refl, refl);
      commit_100 = (refl, refl);
      lock_136 = (refl, refl);
      release_164 = (refl, refl);
      lock_760 = (refl, refl);
      release_860 = (refl, refl);
      four_bring_it = λ seals. (refl, refl);
      fourth_brings_it = λ seals. refl;
      stating_it = refl;
      three_do_not = λ seals. refl;
      saying_nothing = refl;
      a_lock = refl;
      a_select = refl;
      two_hundred_lots = refl;
      no_lots = refl;
      too_many_lots = refl;
    }
