use Rattle.std.proofs.Common.{◌≡◌, [], ◌∷◌, refl, ◌∙◌}
use Rattle.seal.specs.Sip.{add, turn, sip_round, start, compress, finish, onward, sip}
use Rattle.seal.proofs.siphash.worked_example.Goals as goal

worked : sip (0 ∷ 1 ∷ 2 ∷ 3 ∷ 4 ∷ 5 ∷ 6 ∷ 7 ∷ 8 ∷ 9 ∷ 10 ∷ 11 ∷ 12 ∷ 13 ∷ 14 ∷ 15 ∷ []) (0 ∷ 1 ∷ 2 ∷ 3 ∷ 4 ∷ 5 ∷ 6 ∷ 7 ∷ 8 ∷ 9 ∷ 10 ∷ 11 ∷ 12 ∷ 13 ∷ 14 ∷ []) ≡ 0xa129ca6149be45e5
unfolding add turn sip_round start compress finish onward
worked = refl

pub returns : goal.returns
returns c = c.siphash.ensures ∙ worked
