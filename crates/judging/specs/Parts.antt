-- The seals of the parts of a message, by the functions that look at them.
use Rattle.std.specs.Prelude.{ℕ, ◌+◌, Bool, true, List, [], ◌∷◌, ◌++◌, Some, None, Option}
use Rattle.base.specs.declared.slips.Slip.{Slip}
use Rattle.base.specs.declared.statements.Word.{Word}
use Rattle.base.specs.declared.statements.Word.TheVariants.{Rchg, Cand, Rlse}
use Rattle.message.specs.Contents.{Locked}
use Rattle.message.specs.declared.shapes.Head.{Head}
use Rattle.protocol.specs.Judging.{Check, height_in, round_in, sender_in, lock_checks, after_slip}
use Rattle.protocol.specs.Rounds.{says}

-- a seal of the sender's own, at a place
abbrev pub own_check : Bool → ℕ → Head → Word → Option Slip → List ℕ → Check
own_check inside place h word page seal =
    record { place = place; inside = inside; signer = sender_in h; statement = says word (height_in h) (round_in h) page; seal = seal }

-- the two of a change, behind its slip, if it has one
abbrev pub change_checks : Bool → Head → Option Slip → List ℕ → List ℕ → List Check
change_checks inside h page rchg cand =
    own_check inside (after_slip page) h Rchg None rchg ∷ (own_check inside (after_slip page + 1) h Cand page cand ∷ [])

-- those of the lock inside a release, then the sender's own
abbrev pub release_checks : Bool → Head → Locked (List ℕ) → List ℕ → List Check
release_checks inside h inner own =
    lock_checks true inner.head inner.cert ++ own_check inside 1 h Rlse (Some inner.cert.slip) own ∷ []
