-- What a refusal tells: its number, and the values it carries.
use Rattle.std.specs.Prelude.{ℕ, cond, List, [], ◌∷◌, Some, None, Option, Ok, Err, Result}
use Rattle.base.specs.declared.refusals.Refusal.{Refusal}
use Rattle.base.specs.declared.refusals.Refusal.TheVariants.{Misshapen, Stranger, PastHeight, LaterHeight, WrongRound, OutOfStage, BadSeal, OffChain, NotAdmitted, Contradiction, CandidatesFull, WornSealer, OutboxShort, NotYourTurn, NotYet, TurnPast, Unlawful, BooksEnd, FewRecords}

-- the number first, then the values: only a bad seal carries any, its place and 1 if it stands in the lock inside
abbrev pub told : Refusal → List ℕ
told Misshapen = 1 ∷ []
told Stranger = 2 ∷ []
told PastHeight = 3 ∷ []
told LaterHeight = 4 ∷ []
told WrongRound = 5 ∷ []
told OutOfStage = 6 ∷ []
told (BadSeal place inside) = 7 ∷ place ∷ cond inside 1 0 ∷ []
told OffChain = 8 ∷ []
told NotAdmitted = 9 ∷ []
told Contradiction = 10 ∷ []
told CandidatesFull = 11 ∷ []
told WornSealer = 12 ∷ []
told OutboxShort = 13 ∷ []
told NotYourTurn = 14 ∷ []
told NotYet = 15 ∷ []
told TurnPast = 16 ∷ []
told Unlawful = 17 ∷ []
told BooksEnd = 18 ∷ []
told FewRecords = 19 ∷ []

-- the first refusal, if any, as an answer: it passes where there is none
abbrev pub passing : Option Refusal → Result Unit Refusal
passing None = Ok tt
passing (Some why) = Err why
