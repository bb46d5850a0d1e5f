-- What the program answers stands for what a call answers.
use Rattle.std.specs.Prelude.{Ok, Err, Result}
use Rattle.base.specs.declared.refusals.Refusal.{Refusal}
use Rattle.protocol.specs.Messages.{Answer, taken, entered}
use Rattle.protocol.specs.declared.answers.Answer.TheVariants.{Taken, Entered}
use Rattle.protocol.specs.declared.answers.Answer.{Answer as Told}

abbrev pub answer_of : Told → Answer
answer_of Taken = taken
answer_of (Entered height slip) = entered height.0 slip

-- an answer or a refusal
abbrev pub answered : Result Told Refusal → Result Answer Refusal
answered (Ok told) = Ok (answer_of told)
answered (Err why) = Err why
