use Rattle.message.proofs.Trips.{round_trip}
use Rattle.message.proofs.parsing.Format.parse.Goals as goal

pub returns-in_err-kind-clause-law : goal.returns-in_err-kind-clause-law
returns-in_err-kind-clause-law c = round_trip

pub returns-in_err-kind-2-clause-law : goal.returns-in_err-kind-2-clause-law
returns-in_err-kind-2-clause-law c = round_trip

pub returns-in_err-holds-clause-law : goal.returns-in_err-holds-clause-law
returns-in_err-holds-clause-law c = round_trip

pub returns-clause-law : goal.returns-clause-law
returns-clause-law c = round_trip
