use Rattle.base.proofs.Distinct.{slip_one, statement_one}
use Rattle.base.proofs.statements.Statement.to_bytes.Goals as goal

pub returns-then-ne-clause-law : goal.returns-then-ne-clause-law
returns-then-ne-clause-law c = statement_one

pub returns-then-ne-clause-slips : goal.returns-then-ne-clause-slips
returns-then-ne-clause-slips c = slip_one

pub returns-else-ne-clause-law : goal.returns-else-ne-clause-law
returns-else-ne-clause-law c = statement_one

pub returns-else-ne-clause-slips : goal.returns-else-ne-clause-slips
returns-else-ne-clause-slips c = slip_one
