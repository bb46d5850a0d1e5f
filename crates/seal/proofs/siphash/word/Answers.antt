use Rattle.std.proofs.Common.{sym, ◌∙◌, rules}
use Rattle.seal.proofs.Little.{eight_all}
use Rattle.seal.proofs.siphash.word.Goals as goal

pub returns : goal.returns
returns c = c.from_le_bytes.ensures ∙ sym (eight_all c.args.bytes.now (search rules))
