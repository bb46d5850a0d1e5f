use Rattle.std.proofs.Common.{true, [], ◌∷◌, Some}
use Rattle.std.proofs.lemmas.Result.{err_from_is_err_and}
use Rattle.base.specs.declared.statements.Word.TheVariants.{Rlse}
use Rattle.protocol.specs.Judging.{lock_checks}
use Rattle.judging.specs.Parts.{own_check}
use Rattle.judging.specs.Views.{cert_of}
use Rattle.judging.proofs.Firsts.{stops_at}
use Rattle.judging.proofs.sealing.Seals.release.Goals as goal

pub returns-in_err-certificate : goal.returns-in_err-certificate
returns-in_err-certificate g c = λ w.
    let inner = c.args.inner.now
    in let self = c.args.self.now
    in let p = err_from_is_err_and c.from_residual.result c.from_residual.ensures.1
    in rw (p.1, p.2) (stops_at (g.C.Checker.recognised self.checker.now) (lock_checks true inner.head (cert_of inner.certificate))
    (own_check self.inside 1 self.head Rlse (Some inner.certificate.slip) c.args.own.bytes.now ∷ []) c.in_err-certificate.field-0.0 (c.in_err-certificate.ensures w))
