use Rattle.std.proofs.Common.{◌≡◌, ℕ, ◌+◌, ◌*◌, true, List, length, sym, ap, ◌∙◌, arith}
use Rattle.std.proofs.lemmas.Bool.Decides.{nat_tests}
use Rattle.std.proofs.lemmas.Grind.{common_steps}
use Rattle.base.specs.Kinds.{kind_number}
use Rattle.base.specs.Seals.{seal_bytes}
use Rattle.base.specs.Slips.{slip_bytes}
use Rattle.base.specs.declared.certified.Certified.{Certified}
use Rattle.base.specs.declared.seals.Seal.{Seal}
use Rattle.base.specs.declared.seals.Vote.{Vote}
use Rattle.base.specs.declared.slips.Slip.{Slip}
use Rattle.message.specs.Encoding.{encoded, framed, cert_blocks}
use Rattle.message.specs.declared.shapes.Head.{Head}
use Rattle.outbox.specs.Appending.{Adds}
use Rattle.outbox.specs.Written.{sent, certifying, cert_with, countable, seals_length}
use Rattle.outbox.proofs.Lengths.{certified_long, certified_told}
use Rattle.outbox.proofs.Outcomes.{outcome}
use Rattle.outbox.proofs.Pieces.{adds_as}
use Rattle.outbox.proofs.writers.write_certificate.Goals as goal

long : (what : Certified) (h : Head) (s : Slip) (seal : Seal) (vs : List Vote) (b : List ℕ) (n w : ℕ) → n ≡ length (slip_bytes s) → b ≡ seal_bytes seal → w ≡ 4 * length vs + seals_length vs
    → 20 + n + length b + w ≡ length (encoded (sent h (certifying what (cert_with s seal vs))))
long what h s seal vs b n w is same weighs = let l = certified_long what h s seal vs in let e = ap length same in omega arith

pub returns : goal.returns
returns c =
    let few : countable c.args.votes.now ≡ true = grind (arith, nat_tests)
    in let cert = cert_with c.args.slip.now c.args.own.now c.args.votes.now
    in let told = certified_told c.args.certified c.args.head cert c.kind-kind.result c.number-sort.result c.kind-kind.ensures (c.number-sort.ensures ∙ c.sort.ensures)
    in outcome (countable c.args.votes.now) _ _ _ _ _ _ _ few
    (long c.args.certified c.args.head c.args.slip.now c.args.own.now c.args.votes.now c.as_slice.result.now c.size.result c.votes_room.result c.size.ensures.size c.as_slice.ensures.bytes (c.votes_room.ensures.room few))
    c.append.ensures.answer c.append.ensures.short
    (λ e. adds_as _ (sym told) (let l : Adds c.args.fill.now.len c.append.new.fill.len (framed (kind_number c.kind-kind.result) c.args.head (cert_blocks c.number-sort.result c.args.head cert)) c.args.out.now c.append.new.out = let m = c.append.ensures.laid e in grind (arith, common_steps) in l))
