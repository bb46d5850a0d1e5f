use Rattle.std.proofs.Common.{◌≡◌, ℕ, ◌+◌, List, ◌++◌, length, refl, ap, ◌∙◌, arith, rules}
use Rattle.std.proofs.lemmas.List.{length-append, append_assoc}
use Rattle.base.specs.Numbers.{be4}
use Rattle.base.specs.Writing.{wrote}
use Rattle.base.proofs.Wrote.{put_next}
use Rattle.base.proofs.slips.Slip.write.Goals as goal

pub returns-clause-written : goal.returns-clause-written
returns-clause-written c =
    let s = c.args.self.now
    in let p : List ℕ = s.parent.0
    in let o : List ℕ = s.own.0
    in let at = c.args.at
    in let out : List ℕ = c.args.out.now
    in let long-p : length p ≡ 32 = search rules
    in let long-o : length o ≡ 32 = search rules
    in let e1 = c.put.ensures.written (omega arith)
    in let e2 = put_next at (at + 32) p o o out _ _ e1 refl (omega arith) (omega arith) c.put-2.ensures.written
    in let e3 = put_next at (at + 64) (p ++ o) (be4 s.lots) _ out _ _ e2 c.to_be_bytes.ensures (simp length-append (omega arith)) (omega arith) c.put-3.ensures.written
    in let e4 = put_next at (at + 68) ((p ++ o) ++ be4 s.lots) (be4 s.maker) _ out _ _ e3 c.to_be_bytes-2.ensures (simp length-append (omega arith)) (omega arith) c.put-4.ensures.written
    in λ h. e4 ∙ ap (λ z. wrote at z out) (append_assoc (p ++ o) (be4 s.lots) (be4 s.maker) ∙ append_assoc p o (be4 s.lots ++ be4 s.maker))
