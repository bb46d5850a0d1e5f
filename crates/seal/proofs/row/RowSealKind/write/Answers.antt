use Rattle.std.proofs.Common.{◌≡◌, ◌*◌, sym, ap, ◌∙◌, add-one, arith}
use Rattle.base.specs.Writing.{wrote}
use Rattle.base.proofs.Wrote.{put_next}
use Rattle.seal.specs.Tags.{tag_of, key_of, tags_below, row_seal}
use Rattle.seal.specs.Made.{length_tags, length_eight_bytes}
use Rattle.seal.proofs.row.RowSealKind.write.Goals as goal

pub loop-i-preserved : goal.loop-i-preserved
loop-i-preserved c room =
    let keys = c.args.ring.now.keys
    in let own = c.args.ring.now.own.0
    in let st = c.args.statement.now
    in let out = c.args.out.now
    in let i = c.loop-i.i
    in let T = tags_below i keys own st
    in let t = tag_of (key_of keys i) own st
    in let long = length_tags keys own st i
    in put_next 0 (8 * i) T t c.tag.result out c.loop-i.out c.put.new.out (c.loop-i.invariant room) c.tag.ensures.bytes (omega (arith, room)) (omega (arith, length_eight_bytes, room)) c.put.ensures.written
    ∙ ap (λ k. wrote 0 (tags_below k keys own st) out) (sym (add-one i))

pub returns : goal.returns
unfolding row_seal
returns c room =
    let s = c.args.ring.now
    in let all : c.loop-i.i ≡ 10 = omega arith
    in c.loop-i.invariant room ∙ ap (λ k. wrote 0 (tags_below k s.keys s.own.0 c.args.statement.now) c.args.out.now) all
