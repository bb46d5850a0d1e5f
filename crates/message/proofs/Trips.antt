-- Written messages read back, and what is read is what was written.
use Rattle.std.proofs.Common.{◌≡◌, ℕ, ◌+◌, ◌-◌, ◌*◌, ◌≤◌, Bool, true, false, cond, eqb, List, length, get_or, Some, None, Option, refl, ap, ◌∙◌, subst, arith}
use Rattle.std.specs.Option.{option_map}
use Rattle.std.proofs.lemmas.Bool.{and_from, and_parts, eqb-true}
use Rattle.base.specs.Kinds.{kind_number, kind_of}
use Rattle.base.specs.Numbers.{Bytes}
use Rattle.base.specs.declared.pools.Pool.{Pool}
use Rattle.base.specs.declared.stages.Kind.{Kind}
use Rattle.base.specs.declared.stages.Kind.TheVariants.{Change, Lock, Select, Commit, Decide, Release}
use Rattle.base.proofs.Back.{passed, some_one}
use Rattle.message.specs.Contents.{Sent, on_content, on_sent}
use Rattle.message.specs.Encoding.{Block, blocks, framed, encoded, kind_in, Lawful}
use Rattle.message.specs.Layout.{count, left, opening, whole}
use Rattle.message.specs.RoundTrip.{fields, RoundTrip}
use Rattle.message.specs.Shapes.{and_then, content_of, head_of, in_range, laid, parsed}
use Rattle.message.proofs.Framed.{entries_plain, frame_back}
use Rattle.message.proofs.Holding.{content_held}
use Rattle.message.proofs.Lengths.{heads_small, short_content}
use Rattle.message.proofs.Putting.{bare, follows, content_first}
use Rattle.message.proofs.Taking.{came, head_lawful}
use Rattle.message.proofs.Written.{placed, left_framed, whole_framed, head_framed}

-- the number of a kind is of that kind alone
kind_back : (k : Kind) → kind_of (kind_number k) ≡ Some k
kind_back Change = refl
kind_back Lock = refl
kind_back Select = refl
kind_back Commit = refl
kind_back Decide = refl
kind_back Release = refl

kind_by : (t : Bool) (b : ℕ) (x k : Kind) (o : Option Kind) → (t ≡ true → b ≡ kind_number x) → (o ≡ Some k → b ≡ kind_number k) → cond t (Some x) o ≡ Some k → b ≡ kind_number k
kind_by true b x k o hit rest is = hit refl ∙ ap kind_number (some_one x k is)
kind_by false b x k o hit rest is = rest is

none_of : (b : ℕ) (k : Kind) → None ≡ Some k → b ≡ kind_number k
none_of b k is = absurd (let z : ◌≡◌ {A = ℕ} 0 1 = cc in omega arith)

kind_only : (b : ℕ) (k : Kind) → kind_of b ≡ Some k → b ≡ kind_number k
kind_only b k =
    kind_by (eqb b 1) b Change k _ (eqb-true b 1)
    (kind_by (eqb b 2) b Lock k _ (eqb-true b 2)
    (kind_by (eqb b 3) b Select k _ (eqb-true b 3)
    (kind_by (eqb b 4) b Commit k _ (eqb-true b 4)
    (kind_by (eqb b 5) b Decide k _ (eqb-true b 5)
    (kind_by (eqb b 6) b Release k None (eqb-true b 6) (none_of b k))))))

mapped_came : {X Y : Type 0} (f : X → Y) (o : Option X) (y : Y) → option_map f o ≡ Some y → (x : X) × (o ≡ Some x) × (f x ≡ y)
mapped_came f None y is = absurd (let z : ◌≡◌ {A = ℕ} 0 1 = cc in omega arith)
mapped_came f (Some x) y is = (x, refl, some_one _ _ is)

back : (pool : Pool) (n : ℕ) (s : Sent (List ℕ)) → n ≤ 80 → Lawful pool n s → fields pool n (encoded s) ≡ Some s
back pool n s small f =
    let k : Kind = kind_in s.content
    in let bs : List Block = blocks s.head s.content
    in let m : List ℕ = framed (kind_number k) s.head bs
    in let short = short_content pool n s.head s.content small f.content_lawful
    in let sizes = heads_small s.head f.head_lawful
    in let head : head_of m ≡ s.head = head_framed (kind_number k) s.head bs sizes.0 sizes.1
    in let entries : left (opening m) ≡ placed (12 + 4 * length bs) bs = left_framed (kind_number k) s.head bs short
    in let test : laid m ≡ true = and_from _ _ (whole_framed (kind_number k) s.head bs short) (ap in_range head ∙ f.head_lawful.ranges_hold)
    in let r = content_first pool n s.head s.content (12 + 4 * length bs) small f.content_lawful
    in let found : parsed pool n m ≡ Some (record { head = s.head; content = r.0 })
    = (λ t. cond (test t) (and_then (kind_back k t) (λ j. and_then (content_of j pool n (head t) (entries t)) (λ c. Some (record { head = head t; content = c })))) None)
    ∙ follows _ _ _ _ r.1 refl
    in ap (option_map (on_sent bare)) found ∙ (λ i. Some (record { head = s.head; content = r.2 i }))

-- a message that was read is what is written of what it says, which is lawful
only : (pool : Pool) (n : ℕ) (m : List ℕ) (s : Sent (List ℕ)) → Bytes m → fields pool n m ≡ Some s → (m ≡ encoded s) × Lawful pool n s
only pool n m s bytes is =
    let p = mapped_came (on_sent bare) (parsed pool n m) s is
    in let q = passed (laid m) _ p.0 p.1
    in let t = and_parts (whole (opening m)) (in_range (head_of m)) q.0
    in let r = came (kind_of (get_or m 0 0)) _ p.0 q.1
    in let u = came (content_of r.0 pool n (head_of m) (left (opening m))) _ p.0 r.2
    in let c = u.0
    in let plain = entries_plain m bytes (count m - 0) 0 (12 + 4 * count m)
    in let held = content_held r.0 pool n (head_of m) (left (opening m)) c plain u.1
    in let kind : get_or m 0 0 ≡ kind_number (kind_in (on_content bare c)) = kind_only (get_or m 0 0) r.0 r.1 ∙ ap kind_number held.kind_is
    in let says : record { head = head_of m; content = on_content bare c } ≡ s = ap (on_sent bare) (some_one _ _ u.2) ∙ p.2
    in let P : Sent (List ℕ) → Type 0 = λ x. (m ≡ encoded x) × Lawful pool n x
    in subst P says (
      frame_back m bytes t.0 ∙ (λ i. framed (kind i) (head_of m) (held.blocks_are i)),
      record { head_lawful = head_lawful m bytes t.1; content_lawful = held.lawful },
    )

pub round_trip : RoundTrip
round_trip =
    record {
      reads_back = back;
      reads_only = λ pool n m s bytes is. (only pool n m s bytes is).0;
      reads_lawful = λ pool n m s bytes is. (only pool n m s bytes is).1;
    }
