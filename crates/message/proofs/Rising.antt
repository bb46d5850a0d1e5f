-- Going through a quorum's seals, from one member to the next.
use Rattle.std.proofs.Common.{◌≡◌, ℕ, ◌+◌, Bool, true, false, cond, ◌&&◌, List, [], ◌∷◌, Some, None, Option, sym, ap, ◌∙◌, subst, refl, arith}
use Rattle.std.specs.declared.ops.ControlFlow.{ControlFlow}
use Rattle.std.specs.declared.ops.ControlFlow.TheVariants.{Continue, Break}
use Rattle.std.specs.Iterator.{Yields, TryFoldTurn, TryFoldsItems}
use Rattle.std.specs.List.{FoldsTo}
use Rattle.std.specs.Option.{option_map, is_some, MatchOption}
use Rattle.std.specs.Fn.{Called}
use denote.Param.Members.{Mut}
use Rattle.base.proofs.Back.{passed, some_one}
use Rattle.message.specs.Layout.{Place, left, whole}
use Rattle.message.specs.Shapes.{ended}
use Rattle.message.specs.Steps.{Nexted}
use Rattle.message.specs.Views.{place_of, entry_of}
use Rattle.message.specs.declared.readers.Body.{Body}
use Rattle.message.specs.declared.readers.Reader.{Reader}
use Rattle.message.proofs.Votes.{verdict, voting, verdict_more, verdict_bad, verdict_end}

stopped : {X : Type 0} (b : Bool) (x : X) → cond b (Some x) None ≡ None → b ≡ false
stopped false x is = refl
stopped true x is = absurd (let z : ◌≡◌ {A = ℕ} 0 1 = cc in omega arith)

-- one call of `next`
abbrev pub stepping : Reader → Option Body → Reader → Type 0
stepping s b t = Nexted (place_of s) (place_of t) (option_map entry_of b)

-- `f` passes a body that is a vote, and hands on the member that the next may have at least
module _ (sort n : ℕ) {F E : Type 0} (g : Mut F (ℕ × (Body × Unit {0})) (Option ℕ)) (branches : Option ℕ → ControlFlow E ℕ → Type 0) (resumes : E → Option ℕ → Type 0) (f : F)
    (acts : (low : ℕ) (b : Body) (v : Option ℕ) (q : F) → Called g f (low, (b, tt)) v q → (q ≡ f) × (v ≡ cond (voting sort n low (entry_of b)) (Some (b.member.0 + 1)) None))
    (goes : (v : Option ℕ) (k : ℕ) → branches v (Continue k) → v ≡ Some k)
    (breaks : (v : Option ℕ) (e : E) → branches v (Break e) → v ≡ None)
    (ends : (e : E) (v : Option ℕ) → resumes e v → v ≡ None) where
  -- bodies that were passed are votes
  along : (xs : List Body) (s t : Reader) (low a : ℕ) (f' : F) → Yields stepping s xs t → FoldsTo (TryFoldTurn g branches) (f, low) xs (f', a) → (f' ≡ f) × (verdict sort n low (place_of s) ≡ verdict sort n a (place_of t))
  along [] s t low a f' y d = (ap (λ (p : F × ℕ). p.0) (sym d), λ i. verdict sort n (d i).1 (place_of (y i)))
  along (x ∷ xs) s t low a f' y d =
      let k = acts low x d.1.0 d.0.0 d.1.1
      in let some : cond (voting sort n low (entry_of x)) (Some (x.member.0 + 1)) None ≡ Some d.0.1 = sym k.1 ∙ goes d.1.0 d.0.1 d.1.2
      in let p = passed (voting sort n low (entry_of x)) (Some (x.member.0 + 1)) d.0.1 some
      in let next : x.member.0 + 1 ≡ d.0.1 = some_one _ _ p.1
      in let P : F × ℕ → Type 0 = λ m. FoldsTo (TryFoldTurn g branches) m xs (f', a)
      in let rest : FoldsTo (TryFoldTurn g branches) (f, x.member.0 + 1) xs (f', a) = subst P (λ i. (k.0 i, sym next i)) d.2
      in let r = along xs y.0 t (x.member.0 + 1) a f' y.2 rest
      in (r.0, verdict_more sort n low (place_of s) (place_of y.0) (entry_of x) y.1.0 y.1.1.0 y.1.1.1 p.0 ∙ r.1)

  -- the last call of `next` and what follows it decide
  last : (o : Option Body) (t u : Reader) (a : ℕ) (r : Option ℕ) → stepping t o u
      → MatchOption o (branches r (Continue a)) (λ x. (v : Option ℕ) × (h : F) × (e : E) × Called g f (a, (x, tt)) v h × branches v (Break e) × resumes e r)
      → (is_some r && (ended (left (place_of u)) && whole (place_of u))) ≡ verdict sort n a (place_of t)
  last None t u a r s m =
      ap (λ x. is_some x && (ended (left (place_of u)) && whole (place_of u))) (goes r a m)
      ∙ ap (λ (p : Place). ended (left p) && whole p) s.1 ∙ verdict_end sort n a (place_of t) s.0
  last (Some x) t u a r s m =
      let k = acts a x m.0 m.1 m.3
      in let none : cond (voting sort n a (entry_of x)) (Some (x.member.0 + 1)) None ≡ None = sym k.1 ∙ breaks m.0 m.2 m.4
      in ap (λ z. is_some z && (ended (left (place_of u)) && whole (place_of u))) (ends m.2 r m.5)
      ∙ sym (verdict_bad sort n a (place_of t) (place_of u) (entry_of x) s.0 s.1.0 s.1.1 (stopped _ _ none))

  pub risen : (s u : Reader) (r : Option ℕ) (low : ℕ) → TryFoldsItems stepping g branches resumes s f low r u → (is_some r && (ended (left (place_of u)) && whole (place_of u))) ≡ verdict sort n low (place_of s)
  risen s u r low ran =
      let w = along ran.0 s ran.4.0 low ran.3 ran.2 ran.4.1 ran.5
      in let P : F → Type 0 = λ h. MatchOption ran.1 (branches r (Continue ran.3)) (λ x. (v : Option ℕ) × (q : F) × (e : E) × Called g h (ran.3, (x, tt)) v q × branches v (Break e) × resumes e r)
      in last ran.1 ran.4.0 u ran.3 r ran.4.2 (subst P w.0 ran.6) ∙ sym w.1
