-- The highest round that is called for, and the slip that a quorum names.
use Rattle.std.proofs.Common.{◌≡◌, ℕ, max, Bool, true, false, cond, List, [], ◌∷◌, map, Some, None, Option, refl, ap, ◌∙◌, arith}
use Rattle.std.specs.List.{filter, filter_map, cons_option, find, fold, reduce}
use Rattle.std.specs.Option.{option_map}
use Rattle.std.specs.Ordering.{max_by_ordering, nat_cmp}
use Rattle.std.specs.declared.cmp.Ordering.{Ordering}
use Rattle.std.specs.declared.cmp.Ordering.TheVariants.{Less, Equal, Greater}
use Rattle.std.proofs.lemmas.List.Folds.{max_of_map}
use Rattle.base.specs.declared.counters.Round.{Round}
use Rattle.base.specs.declared.slips.Slip.{Slip}
use Rattle.protocol.specs.Rounds.{higher_round, highest_round}
use Rattle.protocol.specs.State.{Latest as Stated}
use Rattle.protocol.specs.Turns.{agreed_of, agreed_in, agreed_slip, page_of}
use Rattle.ballots.specs.Views.{latest_view, latest_list, round_number, round_in}
use Rattle.ballots.specs.declared.latest.Latest.{Latest}

-- the first page that passes
module _ (q r : ℕ) (all : List (Option Stated)) where
  first_page : (p : Option Slip) (rest : List Slip) (o : Option Slip) → find (agreed_slip q r all) rest ≡ o → find (agreed_slip q r all) (cons_option p rest) ≡ agreed_in q r all p o
  first_page None rest o is = is
  first_page (Some s) rest o is = ap (λ z. cond (agreed_slip q r all s) (Some s) z) is

  pub agreed_found : (xs : List (Option Latest)) → find (agreed_slip q r all) (filter_map (λ (o : Option Latest). page_of (option_map latest_view o)) xs) ≡ agreed_of q r all (latest_list xs)
  agreed_found [] = refl
  agreed_found (x ∷ xs) = first_page (page_of (option_map latest_view x)) (filter_map (λ (o : Option Latest). page_of (option_map latest_view o)) xs) (agreed_of q r all (latest_list xs)) (agreed_found xs)

-- the highest of some rounds
abbrev pub highest_in : List ℕ → Option ℕ
highest_in [] = None
highest_in (n ∷ ns) = Some (higher_round n (highest_in ns))

max_first : (m n : ℕ) (o : Option ℕ) → higher_round (max m n) o ≡ higher_round m (Some (higher_round n o))
max_first m n None = refl
max_first m n (Some k) = let e : max (max m n) k ≡ max m (max n k) = omega arith in e

fold_max : (m : ℕ) (ns : List ℕ) → fold max m ns ≡ higher_round m (highest_in ns)
fold_max m [] = refl
fold_max m (n ∷ ns) = fold_max (max m n) ns ∙ max_first m n (highest_in ns)

-- the greater of two rounds, as `max` picks it
abbrev pub greater : Round → Round → Round
greater p z = max_by_ordering (nat_cmp p.0 z.0) p z

two_max : (m n : ℕ) → max_by_ordering (nat_cmp m n) m n ≡ max m n
two_max m n = max_of_map (λ (k : ℕ). k) (m ∷ n ∷ []) ∙ omega arith

picked : (o : Ordering) (p z : Round) → (max_by_ordering o p z).0 ≡ max_by_ordering o p.0 z.0
picked Less p z = refl
picked Equal p z = refl
picked Greater p z = refl

fold_greater : (r : Round) (rs : List Round) → (fold greater r rs).0 ≡ fold max r.0 (map round_number rs)
fold_greater r [] = refl
fold_greater r (x ∷ xs) = fold_greater (greater r x) xs ∙ ap (λ m. fold max m (map round_number xs)) (picked (nat_cmp r.0 x.0) r x ∙ two_max r.0 x.0)

highest_of : (rs : List Round) → option_map round_number (reduce greater rs) ≡ highest_in (map round_number rs)
highest_of [] = refl
highest_of (r ∷ rs) = ap Some (fold_greater r rs ∙ fold_max r.0 (map round_number rs))

module _ (test : ℕ → Bool) where
  tested : (b : Bool) (l : Latest) (xs : List (Option Latest)) → b ≡ test l.round.0 → highest_in (map round_number (filter (λ (r : Round). test r.0) (filter_map (option_map round_in) xs))) ≡ highest_round test (latest_list xs) → highest_in (map round_number (cond b (l.round ∷ filter (λ (r : Round). test r.0) (filter_map (option_map round_in) xs)) (filter (λ (r : Round). test r.0) (filter_map (option_map round_in) xs)))) ≡ highest_round test (latest_list (Some l ∷ xs))
  tested true l xs so is = ap (λ o. Some (higher_round l.round.0 o)) is ∙ ap (λ b. cond b (Some (higher_round l.round.0 (highest_round test (latest_list xs)))) (highest_round test (latest_list xs))) so
  tested false l xs so is = is ∙ ap (λ b. cond b (Some (higher_round l.round.0 (highest_round test (latest_list xs)))) (highest_round test (latest_list xs))) so

  above : (xs : List (Option Latest)) → highest_in (map round_number (filter (λ (r : Round). test r.0) (filter_map (option_map round_in) xs))) ≡ highest_round test (latest_list xs)
  above [] = refl
  above (None ∷ xs) = above xs
  above (Some l ∷ xs) = tested (test l.round.0) l xs refl (above xs)

  pub highest_found : (xs : List (Option Latest)) → option_map round_number (reduce greater (filter (λ (r : Round). test r.0) (filter_map (option_map round_in) xs))) ≡ highest_round test (latest_list xs)
  highest_found xs = highest_of (filter (λ (r : Round). test r.0) (filter_map (option_map round_in) xs)) ∙ above xs
