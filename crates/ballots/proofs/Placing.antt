-- Places for members: reading, setting and blanking them, seen through what they stand for.
use Rattle.std.proofs.Common.{◌≡◌, ℕ, zero, suc, ◌<◌, ◌≤◌, Bool, true, false, cond, List, [], ◌∷◌, ◌++◌, map, length, get_or, take, drop, set, replicate, Some, None, Option, sym, refl, ap, ◌∙◌, arith}
use Rattle.std.proofs.lemmas.List.{drop-map, get_or-take, get_or_default, length-take, map-append, map-set, set_past, take-replicate, length-map}
use Rattle.ballots.specs.Views.{latest_view, latest_list, committed, commit_view, records_view}
use Rattle.ballots.specs.declared.commits.Commit.{Commit}
use Rattle.ballots.specs.declared.commits.CommitRecord.{CommitRecord}
use Rattle.ballots.specs.declared.latest.Latest.{Latest}
use Rattle.base.specs.declared.slips.Slip.{Slip}
use Rattle.std.specs.Option.{option_map}
use Rattle.protocol.specs.Turns.{commits_to, noted}

pub map_replicate : {X Y : Type 0} (f : X → Y) (n : ℕ) (x : X) → map f (replicate n x) ≡ replicate n (f x)
map_replicate f zero x = refl
map_replicate f (suc n) x = ap (λ ys. f x ∷ ys) (map_replicate f n x)

-- the default is seen, too
pub get_d_seen : {X Y : Type 0} (f : X → Y) (xs : List X) (i : ℕ) (d : X) → get_or (map f xs) i (f d) ≡ f (get_or xs i d)
get_d_seen f [] i d = refl
get_d_seen f (x ∷ xs) zero d = refl
get_d_seen f (x ∷ xs) (suc i) d = get_d_seen f xs i d

take_of_set : {X : Type 0} (n : ℕ) (xs : List X) (i : ℕ) (x : X) → take n (set xs i x) ≡ set (take n xs) i x
take_of_set zero xs i x = refl
take_of_set (suc n) [] i x = refl
take_of_set (suc n) (y ∷ xs) zero x = refl
take_of_set (suc n) (y ∷ xs) (suc i) x = ap (λ ys. y ∷ ys) (take_of_set n xs i x)

-- ten places with nothing in them
pub none_stated : (n : ℕ) (xs : List (Option Latest)) → n ≤ 10 → xs ≡ replicate 10 None → latest_list (take n xs) ≡ replicate n None
none_stated n xs h is =
    ap (λ ys. latest_list (take n ys)) is
    ∙ ap latest_list (take-replicate n 10 None h)
    ∙ map_replicate (option_map latest_view) n None

pub stated_at : (n : ℕ) (xs : List (Option Latest)) (i : ℕ) → i < n → option_map latest_view (get_or xs i None) ≡ get_or (latest_list (take n xs)) i None
stated_at n xs i h = sym (get_d_seen (option_map latest_view) (take n xs) i None ∙ ap (option_map latest_view) (get_or-take n xs i None h))

pub stated_set : (n : ℕ) (xs : List (Option Latest)) (i : ℕ) (l : Latest) → latest_list (take n (set xs i (Some l))) ≡ set (latest_list (take n xs)) i (Some (latest_view l))
stated_set n xs i l = ap latest_list (take_of_set n xs i (Some l)) ∙ map-set (option_map latest_view) (take n xs) i (Some l)

abbrev pub unused : CommitRecord
unused = record { commit = None }

-- a blank in each of the first n places
pub blanked : (n : ℕ) (was front : List CommitRecord) (r : CommitRecord) → n ≤ length was → commit_view r ≡ None → front ≡ replicate (length (take n was)) r → records_view (front ++ drop n was) ≡ replicate n None ++ drop n (records_view was)
blanked n was front r h blank e =
    let long : length (take n was) ≡ n = omega (arith, length-take n was)
    in ap (λ rs. records_view (rs ++ drop n was)) (e ∙ ap (λ k. replicate k r) long)
    ∙ map-append commit_view (replicate n r) (drop n was)
    ∙ ap (λ cs. cs ++ records_view (drop n was)) (map_replicate commit_view n r ∙ ap (replicate n) blank)
    ∙ ap (λ cs. replicate n None ++ cs) (sym (drop-map commit_view n was))

-- a commit that is noted, and one that is not
pub noted_new : (page : Slip) (i : ℕ) (c : Commit) (recs : List CommitRecord) (d : CommitRecord) → i < length recs → commits_to page (commit_view (get_or recs i d)) ≡ false → records_view (set recs i (record { commit = Some c })) ≡ noted page i (committed c) (records_view recs)
noted_new page i c recs d more other =
    map-set commit_view recs i (record { commit = Some c })
    ∙ sym (ap (λ b. cond b (records_view recs) (set (records_view recs) i (Some (committed c)))) (ap (commits_to page) (get_d_seen commit_view recs i unused ∙ ap commit_view (get_or_default recs i unused d more)) ∙ other))

pub noted_again : (page : Slip) (i : ℕ) (c : Commit) (recs : List CommitRecord) (d : CommitRecord) → i < length recs → commits_to page (commit_view (get_or recs i d)) ≡ true → records_view recs ≡ noted page i (committed c) (records_view recs)
noted_again page i c recs d more same =
    sym (ap (λ b. cond b (records_view recs) (set (records_view recs) i (Some (committed c)))) (ap (commits_to page) (get_d_seen commit_view recs i unused ∙ ap commit_view (get_or_default recs i unused d more)) ∙ same))

pub noted_past : (page : Slip) (i : ℕ) (c : Commit) (recs : List CommitRecord) → length recs ≤ i → records_view recs ≡ noted page i (committed c) (records_view recs)
noted_past page i c recs h =
    let long : length (records_view recs) ≤ i = omega (arith, length-map recs commit_view)
    in either (commits_to page (get_or (records_view recs) i None)) (records_view recs) (set (records_view recs) i (Some (committed c))) (sym (set_past (records_view recs) i (Some (committed c)) long))
  where
    either : {Y : Type 0} (b : Bool) (x y : Y) → x ≡ y → x ≡ cond b x y
    either true x y e = refl
    either false x y e = e
