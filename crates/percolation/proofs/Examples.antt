-- P1 to P10 hold: one computed test over the table of specs/Examples.antt, one theorem, and closed facts beside it. Assumes nothing.
use mathlib.Core.Path.{◌≡◌, refl, ap, ap₂}
use mathlib.Core.Bool.{Bool, true, false, ◌&&◌}
use mathlib.Core.List.{List, [], ◌∷◌, ◌++◌, map}
use Prim.Native.Nat.{ℕ}
use lib.Dec.{eqb}
use borrow.Author.Tests.{eqb-true}
use Rattle.answers.specs.Verdict.{Verdict, accepted, refused}
use Rattle.sets.specs.Lists.{◌∈◌, all}
use Rattle.sets.proofs.Tests.{never as clash, and_left, and_right}
use Rattle.sets.proofs.ListLaws.{all_of}
use Rattle.percolation.specs.Percolate.{overlap, joined_by, Community, shown, listing_bytes}
use Rattle.percolation.specs.Links.{Link, link, listing, slots, family, maximals}
use Rattle.percolation.specs.Levels.{Meeting, met, never, meeting}
use Rattle.percolation.specs.Steps.{insert, remaining_links, step_answers}
use Rattle.percolation.specs.Tree.{Line, line, tree, tree_bytes}
use Rattle.percolation.specs.Mean.{family_links, Mean, mean, mean_of}
use Rattle.percolation.specs.Strength.{weights_in, weakest_of, by_weakest, strong}
use Rattle.percolation.specs.Examples.{Asked, lists, meets, needs, gets, leaves, grows, weighs, Row, Says, RowHolds, table, sheet1, sheet5, sheet8, sheet9, sheet10}

-- ---- the test

abbrev same_list : {A : Type 0} → (A → A → Bool) → List A → List A → Bool
same_list f [] [] = true
same_list f [] (y ∷ m) = false
same_list f (x ∷ l) [] = false
same_list f (x ∷ l) (y ∷ m) = f x y && same_list f l m

abbrev same_shown_lem : Community → Community → Bool
same_shown_lem x y = eqb x.small y.small && eqb x.whole y.whole

abbrev same_meeting : Meeting → Meeting → Bool
same_meeting (met v) (met w) = eqb v w
same_meeting (met v) never = false
same_meeting never (met w) = false
same_meeting never never = true

abbrev same_verdict : Verdict → Verdict → Bool
same_verdict accepted accepted = true
same_verdict accepted (refused n a) = false
same_verdict (refused n a) accepted = false
same_verdict (refused n a) (refused m b) = eqb n m && eqb a b

abbrev same_link_lem : Link → Link → Bool
same_link_lem x y = eqb x.low y.low && (eqb x.high y.high && eqb x.weight y.weight)

abbrev same_line : Line → Line → Bool
same_line x y =
    eqb x.weight y.weight
    && (eqb x.joins y.joins && (eqb x.into y.into && (eqb x.small y.small && eqb x.whole y.whole)))

abbrev same_mean : Mean → Mean → Bool
same_mean x y = eqb x.sum y.sum && eqb x.links y.links && (eqb x.quotient y.quotient && eqb x.remainder y.remainder)

test : List Link → ℕ → ℕ → Asked → Bool
unfolding listing meeting slots family remaining_links step_answers tree mean_of family_links
test L p k (lists t C) = same_list same_shown_lem (listing L p k t) C
test L p k (meets a b m) = same_meeting (meeting L p k a b) m
test L p k (needs t n) = eqb (slots p k (family L p k t)) n
test L p k (gets n X r) = same_list same_verdict (step_answers p k n [] (map insert L ++ X)) r
test L p k (leaves n X M) = same_list same_link_lem (remaining_links p k n [] (map insert L ++ X)) M
test L p k (grows X) = same_list same_line (tree L p k) X
test L p k (weighs t c m) = same_mean (mean_of (family_links L p k t c)) m

passes : Row → Bool
unfolding test
passes r = test r.links r.parts r.k r.asked

passed : all passes table ≡ true
unfolding all passes
passed = refl

-- ---- a test that passes shows its equation

both_same : {A : Type 0} (f : ℕ → ℕ → A) (a b c d : ℕ) → eqb a b && eqb c d ≡ true → f a c ≡ f b d
both_same f a b c d t = ap₂ f (eqb-true a b (and_left (eqb a b) (eqb c d) t)) (eqb-true c d (and_right (eqb a b) (eqb c d) t))

list_same : {A : Type 0} (f : A → A → Bool) → ((x y : A) → f x y ≡ true → x ≡ y) → (l m : List A) → same_list f l m ≡ true → l ≡ m
list_same f h [] [] t = refl
list_same f h [] (y ∷ m) t = clash false t refl
list_same f h (x ∷ l) [] t = clash false t refl
list_same {A} f h (x ∷ l) (y ∷ m) t =
    ap₂ (λ (a : A) (r : List A). a ∷ r) (h x y (and_left (f x y) (same_list f l m) t)) (list_same f h l m (and_right (f x y) (same_list f l m) t))

shown_same : (x y : Community) → same_shown_lem x y ≡ true → x ≡ y
shown_same x y t = both_same shown x.small y.small x.whole y.whole t

meeting_same : (x y : Meeting) → same_meeting x y ≡ true → x ≡ y
meeting_same (met v) (met w) t = ap met (eqb-true v w t)
meeting_same (met v) never t = clash false t refl
meeting_same never (met w) t = clash false t refl
meeting_same never never t = refl

verdict_same : (x y : Verdict) → same_verdict x y ≡ true → x ≡ y
verdict_same accepted accepted t = refl
verdict_same accepted (refused n a) t = clash false t refl
verdict_same (refused n a) accepted t = clash false t refl
verdict_same (refused n a) (refused m b) t = both_same refused n m a b t

link_same : (x y : Link) → same_link_lem x y ≡ true → x ≡ y
link_same x y t =
    let r = and_right (eqb x.low y.low) (eqb x.high y.high && eqb x.weight y.weight) t in
    let e₀ = eqb-true x.low y.low (and_left (eqb x.low y.low) (eqb x.high y.high && eqb x.weight y.weight) t) in
    let e₁ = eqb-true x.high y.high (and_left (eqb x.high y.high) (eqb x.weight y.weight) r) in
    let e₂ = eqb-true x.weight y.weight (and_right (eqb x.high y.high) (eqb x.weight y.weight) r) in
    λ i. link (e₀ i) (e₁ i) (e₂ i)

line_same : (x y : Line) → same_line x y ≡ true → x ≡ y
line_same x y t =
    let d = eqb x.small y.small && eqb x.whole y.whole in
    let c = eqb x.into y.into in
    let b = eqb x.joins y.joins in
    let a = eqb x.weight y.weight in
    let t₁ = and_right a (b && (c && d)) t in
    let t₂ = and_right b (c && d) t₁ in
    let e₀ = eqb-true x.weight y.weight (and_left a (b && (c && d)) t) in
    let e₁ = eqb-true x.joins y.joins (and_left b (c && d) t₁) in
    let e₂ = eqb-true x.into y.into (and_left c d t₂) in
    let e₃ = shown_same (shown x.small x.whole) (shown y.small y.whole) (and_right c d t₂) in
    λ i. line (e₀ i) (e₁ i) (e₂ i) (e₃ i).small (e₃ i).whole

mean_same : (x y : Mean) → same_mean x y ≡ true → x ≡ y
mean_same x y t =
    let a = eqb x.sum y.sum && eqb x.links y.links in
    let b = eqb x.quotient y.quotient && eqb x.remainder y.remainder in
    let e = both_same {A = ℕ × ℕ} (λ s n. (s, n)) x.sum y.sum x.links y.links (and_left a b t) in
    let f = both_same {A = ℕ × ℕ} (λ q r. (q, r)) x.quotient y.quotient x.remainder y.remainder (and_right a b t) in
    λ i. mean (e i).0 (e i).1 (f i).0 (f i).1

sound : (L : List Link) (p k : ℕ) (q : Asked) → test L p k q ≡ true → Says L p k q
unfolding test
sound L p k (lists t C) h = list_same same_shown_lem shown_same (listing L p k t) C h
sound L p k (meets a b m) h = meeting_same (meeting L p k a b) m h
sound L p k (needs t n) h = eqb-true (slots p k (family L p k t)) n h
sound L p k (gets n X r) h = list_same same_verdict verdict_same (step_answers p k n [] (map insert L ++ X)) r h
sound L p k (leaves n X M) h = list_same same_link_lem link_same (remaining_links p k n [] (map insert L ++ X)) M h
sound L p k (grows X) h = list_same same_line line_same (tree L p k) X h
sound L p k (weighs t c m) h = mean_same (mean_of (family_links L p k t c)) m h

-- ---- P1 to P10

pub examples : (r : Row) → r ∈ table → RowHolds r
unfolding passes
examples r m = sound r.links r.parts r.k r.asked (all_of passes table passed m)

-- a listing of one community, 16 bytes
pub bytes3 : listing_bytes (shown 7 2047 ∷ []) ≡ 0 ∷ 0 ∷ 0 ∷ 0 ∷ 0 ∷ 0 ∷ 0 ∷ 7 ∷ 0 ∷ 0 ∷ 0 ∷ 0 ∷ 0 ∷ 0 ∷ 7 ∷ 255 ∷ []
unfolding listing_bytes
bytes3 = refl

-- the printed tree of P8: three lines of 26 bytes
pub tree8_bytes : tree_bytes (tree sheet8 5 3)
    ≡ (0 ∷ 4 ∷ 0 ∷ 0 ∷ 0 ∷ 0 ∷ 0 ∷ 0 ∷ 0 ∷ 3 ∷ 0 ∷ 0 ∷ 0 ∷ 0 ∷ 0 ∷ 0 ∷ 0 ∷ 7 ∷ 0 ∷ 0 ∷ 0 ∷ 0 ∷ 0 ∷ 0 ∷ 0 ∷ 7 ∷ [])
    ++ (0 ∷ 4 ∷ 0 ∷ 0 ∷ 0 ∷ 0 ∷ 0 ∷ 0 ∷ 0 ∷ 3 ∷ 0 ∷ 0 ∷ 0 ∷ 0 ∷ 0 ∷ 0 ∷ 0 ∷ 28 ∷ 0 ∷ 0 ∷ 0 ∷ 0 ∷ 0 ∷ 0 ∷ 0 ∷ 28 ∷ [])
    ++ (0 ∷ 2 ∷ 0 ∷ 0 ∷ 0 ∷ 2 ∷ 0 ∷ 0 ∷ 0 ∷ 0 ∷ 0 ∷ 0 ∷ 0 ∷ 0 ∷ 0 ∷ 0 ∷ 0 ∷ 7 ∷ 0 ∷ 0 ∷ 0 ∷ 0 ∷ 0 ∷ 0 ∷ 0 ∷ 31 ∷ [])
unfolding tree_bytes tree
tree8_bytes = refl

-- the maximal cliques of three parts or more, of P9 and of P10
pub maximals9 : maximals sheet9 11 3 ≡ 7 ∷ 14 ∷ 28 ∷ 56 ∷ 112 ∷ 224 ∷ 448 ∷ 896 ∷ 1057 ∷ 1792 ∷ []
unfolding maximals
maximals9 = refl

pub maximals10 : maximals sheet10 6 3 ≡ 15 ∷ 60 ∷ []
unfolding maximals
maximals10 = refl

-- inserts that get 6, 7, 8 and 9, and are followed by ones that are accepted
pub refusals : step_answers 3 3 10 []
    (map insert (link 1 0 5 ∷ link 0 3 5 ∷ link 0 1 0 ∷ link 0 1 5 ∷ link 0 2 6 ∷ link 0 2 5 ∷ link 0 1 4 ∷ link 1 2 4 ∷ []))
    ≡ refused 6 0 ∷ refused 6 0 ∷ refused 7 0 ∷ accepted ∷ refused 8 0 ∷ accepted ∷ refused 9 0 ∷ accepted ∷ []
unfolding step_answers
refusals = refl

-- maximal cliques that share fewer than k - 1 parts are apart: P5 and P10 by the maximal-clique run
pub apart5 : joined_by (overlap 3) (maximals sheet5 5 3) 7 28 ≡ false
unfolding joined_by overlap maximals
apart5 = refl

pub apart10 : joined_by (overlap 4) (maximals sheet10 6 4) 15 60 ≡ false
unfolding joined_by overlap maximals
apart10 = refl

-- the weights of cliques by lower then higher part, of P1 and of four parts with six weights; the weakest link, which need not be the first
abbrev sheet_four : List Link
sheet_four = link 2 3 9 ∷ link 1 3 8 ∷ link 1 2 7 ∷ link 0 3 6 ∷ link 0 2 5 ∷ link 0 1 4 ∷ []

pub weights1 : weights_in sheet1 4 7 ≡ 9 ∷ 9 ∷ 8 ∷ []
unfolding weights_in
weights1 = refl

pub weights_four : weights_in sheet_four 4 15 ≡ 4 ∷ 5 ∷ 6 ∷ 7 ∷ 8 ∷ 9 ∷ []
unfolding weights_in
weights_four = refl

pub weakest1 : weakest_of (weights_in sheet1 4 14) ≡ 5
unfolding weakest_of weights_in
weakest1 = refl

pub strong1 : strong sheet1 4 3 (by_weakest sheet1 4 8) ≡ 7 ∷ []
unfolding strong by_weakest
strong1 = refl
