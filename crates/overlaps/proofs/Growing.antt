-- A class grows from one row: the frontier method takes in what a chain joins to it, and nothing else. Assumes nothing.
use mathlib.Core.Path.{◌≡◌, refl, sym, ap, ap₂, ◌∙◌, subst}
use mathlib.Core.Logic.{◌⊎◌, inl, inr, ◌↔◌}
use mathlib.Core.Bool.{true, false}
use mathlib.Core.List.{List}
use Prim.Native.Nat.{ℕ, zero, suc, ◌+◌, ◌-◌, ◌≤◌, ◌<◌, ◌^◌}
use native.Mathlib.Omega.{arith}
use Rattle.sets.specs.Lists.{◌∈◌, keep}
use Rattle.sets.specs.Sets.{has, union, before, lesser, lows, union_of}
use Rattle.sets.specs.Value.{width, rows, row}
use Rattle.sets.proofs.Tests.{never, same_or_not, lt_or_le}
use Rattle.sets.proofs.ListLaws.{keep_at, keep_of}
use Rattle.sets.proofs.Laws.{has_lt, parts_lt, sub_has}
use Rattle.sets.proofs.LowParts.{lows_sub}
use Rattle.sets.proofs.Members.{union_part, union_has}
use Rattle.sets.proofs.Order.{set_order, lesser_one, lesser_left, lesser_right}
use Rattle.sets.proofs.Parts.{same_parts, union_l, union_r, union_cases}
use Rattle.percolation.specs.Percolate.{overlap, Chain, alone, next, joined_by, shown}
use Rattle.percolation.proofs.Chains.{overlap_sym, last_in, chain_trans, joined_by_chain, chain_joined_by}
use Rattle.percolation.proofs.Maximal.{ShowsMaximal}
use Rattle.overlaps.specs.Model.{swept_from, Grown, grown, grown_from, class_at}
use Rattle.overlaps.proofs.Moves.{Among, Moved, Fits, moved_none, moved_both, moved_from, moved_rows, moved_fits, Parted, sweep_parts, Holding, holding_moved}
use Rattle.overlaps.proofs.Showing.{chain_keeps, Showing}
use Rattle.overlaps.proofs.Steps.{stepped, grown_next, grown_none, grown_end}

-- the class g of row i of the table T, where its rows before f are done: its rows are joined to row i, the done ones are near none past its end,
-- and its smallest clique and union come from joined sets and have counted the done ones
pub record Grows (k n : ℕ) (M T : List ℕ) (i : ℕ) (g : Grown) (f : ℕ) : Type 0 where
  pub moved : Moved (suc i) n T g.table
  pub start : i < g.end
  pub within : g.end ≤ n
  pub from : i ≤ f
  pub upto : f ≤ g.end
  pub joined : (x : ℕ) → i ≤ x → x < g.end → Chain (overlap k) M (row T i) (row g.table x)
  pub apart : (x y : ℕ) → i ≤ x → x < f → g.end ≤ y → y < n → overlap k (row g.table x) (row g.table y) ≡ false
  pub bears : (B : ℕ) × Chain (overlap k) M (row T i) B × (g.small ≡ lows k B)
  pub least : (x : ℕ) → i ≤ x → x < f → before (lows k (row g.table x)) g.small ≡ false
  pub part : (q : ℕ) → has q g.whole ≡ true → (B : ℕ) × Chain (overlap k) M (row T i) B × (has q B ≡ true)
  pub holds : (x q : ℕ) → i ≤ x → x < f → has q (row g.table x) ≡ true → has q g.whole ≡ true

module _ (k n : ℕ) (M T : List ℕ) (long : n ≤ rows T) (fits : Fits n T) (rowsM : Holding n M T) (i : ℕ) (inside : i < n) where
  grows_first : Grows k n M T i (grown T (suc i) (lows k (row T i)) (row T i)) i
  grows_first = record {
    moved = moved_none (suc i) n T;
    start = omega arith;
    within = omega arith;
    from = omega arith;
    upto = omega arith;
    joined = λ x l h. let e : x ≡ i = omega arith in subst (λ (z : ℕ). Chain (overlap k) M (row T i) (row T z)) (sym e) self;
    apart = λ x y l h. absurd (omega arith);
    bears = (row T i, self, refl);
    least = λ x l h. absurd (omega arith);
    part = λ q h. (row T i, self, h);
    holds = λ x q l h. absurd (omega arith);
  }
    where
      self : Chain (overlap k) M (row T i) (row T i)
      self = alone (rowsM.row_in i inside)

  grows_next : (g : Grown) (f : ℕ) → f < g.end → Grows k n M T i g f → Grows k n M T i (stepped k n g f) (suc f)
  grows_next g f lt h = record {
    moved = moved_both (suc i) n T g.table U h.moved (moved_from (suc i) g.end n g.table U h.start p.moved);
    start = omega (arith, h.start, p.more);
    within = p.within;
    from = omega (arith, h.from);
    upto = omega (arith, p.more);
    joined = λ x l b. join x l b (lt_or_le x g.end);
    apart = λ x y l b. away x y l b (same_or_not x f);
    bears = lesser_one g.small (lows k s) (λ v. (B : ℕ) × Chain (overlap k) M (row T i) B × (v ≡ lows k B)) h.bears (s, own, refl);
    least = λ x l b. low x l b (same_or_not x f);
    part = λ q t. parts q (union_cases q g.whole s t);
    holds = λ x q l b. hold x q l b (same_or_not x f);
  }
    where
      s : ℕ
      s = row g.table f

      U : List ℕ
      U = (swept_from (n - g.end) k s g.table g.end g.end).table

      e : ℕ
      e = (swept_from (n - g.end) k s g.table g.end g.end).end

      p : Parted k s g.end n g.table U e
      p =
          sweep_parts k s g.end n g.table (omega (arith, moved_rows (suc i) n T g.table h.moved))
          (moved_fits (suc i) n T g.table h.moved fits) (n - g.end) (omega (arith, h.within))

      members : Holding n M U
      members = holding_moved g.end n M g.table U p.moved (holding_moved (suc i) n M T g.table h.moved rowsM)

      own : Chain (overlap k) M (row T i) s
      own = h.joined f h.from lt

      -- rows of the class so far are where they were
      kept : (x : ℕ) → x < g.end → row U x ≡ row g.table x
      kept = p.moved.kept

      join : (x : ℕ) → i ≤ x → x < e → (x < g.end) ⊎ (g.end ≤ x) → Chain (overlap k) M (row T i) (row U x)
      join x l b (inl y) = subst (Chain (overlap k) M (row T i)) (sym (kept x y)) (h.joined x l y)
      join x l b (inr y) = chain_trans own (next (last_in own) (p.near x y b) (alone (members.row_in x (omega (arith, p.within)))))

      away : (x y : ℕ) → i ≤ x → x < suc f → (x ≡ f) ⊎ (x ≡ f → ⊥) → e ≤ y → y < n → overlap k (row U x) (row U y) ≡ false
      away x y l b (inl q) le ly = ap (λ (z : ℕ). overlap k z (row U y)) (ap (row U) q ∙ kept f lt) ∙ p.far y le ly
      away x y l b (inr q) le ly =
          let r = p.moved.to y (omega (arith, p.more)) ly in
          ap₂ (overlap k) (kept x (omega arith)) r.3 ∙ h.apart x r.0 l (omega arith) r.1 r.2

      low : (x : ℕ) → i ≤ x → x < suc f → (x ≡ f) ⊎ (x ≡ f → ⊥) → before (lows k (row U x)) (lesser g.small (lows k s)) ≡ false
      low x l b (inl q) =
          ap (λ (z : ℕ). before (lows k z) (lesser g.small (lows k s))) (ap (row U) q ∙ kept f lt)
          ∙ lesser_right g.small (lows k s) (lows k s) (set_order.irrefl (lows k s))
      low x l b (inr q) =
          ap (λ (z : ℕ). before (lows k z) (lesser g.small (lows k s))) (kept x (omega arith))
          ∙ lesser_left g.small (lows k s) (lows k (row g.table x)) (h.least x l (omega arith))

      parts : (q : ℕ) → (has q g.whole ≡ true) ⊎ (has q s ≡ true) → (B : ℕ) × Chain (overlap k) M (row T i) B × (has q B ≡ true)
      parts q (inl t) = h.part q t
      parts q (inr t) = (s, own, t)

      hold : (x q : ℕ) → i ≤ x → x < suc f → (x ≡ f) ⊎ (x ≡ f → ⊥) → has q (row U x) ≡ true → has q (union g.whole s) ≡ true
      hold x q l b (inl d) t = union_r q g.whole s (ap (has q) (sym (ap (row U) d ∙ kept f lt)) ∙ t)
      hold x q l b (inr d) t = union_l q g.whole s (h.holds x q l (omega arith) (ap (has q) (sym (kept x (omega arith))) ∙ t))

  grows_all : (d : ℕ) (g : Grown) (f : ℕ) → n ≤ f + d → Grows k n M T i g f → Grows k n M T i (grown_from d k n g f) (grown_from d k n g f).end
  grows_all zero g f l h = rw (grown_none k n g f) (subst (Grows k n M T i g) (omega (arith, h.upto, h.within)) h)
  grows_all (suc d) g f l h = go (lt_or_le f g.end) (grows_all d)
    where
      go : (f < g.end) ⊎ (g.end ≤ f)
          → ((g' : Grown) (f' : ℕ) → n ≤ f' + d → Grows k n M T i g' f' → Grows k n M T i (grown_from d k n g' f') (grown_from d k n g' f').end)
          → Grows k n M T i (grown_from (suc d) k n g f) (grown_from (suc d) k n g f).end
      go (inl x) ih = rw (grown_next d k n g f x) (ih (stepped k n g f) (suc f) (omega arith) (grows_next g f x h))
      go (inr x) ih = rw (grown_end (suc d) k n g f x) (subst (Grows k n M T i g) (omega (arith, h.upto)) h)

  pub grows_class : Grows k n M T i (class_at k n T i) (class_at k n T i).end
  unfolding class_at
  grows_class = grows_all (n - i) (grown T (suc i) (lows k (row T i)) (row T i)) i (omega arith) grows_first

-- ---- a class is whole: no row before its end is near one from its end on

-- no row before e is near one from e on and below n
abbrev pub Closed : ℕ → ℕ → List ℕ → ℕ → Type 0
Closed k n T e = (x y : ℕ) → x < e → e ≤ y → y < n → overlap k (row T x) (row T y) ≡ false

-- what a chain joins to a row before e is one
pub closed_walk : (k n : ℕ) (M T : List ℕ) (e : ℕ) → Holding n M T → Closed k n T e → {a b : ℕ} → Chain (overlap k) M a b → Among 0 e T a → Among 0 e T b
closed_walk k n M T e h closed = chain_keeps (Among 0 e T) step
  where
    step : (a b : ℕ) → Among 0 e T a → overlap k a b ≡ true → b ∈ M → Among 0 e T b
    step a b (x, lx, hx, ex) t m = go (h.in_row b m)
      where
        pick : (y : ℕ) → y < n → b ≡ row T y → (y < e) ⊎ (e ≤ y) → Among 0 e T b
        pick y hy ey (inl l) = (y, omega arith, l, ey)
        pick y hy ey (inr l) = never (overlap k a b) t (ap₂ (overlap k) ex ey ∙ closed x y hx l hy)

        go : Among 0 n T b → Among 0 e T b
        go (y, ly, hy, ey) = pick y hy ey (lt_or_le y e)

module _ (k n : ℕ) (M T : List ℕ) (long : n ≤ rows T) (fits : Fits n T) (rowsM : Holding n M T) (i : ℕ) (inside : i < n) (closed : Closed k n T i) where
  abbrev U : List ℕ
  U = (class_at k n T i).table

  abbrev e : ℕ
  e = (class_at k n T i).end

  g : Grows k n M T i (class_at k n T i) e
  g = grows_class k n M T long fits rowsM i inside

  members : Holding n M U
  members = holding_moved (suc i) n M T U g.moved rowsM

  member_fits : (x : ℕ) → x ∈ M → x < 2 ^ width
  member_fits x m = let r = rowsM.in_row x m in subst (λ (z : ℕ). z < 2 ^ width) (sym r.3) (fits r.0 r.2)

  pub class_closed : Closed k n U e
  class_closed x y hx ly hy = go (lt_or_le x i)
    where
      go : (x < i) ⊎ (i ≤ x) → overlap k (row U x) (row U y) ≡ false
      go (inr l) = g.apart x y l hx ly hy
      go (inl l) =
          let r = g.moved.to y (omega (arith, g.start)) hy in
          ap₂ (overlap k) (g.moved.kept x (omega arith)) r.3 ∙ closed x r.0 l (omega (arith, r.1)) r.2

  -- what a chain joins to row i is a row of the class
  class_walk : {B : ℕ} → Chain (overlap k) M (row T i) B → Among i e U B
  class_walk c = chain_keeps (Among i e U) step c (i, omega arith, g.start, sym (g.moved.kept i (omega arith)))
    where
      moved : Moved i n T U
      moved = moved_from i (suc i) n T U (omega arith) g.moved

      step : (a b : ℕ) → Among i e U a → overlap k a b ≡ true → b ∈ M → Among i e U b
      step a b (x, lx, hx, ex) t m = go (members.in_row b m)
        where
          pick : (y : ℕ) → y < n → b ≡ row U y → (y < i) ⊎ (i ≤ y) → (y < e) ⊎ (e ≤ y) → Among i e U b
          pick y hy ey (inl l) q =
              let r = moved.to x lx (omega (arith, g.within)) in
              never (overlap k b a) (overlap_sym k a b t) (ap₂ (overlap k) (ey ∙ moved.kept y l) (ex ∙ r.3) ∙ closed y r.0 l r.1 r.2)
          pick y hy ey (inr l) (inl q) = (y, l, q, ey)
          pick y hy ey (inr l) (inr q) = never (overlap k a b) t (ap₂ (overlap k) ex ey ∙ class_closed x y hx q hy)

          go : Among 0 n U b → Among i e U b
          go (y, ly, hy, ey) = pick y hy ey (lt_or_le y i) (lt_or_le y e)

  -- the rows of the class are the members that a chain joins to row i
  pub class_joined : (B : ℕ) → Chain (overlap k) M (row T i) B ↔ Among i e U B
  class_joined B = (class_walk, λ a. subst (Chain (overlap k) M (row T i)) (sym a.3) (g.joined a.0 a.1 a.2))

  shows : ShowsMaximal k M (shown (class_at k n T i).small (class_at k n T i).whole)
  shows = record {
    base = row T i;
    bearer = g.bears.0;
    bears = g.bears.1;
    small = g.bears.2;
    least = λ B c. let r = class_walk c in ap (λ (z : ℕ). before (lows k z) small) r.3 ∙ g.least r.0 r.1 r.2;
    union = same_parts whole (union_of (keep (joined_by (overlap k) M (row T i)) M)) to fro;
  }
    where
      small : ℕ
      small = (class_at k n T i).small

      whole : ℕ
      whole = (class_at k n T i).whole

      to : (q : ℕ) → has q whole ≡ true → has q (union_of (keep (joined_by (overlap k) M (row T i)) M)) ≡ true
      to q h =
          let r = g.part q h in
          union_has q (keep (joined_by (overlap k) M (row T i)) M)
          (keep_at (joined_by (overlap k) M (row T i)) M (last_in r.1) (chain_joined_by (overlap k) (overlap_sym k) M (row T i) r.0 r.1)) r.2

      fro : (q : ℕ) → has q (union_of (keep (joined_by (overlap k) M (row T i)) M)) ≡ true → has q whole ≡ true
      fro q h =
          let r = union_part q (keep (joined_by (overlap k) M (row T i)) M) h in
          let b = keep_of (joined_by (overlap k) M (row T i)) M r.1 in
          let w = class_walk (joined_by_chain (overlap k) (overlap_sym k) M (row T i) r.0 b.1) in
          g.holds w.0 q w.1 w.2 (ap (has q) (sym w.3) ∙ r.2)

  pub class_shows : (x : ℕ) → i ≤ x → x < e → Showing k M (row U x) (shown (class_at k n T i).small (class_at k n T i).whole)
  unfolding shows
  class_shows x l h = (shows, g.joined x l h)

  -- what a class shows are sets that the code can hold
  pub small_fits : (class_at k n T i).small < 2 ^ width
  small_fits =
      let b = g.bears in
      parts_lt width (class_at k n T i).small (λ q h.
      has_lt width q b.0 (member_fits b.0 (last_in b.1)) (sub_has q (lows k b.0) b.0 (lows_sub b.0 k) (ap (has q) (sym b.2) ∙ h)))

  pub whole_fits : (class_at k n T i).whole < 2 ^ width
  whole_fits =
      parts_lt width (class_at k n T i).whole (λ q h.
      let b = g.part q h in
      has_lt width q b.0 (member_fits b.0 (last_in b.1)) b.2)
