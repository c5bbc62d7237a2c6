-- A made sheet: the writer accepts its network, the reader accepts it and finds the links sorted, the part count and the names; how long it is, what its
-- links weigh; and what a call wrote of it, the reader reads. Assumes nothing.
use mathlib.Core.Path.{◌≡◌, refl, sym, ap, ap₂, ◌∙◌}
use mathlib.Core.Logic.{◌⊎◌, inl, inr}
use mathlib.Core.Bool.{Bool, true, false, ◌&&◌}
use mathlib.Core.List.{List, [], ◌∷◌, map}
use Prim.Native.Nat.{ℕ, zero, suc, ◌+◌, ◌*◌, ◌/◌, ◌%◌, ◌≤◌, ◌<◌}
use native.Mathlib.Omega.{arith}
use lib.Dec.{eqb, leb}
use lib.ListN.{length, get_or, take, drop, length-map, get_or-eq_default}
use lib.Seq.{ext_get_or, get_or-take, get_or-drop}
use borrow.Author.Tests.{eqb-true, eq-eqb, le-leb}
use Rattle.answers.specs.Verdict.{Verdict, accepted, unless, written}
use Rattle.answers.specs.Answers.{counts, says, say_of}
use Rattle.answers.specs.Answers.{Answer}
use Rattle.answers.proofs.Laws.{then_go}
use Rattle.sets.specs.Lists.{◌∈◌}
use Rattle.sets.proofs.Tests.{split, cond_go, cond_stop, and_intro, and_left, and_right, lt_or_le}
use Rattle.sets.proofs.ListLaws.{all_at, get_d_member, map_at}
use Rattle.percolation.specs.Links.{Link, link}
use Rattle.percolation.specs.Ranges.{narrow_count}
use Rattle.percolation.specs.Steps.{good_parts, legal}
use Rattle.percolation.proofs.Accepted.{parts_good}
use Rattle.link_order.specs.Order.{sort_links}
use Rattle.link_order.proofs.Sorted.{sort_legal, sort_length, sort_of}
use Rattle.part_names.specs.Names.{visible, spaces, visible_then_spaces, is_name, eight_at, check_names}
use Rattle.part_names.proofs.Form.{visible_range, each_name}
use Rattle.sheet.specs.Sheet.{parts, head_length, sheet_length, list_of, links_of, check_sheet}
use Rattle.std.specs.Prelude.{Result}
use Rattle.answers.specs.declared.Refusal.{Refusal}
use Rattle.sheet.specs.declared.Counts.{Counts}
use Rattle.sheet.specs.Network.{Network}
use Rattle.sheet.specs.Answers.{holds, sheet_says}
use Rattle.sheet.proofs.Lists.{list_of_length, list_of_at}
use Rattle.sheet_writer.specs.Writing.{parts_of, links_in, link_in, sheet_of, has_shape, check_network, check_write, WriteMeets}
use Rattle.sheet_reader.specs.Reading.{room_for, ReadMeets}
use Rattle.sheet_writer.specs.RoundTrip.{Held, Filled}
use Rattle.sheet_writer.proofs.Shape.{sheet_size}
use Rattle.sheet_writer.proofs.Sound.{network_passes}
use Rattle.sheet_writer.proofs.RoundTrip.{write_twin, network_again}
use Rattle.sheet_writer.proofs.Twins.{twin_links}
use Rattle.sheet_writer.proofs.Again.{write_read}
use Rattle.percolation.specs.Weights.{weight_sum}
use Rattle.made.specs.Made.{Proper, Named, made_network, made_sheet}
use Rattle.made.proofs.Sums.{sort_sum}

-- ---- the bytes of names are bytes

spaces_small : (x : List ℕ) (i : ℕ) → spaces x ≡ true → get_or x i 0 < 256
unfolding spaces
spaces_small [] i h = omega arith
spaces_small (b ∷ x) zero h = omega (arith, eqb-true b 32 (and_left (eqb b 32) (spaces x) h))
spaces_small (b ∷ x) (suc i) h = spaces_small x i (and_right (eqb b 32) (spaces x) h)

rest_small : (x : List ℕ) (i : ℕ) → visible_then_spaces x ≡ true → get_or x i 0 < 256
unfolding visible_then_spaces
rest_small [] i h = omega arith
rest_small (b ∷ x) i h = go (split (visible b)) i (rest_small x)
  where
    go : (visible b ≡ true) ⊎ (visible b ≡ false) → (i : ℕ) → ((j : ℕ) → visible_then_spaces x ≡ true → get_or x j 0 < 256) → get_or (b ∷ x) i 0 < 256
    go (inl v) zero rest = omega (arith, (visible_range b v).1)
    go (inl v) (suc j) rest = rest j (cond_go (visible b) (visible_then_spaces x) (spaces (b ∷ x)) v refl ∙ h)
    go (inr v) j rest = spaces_small (b ∷ x) j (cond_stop (visible b) (visible_then_spaces x) (spaces (b ∷ x)) v refl ∙ h)

name_small : (x : List ℕ) (i : ℕ) → is_name x ≡ true → get_or x i 0 < 256
unfolding is_name
name_small [] i h = omega arith
name_small (b ∷ x) zero h = omega (arith, (visible_range b (and_left (visible b) (visible_then_spaces x) h)).1)
name_small (b ∷ x) (suc i) h = rest_small x i (and_right (visible b) (visible_then_spaces x) h)

names_small : (names : List ℕ) (p : ℕ) → Named names p → (i : ℕ) → get_or names i 0 < 256
names_small names p n i = go (lt_or_le i (8 * p))
  where
    go : (i < 8 * p) ⊎ (8 * p ≤ i) → get_or names i 0 < 256
    go (inl l) =
        let q = i / 8 in
        let j = i % 8 in
        let h : q < p = omega arith in
        let s : 8 * q + j ≡ i = omega arith in
        let small = name_small (eight_at names (8 * q)) j (each_name (λ r. eight_at names (8 * r)) (λ r. 0) p n.passed q h) in
        let e : get_or (eight_at names (8 * q)) j 0 ≡ get_or names i 0 =
        get_or-take 8 (drop (8 * q) names) j 0 (omega arith) ∙ get_or-drop (8 * q) names j 0 ∙ ap (λ (k : ℕ). get_or names k 0) s in
        omega (arith, small, e)
    go (inr l) = omega (arith, get_or-eq_default names 0 {n = i} (omega (arith, n.long)))

-- ---- the network

module _ (names : List ℕ) (K : List Link) where
  abbrev net : Network
  net = made_network names K

  number : links_in net ≡ length K
  unfolding made_network
  number = length-map (sort_links K) (λ l. l.low) ∙ sort_length K

  link_at_lem : (j : ℕ) → j < length (sort_links K) → link_in net j ≡ get_or (sort_links K) j (link 0 0 0)
  unfolding made_network link_in
  link_at_lem j l =
      let d = link 0 0 0 in
      let m = get_or (sort_links K) j d in
      ap₂ (λ (a b : ℕ). link a b (get_or (map (λ k. k.weight) (sort_links K)) j 0))
      (map_at (λ k. k.low) (sort_links K) j d 0 l) (map_at (λ k. k.high) (sort_links K) j d 0 l)
      ∙ ap (link m.low m.high) (map_at (λ k. k.weight) (sort_links K) j d 0 l)

  -- its links
  pub made_links : list_of (link_in net) (links_in net) ≡ sort_links K
  made_links = ext_get_or (link 0 0 0) all_links (sort_links K) (size ∙ number ∙ sym (sort_length K)) each
    where
      all_links : List Link
      all_links = list_of (link_in net) (links_in net)

      size : length all_links ≡ links_in net
      size = list_of_length (link_in net) (links_in net)

      each : (j : ℕ) → j < length all_links → get_or all_links j (link 0 0 0) ≡ get_or (sort_links K) j (link 0 0 0)
      each j l =
          list_of_at (link_in net) (links_in net) j (link 0 0 0) (omega (arith, size)) ∙ link_at_lem j (omega (arith, size, number, sort_length K))

  -- how long its sheet is
  pub made_length : length (made_sheet names K) ≡ sheet_length (length names) (length K)
  unfolding made_sheet made_network
  made_length = omega (arith, sheet_size net, number)

module _ (names : List ℕ) (K : List Link) (p : ℕ) (n : Named names p) (ok : Proper p K) where
  count : parts_of (net names K) ≡ p
  unfolding made_network
  count = omega (arith, n.long)

  shape : has_shape (net names K) ≡ true
  unfolding made_network has_shape
  shape =
      and_intro (eqb (length names % 8) 0) _ (eq-eqb (length names % 8) 0 (omega (arith, n.long)))
      (and_intro (eqb (length (map (λ l. l.high) (sort_links K))) (links_in (net names K))) _
      (eq-eqb _ _ (length-map (sort_links K) (λ l. l.high) ∙ sym (length-map (sort_links K) (λ l. l.low))))
      (eq-eqb _ _ (length-map (sort_links K) (λ l. l.weight) ∙ sym (length-map (sort_links K) (λ l. l.low)))))

  sorted_legal : legal p (sort_links K) ≡ true
  sorted_legal = sort_legal p K (all_at fits K each) ok.once
    where
      fits : Link → Bool
      fits l = good_parts p l && leb 1 l.weight

      each : (l : Link) → l ∈ K → fits l ≡ true
      each l m =
          let s = ok.each l m in
          and_intro (good_parts p l) (leb 1 l.weight) (parts_good p l s.lower s.higher) (le-leb 1 l.weight s.some)

  named : check_names (λ q. eight_at (net names K).names (8 * q)) (λ q. 0) (parts_of (net names K)) ≡ accepted
  unfolding made_network
  named = ap (check_names (λ q. eight_at names (8 * q)) (λ q. 0)) count ∙ n.passed

  -- the writer accepts it
  pub made_accepted : check_network (made_network names K) ≡ accepted
  made_accepted =
      network_passes (net names K) shape (ap narrow_count count ∙ n.count) named (ap₂ legal count (made_links names K) ∙ sorted_legal)

  short : (j : ℕ) → get_or (map (λ l. l.weight) (sort_links K)) j 0 < 65536
  short j = go (lt_or_le j (length (sort_links K)))
    where
      go : (j < length (sort_links K)) ⊎ (length (sort_links K) ≤ j) → get_or (map (λ l. l.weight) (sort_links K)) j 0 < 65536
      go (inl l) =
          let d = link 0 0 0 in
          let m = sort_of K (get_d_member (sort_links K) j d l) in
          omega (arith, map_at (λ k. k.weight) (sort_links K) j d 0 l, (ok.each (get_or (sort_links K) j d) m).most)
      go (inr l) =
          omega (arith, get_or-eq_default (map (λ k. k.weight) (sort_links K)) 0 {n = j} (omega (arith, length-map (sort_links K) (λ k. k.weight))))

  pub made_held : Held (made_network names K)
  unfolding made_network
  made_held = record { small = names_small names p n; short = short }

  -- what the writer answers
  pub made_write : (room : ℕ) → check_write (made_network names K) room ≡ unless (leb (length (made_sheet names K)) room) 16 0
  unfolding check_write made_sheet
  made_write room = then_go (check_network (net names K)) (unless (leb (length (sheet_of (net names K))) room) 16 0) made_accepted

  -- what a call of the writer did: 16, or the made sheet's bytes
  pub made_meets : (old new : List ℕ) (r : Answer) → WriteMeets (made_network names K) old r new
      → (says r ≡ say_of (unless (leb (length (made_sheet names K)) (length old)) 16 0) (length (made_sheet names K)))
      × (new ≡ written (unless (leb (length (made_sheet names K)) (length old)) 16 0) (made_sheet names K) old)
  unfolding made_sheet
  made_meets old new r w = (
    w.answer ∙ ap (λ (v : Verdict). say_of v (length (made_sheet names K))) (made_write (length old)),
    w.bytes ∙ ap (λ (v : Verdict). written v (made_sheet names K) old) (made_write (length old)),
  )

  -- ---- the sheet, read

  pub made_sheet_lem : check_sheet (made_sheet names K) ≡ accepted
  unfolding made_sheet
  made_sheet_lem = (network_again (net names K) made_held made_accepted).0

  pub made_parts : parts (made_sheet names K) ≡ p
  unfolding made_sheet
  made_parts = (write_twin (net names K) made_held made_accepted).count ∙ count

  pub made_links_of : links_of (made_sheet names K) ≡ sort_links K
  unfolding made_sheet
  made_links_of = twin_links (sheet_of (net names K)) (net names K) (write_twin (net names K) made_held made_accepted) ∙ made_links names K

  pub made_names : take (8 * parts (made_sheet names K)) (drop head_length (made_sheet names K)) ≡ names
  unfolding made_sheet made_network
  made_names = (write_twin (net names K) made_held made_accepted).named

  -- accepted, with these links, parts and names
  pub made_read : (check_sheet (made_sheet names K) ≡ accepted) × (links_of (made_sheet names K) ≡ sort_links K) × (parts (made_sheet names K) ≡ p)
      × (take (8 * parts (made_sheet names K)) (drop head_length (made_sheet names K)) ≡ names)
  made_read = (made_sheet_lem, made_links_of, made_parts, made_names)

  -- what its links weigh
  pub made_sum : weight_sum (links_of (made_sheet names K)) ≡ weight_sum K
  made_sum = ap weight_sum made_links_of ∙ sort_sum K

  -- ---- over the contracts: what a call wrote of it, the reader reads

  -- a call whose own checks let it pass wrote it as the writer must
  pub made_wrote : (old out : List ℕ) (a : Answer) (v : Verdict) → v ≡ unless (leb (length (made_sheet names K)) (length old)) 16 0
      → says a ≡ say_of v (length (made_sheet names K)) → out ≡ written v (made_sheet names K) old → WriteMeets (made_network names K) old a out
  unfolding made_sheet
  made_wrote old out a v e told bytes =
      let same : v ≡ check_write (net names K) (length old) = e ∙ sym (made_write (length old)) in
      record {
        answer = told ∙ ap (λ (x : Verdict). say_of x (length (made_sheet names K))) same;
        bytes = bytes ∙ ap (λ (x : Verdict). written x (made_sheet names K) old) same;
      }

  -- into lists with room it is read again: p parts, the names, and the links sorted
  pub made_again : (old out : List ℕ) (a : Answer) (c : ℕ) → WriteMeets (made_network names K) old a out → says a ≡ counts c
      → (before after : Network) (r : Result Counts Refusal) → ReadMeets (take c out) before r after → room_for p (length K) before ≡ true
      → (sheet_says r ≡ holds p (length K)) × Filled (made_network names K) before after
  made_again old out a c wrote said before after r read space =
      let g = write_read (net names K) made_held old out a c wrote said before after r read
      (ap₂ (λ (n m : ℕ). room_for n m before) count (number names K) ∙ space) in
      (g.0 ∙ ap₂ holds count (number names K), g.1)
