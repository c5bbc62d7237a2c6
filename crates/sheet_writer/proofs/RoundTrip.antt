-- An accepted sheet, read and written again, has the same bytes; an accepted network, written and read again, has the same lists. Assumes nothing.
use mathlib.Core.Path.{◌≡◌, refl, sym, ap, ap₂, ◌∙◌}
use mathlib.Core.Logic.{◌⊎◌, inl, inr}
use mathlib.Core.Bool.{true}
use mathlib.Core.List.{[], List, ◌∷◌, ◌++◌, map, flatten}
use Prim.Native.Nat.{ℕ, zero, suc, ◌+◌, ◌*◌, ◌/◌, ◌%◌, ◌<◌, ◌≤◌}
use native.Mathlib.Omega.{arith}
use lib.Dec.{eqb, leb}
use lib.ListN.{length, get_or, take, drop, length-drop, take-append-drop, get_or-append}
use lib.Seq.{drop-cons, length-take-le, take_all, take-add, take_at, drop-drop, get_or-drop, get_or-append-add}
use borrow.Author.Tests.{eqb-true, eq-eqb, le-leb}
use Rattle.answers.specs.Verdict.{accepted}
use Rattle.answers.proofs.Laws.{order_each}
use Rattle.sets.proofs.Tests.{and_intro, and_left, and_right, lt_or_le}
use Rattle.records.specs.Numbers.{two_at}
use Rattle.percolation.specs.Links.{Link, link}
use Rattle.percolation.specs.Ranges.{narrow_count}
use Rattle.percolation.proofs.Ranges.{narrow_count_lem}
use Rattle.percolation.proofs.Accepted.{check_parts_lem, good_parts_lem}
use Rattle.sheet.specs.Sheet.{byte, parts, links, head_length, name_at, link_at, list_of, link_of, links_of, has_mark, has_version, has_length, check_head, check_sheet}
use Rattle.sheet.specs.Network.{Network, network_of}
use Rattle.sheet_writer.specs.Writing.{parts_of, links_in, link_in, link_bytes, head_bytes, sheet_of, has_shape, check_link_in, check_network}
use Rattle.sheet_writer.specs.RoundTrip.{Bytes, Held}
use Rattle.sheet.proofs.Lists.{list_of_length, list_of_at, list_of_map}
use Rattle.sheet_writer.proofs.Written.{link_bytes_lem, head_bytes_lem, links_bytes, bytes_none, bytes_more, links_length}
use Rattle.sheet.proofs.Heading.{length_least, length_is, head_mark, head_version, head_length_lem}
use Rattle.sheet_writer.proofs.Shape.{sheet_size}
use Rattle.sheet.proofs.Sound.{sheet_head, sheet_length_lem, head_passes}
use Rattle.sheet_writer.proofs.Sound.{network_shape, network_count, network_links, network_few}
use Rattle.sheet_writer.proofs.Twins.{Twin, twin_links, twin_network, twin_sheet, twin_read}

-- ---- the network in a sheet

-- a list of the sheet's links, by a field
field_length : (s : List ℕ) (g : Link → ℕ) → length (map g (links_of s)) ≡ links s
unfolding links_of
field_length s g = ap length (list_of_map g (link_of s) (links s)) ∙ list_of_length (λ j. g (link_of s j)) (links s)

field_at : (s : List ℕ) (g : Link → ℕ) (j : ℕ) → j < links s → get_or (map g (links_of s)) j 0 ≡ g (link_of s j)
unfolding links_of
field_at s g j h = ap (λ (l : List ℕ). get_or l j 0) (list_of_map g (link_of s) (links s)) ∙ list_of_at (λ i. g (link_of s i)) (links s) j 0 h

module _ (s : List ℕ) (size : length s ≡ link_at s (links s)) where
  read_names : length (network_of s).names ≡ 8 * parts s
  unfolding network_of
  read_names = length-take-le (8 * parts s) (drop head_length s) (omega (arith, length-drop head_length s))

  read_count : parts s ≡ parts_of (network_of s)
  read_count = omega (arith, read_names)

  read_number : links s ≡ links_in (network_of s)
  unfolding network_of
  read_number = sym (field_length s (λ l. l.low))

  read_link : (j : ℕ) → j < links s → link_of s j ≡ link_in (network_of s) j
  unfolding network_of link_in
  read_link j h =
      sym (ap₂ (λ (a b : ℕ). link a b (get_or (network_of s).weights j 0)) (field_at s (λ l. l.low) j h) (field_at s (λ l. l.high) j h)
      ∙ ap (λ (c : ℕ). link (link_of s j).low (link_of s j).high c) (field_at s (λ l. l.weight) j h))

  read_shape : has_shape (network_of s) ≡ true
  unfolding network_of has_shape
  read_shape =
      and_intro (eqb (length (network_of s).names % 8) 0) _ (eq-eqb (length (network_of s).names % 8) 0 (omega (arith, read_names)))
      (and_intro (eqb (length (network_of s).higher) (links_in (network_of s))) _
      (eq-eqb (length (network_of s).higher) (links_in (network_of s)) (field_length s (λ l. l.high) ∙ read_number))
      (eq-eqb (length (network_of s).weights) (links_in (network_of s)) (field_length s (λ l. l.weight) ∙ read_number)))

  pub read_twin : Twin s (network_of s)
  unfolding network_of
  read_twin = record { count = read_count; number = read_number; named = refl; each = read_link }

-- ---- its bytes are those of the sheet

-- one byte, and what follows it
step : (l : List ℕ) (k k' : ℕ) → k' ≡ k + 1 → k < length l → drop k l ≡ get_or l k 0 ∷ drop k' l
step l k k' e h = drop-cons l k 0 h ∙ ap (λ (n : ℕ). get_or l k 0 ∷ drop n l) (let f : suc k ≡ k' = omega arith in f)

-- four bytes at k, and what follows them
four : (l : List ℕ) (k k' : ℕ) → k' ≡ k + 4 → k + 4 ≤ length l
    → drop k l ≡ get_or l k 0 ∷ get_or l (k + 1) 0 ∷ get_or l (k + 2) 0 ∷ get_or l (k + 3) 0 ∷ drop k' l
four l k k' e h =
    step l k (k + 1) refl (omega arith) ∙ ap (λ (t : List ℕ). get_or l k 0 ∷ t)
    (step l (k + 1) (k + 2) (omega arith) (omega arith) ∙ ap (λ (t : List ℕ). get_or l (k + 1) 0 ∷ t)
    (step l (k + 2) (k + 3) (omega arith) (omega arith) ∙ ap (λ (t : List ℕ). get_or l (k + 2) 0 ∷ t)
    (step l (k + 3) k' (omega arith) (omega arith))))

-- the bytes of a link whose weight is spelt by two bytes
spelt : (a b c d : ℕ) → a < 256 → b < 256 → c < 256 → d < 256 → link_bytes (link a b (c * 256 + d)) ≡ a ∷ b ∷ c ∷ d ∷ []
spelt a b c d ha hb hc hd =
    let ea : a % 256 ≡ a = omega arith in
    let eb : b % 256 ≡ b = omega arith in
    let ec : (c * 256 + d) / 256 % 256 ≡ c = omega arith in
    let ed : (c * 256 + d) % 256 ≡ d = omega arith in
    link_bytes_lem a b (c * 256 + d) ∙ ap₂ (λ (x y : ℕ). x ∷ y ∷ (c * 256 + d) / 256 % 256 ∷ (c * 256 + d) % 256 ∷ []) ea eb
    ∙ ap₂ (λ (x y : ℕ). a ∷ b ∷ x ∷ y ∷ []) ec ed

module _ (s : List ℕ) (b : Bytes s) (size : length s ≡ link_at s (links s)) where
  -- link j is written as the four bytes that it was read from
  link_back : (j : ℕ) → j < links s → link_bytes (link_of s j) ≡ take 4 (drop (link_at s j) s)
  unfolding link_of
  link_back j h =
      let a : ℕ = link_at s j in
      let e : a + 2 + 1 ≡ a + 3 = omega arith in
      spelt (byte s a) (byte s (a + 1)) (byte s (a + 2)) (byte s (a + 2 + 1)) (b.small a) (b.small (a + 1)) (b.small (a + 2)) (b.small (a + 2 + 1))
      ∙ ap (λ (k : ℕ). byte s a ∷ byte s (a + 1) ∷ byte s (a + 2) ∷ byte s k ∷ []) e
      ∙ sym (ap (take 4) (four s a (a + 4) refl (omega arith)))

  links_back : (j : ℕ) → j ≤ links s → links_bytes (link_of s) j ≡ take (4 * j) (drop (name_at s (parts s)) s)
  links_back zero h = bytes_none (link_of s)
  links_back (suc j) h =
      bytes_more (link_of s) j
      ∙ ap₂ (λ (x y : List ℕ). x ++ y) (links_back j (omega arith)) (link_back j (omega arith) ∙ ap (take 4) (sym (drop-drop (4 * j) (name_at s (parts s)) s)))
      ∙ sym (take-add (4 * j) 4 (drop (name_at s (parts s)) s))
      ∙ ap (λ (k : ℕ). take k (drop (name_at s (parts s)) s)) (let e : 4 * j + 4 ≡ 4 * suc j = omega arith in e)

-- ---- a twin's sheet

-- eight bytes, and what follows them
eight : (s : List ℕ) → head_length ≤ length s → s ≡ byte s 0 ∷ byte s 1 ∷ byte s 2 ∷ byte s 3 ∷ byte s 4 ∷ byte s 5 ∷ byte s 6 ∷ byte s 7 ∷ drop head_length s
eight s h =
    four s 0 4 refl (omega arith)
    ∙ ap (λ (t : List ℕ). byte s 0 ∷ byte s 1 ∷ byte s 2 ∷ byte s 3 ∷ t) (four s 4 8 refl (omega arith))

mark_bytes : (s : List ℕ) → has_mark 80 76 83 s ≡ true → (byte s 0 ≡ 80) × (byte s 1 ≡ 76) × (byte s 2 ≡ 83)
unfolding has_mark
mark_bytes s h =
    let g = and_right (leb 3 (length s)) _ h in
    let k = and_right (eqb (byte s 0) 80) _ g in (
      eqb-true (byte s 0) 80 (and_left (eqb (byte s 0) 80) _ g),
      eqb-true (byte s 1) 76 (and_left (eqb (byte s 1) 76) (eqb (byte s 2) 83) k),
      eqb-true (byte s 2) 83 (and_right (eqb (byte s 1) 76) (eqb (byte s 2) 83) k),
    )

version_word : (s : List ℕ) → has_version 1 s ≡ true → two_at s 3 ≡ 1
unfolding has_version
version_word s h = eqb-true (two_at s 3) 1 (and_right (leb 5 (length s)) (eqb (two_at s 3) 1) h)

-- an accepted head is the one that its counts are written as
head_back : (s : List ℕ) → Bytes s → check_head s ≡ accepted → head_bytes (parts s) (links s) ++ drop head_length s ≡ s
head_back s b e =
    let m = mark_bytes s (head_mark s e) in
    let v : two_at s 3 ≡ 1 = version_word s (head_version s e) in
    let b₄ : byte s 4 < 256 = b.small 4 in
    let b₅ : byte s 5 < 256 = b.small 5 in
    let b₆ : byte s 6 < 256 = b.small 6 in
    let b₇ : byte s 7 < 256 = b.small 7 in
    let e₃ : 0 ≡ byte s 3 = omega arith in
    let e₄ : 1 ≡ byte s 4 = omega arith in
    let e₅ : parts s % 256 ≡ byte s 5 = omega arith in
    let e₆ : links s / 256 % 256 ≡ byte s 6 = omega arith in
    let e₇ : links s % 256 ≡ byte s 7 = omega arith in
    ap (λ (t : List ℕ). t ++ drop head_length s) (head_bytes_lem (parts s) (links s)) ∙ cc (eight s (length_least _ s (head_length_lem s e)))

module _ (s : List ℕ) (n : Network) (t : Twin s n) (b : Bytes s) (e : check_head s ≡ accepted) where
  twin_rest : n.names ++ links_bytes (link_in n) (links_in n) ≡ drop head_length s
  unfolding links_of
  twin_rest =
      let size : length s ≡ link_at s (links s) = length_is _ s (head_length_lem s e) in
      ap₂ (λ (x : List ℕ) (y : List Link). x ++ flatten (map link_bytes y)) (sym t.named) (sym (twin_links s n t))
      ∙ ap (λ (x : List ℕ). take (8 * parts s) (drop head_length s) ++ x)
      (links_back s b size (links s) (omega arith)
      ∙ take_all (4 * links s) (drop (name_at s (parts s)) s) (omega (arith, length-drop (name_at s (parts s)) s))
      ∙ sym (drop-drop (8 * parts s) head_length s))
      ∙ take-append-drop (8 * parts s) (drop head_length s)

  pub twin_written : sheet_of n ≡ s
  unfolding sheet_of
  twin_written = ap₂ (λ (x : List ℕ) (y : List ℕ). x ++ y) (sym (ap₂ head_bytes t.count t.number)) twin_rest ∙ head_back s b e

pub sheet_again : (s : List ℕ) → Bytes s → check_sheet s ≡ accepted → (check_network (network_of s) ≡ accepted) × (sheet_of (network_of s) ≡ s)
sheet_again s b e =
    let size : length s ≡ link_at s (links s) = length_is _ s (sheet_length_lem s e) in
    let t = read_twin s size in
    (twin_network s (network_of s) t (read_shape s size) e, twin_written s (network_of s) t b (sheet_head s e))

-- ---- the sheet of a network

-- what follows the head
abbrev rest_of : Network → List ℕ
rest_of n = n.names ++ links_bytes (link_in n) (links_in n)

sheet_bytes : (n : Network)
    → sheet_of n ≡ 80 ∷ 76 ∷ 83 ∷ 0 ∷ 1 ∷ parts_of n % 256 ∷ links_in n / 256 % 256 ∷ links_in n % 256 ∷ rest_of n
unfolding sheet_of
sheet_bytes n = ap (λ (h : List ℕ). h ++ rest_of n) (head_bytes_lem (parts_of n) (links_in n))

-- byte i of link j, among the bytes of the links
link_byte : (f : ℕ → Link) (m j i : ℕ) → j < m → i < 4 → get_or (links_bytes f m) (4 * j + i) 0 ≡ get_or (link_bytes (f j)) i 0
link_byte f zero j i h g = absurd (omega arith)
link_byte f (suc m) j i h g = ap (λ (l : List ℕ). get_or l (4 * j + i) 0) (bytes_more f m) ∙ go (link_byte f m j i) (lt_or_le j m)
  where
    size : length (links_bytes f m) ≡ 4 * m
    size = links_length f m

    go : (j < m → i < 4 → get_or (links_bytes f m) (4 * j + i) 0 ≡ get_or (link_bytes (f j)) i 0) → (j < m) ⊎ (m ≤ j)
        → get_or (links_bytes f m ++ link_bytes (f m)) (4 * j + i) 0 ≡ get_or (link_bytes (f j)) i 0
    go rest (inl l) = get_or-append (links_bytes f m) (link_bytes (f m)) 0 (4 * j + i) (omega (arith, size)) ∙ rest l g
    go rest (inr l) =
        let e : m ≡ j = omega arith in
        let k : 4 * j + i ≡ length (links_bytes f m) + i = omega (arith, size) in
        ap (λ (x : ℕ). get_or (links_bytes f m ++ link_bytes (f m)) x 0) k ∙ get_or-append-add (links_bytes f m) (link_bytes (f m)) i 0
        ∙ ap (λ (x : ℕ). get_or (link_bytes (f x)) i 0) e

module _ (n : Network) (held : Held n) (e : check_network n ≡ accepted) where
  write_count : parts (sheet_of n) ≡ parts_of n
  write_count = ap (λ (l : List ℕ). get_or l 5 0) (sheet_bytes n) ∙ (let few = network_few n e in omega arith)

  write_number : links (sheet_of n) ≡ links_in n
  write_number = ap (λ (l : List ℕ). two_at l 6) (sheet_bytes n) ∙ (let few = network_few n e in omega arith)

  write_names : take (8 * parts (sheet_of n)) (drop head_length (sheet_of n)) ≡ n.names
  write_names =
      ap₂ (λ (k : ℕ) (l : List ℕ). take (8 * k) (drop head_length l)) write_count (sheet_bytes n)
      ∙ take_at n.names (links_bytes (link_in n) (links_in n)) (8 * parts_of n) (let few = network_few n e in omega arith)

  -- byte i of link j, in the sheet
  write_byte : (j i : ℕ) → j < links_in n → i < 4 → byte (sheet_of n) (link_at (sheet_of n) j + i) ≡ get_or (link_bytes (link_in n j)) i 0
  write_byte j i h g =
      let few = network_few n e in
      let c = write_count in
      let k : link_at (sheet_of n) j + i ≡ head_length + (length n.names + (4 * j + i)) = omega arith in
      ap (byte (sheet_of n)) k ∙ sym (get_or-drop head_length (sheet_of n) (length n.names + (4 * j + i)) 0)
      ∙ ap (λ (l : List ℕ). get_or (drop head_length l) (length n.names + (4 * j + i)) 0) (sheet_bytes n)
      ∙ get_or-append-add n.names (links_bytes (link_in n) (links_in n)) (4 * j + i) 0
      ∙ link_byte (link_in n) (links_in n) j i h g

  write_small : (j : ℕ) → j < links_in n → ((link_in n j).low < 64) × ((link_in n j).high < 64) × ((link_in n j).weight < 65536)
  unfolding check_link_in link_in
  write_small j h =
      let c = narrow_count_lem (parts_of n) (network_count n e) in
      let ok = order_each (check_link_in n) (links_in n) (network_links n e) j h in
      let g = good_parts_lem (parts_of n) (link_in n j) (check_parts_lem (parts_of n) (list_of (link_in n) j) (link_in n j) 0 ok) in
      (omega arith, omega arith, held.short j)

  write_link : (j : ℕ) → j < links (sheet_of n) → link_of (sheet_of n) j ≡ link_in n j
  unfolding link_of
  write_link j g =
      let h : j < links_in n = omega (arith, write_number) in
      let s = sheet_of n in
      let a = link_at (sheet_of n) j in
      let l = link_in n j in
      let b = link_bytes_lem l.low l.high l.weight in
      let small = write_small j h in
      let z : a ≡ a + 0 = omega arith in
      let t : a + 2 + 1 ≡ a + 3 = omega arith in
      let e₀ : byte s a ≡ l.low % 256 = ap (byte s) z ∙ write_byte j 0 h (omega arith) ∙ ap (λ (x : List ℕ). get_or x 0 0) b in
      let e₁ : byte s (a + 1) ≡ l.high % 256 = write_byte j 1 h (omega arith) ∙ ap (λ (x : List ℕ). get_or x 1 0) b in
      let e₂ : byte s (a + 2) ≡ l.weight / 256 % 256 = write_byte j 2 h (omega arith) ∙ ap (λ (x : List ℕ). get_or x 2 0) b in
      let e₃ : byte s (a + 2 + 1) ≡ l.weight % 256 = ap (byte s) t ∙ write_byte j 3 h (omega arith) ∙ ap (λ (x : List ℕ). get_or x 3 0) b in
      let low : byte s a ≡ l.low = omega arith in
      let high : byte s (a + 1) ≡ l.high = omega arith in
      let weight : two_at s (a + 2) ≡ l.weight = omega arith in
      ap₂ (λ (x y : ℕ). link x y (two_at s (a + 2))) low high ∙ ap (λ (w : ℕ). link l.low l.high w) weight

  pub write_twin : Twin (sheet_of n) n
  write_twin = record { count = write_count; number = write_number; named = write_names; each = write_link }

  write_mark : has_mark 80 76 83 (sheet_of n) ≡ true
  unfolding has_mark
  write_mark =
      let s = sheet_of n in
      and_intro (leb 3 (length s)) _ (le-leb 3 (length s) (omega (arith, sheet_size n)))
      (and_intro (eqb (byte s 0) 80) _ (eq-eqb (byte s 0) 80 (ap (λ (l : List ℕ). byte l 0) (sheet_bytes n)))
      (and_intro (eqb (byte s 1) 76) (eqb (byte s 2) 83) (eq-eqb (byte s 1) 76 (ap (λ (l : List ℕ). byte l 1) (sheet_bytes n)))
      (eq-eqb (byte s 2) 83 (ap (λ (l : List ℕ). byte l 2) (sheet_bytes n)))))

  write_version : has_version 1 (sheet_of n) ≡ true
  unfolding has_version
  write_version =
      let s = sheet_of n in
      and_intro (leb 5 (length s)) (eqb (two_at s 3) 1) (le-leb 5 (length s) (omega (arith, sheet_size n)))
      (eq-eqb (two_at s 3) 1 (ap (λ (l : List ℕ). two_at l 3) (sheet_bytes n)))

  write_length : has_length (link_at (sheet_of n) (links (sheet_of n))) (sheet_of n) ≡ true
  unfolding has_length
  write_length =
      let s = sheet_of n in
      let few = network_few n e in
      and_intro (leb head_length (length s)) (eqb (length s) (link_at s (links s))) (le-leb head_length (length s) (omega (arith, sheet_size n)))
      (eq-eqb (length s) (link_at s (links s)) (omega (arith, sheet_size n, write_count, write_number)))

  write_head : check_head (sheet_of n) ≡ accepted
  write_head = head_passes (sheet_of n) write_mark write_version write_length (ap narrow_count write_count ∙ network_count n e)

pub network_again : (n : Network) → Held n → check_network n ≡ accepted → (check_sheet (sheet_of n) ≡ accepted) × (network_of (sheet_of n) ≡ n)
network_again n held e =
    let t = write_twin n held e in
    (twin_sheet (sheet_of n) n t (write_head n held e) e, twin_read (sheet_of n) n t (network_shape n e))
