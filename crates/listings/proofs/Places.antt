-- Communities as records of a listing: their bytes, and one more put among them. Assumes nothing.
use mathlib.Core.Path.{◌≡◌, refl, ◌∙◌, sym, ap}
use mathlib.Core.List.{List, [], ◌++◌, flatten}
use Prim.Native.Nat.{ℕ, ◌+◌, ◌*◌, ◌^◌, ◌<◌}
use native.Mathlib.Omega.{arith}
use lib.ListN.{length, length-append}
use Rattle.sets.specs.Lists.{◌∈◌, insert_by}
use Rattle.sets.specs.Value.{width, set_bytes, set_length, with_set}
use Rattle.sets.proofs.SetBytes.{set_length_lem}
use Rattle.percolation.specs.Percolate.{Community, shown, listing_bytes}
use Rattle.records.specs.Model.{Opened}
use Rattle.records.proofs.Numbers.{Writes, Field, writes_set, writes_both}
use Rattle.records.proofs.InBytes.{records_length, gap_filled}
use Rattle.listings.specs.Model.{by_small}

-- how many bytes a community has, and which
abbrev pub stride : ℕ
stride = set_length + set_length

abbrev community_bytes : Community → List ℕ
community_bytes c = set_bytes c.small ++ set_bytes c.whole

community_length : (c : Community) → length (community_bytes c) ≡ stride
community_length c = omega (arith, length-append (set_bytes c.small) (set_bytes c.whole), set_length_lem c.small, set_length_lem c.whole)

pub listing_length : (C : List Community) → length (listing_bytes C) ≡ length C * stride
unfolding listing_bytes
listing_length C = records_length community_bytes stride community_length C

-- a community has its smallest clique in front
small_first : (c : Community) → Field (community_bytes c) (set_bytes c.small) 0
small_first c = record { front = []; back = set_bytes c.whole; parts = refl; long = refl }

-- a place opened among n communities, the smallest clique written there and the union behind it
pub put_whole : (old mid next new : List ℕ) (n b start i s w : ℕ) → b ≡ stride → i ≡ start + set_length → Opened old mid 0 n b 0 s start
    → next ≡ with_set mid start s → new ≡ with_set next i w
    → (C : List Community) (x rest : List ℕ) → old ≡ listing_bytes C ++ x ++ rest → length C ≡ n → length x ≡ stride
    → ((c : Community) → c ∈ C → c.small < 2 ^ width) → new ≡ listing_bytes (insert_by by_small (shown s w) C) ++ rest
unfolding listing_bytes flatten
put_whole old mid next new n b start i s w size behind opened first second C x rest e l m fits =
    let both : Writes mid new start (set_bytes s ++ set_bytes w) =
    writes_both mid next new (set_bytes s) (set_bytes w) start i (behind ∙ ap (λ (k : ℕ). start + k) (sym (set_length_lem s)))
    (writes_set mid next start start s refl first) (writes_set next new i i w refl second) in
    gap_filled community_bytes stride community_length (λ (c : Community). c.small) 0 small_first old mid new 0 n b start (shown s w) size opened both [] C x rest e refl l m fits
