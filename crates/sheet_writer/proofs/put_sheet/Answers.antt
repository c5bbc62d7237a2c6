use mathlib.Core.Path.{◌≡◌, refl, sym, ap, ◌∙◌}
use mathlib.Core.List.{◌++◌}
use native.Mathlib.Omega.{arith}
use Prim.Native.Nat.{ℕ, ◌+◌, ◌*◌}
use lib.ListN.{length, drop}
use lib.Seq.{sets-eq}
use Rattle.sheet.specs.Lent.{network_in}
use Rattle.sheet_writer.specs.Writing.{parts_of, link_in, head_bytes, sheet_of}
use Rattle.sheet_writer.proofs.Written.{head_bytes_lem, links_bytes, links_length}
use Rattle.sheet_writer.proofs.Shape.{sheet_put}
use Rattle.sheet_writer.proofs.put_sheet.Goals as goal

pub returns : goal.returns
unfolding link_in sheet_of
returns c =
    let a = c.args in
    let n = network_in a.network in
    let k = length n.names in
    let m = length n.lower in
    let i = c.head_length-first.result in
    let hd = head_bytes (parts_of n) m in
    let size : length hd ≡ i = ap length (head_bytes_lem (parts_of n) m) ∙ sym c.head_length-first.ensures in
    sheet_put a.out.now hd n.names (links_bytes (link_in n) m) c.put_head.new.out c.copy.new.dst c.put_links.new.out i k (4 * m)
    size refl (links_length (link_in n) m) (omega (arith, c.requires.lower_in_bounds, c.head_length-first.ensures))
    (c.put_head.ensures ∙ sets-eq hd a.out.now 0 (omega (arith, size, c.requires.lower_in_bounds, c.head_length-first.ensures)) ∙ ap (λ (j : ℕ). hd ++ drop j a.out.now) size)
    c.copy.ensures c.put_links.ensures
    ∙ ap (λ (j : ℕ). sheet_of n ++ drop (j + k + 4 * m) a.out.now) c.head_length-first.ensures
