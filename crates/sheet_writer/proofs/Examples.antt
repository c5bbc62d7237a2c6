-- A network is written as its sheet: a closed one. Assumes nothing.
use mathlib.Core.Path.{◌≡◌, refl}
use mathlib.Core.List.{[], ◌∷◌}
use Rattle.sheet.specs.Network.{network_of}
use Rattle.sheet.proofs.Examples.{three}
use Rattle.sheet_writer.specs.Writing.{sheet_of}

pub written_back : sheet_of (network_of (three 1 (0 ∷ 2 ∷ 1 ∷ 5 ∷ []))) ≡ three 1 (0 ∷ 2 ∷ 1 ∷ 5 ∷ [])
unfolding sheet_of network_of
written_back = refl
