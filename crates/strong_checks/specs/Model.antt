-- Model of the code: the links whose cliques are counted before the strong ones are taken in. Assumes nothing.
use Rattle.std.specs.Prelude.{List}
use Rattle.percolation.specs.Links.{Link, heavy}
use Rattle.products.specs.declared.Measure.{Measure}
use Rattle.products.specs.declared.Measure.TheVariants.{Weakest, Product}

-- those that a strong clique may have: by the weakest link none below its threshold, by the product any
unfoldable pub bearing : Measure → List Link → List Link
unfolding heavy
bearing (Weakest t) L = heavy t L
bearing (Product t) L = L
