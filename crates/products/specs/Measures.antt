-- Which cliques are strong enough by a measure and its threshold. Assumes nothing.
use Rattle.std.specs.Prelude.{Bool, List, ℕ, leb, Float}
use Rattle.std.specs.Float.Ieee.{le}
use Rattle.percolation.specs.Links.{Link}
use Rattle.percolation.specs.Strength.{weights_in, weakest_of}
use Rattle.products.specs.Products.{product_of}
use Rattle.products.specs.declared.Measure.{Measure}
use Rattle.products.specs.declared.Measure.TheVariants.{Weakest, Product}

-- a clique with that weakest link and that product is at or above the threshold of the measure
unfoldable pub strong_enough : Measure → ℕ → Float → Bool
strong_enough (Weakest t) w v = leb t w
strong_enough (Product t) w v = le t v

-- so is a clique whose links have these weights
unfoldable pub strong_with : Measure → List ℕ → Bool
unfolding strong_enough weakest_of product_of
strong_with M W = strong_enough M (weakest_of W) (product_of W)

-- the test of strength that a measure gives for the sets of links L
unfoldable pub reaches : List Link → ℕ → Measure → ℕ → Bool
unfolding strong_with weights_in
reaches L p M s = strong_with M (weights_in L p s)
