use native.Mathlib.Omega.{arith}
use Rattle.std.proofs.lemmas.Bool.Decides.{nat_tests}
use Rattle.made.specs.Model.{pair_lists, pair_count}
use Rattle.made.proofs.put_pair.Goals as goal

pub returns-then-linked-clause-put : goal.returns-then-linked-clause-put
unfolding pair_lists pair_count
returns-then-linked-clause-put c = record { count = grind (arith, nat_tests); lists = grind (arith, nat_tests) }

pub returns-else-linked-clause-put : goal.returns-else-linked-clause-put
unfolding pair_lists pair_count
returns-else-linked-clause-put c = record { count = grind (arith, nat_tests); lists = grind (arith, nat_tests) }
