-- `float_arctangent::atan` meets its contract: three halvings and the sum, as the definition has them. Assumes nothing.
use lib.Ieee.{of_bits}
use Rattle.float_arctangent.specs.Arctangent.{eightfold_of, atan_of}
use Rattle.float_arctangent.proofs.Coefficients.{table}
use Rattle.float_arctangent.proofs.atan.Goals as goal

pub returns : goal.returns
unfolding atan_of eightfold_of of_bits
returns c = let t = table in cc
