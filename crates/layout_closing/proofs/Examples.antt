-- The six axes, by computation. Assumes nothing.
use mathlib.Core.Path.{refl}
use lib.Count.{count_trailing_zeros}
use lib.Ieee.{of_bits, of_fields, odd, units, round, size, span, climb, neg, sum, add, sub, mul, div, lt, le, eq, is_nan}
use mathlib.Core.List.{flat_map}
use Rattle.lists.specs.Lists.{from, range, between, filter, collect, every, any, is_empty, last}
use Rattle.float_order.specs.Values.{abs}
use Rattle.float_order.specs.Order.{max_of}
use Rattle.float_root.specs.Root.{sqrt_of, round_root, whole_root, root_by, grow}
use Rattle.vector.specs.Vector.{dot_in, dot_of, cross_of, determinant_of, less_of, over_of, negated_of, length_of}
use Rattle.layout_faces.specs.Faces.{others, height, raw_normal, plane_through, all_below, all_above, outward}
use Rattle.layout_fan.specs.Fan.{coplanar, in_fan}
use Rattle.layout_hull.specs.Triplets.{verdict_by, verdict, verdicts, kept, opens, triplets_of, closed}
use Rattle.layout_closing.specs.Closing.{nearest_product, passed_over, with_pole, with_poles, closing, stages, final_points}
use Rattle.layout_closing.specs.Examples.{AxesClose}

pub axes_close : AxesClose
unfolding of_bits of_fields odd units round size span climb neg sum add sub mul div lt le eq is_nan count_trailing_zeros flat_map from range between filter collect every any is_empty last abs max_of sqrt_of round_root whole_root root_by grow dot_in dot_of cross_of determinant_of less_of over_of negated_of length_of others height raw_normal plane_through all_below all_above outward coplanar in_fan verdict_by verdict verdicts kept opens triplets_of closed nearest_product passed_over with_pole with_poles closing stages final_points
axes_close = record { closes = refl; none_made = refl }
