-- `boundary_exports::ramps::panner_normalized_lerp_gain` meets its contract: the gain is that of crate mix_gain. Assumes nothing.
use Rattle.boundary_exports.proofs.ramps.panner_normalized_lerp_gain.Goals as goal

pub returns : goal.returns
returns c = c.normalized_lerp_gain.ensures
