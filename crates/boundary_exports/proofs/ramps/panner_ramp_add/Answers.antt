-- `boundary_exports::ramps::panner_ramp_add` meets its contract: the samples are those that crate mix_ramp leaves. Assumes nothing.
use Rattle.boundary_exports.proofs.ramps.panner_ramp_add.Goals as goal

pub returns : goal.returns
returns c = c.ramp_add.ensures
