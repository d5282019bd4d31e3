-- `session_render::render` meets its contract: a refused session is not given back, and an accepted one is what the render on the lent one left. Assumes nothing.
use Rattle.session_calls.proofs.Answers.{answered_refused}
use Rattle.session_render.proofs.render.Goals as goal

pub returns-in_err-render_on-clause-value : goal.returns-in_err-render_on-clause-value
returns-in_err-render_on-clause-value c = answered_refused _ _ _ _ _ c.from_residual.ensures.1 c.in_err-render_on.ensures.value
