-- The answer and the buffer of a render by its number: a refused one leaves both as they were. Assumes nothing.
use Prim.Native.Nat.{ℕ}
use mathlib.Core.Path.{◌≡◌, sym, ap, ◌∙◌}
use mathlib.Core.Bool.{Bool, cond}
use mathlib.Core.List.{List, flat_map}
use borrow.Author.Tests.{eq-eqb, ne_eqb}
use lib.Ieee.{Float}
use Rattle.lists.specs.Lists.{range}
use Rattle.mix_block.specs.Limits.{most_sources}
use Rattle.session_history.specs.Calls.{render}
use Rattle.session_calls.specs.Session.{with_starts, new_start, rendered, accepted, number_of, mixed_outputs, rendered_buffer}
use Rattle.session_calls.specs.Answers.{Answer, answer_of}
use Rattle.session_calls.specs.declared.Session.{Session}
use Rattle.session_calls.proofs.Answers.{accepted_as, with_starts_as}

module _ (s : Session) (L : ℕ) (samples outputs : List Float) where
  module _ {why : ℕ} (w : why ≡ number_of s (render L samples outputs)) where
    pub buffer_refused : (why ≡ 0 → ⊥) → outputs ≡ rendered_buffer s L samples outputs
    unfolding rendered_buffer
    buffer_refused h = sym (ap (λ (b : Bool). cond b (mixed_outputs s L samples outputs) outputs) (ne_eqb (number_of s (render L samples outputs)) 0 (λ e. h (w ∙ e))))

    pub render_done : why ≡ 0 → {to : List Float} {t : Session} → to ≡ flat_map (new_start s) (range most_sources) → t ≡ with_starts s to
        → ◌≡◌ {A = Answer} (record { number = 0; session = t }) (answer_of s (render L samples outputs))
    unfolding accepted rendered
    render_done z e f = accepted_as s (render L samples outputs) w z (with_starts_as s f e)

    pub buffer_done : why ≡ 0 → mixed_outputs s L samples outputs ≡ rendered_buffer s L samples outputs
    unfolding rendered_buffer
    buffer_done z = sym (ap (λ (b : Bool). cond b (mixed_outputs s L samples outputs) outputs) (eq-eqb (number_of s (render L samples outputs)) 0 (sym w ∙ z)))
