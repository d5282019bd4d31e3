-- What a call leaves in the lent places, from its answer on the session that was taken in. Assumes nothing.
use Prim.Native.Nat.{ℕ}
use mathlib.Core.Path.{◌≡◌, refl, ap, ◌∙◌}
use mathlib.Core.List.{List}
use lib.Ieee.{Float}
use Rattle.session_calls.specs.declared.Session.{Session}
use Rattle.std.proofs.Common.{Result, Ok, Err}
use Rattle.refusals.specs.declared.Refusal.{Refusal}
use Rattle.refusals.specs.Refusals.{number_in}
use Rattle.layout_record.specs.Malformed.{outputs_answer}
use Rattle.session_calls.specs.Answers.{Answer}
use Rattle.boundary_records.specs.Sessions.{session_from, bytes_left, floats_left}

-- what is made of the session that was taken in is made of the session that the arrays stand for
pub seen : {A : Type 0} (made : Session → A) {s t : Session} {x : A} → s ≡ t → x ≡ made s → x ≡ made t
seen made taken e = e ∙ ap made taken

pub outputs_number : (r : Result ℕ Refusal) → number_in r ≡ (outputs_answer r).number
outputs_number (Ok n) = refl
outputs_number (Err why) = refl

-- the answer b of a call on it, and so the number and the arrays that the answer leaves
pub left : (bytes : List ℕ) (floats : List Float) (call : Session → Answer) {s : Session} {b : Answer} {number : ℕ} {bytes₁ : List ℕ} {floats₁ : List Float}
    → s ≡ session_from bytes floats
    → b ≡ call s
    → number ≡ b.number
    → bytes₁ ≡ bytes_left bytes b
    → floats₁ ≡ floats_left floats b
    → let a = call (session_from bytes floats) in (number ≡ a.number) × ((bytes₁ ≡ bytes_left bytes a) × (floats₁ ≡ floats_left floats a))
left bytes floats call taken done n b f =
    let e = seen call taken done in
    (n ∙ ap (λ (a : Answer). a.number) e, (b ∙ ap (bytes_left bytes) e, f ∙ ap (floats_left floats) e))
