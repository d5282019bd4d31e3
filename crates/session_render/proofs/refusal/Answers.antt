-- `session_render::refusal` meets its contract: the tests in the definition's order. Assumes nothing.
use Prim.Native.Nat.{◌≤◌}
use mathlib.Core.Path.{◌≡◌, refl, sym, ◌∙◌}
use mathlib.Core.Bool.{false}
use native.Mathlib.Omega.{arith}
use borrow.Author.Tests.{le-ltb, eq-eqb, ne_eqb}
use lib.Dec.{eqb, ltb}
use Rattle.std.proofs.Common.{rules}
use Rattle.session_history.specs.History.{longest_block}
use Rattle.session_calls.specs.Session.{malformed_session}
use Rattle.session_render.proofs.Numbers.{number_is, number_length}
use Rattle.session_render.proofs.refusal.Goals as goal
use Rattle.session_render.proofs.refusal.Goals.{Else-not-contains}

record Short (c : Else-not-contains) : Type 0 where
  formed : malformed_session c.args.s.now ≡ false
  some : eqb c.args.block 0 ≡ false
  few : ltb longest_block c.args.block ≡ false

short : (c : Else-not-contains) → Short c
short c =
    let low : 1 ≤ c.args.block = search rules in
    record {
      formed = sym c.malformed_session.ensures ∙ c.if-malformed_session.false;
      some = ne_eqb _ 0 (λ e. omega arith);
      few = le-ltb longest_block _ (search rules);
    }

pub returns-then-malformed_session : goal.returns-then-malformed_session
returns-then-malformed_session c = sym (number_is _ _ _ _ (sym c.malformed_session.ensures ∙ c.if-malformed_session.true) refl refl refl refl)

pub returns-then-not-contains : goal.returns-then-not-contains
returns-then-not-contains c =
    sym (number_length _ _ _ _ (sym c.malformed_session.ensures ∙ c.if-malformed_session.false) (search rules))

pub returns-then-samples-s : goal.returns-then-samples-s
returns-then-samples-s c =
    let p = short (goal.at.returns-then-samples-s c).Else-not-contains in
    sym (number_is _ _ _ _ p.formed p.some p.few (ne_eqb _ _ c.if-samples-s.true) refl)

pub returns-then-outputs-s : goal.returns-then-outputs-s
returns-then-outputs-s c =
    let p = short (goal.at.returns-then-outputs-s c).Else-not-contains in
    sym (number_is _ _ _ _ p.formed p.some p.few (eq-eqb _ _ c.if-samples-s.false) (ne_eqb _ _ c.if-outputs-s.true))

pub returns : goal.returns
returns c =
    let p = short (goal.at.returns c).Else-not-contains in
    sym (number_is _ _ _ _ p.formed p.some p.few (eq-eqb _ _ c.if-samples-s.false) (eq-eqb _ _ c.if-outputs-s.false))
