-- `recounts::recount` meets its contract.
use Prim.Native.Nat.{ℕ}
use mathlib.Core.List.{List}
use mathlib.Core.Path.{sym, ap, ◌∙◌}
use native.Mathlib.Omega.{arith}
use lib.ListN.{length}
use Rattle.buffers.specs.declared.Written.{Written}
use Rattle.policy_file.specs.Counts.{recounted}
use Rattle.weights.specs.Tables.{entries}
use Rattle.recounts.proofs.Turns.{as_long, with_room, no_room, had_room, lacked_room, room_left}
use Rattle.recounts.proofs.recount.Goals as goal

pub put_counts-requires : goal.put_counts-requires
put_counts-requires c =
    let h = c.hand_out-written in
    let a = c.args in
    (omega arith, omega (arith, room_left a.policy.now a.out.now h.new.out h.result h.ensures.0 h.ensures.1 (omega arith)))

pub returns-then-written-eq0 : goal.returns-then-written-eq0
returns-then-written-eq0 c =
    let h = c.hand_out-written in
    let a = c.args in
    let room = had_room a.policy.now a.out.now (ap (λ (w : Written). w.refusal) (sym h.ensures.0) ∙ omega arith) in (
      h.ensures.0 ∙ as_long a.policy.now (entries a.counts) a.labels (omega arith) (length a.out.now),
      c.put_counts.ensures
          ∙ ap (λ (file : List ℕ). recounted file (entries a.counts) a.labels) h.ensures.1
          ∙ with_room a.policy.now (entries a.counts) a.labels (omega arith) a.out.now room,
    )

pub returns-else-written-eq0 : goal.returns-else-written-eq0
returns-else-written-eq0 c =
    let h = c.hand_out-written in
    let a = c.args in
    let none = lacked_room a.policy.now a.out.now (λ zero. omega (arith, ap (λ (w : Written). w.refusal) h.ensures.0, zero)) in (
      h.ensures.0 ∙ as_long a.policy.now (entries a.counts) a.labels (omega arith) (length a.out.now),
      h.ensures.1 ∙ no_room a.policy.now (entries a.counts) a.labels (omega arith) a.out.now none,
    )
