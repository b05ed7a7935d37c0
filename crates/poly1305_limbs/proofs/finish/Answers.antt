-- `poly1305_limbs::finish` meets its contract.
use mathlib.Core.Path.{◌≡◌, ap, ap₂, ◌∙◌}
use Prim.Native.Nat.{ℕ, ◌*◌}
use Rattle.poly1305_limbs.specs.declared.Accumulator.{Accumulator}
use Rattle.poly1305_limbs.specs.Limbs.{words_value}
use Rattle.poly1305_limbs.specs.Columns.{plus, raised, carried, quotient}
use Rattle.poly1305_limbs.proofs.Values.{lower, value_finish}
use Rattle.poly1305_limbs.proofs.finish.Goals as goal

pub returns : goal.returns
unfolding lower words_value
returns c =
    let b = c in
    let s = b in
    let e : c.carried-d.result ≡ carried (raised (plus s.args.h s.args.s 0) (5 * quotient s.args.h)) =
    c.carried-d.ensures.0
    ∙ ap carried (b.raised.ensures.0
    ∙ ap₂ (λ (d : Accumulator) (q : ℕ). raised d (5 * q)) b.plus.ensures.0 b.quotient-q.ensures.0)
    in
    let w = c.carried-d.ensures.1 in (
      record { w0_small = w.h0_whole; w1_small = w.h1_whole; w2_small = w.h2_whole; w3_small = w.h3_whole },
      ap lower e ∙ value_finish s.args.h s.args.s s.requires.0 s.requires.1,
    )
