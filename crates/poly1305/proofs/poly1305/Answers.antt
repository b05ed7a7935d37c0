-- `poly1305::poly1305` meets its contract.
use mathlib.Core.Path.{◌≡◌, ap, ◌∙◌}
use Prim.Native.Nat.{ℕ, ◌/◌, ◌%◌}
use lib.ListN.{length}
use Rattle.poly1305_limbs.specs.Prime.{prime}
use Rattle.poly1305_limbs.specs.Limbs.{value, multiplier_value}
use Rattle.poly1305.specs.Poly1305.{addend, absorbed, blocks, tagged, poly1305}
use Rattle.poly1305.proofs.Blocks.{absorbed_all}
use Rattle.poly1305.proofs.poly1305.Goals as goal

pub returns : goal.returns
unfolding poly1305
returns c =
    let d = c in
    let b = d in
    let k = b in
    let s = k in
    let message = s.args.message.now in
    let r = multiplier_value k.clamped-r.result in
    let n = length message / 16 in
    let start : value b.nothing.result % prime ≡ 0 = b.nothing.ensures.1 in
    let all : value d.absorb_rest-h.result % prime ≡ absorbed r 0 message (blocks message) =
    d.absorb_rest-h.ensures.1
    ∙ rw (b.absorb-whole.ensures.1, start) (absorbed_all r 0 message c.as_chunks.result.1.now c.as_chunks.ensures.back)
    in
    c.finish.ensures
    ∙ ap (λ (a : ℕ). tagged a (addend s.args.key)) (all ∙ ap (λ (m : ℕ). absorbed m 0 message (blocks message)) k.clamped-r.ensures.1)
