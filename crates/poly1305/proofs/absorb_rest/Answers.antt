-- `poly1305::absorb_rest` meets its contract.
use mathlib.Core.Path.{sym}
use Prim.Native.Nat.{◌%◌, ◌<◌}
use mathlib.Core.List.{◌++◌}
use lib.ListN.{length, drop, replicate}
use borrow.Author.Rules.{rules}
use Rattle.poly1305_limbs.specs.Prime.{prime}
use Rattle.poly1305_limbs.specs.Limbs.{value, multiplier_value, words_value}
use Rattle.poly1305.proofs.Blocks.{rest_none, absorbed_rest}
use Rattle.poly1305.proofs.absorb_rest.Goals as goal

pub returns-then-n-eq0 : goal.returns-then-n-eq0
returns-then-n-eq0 c =
    let s = c in (
      s.requires.0,
      sym (rest_none (multiplier_value s.args.r) (value s.args.h % prime) s.args.rest.now (search rules)),
    )

pub returns : goal.returns
returns c =
    let some : 0 < length c.args.rest.now = search rules in
    let rest = c.args.rest.now in (
      c.step.ensures.0,
      absorbed_rest (multiplier_value c.args.r) (value c.args.h % prime) rest
          (c.copy_from_slice.new.self ++ drop (length rest) (replicate 16 0))
          (words_value c.words_at.result) (value c.step.result % prime) some c.requires.2
          (rw c.copy_from_slice.ensures.after) c.words_at.ensures.1 c.step.ensures.1,
    )
