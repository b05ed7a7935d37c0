-- `command::read_account` meets its contract. Invariant: the bytes before are digits, and x stands for what they say.
use native.Mathlib.Omega.{arith}
use mathlib.Core.Path.{sym, ◌∙◌}
use Rattle.std.proofs.lemmas.Bool.Decides.{nat_tests}
use Rattle.command.proofs.Numbers.{reading_empty, reading_more, reading_other, reading_all}
use Rattle.command.proofs.read_account.Goals as goal

pub returns-then-is_empty : goal.returns-then-is_empty
returns-then-is_empty c = reading_empty c.args.typed.now (grind (arith, nat_tests))

pub returns-then-not-is_ascii_digit : goal.returns-then-not-is_ascii_digit
returns-then-not-is_ascii_digit c = let l = c.loop-byte in
    reading_other c.args.typed.now l.x l.byte-index l.invariant (omega arith) (sym c.is_ascii_digit.ensures.value ∙ c.if-not-is_ascii_digit.true)

pub loop-byte-preserved : goal.loop-byte-preserved
loop-byte-preserved c = let l = c.loop-byte in
    reading_more c.args.typed.now l.x l.byte-index l.invariant (omega arith) (sym c.is_ascii_digit.ensures.value ∙ c.if-not-is_ascii_digit.false) c.min-x.result (omega (arith, c.min-x.ensures, c.from.ensures))

pub returns : goal.returns
returns c = let l = c.loop-byte in
    reading_all c.args.typed.now l.x l.byte-index l.invariant (omega arith) (grind (arith, nat_tests))
