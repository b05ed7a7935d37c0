-- `roster_lines::put_accounts` meets its contract. Invariant: the lines of the first i accounts are written.
use mathlib.Core.Path.{refl, ap}
use native.Mathlib.Omega.{arith}
use lib.ListN.{length}
use Rattle.buffers.proofs.Writes.{put_next, put_none}
use Rattle.lists.proofs.Concat.{concat_fit}
use Rattle.roster_answers.specs.RosterText.{line_at}
use Rattle.roster_lines.proofs.Lines.{concat_none, concat_more, account_line_lem, account_put, account_named}
use Rattle.roster_lines.proofs.put_accounts.Goals as goal

pub loop-i-preserved : goal.loop-i-preserved
loop-i-preserved c =
    let p = c in
    let l = p.loop-i in
    let a = p.args in (
      omega arith,
      rw (concat_more (line_at a.policy.now a.roster) l.i) (put_next l.invariant.1 (account_put a.policy.now a.roster l.i (omega arith) p.put_account-at.ensures refl)),
    )

pub loop-i-init : goal.loop-i-init
loop-i-init c =
    let a = c.args in
    (refl, rw (concat_none (line_at a.policy.now a.roster)) (put_none a.out.now))

pub put_account-at-requires : goal.put_account-at-requires
put_account-at-requires c =
    let l = c.loop-i in
    let s = c in
    let policy = s.args.policy.now in
    let roster = s.args.roster in
    let f = concat_fit (line_at policy roster) 4096 l.i (omega arith) in
    (account_named policy roster l.i (omega arith) s.requires.0, omega (arith, ap length (account_line_lem policy roster l.i (omega arith))))
