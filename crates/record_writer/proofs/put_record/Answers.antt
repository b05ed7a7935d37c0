-- `record_writer::put_record` meets its contract.
use mathlib.Core.Path.{ap}
use native.Mathlib.Omega.{arith}
use lib.ListN.{length}
use Rattle.policy_file.specs.File.{name_of}
use Rattle.record_writer.proofs.Parts.{put_as}
use Rattle.record_writer.proofs.Single.{held_record_lem, under_record_lem}
use Rattle.record_writer.proofs.put_record.Goals as goal

pub put_held-requires : goal.put_held-requires
unfolding name_of
put_held-requires c =
    let a = c.args in
    let n = c.read_name-name in
    let is = held_record_lem n.result (name_of a.policy.now a.m) a.secret a.place a.held n.ensures c.if-held.true in
    omega (arith, c.requires.2, ap length is)

pub returns-then-held : goal.returns-then-held
unfolding name_of
returns-then-held c =
    let a = c.args in
    let n = c.read_name-name in
    let is = held_record_lem n.result (name_of a.policy.now a.m) a.secret a.place a.held n.ensures c.if-held.true in
    put_as is c.put_held.ensures

pub put_under-requires : goal.put_under-requires
unfolding name_of
put_under-requires c =
    let a = c.args in
    let n = c.read_name-name in
    let is = under_record_lem n.result (name_of a.policy.now a.m) a.secret a.place a.held n.ensures c.if-held.false in
    omega (arith, c.requires.2, ap length is)

pub returns-else-held : goal.returns-else-held
unfolding name_of
returns-else-held c =
    let a = c.args in
    let n = c.read_name-name in
    let is = under_record_lem n.result (name_of a.policy.now a.m) a.secret a.place a.held n.ensures c.if-held.false in
    put_as is c.put_under.ensures
