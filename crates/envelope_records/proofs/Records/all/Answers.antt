-- `Records::all` meets its contract.
use native.Mathlib.Omega.{arith}
use Rattle.envelope_file.proofs.Deriving.{read_located, read_placed, read_falling, read_whole}
use Rattle.envelope_records.proofs.Records.all.Goals as goal

pub invariant_of-result : goal.invariant_of-result
invariant_of-result c =
    let file = c.args.envelope.now in
    let read = c.args.read in
    let same = c.requires.0 in
    let none = c.requires.1 in record {
      located = read_located file read same none;
      here = read_whole file read same none;
      within = omega arith;
    }

pub invariant_of-result-2 : goal.invariant_of-result-2
invariant_of-result-2 c =
    let file = c.args.envelope.now in
    let read = c.args.read in
    let same = c.requires.0 in
    let none = c.requires.1 in record { placed = read_placed file read same none; falling = read_falling file read same none }
