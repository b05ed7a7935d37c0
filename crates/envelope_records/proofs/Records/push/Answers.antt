-- `Records::push` meets its contract.
use native.Mathlib.Omega.{arith}
use Rattle.envelope_records.proofs.Kept.{next_here, more_located, more_placed, more_falling}
use Rattle.envelope_records.proofs.Records.push.Goals as goal

pub invariant_of-front : goal.invariant_of-front
invariant_of-front c =
    let f = c.args.self.now.front in
    let n = c.requires in record {
      located = more_located n f.starts (omega arith) f.end f.here f.located;
      here = omega (arith, f.here, next_here n);
      within = omega (arith, f.here, n.within);
    }

pub invariant_of-self : goal.invariant_of-self
invariant_of-self c =
    let s = c.args.self.now in
    let n = c.requires in record { placed = more_placed n s.places (omega arith) s.placed; falling = more_falling n s.falling }
