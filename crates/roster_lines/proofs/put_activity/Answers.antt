-- `roster_lines::put_activity` meets its contract.
use Rattle.decimals.specs.Text.{bytes_of}
use Rattle.roster_lines.proofs.put_activity.Goals as goal

pub returns-in-Active : goal.returns-in-Active
unfolding bytes_of
returns-in-Active c =
    let p = c in
    rw p.in-Active.is p.put_bytes.ensures

pub returns-in-Held : goal.returns-in-Held
unfolding bytes_of
returns-in-Held c =
    let p = c in
    rw p.in-Held.is p.put_bytes-in-Held.ensures

pub put_bytes-requires : goal.put_bytes-requires
unfolding bytes_of
put_bytes-requires c =
    let i = c in
    rw i.in-Active.is at i.requires

pub put_bytes-requires-in-Held : goal.put_bytes-requires-in-Held
unfolding bytes_of
put_bytes-requires-in-Held c =
    let i = c in
    rw i.in-Held.is at i.requires
