-- How a call of `yendlowa-desk open` ends.
use Rattle.std.specs.Prelude.{ℕ, List}
use Rattle.lines.specs.Lines.{opened_text}
use Rattle.open_answers.specs.Open.{opened_of}
use Rattle.outcomes.specs.Status.{Ends}
use Rattle.outcomes.specs.declared.Ended.{Ended}

-- as `open` answers on some bytes, those that the system read, for a buffer of 32,768 bytes
abbrev pub OpenEnds : Ended → Type 0
OpenEnds e = (envelope : List ℕ) × (file : List ℕ) × Ends (opened_of envelope file 32768).refusal (opened_text (opened_of envelope file 32768).length) e
