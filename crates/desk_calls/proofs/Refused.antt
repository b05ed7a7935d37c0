-- "1 refused (`REFUSED n` on standard output ..)": whatever was called, a call that is refused says the line of its number.
use Prim.Native.Nat.{ℕ}
use mathlib.Core.Bool.{true}
use mathlib.Core.Logic.{◌≢◌}
use mathlib.Core.Path.{◌≡◌}
use Rattle.decimals.specs.Worded.{refused_text}
use Rattle.outcomes.proofs.Ending.{not_both, said_unrefused, ends_refusing}
use Rattle.outcomes.specs.Status.{is_done, refusal_of, text_of}
use Rattle.outcomes.specs.declared.Ended.{Ended}
use Rattle.desk_calls.specs.Ran.{Performed, derived, listed, opened, undone, Ran, performed, helped, versioned, failed}

verb_refused : (verb : ℕ) (e : Ended) → Performed verb e → is_done e ≡ true → refusal_of e ≢ 0 → text_of e ≡ refused_text (refusal_of e)
verb_refused verb e h ok nz = go h
  where
    go : Performed verb e → text_of e ≡ refused_text (refusal_of e)
    go (derived k h) = ends_refusing _ _ e h.2 ok nz
    go (listed k h) = ends_refusing _ _ e h.1 ok nz
    go (opened k h) = ends_refusing _ _ e h.2 ok nz
    go (undone f) = not_both f ok

pub ran_refused : (e : Ended) → Ran e → is_done e ≡ true → refusal_of e ≢ 0 → text_of e ≡ refused_text (refusal_of e)
ran_refused e h ok nz = go h
  where
    go : Ran e → text_of e ≡ refused_text (refusal_of e)
    go (performed word p) = verb_refused _ e p ok nz
    go (helped text opens said) = absurd (nz (said_unrefused _ e said))
    go (versioned version said) = absurd (nz (said_unrefused _ e said))
    go (failed f) = not_both f ok
