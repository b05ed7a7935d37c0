-- A search that stops at the first place it looks for.
use Rattle.std.specs.Prelude.{ℕ, zero, suc, ◌+◌, Bool, true, false, None, Option, Some}

-- the first of the n places from i on that has p
unfoldable pub first_from : (ℕ → Bool) → ℕ → ℕ → Option ℕ
first_from p i zero = None
first_from p i (suc n) = elim (p i) [ true ↦ Some i | false ↦ first_from p (i + 1) n ]
