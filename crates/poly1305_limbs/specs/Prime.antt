-- The prime of Poly1305 (RFC 8439, section 2.5).
use Rattle.std.specs.Prelude.{ℕ, ◌-◌, ◌^◌}

-- "p = (1<<130)-5" (section 2.5.1)
unfoldable pub prime : ℕ
prime = 2 ^ 130 - 5
