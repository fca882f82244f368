-- Numbers modulo 32003, each as the rest from 0 to 32002.
use Rattle.std.specs.Prelude.{ℕ, ℤ, pos, ◌-ℤ◌, nat_le, if◌then◌else◌}
use Rattle.git_field.specs.declared.TheConstants.{MODULUS}

-- the representative from -16001 to 16001
abbrev pub signed_of : ℕ → ℤ
signed_of n = if nat_le n 16001 then pos n else (pos n -ℤ pos MODULUS)
