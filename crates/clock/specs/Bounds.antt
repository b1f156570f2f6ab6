-- Bounds, so that no product overflows: the one place where the largest numbers stand. No promise rests on them: they are what the private
-- types of `clock` hold to.
use Rattle.std.specs.Prelude.{◌≡◌, ℕ, ◌*◌, ◌<◌, ◌≤◌}
use Rattle.std.specs.Int.{◌∣◌}
use Rattle.clock.specs.Numbered.{Clock}
use Rattle.clock.specs.Clocks.{limit, tmds_bottom}

-- a clock's two numbers: what divides it is at most the fraction's bottom, and the clock is at most the limit
abbrev pub den_most : ℕ
den_most = tmds_bottom 1

abbrev pub num_most : ℕ
num_most = limit * den_most

-- the rate in Hz; 128·fs
abbrev pub rate_most : ℕ
rate_most = 192000

abbrev pub reference_most : ℕ
reference_most = 128 * rate_most

-- what divides clock / (128·fs)
abbrev pub parts_most : ℕ
parts_most = den_most * reference_most

-- a clock that is answered; it is in lowest terms too
pub record WithinBounds (clock : Clock) : Type 0 where
  pub some : 0 < clock.num
  pub most : clock.num ≤ num_most
  pub part : 0 < clock.den
  pub parts : clock.den ≤ den_most
  pub lowest : (d : ℕ) → d ∣ clock.num → d ∣ clock.den → d ≡ 1
