-- What the views answer, in the paper's numbers: the number of a refusal, 0 for none, and zeros beside one.
-- The number is that of `refusal_number`: no two refusals have one (`refusals::told_apart`).
use Rattle.std.specs.Prelude.{cond, ℕ, Result}
use Rattle.refusals.specs.declared.Refusal.{Refusal}
use Rattle.refusals.specs.Numbered.{told}
use Rattle.views.specs.declared.view.Place.{Place}

-- the count of bytes written
pub record Count : Type 0 where
  pub refusal : ℕ
  pub count : ℕ

abbrev pub count_told : Result ℕ Refusal → Count
count_told = told (λ count. record { refusal = 0; count = count }) (λ number. record { refusal = number; count = 0 })

-- the part of a slice that is sent: held 0, of the image; 1, of the packet buffer
pub record Part : Type 0 where
  pub refusal : ℕ
  pub held : ℕ
  pub start : ℕ
  pub len : ℕ

abbrev pub part_told : Result Place Refusal → Part
part_told =
    told (λ p. record { refusal = 0; held = cond p.held 1 0; start = p.start; len = p.len })
    (λ number. record { refusal = number; held = 0; start = 0; len = 0 })

-- the mute bits: 1 muted, 2 open, 0 and 3 neither
pub record Mute : Type 0 where
  pub refusal : ℕ
  pub mute : ℕ

abbrev pub mute_told : Result ℕ Refusal → Mute
mute_told = told (λ mute. record { refusal = 0; mute = mute }) (λ number. record { refusal = number; mute = 0 })
