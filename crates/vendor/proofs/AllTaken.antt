-- What the machine takes of a list is a front of it, of which it takes all. Assumes nothing.
use mathlib.Core.Path.{◌≡◌, sym, ap, ◌∙◌}
use mathlib.Core.List.{List}
use Prim.Native.Nat.{ℕ}
use lib.ListN.{length, take}
use Rattle.std.proofs.lemmas.List.{take-map}
use Rattle.chip.specs.declared.Chip.{Chip}
use Rattle.chip.specs.Machine.{Write, packets, holds_of}
use Rattle.vendor.specs.Numbered.{writes_in}
use Rattle.vendor.specs.Vendor.{shortened}
use Rattle.vendor.specs.Found.{taken_by}
use Rattle.vendor.proofs.Faults.{Sound, taken_by_lem, shortened_front, shortened_twice}
use Rattle.vendor.proofs.Loops.{length_writes}

module _ (s : Chip) (z : Sound s) (list pairs : List (List ℕ)) (e : pairs ≡ take (taken_by (holds_of packets s.image) (writes_in list)) list) where
  pub front : writes_in pairs ≡ shortened (writes_in list) s
  front =
      ap writes_in e ∙ sym (take-map _ (taken_by (holds_of packets s.image) (writes_in list)) list)
      ∙ ap (λ (n : ℕ). take n (writes_in list)) (taken_by_lem (writes_in list) s z) ∙ shortened_front (writes_in list) s

  pub all_taken : shortened (writes_in pairs) s ≡ writes_in pairs
  all_taken = ap (λ (ws : List Write). shortened ws s) front ∙ shortened_twice (writes_in list) s ∙ sym front

-- where all are taken, what is taken is as long as the pairs
pub as_long : (pairs : List (List ℕ)) (s : Chip) → shortened (writes_in pairs) s ≡ writes_in pairs → length (shortened (writes_in pairs) s) ≡ length pairs
as_long pairs s e = ap length e ∙ length_writes pairs
