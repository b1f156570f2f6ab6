-- The bytes that the code makes, group by group, are those that the table places. Assumes nothing.
use mathlib.Core.Path.{◌≡◌, refl, ap₂}
use mathlib.Core.List.{List, [], ◌∷◌, ◌++◌, map}
use Prim.Native.Nat.{ℕ, ◌+◌, ◌*◌, ◌/◌}
use native.Mathlib.Nat.{add-zero, zero-add, mul-one, add_assoc}
use native.Mathlib.Omega.{arith}
use lib.ListN.{get_or, set, drop}
use Rattle.wiring.specs.declared.Wires.{Wires}
use Rattle.wiring.specs.Wiring.{wires_of}
use Rattle.video.specs.declared.Video.{Video}
use Rattle.video.specs.Fits.{VideoFits}
use Rattle.clock.specs.Numbered.{Pair}
use Rattle.matrix.specs.declared.Matrix.{Matrix}
use Rattle.frames.specs.Frames.{avi_frame}
use Rattle.chip.specs.Machine.{Write, ◌gets◌}
use Rattle.writes.specs.Rows.{from}
use Rattle.sound.specs.declared.Sound.{Sound}
use Rattle.request.specs.declared.Request.{Request}
use Rattle.plan.specs.Places.{audio_packet, coefficient_places, places}
use Rattle.plan.specs.Wanted.{placed_at, laid_out, laid_bytes, matrix_registers, frame_registers, wiring_registers}
use Rattle.plan.proofs.Numbers.{color, shape, range, again}

-- one register's byte, and the others
infixr 20 ◌▹◌
◌▹◌ : {a x y : ℕ} {ws vs : List Write} → x ≡ y → ws ≡ vs → (a gets x ∷ ws) ≡ (a gets y ∷ vs)
◌▹◌ {a = a} e f = ap₂ (λ (x : ℕ) (ws : List Write). a gets x ∷ ws) e f

-- the numbers of the rows of some coefficients, wherever the first one stands
abbrev pub numbers : List ℕ → ℕ → ℕ → List ℕ
numbers k i count = map (λ f. f.number) (coefficient_places 0x18 k i count)

module _ (r : Request) (p : Pair) where
  abbrev s : Sound
  s = r.sound

  abbrev v : Video
  v = r.video

  abbrev w : Wires
  w = wires_of r.wiring

  pub wiring_made : laid_bytes 0x30 (map (λ a. placed_at a (places r p)) (from 0x30 5)) ++ 0x48 gets (w.justification * 8) ∷ [] ≡ laid_out wiring_registers (places r p)
  wiring_made = refl ▹ refl ▹ refl ▹ refl ▹ refl ▹ omega arith ▹ refl

  pub frames_made : VideoFits v
      → laid_bytes 0x52 (drop 1 (avi_frame v)) ++ laid_bytes 0x70 (drop 1 (audio_packet s)) ≡ laid_out frame_registers (places r p)
  unfolding avi_frame
  frames_made f =
      let c = color v f in
      let m = shape v f in
      let q = range v f in
      refl ▹ refl ▹ omega arith ▹
      omega arith ▹ omega (arith, c, m) ▹ omega (arith, q) ▹ omega arith ▹ omega (arith, again v) ▹
      refl ▹ refl ▹ refl ▹ refl ▹ refl ▹ refl ▹ refl ▹ refl ▹
      refl ▹ refl ▹ omega arith ▹ omega arith ▹ refl ▹ refl ▹ omega arith ▹ refl

  pub matrix-made :
      let m : Matrix = r.matrix in
      set (numbers m.coefficients 0 12) 0 (m.on * 128 + m.mode * 32 + get_or m.coefficients 0 0 / 256) ≡ map (λ a. placed_at a (places r p)) matrix_registers
  matrix-made = simp (add-zero, zero-add, mul-one, add_assoc)
