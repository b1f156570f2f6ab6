-- Two's complement: there and back at every width, and what two bytes of a request say.
-- Assumes nothing.
use mathlib.Core.Path.{◌≡◌, refl, sym, ap, ◌∙◌}
use mathlib.Core.Logic.{◌⊎◌, inl, inr, ⊎_elim}
use mathlib.Core.Bool.{Bool, true, false, cond, ◌||◌}
use Prim.Native.Nat.{ℕ, suc, ◌+◌, ◌-◌, ◌*◌, ◌/◌, ◌%◌, ◌^◌, ◌<◌, ◌≤◌}
use native.Mathlib.Nat.{mod-eq_of_lt}
use native.Mathlib.Omega.{arith}
use lib.Dec.{ltb, leb}
use lib.IntN.{ℤ, pos, negsuc}
use lib.Signed.{le_z_yes}
use lib.Pow.{pow_pos}
use borrow.Author.Tests.{lt-ltb, le-ltb, le-leb, ltb-true, ltb-false, leb-true}
use Rattle.matrix.specs.Coefficient.{signed, low_thirteen, word, Spans}
use Rattle.matrix.specs.Twos.{bits_of, TwosComplement}
use Rattle.matrix.specs.Tests.{within, Sent, SaidByBytes}
use Rattle.matrix.proofs.Order.{pos_le, of_pos_le, negsuc_le, of_negsuc_le}

-- the two halves of the bits, at every width
low : (k bits : ℕ) → bits < 2 ^ k → signed k bits ≡ pos bits
low k bits h = simp (lt-ltb _ _ h)

high : (k bits : ℕ) → 2 ^ k ≤ bits → bits < 2 ^ suc k → signed k bits ≡ negsuc (2 ^ suc k - suc bits)
high k bits h l = simp (le-ltb _ _ h, lt-ltb _ _ l)

half : (m n : ℕ) → (m < n) ⊎ (n ≤ m)
half m n = go (ltb m n) refl
  where
    go : (t : Bool) → ltb m n ≡ t → (m < n) ⊎ (n ≤ m)
    go true e = inl (ltb-true m n e)
    go false e = inr (ltb-false m n e)

pub twos : (k : ℕ) → TwosComplement k
twos k = record {
  range = λ bits h. ⊎_elim
      (λ l. rw (low k bits l) (record { low = le_z_yes tt; high = pos_le (omega arith) }))
      (λ l. rw (high k bits l h) (record { low = negsuc_le (omega arith); high = le_z_yes tt }))
      (half bits (2 ^ k));
  back = λ bits h. ⊎_elim
      (λ l. rw (low k bits l) (mod-eq_of_lt h))
      (λ l. rw (high k bits l h) (negative bits h))
      (half bits (2 ^ k));
  again = again;
}
  where
    negative : (bits : ℕ) → bits < 2 ^ suc k → 2 ^ suc k - suc ((2 ^ suc k - suc bits) % 2 ^ suc k) ≡ bits
    negative bits h =
        let e : (2 ^ suc k - suc bits) % 2 ^ suc k ≡ 2 ^ suc k - suc bits = mod-eq_of_lt (omega arith) in
        rw e (omega arith)

    again : (z : ℤ) → Spans k z → signed k (bits_of k z) ≡ z
    again (pos n) s =
        let l : n ≤ 2 ^ k - 1 = of_pos_le s.high in
        let e : n % 2 ^ suc k ≡ n = mod-eq_of_lt (omega (arith, pow_pos k)) in
        rw e (low k n (omega (arith, pow_pos k)))
    again (negsuc n) s =
        let l : n ≤ 2 ^ k - 1 = of_negsuc_le s.low in
        let e : n % 2 ^ suc k ≡ n = mod-eq_of_lt (omega (arith, pow_pos k)) in
        rw e (high k (2 ^ suc k - suc n) (omega (arith, pow_pos k)) (omega (arith, pow_pos k)) ∙ ap negsuc (omega (arith, pow_pos k)))

pub inside : (w : ℕ) → within w ≡ true → (w < 4096) ⊎ (61440 ≤ w)
inside w e = go (ltb w 4096) refl e
  where
    go : (t : Bool) → ltb w 4096 ≡ t → (t || leb 61440 w) ≡ true → (w < 4096) ⊎ (61440 ≤ w)
    go true l e = inl (ltb-true w 4096 l)
    go false l e = inr (leb-true 61440 w e)

pub sent : (w : ℕ) → w < 65536 → Sent w
sent w h = record {
  range = (
    (λ e. ⊎_elim
        (λ l. rw (low 15 w (omega arith)) (record { low = le_z_yes tt; high = pos_le (omega arith) }))
        (λ l. rw (high 15 w (omega arith) h) (record { low = negsuc_le (omega arith); high = le_z_yes tt }))
        (inside w e)),
    λ s. ⊎_elim
        (λ l. let u : w ≤ 4095 = of_pos_le (rw (low 15 w l) at s.high) in simp (lt-ltb w 4096 (omega arith)))
        (λ l. let u : 65536 - suc w ≤ 4095 = of_negsuc_le (rw (high 15 w l h) at s.low) in
        simp (le-ltb w 4096 (omega arith), le-leb 61440 w (omega arith)))
        (half w 32768),
  );
  same = λ e. ⊎_elim
      (λ l. low 12 (low_thirteen w) (omega arith) ∙ ap pos (omega arith) ∙ sym (low 15 w (omega arith)))
      (λ l. high 12 (low_thirteen w) (omega arith) (omega arith) ∙ ap negsuc (omega arith) ∙ sym (high 15 w (omega arith) h))
      (inside w e);
}

pub carried : (c : ℕ) → c < 8192 → SaidByBytes c
carried c h = let r = go (ltb c 4096) refl in record { range = r.0; same = r.1 }
  where
    go : (b : Bool) → ltb c 4096 ≡ b
        → let w : ℕ = word (cond b (c / 256) (c / 256 + 224)) (c % 256) in (within w ≡ true) × (low_thirteen w ≡ c)
    go true e = let l = ltb-true c 4096 e in (rw (lt-ltb (c / 256 * 256 + c % 256) 4096 (omega arith)), omega arith)
    go false e =
        let l = ltb-false c 4096 e in
        let w : ℕ = (c / 256 + 224) * 256 + c % 256 in
        (rw (le-ltb w 4096 (omega arith), le-leb 61440 w (omega arith)), omega arith)
