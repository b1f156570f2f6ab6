-- The pairs that meet the equation are the multiples of the ratio in lowest terms. Assumes nothing.
use mathlib.Core.Path.{◌≡◌, sym, ap, ◌∙◌, subst}
use Prim.Native.Nat.{ℕ, ◌*◌, ◌/◌, ◌<◌, ◌∣◌}
use native.Mathlib.Nat.{dvd-mul_left, dvd-mul_right, dvd_of_mul-dvd-mul_left, mul-div_cancel', div-mul_cancel, eq_of_mul-eq-mul_left}
use native.Mathlib.Nat.{mul_assoc, mul_comm, mul_left_comm, one-mul, le_of_dvd, le-div_iff_mul-le}
use Rattle.ratio.specs.Terms.{divisor_of, top_of, bottom_of}
use Rattle.ratio.proofs.Divisor.{greatest, some, divides_scaled}

-- (g·u)·(k·v) is (g·v)·(k·u)
swapped : (g u k v : ℕ) → g * u * (k * v) ≡ g * v * (k * u)
swapped g u k v = simp (mul_assoc, mul_comm, mul_left_comm)

module _ (num den : ℕ) (h : 0 < den) where
  abbrev u : ℕ
  u = top_of num den

  abbrev v : ℕ
  v = bottom_of num den

  whole_u : divisor_of num den * u ≡ num
  whole_u = mul-div_cancel' (divisor_of num den) (greatest num den).left

  whole_v : divisor_of num den * v ≡ den
  whole_v = mul-div_cancel' (divisor_of num den) (greatest num den).right

  pub meets : (k : ℕ) → den * (k * u) ≡ num * (k * v)
  meets k =
      ap (λ (x : ℕ). x * (k * u)) (sym whole_v) ∙ sym (swapped (divisor_of num den) u k v) ∙ ap (λ (x : ℕ). x * (k * v)) whole_u

  -- if v divides N·u then v divides N
  pub divides : (n cts : ℕ) → den * cts ≡ num * n → v ∣ n
  divides n cts e =
      let g : ℕ = divisor_of num den in
      let p : den ∣ n * num = subst (λ (x : ℕ). den ∣ x) (e ∙ mul_comm num n) (dvd-mul_right den cts) in
      let q : den ∣ n * g = divides_scaled den n num den p (dvd-mul_left den n) in
      let r : g * v ∣ g * n = subst (λ (x : ℕ). x ∣ g * n) (sym whole_v) (subst (λ (x : ℕ). den ∣ x) (mul_comm n g) q) in
      dvd_of_mul-dvd-mul_left v (some num den h) r

  pub multiple : (n cts : ℕ) → den * cts ≡ num * n → (k : ℕ) × (n ≡ k * v) × (cts ≡ k * u)
  multiple n cts e =
      let k : ℕ = n / v in
      let en : n ≡ k * v = sym (div-mul_cancel v (divides n cts e)) in
      (k, en, eq_of_mul-eq-mul_left den h cts (k * u) (e ∙ ap (λ (x : ℕ). num * x) en ∙ sym (meets k)))

  pub v_some : 0 < v
  v_some = (le-div_iff_mul-le (some num den h)).1 (rw one-mul (le_of_dvd h (greatest num den).right))

  pub u_some : 0 < num → 0 < u
  u_some p = (le-div_iff_mul-le (some num den h)).1 (rw one-mul (le_of_dvd p (greatest num den).left))
