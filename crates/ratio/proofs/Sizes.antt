-- The laws of a quotient by doubling and halving. Assumes nothing.
use mathlib.Core.Path.{◌≡◌, sym, ap, ◌∙◌}
use mathlib.Core.Logic.{◌⊎◌, inl, inr, ⊎_elim}
use Prim.Native.Nat.{ℕ, zero, suc, ◌+◌, ◌*◌, ◌/◌, ◌^◌, ◌≤◌, ◌<◌}
use native.Mathlib.Nat.{pow-succ', mul_assoc, mul-one, mul_left_comm, le-mul_of_pos_right, one-le-pow, add-mul, one-mul, div-eq_of_lt-le}
use native.Mathlib.Omega.{arith}

-- b doubled once more
pub twice : (b n : ℕ) → b * 2 ^ suc n ≡ 2 * (b * 2 ^ n)
twice b n = ap (λ (x : ℕ). b * x) (pow-succ' 2 n) ∙ mul_left_comm b 2 (2 ^ n)

-- where the way down stands: `whole`, which is b doubled n times, was tried last, and half of it is next
pub record Standing (a b part left q : ℕ) : Type 0 where
  pub n : ℕ
  pub whole : ℕ
  pub size : whole ≡ b * 2 ^ n
  pub half : part ≡ whole / 2
  pub all : a ≡ q * whole + left
  pub less : left < whole

-- that half is b doubled once less; or b itself was tried
halves : (b n whole part : ℕ) → 0 < b → whole ≡ b * 2 ^ n → part ≡ whole / 2
    → ((whole ≡ b) × (part < b)) ⊎ ((m : ℕ) × (part ≡ b * 2 ^ m) × (whole ≡ 2 * part) × (b ≤ part))
halves b zero whole part some e h = let w = e ∙ mul-one b in inl (w, omega arith)
halves b (suc m) whole part some e h =
    let w : whole ≡ 2 * (b * 2 ^ m) = e ∙ twice b m in
    let p : part ≡ b * 2 ^ m = omega arith in
    inr (m, p, omega arith, omega (arith, le-mul_of_pos_right b (one-le-pow m 2 (omega arith))))

-- the next try, where there is one: a has 2·q of the part, and what is left has room for one more or for none
pub record Next (a b part left q : ℕ) : Type 0 where
  pub m : ℕ
  pub size : part ≡ b * 2 ^ m
  pub some : b ≤ part
  pub all : a ≡ 2 * q * part + left
  pub most : left < 2 * part
  pub small : 2 * q ≤ 2 * q * part
  pub one_more : (2 * q + 1) * part ≡ 2 * q * part + part

pub next : (a b part left q : ℕ) → 0 < b → b ≤ part → Standing a b part left q → Next a b part left q
next a b part left q some more s = ⊎_elim (λ w. absurd (let l = w.1 in omega arith)) to (halves b s.n s.whole part some s.size s.half)
  where
    to : (m : ℕ) × (part ≡ b * 2 ^ m) × (s.whole ≡ 2 * part) × (b ≤ part) → Next a b part left q
    to (m, size, double, l) =
        record {
          m = m;
          size = size;
          some = l;
          all = s.all ∙ ap (λ (x : ℕ). q * x + left) double ∙ ap (λ (x : ℕ). x + left) (mul_left_comm q 2 part ∙ sym (mul_assoc 2 q part));
          most = let d = double in let t = s.less in omega arith;
          small = le-mul_of_pos_right (2 * q) (omega arith);
          one_more = add-mul (2 * q) 1 part ∙ ap (λ (x : ℕ). 2 * q * part + x) (one-mul part);
        }

-- where there is none, q is the quotient
pub last : (a b part left q : ℕ) → 0 < b → part < b → Standing a b part left q → q ≡ a / b
last a b part left q some less s = ⊎_elim to (λ w. absurd (let l = w.3 in omega arith)) (halves b s.n s.whole part some s.size s.half)
  where
    to : (s.whole ≡ b) × (part < b) → q ≡ a / b
    to (e, l) =
        let all : a ≡ q * b + left = s.all ∙ ap (λ (x : ℕ). q * x + left) e in
        let t = s.less in
        sym (div-eq_of_lt-le b (omega arith) (omega (arith, add-mul q 1 b, one-mul b)))
