-- `clock::Sampled::nearest` meets its contract: the lowest terms are those by which the definition computes. Assumes nothing.
use mathlib.Core.Path.{◌≡◌}
use Prim.Native.Nat.{ℕ, ◌*◌, ◌≤◌, ◌<◌}
use native.Mathlib.Nat.{mul-le-mul, mul-pos, div-le_self, le_trans}
use Rattle.ratio.specs.declared.Ratio.{Ratio}
use Rattle.ratio.specs.Lowest.{Reduces}
use Rattle.ratio.specs.Terms.{top_of, bottom_of}
use Rattle.ratio.proofs.Unique.{only}
use Rattle.ratio.proofs.Multiples.{u_some, v_some}
use Rattle.clock.specs.Numbered.{Clock, clock_known}
use Rattle.clock.specs.Bounds.{WithinBounds, num_most, reference_most, parts_most}
use Rattle.clock.specs.Found.{nearest_of}
use Rattle.clock.proofs.Sampled.nearest.Goals as goal
use Rattle.clock.proofs.Sampled.nearest.Goals.{After-reduced-ratio}

-- what is known of the ratio in lowest terms
record Known (num parts : ℕ) (r : Ratio) : Type 0 where
  pub top : r.u ≡ top_of num parts
  pub bottom : r.v ≡ bottom_of num parts
  pub u : (0 < r.u) × (r.u ≤ num_most)
  pub v : (0 < r.v) × (r.v ≤ parts_most)

known : (clock : Clock) (f : ℕ) (r : Ratio) → WithinBounds clock → 0 < f → f ≤ reference_most → Reduces clock.num (clock.den * f) r
    → Known clock.num (clock.den * f) r
known clock f r s p m l =
    let parts : ℕ = clock.den * f in
    let h : 0 < parts = mul-pos s.part p in
    let e = only clock.num parts r.u r.v h (l.some h) in
    record {
      top = e.0;
      bottom = e.1;
      u = (rw e.0 (u_some clock.num parts h s.some), rw e.0 (le_trans (div-le_self clock.num _) s.most));
      v = (rw e.1 (v_some clock.num parts h), rw e.1 (le_trans (div-le_self parts _) (mul-le-mul s.parts m)));
    }

ratio : (c : After-reduced-ratio) → let s = c.args.self in Known s.clock.num (s.clock.den * c.reference-reference.result) c.reduced-ratio.result
ratio c =
    let f = c.reference-reference.ensures.bounds in
    known (clock_known c.args.self.clock) c.reference-reference.result c.reduced-ratio.result c.args.self.within_bounds f.0 f.1 c.reduced-ratio.ensures

pub invariant_of-nearest : goal.invariant_of-nearest
invariant_of-nearest c =
    record { reference_bound = c.reference-reference.ensures.bounds.1; u_nonzero = (ratio c).u; v_nonzero = (ratio c).v }

pub returns : goal.returns
unfolding nearest_of
returns c =
    let r = ratio (goal.at.returns c).After-reduced-ratio in
    rw (c.nearest.ensures, r.top, r.bottom, c.reference-reference.ensures.value)
