-- What the test of a wiring decides, and what it says of one that is accepted. Assumes nothing.
use mathlib.Core.Path.{◌≡◌, refl, ap}
use mathlib.Core.Logic.{inl, inr}
use mathlib.Core.Bool.{Bool, true, false, cond}
use Prim.Native.Nat.{ℕ, ◌<◌, ◌≤◌}
use native.Mathlib.Omega.{arith}
use lib.Dec.{eqb, ltb, leb}
use lib.ListN.{get_or-eq_default}
use borrow.Author.Tests.{ltb-true, ltb-false, leb-true}
use Rattle.lists.proofs.Decides.{Decides, equal, less, opposite, either, at_most, is_equal}
use Rattle.wiring.specs.declared.Kind.{Kind}
use Rattle.wiring.specs.declared.Wires.{Wires}
use Rattle.wiring.specs.declared.Wiring.{Wiring}
use Rattle.wiring.specs.declared.Wiring.TheVariants.{Board, Four, Twelve}
use Rattle.wiring.specs.Kinds.{kinds, no_kind, kind_of, most_sync}
use Rattle.wiring.specs.Wiring.{count_of, wires_of, Undrawn, SyncBeyond, WiringOutside}
use Rattle.wiring.specs.Tests.{undrawn, sync_beyond, wiring_outside}
use Rattle.wiring.specs.Named.{wiring_named}
use Rattle.wiring.specs.Theorems.{WiresFit, WiringRange}
use Rattle.wiring.proofs.Rows.{each}

is_undrawn : (k : Kind) (n : Wires) → Decides (undrawn k n) (Undrawn k n)
is_undrawn k n =
    either (less n.depth k.least)
    (either (less 3 n.depth) (either (less n.style k.first) (either (less k.last n.style) (less k.ways n.justification))))

is_beyond_lem : (most : ℕ) (n : Wires) → Decides (sync_beyond most n) (SyncBeyond most n)
is_beyond_lem most n =
    either (less most n.hplacement) (either (less most n.hduration) (either (less most n.vplacement) (less most n.vduration)))

pub is_outside : (w : Wiring) → Decides (wiring_outside w) (WiringOutside w)
unfolding wiring_outside
is_outside w =
    let k : Kind = kind_of (wires_of w).input in
    either (is_undrawn k (wires_of w)) (either (opposite (equal (count_of w) k.count)) (is_beyond_lem (most_sync k.count) (wires_of w)))

most_small : (count : ℕ) → most_sync count ≤ 1023
most_small count = go (eqb count 12)
  where
    go : (b : Bool) → cond b 1023 0 ≤ 1023
    go true = omega arith
    go false = omega arith

last_small : (input : ℕ) → (kind_of input).last ≤ 3
last_small input = leb-true _ _ (each (λ k. leb k.last 3) refl refl input)

ways_small : (input : ℕ) → (kind_of input).ways ≤ 3
ways_small input = leb-true _ _ (each (λ k. leb k.ways 3) refl refl input)

-- no depth fits an ID past the table
input_small : (input depth : ℕ) → (kind_of input).least ≤ depth → depth ≤ 3 → input < 16
unfolding kind_of
input_small input depth l m = go (ltb input 9) refl
  where
    go : (b : Bool) → ltb input 9 ≡ b → input < 16
    go true e = omega (arith, ltb-true input 9 e)
    go false e = absurd (omega (arith, ap (λ (k : Kind). k.least) (get_or-eq_default kinds no_kind (ltb-false input 9 e))))

module _ (w : Wiring) (inside : WiringOutside w → ⊥) where
  pub its_count : count_of w ≡ (kind_of (wires_of w).input).count
  its_count = is_equal _ _ (λ h. inside (inr (inl h)))

  sync_small : (v : ℕ) → (most_sync (kind_of (wires_of w).input).count < v → ⊥) → v < 1024
  sync_small v h = omega (arith, at_most _ v h, most_small (kind_of (wires_of w).input).count)

  depth_small : (wires_of w).depth ≤ 3
  depth_small = at_most 3 _ (λ h. inside (inl (inr (inl h))))

  pub wires_fit : WiresFit (wires_of w)
  wires_fit =
      record {
        input = input_small (wires_of w).input (wires_of w).depth (at_most _ _ (λ h. inside (inl (inl h)))) depth_small;
        depth = omega (arith, depth_small);
        style = omega (arith, at_most _ _ (λ h. inside (inl (inr (inr (inr (inl h)))))), last_small (wires_of w).input);
        justification = omega (arith, at_most _ _ (λ h. inside (inl (inr (inr (inr (inr h)))))), ways_small (wires_of w).input);
        hplacement = sync_small _ (λ h. inside (inr (inr (inl h))));
        hduration = sync_small _ (λ h. inside (inr (inr (inr (inl h)))));
        vplacement = sync_small _ (λ h. inside (inr (inr (inr (inr (inl h))))));
        vduration = sync_small _ (λ h. inside (inr (inr (inr (inr (inr h))))));
      }

pub its_name : (w : Wiring) → (WiringOutside w → ⊥) → wiring_named (wires_of w) ≡ w
unfolding kind_of
its_name Board h = refl
its_name (Four i d s j) h = rw (← its_count (Four i d s j) h)
its_name (Twelve i d s j a b c e) h = rw (← its_count (Twelve i d s j a b c e) h)

pub in_range_lem : WiringRange
in_range_lem = record { fits = wires_fit; named = its_name }
