-- The bytes of a list: they keep the image's read-only and free bits, so that the machine stores them as they are, and a list planned on an
-- image with the same such bits has the same bytes. Of a write a walk sees only what its step decides. Assumes nothing.
use mathlib.Core.Path.{◌≡◌, refl, sym, ap, subst, subst⁻¹, ◌∙◌}
use mathlib.Core.Bool.{Bool, true, false, cond}
use mathlib.Core.List.{List, [], ◌∷◌, map}
use Prim.Native.Nat.{ℕ, zero, suc, ◌+◌, ◌*◌, ◌<◌}
use native.Mathlib.Omega.{arith}
use lib.Dec.{eqb, lit<}
use lib.ListN.{get_or, set}
use borrow.Author.Tests.{eqb-true}
use Rattle.bits.specs.Merge.{merge, bit}
use Rattle.bits.proofs.Truth.{var, by, law}
use Rattle.bits.proofs.Laws.{merge_left, merge_right, merge_bit}
use Rattle.map.specs.Map as reg
use Rattle.registers.specs.Classes.{class_at, read_only, named, free, bits}
use Rattle.chip.specs.declared.Chip.{Chip}
use Rattle.chip.specs.Machine.{Write, ◌gets◌, Buffer, Group, packets, converter}
use Rattle.chip.specs.Write.{put, stored}
use Rattle.writes.specs.Steps.{Step, ◌raising◌}
use Rattle.writes.specs.List.{decided, byte, written}
use Rattle.cut.proofs.MovesOnlyAt.{nexts, walk, nexts_map, walk_map, acts}
use Rattle.cut.proofs.GroupStays.{store, only, next, quiet, view}

-- two bytes of register a with the same read-only and free bits
pub record Kept (a x y : ℕ) : Type 0 where
  pub reads : merge 8 (read_only a) x 0 ≡ merge 8 (read_only a) y 0
  pub frees : merge 8 (free a) x 0 ≡ merge 8 (free a) y 0

kept_self : {a x : ℕ} → Kept a x x
kept_self = record { reads = refl; frees = refl }

merge_swap : (m x y z : ℕ) → merge 8 m x 0 ≡ merge 8 m y 0 → merge 8 m x z ≡ merge 8 m y z
merge_swap m x y z h = sym (merge_left 8 m x 0 z) ∙ ap (λ (t : ℕ). merge 8 m t z) h ∙ merge_left 8 m y 0 z

merge_through : (f r a b c : ℕ) → merge 8 f (merge 8 r a (merge 8 f a b)) c ≡ merge 8 f a c
merge_through f r a b c =
    law (by (var 0) (by (var 1) (var 2) (by (var 0) (var 2) (var 3))) (var 4)) (by (var 0) (var 2) (var 4)) 8 (f ∷ r ∷ a ∷ b ∷ c ∷ []) refl

byte_kept : (a : ℕ) {x y : ℕ} (w : ℕ) → Kept a x y → byte a x w ≡ byte a y w
unfolding byte
byte_kept a {x} {y} w k = merge_swap (read_only a) x y _ k.reads
    ∙ ap (λ (t : ℕ). merge 8 (read_only a) y t) (merge_swap (free a) x y _ k.frees)

kept_byte : (a x w : ℕ) → Kept a (byte a x w) x
unfolding byte
kept_byte a x w = record { reads = merge_left 8 (read_only a) x _ 0; frees = merge_through (free a) (read_only a) x _ 0 }

byte_stored : (a : ℕ) {x y : ℕ} (w : ℕ) → Kept a x y → merge 8 (read_only a) x (byte a y w) ≡ byte a y w
unfolding byte
byte_stored a {x} {y} w k = merge_right 8 (read_only a) x y _ ∙ merge_swap (read_only a) x y _ k.reads

-- what stands at b after a store at a: the stored byte, or what stood there
pub at_set : (P : ℕ → Type 0) (l : List ℕ) (a b v : ℕ) → (b ≡ a → P v) → P (get_or l b 0) → P (get_or (set l a v) b 0)
at_set P [] a b v f p = p
at_set P (x ∷ xs) zero zero v f p = f refl
at_set P (x ∷ xs) zero (suc b) v f p = p
at_set P (x ∷ xs) (suc a) zero v f p = p
at_set P (x ∷ xs) (suc a) (suc b) v f p = at_set P xs a b v (λ e. f (ap suc e)) p

-- ---- the bits that a step decides

byte_bit : (a j old wanted : ℕ) → j < 8
    → bit j (byte a old wanted)
    ≡ cond (eqb (bit j (read_only a)) 1) (bit j old)
    (cond (eqb (bit j (free a)) 1) (bit j old) (cond (eqb (bit j (named a)) 1) (bit j wanted) (bit j (bits a))))
unfolding byte
byte_bit a j old wanted h = rw (merge_bit 8 j (read_only a) _ _ h, merge_bit 8 j (free a) _ _ h, merge_bit 8 j (named a) _ _ h)

-- the hold and mute bits of a list's byte are the step's; GC's hold is the image's
packets_byte : (old x wanted : ℕ) → bit 4 old ≡ 0
    → only packets.groups (byte reg.infoframe_update old (merge 8 0x60 x wanted)) ≡ only packets.groups (32 * bit 5 x + 64 * bit 6 x)
unfolding class_at
packets_byte old x wanted h =
    let b : ℕ = byte reg.infoframe_update old (merge 8 0x60 x wanted) in
    let b4 : bit 4 b ≡ bit 4 old = byte_bit reg.infoframe_update 4 old _ (lit< tt) in
    let b5 : bit 5 b ≡ bit 5 x = byte_bit reg.infoframe_update 5 old _ (lit< tt) ∙ merge_bit 8 5 0x60 x wanted (lit< tt) in
    let b6 : bit 6 b ≡ bit 6 x = byte_bit reg.infoframe_update 6 old _ (lit< tt) ∙ merge_bit 8 6 0x60 x wanted (lit< tt) in
    rw (b4, b5, b6, h) (clean_holds (bit 5 x) (bit 6 x) (omega arith) (omega arith))
  where
    clean_holds : (a b : ℕ) → a < 2 → b < 2 → 64 * b + (32 * a + (16 * 0 + 0)) ≡ only packets.groups (32 * a + 64 * b)
    clean_holds a b h k = omega arith

converter_byte : (old x wanted : ℕ)
    → only converter.groups (byte reg.coefficient_update old (merge 8 0x20 x wanted))
    ≡ only converter.groups (32 * bit 5 x + 64 * bit 6 x)
unfolding class_at
converter_byte old x wanted =
    let b : ℕ = byte reg.coefficient_update old (merge 8 0x20 x wanted) in
    let b5 : bit 5 b ≡ bit 5 x = byte_bit reg.coefficient_update 5 old _ (lit< tt) ∙ merge_bit 8 5 0x20 x wanted (lit< tt) in
    rw b5 (clean_hold (bit 5 x) (bit 6 x) (omega arith))
  where
    clean_hold : (a b : ℕ) → a < 2 → 32 * a + 0 ≡ only converter.groups (32 * a + 64 * b)
    clean_hold a b h = omega arith

pub mute_byte : (old x wanted : ℕ) → let b : ℕ = byte reg.av_mute old (merge 8 0xC0 x wanted) in bit 6 b + 2 * bit 7 b ≡ bit 6 x + 2 * bit 7 x
unfolding class_at
mute_byte old x wanted =
    let b : ℕ = byte reg.av_mute old (merge 8 0xC0 x wanted) in
    let b6 : bit 6 b ≡ bit 6 x = byte_bit reg.av_mute 6 old _ (lit< tt) ∙ merge_bit 8 6 0xC0 x wanted (lit< tt) in
    let b7 : bit 7 b ≡ bit 7 x = byte_bit reg.av_mute 7 old _ (lit< tt) ∙ merge_bit 8 7 0xC0 x wanted (lit< tt) in
    rw (b6, b7)

-- a step with no more than its hold bits
abbrev pub clean : Step → Write
clean i = i.register gets (32 * bit 5 i.raised + 64 * bit 6 i.raised)

pub place : (want : ℕ → ℕ) (image : List ℕ) (i : Step) → (written want image i).address ≡ i.register
unfolding written
place want image i = refl

-- of a list's write a walk sees what it sees of the step
unfoldable pub Seen : (ℕ → ℕ) → List ℕ → Buffer → Type 0
Seen want image B = (n : ℕ) (i : Step) → next B n (written want image i) ≡ next B n (clean i)

seen : (want : ℕ → ℕ) (image : List ℕ) (B : Buffer)
    → ((x : ℕ) → only B.groups (written want image (B.register raising x)).value
    ≡ only B.groups (clean (B.register raising x)).value) → Seen want image B
unfolding Seen written
seen want image B h n i = go (eqb i.register B.register) refl
  where
    go : (r : Bool) → eqb i.register B.register ≡ r
        → cond r (only B.groups (written want image i).value) n ≡ cond r (only B.groups (clean i).value) n
    go true p = subst⁻¹ (λ (a : ℕ). only B.groups (written want image (a raising i.raised)).value ≡ only B.groups (clean i).value)
        (eqb-true _ _ p) (h i.raised)
    go false p = refl

pub packets_seen : (want : ℕ → ℕ) (image : List ℕ) → bit 4 (get_or image reg.infoframe_update 0) ≡ 0 → Seen want image packets
unfolding written decided
packets_seen want image h = seen want image packets (λ x. packets_byte _ x _ h)

pub converter_seen : (want : ℕ → ℕ) (image : List ℕ) → Seen want image converter
unfolding written decided
converter_seen want image = seen want image converter (λ x. converter_byte _ x _)

module _ (want : ℕ → ℕ) (image : List ℕ) (B : Buffer) (g : Group) (see : Seen want image B) where
  pub walk_seen : (may : Bool) (n : ℕ) (is : List Step)
      → walk (view B g) may n (map (written want image) is) ≡ walk (view B g) may n (map clean is)
  unfolding Seen written
  walk_seen = walk_map (view B g) (written want image) clean see (λ n i. ap (λ (m : ℕ). quiet g n m i.register) (see n i))

  pub nexts_seen : (n : ℕ) (is : List Step) → nexts (view B g) n (map (written want image) is) ≡ nexts (view B g) n (map clean is)
  unfolding Seen written
  nexts_seen = nexts_map (view B g) (written want image) clean see (λ n i. ap (λ (m : ℕ). quiet g n m i.register) (see n i))

-- ---- two images with the same read-only and free bits everywhere

unfoldable pub Agree : List ℕ → List ℕ → Type 0
Agree image image₀ = (a : ℕ) → Kept a (get_or image a 0) (get_or image₀ a 0)

pub agree_self : (image : List ℕ) → Agree image image
unfolding Agree
agree_self image a = kept_self

pub agree_trans : (x y z : List ℕ) → Agree x y → Agree y z → Agree x z
unfolding Agree
agree_trans x y z p q a = record { reads = (p a).reads ∙ (q a).reads; frees = (p a).frees ∙ (q a).frees }

pub agree_free : (x y : List ℕ) → Agree x y → (a : ℕ) → merge 8 (free a) (get_or x a 0) 0 ≡ merge 8 (free a) (get_or y a 0) 0
unfolding Agree
agree_free x y k a = (k a).frees

pub written_agree : (want : ℕ → ℕ) (image image₀ : List ℕ) (i : Step) → Agree image image₀ → written want image i ≡ written want image₀ i
unfolding written Agree
written_agree want image image₀ i k = ap (λ (v : ℕ). i.register gets v) (byte_kept i.register _ (k i.register))

module _ (want : ℕ → ℕ) (image₀ : List ℕ) where
  -- the machine stores a list's bytes as they are
  pub written_stored : (i : Step) (s : Chip) → Agree s.image image₀
      → stored (written want image₀ i).address (written want image₀ i).value s.image ≡ (written want image₀ i).value
  unfolding stored written Agree
  written_stored i s k = byte_stored i.register _ (k i.register)

  pub agree_store : (i : Step) (s : Chip) → Agree s.image image₀ → Agree (store (written want image₀ i) s).image image₀
  unfolding Agree written put
  agree_store i s k a =
      at_set (λ (x : ℕ). Kept a x (get_or image₀ a 0)) s.image i.register a (written want image₀ i).value
      (λ e. subst (λ (b : ℕ). Kept b (written want image₀ i).value (get_or image₀ b 0)) (sym e)
      (kept_byte i.register (get_or image₀ i.register 0) _)) (k a)

  pub agree_acts : (is : List Step) (s : Chip) → Agree s.image image₀ → Agree (acts store (map (written want image₀) is) s).image image₀
  agree_acts [] s k = k
  agree_acts (i ∷ is) s k = agree_acts is (store (written want image₀ i) s) (agree_store i s k)
